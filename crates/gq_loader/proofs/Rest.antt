-- The load, as far as some tables were read, and what is left of it.
use Rattle.std.proofs.Common.{◌≡◌, ℕ, ◌+◌, ◌<◌, List, [], ◌∷◌, length, drop, get_or, Some, None, Ok}
use Rattle.gq_base.specs.Results.{and_then}
use Rattle.std.proofs.Common.{Err, refl, ◌∙◌, drop-cons, add-one}
use Rattle.std.specs.Prelude.{IfSome, All}
use Rattle.std.specs.declared.option.Option.{Option}
use Rattle.std.specs.declared.result.Result.{Result}
use Rattle.std.proofs.lemmas.Option.{IfSome_then}
use Rattle.std.proofs.lemmas.List.Elements.{All-weaker}
use Rattle.gq_base.specs.Catalogs.{Tables}
use Rattle.gq_base.specs.Plain.{Graph}
use Rattle.gq_io.specs.Outside.{Names}
use Rattle.gq_manifest.specs.Manifests.{IsNumberOf}
use Rattle.gq_manifest.specs.declared.manifest.TableNumber.{TableNumber}
use Rattle.gq_manifest.specs.declared.manifest.TableNumber.TheVariants as table
use Rattle.gq_loader.specs.Answers.{Answers, Refuses}
use Rattle.gq_loader.specs.steps.Answers.{AsMany, Leaves}
use Rattle.gq_loader.specs.Loads.{beginning_of, load_of, take_table, take_tables}
use Rattle.gq_loader.specs.declared.limits.Limits.{Limits}
use Rattle.gq_loader.specs.declared.loading.Beginning.{Beginning}
use Rattle.gq_loader.specs.declared.refusal.LoadRefusal.{LoadRefusal}
use Rattle.gq_loader.specs.declared.refusal.LoadRefusal.TheVariants as refusal
use Rattle.gq_loader.specs.declared.tables.Loading.{Loading}

if_both : {X : Type 0} {P Q R : X → Type 0} (o : Option X) → IfSome o P → IfSome o Q
    → ((x : X) → P x → Q x → R x) → IfSome o R
if_both None p q f = tt
if_both (Some x) p q f = f x p q

-- what is meant of a part is meant of the whole, where the refusal is one of the files
refuses_on : {S T : Type 0} (held : Option Names) (part : Names → Result S LoadRefusal)
    (whole : Names → Result T LoadRefusal) (e : LoadRefusal)
    → (IfSome held (λ files. part files ≡ Err e) → IfSome held (λ files. whole files ≡ Err e))
    → Refuses held part e → Refuses held whole e
refuses_on held part whole (refusal.ReadFault name) on h = tt
refuses_on held part whole refusal.Memory on h = tt
refuses_on held part whole e on h = on h

-- the numbers are still those of tables
number_stays : (old new : Tables) (number : TableNumber) → AsMany old new → IsNumberOf old number
    → IsNumberOf new number
number_stays old new (table.Node number) same h = rw same.nodes h
number_stays old new (table.Rel number) same h = rw same.rels h

pub numbers_stay : (old new : Tables) (order : List TableNumber) → AsMany old new
    → All (IsNumberOf old) order → All (IsNumberOf new) order
numbers_stay old new order same h = All-weaker (IsNumberOf old) (IsNumberOf new)
    (λ number k. number_stays old new number same k) order h

-- the graph that the tables in this order give, after those that were read
abbrev pub rest_of : Names → Limits → Loading → List TableNumber → Result Graph LoadRefusal
rest_of files limits loading order = and_then (take_tables files limits loading order)
    (λ after. Ok after.graph)

module _ (name : List ℕ) (limits : Limits) (held : Option Names) where
  -- the load is what is left of it
  pub record Meant (loading : Loading) (order : List TableNumber) : Type 0 where
    pub is : IfSome held (λ files. load_of name files limits ≡ rest_of files limits loading order)

  pub meant_first : (b : Beginning) → Answers held (beginning_of name) (Ok b)
      → Meant b.loading b.order
  meant_first b h = record { is = IfSome_then held h (λ files e. rw e refl) }

  next_of : (loading after : Loading) (next : TableNumber) (more : List TableNumber)
      → IfSome held (λ files. take_table files limits loading next ≡ Ok after)
      → Meant loading (next ∷ more) → Meant after more
  next_of loading after next more step m =
      record { is = if_both held m.is step (λ files e k. e ∙ rw k refl) }

  stop_of : (loading : Loading) (next : TableNumber) (more : List TableNumber) (e : LoadRefusal)
      → Refuses held (λ files. take_table files limits loading next) e → Meant loading (next ∷ more)
      → Refuses held (λ files. load_of name files limits) e
  stop_of loading next more e step m =
      refuses_on held (λ files. take_table files limits loading next)
      (λ files. load_of name files limits) e
      (λ refused. if_both held m.is refused (λ files is k. is ∙ rw k refl)) step

  -- the next table was read
  pub meant_next : (loading after : Loading) (order : List TableNumber) (at : ℕ) (d : TableNumber)
      (now : Option Names)
      → at < length order → now ≡ held → IfSome now
      (λ files. take_table files limits loading (get_or order at d) ≡ Ok after)
      → Meant loading (drop at order) → Meant after (drop (at + 1) order)
  meant_next loading after order at d now h same step m =
      let cut : drop at order ≡ get_or order at d ∷ drop (at + 1) order =
      rw (add-one at) (drop-cons order at d h) in
      next_of loading after (get_or order at d) (drop (at + 1) order) (rw same at step)
      (rw cut at m)

  -- the next table was refused
  pub meant_stops : {T : Type 0} (loading after : Loading) (order : List TableNumber) (at : ℕ)
      (d : TableNumber)
      (now : Option Names) (e : LoadRefusal) (q : Result T LoadRefusal) (r : Result Graph LoadRefusal)
      → at < length order → now ≡ held
      → Leaves now (λ files. take_table files limits loading (get_or order at d)) after q
      → q ≡ Err e → r ≡ Err e
      → Meant loading (drop at order) → Answers held (λ files. load_of name files limits) r
  meant_stops loading after order at d now e q r h same step was same_r m =
      let cut : drop at order ≡ get_or order at d ∷ drop (at + 1) order =
      rw (add-one at) (drop-cons order at d h) in
      let k = rw (was, same) at step in
      rw same_r (stop_of loading (get_or order at d) (drop (at + 1) order) e k (rw cut at m))

  -- all tables were read
  pub meant_whole : (loading : Loading) (order : List TableNumber) → order ≡ []
      → Meant loading order → Answers held (λ files. load_of name files limits) (Ok loading.graph)
  meant_whole loading order none m = let k = rw none at m in k.is

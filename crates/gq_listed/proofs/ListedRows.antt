-- A push to rows that are held as cells is one to a table.
use Rattle.std.proofs.Common.{◌≡◌, ◌∙◌, ◌+◌, ◌<◌, ◌≤◌, ◌^◌, Bool, true, false, cond, List, [], ◌∷◌, ◌++◌, length, Option, Some, None, Result, Ok, Err, refl, sym, ap, ap₂, subst, arith, length-append, append-nil}
use Rattle.std.specs.Prelude.{flat_map}
use Rattle.std.proofs.lemmas.Grind.{flat_map-append}
use Rattle.std.proofs.lemmas.List.{length-map}
use Rattle.std.proofs.lemmas.List.Elements.{All-append, All-cons}
use Rattle.gq_base.specs.Values.{Val}
use Rattle.gq_eval.specs.Asked.{Asked, answers, asked_of}
use Rattle.gq_expr.specs.Operators.{Outcome}
use Rattle.gq_expr.specs.Reading as reading
use Rattle.gq_expr.specs.declared.Fault.{Fault}
use Rattle.gq_plan.specs.Outcomes.{Row, key_meanings, meanings_of, then_with, values}
use Rattle.gq_plan.specs.declared.bound.Bound.{Bound}
use Rattle.gq_plan.specs.declared.typed.Typed.{Typed}
use Rattle.gq_kept.specs.Tables.{HoldsRows, IsSized, Pushes, StandsForSome, is_full_table, numbered, outcome_admitted, outcome_numbered}
use Rattle.gq_kept.specs.declared.form.Form.{Form}
use Rattle.gq_kept.specs.declared.form.Form.TheVariants as form
use Rattle.gq_eval.specs.Judged.{judged_after}
use Rattle.gq_eval.specs.declared.judging.Verdict.TheVariants as verdict
use Rattle.gq_listed.specs.declared.listed.Asked as question
use Rattle.gq_listed.specs.declared.listed.Listed.{Listed}
use Rattle.gq_kept.specs.declared.refusal.More.{More}
use Rattle.gq_kept.specs.declared.refusal.RowRefusal.{RowRefusal}
use Rattle.gq_kept.specs.declared.refusal.RowRefusal.TheVariants as refusal
use Rattle.gq_project.specs.Judged.{values_after}
use Rattle.gq_kept.specs.Forms.{Has, HasFull, HasMore, HasPast, IsNoFault, PushesHeld, TellsFull, more_rows}
use Rattle.gq_listed.specs.Listed.{AddedIn, AddsIn, IsListing, IsPlain, PutsRow, held_in, outcome_in, outcome_within, table_in}
use Rattle.gq_kept.proofs.Forms.{stands_by}
use Rattle.gq_project.proofs.Looking.{appended, met, when_column}
use Rattle.gq_project.proofs.Ready.{columns_mean}
use Rattle.gq_kept.proofs.Standings.{pushes, room_of}

-- ---- a row is added

module _ (q : question.Asked) (here : reading.Assignment) (asks : List Asked) (are : asks ≡ asked_of q.graph.now q.bound.now.columns) (keyless : q.bound.now.keys ≡ [])
    (is_met : verdict.Pass ≡ judged_after verdict.Pass (meanings_of q.graph.now here (numbered q.bound.now.conjuncts q.late.now))) where
  abbrev columns : List Outcome
  columns = meanings_of q.graph.now here q.bound.now.columns

  no_keys : values (key_meanings q.graph.now here q.bound.now.keys) ≡ Ok []
  no_keys = ap (λ ks. values (key_meanings q.graph.now here ks)) keyless

  pub kept : (old new : Listed) → PutsRow (answers here asks) old.cells.values new.cells.values (Ok tt) → new.count ≡ old.count + 1 → old.count < q.limit → AddedIn q (outcome_in q here) old new
  kept old new p count room =
      let a = appended columns old.cells.values new.cells.values (ap (values_after old.cells.values) (sym (columns_mean q.graph.now here q.bound.now.columns asks are)) ∙ p) in
      record {
        row = record { columns = a.more; keys = [] };
        is = met q.graph.now q.bound.now (numbered q.bound.now.conjuncts q.late.now) here is_met
            ∙ ap (λ v. Some (then_with v (λ vs. then_with (values (key_meanings q.graph.now here q.bound.now.keys)) (λ ks. Ok (record { columns = vs; keys = ks }))))) a.is
            ∙ ap (λ v. Some (then_with v (λ ks. Ok (record { columns = a.more; keys = ks })))) no_keys;
        columns = a.whole;
        keys = refl;
        wide = a.size ∙ length-map q.bound.now.columns _;
        count = count;
        room = room;
      }

  pub many : (old : Listed) (new : List Val) → PutsRow (answers here asks) old.cells.values new (Ok tt) → (row : Row) × (outcome_in q here ≡ Some (Ok row))
  many old new p =
      let a = appended columns old.cells.values new (ap (values_after old.cells.values) (sym (columns_mean q.graph.now here q.bound.now.columns asks are)) ∙ p) in (
        record { columns = a.more; keys = [] },
        met q.graph.now q.bound.now (numbered q.bound.now.conjuncts q.late.now) here is_met
            ∙ ap (λ v. Some (then_with v (λ vs. then_with (values (key_meanings q.graph.now here q.bound.now.keys)) (λ ks. Ok (record { columns = vs; keys = ks }))))) a.is
            ∙ ap (λ v. Some (then_with v (λ ks. Ok (record { columns = a.more; keys = ks })))) no_keys,
      )

  pub failed : (old new : Listed) (vs : List Val) (r : RowRefusal) → PutsRow (answers here asks) old.cells.values vs (Err r) → AddsIn q (outcome_in q here) old new (Err r)
  failed old new vs (refusal.Fault f) p =
      when_column q.graph.now q.bound.now (numbered q.bound.now.conjuncts q.late.now) here f old.cells.values is_met (ap (values_after old.cells.values) (sym (columns_mean q.graph.now here q.bound.now.columns asks are)) ∙ p)
  failed old new vs (refusal.TooManyRows l) p = absurd p
  failed old new vs (refusal.Memory why) p = tt

-- ---- what is held

module _ (q : question.Asked) (listing : IsListing q) where
  abbrev b : Bound
  b = q.bound.now

  holds_more : (old new : Listed) (o : Option (Result Row Fault)) (a : AddedIn q o old new) (rows : List Row) → HoldsRows (length b.columns) (length b.keys) rows (held_in old) → HoldsRows (length b.columns) (length b.keys) (rows ++ a.row ∷ []) (held_in new)
  holds_more old new o a rows h = record {
    columns = a.columns ∙ ap₂ (λ xs ys. xs ++ ys) h.columns (sym (append-nil a.row.columns)) ∙ sym (flat_map-append (λ (r : Row). r.columns) rows (a.row ∷ []));
    keys = h.keys ∙ sym (append-nil (flat_map (λ (r : Row). r.keys) rows)) ∙ ap (λ ks. flat_map (λ (r : Row). r.keys) rows ++ ks) (sym (append-nil a.row.keys ∙ a.keys)) ∙ sym (flat_map-append (λ (r : Row). r.keys) rows (a.row ∷ []));
    count = omega (arith, a.count, h.count, length-append rows (a.row ∷ []));
    sized = All-append (IsSized (length b.columns) (length b.keys)) rows (a.row ∷ []) h.sized
        (All-cons (IsSized (length b.columns) (length b.keys)) a.row [] (a.wide, ap length a.keys ∙ sym (ap length listing.keyless)) (λ k d lt. absurd (omega (arith, lt))));
  }

  has_more : (f : Form) → IsPlain f → (old new : Listed) (o : Option (Result Row Fault)) → (HasFull f (held_in old) → ⊥) → AddedIn q o old new → HasMore f b q.limit o (held_in old) (held_in new)
  has_more form.All plain old new o room a rows k =
      subst (λ l. Has form.All b q.limit l (held_in new)) (ap (more_rows rows) (sym a.is))
      (holds_more old new o a rows k.0, omega (arith, a.room, k.0.count, length-append rows (a.row ∷ [])))
  has_more (form.First n) plain old new o room a rows k =
      subst (λ l. Has (form.First n) b q.limit l (held_in new)) (ap (more_rows rows) (sym a.is))
      (holds_more old new o a rows k.0, omega (arith, a.room, k.0.count, length-append rows (a.row ∷ [])), omega (arith, room, k.0.count, length-append rows (a.row ∷ [])))
  has_more (form.Top n) plain old new o room a rows k = absurd plain
  has_more form.Classes plain old new o room a rows k = absurd plain

  past : (f : Form) → IsPlain f → (old : Listed) (row : Row) → q.limit ≤ old.count → HasPast f b q.limit row (held_in old)
  past form.All plain old row le rows k = omega (arith, le, k.0.count, length-append rows (row ∷ []))
  past (form.First n) plain old row le rows k = omega (arith, le, k.0.count, length-append rows (row ∷ []))
  past (form.Top n) plain old row le rows k = absurd plain
  past form.Classes plain old row le rows k = absurd plain

  -- what is added is a push to what is held
  held_ok : (old new : Listed) (o : Option (Result Row Fault)) (added : Bool) (m : More) → (HasFull q.form (held_in old) → ⊥) → AddsIn q o old new (Ok added) → TellsFull q.form m (held_in new) → PushesHeld q.form b q.limit o (held_in old) (held_in new) (Ok m)
  held_ok old new o true m room a tells = (subst IsNoFault (sym a.is) tt, has_more q.form listing.plain old new o room a, tells)
  held_ok old new o false m room a tells = (
    subst IsNoFault (sym a.0) tt,
    λ rows k. subst (λ l. Has q.form b q.limit l (held_in new)) (ap (more_rows rows) (sym a.0)) (subst (λ l. Has q.form b q.limit rows (held_in l)) (sym a.1) k),
    tells,
  )

  held_err : (old new : Listed) (o : Option (Result Row Fault)) (r : RowRefusal) → AddsIn q o old new (Err r) → PushesHeld q.form b q.limit o (held_in old) (held_in new) (Err r)
  held_err old new o (refusal.Fault f) a = a
  held_err old new o (refusal.TooManyRows l) a = (a.0, (a.2.0, a.2.1, past q.form listing.plain old a.2.0 a.1))
  held_err old new o (refusal.Memory why) a = tt

  module _ (old : Listed) (some : StandsForSome (table_in q old)) (room : is_full_table (table_in q old) ≡ false) where
    open_at : HasFull q.form (held_in old) → ⊥
    open_at = room_of b q.form (held_in old) listing.form room

    few_by : (f : Form) → IsPlain f → (rows : List Row) → Has f b q.limit rows (held_in old) → old.count ≤ q.limit
    few_by form.All plain rows k = omega (arith, k.0.count, k.1)
    few_by (form.First n) plain rows k = omega (arith, k.0.count, k.1)
    few_by (form.Top n) plain rows k = absurd plain
    few_by form.Classes plain rows k = absurd plain

    pub few : old.count < 2 ^ 40
    few = let s = stands_by b q.form q.limit listing.form listing.small some.0 (held_in old) some.1 in omega (arith, few_by q.form listing.plain s.rows s.keeps, listing.small)

    pub told : (new : Listed) (o : Option (Result Row Fault)) (added : Bool) (m : More) → AddsIn q o old new (Ok added) → TellsFull q.form m (held_in new) → Pushes o (table_in q old) (table_in q new) (Ok m)
    told new o added m a tells =
        pushes b q.form q.limit None q.graph.now 0 listing.small listing.form (held_in old) room some (held_in new) o (Ok m) (held_ok old new o added m open_at a tells)

    pub refused : (new : Listed) (o : Option (Result Row Fault)) (r : RowRefusal) → AddsIn q o old new (Err r) → Pushes o (table_in q old) (table_in q new) (Err r)
    refused new o r a = pushes b q.form q.limit None q.graph.now 0 listing.small listing.form (held_in old) room some (held_in new) o (Err r) (held_err old new o r a)

-- what expressions read of an assignment of an alternative
pub within_is : (admitted : reading.Assignment → Bool) (q : question.Asked) (y : Typed) → q.late.now ≡ y.late → (here : reading.Assignment) → outcome_within admitted q here ≡ outcome_admitted admitted q.graph.now q.bound.now y here
within_is admitted q y e here = ap (λ late. cond (admitted here) (outcome_numbered q.graph.now q.bound.now late here) None) e

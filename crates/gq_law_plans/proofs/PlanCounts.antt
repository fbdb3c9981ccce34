-- A plan completes a partial assignment to each assignment that extends it and meets the plan's demands once, and to no other.
use Rattle.std.proofs.Common.{◌≡◌, ℕ, ◌+◌, Bool, true, false, ◌&&◌, cond, Option, Some, None, List, [], ◌∷◌, ◌++◌, filter, IsTrue, refl, sym, ap, ap₂, ◌∙◌, subst, true≢false, arith}
use Rattle.std.specs.List.{AllByRecursion, list_all}
use Rattle.std.proofs.lemmas.Bool.{eq-eqb, and_parts, and_from}
use Rattle.std.proofs.lemmas.List.Folds.{list_all-append}
use Rattle.gq_base.specs.Plain.{Graph}
use Rattle.gq_base.specs.Valid.{is_valid}
use Rattle.gq_base.specs.declared.NodeId.{NodeId}
use Rattle.gq_plan.specs.Allowed.{at_same}
use Rattle.gq_plan.specs.Assignments.{Assignment}
use Rattle.gq_plan.specs.Covers.{after, after_step, fits, fits_step, is_joined}
use Rattle.gq_plan.specs.Known.{none}
use Rattle.gq_plan.specs.Meaning.{Partial, nothing, with_all, look, agree, mean, step}
use Rattle.gq_plan.specs.Soundness.{IsSound}
use Rattle.gq_plan.specs.Plans.{Plan, Done, Then, Step, Scan, Extend, Close, Join, Keep, Differ, NoLoop, Single, Meet}
use Rattle.gq_plan.specs.declared.demand.Demand.{Demand}
use Rattle.gq_plan.specs.declared.demand.Demand.TheVariants.{InTable, Joins, Passes, Differs, IsNoLoop}
use Rattle.gq_plan.specs.declared.typed.Typed.{Typed}
use Rattle.gq_plan.specs.Counts.{bit, hits, total}
use Rattle.gq_plan.proofs.Counts.{total_map, total_flat_map, total_filter, hits_and_const}
use Rattle.gq_law_plans.specs.Bindings.{extends, bound}
use Rattle.gq_law_plans.proofs.Counting.{cond_both, met, known_by, extends_with_all, node_look}
use Rattle.gq_law_plans.proofs.Lookups.{look_some}
use Rattle.gq_law_plans.proofs.Owning.{Owns, owns_nothing, owns_mean, owns_step}
use Rattle.gq_law_plans.proofs.StepCounts.{scanned, extended, closed, tested, different, unlooped}

-- the demands that a plan meets, with the keys of its joins again in the side plans
unfoldable mutual
  pub placed_all : Plan → List Demand
  placed_all Done = []
  placed_all (Then s p) = placed_all_step s ++ placed_all p

  pub placed_all_step : Step → List Demand
  placed_all_step (Scan v) = InTable v ∷ []
  placed_all_step (Extend column x from to way) = Joins x ∷ InTable to ∷ []
  placed_all_step (Close column x from to way) = Joins x ∷ []
  placed_all_step (Join side keys) = placed_all side
  placed_all_step (Keep i) = Passes i ∷ []
  placed_all_step (Differ p) = Differs p ∷ []
  placed_all_step (NoLoop x) = IsNoLoop x ∷ []
  placed_all_step (Single x from to way) = Joins x ∷ []
  placed_all_step (Meet x from to way) = []

pub total_same_on : {X : Type 0} (P : X → Type 0) (f h : X → ℕ) → ((x : X) → P x → f x ≡ h x) → (xs : List X) → AllByRecursion P xs → total f xs ≡ total h xs
total_same_on P f h same [] all = refl
total_same_on P f h same (x ∷ xs) all = ap₂ ◌+◌ (same x all.0) (total_same_on P f h same xs all.1)

pub then_bit : (h c s : Bool) → cond h (bit (c && s)) 0 ≡ bit (c && (s && h))
then_bit h c s = grind arith

done_bit : (c : Bool) → bit c + 0 ≡ bit (c && true)
done_bit true = refl
done_bit false = refl

join_bit : (p b c : Bool) → (b ≡ true → c ≡ true → p ≡ true) → cond p (bit (b && c)) 0 ≡ bit (b && c)
join_bit true b c h = refl
join_bit false true true h = absurd (true≢false (sym (h refl refl)))
join_bit false true false h = refl
join_bit false false c h = refl

at_same_self : (o : Option NodeId) (n : NodeId) → o ≡ Some n → at_same o o ≡ true
at_same_self None n e = absurd (cc e)
at_same_self (Some m) n e = and_from _ _ (eq-eqb m.table m.table refl) (eq-eqb m.row m.row refl)

-- partial assignments that one assignment extends agree on what both bind
extended_agree : (t : Assignment) (a b : Partial) → extends a t ≡ true → extends b t ≡ true → (keys : List ℕ) → list_all (λ v. bound b.nodes v && bound a.nodes v) keys ≡ true → agree keys a b ≡ true
extended_agree t a b e f [] h = refl
extended_agree t a b e f (v ∷ keys) h =
    let parts = and_parts (bound b.nodes v && bound a.nodes v) (list_all (λ v. bound b.nodes v && bound a.nodes v) keys) h in
    let both = and_parts (bound b.nodes v) (bound a.nodes v) parts.0 in
    let some = look_some a.nodes v both.1 in
    let is : look a.nodes v ≡ look b.nodes v = node_look a t e v both.1 ∙ sym (node_look b t f v both.0) in
    and_from (at_same (look a.nodes v) (look b.nodes v)) (agree keys a b)
    (ap (λ o. at_same (look a.nodes v) o) (sym is) ∙ at_same_self (look a.nodes v) some.0 some.1)
    (extended_agree t a b e f keys parts.1)

module _ (g : Graph) (y : Typed) (real : IsTrue (is_valid g)) (sound : IsSound g.catalog y) (t : Assignment) where
  mutual
    unfolding mean step fits fits_step placed_all placed_all_step

    pub count_mean : (p : Plan) (a : Partial) → Owns y a → fits g.catalog y p (known_by a) ≡ true
        → hits (λ e. extends e t) (mean g y p a) ≡ bit (extends a t && list_all (met g y t) (placed_all p))
    count_mean Done a owns fit = done_bit (extends a t)
    count_mean (Then s p) a owns fit =
        let parts = and_parts (fits_step g.catalog y s (known_by a)) (fits g.catalog y p (after_step s (known_by a))) fit in
        total_flat_map (λ e. bit (extends e t)) (mean g y p) (step g y s a)
        ∙ total_same_on (λ e. Owns y e × (known_by e ≡ after_step s (known_by a))) _ (λ e. bit (extends e t && list_all (met g y t) (placed_all p)))
        (λ e k. count_mean p e k.0 (subst (λ z. fits g.catalog y p z ≡ true) (sym k.1) parts.1)) (step g y s a) (owns_step g y s a owns parts.0)
        ∙ hits_and_const (λ e. extends e t) (list_all (met g y t) (placed_all p)) (step g y s a)
        ∙ ap (λ n. cond (list_all (met g y t) (placed_all p)) n 0) (count_step s a owns parts.0)
        ∙ then_bit (list_all (met g y t) (placed_all p)) (extends a t) (list_all (met g y t) (placed_all_step s))
        ∙ ap (λ b. bit (extends a t && b)) (sym (list_all-append (met g y t) (placed_all_step s) (placed_all p)))

    pub count_step : (s : Step) (a : Partial) → Owns y a → fits_step g.catalog y s (known_by a) ≡ true
        → hits (λ e. extends e t) (step g y s a) ≡ bit (extends a t && list_all (met g y t) (placed_all_step s))
    count_step (Scan v) a owns fit = scanned g y real sound t a v fit
    count_step (Extend column x from to way) a owns fit = extended g y real sound t a column x from to way fit
    count_step (Close column x from to way) a owns fit = closed g y real sound t a column x from to way fit
    count_step (Join side keys) a owns fit =
        let parts = and_parts (fits g.catalog y side none) (is_joined y keys (after side none) (known_by a)) fit in
        let rows = mean g y side nothing in
        total_map (λ e. bit (extends e t)) (λ b. with_all b a) (filter (agree keys a) rows)
        ∙ total_filter _ (agree keys a) rows
        ∙ total_same_on (λ b. Owns y b × (known_by b ≡ after side none)) _ (λ b. bit (extends b t && extends a t))
        (λ b k. ap (λ c. cond (agree keys a b) (bit c) 0) (extends_with_all b a t)
        ∙ join_bit (agree keys a b) (extends b t) (extends a t)
        (λ e f. extended_agree t a b f e keys (and_parts (list_all (λ v. bound b.nodes v && bound a.nodes v) keys) _ (subst (λ z. is_joined y keys z (known_by a) ≡ true) (sym k.1) parts.1)).0))
        rows (owns_mean g y side nothing (owns_nothing y) parts.0)
        ∙ hits_and_const (λ b. extends b t) (extends a t) rows
        ∙ ap (λ n. cond (extends a t) n 0) (count_mean side nothing (owns_nothing y) parts.0)
        ∙ cond_both (extends a t) (list_all (met g y t) (placed_all side))
    count_step (Keep i) a owns fit = tested g y real sound t a i fit
    count_step (Differ p) a owns fit = different g y real sound t a p fit
    count_step (NoLoop x) a owns fit = unlooped g y real sound t a x fit
    count_step (Single x from to way) a owns fit = absurd (true≢false (sym fit))
    count_step (Meet x from to way) a owns fit = absurd (true≢false (sym fit))

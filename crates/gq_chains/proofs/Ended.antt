-- Relationships that steps of a group follow in one direction, each the first one of its row, differ where the rows at their ends do.
use Rattle.std.proofs.Common.{◌≡◌, ℕ, ◌<◌, ◌==◌, ◌||◌, Bool, true, false, not, Option, Some, length, refl, sym, ap, ap₂, ◌∙◌, subst, arith}
use Rattle.std.specs.Prelude.{slice_get, slice_index}
use Rattle.std.proofs.lemmas.Bool.{and_parts, eqb-true}
use Rattle.gq_base.specs.declared.direction.Direction.{Direction}
use Rattle.gq_base.specs.declared.direction.Direction.TheVariants.{Forward, Backward}
use Rattle.gq_plan.specs.Conditions.{differs}
use Rattle.gq_plan.specs.Covers.{end_of, goes, start_of}
use Rattle.gq_plan.specs.Meaning.{holds}
use Rattle.gq_plan.specs.Rows.{as_read, node_table, rel_table}
use Rattle.gq_plan.specs.declared.assignment.Assignment.{Assignment}
use Rattle.gq_plan.specs.declared.follow.Follow.{Follow}
use Rattle.gq_plan.specs.declared.typed.RelPair.{RelPair}
use Rattle.gq_plan.specs.declared.typed.Typed.{Typed}
use Rattle.gq_plan.specs.declared.typed.TypedRel.{TypedRel}
use Rattle.gq_chains.specs.steps.Ends.{HasEnds, HaveEnds, are_apart, ends_differ, source_of, target_of}
use Rattle.gq_chains.specs.steps.Extends.{Extends}
use Rattle.gq_chains.proofs.Extending.{extends_as}
use Rattle.gq_chains.proofs.First.{HasFirst, made_first}
use Rattle.gq_chains.proofs.Sourced.{IsFirst, differs_ends}
use Rattle.gq_steps.specs.Follows.{CanFollow}
use Rattle.gq_steps.specs.Levels.{Run, known}
use Rattle.gq_steps.specs.Moves.{IsHeld, IsMade, IsRun}
use Rattle.gq_steps.specs.Tests.{IsEndsTest, IsFollowed}
use Rattle.gq_steps.specs.steps.Outcomes.{differs_at}
use Rattle.gq_steps.proofs.Going.{less_held}
use Rattle.gq_steps.proofs.Stepping.{holds_some}
use Rattle.gq_steps.proofs.Trying.{extend_can, extend_goes}

-- the node variables from which a relationship is followed in a direction, and to which it leads
abbrev near_of : Direction → Option TypedRel → ℕ
near_of Forward o = source_of o
near_of Backward o = target_of o

abbrev far_of : Direction → Option TypedRel → ℕ
far_of Forward o = target_of o
far_of Backward o = source_of o

near_start : (way : Direction) (o : Option TypedRel) (r : TypedRel) → o ≡ Some r → near_of way o ≡ start_of way r
near_start Forward o r is = ap source_of is
near_start Backward o r is = ap target_of is

far_end : (way : Direction) (o : Option TypedRel) (r : TypedRel) → o ≡ Some r → far_of way o ≡ end_of way r
far_end Forward o r is = ap target_of is
far_end Backward o r is = ap source_of is

either-way : (a b : Bool) → (a || b) ≡ (b || a)
either-way true true = refl
either-way true false = refl
either-way false true = refl
either-way false false = refl

-- the rows at both ends, whichever direction is taken
apart_on : (y : Typed) (row : Assignment) (p : RelPair) (way : Direction) → are_apart y row p
    ≡ (not (slice_index row.nodes (near_of way (slice_get y.rels p.first)) == slice_index row.nodes (near_of way (slice_get y.rels p.second)))
    || not (slice_index row.nodes (far_of way (slice_get y.rels p.first)) == slice_index row.nodes (far_of way (slice_get y.rels p.second))))
apart_on y row p Forward = refl
apart_on y row p Backward =
    either-way (not (slice_index row.nodes (source_of (slice_get y.rels p.first)) == slice_index row.nodes (source_of (slice_get y.rels p.second))))
    (not (slice_index row.nodes (target_of (slice_get y.rels p.first)) == slice_index row.nodes (target_of (slice_get y.rels p.second))))

has_ends : (y : Typed) (row : Assignment) (x : ℕ) (way : Direction) → x < length y.rels → near_of way (slice_get y.rels x) < length row.nodes → far_of way (slice_get y.rels x) < length row.nodes → HasEnds y row x
has_ends y row x Forward low near far = record { rel = low; source = near; target = far }
has_ends y row x Backward low near far = record { rel = low; source = far; target = near }

module _ (c : Run) (run : IsRun c) (row : Assignment) (first d : ℕ) (low : d < length c.steps) (held : IsHeld c row (known c d)) (made : (e : ℕ) → first < e → e < d → IsMade c e 0 row row) where
  module _ (x : ℕ) (f : Follow) (is : IsFollowed c first d x f) where
    step_low : is.depth < length c.steps
    step_low = let before_it = is.below in omega (arith, before_it, low)

    step_held : IsHeld c row (known c is.depth)
    step_held = let before_it = is.below in less_held c is.depth d row (omega (arith, before_it)) held

    extends : Extends c is.depth f
    extends = extends_as c is.depth f is.is

    first_there : HasFirst c f row
    first_there = made_first c run is.depth step_low row step_held f extends (made is.depth is.above is.below)

    can : CanFollow c.graph c.typed row f
    can = extend_can c run is.depth step_low row step_held extends.0 f.rel f.from f.to f.direction extends.1

    goes_so : holds (goes c.graph.catalog extends.0 f.from f.to f.direction) (slice_get c.typed.rels f.rel) ≡ true
    goes_so = extend_goes c run is.depth step_low row step_held extends.0 f.rel f.from f.to f.direction extends.1

    near_is : near_of f.direction (slice_get c.typed.rels x) ≡ f.from
    near_is =
        let r = holds_some (goes c.graph.catalog extends.0 f.from f.to f.direction) (slice_get c.typed.rels f.rel) goes_so in
        let ends = and_parts _ _ (and_parts _ _ r.2).0 in
        ap (λ n. near_of f.direction (slice_get c.typed.rels n)) (sym is.rel) ∙ near_start f.direction (slice_get c.typed.rels f.rel) r.0 r.1 ∙ sym (eqb-true _ _ ends.0)

    far_is : far_of f.direction (slice_get c.typed.rels x) ≡ f.to
    far_is =
        let r = holds_some (goes c.graph.catalog extends.0 f.from f.to f.direction) (slice_get c.typed.rels f.rel) goes_so in
        let ends = and_parts _ _ (and_parts _ _ r.2).0 in
        ap (λ n. far_of f.direction (slice_get c.typed.rels n)) (sym is.rel) ∙ far_end f.direction (slice_get c.typed.rels f.rel) r.0 r.1 ∙ sym (eqb-true _ _ ends.1)

    ends_of : HasEnds c.typed row x
    ends_of =
        let many = held.node_count in
        has_ends c.typed row x f.direction
        (subst (λ n. n < length c.typed.rels) is.rel can.rel)
        (subst (λ n. n < length row.nodes) (sym near_is) (let from = can.from in omega (arith, from, many)))
        (subst (λ n. n < length row.nodes) (sym far_is) (let to = can.to in omega (arith, to, many)))

  module _ (test : IsEndsTest c first d) where
    abbrev pair : RelPair
    pair = test.pair

    abbrev one : Follow
    one = test.followed.one

    abbrev other : Follow
    other = test.followed.other

    abbrev table : ℕ
    table = rel_table c.typed pair.first

    pub ends_there : HaveEnds c.typed row pair
    ends_there = record { one = ends_of pair.first one test.followed.ones; other = ends_of pair.second other test.followed.others }

    -- each is the first one of its row
    one_first : IsFirst c.graph table one.direction (slice_index row.nodes one.from) (node_table c.typed one.to) (slice_index row.nodes one.to) (slice_index row.rels pair.first)
    one_first =
        subst (λ x. IsFirst c.graph (rel_table c.typed x) one.direction (slice_index row.nodes one.from) (node_table c.typed one.to) (slice_index row.nodes one.to) (slice_index row.rels x))
        test.followed.ones.rel (first_there pair.first one test.followed.ones)

    other_first : IsFirst c.graph table one.direction (slice_index row.nodes other.from) (node_table c.typed other.to) (slice_index row.nodes other.to) (slice_index row.rels pair.second)
    other_first =
        subst (λ w. IsFirst c.graph table w (slice_index row.nodes other.from) (node_table c.typed other.to) (slice_index row.nodes other.to) (slice_index row.rels pair.second)) (sym test.followed.way)
        (subst (λ t. IsFirst c.graph t other.direction (slice_index row.nodes other.from) (node_table c.typed other.to) (slice_index row.nodes other.to) (slice_index row.rels pair.second)) (sym test.followed.same)
        (subst (λ x. IsFirst c.graph (rel_table c.typed x) other.direction (slice_index row.nodes other.from) (node_table c.typed other.to) (slice_index row.nodes other.to) (slice_index row.rels x))
        test.followed.others.rel (first_there pair.second other test.followed.others)))

    -- the rows at its ends are those between which it is followed
    apart_is : are_apart c.typed row pair
        ≡ (not (slice_index row.nodes one.from == slice_index row.nodes other.from) || not (slice_index row.nodes one.to == slice_index row.nodes other.to))
    apart_is =
        apart_on c.typed row pair one.direction
        ∙ ap₂ (λ m n. not (slice_index row.nodes m == slice_index row.nodes n) || not (slice_index row.nodes (far_of one.direction (slice_get c.typed.rels pair.first)) == slice_index row.nodes (far_of one.direction (slice_get c.typed.rels pair.second))))
        (near_is pair.first one test.followed.ones)
        (ap (λ w. near_of w (slice_get c.typed.rels pair.second)) test.followed.way ∙ near_is pair.second other test.followed.others)
        ∙ ap₂ (λ m n. not (slice_index row.nodes one.from == slice_index row.nodes other.from) || not (slice_index row.nodes m == slice_index row.nodes n))
        (far_is pair.first one test.followed.ones)
        (ap (λ w. far_of w (slice_get c.typed.rels pair.second)) test.followed.way ∙ far_is pair.second other test.followed.others)

    differs_is : differs (as_read c.typed row) pair ≡ are_apart c.typed row pair
    differs_is =
        differs_ends c.typed pair row held.rel_count ends_there.one.rel ends_there.other.rel test.followed.same c.graph one.direction
        (slice_index row.nodes one.from) (slice_index row.nodes other.from) (node_table c.typed one.to) (node_table c.typed other.to) (slice_index row.nodes one.to) (slice_index row.nodes other.to) one_first other_first
        ∙ sym apart_is

    pub ends_same : differs_at c.typed row test.number ≡ ends_differ c.typed row test.number
    ends_same = ap (holds (differs (as_read c.typed row))) test.there ∙ differs_is ∙ sym (ap (holds (are_apart c.typed row)) test.there)

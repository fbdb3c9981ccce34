use Rattle.std.proofs.Common.{◌≡◌, ◌<◌, ◌≤◌, ◌+◌, ◌-◌, ◌/◌, ℕ, Some, length, slice_get, ap, ◌∙◌, arith}
use Rattle.gq_base.specs.Plain.{Graph}
use Rattle.gq_base.specs.declared.direction.Direction.{Direction}
use Rattle.gq_store.specs.Neighbours.{near_ends, neighbours, numbers}
use Rattle.gq_sift.proofs.Ascending.{narrowed_down, narrowed_none, narrowed_up, only_there}
use Rattle.gq_steps.proofs.Followed.{as_many, get_some}
use Rattle.gq_sift.proofs.finding.place_of_number.Goals as goal
use Rattle.gq_sift.proofs.finding.place_of_number.Goals.{After-number_at-found}

as_long : (g : Graph) (t : ℕ) → t < length g.catalog.rels → (way : Direction) (row n : ℕ) → n ≤ length (neighbours g t way row) → n ≤ length (numbers g t way row)
as_long g t low way row n h = let k = get_some g.catalog.rels t low in omega (arith, h, as_many g t k.0 k.1 way row)

abbrev middle : After-number_at-found → ℕ
middle c = c.loop-low.low + (c.loop-low.high - c.loop-low.low) / 2

at : (c : After-number_at-found) → slice_get (numbers c.args.graph.now c.args.part.table c.args.part.direction c.args.part.row) (middle c) ≡ Some c.number_at-found.result
at c = c.number_at-found.ensures

low_middle : (c : After-number_at-found) → c.loop-low.low ≤ middle c
low_middle c = omega arith

middle_high : (c : After-number_at-found) → middle c < c.loop-low.high
middle_high c = let h = c.loop-low-test.true in omega (arith, h)

pub returns-then-found-number : goal.returns-then-found-number
returns-then-found-number c =
    let w = (goal.at.returns-then-found-number c).After-number_at-found in (
      (let low = c.loop-low.invariant.first_low in omega (arith, low, low_middle w)),
      (let high = c.loop-low.invariant.high_end in omega (arith, high, middle_high w)),
      only_there c.args.part.row (near_ends c.args.graph.now c.args.part.table c.args.part.direction) c.args.part.low c.args.part.high c.args.number (middle w) (at w ∙ ap Some c.if-found-number.true),
    )

pub loop-low-preserved-then-found-number-2 : goal.loop-low-preserved-then-found-number-2
loop-low-preserved-then-found-number-2 c =
    let w = (goal.at.loop-low-preserved-then-found-number-2 c).After-number_at-found in
    narrowed_up c.args.part.row (near_ends c.args.graph.now c.args.part.table c.args.part.direction) c.args.part.low c.args.part.high c.args.number c.loop-low.low c.loop-low.high c.loop-low.invariant
    (middle w) c.number_at-found.result (at w) (low_middle w) (middle_high w) c.if-found-number-2.true

pub loop-low-preserved : goal.loop-low-preserved
loop-low-preserved c =
    let w = (goal.at.loop-low-preserved c).After-number_at-found in
    let differs = c.if-found-number.false in
    let more = c.if-found-number-2.false in
    narrowed_down c.args.part.row (near_ends c.args.graph.now c.args.part.table c.args.part.direction) c.args.part.low c.args.part.high c.args.number c.loop-low.low c.loop-low.high c.loop-low.invariant
    (middle w) c.number_at-found.result (at w) (low_middle w) (middle_high w) (omega (arith, more, differs))
    (as_long c.args.graph.now c.args.part.table c.requires.within c.args.part.direction c.args.part.row c.args.part.high c.requires.inside)

pub returns : goal.returns
returns c = narrowed_none c.args.part.row (near_ends c.args.graph.now c.args.part.table c.args.part.direction) c.args.part.low c.args.part.high c.args.number c.loop-low.low c.loop-low.high c.loop-low.invariant (let h = c.loop-low-test.false in omega (arith, h))

pub returns-then-is_outside : goal.returns-then-is_outside
returns-then-is_outside c = c.is_outside.ensures c.if-is_outside.true

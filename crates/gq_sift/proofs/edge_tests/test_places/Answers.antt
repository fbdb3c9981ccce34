use Rattle.std.proofs.Common.{◌≤◌, arith}
use Rattle.gq_filter.specs.Placed.{Passes, Refuses}
use Rattle.gq_sift.proofs.Spanned.{spanned, unmarked}
use Rattle.gq_sift.proofs.edge_tests.test_places.Goals as goal
use Rattle.gq_sift.proofs.edge_tests.test_places.Goals.{In-Some}

-- the end is no less than how many places there are
many : (c : In-Some) → c.args.part.high ≤ c.in-Some.high
many c = let ends = c.in-Some.ensures.ends in omega (arith, ends)

pub keep-requires-clause-ordered : goal.keep-requires-clause-ordered
keep-requires-clause-ordered c = omega arith

pub keep-requires-clause-few : goal.keep-requires-clause-few
keep-requires-clause-few c =
    let high = many (goal.at.keep-requires-clause-few c).In-Some in
    let few = c.requires.few in
    omega (arith, high, few)

pub keep-requires-clause-inside : goal.keep-requires-clause-inside
keep-requires-clause-inside c = c.in-Some.ensures.inside

pub keep-requires-clause-within : goal.keep-requires-clause-within
keep-requires-clause-within c = λ k over.
    let high = many (goal.at.keep-requires-clause-within c).In-Some in
    unmarked c.args.part c.args.marks.now c.requires.marks k (omega (arith, high, over))

pub returns-in-Some-clause-drops : goal.returns-in-Some-clause-drops
returns-in-Some-clause-drops c = record {
  long = c.keep.ensures.whole;
  kept = λ j on. (c.keep.ensures.kept j on).0;
  dropped = λ j on off.
      spanned c.args.graph.now c.args.part c.requires.part c.args.test c.in-Some.high c.in-Some.ensures (Refuses c.args.test) j (c.requires.marks.below j on).1 (c.keep.ensures.dropped j on off);
}

pub returns-in-Some-clause-passed : goal.returns-in-Some-clause-passed
returns-in-Some-clause-passed c = λ told j on.
    let kept = c.keep.ensures.kept j on in
    spanned c.args.graph.now c.args.part c.requires.part c.args.test c.in-Some.high c.in-Some.ensures (Passes c.args.test) j (c.requires.marks.below j kept.0).1 kept.1

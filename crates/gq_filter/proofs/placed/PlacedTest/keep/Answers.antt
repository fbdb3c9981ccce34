use Rattle.std.proofs.Common.{◌≡◌, ◌+◌, ◌-◌, ◌<◌, ℕ, true, arith}
use Rattle.gq_bits.specs.Places.{is_marked}
use Rattle.gq_filter.proofs.Kept.{goes, marked_below, stays}
use Rattle.gq_filter.proofs.placed.PlacedTest.keep.Goals as goal
use Rattle.gq_filter.proofs.placed.PlacedTest.keep.Goals.{After-word-whole}

pub keep_span-requires-clause-fits : goal.keep_span-requires-clause-fits
keep_span-requires-clause-fits c = let fits = c.ranges.high in let ordered = c.requires.ordered in omega (arith, ordered, fits)

-- a marked place has cells
has_cells : (c : After-word-whole) → (k : ℕ) → is_marked c.args.marks.now k ≡ true → c.args.low + k < c.args.self.now.places
has_cells c k on = let low = marked_below c.args.marks.now (c.args.high - c.args.low) c.requires.within k on in let inside = c.requires.inside in let ordered = c.requires.ordered in omega (arith, low, inside, ordered)

pub returns-clause-kept : goal.returns-clause-kept
returns-clause-kept c = λ k on. stays c.args.self.now (c.args.low + k) _ _ (c.keep_span.ensures k) (λ was. has_cells (goal.at.returns-clause-kept c).After-word-whole k was) on

pub returns-clause-dropped : goal.returns-clause-dropped
returns-clause-dropped c = λ k on off. goes c.args.self.now (c.args.low + k) _ _ (c.keep_span.ensures k) (λ was. has_cells (goal.at.returns-clause-dropped c).After-word-whole k was) on off

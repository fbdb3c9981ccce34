use Rattle.std.proofs.Common.{◌≡◌}
use Rattle.gq_choices.specs.steps.Branching.{unknown}
use Rattle.gq_choices.specs.steps.Searching.{agreeing}
use Rattle.gq_choices.proofs.narrowing.narrow_each.Given as goal

abbrev pub invariant-loop-at : goal.invariant-loop-at
invariant-loop-at l = record {
  agree : agreeing l.catalog l.candidates.steps l.candidates.tables ≡ agreeing l.catalog l.fn.candidates.steps l.fn.candidates.tables;
  same : unknown l.candidates.tables ≡ unknown l.fn.candidates.tables;
}

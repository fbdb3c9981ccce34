use Rattle.std.proofs.Common.{◌≡◌}
use Rattle.gq_choices.specs.steps.Branching.{unknown}
use Rattle.gq_choices.specs.steps.Searching.{agreeing}
use Rattle.gq_choices.proofs.narrowing.narrowed.Given as goal

abbrev pub invariant-loop : goal.invariant-loop
invariant-loop l = record {
  agree : agreeing l.catalog l.candidates.steps l.candidates.tables ≡ agreeing l.catalog l.fn.first.steps l.fn.first.tables;
  same : unknown l.candidates.tables ≡ unknown l.fn.first.tables;
}

use Rattle.std.proofs.Common.{◌≡◌, take}
use Rattle.std.specs.List.{AllZip}
use Rattle.gq_execute.specs.Spending.{IsSpentOn}
use Rattle.gq_execute.specs.steps.Testing.{AreTestsOf, spent_on}
use Rattle.gq_execute.proofs.testing.tests_of.Given as goal

abbrev pub invariant-parts : goal.invariant-parts
invariant-parts l = record {
  slots : l.pool.out ≡ l.initial.pool.out;
  tests : AreTestsOf l.graph l.settings.rows (take l.part-index l.parts) l.all;
  spent : AllZip (IsSpentOn l.graph l.settings.order) (take l.part-index l.parts) (spent_on l.all);
}

use Rattle.gq_filter.specs.steps.Texts.{IsKnown}
use Rattle.gq_filter.proofs.text_test.CodeSet.ask.Given as goal

abbrev pub invariant-pieces : goal.invariant-pieces
invariant-pieces l = IsKnown l.test l.self.known

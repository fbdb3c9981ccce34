use Rattle.std.proofs.Common.{Option, sym, subst}
use Rattle.gq_filter.specs.declared.text_test.PartTest.{PartTest}
use Rattle.gq_filter.specs.steps.Texts.{AreKnown}
use Rattle.gq_filter.proofs.row_test.RowTest.ask_codes.Goals as goal

pub ask-requires : goal.ask-requires
ask-requires c = subst {A = Option PartTest} (λ t. AreKnown t c.self.inside.tried.known) c.in-Some.is c.self.invariant.5

pub invariant_of-self : goal.invariant_of-self
invariant_of-self c =
    let known = subst {A = Option PartTest} (λ t. AreKnown t c.ask.new.self.known) (sym c.in-Some.is) c.ask.ensures in
    (c.self.invariant.0, c.self.invariant.1, c.self.invariant.2, c.self.invariant.3, c.self.invariant.4, known, c.self.invariant.6)

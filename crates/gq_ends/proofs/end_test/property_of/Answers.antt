use Rattle.std.proofs.Common.{◌∙◌, true≢false, sym}
use Rattle.gq_ends.proofs.Missing.{compares_of}
use Rattle.gq_ends.proofs.end_test.property_of.Goals as goal

pub returns-then-node-variable : goal.returns-then-node-variable
returns-then-node-variable c =
    compares_of c.args.expr.now c.in-Compare.first c.in-Compare.terms c.args.variable c.in-NodeProperty.node c.in-NodeProperty.name
    c.in-Compare.is (sym c.get.ensures ∙ c.in-NodeProperty.is) c.if-node-variable.true (λ none. true≢false (sym (c.if-is_empty.ensures.1 none)))

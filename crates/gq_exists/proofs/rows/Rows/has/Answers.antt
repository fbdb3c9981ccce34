use Rattle.std.proofs.Common.{◌∙◌, sym}
use Rattle.gq_exists.proofs.Singles.{has_front, has_long, has_none}
use Rattle.gq_exists.proofs.rows.Rows.has.Goals as goal

pub returns-in_default : goal.returns-in_default
returns-in_default c = sym (has_none c.args.key.now c.args.self.now.nodes.items c.in_default.ensures.cases)

pub returns-then-is_empty : goal.returns-then-is_empty
returns-then-is_empty c =
    c.has_node.ensures
    ∙ sym (has_front c.args.key.now c.in-Some.node.now c.in-Some.others.now c.args.self.now.nodes.items c.in-Some.ensures.cases.0 (sym c.is_empty.ensures ∙ c.if-is_empty.true))

pub returns-else-is_empty : goal.returns-else-is_empty
returns-else-is_empty c =
    c.if-is_empty.false
    ∙ sym (has_long c.args.key.now c.in-Some.node.now c.in-Some.others.now c.args.self.now.nodes.items c.in-Some.ensures.cases.0 (sym c.is_empty.ensures ∙ c.if-is_empty.false))

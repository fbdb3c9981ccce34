use Rattle.std.proofs.Common.{◌∙◌, ap, sym}
use Rattle.std.specs.List.{list_any}
use Rattle.gq_plan.specs.Assignments.{same_node}
use Rattle.gq_exists.specs.steps.Rows.{blocks_of, marked_at}
use Rattle.gq_exists.proofs.Marked.{blocks_at, blocks_long, blocks_set, marked_known, marked_new}
use Rattle.gq_exists.proofs.rows.Rows.insert_node.Goals as goal

pub returns-in_ok-push-clause-are : goal.returns-in_ok-push-clause-are
returns-in_ok-push-clause-are c =
    let tables = c.reach_table.new.tables.items in
    let old = c.index_mut.result.now in
    let there = c.in_ok-reach_table.ensures.there in
    λ n. ap (λ l. marked_at l n) (blocks_set tables c.args.node.table c.mark.new.blocks)
    ∙ marked_new c.args.self.now.nodes.items c.args.node (blocks_of tables) old.items c.mark.new.blocks.items (blocks_long tables c.args.node.table there) (blocks_at tables c.args.node.table old there c.index_mut.ensures.value)
    (λ m. c.in_ok-reach_table.ensures.same m ∙ c.requires m) c.in_ok-mark.ensures.marked c.in_ok-mark.field-0 c.in_ok-mark.ensures.first c.if-branch.true n
    ∙ ap (list_any (same_node n)) (sym c.in_ok-push.ensures.items)

pub returns-else-branch-clause-are : goal.returns-else-branch-clause-are
returns-else-branch-clause-are c =
    let tables = c.reach_table.new.tables.items in
    let old = c.index_mut.result.now in
    let there = c.in_ok-reach_table.ensures.there in
    λ n. ap (λ l. marked_at l n) (blocks_set tables c.args.node.table c.mark.new.blocks)
    ∙ marked_known c.args.self.now.nodes.items c.args.node (blocks_of tables) old.items c.mark.new.blocks.items (blocks_long tables c.args.node.table there) (blocks_at tables c.args.node.table old there c.index_mut.ensures.value)
    (λ m. c.in_ok-reach_table.ensures.same m ∙ c.requires m) c.in_ok-mark.ensures.marked c.in_ok-mark.field-0 c.in_ok-mark.ensures.first c.if-branch.false n

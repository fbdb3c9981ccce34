use Rattle.std.proofs.Common.{◌∙◌, ap, sym}
use Rattle.gq_exists.specs.steps.Levels.{with_key}
use Rattle.gq_exists.specs.steps.Rows.{rows_in, singles}
use Rattle.gq_exists.proofs.Gathered.{on_ok}
use Rattle.gq_exists.proofs.Singles.{one_front, with_single}
use Rattle.gq_exists.proofs.rows.Rows.insert.Goals as goal

pub returns-clause-keys : goal.returns-clause-keys
returns-clause-keys c =
    let old = c.args.self.now in
    let n = c.in-Some.node.now in
    on_ok c.insert_node.result
    (λ e. ap singles e ∙ with_single old.nodes.items n ∙ ap (with_key (rows_in old)) (sym (one_front c.in-Some._others.now c.args.key.now n c.in-Some.ensures.cases.0 c.requires.wide)))
    c.insert_node.ensures.nodes

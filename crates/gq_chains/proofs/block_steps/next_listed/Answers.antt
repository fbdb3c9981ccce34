use Rattle.std.proofs.Common.{◌≡◌, ◌<◌, ◌*◌, ◌+◌, ◌^◌, length, true, sym, ap₂, ◌∙◌, subst, arith}
use Rattle.std.specs.Prelude.{IfSome, slice_get, slice_index}
use Rattle.gq_base.specs.Directions.{opposite}
use Rattle.gq_plan.specs.Rows.{rel_table}
use Rattle.gq_store.specs.Neighbours.{is_listed, near_rows, neighbours}
use Rattle.gq_chains.proofs.Walking.{many_nodes, node_there}
use Rattle.gq_chains.proofs.block_steps.next_listed.Goals as goal

pub bounds-rows-follow : goal.bounds-rows-follow
bounds-rows-follow c =
    let from = c.requires.can.from in
    let sized = c.requires.can.sized.nodes in
    let few = c.requires.few in
    let low = c.requires.at in
    omega (arith, from, sized, many_nodes c.args.row.now c.args.rows.now c.args.at, few, low)

pub first_listed-requires-clause-within : goal.first_listed-requires-clause-within
first_listed-requires-clause-within c = subst (λ t. t < length c.args.plan_run.now.graph.now.catalog.rels) (sym c.table_of-table.ensures) c.requires.can.table

pub first_listed-requires-clause-row : goal.first_listed-requires-clause-row
first_listed-requires-clause-row c =
    let from = c.requires.can.from in
    let sized = c.requires.can.sized.nodes in
    subst (λ t. slice_index c.args.rows.now (64 * c.args.follow.from + c.args.at) < near_rows c.args.plan_run.now.graph.now t c.args.follow.direction) (sym c.table_of-table.ensures)
    (subst (λ n. n < near_rows c.args.plan_run.now.graph.now (rel_table c.args.plan_run.now.typed.now c.args.follow.rel) c.args.follow.direction)
    (node_there c.args.row.now c.args.rows.now c.args.at c.args.follow.from (omega (arith, from, sized, many_nodes c.args.row.now c.args.rows.now c.args.at))) c.requires.can.row)

pub first_listed-requires-clause-listed : goal.first_listed-requires-clause-listed
first_listed-requires-clause-listed c = subst (λ t. is_listed c.args.plan_run.now.graph.now t c.args.follow.direction ≡ true) (sym c.table_of-table.ensures) c.requires.listed

pub returns : goal.returns
returns c =
    let from = c.requires.can.from in
    let sized = c.requires.can.sized.nodes in
    let there = node_there c.args.row.now c.args.rows.now c.args.at c.args.follow.from (omega (arith, from, sized, many_nodes c.args.row.now c.args.rows.now c.args.at)) in record {
      first = c.first_listed.ensures.found ∙ ap₂ (λ t n. slice_get (neighbours c.args.plan_run.now.graph.now t c.args.follow.direction n) 0) c.table_of-table.ensures (sym there);
      inside = subst (λ t. IfSome c.first_listed.result (λ other. other < near_rows c.args.plan_run.now.graph.now t (opposite c.args.follow.direction))) c.table_of-table.ensures c.first_listed.ensures.ends;
      few = subst (λ n. length (neighbours c.args.plan_run.now.graph.now (rel_table c.args.plan_run.now.typed.now c.args.follow.rel) c.args.follow.direction n) < 2 ^ 32) (sym there)
          (subst (λ t. length (neighbours c.args.plan_run.now.graph.now t c.args.follow.direction (slice_index c.args.rows.now (64 * c.args.follow.from + c.args.at))) < 2 ^ 32) c.table_of-table.ensures c.first_listed.ensures.few);
    }

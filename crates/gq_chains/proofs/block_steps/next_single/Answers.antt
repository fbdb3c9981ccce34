use Rattle.std.proofs.Common.{◌<◌, ◌*◌, ◌+◌, ◌^◌, ℕ, length, sym, ap, ◌∙◌, subst, arith}
use Rattle.std.specs.Prelude.{IfSome, slice_get, slice_index}
use Rattle.gq_base.specs.Directions.{opposite}
use Rattle.gq_plan.specs.Rows.{rel_table}
use Rattle.gq_store.specs.Neighbours.{near_rows, neighbours}
use Rattle.gq_chains.proofs.Walking.{many_nodes, node_there}
use Rattle.gq_chains.proofs.block_steps.next_single.Goals as goal

pub bounds-rows-follow : goal.bounds-rows-follow
bounds-rows-follow c =
    let from = c.requires.can.from in
    let sized = c.requires.can.sized.nodes in
    let few = c.requires.few in
    let low = c.requires.at in
    omega (arith, from, sized, many_nodes c.args.row.now c.args.rows.now c.args.at, few, low)

pub get-requires : goal.get-requires
get-requires c =
    let from = c.requires.can.from in
    let sized = c.requires.can.sized.nodes in
    let there = node_there c.args.row.now c.args.rows.now c.args.at c.args.follow.from (omega (arith, from, sized, many_nodes c.args.row.now c.args.rows.now c.args.at)) in
    let row = c.requires.can.row in
    omega (arith, row, there, c.requires.column.len)

pub returns : goal.returns
returns c =
    let from = c.requires.can.from in
    let sized = c.requires.can.sized.nodes in
    let there = node_there c.args.row.now c.args.rows.now c.args.at c.args.follow.from (omega (arith, from, sized, many_nodes c.args.row.now c.args.rows.now c.args.at)) in
    let g = c.args.plan_run.now.graph.now in
    let table : ℕ = rel_table c.args.plan_run.now.typed.now c.args.follow.rel in
    let way = c.args.follow.direction in
    let near : ℕ = slice_index c.args.rows.now (64 * c.args.follow.from + c.args.at) in
    let inside : near < near_rows g table way = subst (λ n. n < near_rows g table way) there c.requires.can.row in
    let found = c.get.ensures ∙ c.requires.column.neighbour near inside in record {
      first = found ∙ ap (λ n. slice_get (neighbours g table way n) 0) (sym there);
      inside = subst (λ o. IfSome o (λ other. other < near_rows g table (opposite way))) (sym found) (c.requires.column.ends near inside);
      few = subst (λ n. length (neighbours g table way n) < 2 ^ 32) (sym there) (let one = c.requires.column.one near inside in omega (arith, one));
    }

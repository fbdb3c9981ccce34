use Rattle.std.proofs.Common.{◌<◌, refl, sym, ◌∙◌, subst, arith}
use Rattle.std.specs.Prelude.{IfSome, slice_index}
use Rattle.gq_base.specs.Directions.{opposite}
use Rattle.gq_plan.specs.Rows.{rel_table}
use Rattle.gq_chains.specs.steps.Blocks.{IsPut, place_row}
use Rattle.gq_steps.specs.Reaching.{Reaches}
use Rattle.gq_store.specs.Neighbours.{near_rows, neighbours}
use Rattle.gq_chains.proofs.Walking.{many_nodes, none_past, put_dropped, put_written}
use Rattle.gq_chains.proofs.block_steps.reach_at.Goals as goal

pub bounds-rows-follow : goal.bounds-rows-follow
bounds-rows-follow c =
    let to = c.requires.can.to in
    let sized = c.requires.can.sized.nodes in
    let few = c.requires.few in
    let low = c.requires.at in
    omega (arith, to, sized, many_nodes c.args.row.now c.args.rows.now c.args.at, few, low)

pub returns-in-None : goal.returns-in-None
returns-in-None c =
    subst (IsPut (λ j old told new. Reaches c.args.plan_run.now.graph.now c.args.plan_run.now.typed.now c.args.follow 0 old told new) c.args.row.now c.args.offset c.args.at c.args.rows.now c.args.rows.now c.args.marks.now) (sym c.set.ensures.written)
    (put_dropped (λ j old told new. Reaches c.args.plan_run.now.graph.now c.args.plan_run.now.typed.now c.args.follow 0 old told new) c.args.row.now c.args.offset c.args.at c.args.rows.now c.args.marks.now c.requires.at c.requires.on
    (record {
      past = none_past (neighbours c.args.plan_run.now.graph.now (rel_table c.args.plan_run.now.typed.now c.args.follow.rel) c.args.follow.direction (slice_index (place_row c.args.row.now c.args.rows.now c.args.at).nodes c.args.follow.from)) (sym c.requires.found.first ∙ c.in-None.is);
      same = refl;
    }))

pub returns-in-Some : goal.returns-in-Some
returns-in-Some c =
    let to = c.requires.can.to in
    let sized = c.requires.can.sized.nodes in
    put_written (λ j old told new. Reaches c.args.plan_run.now.graph.now c.args.plan_run.now.typed.now c.args.follow 0 old told new) c.args.row.now c.args.offset c.args.at c.args.rows.now c.args.marks.now c.requires.at c.requires.on
    c.args.follow.to c.in-Some.found (omega (arith, to, sized, many_nodes c.args.row.now c.args.rows.now c.args.at)) c.requires.few c.told-rows
    (record {
      row = c.in-Some.found;
      leads = sym c.requires.found.first ∙ c.in-Some.is;
      inside = subst (λ o. IfSome o (λ other. other < near_rows c.args.plan_run.now.graph.now (rel_table c.args.plan_run.now.typed.now c.args.follow.rel) (opposite c.args.follow.direction))) c.in-Some.is c.requires.found.inside;
      few = c.requires.found.few;
      written = refl;
    })

use Rattle.std.proofs.Common.{◌≡◌, ◌<◌, ◌+◌, ◌&&◌, nat_lt, false, ap, subst, arith, length}
use Rattle.std.specs.Prelude.{All, slice_index, slice_index_or}
use Rattle.gq_base.specs.Directions.{opposite}
use Rattle.gq_plan.specs.Plans.{Close}
use Rattle.gq_plan.specs.Rows.{rel_table}
use Rattle.gq_store.specs.Neighbours.{near_rows}
use Rattle.gq_sift.specs.steps.Candidates.{leads_to}
use Rattle.gq_steps.specs.Levels.{step_at}
use Rattle.gq_steps.specs.Moves.{run_of}
use Rattle.gq_steps.specs.Follows.{CanList}
use Rattle.gq_steps.specs.declared.action.Action.TheVariants as act
use Rattle.gq_sift.proofs.Closed.{closing_candidates}
use Rattle.gq_steps.proofs.Acting.{acts}
use Rattle.gq_steps.proofs.Piecing.{listed_is}
use Rattle.gq_steps.proofs.Trying.{close_can, close_goes, low_step}
use Rattle.gq_sift.proofs.closing.candidates.Goals as goal
use Rattle.gq_sift.proofs.closing.candidates.Goals.{In-Close}

-- the step closes
closes : (c : In-Close) → step_at (run_of c.args.plan_run.now) c.args.group.first ≡ Close false c.in-Close.follow.rel c.in-Close.follow.from c.in-Close.follow.to c.in-Close.follow.direction
closes c = acts c.args.plan_run.now c.args.group.first c.args.group.action (act.Close c.in-Close.follow) c.requires.action c.in-Close.is

can : (c : In-Close) → CanList c.args.plan_run.now.graph.now c.args.plan_run.now.typed.now c.args.row.now c.in-Close.follow
can c =
    let k = run_of c.args.plan_run.now in
    record {
      follow = close_can k c.requires.run c.args.group.first (low_step c.args.plan_run.now c.args.group.first c.requires.step) c.args.row.now c.requires.held false c.in-Close.follow.rel c.in-Close.follow.from c.in-Close.follow.to c.in-Close.follow.direction (closes c);
      listed = listed_is k c.in-Close.follow.from c.in-Close.follow.to c.in-Close.follow.rel c.in-Close.follow.direction (close_goes k c.requires.run c.args.group.first (low_step c.args.plan_run.now c.args.group.first c.requires.step) c.args.row.now c.requires.held false c.in-Close.follow.rel c.in-Close.follow.from c.in-Close.follow.to c.in-Close.follow.direction (closes c));
    }

pub list-list-requires : goal.list-list-requires
list-list-requires c = can (goal.at.list-list-requires c).In-Close

pub bounds-as_slice-follow : goal.bounds-as_slice-follow
bounds-as_slice-follow c =
    let can_follow = (can (goal.at.bounds-as_slice-follow c).In-Close).follow in
    omega (arith, can_follow.to, can_follow.sized.nodes, ap length c.as_slice.ensures)

pub returns-in-Close : goal.returns-in-Close
returns-in-Close c =
    let k = run_of c.args.plan_run.now in
    let a = (goal.at.returns-in-Close c).In-Close in
    let same = c.list-list.ensures.value in
    let ends = subst (All (λ other. other < near_rows k.graph (rel_table k.typed c.in-Close.follow.rel) (opposite c.in-Close.follow.direction))) same c.list-list.ensures.ends in
    closing_candidates k c.requires.run c.args.group.first (low_step c.args.plan_run.now c.args.group.first c.requires.step) c.args.row.now c.requires.held false c.in-Close.follow.rel c.in-Close.follow.from c.in-Close.follow.to c.in-Close.follow.direction (closes a)
    c.args.first c.args.count c.closing.result c.closing.ensures.whole
    (λ j.
    subst (λ l. slice_index_or c.closing.result j false ≡ (nat_lt j c.args.count && leads_to l (c.args.first + j) (slice_index c.args.row.now.nodes c.in-Close.follow.to))) same
    (subst (λ ns. slice_index_or c.closing.result j false ≡ (nat_lt j c.args.count && leads_to c.list-list.result.now (c.args.first + j) (slice_index ns c.in-Close.follow.to))) c.as_slice.ensures (c.closing.ensures.each j)))
    ends (omega (arith, c.list-list.ensures.few, ap length same))

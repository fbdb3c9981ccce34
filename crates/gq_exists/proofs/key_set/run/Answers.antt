use Rattle.std.proofs.Common.{◌≡◌, ◌∙◌, ap, map, sym, arith, Ok, Err}
use Rattle.gq_pipe.proofs.Assigned.{covers_bind_all}
use Rattle.gq_pipe.proofs.Counted.{each_told}
use Rattle.gq_pipe.proofs.Rooms.{most_rooms, spare_same}
use Rattle.gq_pipe.proofs.Slots.{all_back}
use Rattle.gq_pipe.specs.Bound.{binds_all}
use Rattle.gq_pipe.specs.Progress.{Source, plan_in}
use Rattle.gq_plan.proofs.ColumnBounds.{columns_bound}
use Rattle.gq_plan.proofs.StepEquations.{plan_is}
use Rattle.gq_plan.specs.Meaning.{meaning, whole}
use Rattle.gq_plan.specs.Plans.{plan_of}
use Rattle.gq_exists.specs.steps.Running.{made_keys, owed_keys}
use Rattle.gq_exists.proofs.Filling.{bag_same}
use Rattle.gq_exists.proofs.Gathered.{alike}
use Rattle.gq_exists.proofs.Spent.{one_spent}
use Rattle.gq_exists.proofs.key_set.run.Goals as goal
use Rattle.gq_exists.proofs.key_set.run.Goals.{After-finish-own}

pub make_builds-requires-clause-room : goal.make_builds-requires-clause-room
make_builds-requires-clause-room c =
    most_rooms c.args.pool.now c.args.typed.now c.args.graph.now.catalog c.requires.sound c.requires.room (plan_of c.args.plan.now) c.requires.covers.fits

pub start-requires-clause-room : goal.start-requires-clause-room
start-requires-clause-room c =
    let few = columns_bound c.args.graph.now.catalog c.args.typed.now (plan_of c.args.plan.now) c.requires.sound c.requires.covers.fits in
    omega (arith, few, c.requires.room, spare_same c.args.pool.now c.make_builds.new.pool c.make_builds.ensures.pool)

pub fill-filled-requires-clause-complete : goal.fill-filled-requires-clause-complete
fill-filled-requires-clause-complete c =
    let y = c.args.typed.now in
    ap (λ (s : Source). binds_all y (plan_in s)) c.in_ok-pipeline.ensures.source ∙ ap (binds_all y) (sym (plan_is c.args.plan.now)) ∙ covers_bind_all c.args.graph.now.catalog y (plan_of c.args.plan.now) c.requires.covers

pub returns-in-Err-clause-gathers : goal.returns-in-Err-clause-gathers
returns-in-Err-clause-gathers c =
    let y = c.args.typed.now in
    let w = c.args.gathering.now.width in
    alike (owed_keys y w c.in_ok-pipeline.pipeline) (made_keys c.args.graph.now y w c.args.plan.now) c.args.gathering.now c.fill-filled.new.gathering (Err c.in-Err.refusal)
    (bag_same w (map (whole y) c.in_ok-pipeline.pipeline.owed) (meaning c.args.graph.now y (plan_of c.args.plan.now)) c.in_ok-pipeline.ensures.meaning) c.in-Err.ensures.gathers

pub returns-clause-gathers : goal.returns-clause-gathers
returns-clause-gathers c =
    let y = c.args.typed.now in
    let w = c.args.gathering.now.width in
    alike (owed_keys y w c.in_ok-pipeline.pipeline) (made_keys c.args.graph.now y w c.args.plan.now) c.args.gathering.now c.fill-filled.new.gathering (Ok tt)
    (bag_same w (map (whole y) c.in_ok-pipeline.pipeline.owed) (meaning c.args.graph.now y (plan_of c.args.plan.now)) c.in_ok-pipeline.ensures.meaning) c.in-Ok-filled.ensures.gathers

pub returns-clause-spent : goal.returns-clause-spent
returns-clause-spent c =
    let y = c.args.typed.now in
    let start = c.in_ok-pipeline.ensures in
    one_spent c.args.graph.now y (plan_of c.args.plan.now) c.in_ok-pipeline.pipeline c.fill-filled.new.pipeline c.finish-own.result start.meaning
    (each_told c.args.graph.now y (plan_of c.args.plan.now) c.in-Ok.builds.levels c.in-Ok.ensures.builds c.in_ok-pipeline.pipeline.keys start.count) start.columns c.fill-filled.ensures.columns
    c.finish-own.ensures.chunks c.finish-own.ensures.columns c.args.gathering.now.width c.in-Ok-filled.ensures.ran c.args.spent.now c.push.new.self c.in_ok-push.ensures.pushed

-- the slots that are out when the pipeline has ended are those that were before it
kept : (c : After-finish-own) → c.finish-own.new.pool.out ≡ c.args.pool.now.out
kept c =
    all_back c.make_builds.new.pool c.start.new.pool c.fill-filled.new.pool c.finish-own.new.pool c.in_ok-pipeline.pipeline.slots c.fill-filled.new.pipeline.slots
    c.in_ok-pipeline.ensures.back c.fill-filled.ensures.slots c.fill-filled.ensures.held c.finish-own.ensures.back ∙ c.make_builds.ensures.pool

pub returns-in-Err-clause-pool : goal.returns-in-Err-clause-pool
returns-in-Err-clause-pool c = kept (goal.at.returns-in-Err-clause-pool c).After-finish-own

pub returns-in_err-push-clause-pool : goal.returns-in_err-push-clause-pool
returns-in_err-push-clause-pool c = kept (goal.at.returns-in_err-push-clause-pool c).After-finish-own

pub returns-clause-pool : goal.returns-clause-pool
returns-clause-pool c = kept (goal.at.returns-clause-pool c).After-finish-own

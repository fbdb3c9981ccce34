use Rattle.std.proofs.Common.{◌≡◌, ◌∙◌, ◌++◌, ◌∷◌, List, [], ap, map, refl, sym, subst, Some, arith, length}
use Rattle.std.specs.List.{AllZip}
use Rattle.std.proofs.lemmas.List.Elements.{recursion_from_All}
use Rattle.std.proofs.lemmas.List.FromFn.{length-map-range_with_len}
use Rattle.std.proofs.lemmas.List.Sorted.{All-permutation, IsPermutation-sym}
use Rattle.gq_law_plans.proofs.Made.{plans_make}
use Rattle.gq_law_plans.specs.Safe.{IsMade}
use Rattle.gq_order.specs.declared.stats.Stats.{Stats}
use Rattle.gq_rows.specs.Growing.{IsTested}
use Rattle.gq_pipe.specs.Bound.{binds_all}
use Rattle.gq_pipe.specs.Limits.{sides_within}
use Rattle.gq_pipe.specs.Progress.{Source, plan_in}
use Rattle.gq_plan.proofs.ColumnBounds.{columns_bound}
use Rattle.gq_plan.proofs.StepEquations.{plan_is}
use Rattle.gq_plan.specs.Meaning.{meaning, whole}
use Rattle.gq_plan.specs.Plans.{plan_of}
use Rattle.gq_kept.specs.Answers.{cut_of}
use Rattle.gq_kept.specs.Tables.{Table}
use Rattle.gq_execute.specs.Planned.{IsPlanIn}
use Rattle.gq_drain.specs.Taking.{IsPlain}
use Rattle.gq_execute.proofs.Parting.{sides_light, sides_refused}
use Rattle.gq_pipe.proofs.Assigned.{covers_bind_all}
use Rattle.gq_pipe.proofs.Counted.{each_told}
use Rattle.gq_pipe.proofs.Rooms.{most_rooms, spare_same}
use Rattle.gq_pipe.proofs.Slots.{all_back}
use Rattle.gq_law_plans.proofs.Wholes.{plans_mean}
use Rattle.gq_execute.proofs.Turning.{own_counted, own_keys, own_spent, turn_spent, turn_stops, turned}
use Rattle.gq_drain.specs.Prepared.{IsPreparedFor, later_by}
use Rattle.gq_drain.specs.Becoming.{given_on}
use Rattle.gq_execute.proofs.answering.take_turn.Goals as goal
use Rattle.gq_execute.proofs.answering.take_turn.Goals.{After-finish-own}

pub plan_for-requires-clause-nodes : goal.plan_for-requires-clause-nodes
plan_for-requires-clause-nodes c = ap (λ (s : Stats). length s.nodes) c.requires.stats ∙ length-map-range_with_len _ 0 _

pub plan_for-requires-clause-rels : goal.plan_for-requires-clause-rels
plan_for-requires-clause-rels c = ap (λ (s : Stats). length s.rels) c.requires.stats ∙ length-map-range_with_len _ 0 _

pub make_builds-requires-clause-room : goal.make_builds-requires-clause-room
make_builds-requires-clause-room c =
    most_rooms c.args.pool.now c.args.typed.now c.args.graph.now.catalog c.requires.sound c.requires.slots (plan_of c.in_ok-planned.planned.plan) c.in_ok-planned.ensures.covers.fits

pub start-requires-clause-room : goal.start-requires-clause-room
start-requires-clause-room c =
    let few = columns_bound c.args.graph.now.catalog c.args.typed.now (plan_of c.in_ok-planned.planned.plan) c.requires.sound c.in_ok-planned.ensures.covers.fits in
    omega (arith, few, c.requires.slots, spare_same c.args.pool.now c.make_builds.new.pool c.make_builds.ensures.pool)

pub returns-in-Err : goal.returns-in-Err
returns-in-Err c = record {
  drains = rw c.from.ensures (sides_refused (given_on (later_by c.args.graph.now c.args.prepared.now)) c.args.graph.now c.args.settings.now.order c.args.typed.now c.args.table.now.bound c.args.table.now c.args.table.now (plan_of c.in_ok-planned.planned.plan)
      c.stands_valid.ensures c.requires.sound c.in_ok-planned.ensures.parts c.in_ok-planned.ensures.alone c.requires.most c.in-Err.refusal c.in-Err.ensures.refused);
  spends = tt;
  graph = tt;
  slots = c.make_builds.ensures.pool;
}

pub drain_all-drained-requires-clause-run : goal.drain_all-drained-requires-clause-run
drain_all-drained-requires-clause-run c =
    let p = c.in_ok-pipeline.ensures in
    record {
      graph = ap (λ (s : Source). s.graph) p.source;
      alternative = ap (λ (t : Table). t.alternative) c.start_alternative.ensures ∙ ap (λ (s : Source). Some s.typed) (sym p.source);
      started = ap (λ (t : Table). t.graph) c.start_alternative.ensures ∙ c.requires.graph;
      complete = ap (λ (s : Source). binds_all s.typed (plan_in s)) p.source ∙ ap (binds_all c.args.typed.now) (sym (plan_is c.in_ok-planned.planned.plan)) ∙ covers_bind_all _ _ _ c.in_ok-planned.ensures.covers;
    }

pub drain_all-drained-requires-clause-made : goal.drain_all-drained-requires-clause-made
drain_all-drained-requires-clause-made c =
    let g = c.args.graph.now in
    let y = c.args.typed.now in
    let plan = plan_of c.in_ok-planned.planned.plan in
    let ts = map (whole y) c.in_ok-pipeline.pipeline.owed in
    recursion_from_All (IsMade g y) ts
    (All-permutation (IsMade g y) (meaning g y plan) ts (IsPermutation-sym _ _ c.in_ok-pipeline.ensures.meaning) (plans_make g y plan c.stands_valid.ensures c.requires.sound c.in_ok-planned.ensures.covers))

pub returns-in-Err-drained-clause-drains : goal.returns-in-Err-drained-clause-drains
returns-in-Err-drained-clause-drains c =
    let p = c.in_ok-pipeline.ensures in
    let g = c.args.graph.now in
    let y = c.args.typed.now in
    let plan = plan_of c.in_ok-planned.planned.plan in
    let few = ap (λ m. sides_within g y m plan) (sym c.requires.most) ∙ c.in-Ok.ensures.few in
    let light = sides_light g c.args.settings.now.order y c.args.table.now.most plan c.stands_valid.ensures c.requires.sound c.in_ok-planned.ensures.parts c.in_ok-planned.ensures.alone few in
    rw c.from-in-Err-drained.ensures (turn_stops (given_on (later_by c.args.graph.now c.args.prepared.now)) g c.args.settings.now.order y c.args.table.now c.drain_all-drained.new.table plan c.in_ok-planned.ensures.covers light c.start_alternative.new.self c.in_ok-pipeline.pipeline
    c.start_alternative.ensures (ap (λ (s : Source). s.typed) p.source) p.meaning c.in-Err-drained.refusal c.in-Err-drained.ensures.takes)

pub returns-clause-drains : goal.returns-clause-drains
returns-clause-drains c =
    let p = c.in_ok-pipeline.ensures in
    let g = c.args.graph.now in
    let y = c.args.typed.now in
    let plan = plan_of c.in_ok-planned.planned.plan in
    let few = ap (λ m. sides_within g y m plan) (sym c.requires.most) ∙ c.in-Ok.ensures.few in
    let light = sides_light g c.args.settings.now.order y c.args.table.now.most plan c.stands_valid.ensures c.requires.sound c.in_ok-planned.ensures.parts c.in_ok-planned.ensures.alone few in
    turned (given_on (later_by c.args.graph.now c.args.prepared.now)) g c.args.settings.now.order y c.args.table.now c.drain_all-drained.new.table plan c.in_ok-planned.ensures.covers light c.start_alternative.new.self c.in_ok-pipeline.pipeline
    c.start_alternative.ensures (ap (λ (s : Source). s.typed) p.source) p.meaning c.in-Ok-drained.ensures.takes

pub returns-clause-spends : goal.returns-clause-spends
returns-clause-spends c =
    let p = c.in_ok-pipeline.ensures in
    let g = c.args.graph.now in
    let y = c.args.typed.now in
    let order = c.args.settings.now.order in
    let plan = plan_of c.in_ok-planned.planned.plan in
    let costs = c.in_ok-planned.planned.costs in
    let made = c.in_ok-planned.ensures in
    let start = c.start_alternative.new.self in
    let new = c.drain_all-drained.new.table in
    let begun = c.in_ok-pipeline.pipeline in
    let now = c.drain_all-drained.new.pipeline in
    let own = c.finish-own.result in
    let each = each_told g y plan c.in-Ok.builds.levels c.in-Ok.ensures.builds begun.keys p.count in
    let ends = c.in-Ok-drained.ensures in
    let same_bound = ends.takes.alike.bound ∙ ap (λ (t : Table). t.bound) c.start_alternative.ensures in
    record {
      turn = record { sides = c.in-Ok.builds.spent; own = own };
      is = turn_spent g c.args.table.now.bound order y plan costs c.in-Ok.builds.spent own (subst (λ (s : Stats). IsPlanIn order g.catalog s y plan costs) c.requires.stats made.plan) made.covers (plans_mean g y plan c.stands_valid.ensures c.requires.sound made.covers) made.alone c.in-Ok.ensures.spent
          (own_spent g y plan start new begun now own p.meaning each p.columns ends.ran c.drain_all-drained.ensures.columns c.finish-own.ensures.chunks c.finish-own.ensures.columns)
          (λ uncut. own_keys g y plan start new begun now own p.meaning each p.columns ends.ran c.drain_all-drained.ensures.columns c.finish-own.ensures.chunks c.finish-own.ensures.columns (ap cut_of same_bound ∙ uncut));
      all = c.in_ok-push.ensures.pushed ∙ ap (λ l. l ++ own ∷ []) c.into_spent-spent.ensures;
      chunks = λ plain before h.
          own_counted g y plan start new begun now own p.meaning each p.columns ends.ran c.drain_all-drained.ensures.columns c.finish-own.ensures.chunks c.finish-own.ensures.columns (subst IsPlain (sym (ap (λ (t : Table). t.bound) c.start_alternative.ensures)) plain) before
          (ap (λ (t : Table). t.pushed) c.start_alternative.ensures ∙ h);
    }

pub returns-clause-graph : goal.returns-clause-graph
returns-clause-graph c = c.in-Ok-drained.ensures.graph ∙ ap (λ (t : Table). t.graph) c.start_alternative.ensures

-- the slots that are out when the pipeline has ended are those that were before the turn
kept : (c : After-finish-own) → c.finish-own.new.pool.out ≡ c.args.pool.now.out
kept c =
    all_back c.make_builds.new.pool c.start.new.pool c.drain_all-drained.new.pool c.finish-own.new.pool c.in_ok-pipeline.pipeline.slots c.drain_all-drained.new.pipeline.slots
    c.in_ok-pipeline.ensures.back c.drain_all-drained.ensures.slots c.drain_all-drained.ensures.held c.finish-own.ensures.back ∙ c.make_builds.ensures.pool

pub returns-in-Err-drained-clause-slots : goal.returns-in-Err-drained-clause-slots
returns-in-Err-drained-clause-slots c = kept (goal.at.returns-in-Err-drained-clause-slots c).After-finish-own

pub returns-in_err-push-clause-slots : goal.returns-in_err-push-clause-slots
returns-in_err-push-clause-slots c = kept (goal.at.returns-in_err-push-clause-slots c).After-finish-own

pub returns-clause-slots : goal.returns-clause-slots
returns-clause-slots c = kept (goal.at.returns-clause-slots c).After-finish-own

-- where some tests are of some paths, and there are tests, there are paths
some_paths : {X Y : Type 0} (R : X → Y → Type 0) (xs : List X) (ys : List Y) → AllZip R xs ys → (ys ≡ [] → ⊥) → xs ≡ [] → ⊥
some_paths R [] [] each some none = some refl
some_paths R [] (y ∷ ys) each some none = absurd each
some_paths R (x ∷ xs) ys each some none = absurd (cc none)

pub drain_all-drained-requires-clause-tested : goal.drain_all-drained-requires-clause-tested
drain_all-drained-requires-clause-tested c =
    let same = ap (λ (t : Table). t.bound) c.start_alternative.ensures in
    λ some. subst IsTested (sym same) (some_paths _ c.args.table.now.bound.patterns c.args.prepared.now.tests.all c.requires.prepared.tests some)

pub drain_all-drained-requires-clause-prepared : goal.drain_all-drained-requires-clause-prepared
drain_all-drained-requires-clause-prepared c =
    subst (λ b. IsPreparedFor c.args.graph.now b c.args.prepared.now) (sym (ap (λ (t : Table). t.bound) c.start_alternative.ensures)) c.requires.prepared.ready

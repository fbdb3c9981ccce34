use Rattle.std.proofs.Common.{◌∙◌, [], ap₂, map, subst, Err}
use Rattle.gq_law_answers.specs.Answered.{meanings}
use Rattle.gq_plan.specs.Keys.{key_of}
use Rattle.gq_plan.specs.Plans.{plan_of}
use Rattle.gq_exists.specs.Made.{keys_of}
use Rattle.gq_exists.specs.steps.Gathered.{Gathers, Stands}
use Rattle.gq_exists.proofs.Filling.{begun, no_more, refused}
use Rattle.gq_exists.proofs.key_set.KeySet.make.Goals as goal
use Rattle.gq_exists.proofs.key_set.KeySet.make.Goals.{In-Ok}

pub returns-in-Err-clause-refused : goal.returns-in-Err-clause-refused
returns-in-Err-clause-refused c =
    let g = c.in_ok-gathering in
    let same = ap₂ (λ w ys. map (key_of w) (meanings c.args.graph.now ys (map plan_of c.args.plans.now))) (g.ensures.width ∙ c.len-2.ensures) c.as_slice-alternatives.ensures in
    refused c.args.limit (keys_of c.args.graph.now c.args.part.now (map plan_of c.args.plans.now)) g.gathering c.run_each.new.gathering c.in-Err.refusal g.ensures.none g.ensures.limit
    (subst (λ l. Gathers l g.gathering c.run_each.new.gathering (Err c.in-Err.refusal)) same c.in-Err.ensures.gathers)

-- they stand
stands : (c : In-Ok) → Stands c.in_ok-gathering.gathering.limit (keys_of c.args.graph.now c.args.part.now (map plan_of c.args.plans.now)) c.run_each.new.gathering.keys
stands c =
    let g = c.in_ok-gathering in
    let same = ap₂ (λ w ys. map (key_of w) (meanings c.args.graph.now ys (map plan_of c.args.plans.now))) (g.ensures.width ∙ c.len-2.ensures) c.as_slice-alternatives.ensures in
    subst (λ l. Stands c.in_ok-gathering.gathering.limit l c.run_each.new.gathering.keys) same
    (c.in-Ok.ensures.gathers.stands [] (begun c.in_ok-gathering.gathering c.in_ok-gathering.ensures.none))

pub returns-clause-keys : goal.returns-clause-keys
returns-clause-keys c = λ key. (stands (goal.at.returns-clause-keys c).In-Ok).same key

pub returns-clause-few : goal.returns-clause-few
returns-clause-few c =
    let all = keys_of c.args.graph.now c.args.part.now (map plan_of c.args.plans.now) in
    let kept = stands (goal.at.returns-clause-few c).In-Ok in
    no_more c.args.limit all c.run_each.new.gathering.keys (subst (λ n. Stands n all c.run_each.new.gathering.keys) c.in_ok-gathering.ensures.limit kept)

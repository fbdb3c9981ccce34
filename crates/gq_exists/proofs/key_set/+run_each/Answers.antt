use Rattle.std.proofs.Common.{◌∙◌, ◌∷◌, ap, length, map, subst, sym, arith, Err}
use Rattle.std.specs.List.{All, AllZip}
use Rattle.std.proofs.lemmas.List.Elements.{All-head, All-tail}
use Rattle.gq_law_answers.specs.Answered.{meanings}
use Rattle.gq_pipe.proofs.Rooms.{spare_same}
use Rattle.gq_plan.specs.Covers.{Covers}
use Rattle.gq_plan.specs.Keys.{key_of}
use Rattle.gq_plan.specs.Plans.{plan_of}
use Rattle.gq_plan.specs.Soundness.{IsSound}
use Rattle.gq_exists.specs.steps.Gathered.{Gathers}
use Rattle.gq_exists.specs.steps.Running.{made_keys}
use Rattle.gq_exists.proofs.Filling.{each_keys, full_takes}
use Rattle.gq_exists.proofs.Gathered.{on_ok, stops, then}
use Rattle.gq_exists.specs.steps.Running.{HasSpentMore, is_full_at}
use Rattle.gq_exists.proofs.Spent.{each_spent, full_none, none_spent}
use Rattle.gq_exists.proofs.key_set.+run_each.Goals as goal

pub returns-then-is_full-clause-gathers : goal.returns-then-is_full-clause-gathers
returns-then-is_full-clause-gathers t c =
    full_takes c.args.gathering.now c.requires.is (sym c.is_full.ensures ∙ c.if-is_full.true) (meanings c.args.graph.now c.args.alternatives.now (map plan_of c.args.plans.now))

pub run-requires-clause-sound : goal.run-requires-clause-sound
run-requires-clause-sound t c =
    All-head (IsSound c.args.graph.now.catalog) c.in-Some.typed.now c.in-Some.alternatives.now (subst (All (IsSound c.args.graph.now.catalog)) c.in-Some.ensures.cases.0 c.requires.sound)

pub run_each-requires : goal.run_each-requires
run_each-requires t c =
    let sound = IsSound c.args.graph.now.catalog in
    let covers = Covers c.args.graph.now.catalog in
    let e = c.in-Some.ensures.cases.0 in
    let f = c.in-Some-split_first.ensures.cases.0 in
    let both = subst (λ ys. AllZip covers ys (map plan_of c.args.plans.now)) e c.requires.covers in
    let later = subst (λ ps. AllZip covers (c.in-Some.typed.now ∷ c.in-Some.alternatives.now) (map plan_of ps)) f both in
    let sounds = All-tail sound c.in-Some.typed.now c.in-Some.alternatives.now (subst (All sound) e c.requires.sound) in
    let kept = spare_same c.args.pool.now c.run.new.pool c.run.ensures.pool in
    (omega (arith, c.decreases, ap length f), (sounds, (later.1, (c.in-Ok.ensures.gathers.is, omega (arith, kept, c.requires.room)))))

pub returns-in-Err-clause-gathers : goal.returns-in-Err-clause-gathers
returns-in-Err-clause-gathers t c =
    let g = c.args.graph.now in
    let w = c.args.gathering.now.width in
    let ys = c.in-Some.alternatives.now in
    let ps = c.in-Some-split_first.plans.now in
    let keys = each_keys g c.args.alternatives.now ys c.args.plans.now ps c.in-Some.typed.now c.in-Some-split_first.plan.now c.in-Some.ensures.cases.0 c.in-Some-split_first.ensures.cases.0 w in
    subst (λ l. Gathers l c.args.gathering.now c.run.new.gathering (Err c.in-Err.refusal)) (sym keys)
    (stops (made_keys g c.in-Some.typed.now w c.in-Some-split_first.plan.now) (map (key_of w) (meanings g ys (map plan_of ps))) c.args.gathering.now c.run.new.gathering c.run.new.gathering c.in-Err.refusal c.in-Err.ensures.gathers)

pub returns-clause-gathers : goal.returns-clause-gathers
returns-clause-gathers t c =
    let g = c.args.graph.now in
    let w = c.args.gathering.now.width in
    let ys = c.in-Some.alternatives.now in
    let ps = c.in-Some-split_first.plans.now in
    let old = c.args.gathering.now in
    let mid = c.run.new.gathering in
    let new = c.run_each.new.gathering in
    let took = c.in-Ok.ensures.gathers in
    let keys = each_keys g c.args.alternatives.now ys c.args.plans.now ps c.in-Some.typed.now c.in-Some-split_first.plan.now c.in-Some.ensures.cases.0 c.in-Some-split_first.ensures.cases.0 w in
    subst (λ l. Gathers l old new c.run_each.result) (sym keys)
    (then (made_keys g c.in-Some.typed.now w c.in-Some-split_first.plan.now) (map (key_of w) (meanings g ys (map plan_of ps))) old mid new c.run_each.result took
    (subst (λ k. Gathers (map (key_of k) (meanings g ys (map plan_of ps))) mid new c.run_each.result) took.width c.run_each.ensures.gathers))

pub returns-then-is_full-clause-spent : goal.returns-then-is_full-clause-spent
returns-then-is_full-clause-spent t c =
    let full = is_full_at c.args.gathering.now in
    none_spent full c.args.gathering.now.width c.args.graph.now c.args.alternatives.now (map plan_of c.args.plans.now) c.args.spent.now
    (full_none full c.args.gathering.now.width c.args.graph.now c.args.alternatives.now (map plan_of c.args.plans.now) (sym c.is_full.ensures ∙ c.if-is_full.true))

pub returns-clause-spent : goal.returns-clause-spent
returns-clause-spent t c =
    let g = c.args.graph.now in
    let old = c.args.gathering.now in
    let mid = c.run.new.gathering in
    let y = c.in-Some.typed.now in
    let p = c.in-Some-split_first.plan.now in
    let ys = c.in-Some.alternatives.now in
    let ps = c.in-Some-split_first.plans.now in
    let full = is_full_at old in
    let w = old.width in
    let before = c.args.spent.now in
    let after = c.run_each.new.spent in
    on_ok c.run_each.result
    (λ more.
    subst (λ zs. HasSpentMore full w g zs (map plan_of c.args.plans.now) before after) (sym c.in-Some.ensures.cases.0)
    (subst (λ qs. HasSpentMore full w g (y ∷ ys) (map plan_of qs) before after) (sym c.in-Some-split_first.ensures.cases.0)
    (each_spent g y p ys ps old mid c.requires.is (sym c.is_full.ensures ∙ c.if-is_full.false) c.in-Ok.ensures.gathers before c.run.new.spent after c.in-Ok.ensures.spent more)))
    c.run_each.ensures.spent

use Rattle.std.proofs.Common.{◌∷◌, ap, length, map, subst, sym, arith, ◌<◌}
use Rattle.std.specs.Prelude.{All}
use Rattle.std.specs.List.{AllZip}
use Rattle.std.proofs.lemmas.List.Elements.{All-head, All-tail}
use Rattle.gq_pipe.proofs.Rooms.{spare_same}
use Rattle.gq_plan.specs.Covers.{Covers}
use Rattle.gq_plan.specs.Plans.{plan_of}
use Rattle.gq_plan.specs.Soundness.{IsSound}
use Rattle.gq_plan.specs.declared.typed.Typed.{Typed}
use Rattle.gq_optional.specs.steps.Making.{AddsMatches, HasSpentEach}
use Rattle.gq_optional.proofs.Gathered.{adds_more, on_ok, spends_more}
use Rattle.gq_optional.proofs.gathering.+list_each.Goals as goal

pub list_one-requires-clause-sound : goal.list_one-requires-clause-sound
list_one-requires-clause-sound t c =
    All-head (IsSound c.args.graph.now.catalog) c.in-Some.typed.now c.in-Some.alternatives.now (subst (All (IsSound c.args.graph.now.catalog)) c.in-Some.ensures.cases.0 c.requires.sound)

pub list_each-requires : goal.list_each-requires
list_each-requires t c =
    let sound = IsSound c.args.graph.now.catalog in
    let covers = Covers c.args.graph.now.catalog in
    let keyed : Typed → Type 0 = λ y. All (λ v. v < length y.nodes) c.args.keys.now in
    let e = c.in-Some.ensures.cases.0 in
    let f = c.in-Some-split_first.ensures.cases.0 in
    let y = c.in-Some.typed.now in
    let ys = c.in-Some.alternatives.now in
    let both = subst (λ l. AllZip covers l (map plan_of c.args.plans.now)) e c.requires.covers in
    let later = subst (λ l. AllZip covers (y ∷ ys) (map plan_of l)) f both in
    let sounds = All-tail sound y ys (subst (All sound) e c.requires.sound) in
    let keys = All-tail keyed y ys (subst (All keyed) e c.requires.keys) in
    (omega (arith, c.decreases, ap length f), (sounds, (later.1, (keys, omega (arith, spare_same c.args.pool.now c.list_one.new.pool c.list_one.ensures.pool, c.requires.room)))))

pub returns-clause-adds : goal.returns-clause-adds
returns-clause-adds t c =
    let g = c.args.graph.now in
    let keys = c.args.keys.now in
    let old = c.args.matches.now in
    let new = c.list_each.new.matches in
    let y = c.in-Some.typed.now in
    let p = c.in-Some-split_first.plan.now in
    let ys = c.in-Some.alternatives.now in
    let ps = c.in-Some-split_first.plans.now in
    on_ok c.list_each.result
    (λ more.
    subst (λ zs. AddsMatches g zs (map plan_of c.args.plans.now) keys old new) (sym c.in-Some.ensures.cases.0)
    (subst (λ qs. AddsMatches g (y ∷ ys) (map plan_of qs) keys old new) (sym c.in-Some-split_first.ensures.cases.0)
    (adds_more g y (plan_of p) ys (map plan_of ps) keys c.in-Ok.one old c.push.new.self new c.in-Ok.ensures.matches c.in_ok-push.ensures.pushed more)))
    c.list_each.ensures.adds

pub returns-clause-spent : goal.returns-clause-spent
returns-clause-spent t c =
    let g = c.args.graph.now in
    let old = c.args.spent.now in
    let new = c.list_each.new.spent in
    let y = c.in-Some.typed.now in
    let p = c.in-Some-split_first.plan.now in
    let ys = c.in-Some.alternatives.now in
    let ps = c.in-Some-split_first.plans.now in
    on_ok c.list_each.result
    (λ more.
    subst (λ zs. HasSpentEach g zs (map plan_of c.args.plans.now) old new) (sym c.in-Some.ensures.cases.0)
    (subst (λ qs. HasSpentEach g (y ∷ ys) (map plan_of qs) old new) (sym c.in-Some-split_first.ensures.cases.0)
    (spends_more g y (plan_of p) ys (map plan_of ps) old c.list_one.new.spent new c.in-Ok.ensures.spent more)))
    c.list_each.ensures.spent

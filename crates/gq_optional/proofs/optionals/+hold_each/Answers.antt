use Rattle.std.proofs.Common.{◌∙◌, ◌∷◌, ◌++◌, List, ap, length, map, subst, sym, arith, ℕ}
use Rattle.std.specs.Prelude.{All}
use Rattle.std.specs.List.{AllZip}
use Rattle.std.proofs.lemmas.List.Elements.{All-head, All-tail}
use Rattle.gq_pipe.proofs.Rooms.{spare_same}
use Rattle.gq_plan.specs.Plans.{Plan, plan_of}
use Rattle.gq_plan.specs.declared.plan.Plan as code
use Rattle.gq_optional.specs.Made.{AreCovered}
use Rattle.gq_optional.specs.steps.Making.{AddsClauses, CanHold, HasSpentClauses, HasSpentEach, IsClauseOf}
use Rattle.gq_optional.proofs.Gathered.{adds_clause, on_ok, spends_clause}
use Rattle.gq_optional.proofs.optionals.+hold_each.Goals as goal

abbrev plans_of : List (List code.Plan) → List (List Plan)
plans_of pss = map (map plan_of) pss

pub hold-requires-clause-part : goal.hold-requires-clause-part
hold-requires-clause-part t c =
    All-head (CanHold c.args.graph.now.catalog) c.in-Some.part.now c.in-Some.parts.now (subst (All (CanHold c.args.graph.now.catalog)) c.in-Some.ensures.cases.0 c.requires.parts)

pub hold_each-requires : goal.hold_each-requires
hold_each-requires t c =
    let can = CanHold c.args.graph.now.catalog in
    let covers = AreCovered c.args.graph.now.catalog in
    let e = c.in-Some.ensures.cases.0 in
    let f = c.in-Some-split_first.ensures.cases.0 in
    let part = c.in-Some.part.now in
    let parts = c.in-Some.parts.now in
    let both = subst (λ l. AllZip covers l (plans_of c.args.plans.now)) e c.requires.covers in
    let later = subst (λ l. AllZip covers (part ∷ parts) (plans_of l)) f both in
    let cans = All-tail can part parts (subst (All can) e c.requires.parts) in
    (omega (arith, c.decreases, ap length f), (cans, (later.1, omega (arith, spare_same c.args.pool.now c.hold.new.pool c.hold.ensures.pool, c.requires.room))))

pub returns-clause-adds : goal.returns-clause-adds
returns-clause-adds t c =
    let g = c.args.graph.now in
    let known = c.args.known.now.items in
    let old = c.args.clauses.now in
    let new = c.hold_each.new.clauses in
    let part = c.in-Some.part.now in
    let ps = c.in-Some-split_first.own.now in
    let parts = c.in-Some.parts.now in
    let pss = c.in-Some-split_first.plans.now in
    on_ok c.hold_each.result
    (λ more.
    subst (λ zs. AddsClauses g known zs (plans_of c.args.plans.now) old new) (sym c.in-Some.ensures.cases.0)
    (subst (λ qs. AddsClauses g known (part ∷ parts) (plans_of qs) old new) (sym c.in-Some-split_first.ensures.cases.0)
    (adds_clause g part (map plan_of ps) parts (plans_of pss) known c.make_known.new.known.items c.in-Ok.clause old c.push.new.self new (subst (λ (t : List ℕ × List code.Plan). IsClauseOf g t.0 part (map plan_of t.1) c.in-Ok.clause) (λ i. (c.as_slice-known_here.ensures.value i, c.as_slice.ensures i)) c.in-Ok.ensures.clause)
    (c.in_ok-make_known.ensures ∙ ap (λ l. known ++ l) c.as_slice-2.ensures) c.in_ok-push.ensures.pushed more)))
    c.hold_each.ensures.adds

pub returns-clause-spent : goal.returns-clause-spent
returns-clause-spent t c =
    let g = c.args.graph.now in
    let old = c.args.spent.now in
    let new = c.hold_each.new.spent in
    let part = c.in-Some.part.now in
    let ps = c.in-Some-split_first.own.now in
    let parts = c.in-Some.parts.now in
    let pss = c.in-Some-split_first.plans.now in
    on_ok c.hold_each.result
    (λ more.
    subst (λ zs. HasSpentClauses g zs (plans_of c.args.plans.now) old new) (sym c.in-Some.ensures.cases.0)
    (subst (λ qs. HasSpentClauses g (part ∷ parts) (plans_of qs) old new) (sym c.in-Some-split_first.ensures.cases.0)
    (spends_clause g part (map plan_of ps) parts (plans_of pss) old c.hold.new.spent new
    (subst (λ (l : List code.Plan). HasSpentEach g part.alternatives (map plan_of l) old c.hold.new.spent) c.as_slice.ensures c.in-Ok.ensures.spent) more)))
    c.hold_each.ensures.spent

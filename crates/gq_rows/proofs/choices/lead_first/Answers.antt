use Rattle.std.proofs.Common.{◌≡◌, ◌∙◌, ap, subst, sym}
use Rattle.std.specs.Prelude.{IfSome}
use Rattle.gq_eval.specs.Asked.{asked}
use Rattle.gq_listed.specs.Finding.{IsFinder}
use Rattle.gq_listed.specs.Keys.{FindsKey}
use Rattle.gq_plan.specs.declared.bound.SortExpr.{SortExpr}
use Rattle.gq_rows.proofs.Passing.{leads}
use Rattle.gq_rows.proofs.choices.lead_first.Goals as goal

pub prepare-requires : goal.prepare-requires
prepare-requires c =
    let g = c.args.question.now.graph.now in
    subst (λ e. FindsKey (asked e g) c.args.first.now) (sym c.get-key.ensures) (c.requires.ready c.in-Some.sort.now (sym c.in-Some.ensures.value))

pub returns-clause-leads : goal.returns-clause-leads
returns-clause-leads c =
    let q = c.args.question.now in
    let g = q.graph.now in
    let ss = c.prepare.new.self.cells.sources in
    let late = c.is_empty.ensures.0 c.if-not-is_empty.false in
    let finder = c.hold_key.ensures.finder ss (asked c.get-key.result.now g) c.in_ok-finder.ensures.finds in
    leads g q.bound.now c.args.typed.now c.args.chunk.now ss c.in-Some.sort.now c.hold_key.result (c.requires.sure c.if-not-question.false) late (sym c.in-Some.ensures.value)
    (subst (λ e. IfSome c.hold_key.result (IsFinder ss (asked e g))) c.get-key.ensures finder) c.hold_key.ensures.led

pub returns-clause-ready : goal.returns-clause-ready
returns-clause-ready c = λ other at.
    let here = sym c.in-Some.ensures.value in
    let same : c.in-Some.sort.now ≡ other = cc in
    subst (λ e. FindsKey (asked e c.args.question.now.graph.now) c.prepare.new.self) (c.get-key.ensures ∙ ap (λ (k : SortExpr). k.expr) same) c.prepare.ensures.ready

use Rattle.std.proofs.Common.{◌≡◌, ◌∙◌, Some, ap, subst, sym}
use Rattle.std.specs.Prelude.{IfSome}
use Rattle.gq_law_trails.specs.Trails.{fits_end}
use Rattle.gq_ends.specs.Ends.{OtherEnd}
use Rattle.gq_ends.specs.steps.Answers.{at_node}
use Rattle.gq_ends.proofs.Answering.{right_still}
use Rattle.gq_ends.proofs.trail_end.TrailEnd.is_as_asked.Goals as goal

pub returns-in-Some-clause-fits : goal.returns-in-Some-clause-fits
returns-in-Some-clause-fits c =
    let e = c.self.inside in
    let told : IfSome (Some c.in-Some.answer) (λ b. b ≡ fits_end e.graph.now e.part.now c.args.node) =
    subst (λ o. IfSome o (λ b. b ≡ fits_end e.graph.now e.part.now c.args.node))
    (ap (λ ts. at_node ts c.args.node) (sym c.as_slice.ensures.value) ∙ sym c.answer_of.ensures ∙ c.in-Some.is) (c.self.invariant.right c.args.node) in
    told ∙ ap (λ (o : OtherEnd). fits_end o.graph o.part c.args.node) c.self.view_is

pub invariant_of-self : goal.invariant_of-self
invariant_of-self c =
    let e = c.self.inside in
    record {
      tests = c.self.invariant.tests;
      right = right_still e.graph.now e.part.now e.answers.items c.tell.new.answers.items c.args.node c.is_fit-fits.result c.self.invariant.right c.tell.ensures c.is_fit-fits.ensures;
    }

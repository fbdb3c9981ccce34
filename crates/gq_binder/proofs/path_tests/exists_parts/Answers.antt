use Rattle.std.proofs.Common.{sym, subst}
use Rattle.std.proofs.lemmas.Result.{err_from_is_err_and}
use Rattle.gq_bound.proofs.PathCounts.{few_next, few_over, given_next}
use Rattle.gq_bound.proofs.TestLemmas.{IsWholeTest}
use Rattle.gq_bound.specs.declared.refusal.BindRefusal.TheVariants as refusal
use Rattle.gq_bound.specs.steps.Parts.{exists_part}
use Rattle.gq_binder.proofs.path_tests.exists_parts.Goals as goal

pub push-requires : goal.push-requires
push-requires c = subst (IsWholeTest c.args.text.now) (sym c.test-item.is) (c.requires c.loop-test.test-index c.test-item.result c.loop-test-test.true)

pub returns-in_err-push-clause-few : goal.returns-in_err-push-clause-few
returns-in_err-push-clause-few c =
    let p = err_from_is_err_and c.from_residual.result c.from_residual.ensures.1 in
    rw (p.1, p.2) (λ q. few_over c.args.catalog.now refusal.TooManyAlternatives c.args.tests.now c.loop-test.test-index c.test-item.result c.loop-test-test.true c.test-item.is
    c.loop-test.read.left _ c.in_err-push.field-0.0 (c.in_err-push.ensures.few q) c.loop-test.invariant.few)

pub loop-test-preserved : goal.loop-test-preserved
loop-test-preserved c = record {
  few = few_next c.args.catalog.now refusal.TooManyAlternatives c.args.tests.now c.loop-test.test-index c.test-item.result c.loop-test-test.true c.test-item.is
      c.loop-test.read.left c.push.new.self.left _ c.in_ok-push.ensures.left c.loop-test.invariant.few;
  parts = given_next (exists_part c.args.text.now c.args.catalog.now) c.args.tests.now c.loop-test.test-index c.test-item.result c.loop-test-test.true c.test-item.is c.loop-test.read.parts c.push.new.self.parts c.loop-test.invariant.parts c.in_ok-push.ensures.parts;
}

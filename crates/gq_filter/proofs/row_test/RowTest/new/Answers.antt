use Rattle.std.proofs.Common.{subst}
use Rattle.std.specs.Prelude.{IfSome}
use Rattle.gq_filter.proofs.Codes.{known_none, no_codes}
use Rattle.gq_filter.specs.steps.Placing.{IsPlacementOf}
use Rattle.gq_filter.specs.steps.RowCells.{DecidesRows}
use Rattle.gq_filter.proofs.Recalled.{tells_none}
use Rattle.gq_filter.proofs.row_test.RowTest.new.Goals as goal

pub invariant_of-result : goal.invariant_of-result
invariant_of-result c = (
  c.in_ok-add_feeds.ensures,
  subst (λ feeds. DecidesRows c.args.graph.now c.args.typed.now c.args.condition.now feeds c.in_ok-test.test) c.as_slice.ensures.value c.in_ok-test.ensures,
  c.text_test-text.ensures,
  c.in_ok-evaluator.ensures,
  tells_none c.add_feeds.new.feeds.items c.in_ok-test.test c.none.result.passed.told c.none.ensures,
  known_none c.text_test-text.result 0 c.none-2.result.known (no_codes c.text_test-text.result) c.none-2.ensures,
  subst (λ feeds. IfSome c.placement_of-placement.result (IsPlacementOf feeds)) c.as_slice-2.ensures.value c.placement_of-placement.ensures,
)

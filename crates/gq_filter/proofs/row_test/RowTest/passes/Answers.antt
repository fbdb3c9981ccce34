use Rattle.std.proofs.Common.{Option, sym, subst}
use Rattle.gq_filter.specs.declared.text_test.PartTest.{PartTest}
use Rattle.gq_filter.specs.steps.RowCells.{AreInside}
use Rattle.gq_filter.specs.steps.Texts.{AreKnown}
use Rattle.gq_filter.proofs.RowLanes.{all_inside}
use Rattle.gq_filter.proofs.row_test.RowTest.passes.Goals as goal

pub invariant_of-cells : goal.invariant_of-cells
invariant_of-cells c =
    let i = c.self.inside in
    record { inside = subst (AreInside i.graph.now) (sym c.as_slice.ensures.value) (all_inside i.graph.now i.typed.now i.feeds.items c.self.invariant.0) }

pub passes-requires : goal.passes-requires
passes-requires c = subst {A = Option PartTest} (λ t. AreKnown t c.self.inside.tried.known) c.in-Some-text.is c.self.invariant.5

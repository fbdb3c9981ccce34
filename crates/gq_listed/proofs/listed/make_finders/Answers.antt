use Rattle.std.proofs.Common.{◌∙◌, sym, subst}
use Rattle.gq_eval.specs.Asked.{asked}
use Rattle.gq_plan.specs.declared.bound.NamedExpr.{NamedExpr}
use Rattle.gq_listed.specs.Finding.{IsFinder}
use Rattle.gq_listed.specs.Listed.{AreFinders}
use Rattle.gq_listed.proofs.Finding.{stay_and}
use Rattle.gq_listed.proofs.listed.make_finders.Goals as goal

pub columns-preserved : goal.columns-preserved
columns-preserved c =
    let i = c.columns.invariant in
    let g = c.args.graph.now in
    let f = c.in_ok-finder.finder in
    let ss = c.new.new.cells.sources in
    record {
      found = subst (AreFinders ss _) (sym c.in_ok-push.ensures.items)
          (stay_and c.columns.cells.sources ss c.in_ok-finder.ensures.more g c.as_slice-columns.result.now c.column-item.result c.columns.column-index c.columns.finders.items f c.columns-test.true i.found
          (subst (λ (x : NamedExpr). IsFinder ss (asked x.expr g) f) c.column-item.is (rw c.get.ensures at c.in_ok-finder.ensures.finds)));
      null = c.in_ok-finder.ensures.more _ _ i.null;
      values = c.in_ok-finder.ensures.values ∙ i.values;
    }

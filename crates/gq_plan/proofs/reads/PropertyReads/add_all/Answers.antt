use Rattle.std.proofs.Common.{◌∙◌, ◌∷◌, [], ap, sym}
use Rattle.gq_plan.specs.Reads.{properties, with_reads}
use Rattle.gq_plan.proofs.ReadLemmas.{with_next}
use Rattle.gq_plan.proofs.reads.PropertyReads.add_all.Goals as goal

pub loop-read-preserved : goal.loop-read-preserved
loop-read-preserved c = record {
  items = c.loop-read.invariant.items;
  taken =
      c.in_ok-add_read.ensures
      ∙ ap (λ rs. with_reads rs (properties (c.read-item.result ∷ []))) c.loop-read.invariant.taken
      ∙ sym (with_next c.args.self.now c.reads-read-items.result.now c.loop-read.read-index c.read-item.result c.loop-read-test.true c.read-item.is);
}

use Rattle.std.proofs.Common.{◌<◌, None, get_or, length, ◌∙◌, arith}
use Rattle.gq_base.specs.Plain.{cell_val}
use Rattle.gq_store.specs.Columns.{decoded}
use Rattle.std.proofs.lemmas.List.{length-set}
use Rattle.gq_base.specs.Values.{val}
use Rattle.gq_base.specs.declared.value.Value.TheVariants as value
use Rattle.gq_cells.proofs.Written.{one_more}
use Rattle.gq_cells.proofs.source.property_values.Goals as goal

pub loop-place-preserved : goal.loop-place-preserved
loop-place-preserved c =
    let l = c.loop-place in
    let fits : l.place < length l.out = omega (arith, l.invariant.size, c.requires.few) in
    record { size = length-set l.out l.place c.value.result ∙ l.invariant.size; written = one_more val value.Null l.out l.place c.value.result (λ k. cell_val (get_or (decoded c.args.property.now) (get_or c.args.numbers.now k 0) None)) fits l.invariant.written c.value.ensures }

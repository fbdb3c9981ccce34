use Rattle.std.proofs.Common.{◌<◌, ◌+◌, ◌*◌, get_or, length, ◌∙◌, arith}
use Rattle.gq_base.specs.Values.{null}
use Rattle.std.proofs.lemmas.List.{length-set}
use Rattle.gq_base.specs.Values.{val}
use Rattle.gq_base.specs.declared.value.Value.TheVariants as value
use Rattle.gq_cells.proofs.Written.{one_more}
use Rattle.gq_cells.proofs.cells.Cells.values_each.Goals as goal

pub loop-place-preserved : goal.loop-place-preserved
loop-place-preserved c =
    let l = c.loop-place in
    let fits : l.place < length l.out = omega (arith, l.invariant.size, c.requires.few) in
    record { size = length-set l.out l.place c.value.result ∙ l.invariant.size; written = one_more val value.Null l.out l.place c.value.result (λ k. get_or c.args.self.now.values (c.args.first + k * c.args.step) null) fits l.invariant.written c.value.ensures }

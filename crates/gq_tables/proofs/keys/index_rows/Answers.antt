use Rattle.std.proofs.Common.{◌≡◌, ◌+◌, ◌-◌, arith, sym}
use Rattle.std.proofs.lemmas.Option.{get_or_from_slice_get}
use Rattle.gq_tables.proofs.KeySteps.{all_mapped, one_mapped}
use Rattle.gq_tables.specs.steps.KeyIndexes.{held}
use Rattle.gq_tables.proofs.keys.index_rows.Goals as goal

pub returns : goal.returns
returns c = let none : c.rows.at ≡ 0 = omega arith in all_mapped c.args.rows.now (held c.rows.index) (rw none at c.rows.invariant)

pub rows-preserved : goal.rows-preserved
rows-preserved c =
    let at : c.rows.at - 1 + 1 ≡ c.rows.at = omega arith in
    let is = sym (get_or_from_slice_get c.args.rows.now (c.rows.at - 1) c.row.result.now c.row.result.now c.row.ensures) in
    one_mapped c.args.rows.now (c.rows.at - 1) (held c.rows.index) (held c.put_row.new.index) c.row.result.now (rw at c.rows.invariant) is c.in_ok-put_row.ensures.put

use Rattle.std.proofs.Common.{◌≡◌, ◌+◌, ◌-◌, arith, sym}
use Rattle.std.proofs.lemmas.Option.{get_or_from_slice_get}
use Rattle.gq_tables.proofs.KeySteps.{all_mapped, one_mapped}
use Rattle.gq_tables.specs.steps.NearKeys.{near}
use Rattle.gq_tables.proofs.near_keys.NearKeys.with_rows.Goals as goal

pub returns : goal.returns
returns c = let none : c.rows.at ≡ 0 = omega arith in all_mapped c.args.rows.now (near c.rows.self) (rw none at c.rows.invariant)

pub rows-preserved : goal.rows-preserved
rows-preserved c =
    let at : c.rows.at - 1 + 1 ≡ c.rows.at = omega arith in
    let is = sym (get_or_from_slice_get c.args.rows.now (c.rows.at - 1) c.row.result.now c.row.result.now c.row.ensures) in
    one_mapped c.args.rows.now (c.rows.at - 1) (near c.rows.self) (near c.put.new.self) c.row.result.now (rw at c.rows.invariant) is (rw c.if-not-put.false at c.put.ensures)

use Rattle.std.proofs.Common.{rules, ◌≡◌, w64, of_z, to_z}
use Rattle.gq_filter.proofs.Deciding.{negative_is}
use Rattle.gq_filter.proofs.side.negative_of.Goals as goal

pub returns-in-Ok-Int : goal.returns-in-Ok-Int
returns-in-Ok-Int c =
    let e : to_z w64 (of_z w64 c.in-Ok-Int.negative) ≡ c.in-Ok-Int.negative = search rules in
    let n : to_z w64 (of_z w64 c.in_ok-number.number) ≡ c.in_ok-number.number = search rules in
    rw e (negative_is c.args.inner.now c.in_ok-number.number c.in-Ok-Int.negative c.in_ok-number.ensures (rw (c.in-Ok-Int.is, c.in-Ok-Int.field-0-is, n) at c.negate.ensures))

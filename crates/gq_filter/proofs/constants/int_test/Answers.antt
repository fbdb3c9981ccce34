use Rattle.std.proofs.Common.{rules, ◌≡◌, sym, ◌∙◌, w64, of_z, to_z}
use Rattle.gq_filter.proofs.Literals.{int_const, str_and_int, flag_and_int}
use Rattle.gq_filter.proofs.constants.int_test.Goals as goal

pub returns-in-Int : goal.returns-in-Int
returns-in-Int c = λ dict v cells is.
    let e : to_z w64 (of_z w64 c.args.number) ≡ c.args.number = search rules in
    rw (c.lane_op.ensures, e) (int_const c.args.op c.args.lane c.args.number dict v cells (rw (sym c.kind.ensures ∙ c.in-Int.is) at is))

pub returns-in-Str : goal.returns-in-Str
returns-in-Str c = λ dict v cells is. rw c.other_kind_test.ensures (str_and_int c.args.op c.args.lane c.args.number dict v cells (rw (sym c.kind.ensures ∙ c.in-Str.is) at is))

pub returns-in-Flag : goal.returns-in-Flag
returns-in-Flag c = λ dict v cells is. rw c.other_kind_test-in-Flag.ensures (flag_and_int c.args.op c.args.lane c.args.number dict v cells (rw (sym c.kind.ensures ∙ c.in-Flag.is) at is))

use Rattle.std.proofs.Common.{◌≡◌, ◌∙◌, ap, sym, get_or, None, Some, arith}
use Rattle.std.specs.Option.{option_copied}
use Rattle.gq_expr.specs.declared.Expr.{out-Expr}
use Rattle.gq_resolve.specs.Operands.{places}
use Rattle.gq_resolve.proofs.Walks.{differ, shallower}
use Rattle.gq_resolve.proofs.sameness.+same.Goals as goal

pub same-agree-requires : goal.same-agree-requires
same-agree-requires t c =
    let e = c.args.expr.now in
    let own = c.in-Some-Some.own.now in
    let there : Some own ≡ get_or (places (out-Expr e)) c.loop-place.place None = ap option_copied (sym c.in-Some-Some.is-0) ∙ c.operand.ensures in
    let less = shallower e own c.loop-place.place there in
    let here = c.decreases in
    (omega arith, tt)

pub returns-then-place_count-count : goal.returns-then-place_count-count
returns-then-place_count-count t c =
    differ c.args.expr.now c.args.other.now
    (λ even. c.if-place_count-count.true (c.place_count.ensures ∙ even ∙ sym c.place_count-count.ensures))

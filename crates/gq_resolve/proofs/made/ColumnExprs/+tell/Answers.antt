use Rattle.std.proofs.Common.{◌≡◌, ◌∙◌, ◌-◌, ◌^◌, ap, sym, get_or, None, Some, arith}
use Rattle.std.specs.Option.{option_copied}
use Rattle.gq_expr.specs.declared.Expr.{out-Expr}
use Rattle.gq_resolve.specs.Operands.{places}
use Rattle.gq_resolve.proofs.Walks.{all_end, made_told, shallower, told_end, told_out}
use Rattle.gq_resolve.proofs.made.ColumnExprs.+tell.Goals as goal

pub tell-told-requires : goal.tell-told-requires
tell-told-requires t c =
    let e = c.args.expr.now in
    let part = c.in-Some.part.now in
    let there : Some part ≡ get_or (places (out-Expr e)) c.loop-place.place None = ap option_copied (sym c.in-Some.is) ∙ c.operand.ensures in
    let less = shallower e part c.loop-place.place there in
    let here = c.decreases in
    (omega arith, tt)

pub have-requires : goal.have-requires
have-requires t c =
    told_out c.args.expr.now c.loop-place.below c.saturating_add-depth.result
    (told_end (places (out-Expr c.args.expr.now)) (2 ^ 64 - 1) c.loop-place.place c.loop-place.below (omega (arith, c.loop-place-test.false, c.place_count-place-end.ensures)) c.loop-place.invariant.deep)
    c.saturating_add-depth.ensures

pub returns-clause-made : goal.returns-clause-made
returns-clause-made t c =
    c.is_either-made.ensures
    ∙ made_told c.args.self.now c.args.expr.now c.have.result c.make_alone.result c.loop-place.parts c.have.ensures c.make_alone.ensures
    (all_end (places (out-Expr c.args.expr.now)) c.args.self.now c.loop-place.place c.loop-place.parts (omega (arith, c.loop-place-test.false, c.place_count-place-end.ensures)) c.loop-place.invariant.made)

pub returns-clause-depth : goal.returns-clause-depth
returns-clause-depth t c =
    told_out c.args.expr.now c.loop-place.below c.saturating_add-depth.result
    (told_end (places (out-Expr c.args.expr.now)) (2 ^ 64 - 1) c.loop-place.place c.loop-place.below (omega (arith, c.loop-place-test.false, c.place_count-place-end.ensures)) c.loop-place.invariant.deep)
    c.saturating_add-depth.ensures

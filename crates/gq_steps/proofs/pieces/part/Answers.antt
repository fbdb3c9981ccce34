use Rattle.std.proofs.Common.{◌∙◌, ◌-◌, sym, drop, length, arith}
use Rattle.std.proofs.lemmas.List.{length-drop, take_all}
use Rattle.gq_bits.specs.declared.TheConstants.{VECTOR}
use Rattle.gq_steps.proofs.pieces.part.Goals as goal

pub returns-then-rest : goal.returns-then-rest
returns-then-rest c =
    let long = length-drop c.args.first c.args.list.now in
    let short = c.if-rest.true in
    take_all (length c.args.list.now - c.args.first) (drop c.args.first c.args.list.now) (omega (arith, long))
    ∙ sym (take_all VECTOR (drop c.args.first c.args.list.now) (omega (arith, long, short)))

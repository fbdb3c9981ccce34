use Rattle.std.proofs.Common.{◌∙◌, ◌++◌, ◌∷◌, [], ap, sym, arith, slice_index_or}
use Rattle.gq_exists.proofs.Taking.{key_more}
use Rattle.gq_exists.proofs.gathering.read_key.Goals as goal

pub variables-preserved : goal.variables-preserved
variables-preserved c =
    let v = c.variables.variable in
    let y = c.args.typed.now in
    let here = c.variables-test.true in
    c.in_ok-push.ensures.items ∙ ap (λ l. l ++ record { table = slice_index_or c.as_slice-tables.result.now v 0; row = c.node_at.result } ∷ []) c.variables.invariant
    ∙ sym (key_more y c.args.chunk.now c.args.positions.now v (slice_index_or c.as_slice-tables.result.now v 0) c.node_at.result (omega (arith, here, c.requires.wide))
    (ap (λ l. slice_index_or l v 0) c.as_slice-tables.ensures) c.node_at.ensures)

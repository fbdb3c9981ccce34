use Rattle.std.proofs.Common.{◌+◌, ◌++◌, drop, flat_map, ap, ◌∙◌, refl}
use Rattle.gq_base.proofs.ListFacts.{flat_map_next, flat_map_split}
use Rattle.gq_explain.specs.Plans.{next_key}
use Rattle.gq_render.proofs.Sequence.{next_broke, put_then}
use Rattle.gq_explain.proofs.joins.put_other_keys.Goals as goal

pub returns-in_err-put_next_key-clause-bytes : goal.returns-in_err-put_next_key-clause-bytes
returns-in_err-put_next_key-clause-bytes g c =
    let rest = flat_map (next_key c.args.naming.now.bound.now c.args.naming.now.catalog.now c.args.naming.now.typed.now) (drop (c.loop-key.key-index + 1) c.args.keys.now) in
    next_broke _ _ _ _ _ _ _ _ _ _ rest _ _ _ _ c.loop-key.invariant.0 c.put_next_key.ensures.bytes c.in_err-put_next_key.was c.from_residual.ensures.1
    (ap (λ l. l ++ rest) (flat_map_next (next_key c.args.naming.now.bound.now c.args.naming.now.catalog.now c.args.naming.now.typed.now) c.args.keys.now _ _ _ c.loop-key-test.true refl) ∙ flat_map_split (next_key c.args.naming.now.bound.now c.args.naming.now.catalog.now c.args.naming.now.typed.now) c.args.keys.now (c.loop-key.key-index + 1))

pub loop-key-preserved : goal.loop-key-preserved
loop-key-preserved g c = (
  put_then _ _ _ _ _ _ _ _ _ c.loop-key.invariant.0 c.in_ok-put_next_key.ensures.bytes (flat_map_next (next_key c.args.naming.now.bound.now c.args.naming.now.catalog.now c.args.naming.now.typed.now) c.args.keys.now _ _ _ c.loop-key-test.true refl),
  c.in_ok-put_next_key.ensures.cause.kept ∙ c.loop-key.invariant.1,
)

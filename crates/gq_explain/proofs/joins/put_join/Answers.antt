use Rattle.std.proofs.Common.{List, ℕ, [], ◌∷◌, ◌++◌, codes}
use Rattle.gq_render.proofs.Chains.{chain-is}
use Rattle.gq_render.specs.Pieces.{indent}
use Rattle.gq_explain.specs.Plans.{keys_text}
use Rattle.gq_render.proofs.Sequence.{first_broke, puts_then}
use Rattle.gq_explain.proofs.joins.put_join.Goals as goal

pub returns-in_err-put_pieces-clause-bytes : goal.returns-in_err-put_pieces-clause-bytes
returns-in_err-put_pieces-clause-bytes g c =
    first_broke _ _ _ _ _ _ _ _ _ _ _ _ c.put_pieces.ensures.bytes c.in_err-put_pieces.was c.from_residual.ensures.1
    (chain-is (λ (x : List ℕ). x) (indent c.args.level ∷ codes "join" ∷ []) (keys_text c.args.naming.now.bound.now c.args.naming.now.catalog.now c.args.naming.now.typed.now c.args.keys.now ++ codes "\n"))

pub returns-clause-bytes : goal.returns-clause-bytes
returns-clause-bytes g c =
    puts_then _ _ _ _ _ _ _ _ _ _ c.in_ok-put_pieces.ensures.bytes c.put_keys_line.ensures.bytes
    (chain-is (λ (x : List ℕ). x) (indent c.args.level ∷ codes "join" ∷ []) (keys_text c.args.naming.now.bound.now c.args.naming.now.catalog.now c.args.naming.now.typed.now c.args.keys.now ++ codes "\n"))

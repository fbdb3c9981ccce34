use Rattle.std.proofs.Common.{◌≡◌, ℕ, ◌-◌, ◌≤◌, List, [], ◌∷◌, ◌++◌, codes, length, get_or, take, drop, flat_map, ap, ◌∙◌, arith, sym, append-nil}
use Rattle.std.proofs.Math.Seq.{take-length}
use Rattle.std.specs.Prelude.{slice_get, unwrap_or}
use Rattle.gq_base.specs.Catalogs.{Tables}
use Rattle.gq_render.specs.Texts.{name_text}
use Rattle.gq_plan.specs.declared.Bound.{Bound}
use Rattle.gq_plan.specs.declared.Typed.{Typed}
use Rattle.gq_explain.specs.Plans.{keys_text, name_at, next_key}
use Rattle.gq_render.proofs.Chains.{chain-is}
use Rattle.gq_render.proofs.Sequence.{first_broke, puts_then}
use Rattle.gq_explain.proofs.joins.put_keys.Goals as goal

-- the first key, and the others
whole : (b : Bound) (t : Tables) (y : Typed) (keys name : List ℕ) → 1 ≤ length keys → name ≡ unwrap_or (slice_get b.node_names (get_or keys 0 0)) []
    → (codes " on " ++ (name_text name ++ [])) ++ flat_map (next_key b t y) (take (length keys - 1) (drop 1 keys)) ≡ keys_text b t y keys
whole b t y [] name h is = absurd (omega arith)
whole b t y (k ∷ ks) name h is =
    let others : take (length (k ∷ ks) - 1) ks ≡ ks = ap (λ n. take n ks) (omega arith) ∙ take-length ks in
    chain-is (λ (x : List ℕ). x) (codes " on " ∷ name_text name ∷ []) (flat_map (next_key b t y) (take (length (k ∷ ks) - 1) ks))
    ∙ ap (λ n. codes " on " ++ (name_text n ++ flat_map (next_key b t y) (take (length (k ∷ ks) - 1) ks))) is
    ∙ ap (λ l. codes " on " ++ (name_at b.node_names k ++ flat_map (next_key b t y) l)) others
    ∙ ap (λ l. codes " on " ++ (name_at b.node_names k ++ l)) (sym (append-nil (flat_map (next_key b t y) ks)))

pub returns-in_err-put_pieces-clause-bytes : goal.returns-in_err-put_pieces-clause-bytes
returns-in_err-put_pieces-clause-bytes g c =
    first_broke _ _ _ _ _ _ _ _ _ _ _ _ c.put_pieces.ensures.bytes c.in_err-put_pieces.was c.from_residual.ensures.1
    (whole c.args.naming.now.bound.now c.args.naming.now.catalog.now c.args.naming.now.typed.now c.args.keys.now _ c.in-len1-up.len_at_least c.name_of.ensures)

pub returns-clause-bytes : goal.returns-clause-bytes
returns-clause-bytes g c =
    puts_then _ _ _ _ _ _ _ _ _ _ c.in_ok-put_pieces.ensures.bytes c.put_other_keys.ensures.bytes
    (whole c.args.naming.now.bound.now c.args.naming.now.catalog.now c.args.naming.now.typed.now c.args.keys.now _ c.in-len1-up.len_at_least c.name_of.ensures)

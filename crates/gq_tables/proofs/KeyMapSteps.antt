-- A row that is put at a text.
use Rattle.std.proofs.Common.{◌≡◌, ℕ, cond, List, Some, Bor, refl, sym, ap, ◌∙◌}
use Rattle.std.specs.BTreeMap as tree
use Rattle.std.specs.BTreeMap.{BTreeMap}
use Rattle.std.specs.Cmp.Lexicographic.{slice_cmp}
use Rattle.std.specs.Ordering.{is_eq, nat_cmp}
use Rattle.std.proofs.lemmas.Map.Text.{btree_map_updates_str, is_eq-slice_cmp}
use Rattle.gq_base.specs.Values.{Val, flag, int, node, null, rel, str}
use Rattle.gq_tables.specs.steps.KeyMaps.{row_at}
use Rattle.gq_base.specs.Valid.{same_key}
use Rattle.gq_tables.specs.declared.key_map.KeyMap.{KeyMap}

at_text : (key : List ℕ) (m n : BTreeMap (Bor (List ℕ)) ℕ) (row : ℕ)
    → tree.UpdatesBy (λ x y. slice_cmp nat_cmp x.now y.now) (λ k. slice_cmp nat_cmp key k.now) m n (Some row) → (s : List ℕ)
    → tree.get_by (λ k. slice_cmp nat_cmp s k.now) n ≡ cond (is_eq (slice_cmp nat_cmp key s)) (Some row) (tree.get_by (λ k. slice_cmp nat_cmp s k.now) m)
at_text key m n row u s = btree_map_updates_str key m n (Some row) u s ∙ ap (λ b. cond b (Some row) (tree.get_by (λ k. slice_cmp nat_cmp s k.now) m)) (sym (is_eq-slice_cmp key s))

-- other kinds of keys stay as they are
other_kinds : (map : KeyMap) (texts : BTreeMap (Bor (List ℕ)) ℕ) (key : List ℕ) (row : ℕ)
    → tree.UpdatesBy (λ x y. slice_cmp nat_cmp x.now y.now) (λ k. slice_cmp nat_cmp key k.now) map.texts texts (Some row)
    → (v : Val) → row_at (record map { texts = texts }) v ≡ cond (same_key (str key) v) (Some row) (row_at map v)
other_kinds map texts key row u null = refl
other_kinds map texts key row u (flag b) = refl
other_kinds map texts key row u (int z) = refl
other_kinds map texts key row u (str s) = at_text key map.texts texts row u s
other_kinds map texts key row u (node n) = refl
other_kinds map texts key row u (rel r) = refl

pub text_put : (map : KeyMap) (texts : BTreeMap (Bor (List ℕ)) ℕ) (key : List ℕ) (row : ℕ) (own : Val) → own ≡ str key
    → tree.UpdatesBy (λ x y. slice_cmp nat_cmp x.now y.now) (λ k. slice_cmp nat_cmp key k.now) map.texts texts (Some row)
    → (v : Val) → row_at (record map { texts = texts }) v ≡ cond (same_key own v) (Some row) (row_at map v)
text_put map texts key row own is u v = other_kinds map texts key row u v ∙ ap (λ k. cond (same_key k v) (Some row) (row_at map v)) (sym is)

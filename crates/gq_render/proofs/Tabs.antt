-- Texts with a tab between each two, and their pieces.
use Rattle.std.proofs.Common.{◌≡◌, ℕ, ◌-◌, ◌≤◌, List, [], ◌∷◌, ◌++◌, length, get_or, take, drop, map, flat_map, ap, sym, ◌∙◌, arith}
use Rattle.std.proofs.Math.Seq.{take-length}
use Rattle.std.proofs.lemmas.List.Folds.{flat_map-map}
use Rattle.gq_render.specs.Texts.{after_tab, tabbed}

-- the items behind the first one
abbrev pub others : {X : Type 0} → List X → List X
others xs = take (length xs - 1) (drop 1 xs)

others-cons : {X : Type 0} (x : X) (xs : List X) → others (x ∷ xs) ≡ xs
others-cons x xs = ap (λ n. take n xs) (omega arith) ∙ take-length xs

-- the first text, and the others behind tabs
pub first_text : {X Y : Type 0} (f : Y → List ℕ) (v : X → Y) (xs : List X) (d x : X) → 1 ≤ length xs → x ≡ get_or xs 0 d
    → f (v x) ++ flat_map (λ y. after_tab (f (v y))) (others xs) ≡ tabbed (map f (map v xs))
first_text f v [] d x h is = absurd (omega arith)
first_text f v (y ∷ ys) d x h is =
    ap (λ z. f (v z) ++ flat_map (λ t. after_tab (f (v t))) (others (y ∷ ys))) is
    ∙ ap (λ zs. f (v y) ++ flat_map (λ t. after_tab (f (v t))) zs) (others-cons y ys)
    ∙ ap (λ l. f (v y) ++ l) (sym (flat_map-map (λ t. after_tab (f t)) v ys) ∙ sym (flat_map-map after_tab f (map v ys)))

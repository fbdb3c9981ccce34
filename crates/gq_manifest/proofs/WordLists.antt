-- Lists of words that are of neither form.
use Rattle.std.proofs.Common.{◌≡◌, ℕ, false, List, [], ◌∷◌, length, map, get_or, None, refl, Bor, arith}
use Rattle.std.specs.Prelude.{codes}
use Rattle.std.specs.Str.{bytes_eq}
use Rattle.gq_manifest.specs.Lines.{form_of}

-- neither three words nor six
pub other_words : (words : List (Bor (List ℕ))) → (length words ≡ 3 → ⊥) → (length words ≡ 6 → ⊥) → None ≡ form_of (map (λ w. w.now) words)
other_words [] h k = refl
other_words (a ∷ []) h k = refl
other_words (a ∷ b ∷ []) h k = refl
other_words (a ∷ b ∷ c ∷ []) h k = absurd (h refl)
other_words (a ∷ b ∷ c ∷ d ∷ []) h k = refl
other_words (a ∷ b ∷ c ∷ d ∷ e ∷ []) h k = refl
other_words (a ∷ b ∷ c ∷ d ∷ e ∷ f ∷ []) h k = absurd (k refl)
other_words (a ∷ b ∷ c ∷ d ∷ e ∷ f ∷ g ∷ more) h k = refl

-- three words of which the first is another keyword
pub not_node : (words : List (Bor (List ℕ))) (first : Bor (List ℕ)) → length words ≡ 3 → bytes_eq (get_or words 0 first).now (codes "node") ≡ false → None ≡ form_of (map (λ w. w.now) words)
not_node (a ∷ b ∷ c ∷ []) first h e = rw e refl
not_node [] first h e = absurd (omega arith)
not_node (a ∷ []) first h e = absurd (omega arith)
not_node (a ∷ b ∷ []) first h e = absurd (omega arith)
not_node (a ∷ b ∷ c ∷ d ∷ more) first h e = absurd (omega arith)

-- six words of which the first is another keyword
pub not_rel : (words : List (Bor (List ℕ))) (first : Bor (List ℕ)) → length words ≡ 6 → bytes_eq (get_or words 0 first).now (codes "rel") ≡ false → None ≡ form_of (map (λ w. w.now) words)
not_rel (a ∷ b ∷ c ∷ d ∷ e ∷ f ∷ []) first h q = rw q refl
not_rel [] first h q = absurd (omega arith)
not_rel (a ∷ []) first h q = absurd (omega arith)
not_rel (a ∷ b ∷ []) first h q = absurd (omega arith)
not_rel (a ∷ b ∷ c ∷ []) first h q = absurd (omega arith)
not_rel (a ∷ b ∷ c ∷ d ∷ []) first h q = absurd (omega arith)
not_rel (a ∷ b ∷ c ∷ d ∷ e ∷ []) first h q = absurd (omega arith)
not_rel (a ∷ b ∷ c ∷ d ∷ e ∷ f ∷ g ∷ more) first h q = absurd (omega arith)

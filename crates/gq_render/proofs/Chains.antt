-- Pieces one after another, and a rest behind them; texts of which each is added to those before it; two texts, one put after
-- the other.
use Rattle.std.proofs.Common.{◌≡◌, List, [], ◌∷◌, ◌++◌, flat_map, refl, sym, ap, ◌∙◌, append_assoc, append-nil, subst, ℕ, Option, Result, Err}
use Rattle.std.specs.Result.{IsErrAnd}
use Rattle.gq_io.specs.Outside.{Writes}
use Rattle.gq_io.specs.Putting.{Put, Puts}
use Rattle.gq_render.proofs.Sequence.{first_broke, puts_then}
use Rattle.gq_render.specs.Texts.{line}

-- each piece's text before the next one's, and then the rest
abbrev pub chain : {X A : Type 0} → (X → List A) → List X → List A → List A
chain f [] rest = rest
chain f (x ∷ xs) rest = f x ++ chain f xs rest

pub chain-is : {X A : Type 0} (f : X → List A) (xs : List X) (rest : List A) → flat_map f xs ++ rest ≡ chain f xs rest
chain-is f [] rest = refl
chain-is f (x ∷ xs) rest = append_assoc (f x) (flat_map f xs) rest ∙ ap (λ l. f x ++ l) (chain-is f xs rest)

-- texts, each added to all before it
abbrev pub added : List ℕ → List (List ℕ) → List ℕ
added front [] = front
added front (text ∷ texts) = added (front ++ text) texts

added-is : (front : List ℕ) (texts : List (List ℕ)) → front ++ flat_map (λ text. text) texts ≡ added front texts
added-is front [] = append-nil front
added-is front (text ∷ texts) = sym (append_assoc front text (flat_map (λ t. t) texts)) ∙ added-is (front ++ text) texts

-- a line of pieces is the line of their texts
pub line_written : {T E : Type 0} (a b : Option (List ℕ)) (r : Result T E) (texts : List (List ℕ)) → Writes a b (line (flat_map (λ text. text) texts)) r → Writes a b (line (added [] texts)) r
line_written a b r texts = subst (λ text. Writes a b (line text) r) (added-is [] texts)

pub line_put : {T E : Type 0} (a b : Option (List ℕ)) (u v : List ℕ) (r : Result T E) (texts : List (List ℕ)) → Puts a b u v (line (flat_map (λ text. text) texts)) r → Puts a b u v (line (added [] texts)) r
line_put a b u v r texts = subst (λ text. Puts a b u v (line text) r) (added-is [] texts)

-- two texts, of which the second was put or broke off
pub both_put : {T E : Type 0} (a b c : Option (List ℕ)) (u v w x y : List ℕ) (r : Result T E) → Put a b u v x → Puts b c v w y r → Puts a c u w (x ++ y) r
both_put a b c u v w x y r p q = puts_then a b c u v w x y (x ++ y) r p q refl

-- two texts, of which the first broke off
pub one_broke : {S T E F : Type 0} (Q : F → Type 0) (a b : Option (List ℕ)) (u v w x y : List ℕ) (q : Result S E) (e : E) (r : Result T F)
    → Puts a b u v x q → q ≡ Err e → IsErrAnd r Q → Puts a b u w (x ++ y) r
one_broke Q a b u v w x y q e r p was is = first_broke Q a b u v w x y (x ++ y) q e r p was is refl

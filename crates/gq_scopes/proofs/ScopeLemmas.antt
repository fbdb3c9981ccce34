-- The first column with a name.
use Rattle.std.proofs.Common.{◌≡◌, ◌∙◌, ℕ, ◌+◌, Bool, not, Option, Some, None, List, [], ◌∷◌, length, map, refl, ap}
use Rattle.std.specs.Prelude.{nat_lt}
use Rattle.std.specs.List.{position, prefix_len, position_or_len}
use Rattle.std.proofs.lemmas.List.{length-map}
use mathlib.Core.Bool.{cond}
use Rattle.gq_scopes.specs.Patterns.{Name, find_name, is_called}
use Rattle.gq_scopes.specs.Scopes.{find_column}
use Rattle.gq_scopes.specs.declared.scope.Column.{Column}

front : {A B : Type 0} (f : A → B) (p : B → Bool) (xs : List A) → prefix_len p (map f xs) ≡ prefix_len (λ x. p (f x)) xs
front f p [] = refl
front f p (x ∷ xs) = ap (λ k. cond (p (f x)) (1 + k) 0) (front f p xs)

abbrev within : ℕ → ℕ → Option ℕ
within at n = cond (nat_lt at n) (Some at) None

position_map : {A B : Type 0} (f : A → B) (p : B → Bool) (xs : List A) → position p (map f xs) ≡ position (λ x. p (f x)) xs
position_map f p xs =
    ap (λ k. within k (length (map f xs))) (front f (λ b. not (p b)) xs) ∙ ap (within (position_or_len (λ x. p (f x)) xs)) (length-map xs f)

-- the first column with a name
pub found_column : (columns : List Column) (name : Name) → find_name (map (λ c. Some c.name) columns) name ≡ find_column columns name
found_column columns name = position_map (λ c. Some c.name) (is_called name) columns

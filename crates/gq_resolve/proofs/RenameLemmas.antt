-- A name is ambiguous where it stands among the names of variables that AS gives to other columns.
use Rattle.std.proofs.Common.{◌≡◌, ap, refl, Bool, ◌||◌, List, [], ◌∷◌, map}
use Rattle.std.specs.List.{list_any}
use Rattle.gq_ast.specs.declared.Item.{Item}
use Rattle.gq_resolve.specs.Renames.{ambiguous_name, renamed_names, renamed_name}
use Rattle.gq_scopes.specs.Scopes.{Scope}

-- a test of the items that f gives
pub any_map : {A B : Type 0} (p : B → Bool) (f : A → B) (xs : List A) → list_any p (map f xs) ≡ list_any (λ x. p (f x)) xs
any_map p f [] = refl
any_map p f (x ∷ xs) = ap (λ b. p (f x) || b) (any_map p f xs)

-- to look for the names that AS gives away is to look for ambiguous names
pub renamed_is : (s : Scope) (items : List Item) → renamed_name (renamed_names s items) ≡ ambiguous_name s items
renamed_is s items = refl

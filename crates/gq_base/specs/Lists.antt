-- Words on lists that definitions share.
use Rattle.std.specs.Prelude.{Bool, true, false, not, ◌&&◌, ◌==◌, List, [], ◌∷◌, length}
use Rattle.std.specs.declared.option.Option.{Option}
use Rattle.std.specs.declared.option.Option.TheVariants.{Some, None}
use Rattle.std.specs.List.{list_any}

-- there are no items
abbrev pub is_empty : {A : Type 0} → List A → Bool
is_empty xs = length xs == 0

-- an item in front of a list, where both are there
abbrev pub with_first : {A : Type 0} → Option A → Option (List A) → Option (List A)
with_first (Some x) (Some xs) = Some (x ∷ xs)
with_first first rest = None

-- what f gives for each item, where it gives something for all of them
abbrev pub each : {A B : Type 0} → (A → Option B) → List A → Option (List B)
each f [] = Some []
each f (x ∷ xs) = with_first (f x) (each f xs)

-- no item is the same as a later one
abbrev pub all_distinct : {A : Type 0} → (A → A → Bool) → List A → Bool
all_distinct same [] = true
all_distinct same (x ∷ xs) = not (list_any (same x) xs) && all_distinct same xs

-- there are as many of both, and each passes with the one at its place
abbrev pub all_zip : {A B : Type 0} → (A → B → Bool) → List A → List B → Bool
all_zip p [] [] = true
all_zip p (x ∷ xs) (y ∷ ys) = p x y && all_zip p xs ys
all_zip p xs ys = false

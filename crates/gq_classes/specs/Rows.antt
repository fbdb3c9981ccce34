-- Lists of rows in which each row stands once.
use Rattle.std.specs.Prelude.{◌≡◌, ℕ, Bool, not, Result, Ok, Err, List, [], ◌∷◌, ◌++◌, length, if◌then◌else◌}
use Rattle.std.specs.Cmp.Lexicographic.{pointwise}
use Rattle.std.specs.List.{AllByRecursion, list_any}
use Rattle.std.specs.Ordering.{is_eq}
use Rattle.gq_base.specs.Values.{Val, order_vals}
use Rattle.gq_base.specs.declared.memory.Memory.{Memory}

-- rows are the same where their values are, null and null too
abbrev pub same_value : Val → Val → Bool
same_value a b = is_eq (order_vals a b)

abbrev pub same_values : List Val → List Val → Bool
same_values = pointwise same_value

-- a row is among rows
abbrev pub has_row : List (List Val) → List Val → Bool
has_row rows row = list_any (same_values row) rows

-- the rows with one more, unless it is among them
abbrev pub with_row : List (List Val) → List Val → List (List Val)
with_row rows row = if has_row rows row then rows else rows ++ row ∷ []

-- each row has so many values
abbrev pub AreWide : ℕ → List (List Val) → Type 0
AreWide n rows = AllByRecursion (λ row. length row ≡ n) rows

-- what an insertion of a row tells and makes of the rows; nothing is told of them where there was not enough memory
abbrev pub Inserts : List (List Val) → List Val → List (List Val) → Result Bool Memory → Type 0
Inserts old row new (Ok added) = (added ≡ not (has_row old row)) × (new ≡ with_row old row)
Inserts old row new (Err e) = Unit {0}

-- Relationships of a table that differ where the rows at their ends do.
use Rattle.std.specs.Prelude.{◌≡◌, ℕ, ◌<◌, ◌==◌, ◌||◌, not, Bool, Option, Some, None, length, slice_get, slice_index}
use Rattle.gq_plan.specs.Meaning.{holds}
use Rattle.gq_plan.specs.declared.assignment.Assignment.{Assignment}
use Rattle.gq_plan.specs.declared.typed.RelPair.{RelPair}
use Rattle.gq_plan.specs.declared.typed.Typed.{Typed}
use Rattle.gq_plan.specs.declared.typed.TypedRel.{TypedRel}

abbrev pub source_of : Option TypedRel → ℕ
source_of None = 0
source_of (Some r) = r.source

abbrev pub target_of : Option TypedRel → ℕ
target_of None = 0
target_of (Some r) = r.target

-- the rows at the ends of a relationship variable
abbrev pub source_row : Typed → Assignment → ℕ → ℕ
source_row y row x = slice_index row.nodes (source_of (slice_get y.rels x))

abbrev pub target_row : Typed → Assignment → ℕ → ℕ
target_row y row x = slice_index row.nodes (target_of (slice_get y.rels x))

-- those of a pair are not the same ones
abbrev pub are_apart : Typed → Assignment → RelPair → Bool
are_apart y row p =
    not (source_row y row p.first == source_row y row p.second)
    || not (target_row y row p.first == target_row y row p.second)

abbrev pub ends_differ : Typed → Assignment → ℕ → Bool
ends_differ y row number = holds (are_apart y row) (slice_get y.pairs number)

-- a relationship variable and the node variables at its ends are there
pub record HasEnds (y : Typed) (row : Assignment) (x : ℕ) : Type 0 where
  pub rel : x < length y.rels
  pub source : source_of (slice_get y.rels x) < length row.nodes
  pub target : target_of (slice_get y.rels x) < length row.nodes

-- so are both of a pair
pub record HaveEnds (y : Typed) (row : Assignment) (p : RelPair) : Type 0 where
  pub one : HasEnds y row p.first
  pub other : HasEnds y row p.second

-- a pair is there, and both of it
pub record HasPair (y : Typed) (row : Assignment) (number : ℕ) : Type 0 where
  pub pair : RelPair
  pub there : slice_get y.pairs number ≡ Some pair
  pub ends : HaveEnds y row pair

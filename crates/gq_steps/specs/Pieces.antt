-- The whole list of a step that makes a group, and its pieces.
use Rattle.std.specs.Prelude.{List, ◌≡◌, ◌<◌, ◌+◌, ◌*◌, ◌^◌, ℕ, Option, Some, None, [], length, take, drop, slice_index, slice_index_or}
use Rattle.gq_group.specs.declared.piece.Piece.{Piece}
use Rattle.gq_group.specs.declared.piece.Piece.TheVariants as piece
use Rattle.gq_plan.specs.Plans.{Step, Scan, Extend, Close, Join}
use Rattle.std.specs.List.{range_with_len}
use Rattle.gq_bits.specs.declared.TheConstants.{VECTOR}
use Rattle.gq_base.specs.Valid.{row_count}
use Rattle.gq_group.specs.Pieces.{first_of, items_of}
use Rattle.gq_group.specs.declared.piece.KeptRels.{KeptRels}
use Rattle.gq_join.specs.Kept.{Held, matches_of, row_at}
use Rattle.gq_plan.specs.Rows.{node_table, rel_table}
use Rattle.gq_plan.specs.declared.assignment.Assignment.{Assignment}
use Rattle.gq_store.specs.Neighbours.{neighbours}
use Rattle.gq_steps.specs.Levels.{Run, step_at}

-- a scan has rows of a table, a step that follows relationships has neighbours, a join has rows of a build
abbrev pub HasForm : Step → Piece → Type 0
HasForm (Scan v) (piece.Span low high) = Unit {0}
HasForm (Extend column x from to way) (piece.List ids first) = Unit {0}
HasForm (Close column x from to way) (piece.List ids first) = Unit {0}
HasForm (Join side keys) (piece.Matches rows first) = Unit {0}
HasForm s p = ⊥

abbrev pub matches_in : Option Held → Assignment → List ℕ
matches_in None row = []
matches_in (Some h) row = matches_of h row

-- the whole list of a step that makes a group, as rows and load numbers have what it reads
abbrev pub list_of : Run → ℕ → Assignment → Step → List ℕ
list_of c d row (Scan v) = range_with_len 0 (row_count c.graph.nodes (node_table c.typed v))
list_of c d row (Extend column x from to way) = neighbours c.graph (rel_table c.typed x) way (slice_index row.nodes from)
list_of c d row (Close column x from to way) = neighbours c.graph (rel_table c.typed x) way (slice_index row.nodes from)
list_of c d row (Join side keys) = matches_in (slice_index_or c.builds d None) row
list_of c d row s = []

-- the part of a list that begins at a place, up to VECTOR items
abbrev pub part : List ℕ → ℕ → List ℕ
part list first = take VECTOR (drop first list)

-- that part of the list of the step at a depth
pub record IsPieceOf (c : Run) (d : ℕ) (row : Assignment) (first : ℕ) (p : Piece) : Type 0 where
  pub form : HasForm (step_at c d) p
  pub first_is : first_of p ≡ first
  pub items_are : items_of p ≡ part (list_of c d row (step_at c d)) first

-- the load numbers of the relationships that a build keeps, row by row
pub record HasKept (h : Held) (k : KeptRels) : Type 0 where
  pub width : k.width ≡ length h.rels
  pub narrow : k.width < 2 ^ 32
  pub each : (i j : ℕ) → i < length h.rows → j < length h.rels → slice_index k.numbers.now (i * length h.rels + j) ≡ slice_index (row_at h i).rels j
  pub inside : (i j : ℕ) → i < length h.rows → j < length h.rels → i * length h.rels + j < length k.numbers.now

abbrev pub KeepsOf : Option Held → KeptRels → Type 0
KeepsOf None k = Unit {0}
KeepsOf (Some h) k = HasKept h k

-- How the relationships of a table are kept: by their ends, in both directions, and by their places.
use Rattle.std.specs.Prelude.{ℕ, ◌≡◌, ◌+◌, ◌/◌, ◌<◌, Bool, true, false, List, [], length, slice_index, slice_index_or}
use Rattle.std.specs.List.{concat}
use Rattle.std.specs.declared.option.Option.{Option}
use Rattle.std.specs.declared.option.Option.TheVariants.{Some}
use Rattle.gq_adj.specs.Adjacent.{lists_of}
use Rattle.gq_base.specs.Directions.{opposite}
use Rattle.gq_base.specs.Plain.{Graph}
use Rattle.gq_base.specs.declared.Mult.TheVariants.{ManyMany}
use Rattle.gq_base.specs.declared.direction.Direction.{Direction}
use Rattle.gq_base.specs.declared.direction.Direction.TheVariants.{Forward, Backward}
use Rattle.gq_edges.specs.Once.{AreOnce, IsPairOf, Pair, pair_at}
use Rattle.gq_edges.specs.Order.{numbers_of, page_start_of}
use Rattle.gq_edges.specs.steps.Order.{IsPlaceOf}
use Rattle.gq_store.specs.Neighbours.{is_listed, mult_at, near_ends, near_rows}
use Rattle.gq_store.specs.declared.links.Links.{Links}
use Rattle.gq_store.specs.declared.links.Shape.{Shape}
use Rattle.gq_store.specs.declared.links.Places.TheVariants.{Sources, Targets, Paged}
use Rattle.gq_store.specs.declared.links.Places.{Places}
use Rattle.gq_store.specs.declared.links.Side.TheVariants.{Listed, Single}
use Rattle.gq_store.specs.declared.links.Side.{Side}

-- ---- one direction

-- each of n rows has one pair at most, and the column has it
pub record IsColumn (n : ℕ) (from to : List ℕ) (column : List (Option Pair)) : Type 0 where
  pub len : length column ≡ n
  pub pairs : (row : ℕ) → row < n → IsPairOf from to row (pair_at column row)
  pub once : AreOnce from

-- a side has the pairs of n rows, as lists or as a column
abbrev pub IsSide : Bool → ℕ → List ℕ → List ℕ → Side → Type 0
IsSide listed n from to (Listed lists) = (listed ≡ true) × (lists.targets ≡ lists_of n from to)
IsSide listed n from to (Single column) = (listed ≡ false) × IsColumn n from to column

-- ---- places

abbrev pub notes_of : Side → List (List ℕ)
notes_of (Listed lists) = lists.notes
notes_of (Single column) = []

-- relationships between n sources and m targets have places in pages, and the notes of the targets lead there
pub record ArePaged (n m : ℕ) (from to : List ℕ) (pages notes : List (List ℕ)) : Type 0 where
  pub pages_of : pages ≡ numbers_of n from
  pub size : length (concat pages) ≡ length from
  pub offsets : List ℕ
  pub paired : length offsets ≡ length to
  pub noted : notes ≡ lists_of m to offsets
  pub placed : (number : ℕ) → number < length from → IsPlaceOf (concat pages) number (page_start_of pages (slice_index from number / 128) + slice_index offsets number)

-- relationships have their places where the multiplicity says, and what leads from a load number to its place is kept
abbrev pub ArePlaces : Graph → ℕ → Side → Places → Type 0
ArePlaces g rel backward (Sources ends) = (is_listed g rel Forward ≡ false) × (ends.items ≡ near_ends g rel Forward)
ArePlaces g rel backward (Targets ends) = (is_listed g rel Forward ≡ true) × (is_listed g rel Backward ≡ false) × (ends.items ≡ near_ends g rel Backward)
ArePlaces g rel backward (Paged pages) = (mult_at g rel ≡ Some ManyMany) × ArePaged (near_rows g rel Forward) (near_rows g rel Backward) (near_ends g rel Forward) (near_ends g rel Backward) pages (notes_of backward)

-- ---- tables

abbrev pub side : Direction → Links → Side
side Forward links = links.forward
side Backward links = links.backward

-- the multiplicity of a table, and how many rows there are at both ends
pub record IsShape (g : Graph) (rel : ℕ) (shape : Shape) : Type 0 where
  pub mult_is : mult_at g rel ≡ Some shape.mult
  pub sources_are : shape.sources ≡ near_rows g rel Forward
  pub targets_are : shape.targets ≡ near_rows g rel Backward

-- a table's relationships are kept
pub record IsLinked (g : Graph) (rel : ℕ) (links : Links) : Type 0 where
  pub sides : (direction : Direction) → IsSide
      (is_listed g rel direction) (near_rows g rel direction)
      (near_ends g rel direction) (near_ends g rel (opposite direction)) (side direction links)
  pub places : ArePlaces g rel links.backward links.places

-- those of each table are
pub record AreLinked (g : Graph) (links : List Links) : Type 0 where
  pub len : length links ≡ length g.catalog.rels
  pub each : (rel : ℕ) (d : Links) → rel < length links → IsLinked g rel (slice_index_or links rel d)

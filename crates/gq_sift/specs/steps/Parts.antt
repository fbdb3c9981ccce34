-- Parts of the lists of a graph, and what is marked of them.
use Rattle.std.specs.Prelude.{◌≡◌, ℕ, ◌+◌, ◌<◌, ◌≤◌, Bool, true, false, List, length, slice_index}
use Rattle.gq_base.specs.Plain.{Graph}
use Rattle.gq_bits.specs.Places.{is_marked}
use Rattle.gq_bits.specs.declared.TheConstants.{VECTOR}
use Rattle.gq_plan.specs.Rows.{rel_table}
use Rattle.gq_plan.specs.declared.assignment.Assignment.{Assignment}
use Rattle.gq_plan.specs.declared.follow.Follow.{Follow}
use Rattle.gq_sift.specs.declared.finding.ListPart.{ListPart}
use Rattle.gq_steps.specs.Levels.{Run}
use Rattle.gq_store.specs.Neighbours.{near_rows, neighbours, numbers}

-- a part of the relationships of a table that are followed from a row
pub record IsPart (g : Graph) (p : ListPart) : Type 0 where
  pub within : p.table < length g.catalog.rels
  pub row : p.row < near_rows g p.table p.direction
  pub inside : p.high ≤ length (neighbours g p.table p.direction p.row)

-- the load numbers of the list that it is of
abbrev pub numbers_of : Graph → ListPart → List ℕ
numbers_of g p = numbers g p.table p.direction p.row

-- so many places, from one on, of the list that is followed from what an assignment has
abbrev pub part_from : Run → Follow → Assignment → ℕ → ℕ → ListPart
part_from c f row first count = record {
  table = rel_table c.typed f.rel;
  direction = f.direction;
  row = slice_index row.nodes f.from;
  low = first;
  high = first + count;
}

-- the marked places are places of a part
pub record AreIn (p : ListPart) (marks : List Bool) : Type 0 where
  pub long : length marks ≡ VECTOR
  pub below : (j : ℕ) → is_marked marks j ≡ true → (j < VECTOR) × (p.low + j < p.high)

-- of the marked places those are dropped of which something is true, and no others
pub record Drops (is : ℕ → Type 0) (old new : List Bool) : Type 0 where
  pub long : length new ≡ VECTOR
  pub kept : (j : ℕ) → is_marked new j ≡ true → is_marked old j ≡ true
  pub dropped : (j : ℕ) → is_marked old j ≡ true → is_marked new j ≡ false → is j

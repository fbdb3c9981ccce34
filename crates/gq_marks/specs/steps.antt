-- What the fields of marks stand for.
use Rattle.std.specs.Prelude.{◌≡◌, ℕ, ◌≤◌, nat_eq, nat_lt, Bool, true, not, List, [], get_or, length, slice_set, take}
use Rattle.gq_base.specs.declared.NodeId.{NodeId}
use Rattle.gq_marks.specs.Marking.{AreKnown, IsReached, Marking, mark_at}
use Rattle.gq_marks.specs.declared.marks.Marks.TheInside.{Inside}

abbrev pub marking_of : Inside → Marking
marking_of m = record { sheets = m.sheets.items; rest = m.rest; reached = take m.count m.reached.items }

pub record IsKept (m : Inside) : Type 0 where
  pub few : m.count ≤ length m.reached.items
  pub known : AreKnown (record { sheets = m.sheets.items; rest = m.rest; reached = take m.count m.reached.items })

-- a node has a place for a mark
abbrev pub has_place : List (List ℕ) → NodeId → Bool
has_place sheets n = nat_lt n.row (length (get_or sheets n.table []))

abbrev pub with_mark : List (List ℕ) → NodeId → ℕ → List (List ℕ)
with_mark sheets n mark = slice_set sheets n.table (slice_set (get_or sheets n.table []) n.row mark)

-- each node that has a mark is one of these from a place on
pub record IsAhead (nodes : List NodeId) (from : ℕ) (n : NodeId) : Type 0 where
  pub reached : IsReached nodes n
  pub low : from ≤ reached.place

abbrev pub AreAhead : List (List ℕ) → List NodeId → ℕ → Type 0
AreAhead sheets nodes from = (n : NodeId) → not (nat_eq (mark_at sheets n) 255) ≡ true → IsAhead nodes from n

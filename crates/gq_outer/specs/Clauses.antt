-- What optional clauses make of rows (openCypher 9, OPTIONAL MATCH; faults, and which fault marks a row, are this project's
-- profile). A row gives each variable of the query a node, a relationship, or nothing.
use Rattle.std.specs.Prelude.{ℕ, nat_eq, Bool, not, ◌&&◌, ◌||◌, true, Option, Some, None, List, [], ◌∷◌, ◌++◌, filter, flat_map, if◌then◌else◌}
use Rattle.gq_base.specs.Plain.{Graph}
use Rattle.gq_base.specs.declared.NodeId.{NodeId}
use Rattle.gq_expr.specs.Reading as reading
use Rattle.gq_expr.specs.declared.Fault.{Fault}
use Rattle.gq_plan.specs.Allowed.{at_same}
use Rattle.gq_plan.specs.Assignments.{Assignment}
use Rattle.gq_plan.specs.Marked.{Marked, marked}
use Rattle.gq_plan.specs.Soundness.{has_number}
use Rattle.gq_plan.specs.declared.bound.OptionalPart.{OptionalPart}

-- a row that no fault marks
abbrev pub unmarked : reading.Assignment → Marked
unmarked row = record { row = row; mark = None }

-- ---- one optional clause

-- what stands at the variables: for each of these the item of the list, for the others what stood there
abbrev pub placed : {X : Type 0} → List ℕ → List X → (ℕ → Option X) → ℕ → Option X
placed [] xs before v = before v
placed (s ∷ ss) [] before v = before v
placed (s ∷ ss) (x ∷ xs) before v = if nat_eq v s then Some x else placed ss xs before v

-- a row with the nodes and relationships of an assignment at these variables
abbrev pub with_match : List ℕ → List ℕ → reading.Assignment → Assignment → reading.Assignment
with_match nodes rels row t = record { nodes = placed nodes t.nodes row.nodes; rels = placed rels t.rels row.rels }

-- nodes agree with a row where the row has these very nodes at the variables that are known; a null agrees with none
abbrev pub agrees_at : List ℕ → List ℕ → (ℕ → Option NodeId) → List NodeId → Bool
agrees_at known [] row ns = true
agrees_at known (v ∷ vs) row [] = true
agrees_at known (v ∷ vs) row (n ∷ ns) = (not (has_number known v) || at_same (row v) (Some n)) && agrees_at known vs row ns

abbrev pub agrees : List ℕ → List ℕ → reading.Assignment → Assignment → Bool
agrees known nodes row t = agrees_at known nodes row.nodes t.nodes

-- the rows that matches make of a row, as the clause's conjuncts judge them
abbrev pub joined : Graph → OptionalPart → reading.Assignment → List Assignment → List Marked
joined g part row ms = flat_map (λ t. marked g part.conjuncts (with_match part.nodes part.rels row t)) ms

-- the continuations of a row: the matches of the clause that agree with it, each with it together
abbrev pub continuations : Graph → List ℕ → OptionalPart → List Assignment → reading.Assignment → List Marked
continuations g known part ms row = joined g part row (filter (agrees known part.nodes row) ms)

-- the row itself, where there are none
abbrev pub or_alone : reading.Assignment → List Marked → List Marked
or_alone row [] = unmarked row ∷ []
or_alone row (m ∷ ms) = m ∷ ms

abbrev pub unless_marked : Marked → Option Fault → List Marked → List Marked
unless_marked m None ms = ms
unless_marked m (Some f) ms = m ∷ []

-- what a clause makes of a row: a marked row stays, another is replaced by its continuations, or stands with nulls
unfoldable pub after_clause : Graph → List ℕ → OptionalPart → List Assignment → Marked → List Marked
after_clause g known part ms m = unless_marked m m.mark (or_alone m.row (continuations g known part ms m.row))

-- ---- all optional clauses

-- what clauses make of a row one after another, each with its matches; the variables that stood before are known
unfoldable pub after_clauses : Graph → List ℕ → List OptionalPart → List (List Assignment) → Marked → List Marked
after_clauses g known [] mss m = m ∷ []
after_clauses g known (p ∷ ps) [] m = m ∷ []
after_clauses g known (p ∷ ps) (ms ∷ mss) m = flat_map (after_clauses g (known ++ p.nodes) ps mss) (after_clause g known p ms m)

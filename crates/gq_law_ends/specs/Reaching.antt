-- The law of the last trail: nodes to which relationships lead, each once, stand for the ends of all its walks, and what is bound at these
-- nodes for all that the trail makes.
use Rattle.std.specs.Prelude.{◌≡◌, ℕ, true, Option, Some, List, [], ◌∷◌, ◌++◌, flat_map, map}
use Rattle.std.specs.List.{list_any}
use Rattle.gq_base.specs.Lists.{all_distinct}
use Rattle.gq_base.specs.Plain.{Graph}
use Rattle.gq_base.specs.declared.NodeId.{NodeId}
use Rattle.gq_base.specs.declared.RelId.{RelId}
use Rattle.gq_base.specs.declared.direction.Direction.{Direction}
use Rattle.gq_plan.specs.Assignments.{same_node}
use Rattle.gq_plan.specs.Meaning.{Partial, found, look}
use Rattle.gq_plan.specs.declared.TrailPart.{TrailPart}
use Rattle.gq_law_ends.specs.Leading.{leads_to}
use Rattle.gq_law_ends.specs.StandFor.{StandFor}
use Rattle.gq_law_trails.specs.Trails.{Trailing, after_trails, arrivals, used_in, walks_from}
use Rattle.gq_law_trails.specs.Walks.{end_of, walks}

-- the nodes where walks end
abbrev pub ends_of : Graph → Direction → Option NodeId → List (List RelId) → List NodeId
ends_of g way at ls = flat_map (λ l. found (end_of g way at l)) ls

-- these are the nodes to which relationships lead, each once
pub record AreLedTo (g : Graph) (kind : List ℕ) (way : Direction) (used : List RelId) (high : ℕ) (at : Option NodeId) (ns : List NodeId) : Type 0 where
  pub distinct : all_distinct same_node ns ≡ true
  pub all : (n : NodeId) → list_any (same_node n) ns ≡ leads_to g kind way used high at n

abbrev pub EndsStandFor : Type 0
EndsStandFor =
    (g : Graph) (kind : List ℕ) (way : Direction) (high : ℕ) (at : Option NodeId) (used : List RelId) (ns : List NodeId)
    → AreLedTo g kind way used high at ns → StandFor ns (ends_of g way at (walks g kind way 1 high at used))

-- what is bound behind trails
abbrev pub rows_in : List Trailing → List Partial
rows_in ms = map (λ (m : Trailing). m.row) ms

-- a last trail of at least one relationship: what is bound at the nodes to which its relationships lead
abbrev pub rows_at : Graph → TrailPart → Partial → List NodeId → List Partial
rows_at g p a ns = flat_map (λ n. arrivals g p a (Some n)) ns

abbrev pub LastTrailReaches : Type 0
LastTrailReaches =
    (g : Graph) (patterns : ℕ → List RelId) (p : TrailPart) (a : Partial) (ws : List (ℕ × List RelId)) (ns : List NodeId)
    → p.low ≡ 1 → AreLedTo g p.kind p.way (used_in patterns ws p.clause) p.high (look a.nodes p.from) ns
    → StandFor (rows_at g p a ns) (rows_in (after_trails g patterns (p ∷ []) a ws))

-- what is bound behind trails of which the last one gives rows: those before it are walked
abbrev pub rows_reached : Graph → (ℕ → List RelId) → (Partial → List (ℕ × List RelId) → List Partial) → List TrailPart → Partial → List (ℕ × List RelId) → List Partial
rows_reached g patterns last [] a ws = last a ws
rows_reached g patterns last (q ∷ qs) a ws =
    flat_map (λ l. flat_map (λ b. rows_reached g patterns last qs b ((q.clause, l) ∷ ws)) (arrivals g q a (end_of g q.way (look a.nodes q.from) l)))
    (walks_from g patterns q a ws)

-- so behind trails that are walked, whichever these are
abbrev pub LastOfTrailsReaches : Type 0
LastOfTrailsReaches =
    (g : Graph) (patterns : ℕ → List RelId) (qs : List TrailPart) (p : TrailPart) (ends : Partial → List (ℕ × List RelId) → List NodeId) (a : Partial) (ws : List (ℕ × List RelId))
    → p.low ≡ 1 → ((b : Partial) (vs : List (ℕ × List RelId)) → AreLedTo g p.kind p.way (used_in patterns vs p.clause) p.high (look b.nodes p.from) (ends b vs))
    → StandFor (rows_reached g patterns (λ b vs. rows_at g p b (ends b vs)) qs a ws) (rows_in (after_trails g patterns (qs ++ p ∷ []) a ws))

-- The trails of a query, walked one after another from what is bound: each walk with the node where it ends.
use Rattle.std.specs.Prelude.{ℕ, nat_eq, Bool, true, false, ◌&&◌, Option, Some, None, List, [], ◌∷◌, ◌++◌, map, flat_map, slice_get, if◌then◌else◌}
use Rattle.std.specs.List.{list_all}
use Rattle.gq_base.specs.Catalogs.{has_label}
use Rattle.gq_base.specs.Plain.{Graph}
use Rattle.gq_base.specs.declared.NodeId.{NodeId}
use Rattle.gq_base.specs.declared.RelId.{RelId}
use Rattle.gq_plan.specs.Allowed.{at_same}
use Rattle.gq_plan.specs.Conditions.{passes}
use Rattle.gq_plan.specs.Meaning.{Partial, keep_if, look, nothing, row, with_node}
use Rattle.gq_law_trails.specs.Walks.{end_of, walks}
use Rattle.gq_plan.specs.declared.TrailPart.{TrailPart}

-- what is bound, and the lists of the trails, in order
pub record Trailing : Type 0 where
  pub row : Partial
  pub lists : List (List RelId)

abbrev pub with_list : List RelId → Trailing → Trailing
with_list l m = record { row = m.row; lists = l ∷ m.lists }

-- what the trails of a clause took, of walks that stand with the numbers of their clauses
abbrev pub taken_in : ℕ → List (ℕ × List RelId) → List RelId
taken_in clause [] = []
taken_in clause (w ∷ ws) = (if nat_eq w.0 clause then w.1 else []) ++ taken_in clause ws

-- what a trail may not use: what trails before it and relationship patterns of its clause have
abbrev pub used_in : (ℕ → List RelId) → List (ℕ × List RelId) → ℕ → List RelId
used_in patterns ws clause = taken_in clause ws ++ patterns clause

-- ---- the other end

-- a node has the labels and passes the tests that are asked of the end which a trail binds
unfoldable pub fits_end : Graph → TrailPart → NodeId → Bool
fits_end g p n = list_all (has_label (slice_get g.catalog.nodes n.table)) p.labels && list_all (passes g (row (with_node p.to n nothing))) p.tests

abbrev pub arrive_at : Bool → Graph → TrailPart → Partial → NodeId → List Partial
arrive_at true g p a n = keep_if (at_same (look a.nodes p.to) (Some n)) a
arrive_at false g p a n = keep_if (fits_end g p n) (with_node p.to n a)

-- the other end is met where it is bound, else it is bound
abbrev pub arrivals : Graph → TrailPart → Partial → Option NodeId → List Partial
arrivals g p a None = []
arrivals g p a (Some n) = arrive_at p.both g p a n

-- ---- one trail after another

-- the walks of a trail from what is bound
abbrev pub walks_from : Graph → (ℕ → List RelId) → TrailPart → Partial → List (ℕ × List RelId) → List (List RelId)
walks_from g patterns p a ws = walks g p.kind p.way p.low p.high (look a.nodes p.from) (used_in patterns ws p.clause)

-- all ways to walk trails, behind walks that were taken
unfoldable pub after_trails : Graph → (ℕ → List RelId) → List TrailPart → Partial → List (ℕ × List RelId) → List Trailing
after_trails g patterns [] a ws = record { row = a; lists = [] } ∷ []
after_trails g patterns (p ∷ ps) a ws =
    flat_map (λ l. flat_map (λ b. map (with_list l) (after_trails g patterns ps b ((p.clause, l) ∷ ws)))
    (arrivals g p a (end_of g p.way (look a.nodes p.from) l)))
    (walks_from g patterns p a ws)

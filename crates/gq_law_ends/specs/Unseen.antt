-- The law of a trail whose relationships no later trail can have: it too may be answered by the nodes to which its relationships lead.
use Rattle.std.specs.Prelude.{◌≡◌, ◌⊎◌, ℕ, nat_eq, true, false, Some, List, ◌∷◌, flat_map}
use Rattle.std.specs.List.{AllByRecursion}
use Rattle.gq_base.specs.Plain.{Graph}
use Rattle.gq_base.specs.declared.NodeId.{NodeId}
use Rattle.gq_base.specs.declared.RelId.{RelId}
use Rattle.gq_plan.specs.Meaning.{Partial, look}
use Rattle.gq_plan.specs.declared.TrailPart.{TrailPart}
use Rattle.gq_law_ends.specs.Reaching.{AreLedTo, rows_in}
use Rattle.gq_law_ends.specs.StandFor.{StandFor}
use Rattle.gq_law_trails.specs.Trails.{after_trails, arrivals, used_in}
use Rattle.gq_law_trails.specs.Walks.{is_of_type}

-- a trail is of another clause, or no relationship is of the types of both
abbrev pub Unsees : Graph → TrailPart → TrailPart → Type 0
Unsees g p q = (nat_eq p.clause q.clause ≡ false) ⊎ ((r : RelId) → is_of_type g p.kind r ≡ true → is_of_type g q.kind r ≡ false)

-- the rows of later trails, from the nodes where a trail ends
abbrev pub rows_behind : Graph → (ℕ → List RelId) → TrailPart → List TrailPart → Partial → List (ℕ × List RelId) → List NodeId → List Partial
rows_behind g patterns p ps a ws ns = flat_map (λ n. flat_map (λ b. rows_in (after_trails g patterns ps b ws)) (arrivals g p a (Some n))) ns

abbrev pub UnseenTrailReaches : Type 0
UnseenTrailReaches =
    (g : Graph) (patterns : ℕ → List RelId) (p : TrailPart) (ps : List TrailPart) (a : Partial) (ws : List (ℕ × List RelId)) (ns : List NodeId)
    → p.low ≡ 1 → AllByRecursion (Unsees g p) ps → AreLedTo g p.kind p.way (used_in patterns ws p.clause) p.high (look a.nodes p.from) ns
    → StandFor (rows_behind g patterns p ps a ws ns) (rows_in (after_trails g patterns (p ∷ ps) a ws))

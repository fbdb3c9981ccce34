-- What callers see of the rows by which the trails of a query continue a row: those of all ways to walk them, or, where only which rows
-- there are counts, those at each end once of the last trails, on whose relationships no later trail hangs.
use Rattle.std.specs.Prelude.{ℕ, suc, nat_eq, not, Bool, true, false, ◌&&◌, ◌||◌, Option, Some, None, List, [], ◌∷◌, All, drop, flat_map, take, ◌≡◌, if◌then◌else◌}
use Rattle.std.specs.Cmp.Lexicographic.{pointwise}
use Rattle.std.specs.List.{list_all}
use Rattle.gq_base.specs.Plain.{Graph}
use Rattle.gq_base.specs.declared.NodeId.{NodeId}
use Rattle.gq_base.specs.declared.RelId.{RelId}
use Rattle.gq_hops.specs.Levels.{ends_met}
use Rattle.gq_law_ends.specs.Reaching.{rows_at, rows_in, rows_reached}
use Rattle.gq_law_ends.specs.StandFor.{StandFor}
use Rattle.gq_law_trails.specs.Trails.{used_in}
use Rattle.gq_plan.specs.Meaning.{Partial, look}
use Rattle.gq_plan.specs.declared.TrailPart.{TrailPart}
use Rattle.gq_plan.specs.declared.TypedRel.{TypedRel}
use Rattle.gq_outer.specs.Rows.{Wide}
use Rattle.gq_trails.specs.Trekking.{HasLength, continuations, partial_of, patterns_in}

-- ---- which rows

-- two trails are of different clauses, or of different types
abbrev pub are_apart : TrailPart → TrailPart → Bool
are_apart p q = not (nat_eq p.clause q.clause) || not (pointwise nat_eq p.kind q.kind)

-- each has one relationship or more, and no later one can have any of these
abbrev pub have_ends : List TrailPart → Bool
have_ends [] = true
have_ends (p ∷ ps) = nat_eq p.low 1 && list_all (are_apart p) ps && have_ends ps

-- how many trails are walked, before those that are gone through by their ends where it is said that each row counts once
abbrev pub walked_count : Bool → List TrailPart → ℕ
walked_count once [] = 0
walked_count once (p ∷ ps) = if once && have_ends (p ∷ ps) then 0 else suc (walked_count once ps)

-- the nodes to which a trail leads from a node, where these relationships are used
abbrev pub ends_from : Graph → TrailPart → List RelId → Option NodeId → List NodeId
ends_from g p used None = []
ends_from g p used (Some at) = ends_met g p.kind p.way used p.high at

-- the rows at these, from what is bound, where each clause may not use these relationships
abbrev pub rows_at_ends : Graph → (ℕ → List RelId) → TrailPart → Partial → List Partial
rows_at_ends g used p a = rows_at g p a (ends_from g p (used p.clause) (look a.nodes p.from))

-- and so on from each of these, trail by trail
abbrev pub rows_by_ends : Graph → (ℕ → List RelId) → List TrailPart → Partial → List Partial
rows_by_ends g used [] a = a ∷ []
rows_by_ends g used (p ∷ ps) a = flat_map (rows_by_ends g used ps) (rows_at_ends g used p a)

-- the first trails are walked, so many of them, and from there the others are gone through by their ends
abbrev pub rows_from : ℕ → Graph → (ℕ → List RelId) → List TrailPart → Partial → List Partial
rows_from n g patterns parts a = rows_reached g patterns (λ b ws. rows_by_ends g (used_in patterns ws) (drop n parts) b) (take n parts) a []

-- the rows by which trails continue a row
unfoldable pub rows_continued : Bool → Graph → List TrailPart → List TypedRel → Wide → List Partial
rows_continued once g parts ys row = rows_from (walked_count once parts) g (patterns_in ys row.rels) parts (partial_of row)

-- they stand for those of all ways to walk the trails
abbrev pub RowsStandForWays : Type 0
RowsStandForWays =
    (once : Bool) (g : Graph) (parts : List TrailPart) (ys : List TypedRel) (row : Wide) → All HasLength parts
    → StandFor (rows_continued once g parts ys row) (rows_in (continuations g parts ys row))

-- where rows may count more than once, they are those
abbrev pub RowsAreWays : Type 0
RowsAreWays = (g : Graph) (parts : List TrailPart) (ys : List TypedRel) (row : Wide) → rows_continued false g parts ys row ≡ rows_in (continuations g parts ys row)

-- ---- progress

pub record Continuing : Type 0 where
  pub graph : Graph
  pub parts : List TrailPart
  -- whether each row counts once
  pub once : Bool
  -- how many variables a row has
  pub nodes : ℕ
  pub rels : ℕ
  -- the rows that are still owed, in order, and the one that was reached last
  pub owed : List Partial
  pub reached : Partial
  -- whether there is one that was reached last
  pub standing : Bool

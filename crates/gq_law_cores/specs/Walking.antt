-- The laws of what the program's walker of all trails owes at a match of a query's core, and where it can start.
use Rattle.std.specs.Prelude.{◌≡◌, ℕ, ◌<◌, ◌≤◌, nat_lt, All, List, length, map, slice_get}
use Rattle.std.specs.List.{AllByRecursion}
use Rattle.gq_base.specs.Plain.{Graph}
use Rattle.gq_alternatives.specs.Alternatives.{Reading, typed_rels}
use Rattle.gq_law_reaches.specs.Core.{trail_parts}
use Rattle.gq_law_reaches.specs.Cores.{IsCored}
use Rattle.gq_law_reaches.specs.Reaches.{TrailPattern, Trailed}
use Rattle.gq_law_trails.specs.Trails.{Trailing}
use Rattle.gq_plan.specs.Assignments.{Assignment}
use Rattle.gq_plan.specs.Meaning.{row}
use Rattle.gq_plan.specs.declared.NamedExpr.{NamedExpr}
use Rattle.gq_plan.specs.declared.TrailPart.{TrailPart}
use Rattle.gq_scopes.specs.Patterns.{MapEntry}
use Rattle.gq_trails.specs.Trekking.{AreInTurn, HasLength, continuations}
use Rattle.gq_outer.specs.Rows.{Wide, item_at}
use Rattle.gq_law_cores.specs.Made.{trail_rows}

-- a row has what a match of the core has, and nothing else
pub record IsCoreRow (t : Assignment) (r : Wide) : Type 0 where
  pub nodes : (v : ℕ) → item_at r.nodes v ≡ slice_get t.nodes v
  pub rels : (x : ℕ) → item_at r.rels x ≡ slice_get t.rels x

-- what the walker owes at such a row of all variables are the rows by which trails continue the match
abbrev pub OwedAreTrailRows : Type 0
OwedAreTrailRows =
    (g : Graph) (test : MapEntry → NamedExpr) (q : Trailed) (cs : List Reading) (t : Assignment) (r : Wide)
    → length cs ≡ length q.pattern.rels → IsCoreRow t r
    → map (λ (m : Trailing). row m.row) (continuations g (trail_parts test q) (typed_rels q.pattern.rels cs) r)
    ≡ trail_rows g q.pattern (trail_parts test q) t

-- trails of at least one and at most 16 relationships can be made room for
abbrev pub PartsHaveLength : Type 0
PartsHaveLength =
    (test : MapEntry → NamedExpr) (q : Trailed)
    → AllByRecursion (λ (w : TrailPattern). (1 ≤ w.low) × (w.low ≤ w.high) × (w.high ≤ 16)) q.trails
    → All HasLength (trail_parts test q)

-- each begins at a variable that is known when its turn comes, where those of the core are known first
abbrev pub CoresAreInTurn : Type 0
CoresAreInTurn = (test : MapEntry → NamedExpr) (k : ℕ) (q : Trailed) → IsCored k q → AreInTurn (trail_parts test q) (λ v. nat_lt v k)

-- and its other end is a variable of the query
abbrev pub PartsHaveEnds : Type 0
PartsHaveEnds =
    (test : MapEntry → NamedExpr) (k : ℕ) (q : Trailed) → IsCored k q → All (λ (p : TrailPart). p.to < length q.pattern.names) (trail_parts test q)

-- What callers see of all trails of a query that are walked one after another.
use Rattle.std.specs.Prelude.{◌≡◌, ℕ, ◌+◌, ◌<◌, ◌≤◌, nat_eq, Bool, true, ◌||◌, Option, Some, None, List, [], ◌∷◌, ◌++◌, length, if◌then◌else◌}
use Rattle.std.specs.List.{AllByRecursion}
use Rattle.gq_base.specs.Plain.{Graph}
use Rattle.gq_base.specs.declared.NodeId.{NodeId}
use Rattle.gq_base.specs.declared.RelId.{RelId}
use Rattle.gq_law_plans.specs.Bindings.{bound}
use Rattle.gq_law_trails.specs.Trails.{Trailing, after_trails}
use Rattle.gq_plan.specs.declared.TrailPart.{TrailPart}
use Rattle.gq_plan.specs.Assignments.{is_node}
use Rattle.gq_plan.specs.Meaning.{Partial, found, look}
use Rattle.gq_plan.specs.declared.TypedRel.{TypedRel}
use Rattle.gq_outer.specs.Rows.{Wide, item_at}

-- ---- a row as what is bound

-- what items are there, each with its number
abbrev pub placed_from : {X : Type 0} → ℕ → List (Option X) → List (ℕ × X)
placed_from v [] = []
placed_from v (None ∷ os) = placed_from (v + 1) os
placed_from v (Some x ∷ os) = (v, x) ∷ placed_from (v + 1) os

abbrev pub partial_of : Wide → Partial
partial_of row = record { nodes = placed_from 0 row.nodes; rels = placed_from 0 row.rels }

-- what the relationship patterns of a clause have in a row, of those of an alternative from a number on
abbrev pub patterns_from : ℕ → List TypedRel → (ℕ → Option RelId) → ℕ → List RelId
patterns_from x [] rels clause = []
patterns_from x (y ∷ ys) rels clause = (if nat_eq y.clause clause then found (rels x) else []) ++ patterns_from (x + 1) ys rels clause

abbrev pub patterns_in : List TypedRel → List (Option RelId) → ℕ → List RelId
patterns_in ys os clause = patterns_from 0 ys (item_at os) clause

-- ---- when trails can be walked

-- a trail has a length, of at most 16
pub record HasLength (p : TrailPart) : Type 0 where
  pub some : 1 ≤ p.low
  pub ordered : p.low ≤ p.high
  pub few : p.high ≤ 16

-- where a variable is known exactly if it was before or an earlier trail binds it: each trail begins at one that is known, and its
-- other end is known too exactly where both ends are said to be
abbrev pub AreInTurn : List TrailPart → (ℕ → Bool) → Type 0
AreInTurn [] known = Unit {0}
AreInTurn (p ∷ ps) known = (known p.from ≡ true) × (known p.to ≡ p.both) × AreInTurn ps (λ v. nat_eq v p.to || known v)

-- the nodes are of the graph
abbrev pub AreNodes : Graph → List (ℕ × NodeId) → Type 0
AreNodes g bs = AllByRecursion (λ (b : ℕ × NodeId). is_node g b.1 ≡ true) bs

-- trails can be walked from a row of nodes of the graph, which has their variables
pub record CanTrek (g : Graph) (parts : List TrailPart) (row : Wide) : Type 0 where
  pub ends : AllByRecursion (λ (p : TrailPart). p.to < length row.nodes) parts
  pub turns : AreInTurn parts (bound (partial_of row).nodes)
  pub nodes : AreNodes g (partial_of row).nodes

-- ---- progress

pub record Trekking : Type 0 where
  pub graph : Graph
  pub parts : List TrailPart
  -- how many variables a row has
  pub nodes : ℕ
  pub rels : ℕ
  -- the continuations that are still owed, in order, and the one that was reached last
  pub owed : List Trailing
  pub reached : Trailing
  -- whether there is one that was reached last
  pub standing : Bool

-- all continuations of a row by trails, beside the relationships of an alternative
abbrev pub continuations : Graph → List TrailPart → List TypedRel → Wide → List Trailing
continuations g parts ys row = after_trails g (patterns_in ys row.rels) parts (partial_of row) []

-- a row has the nodes and the relationships of what was reached, and no others
pub record IsRowOf (m : Trailing) (row : Wide) : Type 0 where
  pub nodes : (v : ℕ) → item_at row.nodes v ≡ look m.row.nodes v
  pub rels : (x : ℕ) → item_at row.rels x ≡ look m.row.rels x

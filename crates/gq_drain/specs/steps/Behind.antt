-- A row behind which the optional clauses of a query go, and what is owed of it.
use Rattle.std.specs.Prelude.{◌≡◌, ◌^◌, ◌<◌, ◌≤◌, ℕ, None, Some, List, [], ◌∷◌, flat_map, length}
use Rattle.gq_expr.specs.Reading as reading
use Rattle.gq_optional.specs.Held.{row_reached, rows_owed}
use Rattle.gq_outer.specs.Clauses.{after_clauses}
use Rattle.gq_outer.specs.Rows.{Wide, item_at, read}
use Rattle.gq_plan.specs.Assignments.{Assignment, row_of}
use Rattle.gq_plan.specs.Marked.{Marked}
use Rattle.gq_plan.specs.declared.Typed.{Typed}
use Rattle.gq_drain.specs.Prepared.{known_by}
use Rattle.gq_drain.specs.declared.behind.Behind.{Behind}
use Rattle.gq_drain.specs.declared.behind.Stage.{Stage}
use Rattle.gq_drain.specs.declared.behind.Stage.TheVariants as stage
use Rattle.gq_drain.specs.declared.prepared.Prepared.{Prepared}
use Rattle.gq_drain.specs.steps.Continued.{left_by}

-- ---- rows

-- a row of so many variables; those from these numbers on have nothing
pub record IsBlankFrom (k l n m : ℕ) (w : Wide) : Type 0 where
  pub nodes : length w.nodes ≡ n
  pub rels : length w.rels ≡ m
  pub no_node : (v : ℕ) → k ≤ v → item_at w.nodes v ≡ None
  pub no_rel : (x : ℕ) → l ≤ x → item_at w.rels x ≡ None

-- none has anything
abbrev pub IsBlank : ℕ → ℕ → Wide → Type 0
IsBlank n m w = IsBlankFrom 0 0 n m w

-- ---- optional clauses

-- what the clauses make of an assignment, where it is left
abbrev pub behind_rows : Prepared → Typed → Assignment → List Marked
behind_rows p y t =
    let held = p.optionals.held in
    flat_map (after_clauses held.graph (known_by p) held.parts held.lists) (left_by p y (row_of t))

-- a row for the assignments of an alternative, and a walk over what was listed of the optional clauses
pub record IsBehind (h : Behind) : Type 0 where
  pub row : IsBlankFrom (length h.typed.now.nodes) (length h.typed.now.rels) h.prepared.now.optionals.held.shape.nodes h.prepared.now.optionals.held.shape.rels h.row
  pub walk : h.walk.held ≡ h.prepared.now.optionals.held
  pub nodes : length h.typed.now.nodes ≤ h.prepared.now.optionals.held.shape.nodes
  pub rels : length h.typed.now.rels ≤ h.prepared.now.optionals.held.shape.rels
  pub few_nodes : h.prepared.now.optionals.held.shape.nodes < 2 ^ 32
  pub few_rels : h.prepared.now.optionals.held.shape.rels < 2 ^ 32

-- what is owed at a stage, of a walk that owes these rows and of the row itself
abbrev pub owed_at : Stage → List Marked → reading.Assignment → List Marked
owed_at stage.Over ms row = []
owed_at (stage.Due f) ms row = record { row = row; mark = Some f } ∷ []
owed_at (stage.Alone f) ms row = []
owed_at stage.Walked ms row = ms

-- the row that stands at a stage
abbrev pub reached_at : Stage → Marked → reading.Assignment → Marked
reached_at stage.Over m row = record { row = row; mark = None }
reached_at (stage.Due f) m row = record { row = row; mark = Some f }
reached_at (stage.Alone f) m row = record { row = row; mark = Some f }
reached_at stage.Walked m row = m

abbrev pub owed_behind : Behind → List Marked
owed_behind h = owed_at h.stage (rows_owed h.walk) (read h.row)

abbrev pub reached_behind : Behind → Marked
reached_behind h = reached_at h.stage (row_reached h.walk) (read h.row)

-- some row always stands
abbrev pub Stands : Behind → Type 0
Stands h = Unit {0}

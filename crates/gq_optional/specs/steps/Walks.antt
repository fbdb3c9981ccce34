-- What the fields of optional clauses and of walks over their rows stand for, and what is true of them.
use Rattle.std.specs.Prelude.{◌≡◌, ℕ, ◌++◌, Bool, true, false, All, List, [], ◌∷◌, map, length}
use Rattle.std.specs.List.{range_with_len}
use Rattle.gq_base.specs.Plain.{Graph}
use Rattle.gq_plan.specs.Assignments as plain
use Rattle.gq_plan.specs.Marked.{Marked}
use Rattle.gq_plan.specs.Soundness.{has_number}
use Rattle.gq_outer.specs.Clauses.{unmarked}
use Rattle.gq_outer.specs.Rows.{Wide, read}
use Rattle.gq_plan.specs.declared.bound.OptionalPart.{OptionalPart}
use Rattle.gq_optional.specs.Held.{Held, Holding, Walking, rows_owed}
use Rattle.gq_optional.specs.declared.clause.Clause.{Clause}
use Rattle.gq_optional.specs.declared.clause_level.ClauseLevel.{ClauseLevel}
use Rattle.gq_optional.specs.declared.optionals.Optionals.TheInside.{Inside}
use Rattle.gq_optional.specs.declared.optionals.RowShape.{RowShape}
use Rattle.gq_optional.specs.declared.walk.Walk.{Walk}
use Rattle.gq_optional.specs.steps.Asking.{AllAsk}
use Rattle.gq_optional.specs.steps.Levels.{AreLevels, IsAlike, clauses_of, made_by_all, still}
use Rattle.gq_optional.specs.steps.Listed.{IsClause, list_of}

-- ---- clauses

abbrev pub parts_of : List Clause → List OptionalPart
parts_of cs = map (λ (c : Clause). c.part.now) cs

abbrev pub lists_of : List Clause → List (List plain.Assignment)
lists_of cs = map list_of cs

abbrev pub held_of : Graph → RowShape → List Clause → Held
held_of g shape cs = record { graph = g; shape = shape; parts = parts_of cs; lists = lists_of cs }

-- the shared variables of each clause are those that are known before it
abbrev pub AreShared : List ℕ → List Clause → Type 0
AreShared known [] = Unit {0}
AreShared known (c ∷ cs) = (c.shared ≡ map (has_number known) c.part.now.nodes) × AreShared (known ++ c.part.now.nodes) cs

-- the clauses of a query
abbrev pub holding_of : Inside → Holding
holding_of o = record { held = held_of o.graph.now o.shape o.clauses; spent = o.spent }

-- their variables are those of rows of this shape, each shares those that are known before it, and asks its conjuncts over the graph
pub record IsHolding (o : Inside) : Type 0 where
  pub clauses : All (IsClause o.shape.nodes o.shape.rels) o.clauses
  pub shared : AreShared (range_with_len 0 o.shape.first) o.clauses
  pub asks : AllAsk o.graph.now o.clauses

-- ---- walks

-- the variables that are known before all clauses, and those of the rows
abbrev pub known_by : Walk → List ℕ
known_by w = range_with_len 0 w.first

abbrev pub shape_by : Walk → RowShape
shape_by w = record { nodes = length w.base.nodes; rels = length w.base.rels; first = w.first }

abbrev pub held_by : Walk → Held
held_by w = held_of w.graph.now (shape_by w) (clauses_of w.levels.items)

-- the row that stands, and its mark
abbrev pub row_by : Walk → Marked
row_by w = record { row = read w.row; mark = w.mark }

-- what is owed: all rows, or those behind the one that stands
abbrev pub owed_as : Graph → Wide → List ClauseLevel → Bool → Bool → List Marked
owed_as g base ls true standing = made_by_all g (clauses_of ls) (unmarked (read base))
owed_as g base ls false true = still g (read base) ls
owed_as g base ls false false = []

abbrev pub owed_by : Walk → List Marked
owed_by w = owed_as w.graph.now w.base w.levels.items w.fresh w.standing

-- each clause works over rows of these variables, shares those that are known before it, and asks its conjuncts over the graph
pub record IsWalk (w : Walk) : Type 0 where
  pub levels : AreLevels (length w.base.nodes) (length w.base.rels) w.levels.items
  pub shared : AreShared (known_by w) (clauses_of w.levels.items)
  pub asks : AllAsk w.graph.now (clauses_of w.levels.items)
  pub row : IsAlike w.row w.base

-- what callers see of it; what is owed are the last of the rows that the clauses make
abbrev pub walking_of : Walk → Walking
walking_of w = record { held = held_by w; base = w.base; left = length (owed_by w); row = w.row; mark = w.mark; standing = w.standing }

pub record IsWalking (w : Walk) : Type 0 where
  pub walk : IsWalk w
  pub owed : rows_owed (walking_of w) ≡ owed_by w

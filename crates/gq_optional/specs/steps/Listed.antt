-- The matches that are held of an optional clause.
use Rattle.std.specs.Prelude.{◌≡◌, ℕ, ◌^◌, ◌<◌, Bool, All, List, map, filter, flat_map, length}
use Rattle.std.specs.List.{AllByRecursion, range_with_len}
use Rattle.gq_expr.specs.Reading as reading
use Rattle.gq_join.specs.Kept.{Kept, row_at}
use Rattle.gq_plan.specs.Assignments as plain
use Rattle.gq_plan.specs.Rows.{assigned}
use Rattle.gq_plan.specs.declared.typed.Typed.{Typed}
use Rattle.gq_optional.specs.declared.clause.Clause.{Clause}
use Rattle.gq_optional.specs.declared.clause.Matches.{Matches}
use Rattle.gq_optional.specs.steps.Looked.{agrees_by, places_of}

-- ---- one alternative

-- the match that a row of a build stands for
abbrev pub match_of : Typed → Kept → plain.Assignment
match_of y k = assigned y (record { nodes = k.nodes; rels = k.rels })

-- the match of a row's number, and all of them
abbrev pub match_at : Matches → ℕ → plain.Assignment
match_at m i = match_of m.typed.now (row_at m.build i)

abbrev pub matches_in : Matches → List plain.Assignment
matches_in m = map (match_of m.typed.now) m.build.rows

-- those that agree with a row
abbrev pub agrees_with : List Bool → List ℕ → reading.Assignment → plain.Assignment → Bool
agrees_with shared nodes row t = agrees_by shared nodes row.nodes t.nodes

abbrev pub agreeing : List Bool → List ℕ → reading.Assignment → Matches → List plain.Assignment
agreeing shared nodes row m = filter (agrees_with shared nodes row) (matches_in m)

-- a row has a number for each variable
abbrev pub IsSized : ℕ → ℕ → Kept → Type 0
IsSized n m k = (length k.nodes ≡ n) × (length k.rels ≡ m)

-- a build holds a row and a load number for each variable of an alternative, and its keys are the shared ones
pub record IsWhole (shared : List Bool) (seats : List ℕ) (m : Matches) : Type 0 where
  pub wide : length shared ≡ length seats
  pub few_nodes : length seats < 2 ^ 32
  pub few_rels : length m.typed.now.rels < 2 ^ 32
  pub tables : length m.typed.now.nodes ≡ length seats
  pub nodes : m.build.nodes ≡ range_with_len 0 (length seats)
  pub rels : m.build.rels ≡ range_with_len 0 (length m.typed.now.rels)
  pub keys : m.build.keys ≡ places_of 0 shared
  pub sized : AllByRecursion (IsSized (length seats) (length m.typed.now.rels)) m.build.rows

-- ---- a clause

abbrev pub list_of : Clause → List plain.Assignment
list_of c = flat_map matches_in c.matches.items

-- each build is whole, and the clause's variables are among so many
pub record IsClause (n m : ℕ) (c : Clause) : Type 0 where
  pub whole : All (IsWhole c.shared c.part.now.nodes) c.matches.items
  pub nodes_in : All (λ v. v < n) c.part.now.nodes
  pub rels_in : All (λ x. x < m) c.part.now.rels

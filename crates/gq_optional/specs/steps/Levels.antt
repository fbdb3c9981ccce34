-- What is left of optional clauses at work.
use Rattle.std.specs.Prelude.{◌≡◌, ℕ, ◌<◌, Bool, true, false, All, Option, Some, None, List, [], ◌∷◌, ◌++◌, drop, map, filter, flat_map, length}
use Rattle.gq_base.specs.Plain.{Graph}
use Rattle.gq_expr.specs.Reading as reading
use Rattle.gq_expr.specs.declared.Fault.{Fault}
use Rattle.gq_plan.specs.Assignments as plain
use Rattle.gq_plan.specs.Marked.{Marked}
use Rattle.gq_outer.specs.Clauses.{joined, or_alone, unless_marked, unmarked}
use Rattle.gq_outer.specs.Rows.{Wide, read}
use Rattle.gq_optional.specs.declared.clause.Clause.{Clause}
use Rattle.gq_optional.specs.declared.clause.Matches.{Matches}
use Rattle.gq_optional.specs.declared.clause_level.Found.{Found}
use Rattle.gq_optional.specs.declared.clause_level.ClauseLevel.{ClauseLevel}
use Rattle.gq_optional.specs.steps.Listed.{IsClause, IsWhole, agreeing, agrees_with, list_of, match_at}
use Rattle.gq_optional.specs.steps.Looked.{count_shared}

-- ---- one clause

-- the matches of whole alternatives that agree with a row
abbrev pub agreeing_in : Clause → reading.Assignment → List Matches → List plain.Assignment
agreeing_in c row ms = flat_map (agreeing c.shared c.part.now.nodes row) ms

-- those that are left, of alternatives and the rows of the first of them
abbrev pub pending_of : Clause → reading.Assignment → List Matches → List ℕ → List plain.Assignment
pending_of c row [] rows = []
pending_of c row (m ∷ ms) rows = map (match_at m) rows ++ agreeing_in c row ms

-- the alternatives that are left
abbrev pub matches_left : ClauseLevel → List Matches
matches_left l = drop l.at l.clause.now.matches.items

abbrev pub pending : reading.Assignment → ClauseLevel → List plain.Assignment
pending row l = pending_of l.clause.now row (matches_left l) (drop l.next l.rows.now)

-- the rows that are left to be made of a row
abbrev pub left_of : Graph → reading.Assignment → ClauseLevel → List Marked
left_of g row l = joined g l.clause.now.part.now row (pending row l)

-- the row that was made last
abbrev pub now_at : ClauseLevel → Marked
now_at l = record { row = read l.row; mark = l.mark }

-- rows of the first of some alternatives
abbrev pub AreRowsOf : List Matches → List ℕ → Type 0
AreRowsOf [] rows = Unit {0}
AreRowsOf (m ∷ ms) rows = All (λ i. i < length m.build.rows) rows

abbrev pub HasRows : ClauseLevel → Type 0
HasRows l = AreRowsOf (matches_left l) l.rows.now

-- a clause at work
pub record IsLevel (l : ClauseLevel) : Type 0 where
  pub clause : IsClause (length l.row.nodes) (length l.row.rels) l.clause.now
  pub key : length l.key.items ≡ count_shared l.clause.now.shared

-- a row with the same variables
pub record IsAsWide (row : Wide) (l : ClauseLevel) : Type 0 where
  pub nodes : length row.nodes ≡ length l.row.nodes
  pub rels : length row.rels ≡ length l.row.rels

-- the clause stays, and which variables its rows have
pub record IsSameClause (old new : ClauseLevel) : Type 0 where
  pub clause : new.clause.now ≡ old.clause.now
  pub nodes : length new.row.nodes ≡ length old.row.nodes
  pub rels : length new.row.rels ≡ length old.row.rels

-- the next match that agrees with a row, or there is none
pub record FindsNext (row : reading.Assignment) (old : ClauseLevel) (f : Found) (new : ClauseLevel) : Type 0 where
  pub next : pending row old ≡ match_at f.matches.now f.at ∷ pending row new
  pub whole : IsWhole old.clause.now.shared old.clause.now.part.now.nodes f.matches.now
  pub there : f.at < length f.matches.now.build.rows

-- none is left
pub record IsThrough (row : reading.Assignment) (old new : ClauseLevel) : Type 0 where
  pub none : pending row old ≡ []
  pub over : matches_left new ≡ []

abbrev pub Finds : reading.Assignment → ClauseLevel → Option Found → ClauseLevel → Type 0
Finds row old (Some f) new = FindsNext row old f new
Finds row old None new = IsThrough row old new

-- the next row is made, or there is none
abbrev pub GoesOn : Graph → reading.Assignment → ClauseLevel → Bool → ClauseLevel → Type 0
GoesOn g row old true new = left_of g row old ≡ now_at new ∷ left_of g row new
GoesOn g row old false new = (left_of g row old ≡ []) × (matches_left new ≡ [])

-- what a clause makes of a row that comes to it
abbrev pub made_by : Graph → Clause → Marked → List Marked
made_by g c m =
    unless_marked m m.mark (or_alone m.row (joined g c.part.now m.row (filter (agrees_with c.shared c.part.now.nodes m.row) (list_of c))))

-- ---- clauses one behind another

abbrev pub made_by_all : Graph → List Clause → Marked → List Marked
made_by_all g [] m = m ∷ []
made_by_all g (c ∷ cs) m = flat_map (made_by_all g cs) (made_by g c m)

abbrev pub clauses_of : List ClauseLevel → List Clause
clauses_of ls = map (λ (l : ClauseLevel). l.clause.now) ls

-- the rows that are left behind the one that stands
abbrev pub still : Graph → reading.Assignment → List ClauseLevel → List Marked
still g row [] = []
still g row (l ∷ ls) = still g (read l.row) ls ++ flat_map (made_by_all g (clauses_of ls)) (left_of g row l)

-- the row that the last clause made
abbrev pub last_row : Marked → List ClauseLevel → Marked
last_row m [] = m
last_row m (l ∷ ls) = last_row (now_at l) ls

-- the same of rows that are held, and its mark
abbrev pub last_wide : Wide → List ClauseLevel → Wide
last_wide row [] = row
last_wide row (l ∷ ls) = last_wide l.row ls

abbrev pub last_mark : Option Fault → List ClauseLevel → Option Fault
last_mark mark [] = mark
last_mark mark (l ∷ ls) = last_mark l.mark ls

-- rows of as many variables
pub record IsAlike (row other : Wide) : Type 0 where
  pub nodes : length row.nodes ≡ length other.nodes
  pub rels : length row.rels ≡ length other.rels

-- each works, over rows of so many variables
abbrev pub AreLevels : ℕ → ℕ → List ClauseLevel → Type 0
AreLevels n m [] = Unit {0}
AreLevels n m (l ∷ ls) = (IsLevel l × HasRows l) × ((length l.row.nodes ≡ n) × (length l.row.rels ≡ m)) × AreLevels n m ls

-- the next row stands, or there is none
abbrev pub StepsOn : Graph → reading.Assignment → List ClauseLevel → Bool → List ClauseLevel → Type 0
StepsOn g row old true new = still g row old ≡ last_row (unmarked row) new ∷ still g row new
StepsOn g row old false new = still g row old ≡ []

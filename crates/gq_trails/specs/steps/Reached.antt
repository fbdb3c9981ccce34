-- A trail that is gone through by its ends: which rows are owed, and what is true of it.
use Rattle.std.specs.Prelude.{◌≡◌, ◌⊎◌, ℕ, ◌<◌, ◌≤◌, Bool, true, false, Some, List, [], ◌∷◌, length, if◌then◌else◌}
use Rattle.std.specs.List.{AllByRecursion}
use Rattle.gq_base.specs.Plain.{Graph}
use Rattle.gq_base.specs.declared.NodeId.{NodeId}
use Rattle.gq_ends.specs.Ends.{other_end}
use Rattle.gq_law_ends.specs.Reaching.{rows_at}
use Rattle.gq_plan.specs.Assignments.{is_node}
use Rattle.gq_plan.specs.Meaning.{Partial, look}
use Rattle.gq_plan.specs.declared.TrailPart.{TrailPart}
use Rattle.gq_outer.specs.Rows.{Wide, item_at}
use Rattle.gq_trails.specs.steps.Journeys.{binds, bound_at, cleared}
use Rattle.gq_trails.specs.declared.reached.Ends.{Ends}

-- the rows at the nodes that are still owed, from what is bound before the trail
abbrev pub left_from : Ends → Partial → List Partial
left_from e a = rows_at e.graph.now e.part.now a e.reacher.owed

-- what is bound behind the end that was reached last
abbrev pub behind_end : TrailPart → Wide → Partial → Partial
behind_end p row a = if p.both then a else bound_at p.to (item_at row.nodes p.to) a

-- a row has what is bound; and but for what a trail binds
abbrev pub IsSeen : Wide → Partial → Type 0
IsSeen row a = (v : ℕ) → item_at row.nodes v ≡ look a.nodes v

abbrev pub IsSeenBefore : TrailPart → Wide → Partial → Type 0
IsSeenBefore p row a = (v : ℕ) → binds v p ≡ false → item_at row.nodes v ≡ look a.nodes v

-- a row without what a trail binds
abbrev pub before_end : TrailPart → Wide → Wide
before_end p row = record { nodes = cleared (p ∷ []) row.nodes; rels = row.rels }

-- where the trail binds its other end, the row has a node of the graph there
pub record HasNode (g : Graph) (v : ℕ) (row : Wide) : Type 0 where
  pub node : NodeId
  pub is : item_at row.nodes v ≡ Some node
  pub there : is_node g node ≡ true

abbrev pub HasEnd : Graph → TrailPart → Wide → Type 0
HasEnd g p row = p.both ≡ false → HasNode g p.to row

-- the search is that of the trail over the graph, and its nodes are of the graph; where something is owed, the row has the variable of
-- the trail's other end
pub record AreEnds (e : Ends) : Type 0 where
  pub graph : e.reacher.graph ≡ e.graph.now
  pub kind : e.reacher.kind ≡ e.part.now.kind
  pub way : e.reacher.way ≡ e.part.now.way
  pub high : e.reacher.high ≡ e.part.now.high
  pub some : 1 ≤ e.part.now.high
  pub end : e.end ≡ other_end e.graph.now e.part.now
  pub within : (e.reacher.owed ≡ []) ⊎ (e.part.now.to < length e.row.nodes)
  pub there : AllByRecursion (λ n. is_node e.graph.now n ≡ true) e.reacher.owed

-- a trail, and what is searched, stay
pub record AreSameEnds (old new : Ends) : Type 0 where
  pub graph : new.graph.now ≡ old.graph.now
  pub part : new.part.now ≡ old.part.now
  pub nodes : length new.row.nodes ≡ length old.row.nodes
  pub rels : length new.row.rels ≡ length old.row.rels

-- the row goes to another end, or to none
pub record GoesToEnd (old new : Ends) (found : Bool) : Type 0 where
  pub before : before_end old.part.now new.row ≡ before_end old.part.now old.row
  pub next : found ≡ true → (a : Partial) → IsSeenBefore old.part.now old.row a → left_from old a ≡ behind_end old.part.now new.row a ∷ left_from new a
  pub end : found ≡ true → HasEnd old.graph.now old.part.now new.row
  pub fewer : found ≡ true → length new.reacher.owed < length old.reacher.owed
  pub none : found ≡ false → (a : Partial) → IsSeenBefore old.part.now old.row a → left_from old a ≡ []
  pub over : found ≡ false → new.reacher.owed ≡ []

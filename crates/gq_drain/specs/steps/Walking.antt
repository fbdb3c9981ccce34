-- A row from which the trails of a query are walked, and the rows that are owed of it.
use Rattle.std.specs.Prelude.{◌≡◌, ◌^◌, ◌<◌, ◌≤◌, true, List, flat_map, length, map}
use Rattle.gq_base.specs.Plain.{Graph}
use Rattle.gq_plan.specs.Assignments.{Assignment}
use Rattle.gq_plan.specs.Marked.{Marked}
use Rattle.gq_plan.specs.Meaning.{Partial, row}
use Rattle.gq_plan.specs.declared.Bound.{Bound}
use Rattle.gq_plan.specs.declared.Typed.{Typed}
use Rattle.gq_trails.specs.Continued.{Continuing}
use Rattle.gq_drain.specs.Prepared.{CanWalk}
use Rattle.gq_drain.specs.declared.prepared.Prepared.{Prepared}
use Rattle.gq_drain.specs.declared.trailing.Walking.{Walking}
use Rattle.gq_drain.specs.steps.Behind.{IsBlankFrom}
use Rattle.gq_drain.specs.steps.Continued.{left_by}
use Rattle.gq_drain.specs.steps.Continuing.{continued_by}

-- trails of a query over a graph; each row that they make counts once where the query has DISTINCT
pub record AreTrailsOf (g : Graph) (b : Bound) (t : Continuing) : Type 0 where
  pub graph : t.graph ≡ g
  pub parts : t.parts ≡ b.trails
  pub once : t.once ≡ b.distinct
  pub nodes : t.nodes ≡ length b.node_names
  pub rels : t.rels ≡ length b.rel_names

-- what is left of the rows that trails reach
abbrev pub left_of_all : Prepared → Typed → List Partial → List Marked
left_of_all p y ps = flat_map (left_by p y) (map row ps)

-- what is left of the rows by which the trails continue an assignment
abbrev pub walked_rows : Prepared → Typed → Assignment → List Marked
walked_rows p y t = flat_map (left_by p y) (continued_by p.graph.now p.bound.now y t)

-- a row for the assignments of an alternative, and trails that can be walked from it
pub record IsWalking (h : Walking) : Type 0 where
  pub row_is : IsBlankFrom (length h.typed.now.nodes) (length h.typed.now.rels) (length h.prepared.now.bound.now.node_names) (length h.prepared.now.bound.now.rel_names) h.row
  pub trails : AreTrailsOf h.prepared.now.graph.now h.prepared.now.bound.now h.trails
  pub walks : CanWalk h.prepared.now.bound.now h.typed.now
  pub nodes : length h.typed.now.nodes ≤ length h.prepared.now.bound.now.node_names
  pub rels : length h.typed.now.rels ≤ length h.prepared.now.bound.now.rel_names
  pub few_nodes : length h.prepared.now.bound.now.node_names < 2 ^ 32
  pub few_rels : length h.prepared.now.bound.now.rel_names < 2 ^ 32

abbrev pub owed_walking : Walking → List Marked
owed_walking h = left_of_all h.prepared.now h.typed.now h.trails.owed

abbrev pub reached_walking : Walking → Marked
reached_walking h = record { row = row h.trails.reached; mark = h.fault }

abbrev pub Reaches : Walking → Type 0
Reaches h = h.trails.standing ≡ true

-- What is prepared for a query before its pipelines are drained.
use Rattle.std.specs.Prelude.{◌≡◌, ◌<◌, ◌≤◌, ◌^◌, ◌+◌, ℕ, nat_lt, All, List, [], length}
use Rattle.gq_base.specs.Plain.{Graph}
use Rattle.gq_eval.specs.Asked.{Asked, asked_of}
use Rattle.gq_optional.specs.Held.{first_known}
use Rattle.gq_plan.specs.declared.Bound.{Bound}
use Rattle.gq_plan.specs.declared.TrailPart.{TrailPart}
use Rattle.gq_plan.specs.declared.Typed.{Typed}
use Rattle.gq_trails.specs.Trekking.{AreInTurn, HasLength}
use Rattle.gq_drain.specs.Becoming.{Later, if_admitted_behind}
use Rattle.gq_drain.specs.Testing.{admitted_by}
use Rattle.gq_drain.specs.declared.prepared.Prepared.{Prepared}

-- the conjuncts of a query over a graph, where it has optional clauses or trails
abbrev pub AreAsked : Graph → Bound → List Asked → Type 0
AreAsked g b all = (b.optionals ≡ [] → b.trails ≡ [] → ⊥) → all ≡ asked_of g b.conjuncts

-- it is prepared for this query over this graph: it has the query's conjuncts, and what was listed of the query's optional clauses, for
-- rows of the query's variables
pub record IsPreparedFor (g : Graph) (b : Bound) (p : Prepared) : Type 0 where
  pub over : p.graph.now ≡ g
  pub bound : p.bound.now ≡ b
  pub asked : AreAsked g b p.conjuncts
  pub graph : p.optionals.held.graph ≡ g
  pub shape : p.optionals.held.shape ≡ p.shape
  pub nodes : p.optionals.held.shape.nodes ≡ length b.node_names
  pub rels : p.optionals.held.shape.rels ≡ length b.rel_names
  pub few_nodes : length b.node_names < 2 ^ 32
  pub few_rels : length b.rel_names < 2 ^ 32
  pub parts : p.optionals.held.parts ≡ b.optionals

-- the trails of a query can be walked from the assignments of an alternative
pub record CanWalk (b : Bound) (y : Typed) : Type 0 where
  pub lengths : All HasLength b.trails
  pub ends : All (λ (p : TrailPart). p.to < length b.node_names) b.trails
  pub turns : AreInTurn b.trails (λ v. nat_lt v (length y.nodes))
  pub few : length b.trails + length y.rels ≤ 24

-- the variables that stand before the optional clauses
abbrev pub known_by : Prepared → List ℕ
known_by p = first_known p.optionals.held

-- what becomes of a row: where the tests admit it, it goes behind the optional clauses
abbrev pub later_by : Graph → Prepared → Later
later_by g p = if_admitted_behind (admitted_by p.tests.all) g (known_by p) p.optionals.held.lists

-- What a bound query is that can be answered over a graph of these tables.
use Rattle.std.specs.Prelude.{◌≡◌, ◌+◌, ◌<◌, ◌≤◌, nat_lt, All, [], length}
use Rattle.gq_base.specs.Catalogs.{Tables}
use Rattle.gq_plan.specs.Soundness.{IsSound}
use Rattle.gq_plan.specs.declared.Bound.{Bound}
use Rattle.gq_plan.specs.declared.ExistsPart.{ExistsPart}
use Rattle.gq_plan.specs.declared.TrailPart.{TrailPart}
use Rattle.gq_plan.specs.declared.Typed.{Typed}
use Rattle.gq_trails.specs.Trekking.{AreInTurn, HasLength}
use Rattle.gq_outer.specs.Placed.{IsPlaced}

-- its alternatives, and those of its tests of paths, are sound and begin with a node, and the variables of alternatives and of optional
-- clauses are its own; its trails have a length, end at its variables, are few, and each is walked from a variable that is bound when its
-- turn comes; it has not both trails and optional clauses
pub record IsReady (catalog : Tables) (b : Bound) : Type 0 where
  pub sound : All (IsSound catalog) b.alternatives
  pub begins : All (λ (y : Typed). 0 < length y.nodes) b.alternatives
  pub tests_sound : All (λ (p : ExistsPart). All (IsSound catalog) p.alternatives) b.patterns
  pub tests_begin : All (λ (p : ExistsPart). All (λ (y : Typed). 0 < length y.nodes) p.alternatives) b.patterns
  pub placed : All (IsPlaced (length b.node_names) (length b.rel_names) catalog) b.optionals
  pub nodes : All (λ (y : Typed). length y.nodes ≤ length b.node_names) b.alternatives
  pub rels : All (λ (y : Typed). length y.rels ≤ length b.rel_names) b.alternatives
  pub trails : All HasLength b.trails
  pub ends : All (λ (p : TrailPart). p.to < length b.node_names) b.trails
  pub turns : All (λ (y : Typed). AreInTurn b.trails (λ v. nat_lt v (length y.nodes))) b.alternatives
  pub few : All (λ (y : Typed). length b.trails + length y.rels ≤ 24) b.alternatives
  pub apart : (b.optionals ≡ [] → ⊥) → b.trails ≡ []

-- An optional clause whose variables are among those of a query.
use Rattle.std.specs.Prelude.{ℕ, ◌≡◌, ◌<◌, All, length}
use Rattle.gq_base.specs.Catalogs.{Tables}
use Rattle.gq_plan.specs.Soundness.{IsSound}
use Rattle.gq_plan.specs.declared.bound.OptionalPart.{OptionalPart}

-- the clause's alternatives are sound, and each has at least one node; it says of each of their variables which one of the
-- query's so many node and relationship variables it is
pub record IsPlaced (node_count rel_count : ℕ) (catalog : Tables) (part : OptionalPart) : Type 0 where
  pub sound : All (IsSound catalog) part.alternatives
  pub begins : All (λ y. 0 < length y.nodes) part.alternatives
  pub nodes : All (λ y. length y.nodes ≡ length part.nodes) part.alternatives
  pub rels : All (λ y. length y.rels ≡ length part.rels) part.alternatives
  pub nodes_there : All (λ v. v < node_count) part.nodes
  pub rels_there : All (λ x. x < rel_count) part.rels

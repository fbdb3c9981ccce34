-- When a bound query has the alternatives of a core.
use Rattle.std.specs.Prelude.{◌≡◌, ℕ, Bool, All, List, map}
use Rattle.gq_base.specs.Catalogs.{Tables}
use Rattle.gq_alternatives.specs.Alternatives.{pattern_alternatives}
use Rattle.gq_core.specs.Entries.{entry_test}
use Rattle.gq_law_cuts.specs.Typing.{core_typed}
use Rattle.gq_plan.specs.Soundness.{IsSound}
use Rattle.gq_plan.specs.declared.Bound.{Bound}
use Rattle.gq_plan.specs.declared.NamedExpr.{NamedExpr}
use Rattle.gq_scopes.specs.Patterns.{Pattern}

-- a bound query has the alternatives of a core's pattern, each of them sound
pub record HasCores (text : List ℕ) (catalog : Tables) (p : Pattern) (stays : NamedExpr → Bool) (bound : Bound) : Type 0 where
  pub alternatives : bound.alternatives
      ≡ map (core_typed catalog p stays (map (entry_test text) p.entries) bound.conjuncts) (pattern_alternatives catalog p)
  pub sound : All (IsSound catalog) bound.alternatives

-- The variables of a query, as its patterns and its expressions name them.
use Rattle.std.specs.Prelude.{ℕ, ◌<◌}
use Rattle.gq_plan.specs.declared.variable.Variable.TheVariants.{Node as node, Rel as rel}
use Rattle.gq_plan.specs.declared.variable.Variable.{Variable}

-- a variable is one of so many of nodes and so many of relationships
abbrev pub IsThere : ℕ → ℕ → Variable → Type 0
IsThere n m (node v) = v < n
IsThere n m (rel x) = x < m

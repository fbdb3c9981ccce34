-- By which calls a table of rows grows, beside the one that takes the chunks of pipelines.
use Rattle.std.specs.Prelude.{◌≡◌, []}
use Rattle.gq_plan.specs.declared.bound.Bound.{Bound}

-- the query has a test of a path, which admits some of what is in a chunk
abbrev pub IsTested : Bound → Type 0
IsTested b = b.patterns ≡ [] → ⊥

-- the query has OPTIONAL MATCH clauses or trails, which make rows of what is in a chunk
abbrev pub IsContinued : Bound → Type 0
IsContinued b = b.optionals ≡ [] → b.trails ≡ [] → ⊥

-- The value of `exists(path)` (openCypher 9): whether the path, read by itself, has a match with the nodes that a row has at the
-- variables which the path names. It is never null and never a fault.
use Rattle.std.specs.Prelude.{ℕ, Bool, List}
use Rattle.gq_base.specs.Plain.{Graph}
use Rattle.gq_expr.specs.Reading as reading
use Rattle.gq_plan.specs.Keys.{has_match}
use Rattle.gq_ast.specs.declared.Path.{Path}
use Rattle.gq_alternatives.specs.Matches.{pattern_matches}
use Rattle.gq_scopes.specs.PathPatterns.{path_pattern}

-- which variables of the row these are, is given
abbrev pub exists_value : Graph → Path → List ℕ → reading.Assignment → Bool
exists_value g path nodes row = has_match nodes row (pattern_matches g (path_pattern path))

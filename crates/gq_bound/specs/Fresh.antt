-- The parts of a query of which nothing was read.
use Rattle.std.specs.Prelude.{[]}
use Rattle.gq_bound.specs.Names.{no_names}
use Rattle.gq_bound.specs.declared.optionals.ClauseParts.{ClauseParts}
use Rattle.gq_bound.specs.declared.parts.QueryParts.{QueryParts}
use Rattle.gq_scopes.specs.Patterns.{no_pattern}

-- nothing of an OPTIONAL MATCH clause yet
abbrev pub no_clause_parts : ClauseParts
no_clause_parts = record { pattern = no_pattern; nodes = []; rels = []; conjuncts = []; tests = [] }

-- nothing of a query yet
abbrev pub no_parts : QueryParts
no_parts = record { pattern = no_pattern; matched = no_pattern; names = no_names; columns = []; conjuncts = []; exists = []; tests = []; optionals = [] }

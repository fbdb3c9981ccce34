-- What names say that were met before.
use Rattle.std.specs.Prelude.{Bool, ◌&&◌, Some, [], ◌∷◌, ◌++◌}
use Rattle.gq_plan.specs.declared.variable.Variable.TheVariants.{Node as node, Rel as rel}
use Rattle.gq_plan.specs.declared.variable.Variable.{Variable}
use Rattle.std.specs.List.{list_any}
use Rattle.gq_bound.specs.Refusals.{is_rel}
use Rattle.gq_bound.specs.declared.met.Met.{Met}
use Rattle.gq_scopes.specs.Patterns.{Name, NamedVariable, is_called}

abbrev pub meeting_as : Variable → Name → Met → Met
meeting_as (node v) name m = record m { nodes = m.nodes ++ Some name ∷ [] }
meeting_as (rel x) name m = record m { rels = m.rels ++ Some name ∷ [] }

-- with one more
abbrev pub meeting : Met → NamedVariable → Met
meeting m n = meeting_as n.variable n.name m

abbrev met_otherwise_as : Variable → Name → Met → Bool
met_otherwise_as (node v) name m = list_any (is_called name) m.rels
met_otherwise_as (rel x) name m = list_any (is_called name) m.nodes

-- a name was met as a variable of the other form
abbrev pub met_otherwise : Met → NamedVariable → Bool
met_otherwise m n = met_otherwise_as n.variable n.name m

-- a relationship's name was met as a relationship
abbrev pub met_again : Met → NamedVariable → Bool
met_again m n = is_rel n.variable && list_any (is_called n.name) m.rels

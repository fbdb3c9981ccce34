-- The law that the alternatives of a query part its matches: they have none in common, and together they have all.
use Rattle.std.specs.Prelude.{◌≡◌, List, filter, flat_map, length, IsPermutation}
use Rattle.gq_base.specs.Plain.{Graph}
use Rattle.gq_plan.specs.Allowed.{lies_in}
use Rattle.gq_plan.specs.declared.NamedExpr.{NamedExpr}
use Rattle.gq_ast.specs.declared.Query.{Query}
use Rattle.gq_alternatives.specs.Alternatives.{alternatives, typed_of}
use Rattle.gq_alternatives.specs.Matches.{matches}
use Rattle.gq_scopes.specs.Patterns.{pattern_of}

-- a graph has a list of rows for each table of its catalogue
pub record HasTables (g : Graph) : Type 0 where
  pub nodes : length g.nodes ≡ length g.catalog.nodes
  pub rels : length g.rels ≡ length g.catalog.rels

-- the matches that lie in the alternatives, alternative by alternative, are the matches, each as often
abbrev pub AlternativesPartMatches : Type 0
AlternativesPartMatches =
    (g : Graph) (query : Query) (entries conjuncts : List NamedExpr) → HasTables g
    → IsPermutation
    (flat_map (λ c. filter (lies_in g (typed_of g.catalog (pattern_of query.clauses) entries conjuncts c)) (matches query g)) (alternatives query g.catalog))
    (matches query g)

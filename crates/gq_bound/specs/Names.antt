-- The first names and calls that the checks of names refuse, as more patterns and expressions come.
use Rattle.std.specs.Prelude.{ℕ, not, Option, None, List, [], ◌∷◌, drop, length}
use Rattle.std.specs.Option.{option_or}
use Rattle.gq_bound.specs.Columns.{Scoped}
use Rattle.gq_bound.specs.declared.met.Met.{Met}
use Rattle.gq_bound.specs.Met.{meeting, met_again, met_otherwise}
use Rattle.gq_resolve.specs.Checks.{check_of}
use Rattle.gq_scopes.specs.Patterns.{Name, NamedVariable, Pattern, with_paths}
use Rattle.gq_ast.specs.declared.Path.{Path}
use Rattle.gq_resolve.specs.Uses.{first_name, refused_unless, uses}
use Rattle.gq_resolve.specs.declared.Check.TheVariants as check

-- the first name that its scope does not have, the first names that stand before as a variable of the other form and as a
-- relationship that would be one again, the first call that names no function, the first call with a wrong number of
-- arguments, and the names that were met in patterns
pub record FirstNames : Type 0 where
  pub variable : Option Name
  pub other_form : Option Name
  pub again : Option Name
  pub function : Option Name
  pub arguments : Option Name
  pub met : Met

abbrev pub no_names : FirstNames
no_names = record { variable = None; other_form = None; again = None; function = None; arguments = None; met = record { nodes = []; rels = [] } }

-- with one more name of patterns
abbrev pub with_name : FirstNames → NamedVariable → FirstNames
with_name names n = record names {
  other_form = option_or names.other_form (refused_unless (not (met_otherwise names.met n)) n.name);
  again = option_or names.again (refused_unless (not (met_again names.met n)) n.name);
  met = meeting names.met n;
}

abbrev pub with_named : FirstNames → List NamedVariable → FirstNames
with_named names [] = names
with_named names (n ∷ ns) = with_named (with_name names n) ns

-- with the names that paths add to patterns
abbrev pub with_added : ℕ → List Path → Pattern → FirstNames → FirstNames
with_added number paths p names = with_named names (drop (length p.named) (with_paths number paths p).named)

-- with one more expression
abbrev pub with_expression : FirstNames → Scoped → FirstNames
with_expression names e = record names {
  variable = option_or names.variable (first_name (check_of check.UnknownName e.scope) (uses e.tree));
  other_form = option_or names.other_form (first_name (check_of check.OtherForm e.scope) (uses e.tree));
  again = option_or names.again (first_name (check_of check.NamedAgain e.scope) (uses e.tree));
  function = option_or names.function (first_name (check_of check.UnknownFunction e.scope) (uses e.tree));
  arguments = option_or names.arguments (first_name (check_of check.WrongCount e.scope) (uses e.tree));
}

abbrev pub with_expressions : FirstNames → List Scoped → FirstNames
with_expressions names [] = names
with_expressions names (e ∷ es) = with_expressions (with_expression names e) es

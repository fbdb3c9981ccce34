-- The first name or call that a check refuses, of several lists of them.
use Rattle.std.specs.Prelude.{Option, None, List, [], ◌∷◌}
use Rattle.std.specs.Option.{option_or}
use Rattle.gq_scopes.specs.Patterns.{Name}
use Rattle.gq_resolve.specs.Uses.{Use, first_name}

-- the first name that a check refuses in several lists, one after another
abbrev pub first_of : (Use → Option Name) → List (List Use) → Option Name
first_of check [] = None
first_of check (us ∷ uss) = option_or (first_name check us) (first_of check uss)

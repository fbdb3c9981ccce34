-- What each check of names and calls refuses.
use Rattle.std.specs.Prelude.{Option}
use Rattle.gq_scopes.specs.Patterns.{Name}
use Rattle.gq_resolve.specs.Renames.{renamed_name}
use Rattle.gq_scopes.specs.Scopes.{Scope}
use Rattle.gq_resolve.specs.Uses.{Use, named_again, of_other_form, unknown_name, unknown_function, wrong_count}
use Rattle.gq_resolve.specs.declared.uses.Check.{Check}
use Rattle.gq_resolve.specs.declared.uses.Check.TheVariants as check

abbrev pub check_of : Check → Scope → Use → Option Name
check_of check.UnknownName scope u = unknown_name scope u
check_of check.OtherForm scope u = of_other_form scope u
check_of check.NamedAgain scope u = named_again scope u
check_of check.UnknownFunction scope u = unknown_function u
check_of check.WrongCount scope u = wrong_count u
check_of (check.AmbiguousName renamed) scope u = renamed_name renamed.now u

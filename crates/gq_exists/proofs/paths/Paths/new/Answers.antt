use Rattle.std.proofs.Common.{◌∙◌, [], ap, subst, sym}
use Rattle.gq_exists.specs.steps.Levels.{AreLevels, keys_from}
use Rattle.gq_exists.proofs.Fronts.{none_linked, none_made}
use Rattle.gq_exists.proofs.paths.Paths.new.Goals as goal

pub returns-clause-none : goal.returns-clause-none
returns-clause-none c = ap (keys_from []) c.in_ok-levels.ensures ∙ none_made c.args.width

pub returns-clause-are : goal.returns-clause-are
returns-clause-are c = subst (AreLevels 0) (sym c.in_ok-levels.ensures) (none_linked c.args.width)

use Rattle.std.proofs.Common.{None, Some, ◌∙◌, sym, ap}
use Rattle.std.specs.Option.{option_copied}
use Rattle.gq_group.specs.declared.home.NodeHome.TheVariants.{Nowhere}
use Rattle.gq_pipe.proofs.Filling.{found_or}
use Rattle.gq_pipe.proofs.origins.home_of.Goals as goal

pub returns-in-None : goal.returns-in-None
returns-in-None c = found_or c.args.homes.now.nodes c.args.variable Nowhere None (sym (ap option_copied c.in-None.is) ∙ c.get.ensures.value)

pub returns-in-Some : goal.returns-in-Some
returns-in-Some c = found_or c.args.homes.now.nodes c.args.variable Nowhere (Some c.in-Some.home.now) c.in-Some.ensures.value

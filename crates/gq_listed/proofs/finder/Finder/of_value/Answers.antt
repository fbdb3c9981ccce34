use Rattle.gq_listed.proofs.finder.Finder.of_value.Goals as goal

pub returns : goal.returns
returns c = λ sources of none. record { finds = tt; none = none; nothing = λ here has. absurd has }

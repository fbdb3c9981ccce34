-- What is bound where a core is.
use Rattle.std.specs.Prelude.{ℕ, nat_lt, true}
use Rattle.gq_plan.specs.Known.{Known}

-- the first node variables, so many, and all relationship variables
abbrev pub below : ℕ → Known
below k = record { nodes = λ v. nat_lt v k; rels = λ x. true }

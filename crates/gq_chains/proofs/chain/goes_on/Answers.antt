use Rattle.std.proofs.Common.{inl, sym}
use Rattle.gq_chains.proofs.chain.goes_on.Goals as goal

pub returns-in-Some : goal.returns-in-Some
returns-in-Some c = λ on. inl (c.in-Some._follow, sym c.in-Some.ensures)

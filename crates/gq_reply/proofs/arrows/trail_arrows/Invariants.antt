use Rattle.std.proofs.Common.{◌≡◌, flat_map, take}
use Rattle.gq_reply.specs.Arrows.{clause_arrows}
use Rattle.gq_reply.proofs.arrows.trail_arrows.Given as goal

abbrev pub invariant-loop-clause : goal.invariant-loop-clause
invariant-loop-clause l = l.arrows ≡ flat_map clause_arrows (take l.clause-index l.clauses)

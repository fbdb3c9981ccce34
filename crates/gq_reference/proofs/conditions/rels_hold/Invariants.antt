use Rattle.gq_alternatives.specs.Matches.{rel_holds}
use Rattle.gq_plain.proofs.ZipSteps.{Passed}
use Rattle.gq_reference.proofs.conditions.rels_hold.Given as goal

abbrev pub invariant-loop-at : goal.invariant-loop-at
invariant-loop-at l = Passed (rel_holds l.graph l.chosen) l.patterns l.rels l.at

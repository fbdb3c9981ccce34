use Rattle.std.proofs.Common.{sym, inl, inr, ◌∙◌, arith}
use Rattle.gq_alternatives.specs.Matches.{rel_holds}
use Rattle.gq_plain.proofs.ZipSteps.{sized}
use Rattle.gq_reference.proofs.Testing.{rels_hold_zip}
use Rattle.gq_reference.proofs.conditions.rels_hold.Goals as goal

pub returns-then-patterns-rels : goal.returns-then-patterns-rels
returns-then-patterns-rels c = elim (sized (rel_holds c.args.graph.now c.args.chosen.now) c.args.patterns.now c.args.rels.now) [
  | inl e ↦ absurd (omega arith)
  | inr e ↦ sym (rels_hold_zip c.args.graph.now c.args.chosen.now c.args.patterns.now c.args.rels.now ∙ e)
]

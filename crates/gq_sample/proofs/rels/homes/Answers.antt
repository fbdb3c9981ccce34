use Rattle.std.proofs.Common.{◌+◌, ◌∙◌, arith, sym}
use Rattle.gq_sample.specs.Sample.{has_home, lives_in}
use Rattle.gq_sample.proofs.Numbers.{kept_more, none_more}
use Rattle.gq_sample.proofs.rels.homes.Goals as goal
use Rattle.gq_sample.proofs.rels.homes.Goals.{then-has_home+in_ok-push, else-has_home}

pub loop-row-preserved : goal.loop-row-preserved
loop-row-preserved c = elim c.if-has_home.branch [
  | then-has_home+in_ok-push w ↦
      let more = kept_more has_home (lives_in c.args.size) 1 c.loop-row.row (c.loop-row.row + 1) (omega arith) (sym c.has_home.ensures ∙ w.if-has_home.true) in
      cc (more, w.in_ok-push.ensures.pushed)
  | else-has_home w ↦ w.rels-is ∙ c.loop-row.invariant ∙ none_more has_home (lives_in c.args.size) 1 c.loop-row.row (c.loop-row.row + 1) (omega arith) (sym c.has_home.ensures ∙ w.if-has_home.false)
]

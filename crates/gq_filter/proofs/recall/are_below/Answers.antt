use Rattle.std.proofs.Common.{◌<◌, subst}
use Rattle.std.specs.Prelude.{All}
use Rattle.std.proofs.lemmas.List.{take_all}
use Rattle.std.proofs.lemmas.List.Elements.{All-more}
use Rattle.gq_filter.proofs.recall.are_below.Goals as goal

pub loop-row-preserved : goal.loop-row-preserved
loop-row-preserved c = All-more (λ row. row < c.args.end) c.args.rows.now c.loop-row.row-index 0 c.loop-row-test.true c.loop-row.invariant c.if-row-end.false

pub returns : goal.returns
returns c = λ on. subst (All (λ row. row < c.args.end)) (take_all c.loop-row.row-index c.args.rows.now c.loop-row-test.false) c.loop-row.invariant

use Rattle.std.proofs.Common.{◌∙◌, ap, arith}
use Rattle.gq_optional.specs.declared.clause_level.ClauseLevel.{ClauseLevel}
use Rattle.gq_optional.proofs.Stepped.{came_at}
use Rattle.gq_optional.proofs.walk.coming.Goals as goal

pub returns : goal.returns
returns c =
    c.row.ensures ∙ ap (λ (l : ClauseLevel). l.row) c.index-levels-depth.is
    ∙ came_at c.args.base.now c.args.levels.now c.args.depth c.index-levels-depth.result (omega (arith, c.if-depth-eq0.false)) c.requires

use Rattle.std.proofs.Common.{sym, subst}
use Rattle.std.specs.Prelude.{All}
use Rattle.gq_trails.specs.Trekking.{HasLength}
use Rattle.gq_trails.proofs.Continuing.{lengths_reached, lengths_walked}
use Rattle.gq_trails.proofs.rows.TrailRows.new.Goals as goal

pub new-requires-clause-walked : goal.new-requires-clause-walked
new-requires-clause-walked c = subst (All HasLength) (sym c.split_at.ensures.front) (lengths_walked c.walked_count.result c.args.parts.now c.requires)

pub new-requires-clause-ends : goal.new-requires-clause-ends
new-requires-clause-ends c = subst (All HasLength) (sym c.split_at.ensures.back) (lengths_reached c.walked_count.result c.args.parts.now c.requires)

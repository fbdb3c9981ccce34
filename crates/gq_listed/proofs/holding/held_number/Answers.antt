use Rattle.std.proofs.Common.{subst}
use Rattle.gq_plan.specs.Assignments.{row_of}
use Rattle.gq_listed.specs.Finding.{HasNumber}
use Rattle.gq_listed.proofs.FlatGroups.{held_number_is}
use Rattle.gq_listed.proofs.holding.held_number.Goals as goal

pub returns-in-Number : goal.returns-in-Number
returns-in-Number c =
    held_number_is c.args.graph.now c.args.typed.now c.args.chunk.now c.args.way c.in-Number.number c.args.positions.now c.requires.selected (c.is_flat.ensures c.if-not-is_flat.false)
    (subst (λ t. HasNumber c.args.graph.now c.args.way (row_of t) c.in-Number.number) c.new-row.ensures c.in-Number.ensures)

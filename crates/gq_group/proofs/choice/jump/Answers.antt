use Rattle.std.proofs.Common.{refl, arith}
use Rattle.gq_group.proofs.Jumping.{jump_made, last_there, stepped}
use Rattle.gq_group.proofs.Odometer.{as_many}
use Rattle.gq_group.proofs.choice.jump.Goals as goal

pub returns-in-None : goal.returns-in-None
returns-in-None c = stepped c.args.groups.now c.args.group c.args.marks.now c.args.positions.now c.step.result c.step.new.positions c.step.ensures

pub bounds-positions-group : goal.bounds-positions-group
bounds-positions-group c =
    let many = as_many c.args.groups.now c.args.positions.now c.requires.selected in
    let last = c.in-Some.ensures.last in
    omega (arith, many, last)

pub returns-in-Some : goal.returns-in-Some
returns-in-Some c =
    let last = c.in-Some.ensures.last in
    let (g, at, ok) = last_there c.args.groups.now c.args.group last c.requires.groups in
    jump_made c.args.groups.now c.args.positions.now _ c.args.group c.in-Some.position g c.args.marks.now c.requires.selected last at ok (c.in-Some.ensures.later g at) refl

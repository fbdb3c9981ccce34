use Rattle.std.proofs.Common.{◌≡◌, ◌∙◌, ◌<◌, length, subst, sym, arith, true}
use Rattle.std.specs.Prelude.{slice_index}
use Rattle.gq_bits.specs.declared.TheConstants.{VECTOR}
use Rattle.gq_group.specs.Groups.{is_selected}
use Rattle.gq_group.proofs.Odometer.{as_many, one_group, selected_at, small, there}
use Rattle.gq_group.proofs.choice.later_marked.Goals as goal

pub bounds-positions-group : goal.bounds-positions-group
bounds-positions-group c =
    let many = as_many c.args.groups.now c.args.positions.now c.requires.selected in
    let last = c.if-group-groups.false in
    omega (arith, many, last)

pub overflow_add-positions : goal.overflow_add-positions
overflow_add-positions c =
    let i = c.args.group in
    let g = c.index-groups-group.result in
    let last = c.if-group-groups.false in
    let within : i < length c.args.groups.now = omega (arith, last) in
    let at = there c.args.groups.now i g within c.index-groups-group.is in
    let low : slice_index c.args.positions.now i < VECTOR = small g (slice_index c.args.positions.now i) (rw c.index-groups-group.is (c.requires.groups i g within)) (selected_at i c.args.groups.now c.args.positions.now g c.requires.selected at) in
    omega (arith, low)

pub returns-then-has-clause-later : goal.returns-then-has-clause-later
returns-then-has-clause-later c = λ g at.
    let mine = c.index-groups-group.result in
    let last = c.if-group-groups.false in
    let here = there c.args.groups.now c.args.group mine (omega (arith, last)) c.index-groups-group.is in
    let found = c.in-Some.ensures.found in
    record {
      behind = (let on = found.0 in omega (arith, on));
      there = subst (λ x. is_selected x c.in-Some.position ≡ true) (one_group mine g (sym here ∙ at)) (c.has.ensures c.if-has.true);
      between = λ k on before. c.in-Some.ensures.least k (omega (arith, on)) before;
    }

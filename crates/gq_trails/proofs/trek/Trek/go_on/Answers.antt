use Rattle.std.proofs.Common.{◌≡◌, ◌-◌, suc, length, subst, arith}
use Rattle.gq_trails.specs.steps.Journeys.{IsAt, journey_of}
use Rattle.gq_trails.proofs.Going.{at_back}
use Rattle.gq_trails.proofs.Searched.{next_over, none_left}
use Rattle.gq_trails.proofs.trek.Trek.go_on.Goals as goal

pub next-requires-clause-at : goal.next-requires-clause-at
next-requires-clause-at c =
    let r = c.args.route.now in
    let s = c.args.self.now in
    let one : length r.parts.now ≡ suc (length r.parts.now - 1) = omega (arith, c.if-count-eq0.false) in
    at_back (journey_of r s.row) s.walkers.items s.row (length r.parts.now - 1) (omega (arith, c.if-count-eq0.false)) (subst (IsAt (journey_of r s.row) s.walkers.items s.row) one c.requires.at)

pub returns-then-count-eq0-clause-over : goal.returns-then-count-eq0-clause-over
returns-then-count-eq0-clause-over c = none_left c.args.route.now c.args.self.now c.if-count-eq0.true c.requires.walkers

pub returns-clause-over : goal.returns-clause-over
returns-clause-over c =
    let one : suc (length c.args.route.now.parts.now - 1) ≡ length c.args.route.now.parts.now = omega (arith, c.if-count-eq0.false) in
    next_over c.args.route.now c.args.self.now c.next.new.self (length c.args.route.now.parts.now - 1) c.next.result c.requires.few one c.next.ensures.found

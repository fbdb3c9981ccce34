use Rattle.std.proofs.Common.{◌≢◌, length, sym, arith}
use Rattle.std.proofs.lemmas.Bool.{eqb-false, eqb-true}
use Rattle.gq_trails.proofs.Searched.{first_at, first_over, none_to_walk}
use Rattle.gq_trails.proofs.trek.Trek.first.Goals as goal

pub returns-then-is_empty-clause-over : goal.returns-then-is_empty-clause-over
returns-then-is_empty-clause-over c = none_to_walk c.args.route.now c.args.self.now c.requires.few (eqb-true (length c.args.route.now.parts.now) 0 (sym c.if-is_empty.ensures)) c.requires.at c.requires.walkers

pub next-requires-clause-at : goal.next-requires-clause-at
next-requires-clause-at c =
    let other : length c.args.route.now.parts.now ≢ 0 = eqb-false (length c.args.route.now.parts.now) 0 (sym c.if-is_empty.ensures) in
    first_at c.args.route.now c.args.self.now c.start.new.self (omega (arith, other, c.requires.walkers.count)) c.start.ensures c.requires.at

pub returns-clause-over : goal.returns-clause-over
returns-clause-over c =
    let other : length c.args.route.now.parts.now ≢ 0 = eqb-false (length c.args.route.now.parts.now) 0 (sym c.if-is_empty.ensures) in
    first_over c.args.route.now c.args.self.now c.start.new.self c.next.new.self c.next.result c.requires.few (omega (arith, other)) c.requires.walkers c.start.ensures c.next.ensures.found

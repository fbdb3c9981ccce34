use Rattle.std.proofs.Common.{◌∙◌, ◌++◌, ap, arith, length}
use Rattle.gq_law_trails.specs.Trails.{taken_in}
use Rattle.gq_trails.specs.Trekking.{Trekking}
use Rattle.gq_trails.specs.steps.Journeys.{walk_at, walked_at}
use Rattle.gq_trails.proofs.Listing.{open_there, walked_there}
use Rattle.gq_trails.proofs.trails.Trails.take.Goals as goal

pub take_walks-requires-clause-many : goal.take_walks-requires-clause-many
take_walks-requires-clause-many c =
    let long = ap length c.as_slice-walkers.ensures.value in
    omega (arith, long, c.self.invariant.count)

pub take_walks-requires-clause-standing : goal.take_walks-requires-clause-standing
take_walks-requires-clause-standing c i low =
    let open_at = open_there c.self.inside c.args.self.now c.self.view_is c.self.invariant c.requires.stands in
    ap (λ ws. (walk_at ws i).standing) c.as_slice-walkers.ensures.value ∙ open_at.here.standing i low

pub take_walks-requires-clause-room : goal.take_walks-requires-clause-room
take_walks-requires-clause-room c =
    let same = ap (λ (m : Trekking). length m.parts) c.self.view_is in
    omega (arith, same, c.requires.room)

pub returns-clause-taken : goal.returns-clause-taken
returns-clause-taken c =
    let t = c.self.inside in
    c.take_walks.ensures.taken
    ∙ ap (λ l. c.args.taken.now ++ taken_in c.args.clause l)
    (ap (λ ws. walked_at t.route.parts.now ws (length t.route.parts.now)) c.as_slice-walkers.ensures.value ∙ walked_there t c.args.self.now c.self.view_is)

pub returns-clause-few : goal.returns-clause-few
returns-clause-few c =
    let same = ap (λ (m : Trekking). length m.parts) c.self.view_is in
    omega (arith, same, c.take_walks.ensures.few)

use Rattle.std.proofs.Common.{◌≡◌}
use Rattle.gq_trails.specs.steps.Journeys.{journey_of, owed_at}
use Rattle.gq_trails.proofs.Costs.{cost_at}
use Rattle.gq_trails.proofs.Searched.{IsGoing}
use Rattle.gq_trails.proofs.trek.Trek.next.Given as goal

abbrev pub invariant-depths : goal.invariant-depths
invariant-depths l = record {
  going : IsGoing (journey_of l.route l.fn.self.row) (owed_at (journey_of l.route l.fn.self.row) l.fn.self.walkers.items l.from) l.self.walkers.items l.self.row l.depth;
  ends : l.ends.items ≡ l.fn.ends.items;
}

abbrev pub decreases-depths : goal.decreases-depths
decreases-depths l = cost_at (journey_of l.route l.fn.self.row) l.self.walkers.items l.depth

use Rattle.std.proofs.Common.{◌≡◌, ◌+◌, ◌-◌, ◌*◌, ◌≤◌, ◌++◌, length}
use Rattle.gq_law_trails.specs.Trails.{taken_in}
use Rattle.gq_trails.specs.steps.Journeys.{walked_at}
use Rattle.gq_trails.proofs.trek.take_walks.Given as goal

abbrev pub invariant-trails : goal.invariant-trails
invariant-trails l = record {
  taken : l.taken ++ taken_in l.clause (walked_at l.parts l.walkers (l.depth - l.back)) ≡ l.fn.taken ++ taken_in l.clause (walked_at l.parts l.walkers l.depth);
  few : length l.taken ≤ length l.fn.taken + 16 * l.back;
}

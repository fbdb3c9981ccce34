use Rattle.std.proofs.Common.{◌≡◌, length}
use Rattle.gq_trails.specs.steps.Journeys.{HaveCourses}
use Rattle.gq_trails.proofs.trek.walkers_for.Given as goal

abbrev pub invariant-parts : goal.invariant-parts
invariant-parts l = record {
  count : length l.walkers.items ≡ l.part-index;
  courses : HaveCourses l.graph l.parts l.walkers.items l.part-index;
}

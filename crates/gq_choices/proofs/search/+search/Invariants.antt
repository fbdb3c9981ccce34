use Rattle.std.proofs.Common.{◌≡◌, ◌+◌, ◌*◌, flat_map, take, length}
use Rattle.gq_choices.specs.steps.Searching.{adding, following}
use Rattle.gq_choices.proofs.search.+search.Given as goal

abbrev pub decreases-search : goal.decreases-search
decreases-search l = 5 * length l.steps.now

abbrev pub decreases-follow_each : goal.decreases-follow_each
decreases-follow_each l = 5 * length l.rest.now + 4

abbrev pub decreases-follow : goal.decreases-follow
decreases-follow l = 5 * length l.rest.now + 3

abbrev pub decreases-enter_source : goal.decreases-enter_source
decreases-enter_source l = 5 * length l.rest.now + 2

abbrev pub decreases-enter_target : goal.decreases-enter_target
decreases-enter_target l = 5 * length l.rest.now + 1

abbrev pub invariant-follow_each-loop-reading : goal.invariant-follow_each-loop-reading
invariant-follow_each-loop-reading l =
    l.found
    ≡ adding l.space.most
    (flat_map (λ c. following l.space.catalog l.space.tables l.rest l.pattern l.fn.found.known l.fn.found.readings c) (take l.reading-index l.readings))
    l.fn.found

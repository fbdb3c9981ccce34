use Rattle.std.proofs.Common.{◌≡◌, ◌+◌, ◌*◌, flat_map, take, length}
use Rattle.gq_choices.specs.steps.Searching.{adding, taking}
use Rattle.gq_choices.proofs.search.+fill.Given as goal

abbrev pub decreases-fill : goal.decreases-fill
decreases-fill l = 3 * length l.lists.now

abbrev pub decreases-fill_from : goal.decreases-fill_from
decreases-fill_from l = 3 * length l.rest.now + 2

abbrev pub decreases-fill_with : goal.decreases-fill_with
decreases-fill_with l = 3 * length l.rest.now + 1

abbrev pub invariant-fill_from-loop-table : goal.invariant-fill_from-loop-table
invariant-fill_from-loop-table l =
    l.found ≡ adding l.most (flat_map (λ t. taking l.fn.found.known l.fn.found.readings l.fn.found.tables l.rest l.known t) (take l.table-index l.tables)) l.fn.found

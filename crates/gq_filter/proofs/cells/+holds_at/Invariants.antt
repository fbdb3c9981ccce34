use Rattle.std.proofs.Common.{◌≡◌, drop, map}
use Rattle.std.specs.List.{list_all, list_any}
use Rattle.gq_filter.specs.LaneTests.{holds}
use Rattle.gq_filter.proofs.cells.+holds_at.Given as goal

abbrev pub invariant-all_hold-loop-test : goal.invariant-all_hold-loop-test
invariant-all_hold-loop-test g l = let f = holds (g.C.Cells.cell l.cells) in
    list_all (λ on. on) (map f (drop l.test-index l.tests)) ≡ list_all (λ on. on) (map f l.fn.tests)

abbrev pub invariant-any_holds-loop-test : goal.invariant-any_holds-loop-test
invariant-any_holds-loop-test g l = let f = holds (g.C.Cells.cell l.cells) in
    list_any (λ on. on) (map f (drop l.test-index l.tests)) ≡ list_any (λ on. on) (map f l.fn.tests)

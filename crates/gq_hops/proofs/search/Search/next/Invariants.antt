use Rattle.std.proofs.Common.{◌≡◌, suc}
use Rattle.gq_hops.specs.steps.Searches.{IsOpen, kept_by, run_of}
use Rattle.gq_hops.proofs.Weights.{weight}
use Rattle.gq_hops.proofs.search.Search.next.Given as goal

abbrev pub invariant-loop-met : goal.invariant-loop-met
invariant-loop-met l = record {
  open_at : IsOpen (run_of l.run) l.self;
  owed : kept_by (run_of l.run) l.fn.self ≡ kept_by (run_of l.run) l.self;
}

abbrev pub decreases-loop-met : goal.decreases-loop-met
decreases-loop-met l = weight (run_of l.run) l.self.levels.items (suc l.self.depth)

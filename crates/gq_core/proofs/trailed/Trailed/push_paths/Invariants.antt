use Rattle.std.proofs.Common.{◌≡◌, drop}
use Rattle.gq_law_cuts.specs.Cuts.{with_paths}
use Rattle.gq_core.proofs.trailed.Trailed.push_paths.Given as goal

abbrev pub invariant-loop-path : goal.invariant-loop-path
invariant-loop-path l = with_paths l.clause (drop l.path-index l.paths) l.self ≡ with_paths l.clause l.paths l.fn.self

use Rattle.std.proofs.Common.{ℕ, ◌<◌, pos, get_or}
use Rattle.gq_pool.proofs.map_cells.Given as goal

abbrev pub invariant-loop-place : goal.invariant-loop-place
invariant-loop-place g l = (k : ℕ) → k < l.place → g.F.Fn.post l.f (get_or l.from k (pos 0), tt) (get_or l.to k (pos 0))

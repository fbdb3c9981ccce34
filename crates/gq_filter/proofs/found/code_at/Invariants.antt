use Rattle.std.proofs.Common.{◌-◌, ◌<◌, ◌≤◌}
use Rattle.gq_dict.specs.Texts.{start_of}
use Rattle.gq_filter.proofs.found.code_at.Given as goal

abbrev pub invariant-loop-code : goal.invariant-loop-code
invariant-loop-code l = (l.fn.from ≤ l.code) × (l.code < l.high) × (start_of l.dict l.code ≤ l.place)

abbrev pub decreases-loop-code : goal.decreases-loop-code
decreases-loop-code l = l.high - l.code

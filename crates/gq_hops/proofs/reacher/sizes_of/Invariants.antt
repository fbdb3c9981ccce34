use Rattle.std.proofs.Common.{◌≡◌, map}
use Rattle.std.specs.List.{range_with_len}
use Rattle.gq_hops.specs.steps.Sizes.{size_in}
use Rattle.gq_hops.proofs.reacher.sizes_of.Given as goal

abbrev pub invariant-tables : goal.invariant-tables
invariant-tables l = l.sizes.items ≡ map (size_in l.graph l.followed) (range_with_len 0 l.table)

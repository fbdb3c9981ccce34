use Rattle.std.proofs.Common.{◌≡◌, take}
use Rattle.gq_resolve.specs.Renames.{renamed_names}
use Rattle.gq_resolve.proofs.renames.Renamed.of.Given as goal

abbrev pub invariant-loop-item : goal.invariant-loop-item
invariant-loop-item l = l.renamed ≡ renamed_names l.scope (take l.item-index l.items)

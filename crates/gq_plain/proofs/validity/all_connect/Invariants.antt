use Rattle.std.proofs.Common.{◌≡◌, true, take}
use Rattle.std.specs.List.{list_all}
use Rattle.gq_base.specs.Valid.{is_rel}
use Rattle.gq_plain.proofs.validity.all_connect.Given as goal

abbrev pub invariant-loop-number : goal.invariant-loop-number
invariant-loop-number l = list_all (is_rel l.fields l.sources l.targets) (take l.number l.rels) ≡ true

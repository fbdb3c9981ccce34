use Rattle.std.proofs.Common.{◌≡◌, take}
use Rattle.gq_project.specs.Reading.{asked_keys}
use Rattle.gq_project.proofs.reading.key_evaluators.Given as goal

abbrev pub invariant-keys : goal.invariant-keys
invariant-keys l = l.all ≡ asked_keys l.graph (take l.key-index l.keys)

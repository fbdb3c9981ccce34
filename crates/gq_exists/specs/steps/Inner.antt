-- What the fields of a set of keys stand for.
use Rattle.gq_exists.specs.Made.{Found}
use Rattle.gq_exists.specs.declared.key_set.KeySet.TheInside.{Inside}
use Rattle.gq_exists.specs.steps.Stored.{AreKeys, keys_in}

abbrev pub found_in : Inside → Found
found_in s = record { keys = keys_in s.keys; spent = s.spent }

abbrev pub HasKeys : Inside → Type 0
HasKeys s = AreKeys s.keys

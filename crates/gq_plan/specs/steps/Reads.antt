-- Reads of properties by name.
use Rattle.std.specs.Prelude.{ℕ, Bool, Some, List}
use Rattle.gq_plan.specs.Reads.{Read, same_property}

-- a read is one of a property of this name
abbrev pub has_name : List ℕ → Read → Bool
has_name name r = same_property r.property (Some name)

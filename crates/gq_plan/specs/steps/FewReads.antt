-- Reads in a fixed room: the first of those that are different, as many as the tests of a query may read.
use Rattle.std.specs.Prelude.{ℕ, nat_eq, Bool, false, ◌||◌, Option, Some, None, List, [], ◌∷◌, ◌++◌, length, if◌then◌else◌}
use Rattle.std.specs.List.{list_any}
use Rattle.std.specs.Borrow.{Bor}
use Rattle.gq_plan.specs.Reads.{Read, property, same_property, same_read, whole}
use Rattle.gq_plan.specs.Soundness.{max_reads}
use Rattle.gq_plan.specs.declared.variable.Variable.{Variable}

-- a variable, or a property of it where a name stands beside it
abbrev pub read_of : Variable → Option (Bor (List ℕ)) → Read
read_of v None = whole v
read_of v (Some name) = property v name.now

abbrev pub is_named : Option (Bor (List ℕ)) → List ℕ → Bool
is_named None name = false
is_named (Some own) name = same_property (Some own.now) (Some name)

-- a read behind others, unless it stands there or there is no room
abbrev pub with_few : List Read → Read → List Read
with_few rs q = if nat_eq (length rs) max_reads || list_any (λ r. same_read r q) rs then rs else rs ++ q ∷ []

abbrev pub with_few_reads : List Read → List Read → List Read
with_few_reads rs [] = rs
with_few_reads rs (q ∷ qs) = with_few_reads (with_few rs q) qs

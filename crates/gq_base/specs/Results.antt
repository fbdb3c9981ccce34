-- Answers that may be refused, one after another.
use Rattle.std.specs.Prelude.{Ok, Err}
use Rattle.std.specs.declared.result.Result.{Result}

-- what comes next, where nothing was refused
abbrev pub and_then : {A B E : Type 0} → Result A E → (A → Result B E) → Result B E
and_then (Err e) next = Err e
and_then (Ok x) next = next x

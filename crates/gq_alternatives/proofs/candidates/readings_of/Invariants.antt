use Rattle.std.proofs.Common.{◌≡◌, ◌∷◌, [], false, true, filter, flat_map}
use Rattle.std.specs.List.{range_with_len}
use Rattle.gq_alternatives.specs.Candidates.{reading_fits}
use Rattle.gq_alternatives.proofs.candidates.readings_of.Given as goal

abbrev pub invariant-loop-table : goal.invariant-loop-table
invariant-loop-table l =
    l.readings ≡ filter (reading_fits l.catalog l.pattern) (flat_map (λ table. record { table = table; reversed = false } ∷ record { table = table; reversed = true } ∷ []) (range_with_len 0 l.table))

-- The rows to which a row's relationships of a table lead.
use Rattle.std.specs.Prelude.{ℕ, Some, None, List, [], ◌∷◌}
use Rattle.gq_hops.specs.declared.hop.Near.{Near}
use Rattle.gq_hops.specs.declared.hop.Near.TheVariants.{Many, One}

abbrev pub rows_in : Near → List ℕ
rows_in (Many rows) = rows.now
rows_in (One None) = []
rows_in (One (Some row)) = row ∷ []

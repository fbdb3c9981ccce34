-- Builds whose rows have a number for each variable that they keep.
use Rattle.std.specs.Prelude.{◌≡◌, length}
use Rattle.std.specs.List.{AllByRecursion}
use Rattle.gq_join.specs.Kept.{Held, Kept}

abbrev pub HasNumbers : Held → Kept → Type 0
HasNumbers h row = (length row.nodes ≡ length h.nodes) × (length row.rels ≡ length h.rels)

abbrev pub AreSized : Held → Type 0
AreSized h = AllByRecursion (HasNumbers h) h.rows

-- A place of a list of neighbours is one of a relationship.
use Rattle.std.proofs.Common.{◌≡◌, ℕ, ◌^◌, ◌<◌, Some, length, arith}
use Rattle.std.specs.Prelude.{slice_get}
use Rattle.std.proofs.lemmas.Option.{slice_get_within}
use Rattle.gq_base.specs.Directions.{opposite}
use Rattle.gq_base.specs.Plain.{Graph}
use Rattle.gq_base.specs.declared.RelTable.{RelTable}
use Rattle.gq_base.specs.declared.direction.Direction.{Direction}
use Rattle.gq_store.specs.Neighbours.{near_rows, neighbours, numbers}
use Rattle.gq_steps.specs.steps.Hops.{IsHop}
use Rattle.gq_steps.proofs.Followed.{as_many, get_some}

pub hop_there : (g : Graph) (t : ℕ) (k : RelTable) → slice_get g.catalog.rels t ≡ Some k → (way : Direction) (row place r : ℕ) → slice_get (neighbours g t way row) place ≡ Some r
    → r < near_rows g t (opposite way) → length (neighbours g t way row) < 2 ^ 32 → (n : ℕ) × IsHop g t way row place (record { number = n; row = r })
hop_there g t k table_is way row place r at inside few =
    let low : place < length (neighbours g t way row) = slice_get_within (neighbours g t way row) place r at in
    let number = get_some (numbers g t way row) place (omega (arith, low, as_many g t k table_is way row)) in
    (number.0, record { number = number.1; leads = at; inside = inside; few = omega (arith, low, few) })

-- What cells stand for stays where sources are added.
use Rattle.std.proofs.Common.{◌≡◌, ℕ, zero, suc, List, [], ◌∷◌, ◌++◌, map, refl, ap, ap₂, arith}
use Rattle.std.specs.Prelude.{slice_get}
use Rattle.std.specs.List.{All}
use Rattle.std.proofs.lemmas.List.Elements.{All-tail}
use Rattle.gq_cells.specs.Numbers.{IsNumber, number_val}
use Rattle.gq_cells.specs.declared.source.Source.{Source}
use Rattle.gq_cells.specs.declared.cells.Cell.{Cell}
use Rattle.gq_cells.specs.steps.Inner.{IsCell, cell_value}

found : (ss more : List Source) (i n : ℕ) → IsNumber (slice_get ss i) n → slice_get (ss ++ more) i ≡ slice_get ss i
found [] more i n h = absurd h
found (s ∷ ss) more zero n h = refl
found (s ∷ ss) more (suc i) n h = found ss more i n h

pub stays : (ss more : List Source) (cells : List Cell) → All (IsCell ss) cells → map (cell_value (ss ++ more)) cells ≡ map (cell_value ss) cells
stays ss more [] h = refl
stays ss more (c ∷ cs) h =
    ap₂ (λ v vs. v ∷ vs) (ap (λ o. number_val o c.number) (found ss more c.source c.number (h 0 c (omega arith)))) (stays ss more cs (All-tail (IsCell ss) c cs h))

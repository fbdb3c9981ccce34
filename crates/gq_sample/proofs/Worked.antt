-- The sample graph of four persons, and who lives where among ten, by computation. The rows are worked out by hand.
use Rattle.std.proofs.Common.{◌≡◌, refl, ℕ, List, [], ◌∷◌, ◌++◌, codes, decimal, None, length}
use Rattle.std.specs.declared.option.Option.{Option}
use Rattle.gq_base.specs.declared.cell.Cell.{Cell}
use Rattle.gq_base.specs.declared.cell.PlainRel.{PlainRel}
use Rattle.gq_sample.specs.Sample.{cities_of, homes_of, knows_of, number, persons_of, text}

abbrev joined : ℕ → ℕ → List (Option Cell) → PlainRel
joined from to cells = record { source = from; target = to; cells = cells }

four_persons : persons_of 4 ≡
    (number 1 ∷ text (codes "p" ++ decimal 1) ∷ number 7 ∷ [])
    ∷ (number 2 ∷ text (codes "p" ++ decimal 2) ∷ number 14 ∷ [])
    ∷ (number 3 ∷ text (codes "p" ++ decimal 3) ∷ None ∷ [])
    ∷ (number 4 ∷ text (codes "p" ++ decimal 4) ∷ number 28 ∷ [])
    ∷ []
four_persons = refl

one_city : cities_of 4 ≡ (text (codes "c" ++ decimal 0) ∷ None ∷ []) ∷ []
one_city = refl

-- the third person knows the first one three times, and the fourth knows no one
six_known : knows_of 4 ≡
    joined 0 2 (number 2002 ∷ [])
    ∷ joined 1 3 (number 2003 ∷ [])
    ∷ joined 1 2 (None ∷ [])
    ∷ joined 2 0 (number 2004 ∷ [])
    ∷ joined 2 0 (None ∷ [])
    ∷ joined 2 0 (number 2006 ∷ [])
    ∷ []
six_known = refl

all_at_home : homes_of 4 ≡ joined 0 0 [] ∷ joined 1 0 [] ∷ joined 2 0 [] ∷ joined 3 0 [] ∷ []
all_at_home = refl

-- the tenth person lives in no city
nine_of_ten : length (homes_of 10) ≡ 9
nine_of_ten = refl

-- the sixth city, of six for five hundred persons, tells no population, and the fifth does
last_cities : cities_of 500 ≡
    (text (codes "c" ++ decimal 0) ∷ None ∷ [])
    ∷ (text (codes "c" ++ decimal 1) ∷ number 1000 ∷ [])
    ∷ (text (codes "c" ++ decimal 2) ∷ number 2000 ∷ [])
    ∷ (text (codes "c" ++ decimal 3) ∷ number 3000 ∷ [])
    ∷ (text (codes "c" ++ decimal 4) ∷ number 4000 ∷ [])
    ∷ (text (codes "c" ++ decimal 5) ∷ None ∷ [])
    ∷ []
last_cities = refl

-- What the fields of classes stand for.
use Rattle.std.specs.Prelude.{◌≡◌, ℕ, ◌⊎◌, List, [], length, take}
use Rattle.gq_base.specs.Values.{Val}
use Rattle.gq_classes.specs.steps.Levels.{AreLevels, AreTexts, empty_row, keys_of, rows_from, texts_of}
use Rattle.gq_classes.specs.declared.key.Key.{Key}
use Rattle.gq_classes.specs.declared.classes.Classes.TheInside.{Inside}

-- the rows that were counted: before the first row without values the front itself is none
abbrev pub rows_of : Inside → List (List Val)
rows_of c = take c.count (rows_from (texts_of c.texts) empty_row (keys_of c.levels.items))

-- all rows were counted, or there is no row and no level
abbrev pub HasCount : List (List Val) → List (List Key) → ℕ → Type 0
HasCount rows levels count = (length rows ≡ count) ⊎ ((levels ≡ []) × (count ≡ 0))

-- texts and levels that so many rows made
pub record Stand (texts : List (List ℕ)) (levels : List (List Key)) (count : ℕ) : Type 0 where
  pub apart : AreTexts texts
  pub keys : AreLevels (length texts) 1 levels
  pub counted : HasCount (rows_from texts empty_row levels) levels count

abbrev pub AreClasses : Inside → Type 0
AreClasses c = Stand (texts_of c.texts) (keys_of c.levels.items) c.count

-- The classes of rows, one after another.
use Rattle.std.proofs.Common.{◌≡◌, List, [], ◌∷◌, ◌++◌, refl}
use Rattle.gq_plan.specs.Outcomes.{Row}
use Rattle.gq_kept.specs.Answers.{classes, classes_behind, with_class}

pub classes_append : (seen rs more : List Row) → classes_behind seen (rs ++ more) ≡ classes_behind (classes_behind seen rs) more
classes_append seen [] more = refl
classes_append seen (r ∷ rs) more = classes_append (with_class seen r) rs more

pub classes_more : (rows : List Row) (row : Row) → classes (rows ++ row ∷ []) ≡ with_class (classes rows) row
classes_more rows row = classes_append [] rows (row ∷ [])

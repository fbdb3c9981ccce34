use Rattle.std.proofs.Common.{◌≡◌, map, take}
use Rattle.std.specs.Prelude.{flat_map}
use Rattle.gq_base.specs.Values.{val}
use Rattle.gq_classes.specs.steps.Levels.{empty_row, lists_of, rows_from, texts_of}
use Rattle.gq_classes.proofs.classes.all_values.Given as goal

abbrev pub invariant-rows : goal.invariant-rows
invariant-rows l = map val l.values.items ≡ flat_map (λ row. row) (take l.number (take l.count (rows_from (texts_of l.texts) empty_row (lists_of l.levels))))

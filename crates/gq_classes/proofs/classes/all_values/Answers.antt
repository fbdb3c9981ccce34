use Rattle.std.proofs.Common.{◌∙◌, ◌++◌, ap, arith, length-take, sym, take}
use Rattle.std.specs.Prelude.{flat_map, slice_index_or, []}
use Rattle.std.proofs.lemmas.List.{take_all}
use Rattle.gq_classes.specs.steps.Levels.{empty_row, lists_of, rows_from, texts_of}
use Rattle.gq_classes.proofs.Reading.{one_more}
use Rattle.gq_classes.proofs.classes.all_values.Goals as goal

pub rows-preserved : goal.rows-preserved
rows-preserved c =
    let rows = rows_from (texts_of c.args.texts.now) empty_row (lists_of c.args.levels.now) in
    c.in_ok-append_row.ensures
    ∙ ap (λ l. l ++ slice_index_or rows c.rows.number []) c.rows.invariant
    ∙ sym (one_more rows c.args.count c.rows.number c.rows-test.true c.requires)

pub returns : goal.returns
returns c =
    let rows = take c.args.count (rows_from (texts_of c.args.texts.now) empty_row (lists_of c.args.levels.now)) in
    c.rows.invariant
    ∙ ap (flat_map (λ row. row)) (take_all c.rows.number rows (omega (arith, c.rows-test.false, length-take c.args.count (rows_from (texts_of c.args.texts.now) empty_row (lists_of c.args.levels.now)))))

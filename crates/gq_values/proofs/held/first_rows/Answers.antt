use Rattle.std.proofs.Common.{◌∙◌, ◌++◌, List, None, ap, map, refl}
use Rattle.std.specs.Prelude.{flat_map}
use Rattle.gq_base.specs.Values.{Val, val}
use Rattle.gq_values.proofs.ClassRows.{firsts}
use Rattle.gq_values.proofs.held.first_rows.Goals as goal

pub returns : goal.returns
returns c = λ b list h.
    firsts b list c.args.rows (record c.args.rows { columns = c.in_ok-columns.columns; seen = c.new.result; bar = None })
    c.in_ok-columns.ensures refl refl h

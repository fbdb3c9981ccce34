use Rattle.std.proofs.Common.{None, refl}
use Rattle.gq_rows.proofs.Insides.{held-none, stands-none}
use Rattle.gq_kept.specs.declared.form.Form.TheVariants as form
use Rattle.gq_values.specs.Keeping.{held_of}
use Rattle.gq_values.specs.declared.held.Rows.{Rows}
use Rattle.gq_rows.proofs.sink.Sink.new.Goals as goal

pub returns-in-Top-clause-none : goal.returns-in-Top-clause-none
returns-in-Top-clause-none c = λ most small.
    let rows : Rows = record { columns = c.new-2.result; keys = c.new-3.result; count = 0; seen = c.new-4.result; bar = None } in
    stands-none c.args.bound.now (form.Top c.in-Top.most) most (held_of rows) (rw c.in-Top.is at c.form_of-form.ensures) small (held-none rows c.new-2.ensures.items c.new-3.ensures.items refl c.new-4.ensures refl)

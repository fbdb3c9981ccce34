use Rattle.gq_values.proofs.TopRows.{top-added, top-cut, with-row}
use Rattle.gq_values.proofs.held.Rows.push_top.Goals as goal

pub returns-in_ok-keep_first : goal.returns-in_ok-keep_first
returns-in_ok-keep_first g c =
    let a = rw c.in-Ok-true.field-0-test at c.in-Ok-true.ensures in
    let f = with-row _ _ _ _ c.args.self.now c.keep_first.new.self a.row a.is
    (top-cut _ _ _ _ c.args.self.now c.add_first.new.self c.keep_first.new.self a (c.is_to_cut.ensures.yes c.if-is_to_cut.true) c.in_ok-keep_first.ensures.sorts c.in_ok-keep_first.ensures.bar) in
    (f.0, f.1, λ x. x)

pub returns-else-is_to_cut : goal.returns-else-is_to_cut
returns-else-is_to_cut g c =
    let a = rw c.in-Ok-true.field-0-test at c.in-Ok-true.ensures in
    let f = with-row _ _ _ _ c.args.self.now c.add_first.new.self a.row a.is
    (top-added _ _ _ _ c.args.self.now c.add_first.new.self a (c.is_to_cut.ensures.no c.if-is_to_cut.false)) in
    (f.0, f.1, λ x. x)

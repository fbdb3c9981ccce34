use Rattle.std.proofs.Common.{◌∙◌, ◌+◌, not, sym, ap, map, refl}
use Rattle.gq_base.specs.Values.{val}
use Rattle.gq_classes.specs.Rows.{has_row, with_row}
use Rattle.gq_values.proofs.ClassRows.{class-over, class-row, first-keys, held-again, held-new, told-known, told-new}
use Rattle.gq_values.proofs.held.Rows.push_class.Goals as goal

pub returns-then-not-new : goal.returns-then-not-new
returns-then-not-new g c =
    let k = rw (c.in-Ok-true.field-0-test, c.clear.ensures.items) at c.in-Ok-true.ensures in
    let seen = c.args.self.now.seen in
    let columns = ap (map val) c.as_slice.ensures.value ∙ k.columns in
    let makes = c.in_ok-new.ensures.1 ∙ ap (with_row seen) columns in
    let told = sym c.if-not-new.true ∙ c.in_ok-new.ensures.0 ∙ ap (λ r. not (has_row seen r)) columns in
    let new = record c.args.self.now { columns = c.judge.new.columns; keys = c.truncate.new.self; seen = c.insert.new.self } in
    let f = class-row _ _ _ c.args.self.now new k.row k.is (λ rows h.
    let t = told-known _ k.row seen c.insert.new.self h.holds.columns makes told in
    held-again _ _ c.args.self.now new k.row rows t.0 t.1
    (ap (map val) c.truncate.ensures.items ∙ first-keys _ c.args.self.now.keys.items _ _ (c.len-start.ensures ∙ c.args.self.now.keys.ok.0) k.keys) refl h) in
    (f.0, f.1, λ x. x)

pub returns-then-not-may_keep : goal.returns-then-not-may_keep
returns-then-not-may_keep g c =
    let k = rw (c.in-Ok-true.field-0-test, c.clear.ensures.items) at c.in-Ok-true.ensures in
    let seen = c.args.self.now.seen in
    let columns = ap (map val) c.as_slice.ensures.value ∙ k.columns in
    let makes = c.in_ok-new.ensures.1 ∙ ap (with_row seen) columns in
    let told = sym c.if-not-new.false ∙ c.in_ok-new.ensures.0 ∙ ap (λ r. not (has_row seen r)) columns in
    (refl, (k.row, k.is, λ rows h. class-over _ _ c.args.self.now k.row rows (told-new _ k.row seen c.insert.new.self h.holds.columns makes told).0 (c.may_keep.ensures.no c.if-not-may_keep.true) h))

pub returns : goal.returns
returns g c =
    let k = rw (c.in-Ok-true.field-0-test, c.clear.ensures.items) at c.in-Ok-true.ensures in
    let seen = c.args.self.now.seen in
    let columns = ap (map val) c.as_slice.ensures.value ∙ k.columns in
    let makes = c.in_ok-new.ensures.1 ∙ ap (with_row seen) columns in
    let told = sym c.if-not-new.false ∙ c.in_ok-new.ensures.0 ∙ ap (λ r. not (has_row seen r)) columns in
    let new = record c.args.self.now { columns = c.judge.new.columns; keys = c.judge.new.keys; count = c.args.self.now.count + 1; seen = c.insert.new.self } in
    let f = class-row _ _ _ c.args.self.now new k.row k.is (λ rows h.
    let t = told-new _ k.row seen c.insert.new.self h.holds.columns makes told in
    held-new _ _ c.args.self.now new k.row rows t.0 t.1 k.keys refl (k.column_count, k.key_count) (c.may_keep.ensures.yes c.if-not-may_keep.false) h) in
    (f.0, f.1, λ x. x)

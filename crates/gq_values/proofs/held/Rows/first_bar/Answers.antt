use Rattle.std.proofs.Common.{◌∙◌, ap, map, sym}
use Rattle.std.specs.Option.{option_map}
use Rattle.gq_base.specs.Values.{val}
use Rattle.gq_kept.specs.Answers.{by_direction}
use Rattle.gq_values.proofs.SureRows.{starts_behind}
use Rattle.gq_values.proofs.TopRows.{top-behind, with-row}
use Rattle.gq_values.proofs.held.Rows.first_bar.Goals as goal

pub returns : goal.returns
returns c = λ g here n most first sure starts behind.
    let v = c.args.self.now in
    let sort = c.in-Some-get.sort.now in
    let bar = map val c.in-Some.bar.items in
    let less = sym behind ∙ ap (λ x. by_direction sort.down x first) (rw c.as_slice.ensures.value at c.split_first.ensures.first) in
    let k = starts_behind g here c.args.bound.now v bar first sort sure starts (sym c.in-Some-get.ensures.value) (sym (ap (option_map (λ b. map val b.items)) c.in-Some.is)) less in
    let f = with-row _ _ _ _ v v k.row k.is (top-behind _ _ _ v k.row k.behind) in
    (f.0, f.1, λ x. x)

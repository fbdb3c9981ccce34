use Rattle.std.proofs.Common.{◌∙◌, ap, ap₂, length, map, subst, sym}
use Rattle.std.specs.Option.{option_map}
use Rattle.std.specs.Ordering.{is_le}
use Rattle.gq_base.specs.Values.{val}
use Rattle.gq_kept.specs.Answers.{keys_order}
use Rattle.gq_values.specs.Keeping.{IsBehind, last_of}
use Rattle.gq_values.proofs.held.Rows.is_last_behind.Goals as goal

pub returns-in-Some : goal.returns-in-Some
returns-in-Some c = λ e lt.
    let b = c.args.bound.now in
    let keys = last_of (length b.keys) (map val c.args.self.now.keys.items) in
    subst (λ r. IsBehind b (option_map (λ v. map val v.items) r) keys) (sym c.in-Some.is)
    (ap₂ (λ x y. is_le (keys_order b.keys x y)) (ap (map val) (sym c.as_slice-in-Some.ensures.value))
    (sym (c.last_keys-keys.ensures ∙ ap (λ l. last_of (length b.keys) (map val l)) c.as_slice.ensures.value))
    ∙ sym c.is_level_or_behind.ensures ∙ e)

use Rattle.std.proofs.Common.{◌≡◌, ◌∙◌, ap, subst, sym, true}
use Rattle.std.specs.Ordering.{is_le}
use Rattle.std.specs.declared.cmp.Ordering.TheVariants.{Less}
use Rattle.gq_base.specs.Values.{val}
use Rattle.gq_kept.specs.Answers.{by_direction}
use Rattle.gq_values.proofs.Covering.{behind_too, one_way}
use Rattle.gq_values.proofs.bar.FirstBar.covers.Goals as goal

pub returns : goal.returns
returns c = λ v yes less.
    let down = c.args.self.now.down in
    behind_too down (val c.args.self.now.value) (val c.args.other.now.value) v (ap is_le (sym c.direct.ensures) ∙ sym c.is_le.ensures ∙ yes)
    (subst (λ d. by_direction d (val c.args.other.now.value) v ≡ Less) (one_way c.args.self.now.down c.args.other.now.down c.if-self-other.false) less)

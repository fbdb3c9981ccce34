-- What the first key of the bar tells of rows.
use Rattle.std.specs.Prelude.{◌≡◌, ℕ, Ok, []}
use Rattle.std.specs.declared.cmp.Ordering.TheVariants.{Less}
use Rattle.gq_base.specs.Plain.{Graph}
use Rattle.gq_base.specs.Values.{Val, val}
use Rattle.gq_expr.specs.Reading as reading
use Rattle.gq_kept.specs.Answers.{by_direction}
use Rattle.gq_kept.specs.declared.form.Form.TheVariants as form
use Rattle.gq_kept.specs.declared.refusal.More.TheVariants as more
use Rattle.gq_plan.specs.Outcomes.{outcome_by}
use Rattle.gq_plan.specs.declared.bound.Bound.{Bound}
use Rattle.gq_values.specs.Keeping.{PushesBy}
use Rattle.gq_values.specs.Sure.{AreSure, StartsWith}
use Rattle.gq_values.specs.declared.bar.FirstBar.{FirstBar}
use Rattle.gq_values.specs.declared.held.Rows.{Rows}

-- nothing changes with an assignment whose first key comes behind it, where each column and each key is sure to have a value
abbrev pub IsFirstBar : Bound → Rows → FirstBar → Type 0
IsFirstBar b v bar = (g : Graph) (here : reading.Assignment) (n most : ℕ) (first : Val) → AreSure b → StartsWith g here b first
    → by_direction bar.down (val bar.value) first ≡ Less → PushesBy (form.Top n) b most (outcome_by g b [] here) v v (Ok more.Go)

-- The cells of a column in rows that follow one another.
use mathlib.Core.Path.{fun_ext}
use Rattle.std.proofs.Common.{◌≡◌, ◌∙◌, ℕ, ℤ, ◌+◌, ◌-◌, ◌<◌, nat_eq, Bool, false, List, Option, None, drop, refl, ap}
use Rattle.std.specs.Prelude.{if◌then◌else◌}
use Rattle.std.proofs.lemmas.List.{get_or-take, get_or-drop}
use Rattle.gq_bits.specs.Places.{is_marked}
use Rattle.gq_filter.specs.LaneTests.{known_cell}
use Rattle.gq_ends.specs.steps.Tests.{row_cell, span_cell}

pub span_is : (column : List (Option ℤ)) (low high k : ℕ) → k < high - low → (λ lane. span_cell column low high k lane) ≡ row_cell column (low + k)
span_is column low high k less =
    fun_ext (λ lane. ap (λ o. if nat_eq lane 0 then o else None) (get_or-take (high - low) (drop low column) k None less ∙ get_or-drop low column k None))

-- where none is known
pub none_known : (cells : List ℤ) (known : List Bool) (place : ℕ) → is_marked known place ≡ false → known_cell cells known place ≡ None
none_known cells known place none = rw none refl

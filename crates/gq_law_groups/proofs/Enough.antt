-- Which groups are flat enough hangs on their flags alone.
use Rattle.std.proofs.Common.{◌≡◌, ℕ, ◌+◌, ◌<◌, ◌≤◌, Bool, List, [], ◌∷◌, length, subst, arith}
use Rattle.gq_base.specs.Catalogs.{Tables}
use Rattle.gq_plan.specs.Known.{Known}
use Rattle.gq_plan.specs.declared.typed.Typed.{Typed}
use Rattle.gq_law_groups.specs.Groups.{Group}
use Rattle.gq_law_groups.specs.Layout.{known_with, AreFlatEnough}

-- what is enough reads the flags of the groups only
pub enough_same : (catalog : Tables) (y : Typed) (f h : ℕ → Bool) (i : ℕ) (gs : List Group) (k : Known) → ((j : ℕ) → i ≤ j → j < i + length gs → f j ≡ h j) → AreFlatEnough catalog y f i gs k → AreFlatEnough catalog y h i gs k
enough_same catalog y f h i [] k same e = tt
enough_same catalog y f h i (b ∷ gs) k same e = (
  e.0,
  e.1,
  enough_same catalog y f h (i + 1) gs (known_with (h i) b k) (λ j low high. same j (omega (arith, low)) (omega (arith, high)))
      (subst (λ t. AreFlatEnough catalog y f (i + 1) gs (known_with t b k)) (same i (omega arith) (omega arith)) e.2),
)

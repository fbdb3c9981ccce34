-- Whether a plan fits, what it binds and which demands it meets, by its first step.
use Rattle.std.proofs.Common.{◌≡◌, ◌∙◌, ap, refl, sym, ℕ, ◌+◌, ◌<◌, ◌&&◌, List, [], ◌∷◌, ◌++◌, map, length, drop, get_or, drop-cons, add-one, suc}
use Rattle.gq_base.specs.Catalogs.{Tables}
use Rattle.gq_plan.specs.Columns.{steps_of}
use Rattle.gq_plan.specs.Covers.{fits, fits_step, after, after_step, placed, placed_step}
use Rattle.gq_plan.specs.Known.{Known}
use Rattle.gq_plan.specs.Plans.{Step, steps, step_of}
use Rattle.gq_plan.specs.declared.plan.Step as code
use Rattle.gq_plan.specs.declared.typed.Typed.{Typed}

pub first_of_rest : {X : Type 0} (xs : List X) (i : ℕ) (x : X) → i < length xs → x ≡ get_or xs i x → drop i xs ≡ x ∷ drop (i + 1) xs
first_of_rest xs i x h is = rw (add-one i) (drop-cons xs i x h ∙ ap (λ y. y ∷ drop (suc i) xs) (sym is))

pub fits_first : (catalog : Tables) (y : Typed) (k : Known) (xs : List code.Step) (i : ℕ) (x : code.Step) → i < length xs → x ≡ get_or xs i x
    → fits catalog y (steps (map step_of (drop i xs))) k ≡ (fits_step catalog y (step_of x) k && fits catalog y (steps (map step_of (drop (i + 1) xs))) (after_step (step_of x) k))
unfolding fits
fits_first catalog y k xs i x h is = ap (λ ys. fits catalog y (steps (map step_of ys)) k) (first_of_rest xs i x h is)

pub after_first : (k : Known) (xs : List code.Step) (i : ℕ) (x : code.Step) → i < length xs → x ≡ get_or xs i x
    → after (steps (map step_of (drop i xs))) k ≡ after (steps (map step_of (drop (i + 1) xs))) (after_step (step_of x) k)
unfolding after
after_first k xs i x h is = ap (λ ys. after (steps (map step_of ys)) k) (first_of_rest xs i x h is)

pub placed_first : (xs : List code.Step) (i : ℕ) (x : code.Step) → i < length xs → x ≡ get_or xs i x
    → placed (steps (map step_of (drop i xs))) ≡ placed_step (step_of x) ++ placed (steps (map step_of (drop (i + 1) xs)))
unfolding placed
placed_first xs i x h is = ap (λ ys. placed (steps (map step_of ys))) (first_of_rest xs i x h is)

-- the steps of a list of steps
pub steps_back : (ss : List Step) → steps_of (steps ss) ≡ ss
steps_back [] = refl
steps_back (s ∷ ss) = ap (λ l. s ∷ l) (steps_back ss)

-- A plan's steps as they run, and its builds, in an order that has each of them.
use Rattle.std.proofs.Common.{◌≡◌, ◌∙◌, take, ℕ, zero, suc, ◌+◌, ◌<◌, true, false, Option, Some, None, List, [], ◌∷◌, ◌++◌, flat_map, map, length, get_or, slice_get, refl, sym, ap, ap₂, arith}
use Rattle.std.specs.Prelude.{slice_index_or, IsPermutation}
use Rattle.std.specs.List.{AllByRecursion, range_with_len, sum_by}
use Rattle.std.specs.Option.{option_to_list}
use Rattle.std.proofs.lemmas.List.{append_assoc, get_or-map, length-append, map-append, take_more}
use Rattle.std.proofs.lemmas.List.Sorted.{sum_by-IsPermutation}
use Rattle.std.proofs.lemmas.List.Sums.{sum_by-cons}
use Rattle.gq_base.specs.Plain.{Graph}
use Rattle.gq_join.specs.Kept.{Held}
use Rattle.gq_law_plans.proofs.Reordered.{permuted_flat_map}
use Rattle.gq_plan.specs.Arranged.{at_numbers}
use Rattle.gq_plan.specs.Columns.{own_columns}
use Rattle.gq_plan.specs.Halves.{close_half, half_in, half_of, halves, halves_of, numbered_halves}
use Rattle.gq_plan.specs.Plans.{Step, Scan, Extend, Close, Join, Keep, Differ, NoLoop, Single, Meet, steps, step_of}
use Rattle.gq_plan.specs.declared.halves.Half.{Half}
use Rattle.gq_plan.specs.declared.halves.Half.TheVariants.{Whole, First, Second}
use Rattle.gq_plan.specs.declared.halves.StepHalf.{StepHalf}
use Rattle.gq_plan.specs.declared.plan.Step as code
use Rattle.gq_plan.specs.declared.typed.Typed.{Typed}
use Rattle.gq_steps.specs.Built.{AreBuilds, FitsBuild}
use Rattle.gq_steps.specs.Moves.{run_step, run_steps}
use Rattle.gq_steps.specs.declared.plan_run.RunStep.{RunStep}
use Rattle.gq_steps.proofs.Joined.{build_at}

-- ---- the halves of a plan

-- a half of a step asks for the build that the step asks for
fits_half : (g : Graph) (y : Typed) (h : Half) (s : Step) (o : Option Held) → FitsBuild g y s o → FitsBuild g y (half_of h s) o
fits_half g y h (Scan v) o b = b
fits_half g y h (Extend column x from to way) o b = b
fits_half g y h (Close true x from to way) o b = go h
  where
    go : (h : Half) → FitsBuild g y (close_half h x from to way) o
    go Whole = b
    go First = b
    go Second = b
fits_half g y h (Close false x from to way) o b = b
fits_half g y h (Join side keys) o b = b
fits_half g y h (Keep i) o b = b
fits_half g y h (Differ d) o b = b
fits_half g y h (NoLoop x) o b = b
fits_half g y h (Single x from to way) o b = b
fits_half g y h (Meet x from to way) o b = b

pub builds_halves : (g : Graph) (y : Typed) (ss : List Step) (os : List (Option Held)) (qs : List StepHalf) → AreBuilds g y (steps ss) os → AllByRecursion (λ (q : StepHalf). q.step < length ss) qs
    → AreBuilds g y (steps (map (half_in ss) qs)) (map (λ (q : StepHalf). slice_index_or os q.step None) qs)
builds_halves g y ss os [] built low = tt
builds_halves g y ss os (q ∷ qs) built low = (
  fits_half g y q.half (slice_index_or ss q.step (Keep 0)) (slice_index_or os q.step None) (build_at g y ss os q.step built low.0),
  builds_halves g y ss os qs built low.1,
)

-- what is made of the items of numbers are the items that are made, of these numbers
got_mapped : {X Y : Type 0} (f : X → Y) (xs : List X) (n : ℕ) → map f (option_to_list (slice_get xs n)) ≡ option_to_list (slice_get (map f xs) n)
got_mapped f [] n = refl
got_mapped f (x ∷ xs) zero = refl
got_mapped f (x ∷ xs) (suc n) = got_mapped f xs n

at_mapped : {X Y : Type 0} (f : X → Y) (xs : List X) (ns : List ℕ) → map f (at_numbers xs ns) ≡ at_numbers (map f xs) ns
at_mapped f xs [] = refl
at_mapped f xs (n ∷ ns) = map-append f (option_to_list (slice_get xs n)) (at_numbers xs ns) ∙ ap₂ ◌++◌ (got_mapped f xs n) (at_mapped f xs ns)

module _ (at : ℕ → Step) where
  abbrev here : StepHalf → Step
  here q = half_of q.half (at q.step)

  half_step : (s : Step) (i : ℕ) (qs : List StepHalf) → at i ≡ s → map here (map (λ h. record { step = i; half = h }) (halves_of s) ++ qs) ≡ halves s ++ map here qs
  half_step (Scan v) i qs e = ap (λ t. half_of Whole t ∷ map here qs) e
  half_step (Extend column x from to way) i qs e = ap (λ t. half_of Whole t ∷ map here qs) e
  half_step (Close true x from to way) i qs e = ap (λ t. half_of First t ∷ half_of Second t ∷ map here qs) e
  half_step (Close false x from to way) i qs e = ap (λ t. half_of Whole t ∷ map here qs) e
  half_step (Join side keys) i qs e = ap (λ t. half_of Whole t ∷ map here qs) e
  half_step (Keep k) i qs e = ap (λ t. half_of Whole t ∷ map here qs) e
  half_step (Differ d) i qs e = ap (λ t. half_of Whole t ∷ map here qs) e
  half_step (NoLoop x) i qs e = ap (λ t. half_of Whole t ∷ map here qs) e
  half_step (Single x from to way) i qs e = ap (λ t. half_of Whole t ∷ map here qs) e
  half_step (Meet x from to way) i qs e = ap (λ t. half_of Whole t ∷ map here qs) e

  halves_from : (ss : List Step) (i : ℕ) → ((k : ℕ) → k < length ss → at (i + k) ≡ slice_index_or ss k (Keep 0)) → map here (numbered_halves i ss) ≡ flat_map halves ss
  halves_from [] i told = refl
  halves_from (s ∷ ss) i told =
      half_step s i (numbered_halves (i + 1) ss) (let z : i ≡ i + 0 = omega arith in ap at z ∙ told 0 (omega arith))
      ∙ ap (λ l. halves s ++ l) (halves_from ss (i + 1) (λ k low. let next : i + 1 + k ≡ i + suc k = omega arith in ap at next ∙ told (suc k) (omega (arith, low))))

-- the halves of a plan are its steps, its column closes in halves
pub halves_are : (ss : List Step) → map (half_in ss) (numbered_halves 0 ss) ≡ flat_map halves ss
halves_are ss = halves_from (λ n. slice_index_or ss n (Keep 0)) ss 0 (λ k low. let z : 0 + k ≡ k = omega arith in ap (λ n. slice_index_or ss n (Keep 0)) z)

pub halves_run : (ss : List Step) (ns : List ℕ) → map (half_in ss) (at_numbers (numbered_halves 0 ss) ns) ≡ at_numbers (flat_map halves ss) ns
halves_run ss ns = at_mapped (half_in ss) (numbered_halves 0 ss) ns ∙ ap (λ ts. at_numbers ts ns) (halves_are ss)

-- ---- the order of the plan itself

-- all numbers give all items
steps_from : {X : Type 0} (before ss : List X) → at_numbers (before ++ ss) (range_with_len (length before) (length ss)) ≡ ss
steps_from before [] = refl
steps_from {X} before (s ∷ ss) =
    ap (λ o. option_to_list o ++ at_numbers (before ++ s ∷ ss) (range_with_len (length before + 1) (length ss))) (got before)
    ∙ ap (λ l. s ∷ l) (ap (λ ts. at_numbers ts (range_with_len (length before + 1) (length ss))) (sym (append_assoc before (s ∷ []) ss))
    ∙ ap (λ n. at_numbers ((before ++ s ∷ []) ++ ss) (range_with_len n (length ss))) (sym (length-append before (s ∷ [])))
    ∙ steps_from (before ++ s ∷ []) ss)
  where
    got : (before : List X) → slice_get (before ++ s ∷ ss) (length before) ≡ Some s
    got [] = refl
    got (b ∷ before) = got before

pub all_steps : {X : Type 0} (ss : List X) → at_numbers ss (range_with_len 0 (length ss)) ≡ ss
all_steps ss = steps_from [] ss

-- a sum over steps is the same in each order that has each step
pub ordered_sum : (f : Step → ℕ) (ss : List Step) (ns : List ℕ) → IsPermutation ns (range_with_len 0 (length ss)) → sum_by f (at_numbers ss ns) ≡ sum_by f ss
ordered_sum f ss ns same =
    sym (sum_by-IsPermutation f _ _ (permuted_flat_map (λ n. option_to_list (slice_get ss n)) ns (range_with_len 0 (length ss)) same)) ∙ ap (sum_by f) (all_steps ss)

-- the columns of a plan are those of its steps as they run
columns_halves : (y : Typed) (s : Step) (ss : List Step) → sum_by (own_columns y) (halves s ++ ss) ≡ own_columns y s + sum_by (own_columns y) ss
columns_halves y (Scan v) ss = sum_by-cons (own_columns y) (Scan v) ss
columns_halves y (Extend column x from to way) ss = sum_by-cons (own_columns y) (Extend column x from to way) ss
columns_halves y (Close true x from to way) ss =
    let first : sum_by (own_columns y) (Single x from to way ∷ Meet x from to way ∷ ss) ≡ 1 + sum_by (own_columns y) (Meet x from to way ∷ ss) = sum_by-cons (own_columns y) (Single x from to way) (Meet x from to way ∷ ss) in
    let second : sum_by (own_columns y) (Meet x from to way ∷ ss) ≡ 0 + sum_by (own_columns y) ss = sum_by-cons (own_columns y) (Meet x from to way) ss in
    omega (arith, first, second)
columns_halves y (Close false x from to way) ss = sum_by-cons (own_columns y) (Close false x from to way) ss
columns_halves y (Join side keys) ss = sum_by-cons (own_columns y) (Join side keys) ss
columns_halves y (Keep i) ss = sum_by-cons (own_columns y) (Keep i) ss
columns_halves y (Differ d) ss = sum_by-cons (own_columns y) (Differ d) ss
columns_halves y (NoLoop x) ss = sum_by-cons (own_columns y) (NoLoop x) ss
columns_halves y (Single x from to way) ss = sum_by-cons (own_columns y) (Single x from to way) ss
columns_halves y (Meet x from to way) ss = sum_by-cons (own_columns y) (Meet x from to way) ss

pub columns_halved : (y : Typed) (ss : List Step) → sum_by (own_columns y) (flat_map halves ss) ≡ sum_by (own_columns y) ss
columns_halved y [] = refl
columns_halved y (s ∷ ss) = columns_halves y s (flat_map halves ss) ∙ ap (λ n. own_columns y s + n) (columns_halved y ss) ∙ sym (sum_by-cons (own_columns y) s ss)

-- ---- a step more

pub steps_more : (ss : List code.Step) (qs : List StepHalf) (k : ℕ) (rs : List RunStep) (r : RunStep) (q : StepHalf) (s : code.Step) → k < length qs → q ≡ get_or qs k q → q.step < length ss → s ≡ get_or ss q.step s → run_step r ≡ half_of q.half (step_of s)
    → run_steps rs ≡ map (half_in (map step_of ss)) (take k qs) → run_steps (rs ++ r ∷ []) ≡ map (half_in (map step_of ss)) (take (k + 1) qs)
steps_more ss qs k rs r q s low is inside there runs so_far =
    map-append run_step rs (r ∷ [])
    ∙ ap₂ (λ l t. l ++ t ∷ []) so_far
    (runs ∙ ap (half_of q.half) (ap step_of there ∙ sym (get_or-map step_of ss q.step s (Keep 0) inside)))
    ∙ sym (map-append (half_in (map step_of ss)) (take k qs) (q ∷ []))
    ∙ ap (map (half_in (map step_of ss))) (ap (λ z. take k qs ++ z ∷ []) is ∙ sym (take_more qs k q low))

-- A plan whose column closes run in halves has the groups that it has, and asks for the same flat ones.
use Rattle.std.proofs.Common.{◌≡◌, ◌∙◌, ap, sym, refl, Bool, true, false, List, [], ◌∷◌, ◌++◌, flat_map, true≢false}
use Rattle.std.specs.List.{AllByRecursion}
use Rattle.gq_base.specs.Catalogs.{Tables}
use Rattle.gq_plan.specs.Columns.{steps_of}
use Rattle.gq_plan.specs.Covers.{fits_step}
use Rattle.gq_plan.specs.Halves.{halves, halved, runs_step}
use Rattle.gq_plan.specs.Known.{Known}
use Rattle.gq_plan.specs.Plans.{Plan, Done, Then, Step, Scan, Extend, Close, Join, Keep, Differ, NoLoop, Single, Meet, steps}
use Rattle.gq_plan.specs.Shapes.{Places, nowhere, place_step, places_after, places, all_flat}
use Rattle.gq_plan.specs.declared.typed.Typed.{Typed}

-- no column close is left
abbrev pub is_half : Step → Bool
is_half (Close true x from to way) = false
is_half s = true

-- steps one after another
pub after_halves : (s : Step) (ss : List Step) (q : Places) → places_after (steps (halves s ++ ss)) q ≡ places_after (steps ss) (place_step s q)
unfolding places_after place_step
after_halves (Scan v) ss q = refl
after_halves (Extend column x from to way) ss q = refl
after_halves (Close true x from to way) ss q = refl
after_halves (Close false x from to way) ss q = refl
after_halves (Join side keys) ss q = refl
after_halves (Keep i) ss q = refl
after_halves (Differ d) ss q = refl
after_halves (NoLoop x) ss q = refl
after_halves (Single x from to way) ss q = refl
after_halves (Meet x from to way) ss q = refl

-- the places of the variables are the same
pub after_halved : (p : Plan) (q : Places) → places_after (halved p) q ≡ places_after p q
unfolding places_after
after_halved Done q = refl
after_halved (Then s p) q = after_halves s (flat_map halves (steps_of p)) q ∙ after_halved p (place_step s q)

pub places_halved : (p : Plan) → places (halved p) ≡ places p
places_halved p = after_halved p nowhere

-- and what is asked to be flat
pub flat_halves : (y : Typed) (w : Places) (s : Step) (ss : List Step) → all_flat y w (steps (halves s ++ ss)) ≡ all_flat y w (Then s (steps ss))
unfolding all_flat
flat_halves y w (Scan v) ss = refl
flat_halves y w (Extend column x from to way) ss = refl
flat_halves y w (Close true x from to way) ss = refl
flat_halves y w (Close false x from to way) ss = refl
flat_halves y w (Join side keys) ss = refl
flat_halves y w (Keep i) ss = refl
flat_halves y w (Differ d) ss = refl
flat_halves y w (NoLoop x) ss = refl
flat_halves y w (Single x from to way) ss = refl
flat_halves y w (Meet x from to way) ss = refl

pub flat_halved : (y : Typed) (w : Places) (p : Plan) → all_flat y w (halved p) ≡ all_flat y w p
unfolding all_flat
flat_halved y w Done = refl
flat_halved y w (Then s p) = flat_halves y w s (flat_map halves (steps_of p)) ∙ ap (λ js. Rattle.gq_plan.specs.Shapes.flat_by y w s ++ js) (flat_halved y w p)

-- so it is of a plan in halves
pub each_half : (s : Step) (ss : List Step) → AllByRecursion (λ t. is_half t ≡ true) ss → AllByRecursion (λ t. is_half t ≡ true) (halves s ++ ss)
each_half (Scan v) ss h = (refl, h)
each_half (Extend column x from to way) ss h = (refl, h)
each_half (Close true x from to way) ss h = (refl, (refl, h))
each_half (Close false x from to way) ss h = (refl, h)
each_half (Join side keys) ss h = (refl, h)
each_half (Keep i) ss h = (refl, h)
each_half (Differ d) ss h = (refl, h)
each_half (NoLoop x) ss h = (refl, h)
each_half (Single x from to way) ss h = (refl, h)
each_half (Meet x from to way) ss h = (refl, h)

pub all_half : (ss : List Step) → AllByRecursion (λ t. is_half t ≡ true) (flat_map halves ss)
all_half [] = tt
all_half (s ∷ ss) = each_half s (flat_map halves ss) (all_half ss)

-- a step that fits as a whole fits as it runs
pub fits_runs : (catalog : Tables) (y : Typed) (s : Step) (k : Known) → fits_step catalog y s k ≡ true → runs_step catalog y s k ≡ true
unfolding fits_step
fits_runs catalog y (Scan v) k fit = fit
fits_runs catalog y (Extend column x from to way) k fit = fit
fits_runs catalog y (Close column x from to way) k fit = fit
fits_runs catalog y (Join side keys) k fit = fit
fits_runs catalog y (Keep i) k fit = fit
fits_runs catalog y (Differ d) k fit = fit
fits_runs catalog y (NoLoop x) k fit = fit
fits_runs catalog y (Single x from to way) k fit = absurd (true≢false (sym fit))
fits_runs catalog y (Meet x from to way) k fit = absurd (true≢false (sym fit))

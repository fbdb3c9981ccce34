-- The key of an assignment (PVLDB 14(11), list groups): for each flat group the place that the assignment has in the group's whole list,
-- for each unflat group the number of its piece.
use Rattle.std.specs.Prelude.{◌≡◌, ℕ, ◌+◌, Bool, true, false, ◌&&◌, IsTrue, Option, Some, None, List, [], ◌∷◌, length, map, if◌then◌else◌}
use Rattle.std.specs.List.{AllByRecursion, list_all}
use Rattle.gq_base.specs.Plain.{Graph}
use Rattle.gq_base.specs.Valid.{is_valid}
use Rattle.gq_base.specs.declared.RelId.{RelId}
use Rattle.gq_plan.specs.Allowed.{at_same}
use Rattle.gq_plan.specs.Assignments.{same_rel}
use Rattle.gq_plan.specs.Covers.{after}
use Rattle.gq_plan.specs.Halves.{Runs}
use Rattle.gq_plan.specs.Known.{Known, none}
use Rattle.gq_plan.specs.Meaning.{Partial, nothing, look}
use Rattle.gq_plan.specs.Plans.{Step}
use Rattle.gq_plan.specs.Soundness.{IsSound}
use Rattle.gq_plan.specs.declared.typed.Typed.{Typed}
use Rattle.gq_search.specs.Different.{AreKeysOf}
use Rattle.gq_search.specs.Layouts.{number_of, walks, key_of, Spot, owed_walks, owed_keys}
use Rattle.gq_law_groups.specs.Groups.{Group, plan_of, raw, decode}
use Rattle.gq_law_groups.specs.Law.{HaveRows}
use Rattle.gq_law_groups.specs.Layout.{layout_of, AreFlatEnough}
use Rattle.gq_law_groups.specs.Order.{AreCut}

-- two relationships are there, and are one
abbrev pub at_one : Option RelId → Option RelId → Bool
at_one None r = false
at_one (Some q) None = false
at_one (Some q) (Some r) = same_rel q r

-- all that a partial assignment binds another one binds alike
abbrev pub is_part : Partial → Partial → Bool
is_part c e = list_all (λ b. at_same (look c.nodes b.0) (look e.nodes b.0)) c.nodes && list_all (λ b. at_one (look c.rels b.0) (look e.rels b.0)) c.rels

-- how many items stand before the first one that passes
abbrev pub first_place : {X : Type 0} → (X → Bool) → List X → ℕ
first_place test [] = 0
first_place test (x ∷ xs) = if test x then 0 else first_place test xs + 1

-- the place that an assignment has in the whole list of a group that a step makes
abbrev pub place_in : Graph → Typed → List Partial → Step → Partial → ℕ
place_in g y rows s e = first_place (λ c. is_part c e) (raw g y rows s e)

-- the key of an assignment of the groups that these steps make, from one on; `rows` are the rows of the build of each
abbrev pub key_in : Graph → Typed → (ℕ → List Partial) → (ℕ → Bool) → ℕ → List Step → Partial → List ℕ
key_in g y rows flat i [] e = []
key_in g y rows flat i (s ∷ ss) e = number_of (flat i) (place_in g y (rows i) s e) ∷ key_in g y rows flat (i + 1) ss e

-- the steps that make these groups
abbrev pub makers : List Group → List Step
makers gs = map (λ (b : Group). b.binds) gs

-- what is known is bound alike
pub record IsAs (k : Known) (a b : Partial) : Type 0 where
  pub nodes : (v : ℕ) → k.nodes v ≡ true → look a.nodes v ≡ look b.nodes v
  pub rels : (x : ℕ) → k.rels x ≡ true → look a.rels x ≡ look b.rels x

-- each walk has the key of the assignment that it stands for, in whatever order that binds its variables
abbrev pub KeysOfAssignments : Type 0
KeysOfAssignments =
    (g : Graph) (y : Typed) (rows : ℕ → List Partial) (flat : ℕ → Bool) (gs : List Group)
    → IsTrue (is_valid g) → IsSound g.catalog y → Runs g.catalog y (plan_of gs) → AreCut gs → HaveRows g y rows 0 gs → AreFlatEnough g.catalog y flat 0 gs none
    → AllByRecursion (λ w. (e : Partial) → IsAs (after (plan_of gs) none) (decode g y rows 0 gs nothing w) e → key_in g y rows flat 0 (makers gs) e ≡ key_of (layout_of g y rows flat gs) [] w)
    (walks (layout_of g y rows flat gs) (length gs) [])

-- wherever a pipeline is, the keys that are owed are the different keys of the assignments that are owed, in order; `means` is what a walk
-- stands for, in whatever order its variables are bound
abbrev pub KeysOfRest : Type 0
KeysOfRest =
    (g : Graph) (y : Typed) (rows : ℕ → List Partial) (flat : ℕ → Bool) (gs : List Group) (means : List ℕ → Partial) (spot : Spot)
    → IsTrue (is_valid g) → IsSound g.catalog y → Runs g.catalog y (plan_of gs) → AreCut gs → HaveRows g y rows 0 gs → AreFlatEnough g.catalog y flat 0 gs none
    → AllByRecursion (λ w. IsAs (after (plan_of gs) none) (decode g y rows 0 gs nothing w) (means w)) (walks (layout_of g y rows flat gs) (length gs) [])
    → AreKeysOf (owed_keys (layout_of g y rows flat gs) (length gs) spot) (map (key_in g y rows flat 0 (makers gs)) (map means (owed_walks (layout_of g y rows flat gs) (length gs) spot)))

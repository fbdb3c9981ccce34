-- Groups whose steps stand in the order of their groups.
use Rattle.std.specs.Prelude.{◌≡◌, ℕ, ◌+◌, Bool, true, false, not, ◌&&◌, List, [], ◌∷◌}
use Rattle.gq_plan.specs.Covers.{after}
use Rattle.gq_plan.specs.Known.{none}
use Rattle.gq_plan.specs.Plans.{Step, Scan, Extend, Close, Join, Single}
use Rattle.gq_plan.specs.Soundness.{has_number}
use Rattle.gq_plan.specs.declared.typed.Typed.{Typed}
use Rattle.gq_law_groups.specs.Groups.{Group, makes_group}
use Rattle.gq_plan.specs.Shapes.{Places, tested, flat_by, last_of}

-- steps that make no groups
abbrev pub NoGroups : List Step → Type 0
NoGroups [] = Unit {0}
NoGroups (s ∷ ss) = (makes_group s ≡ false) × NoGroups ss

-- each group begins with the step that makes it
abbrev pub AreCut : List Group → Type 0
AreCut [] = Unit {0}
AreCut (b ∷ gs) = (makes_group b.binds ≡ true) × NoGroups b.checks × AreCut gs

module _ (y : Typed) (w : Places) where
  -- what a step binds stands in a group
  abbrev pub BindsAt : ℕ → Step → Type 0
  BindsAt i (Scan v) = w.nodes v ≡ i
  BindsAt i (Extend column x from to direction) = (w.nodes to ≡ i) × (w.rels x ≡ i)
  BindsAt i (Close column x from to direction) = w.rels x ≡ i
  BindsAt i (Single x from to direction) = w.rels x ≡ i
  BindsAt i (Join side keys) = ((v : ℕ) → ((after side none).nodes v && not (has_number keys v)) ≡ true → w.nodes v ≡ i) × ((x : ℕ) → (after side none).rels x ≡ true → w.rels x ≡ i)
  BindsAt i s = Unit {0}

  -- a test's latest group is this one; the source of a step that follows a column stands in it
  abbrev pub StandsAt : ℕ → Step → Type 0
  StandsAt i (Extend column x from to direction) = w.nodes from ≡ i
  StandsAt i (Single x from to direction) = w.nodes from ≡ i
  StandsAt i s = last_of (tested y w s) ≡ i

  abbrev pub AllAt : ℕ → List Step → Type 0
  AllAt i [] = Unit {0}
  AllAt i (s ∷ ss) = BindsAt i s × StandsAt i s × AllAt i ss

  -- each group's steps stand in it
  abbrev pub InOrder : ℕ → List Group → Type 0
  InOrder i [] = Unit {0}
  InOrder i (b ∷ gs) = BindsAt i b.binds × AllAt i b.checks × InOrder (i + 1) gs

-- what each step asks to be flat is flat
abbrev pub Flats : Typed → Places → (ℕ → Bool) → List Step → Type 0
Flats y w flat [] = Unit {0}
Flats y w flat (s ∷ ss) = ((j : ℕ) → has_number (flat_by y w s) j ≡ true → flat j ≡ true) × Flats y w flat ss

abbrev pub FlatsOf : Typed → Places → (ℕ → Bool) → List Group → Type 0
FlatsOf y w flat [] = Unit {0}
FlatsOf y w flat (b ∷ gs) = ((j : ℕ) → has_number (flat_by y w b.binds) j ≡ true → flat j ≡ true) × Flats y w flat b.checks × FlatsOf y w flat gs

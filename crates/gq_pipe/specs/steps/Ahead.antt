-- What groups are told of their places by later ones.
use Rattle.std.specs.Prelude.{◌≡◌, ◌≢◌, ◌⊎◌, ℕ, Bool, false, Option, Some, List, slice_get}
use Rattle.gq_masks.specs.Masks.{AreReached, IsPart, next_end}
use Rattle.gq_plan.specs.Plans.{Extend}
use Rattle.gq_plan.specs.declared.assignment.Assignment.{Assignment}
use Rattle.gq_steps.specs.Levels.{Run, step_at}
use Rattle.gq_steps.specs.declared.group_steps.GroupSteps.{GroupSteps}
use Rattle.gq_plan.specs.declared.follow.Follow.{Follow}
use Rattle.gq_pipe.specs.declared.ahead.Ahead.{Ahead}
use Rattle.gq_pipe.specs.declared.ahead.Ahead.TheVariants.{Near, Far}
use Rattle.gq_pipe.specs.steps.Closings.{IsClosing}
use Rattle.gq_pipe.specs.declared.sight.Sight.{Sight}
use Rattle.gq_pipe.specs.steps.Sights.{HasRow, IsAsSeen, IsNext, IsSight, IsUnseen}
use Rattle.gq_pipe.specs.steps.Told.{HasNothing}

abbrev pub IsAhead : Run → List GroupSteps → ℕ → Ahead → Type 0
IsAhead c ss depth (Near t) = IsClosing c ss depth t
IsAhead c ss depth (Far t) = IsSight c ss depth t

-- each group is told so, if it is told anything
abbrev pub AreAhead : Run → List GroupSteps → List (Option Ahead) → Type 0
AreAhead c ss ts = (depth : ℕ) (t : Ahead) → slice_get ts depth ≡ Some (Some t) → IsAhead c ss depth t

-- no group is told anything
abbrev pub AreUntold : List (Option Ahead) → Type 0
AreUntold ts = (depth : ℕ) (t : Ahead) → slice_get ts depth ≢ Some (Some t)

-- the group at a depth is told this, and all others the same
abbrev pub ArePut : ℕ → Option Ahead → List (Option Ahead) → List (Option Ahead) → Type 0
ArePut depth next old new = (d : ℕ) (u : Ahead) → slice_get new d ≡ Some (Some u) → (slice_get old d ≡ Some (Some u)) ⊎ ((d ≡ depth) × (next ≡ Some u))

-- they are told no less
abbrev pub StayAhead : Run → List (Option Ahead) → List (Option Ahead) → Type 0
StayAhead c old new = (ss : List GroupSteps) → AreAhead c ss old → AreAhead c ss new

-- a group is told the same, or which of the next rows of a mask are chosen
abbrev pub IsToldMore : List Bool → Ahead → Ahead → Type 0
IsToldMore chosen (Near t) (Near u) = u ≡ t
IsToldMore chosen (Near t) (Far u) = ⊥
IsToldMore chosen (Far t) (Near u) = ⊥
IsToldMore chosen (Far t) (Far u) = IsAsSeen t u × ((all : ℕ → Bool) → AreReached t.mask all → IsPart all t.mask.told (next_end t.mask) chosen → AreReached u.mask all)

-- the group at a depth is told so, and all others the same
abbrev pub AreToldMore : List Bool → ℕ → List (Option Ahead) → List (Option Ahead) → Type 0
AreToldMore chosen depth old new = (d : ℕ) (u : Ahead) → slice_get new d ≡ Some (Some u) →
    (slice_get old d ≡ Some (Some u)) ⊎ ((t : Ahead) × (d ≡ depth) × (slice_get old depth ≡ Some (Some t)) × IsToldMore chosen t u)

-- these of the next rows of the mask of a group are chosen
abbrev pub AreNext : Run → List (Option Ahead) → ℕ → List Bool → Type 0
AreNext c ts depth marks = (ss : List GroupSteps) → AreAhead c ss ts → (t : Sight) → slice_get ts depth ≡ Some (Some (Far t)) → IsNext c ss t marks

-- the later group makes nothing of a place of the step at a depth
abbrev pub EndsHere : Run → ℕ → Assignment → ℕ → Ahead → Type 0
EndsHere c d row place (Near t) = (f : Follow) × (step_at c d ≡ Extend false f.rel f.from f.to f.direction) × HasNothing c.graph c.typed row f t.other t.near place
EndsHere c d row place (Far t) = (own : ℕ) × HasRow c d row place own × IsUnseen t own

-- a group is told of a place of its step that the later one makes nothing of it
abbrev pub EndsAmong : Run → ℕ → Assignment → ℕ → ℕ → List (Option Ahead) → Type 0
EndsAmong c d row place depth ts = (u : Ahead) × (slice_get ts depth ≡ Some (Some u)) × EndsHere c d row place u

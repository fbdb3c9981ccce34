-- The matches of the groups of a plan, where the first of them stand.
use Rattle.std.specs.Prelude.{◌≡◌, ℕ, ◌+◌, ◌<◌, List, [], map, length, slice_index_or}
use Rattle.std.specs.Borrow.{Bor}
use Rattle.gq_plan.specs.declared.assignment.Assignment.{Assignment}
use Rattle.gq_steps.specs.Levels.{Run}
use Rattle.gq_steps.specs.steps.Lists.{EarlierStand}
use Rattle.gq_steps.specs.Groups.{group_at}
use Rattle.gq_steps.specs.declared.group_steps.GroupSteps.{GroupSteps}
use Rattle.gq_steps.specs.Matches.{AreMatches}

-- the lists that are referred to
abbrev pub lists_in : List (Bor (List ℕ)) → List (List ℕ)
lists_in ms = map (λ m. m.now) ms

-- so many first groups have theirs
pub record HaveMatches (c : Run) (ss : List GroupSteps) (row : Assignment) (ms : List (List ℕ)) (n : ℕ) : Type 0 where
  pub many : length ms ≡ length ss
  pub each : (i : ℕ) → i < n → i < length ss → AreMatches c (group_at ss i).first row (slice_index_or ms i [])

-- the groups but the last one stand at the first of these numbers, and so many first groups have their matches
pub record StandMatched (c : Run) (ss : List GroupSteps) (row : Assignment) (ms : List (List ℕ)) (pre : List ℕ) (n : ℕ) : Type 0 where
  pub stand : EarlierStand c ss row pre
  pub matches : HaveMatches c ss row ms n

-- all groups that stand have them
abbrev pub StandNow : Run → List GroupSteps → Assignment → List (List ℕ) → List ℕ → Type 0
StandNow c ss row ms pre = StandMatched c ss row ms pre (length pre)

-- the next group has its own too
abbrev pub StandOpen : Run → List GroupSteps → Assignment → List (List ℕ) → List ℕ → Type 0
StandOpen c ss row ms pre = StandMatched c ss row ms pre (length pre + 1)

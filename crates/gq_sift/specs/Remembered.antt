-- What is remembered of a list: the places of its first pieces that tests of rows keep, while the rows stand that these tests read.
use Rattle.std.specs.Prelude.{◌≡◌, ◌≢◌, ◌⊎◌, ℕ, ◌*◌, ◌<◌, Bool, true, false, ◌&&◌, nat_lt, Some, List, length, slice_get, slice_index}
use Rattle.gq_bits.specs.Places.{is_marked}
use Rattle.gq_bits.specs.declared.TheConstants.{VECTOR}
use Rattle.gq_plan.specs.Covers.{test_bound}
use Rattle.gq_plan.specs.Known.{Known, known_of, set_of}
use Rattle.gq_plan.specs.Meaning.{holds}
use Rattle.gq_plan.specs.Plans.{Extend}
use Rattle.gq_plan.specs.declared.assignment.Assignment.{Assignment}
use Rattle.gq_sift.specs.declared.remembered.KeptPiece.{KeptPiece}
use Rattle.gq_sift.specs.declared.remembered.Remembered.{Remembered}
use Rattle.gq_steps.specs.Tests.{test_of}
use Rattle.gq_sift.specs.Tested.{IsTested}
use Rattle.gq_steps.specs.Levels.{Run, known, step_at}
use Rattle.gq_steps.specs.Moves.{IsHeld}
use Rattle.gq_steps.specs.declared.group_steps.GroupSteps.{GroupSteps}

-- the tests of a group read these variables alone
abbrev pub TestsRead : Run → GroupSteps → Known → Type 0
TestsRead c group k = (d i : ℕ) → group.first < d → d < group.end → test_of (step_at c d) ≡ Some i → holds (test_bound k) (slice_get c.typed.tests i) ≡ true

-- node variables of a set have the same rows, but one of them
abbrev pub AreAlikeBeside : ℕ → (ℕ → Bool) → List ℕ → List ℕ → Type 0
AreAlikeBeside one set old new = (v : ℕ) → v < length old → set v ≡ true → v ≢ one → slice_index old v ≡ slice_index new v

-- the rows that are read are those of an assignment; that of the node to which the list leads is another one at each place
abbrev pub StandsAt : Remembered → Assignment → Type 0
StandsAt m row = AreAlikeBeside m.follow.to (set_of m.reads.nodes) m.rows.items row.nodes

-- the pieces are those of the list, wherever these rows stand
pub record IsRemembered (c : Run) (group : GroupSteps) (m : Remembered) : Type 0 where
  pub follows : step_at c group.first ≡ Extend false m.follow.rel m.follow.from m.follow.to m.follow.direction
  pub from : set_of m.reads.nodes m.follow.from ≡ true
  pub no_rels : (x : ℕ) → set_of m.reads.rels x ≡ false
  pub tests : TestsRead c group (known_of m.reads)
  pub long : length m.rows.items ≡ length c.typed.nodes
  pub each : (p : ℕ) (k : KeptPiece) → slice_get m.pieces.items p ≡ Some k → (row : Assignment) → IsHeld c row (known c group.first) → StandsAt m row → IsTested c group m.follow (p * VECTOR) k.count row k.marks

-- a piece is remembered with so many places, and its marks are given
pub record Gives (m : Remembered) (piece count : ℕ) (marks : List Bool) : Type 0 where
  pub kept : KeptPiece
  pub there : slice_get m.pieces.items piece ≡ Some kept
  pub many : kept.count ≡ count
  pub whole : length marks ≡ VECTOR
  pub each : (j : ℕ) → is_marked marks j ≡ (nat_lt j count && is_marked kept.marks j)

-- what is remembered of a piece are these marks of so many places
pub record HasMarks (count : ℕ) (marks : List Bool) (k : KeptPiece) : Type 0 where
  pub many : k.count ≡ count
  pub whole : length k.marks ≡ VECTOR
  pub each : (j : ℕ) → is_marked k.marks j ≡ (nat_lt j count && is_marked marks j)

-- each piece that is remembered then was remembered before, or is this one
abbrev pub TakesPiece : Remembered → ℕ → ℕ → List Bool → Remembered → Type 0
TakesPiece old piece count marks new =
    (p : ℕ) (k : KeptPiece) → slice_get new.pieces.items p ≡ Some k → (slice_get old.pieces.items p ≡ Some k) ⊎ ((p ≡ piece) × HasMarks count marks k)

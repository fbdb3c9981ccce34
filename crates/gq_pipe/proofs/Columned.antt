-- A column is filled at 64 positions more, where its group is marked.
use Rattle.std.proofs.Common.{◌≡◌, ◌≢◌, ◌⊎◌, ◌∙◌, inl, inr, ℕ, ◌+◌, ◌-◌, ◌*◌, ◌/◌, ◌<◌, ◌≤◌, true, List, length, refl, sym, ap, subst, arith}
use Rattle.std.specs.Prelude.{slice_index, slice_get, ◌==◌}
use Rattle.std.specs.Int.{bit_at}
use Rattle.std.proofs.lemmas.Bool.{cases_lt, eq-eqb, eqb-true}
use Rattle.gq_bits.specs.declared.TheConstants.{VECTOR}
use Rattle.gq_bits.specs.Places.{is_marked}
use Rattle.gq_group.specs.declared.group.Group.{Group}
use Rattle.gq_group.specs.declared.home.Homes.{Homes}
use Rattle.gq_group.specs.declared.home.NodeHome.TheVariants as node
use Rattle.gq_plan.specs.Known.{Known}
use Rattle.gq_plan.specs.declared.assignment.Assignment.{Assignment}
use Rattle.gq_pool.specs.Pool.{Pool, IsOut, cell_at, cells_of}
use Rattle.gq_pipe.specs.Serving.{HasCell, HasCells}
use Rattle.gq_pool.specs.Slots.{Holds}
use Rattle.gq_pipe.specs.steps.Cells.{HasSource, cell_of, cell_seen, filled, has_cell, marks_in}
use Rattle.gq_homes.specs.Homes.{IsColumnOf, IsFilling, column_group, filling_at, node_home}
use Rattle.gq_steps.specs.Levels.{Run}
use Rattle.gq_pipe.specs.steps.Origins.{CanRead, row_from}
use Rattle.gq_homes.specs.declared.homes.Filling.{Filling}
use Rattle.gq_homes.specs.declared.homes.Filling.TheVariants.{Led, Kept}
use Rattle.gq_pipe.specs.declared.origins.Origin.{Origin}
use Rattle.gq_steps.specs.declared.group_steps.GroupSteps.{GroupSteps}
use Rattle.gq_pipe.proofs.Filling.{cells_more, cells_still, holds_still, length-filled, seen_cell, source_there}

-- the group of a column is one of the groups
pub group_low : (c : Run) (ss : List GroupSteps) (k : Known) (h : Homes) (n : ℕ) (f : Filling) (many : ℕ) → many ≡ length ss → IsFilling c ss k h n f → column_group f < many
group_low c ss k h n (Led f) many e is = let low = is.group in omega (arith, low, e)
group_low c ss k h n (Kept f) many e is = let low = is.group in omega (arith, low, e)

module _ (c : Run) (row : Assignment) (gs : List Group) (h : Homes) (fs : List Filling) (slots : List ℕ) (n : ℕ) where
  abbrev f : Filling
  f = filling_at fs n

  -- the row that is to be in a cell
  abbrev pub value : ℕ → ℕ
  value k = cell_of c row gs h (filled c row gs h fs n) f k

  -- the first columns are filled, and one more at the first positions
  pub record AreColumned (index : ℕ) (old new : Pool) : Type 0 where
    pub held : Holds new slots
    pub same_out : new.out ≡ old.out
    pub before : HasCells new slots (filled c row gs h fs n)
    pub here : (k : ℕ) → k < 64 * index → has_cell gs f k ≡ true → HasCell new (slice_index slots n) k (value k)

  pub columned_none : (old : Pool) → Holds old slots → HasCells old slots (filled c row gs h fs n) → AreColumned 0 old old
  columned_none old held before = record { held = held; same_out = refl; before = before; here = λ k low on. absurd (omega (arith, low)) }

  pub columned_all : (old new : Pool) (index : ℕ) → VECTOR / 64 ≤ index → AreColumned index old new → HasCells new slots (filled c row gs h fs (n + 1))
  columned_all old new index over all = cells_more c row gs h fs new slots n all.before (λ k low on. all.here k (omega (arith, low, over)) on)

  module _ (old mid : Pool) (index : ℕ) (was : AreColumned index old mid) (small : index < VECTOR / 64) (room : n < length slots) (ss : List GroupSteps) (k : Known) (is : IsFilling c ss k h n f)
      (columns : (v j m : ℕ) → node_home h v ≡ node.Column j m → IsColumnOf fs j m) (o : Origin) (row_is : (q : Pool) (p : ℕ) → row_from o q p ≡ cell_seen c row gs h q slots f p)
      (can : (q : Pool) (written p : ℕ) → HasSource h q slots written f p → CanRead o q written p) (word : ℕ)
      (bits : (i : ℕ) → i < 64 → (bit_at word i == 1) ≡ is_marked (marks_in (slice_get gs (column_group f))) (64 * index + i)) where
    marked : (i : ℕ) → i < 64 → bit_at word i ≡ 1 → has_cell gs f (64 * index + i) ≡ true
    marked i low on = sym (bits i low) ∙ eq-eqb (bit_at word i) 1 on

    pub can_fill : (slot : ℕ) → slot ≡ slice_index slots n → (i : ℕ) → i < 64 → bit_at word i ≡ 1 → CanRead o mid slot (64 * index + i)
    can_fill slot at i low on =
        subst (λ s. CanRead o mid s (64 * index + i)) (sym at)
        (can mid (slice_index slots n) (64 * index + i) (source_there c row gs h fs mid slots n (64 * index + i) ss k f columns was.held was.before room (omega (arith, small, low)) (marked i low on) is))

    module _ (new : Pool) (slot : ℕ) (at : slot ≡ slice_index slots n) (cells : (i : ℕ) → i < 64 → bit_at word i ≡ 1 → HasCell new slot (64 * index + i) (row_from o mid (64 * index + i)))
        (other_cells : (p : ℕ) → p / 64 ≢ index → cell_at new slot p ≡ cell_at mid slot p) (other_slots : (s : ℕ) → s ≢ slot → cells_of new s ≡ cells_of mid s)
        (same_out : new.out ≡ mid.out) (still_out : (s : ℕ) → IsOut mid s → IsOut new s) where
      one : (p : ℕ) → p < 64 * (index + 1) → has_cell gs f p ≡ true → HasCell new slot p (value p)
      one p low on = go (cases_lt p (64 * index))
        where
          go : (p < 64 * index) ⊎ (64 * index ≤ p) → HasCell new slot p (value p)
          go (inl less) =
              let had : HasCell mid slot p (value p) = subst (λ s. HasCell mid s p (value p)) (sym at) (was.here p less on) in
              record { is = other_cells p (λ e. omega (arith, less, e)) ∙ had.is; few = had.few }
          go (inr more) =
              let i : ℕ = p - 64 * index in
              let there : 64 * index + i ≡ p = omega (arith, more) in
              let inside : i < 64 = omega (arith, low, more) in
              let bit : bit_at word i ≡ 1 = eqb-true (bit_at word i) 1 (bits i inside ∙ ap (has_cell gs f) there ∙ on) in
              let is_value : row_from o mid (64 * index + i) ≡ value (64 * index + i) =
              row_is mid (64 * index + i) ∙ seen_cell c row gs h fs mid slots n (64 * index + i) ss k f columns was.before (omega (arith, small, inside)) (marked i inside bit) is in
              subst (λ p. HasCell new slot p (value p)) there (subst (HasCell new slot (64 * index + i)) is_value (cells i inside bit))

      pub columned_more : AreColumned (index + 1) old new
      columned_more = record {
        held = holds_still mid new slots still_out was.held;
        same_out = same_out ∙ was.same_out;
        before = cells_still mid new slots (filled c row gs h fs n) n slot at room (let many = length-filled c row gs h fs n in omega (arith, many)) was.held other_slots was.before;
        here = λ p low on. subst (λ s. HasCell new s p (value p)) at (one p low on);
      }

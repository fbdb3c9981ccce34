-- Integers that come behind a bar, as the kernels tell it.
use Rattle.std.proofs.Common.{◌≡◌, ◌+◌, ◌-◌, ◌<◌, ◌≤◌, ◌∙◌, refl, sym, ap, subst, ℕ, ℤ, pos, List, Bool, true, false, not, Option, Some, None, is_some, drop, length, inl, inr, arith}
use Rattle.std.specs.Prelude.{◌&&◌, int_le, int_lt, nat_lt, slice_range, unwrap_or}
use Rattle.std.specs.Ordering.{int_cmp}
use Rattle.std.specs.declared.cmp.Ordering.TheVariants.{Less}
use Rattle.std.proofs.lemmas.Int.{ints}
use Rattle.std.proofs.lemmas.List.{get_or-take, get_or-drop, get_or_past, length-take, length-drop}
use Rattle.std.proofs.lemmas.Bool.{cases_lt, false≢true}
use Rattle.gq_base.specs.Plain.{cell_val}
use Rattle.gq_base.specs.Values.{int, null}
use Rattle.gq_base.specs.declared.catalog.Kind.{Kind}
use Rattle.gq_base.specs.declared.catalog.Kind.TheVariants as kind
use Rattle.gq_bits.specs.Places.{is_marked}
use Rattle.gq_column.specs.Cells.{Gathered, cell_at}
use Rattle.gq_lanes.specs.Tests.{cell}
use Rattle.gq_store.specs.Columns.{cell_of}
use Rattle.gq_cells.specs.Behind.{IsBehindBar}
use Rattle.gq_cells.specs.steps.Cells.{IsBehindInt}

less_is : (x y : ℤ) → int_lt x y ≡ true → int_cmp x y ≡ Less
less_is x y e = grind (arith, ints)

-- the value of a cell that is behind
pub value_behind : (down : Bool) (bar : ℤ) (dict : List (List ℕ)) (c : Option ℤ) → IsBehindInt down bar c → IsBehindBar down (int bar) (cell_val (cell_of kind.Int dict c))
value_behind true bar dict None h = absurd h
value_behind true bar dict (Some z) h = less_is z bar h
value_behind false bar dict None h = refl
value_behind false bar dict (Some z) h = less_is bar z h

-- in the descending order what is known comes behind null
pub known_behind : (k : Kind) (dict : List (List ℕ)) (c : Option ℤ) → is_some c ≡ true → IsBehindBar true null (cell_val (cell_of k dict c))
known_behind k dict None h = absurd (false≢true h)
known_behind kind.Int dict (Some z) h = refl
known_behind kind.Flag dict (Some z) h = refl
known_behind kind.Str dict (Some z) h = refl

-- ---- what the kernels leave

both : (a b : Bool) → (a && b) ≡ true → (a ≡ true) × (b ≡ true)
both true b e = (refl, e)
both false b e = cc

known_less : (o : Option ℤ) (z bar : ℤ) → z ≡ unwrap_or o (pos 0) → (is_some o && int_lt z bar) ≡ true → IsBehindInt true bar o
known_less None z bar is e = cc
known_less (Some x) z bar is e = subst (λ y. int_lt y bar ≡ true) is e

not_ahead : (o : Option ℤ) (z bar : ℤ) → z ≡ unwrap_or o (pos 0) → not (is_some o && int_le z bar) ≡ true → IsBehindInt false bar o
not_ahead None z bar is e = tt
not_ahead (Some x) z bar is e = subst (λ y. int_lt bar y ≡ true) is (past z bar e)
  where
    past : (z bar : ℤ) → not (int_le z bar) ≡ true → int_lt bar z ≡ true
    past z bar e = grind (arith, ints)

is_low : (k n : ℕ) → nat_lt k n ≡ true → k < n
is_low k n e = grind arith

module _ (column : List (Option ℤ)) (first count : ℕ) (old new : List ℤ) (known : List Bool) (g : Gathered (slice_range column first (first + count)) old new known) (inside : first + count ≤ length column) where
  there : (k : ℕ) → k < count → cell_at (slice_range column first (first + count)) k ≡ cell_at column (first + k)
  there k low = get_or-take (first + count - first) (drop first column) k None (omega (arith, low)) ∙ get_or-drop first column k None

  long : (k : ℕ) → k < count → k < length (slice_range column first (first + count))
  long k low = let a = length-take (first + count - first) (drop first column) in let b = length-drop first column in omega (arith, low, inside, a, b)

  written : (k : ℕ) → k < count → cell new k ≡ unwrap_or (cell_at column (first + k)) (pos 0)
  written k low = g.written k (long k low) ∙ ap (λ o. unwrap_or o (pos 0)) (there k low)

  known_is : (k : ℕ) → k < count → is_marked known k ≡ is_some (cell_at column (first + k))
  known_is k low = g.marked k ∙ ap is_some (there k low)

  pub less_kept : (bar : ℤ) (before after : List Bool) → ((k : ℕ) → is_marked before k ≡ nat_lt k count) → ((k : ℕ) → is_marked after k ≡ (is_marked before k && (is_marked known k && int_lt (cell new k) bar)))
      → (k : ℕ) → is_marked after k ≡ true → (k < count) × IsBehindInt true bar (cell_at column (first + k))
  less_kept bar before after marked kept k e =
      let h = both (is_marked before k) (is_marked known k && int_lt (cell new k) bar) (sym (kept k) ∙ e) in
      let low = is_low k count (sym (marked k) ∙ h.0) in
      (low, known_less (cell_at column (first + k)) (cell new k) bar (written k low) (sym (ap (λ b. b && int_lt (cell new k) bar) (known_is k low)) ∙ h.1))

  pub ahead_taken : (bar : ℤ) (before ahead after : List Bool) → ((k : ℕ) → is_marked before k ≡ nat_lt k count) → (all : List Bool) → ((k : ℕ) → is_marked all k ≡ nat_lt k count)
      → ((k : ℕ) → is_marked ahead k ≡ (is_marked all k && (is_marked known k && int_le (cell new k) bar)))
      → ((k : ℕ) → is_marked after k ≡ (is_marked before k && not (is_marked ahead k)))
      → (k : ℕ) → is_marked after k ≡ true → (k < count) × IsBehindInt false bar (cell_at column (first + k))
  ahead_taken bar before ahead after marked all there_all kept taken k e =
      let h = both (is_marked before k) (not (is_marked ahead k)) (sym (taken k) ∙ e) in
      let below = sym (marked k) ∙ h.0 in
      let low = is_low k count below in
      let same : is_marked ahead k ≡ (is_some (cell_at column (first + k)) && int_le (cell new k) bar) =
      kept k ∙ ap (λ b. b && (is_marked known k && int_le (cell new k) bar)) (there_all k ∙ below) ∙ ap (λ b. b && int_le (cell new k) bar) (known_is k low) in
      (low, not_ahead (cell_at column (first + k)) (cell new k) bar (written k low) (sym (ap not same) ∙ h.1))

  pub known_there : (k : ℕ) → is_marked known k ≡ true → (k < count) × (is_some (cell_at column (first + k)) ≡ true)
  known_there k on = elim (cases_lt k count) [
    | inl low ↦ (low, sym (known_is k low) ∙ on)
    | inr past ↦
        (let a = length-take (first + count - first) (drop first column) in
        let b = length-drop first column in
        let none : cell_at (slice_range column first (first + count)) k ≡ None = get_or_past (slice_range column first (first + count)) k None (omega (arith, past, inside, a, b)) in
        absurd (false≢true (sym (g.marked k ∙ ap is_some none) ∙ on)))
  ]

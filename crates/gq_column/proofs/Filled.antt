-- Gathering, block by block.
use Rattle.std.proofs.Common.{◌≡◌, ◌≢◌, ℕ, ℤ, pos, zero, suc, ◌+◌, ◌-◌, ◌*◌, ◌/◌, ◌%◌, ◌^◌, ◌<◌, ◌≤◌, min, max, Bool, true, false, cond, eqb, List, ◌++◌, length, get_or, take, drop, set, Option, Some, None, refl, sym, ap, ◌∙◌, subst, arith, inl, inr, w64}
use Rattle.std.specs.Prelude.{is_some, unwrap_or, nat_lt, ◌==◌, ◌&&◌, bit_or}
use Rattle.std.specs.Int.{bit_at}
use mir.Val.{bool_byte}
use Rattle.std.proofs.lemmas.Bool.{cases_lt, cases_eq, lt-ltb, le-ltb, eq-eqb, ne_eqb}
use Rattle.std.proofs.lemmas.List.{ext_get_or, length-drop, get_or-drop, get_or-set_same, get_or-set_other, get_or_past, get_or_append_left, get_or-append_right, get_or-take, length-append, length-take}
use Rattle.std.proofs.lemmas.Nat.Bits.{bit_at_lowest, bit_at-suc, bit_at-zero, bit_at_or, bit_at_set_same, bit_at_set_other}
use Rattle.gq_bits.specs.Places.{is_marked, allows}
use Rattle.gq_column.specs.Cells.{cell_at, Gathered}
use Rattle.gq_column.specs.steps.Cells.{BlockGathered}

-- the first n cells are gathered, and all places behind them are still marked
pub record Filled (cells : List (Option ℤ)) (n : ℕ) (old new : List ℤ) (known : List Bool) : Type 0 where
  pub size : length new ≡ length old
  pub written : (k : ℕ) → k < n → get_or new k (pos 0) ≡ unwrap_or (cell_at cells k) (pos 0)
  pub rest : (k : ℕ) → n ≤ k → get_or new k (pos 0) ≡ get_or old k (pos 0)
  pub marked : (k : ℕ) → k < n → is_marked known k ≡ is_some (cell_at cells k)
  pub waiting : (k : ℕ) → n ≤ k → is_marked known k ≡ nat_lt k (length cells)

pub filled_none : (cells : List (Option ℤ)) (n : ℕ) (out : List ℤ) (known : List Bool) → n ≡ 0 → ((k : ℕ) → is_marked known k ≡ nat_lt k (length cells)) → Filled cells n out out known
filled_none cells n out known none first = record { size = refl; written = λ k h. absurd (omega (arith, none)); rest = λ k h. refl; marked = λ k h. absurd (omega (arith, none)); waiting = λ k h. first k }

and-true : (b : Bool) → (b && true) ≡ b
and-true true = refl
and-true false = refl

-- the marks of one more block
pub filled_block : (cells : List (Option ℤ)) (cell : ℕ → Option ℤ) (index n m word : ℕ) (old mid new : List ℤ) (known after : List Bool) →
    Filled cells n old mid known → n ≡ 64 * index → n < length cells → m ≡ min (length cells) (n + 64) → ((k : ℕ) → k < length cells → cell_at cells k ≡ cell k) →
    length new ≡ length mid → BlockGathered cell n m mid new word → ((k : ℕ) → is_marked after k ≡ (is_marked known k && allows index word k)) → Filled cells m old new after
filled_block cells cell index n m word old mid new known after f low inside high same size b step = record {
  size = size ∙ f.size;
  written = λ k h. elim (cases_lt k n) [
    | inl before ↦ b.before k before ∙ f.written k before
    | inr here ↦ b.written k here h ∙ ap (λ (c : Option ℤ). unwrap_or c (pos 0)) (sym (same k (omega (arith, high))))
  ];
  rest = λ k h. b.after k h ∙ f.rest k (omega (arith, high));
  marked = λ k h. elim (cases_eq (k / 64) index) [
    | inl at ↦
        let place : n + k % 64 ≡ k = omega (arith, low, at) in
        let all : is_marked known k ≡ true = f.waiting k (omega (arith, low, at)) ∙ lt-ltb k (length cells) (omega (arith, high)) in
        step k ∙ ap (λ x. x && allows index word k) all ∙ ap (λ t. cond t (bit_at word (k % 64) == 1) true) (eq-eqb (k / 64) index at)
        ∙ b.marked (k % 64) (omega (arith, place)) ∙ ap (λ j. is_some (cell j)) place ∙ ap (λ (c : Option ℤ). is_some c) (sym (same k (omega (arith, high))))
    | inr ne ↦ other k ne ∙ f.marked k (omega (arith, low, high, ne, h))
  ];
  waiting = λ k h. elim (cases_lt k (length cells)) [
    | inl more ↦ other k (λ e. omega (arith, low, high, h, more)) ∙ f.waiting k (omega (arith, high))
    | inr past ↦
        let none : nat_lt k (length cells) ≡ false = le-ltb k (length cells) past in
        step k ∙ ap (λ x. x && allows index word k) (f.waiting k (omega (arith, inside)) ∙ none) ∙ sym none
  ];
}
  where
    other : (k : ℕ) → k / 64 ≢ index → is_marked after k ≡ is_marked known k
    other k ne = step k ∙ ap (λ t. is_marked known k && cond t (bit_at word (k % 64) == 1) true) (ne_eqb (k / 64) index ne) ∙ and-true (is_marked known k)

pub block_none : (cell : ℕ → Option ℤ) (low high : ℕ) (out : List ℤ) (word : ℕ) → low ≡ high → BlockGathered cell low high out out word
block_none cell low high out word none = record { written = λ k h w. absurd (omega (arith, none)); before = λ k h. refl; after = λ k h. refl; marked = λ i h. absurd (omega (arith, none)) }

-- a word with one bit more at its low end
low_bit : (word : ℕ) (on : Bool) → (bit_at (2 * word + bool_byte on) 0 == 1) ≡ on
low_bit word true = let e : (2 * word + 1) % 2 ≡ 1 = omega arith in ap (λ b. eqb b 1) (bit_at_lowest (2 * word + 1) ∙ e)
low_bit word false = let e : (2 * word + 0) % 2 ≡ 0 = omega arith in ap (λ b. eqb b 1) (bit_at_lowest (2 * word + 0) ∙ e)

next_bit : (word i : ℕ) (on : Bool) → bit_at (2 * word + bool_byte on) (suc i) ≡ bit_at word i
next_bit word i true = let e : (2 * word + 1) / 2 ≡ word = omega arith in bit_at-suc (2 * word + 1) i ∙ ap (λ w. bit_at w i) e
next_bit word i false = let e : (2 * word + 0) / 2 ≡ word = omega arith in bit_at-suc (2 * word + 0) i ∙ ap (λ w. bit_at w i) e

-- one more place before a block
pub block_before : (cell : ℕ → Option ℤ) (p high word : ℕ) (old new : List ℤ) (v : ℤ) (on : Bool) → BlockGathered cell (p + 1) high old new word → p < high → p < length new →
    v ≡ unwrap_or (cell p) (pos 0) → on ≡ is_some (cell p) → BlockGathered cell p high old (set new p v) (2 * word + bool_byte on)
block_before cell p high word old new v on b short room here there = record {
  written = λ k h w. elim (cases_eq k p) [
    | inl same ↦ subst (λ j. get_or (set new p v) j (pos 0) ≡ unwrap_or (cell j) (pos 0)) (sym same) (get_or-set_same new p v (pos 0) room ∙ here)
    | inr ne ↦ get_or-set_other new p k v (pos 0) ne ∙ b.written k (omega (arith, ne)) w
  ];
  before = λ k h. get_or-set_other new p k v (pos 0) (λ e. omega arith) ∙ b.before k (omega arith);
  after = λ k h. get_or-set_other new p k v (pos 0) (λ e. omega arith) ∙ b.after k h;
  marked = λ i h. bits i h;
}
  where
    bits : (i : ℕ) → p + i < high → (bit_at (2 * word + bool_byte on) i == 1) ≡ is_some (cell (p + i))
    bits zero h = let at : p ≡ p + 0 = omega arith in low_bit word on ∙ there ∙ ap (λ j. is_some (cell j)) at
    bits (suc i) h = let at : p + 1 + i ≡ p + suc i = omega arith in ap (λ w. eqb w 1) (next_bit word i on) ∙ b.marked i (omega arith) ∙ ap (λ j. is_some (cell j)) at

-- a bit put into a word at a place that is free
or_same : (w r : ℕ) (on : Bool) → r < 64 → bit_at w r ≡ 0 → (bit_at (bit_or w (bool_byte on * 2 ^ r % 2 ^ 64)) r == 1) ≡ on
or_same w r true h free = ap (λ v. eqb v 1) (bit_at_set_same w64 w r h)
or_same w r false h free =
    let none : 0 * 2 ^ r % 2 ^ 64 ≡ 0 = omega arith in
    ap (λ x. eqb (bit_at (bit_or w x) r) 1) none ∙ ap (λ v. eqb v 1) (bit_at_or w 0 r ∙ ap (λ v. max v (bit_at 0 r)) free ∙ ap (λ v. max 0 v) (bit_at-zero r))

or_other : (w r i : ℕ) (on : Bool) → r < 64 → i ≢ r → bit_at (bit_or w (bool_byte on * 2 ^ r % 2 ^ 64)) i ≡ bit_at w i
or_other w r i true h ne = bit_at_set_other w64 w r h i ne
or_other w r i false h ne =
    let none : 0 * 2 ^ r % 2 ^ 64 ≡ 0 = omega arith in
    let plain : max (bit_at w i) 0 ≡ bit_at w i = omega arith in
    ap (λ x. bit_at (bit_or w x) i) none ∙ bit_at_or w 0 i ∙ ap (λ v. max (bit_at w i) v) (bit_at-zero i) ∙ plain

-- no bit of a word is set for the places from p on
pub record IsFree (low p word : ℕ) : Type 0 where
  pub zeros : (i : ℕ) → p ≤ low + i → bit_at word i ≡ 0

-- one more place behind a block
pub block_behind : (cell : ℕ → Option ℤ) (low p word : ℕ) (old new : List ℤ) (v : ℤ) (on : Bool) → BlockGathered cell low p old new word → IsFree low p word → low ≤ p → p - low < 64 → p < length new →
    v ≡ unwrap_or (cell p) (pos 0) → on ≡ is_some (cell p) →
    BlockGathered cell low (p + 1) old (set new p v) (bit_or word (bool_byte on * 2 ^ (p - low) % 2 ^ 64)) × IsFree low (p + 1) (bit_or word (bool_byte on * 2 ^ (p - low) % 2 ^ 64))
block_behind cell low p word old new v on b free up few room here there = (
  record {
    written = λ k h w. elim (cases_eq k p) [
      | inl same ↦ subst (λ j. get_or (set new p v) j (pos 0) ≡ unwrap_or (cell j) (pos 0)) (sym same) (get_or-set_same new p v (pos 0) room ∙ here)
      | inr ne ↦ get_or-set_other new p k v (pos 0) ne ∙ b.written k h (omega (arith, ne))
    ];
    before = λ k h. get_or-set_other new p k v (pos 0) (λ e. omega arith) ∙ b.before k h;
    after = λ k h. get_or-set_other new p k v (pos 0) (λ e. omega arith) ∙ b.after k (omega arith);
    marked = λ i h. elim (cases_eq i (p - low)) [
      | inl same ↦
          let at : p ≡ low + i = omega arith in
          ap (λ j. eqb (bit_at (bit_or word (bool_byte on * 2 ^ (p - low) % 2 ^ 64)) j) 1) same ∙ or_same word (p - low) on few (free.zeros (p - low) (omega arith)) ∙ there ∙ ap (λ j. is_some (cell j)) at
      | inr ne ↦ ap (λ w. eqb w 1) (or_other word (p - low) i on few ne) ∙ b.marked i (omega (arith, ne))
    ];
  },
  record { zeros = λ i h. or_other word (p - low) i on few (λ e. omega arith) ∙ free.zeros i (omega arith) },
)

-- lists that agree from n on
same_rest : (n : ℕ) (old new : List ℤ) → length new ≡ length old → ((k : ℕ) → n ≤ k → get_or new k (pos 0) ≡ get_or old k (pos 0)) → drop n new ≡ drop n old
same_rest n old new size same = ext_get_or (pos 0) (drop n new) (drop n old) (length-drop n new ∙ ap (λ m. m - n) size ∙ sym (length-drop n old))
    (λ i h. get_or-drop n new i (pos 0) ∙ same (n + i) (omega arith) ∙ sym (get_or-drop n old i (pos 0)))

pub filled_all : (cells : List (Option ℤ)) (n : ℕ) (old new : List ℤ) (known : List Bool) → n ≡ length cells → Filled cells n old new known → Gathered cells old new known
filled_all cells n old new known all f = record {
  written = λ k h. f.written k (omega arith);
  rest = ap (λ m. drop m new) (sym all) ∙ same_rest n old new f.size f.rest ∙ ap (λ m. drop m old) all;
  marked = λ k. elim (cases_lt k n) [
    | inl low ↦ f.marked k low
    | inr high ↦ f.waiting k high ∙ le-ltb k (length cells) (omega arith) ∙ sym (ap (λ (c : Option ℤ). is_some c) (get_or_past cells k None (omega arith)))
  ];
}

-- no cell is null: all places up to their number are marked
pub all_known : (cells : List (Option ℤ)) (n : ℕ) (xs old new : List ℤ) (known : List Bool) → n ≡ length cells → length new ≡ length old →
    ((k : ℕ) → k < n → cell_at cells k ≡ Some (get_or xs k (pos 0))) → ((k : ℕ) → k < n → get_or new k (pos 0) ≡ get_or xs k (pos 0)) → ((k : ℕ) → n ≤ k → get_or new k (pos 0) ≡ get_or old k (pos 0)) →
    ((k : ℕ) → is_marked known k ≡ nat_lt k n) → Gathered cells old new known
all_known cells n xs old new known all size cell written rest marks = filled_all cells n old new known all (record {
  size = size;
  written = λ k h. written k h ∙ ap (λ (c : Option ℤ). unwrap_or c (pos 0)) (sym (cell k h));
  rest = rest;
  marked = λ k h. marks k ∙ lt-ltb k n h ∙ ap (λ (c : Option ℤ). is_some c) (sym (cell k h));
  waiting = λ k h. marks k ∙ ap (nat_lt k) all;
})

-- cells that are not null, written over the front
pub front_known : (cells : List (Option ℤ)) (n : ℕ) (xs old : List ℤ) (known : List Bool) → n ≡ length cells → length xs ≡ n → n ≤ length old →
    ((k : ℕ) → k < n → cell_at cells k ≡ Some (get_or xs k (pos 0))) → ((k : ℕ) → is_marked known k ≡ nat_lt k n) → Gathered cells old (xs ++ drop n old) known
front_known cells n xs old known all size room cell marks =
    all_known cells n xs old (xs ++ drop n old) known all (omega (arith, length-append xs (drop n old), length-drop n old, size)) cell
    (λ k h. get_or_append_left xs (drop n old) (pos 0) k (omega (arith, size)))
    (λ k h. let at : n + (k - n) ≡ k = omega arith in get_or-append_right xs (drop n old) n k (pos 0) size h ∙ get_or-drop n old (k - n) (pos 0) ∙ ap (λ j. get_or old j (pos 0)) at)
    marks

-- a cell of a span
pub cell-span : (cells : List (Option ℤ)) (low n k : ℕ) → k < n → cell_at (take n (drop low cells)) k ≡ cell_at cells (low + k)
cell-span cells low n k h = get_or-take n (drop low cells) k None h ∙ get_or-drop low cells k None

pub length-span : {X : Type 0} (xs : List X) (low high : ℕ) → low ≤ high → high ≤ length xs → length (take (high - low) (drop low xs)) ≡ high - low
length-span xs low high up inside = omega (arith, length-take (high - low) (drop low xs), length-drop low xs)

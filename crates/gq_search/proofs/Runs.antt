-- The cursors and marks of groups that stand, as a list of groups.
use Rattle.std.proofs.Common.{◌≡◌, ℕ, zero, suc, ◌+◌, ◌-◌, ◌*◌, ◌/◌, ◌%◌, ◌<◌, ◌≤◌, min, Bool, true, false, cond, ltb, List, [], ◌∷◌, ◌++◌, length, get_or, map, take, refl, sym, ap, ◌∙◌, subst, arith, inl, inr}
use Rattle.std.specs.Prelude.{◌&&◌}
use Rattle.std.specs.List.{flat_map, filter}
use Rattle.std.proofs.lemmas.Bool.{cases_lt, lt-ltb, le-ltb, ltb-true}
use Rattle.std.proofs.lemmas.List.{append_assoc, append-nil, length-take-le, length-map}
use Rattle.gq_bits.specs.declared.TheConstants.{VECTOR}
use Rattle.gq_search.specs.declared.walker.Cursor.{Cursor}
use Rattle.gq_search.specs.Layouts.{numbers_from, numbers_in, Layout, piece_of, number_of, IsPlace, places_of, count, picks, live, has_one, cell}
use Rattle.gq_search.specs.Marked.{IsMarkedAt, kept_in}
use Rattle.gq_search.specs.Running.{keys_of, prefix, IsGroup, Runs, has_mark, selected, choices}
use Rattle.gq_search.proofs.Odometer.{IsKeyPart}

-- ---- one group more, or one less
pub runs-push : (l : Layout) (pre : List ℕ) (cs : List Cursor) (ms : List (List Bool)) (c : Cursor) (m : List Bool) → Runs l pre cs ms → IsGroup l (pre ++ keys_of cs) c m → Runs l pre (cs ++ c ∷ []) (ms ++ m ∷ [])
runs-push l pre [] [] c m r i = (subst (λ p. IsGroup l p c m) (append-nil pre) i, tt)
runs-push l pre [] (n ∷ ms) c m r i = absurd r
runs-push l pre (d ∷ cs) [] c m r i = absurd r
runs-push l pre (d ∷ cs) (n ∷ ms) c m r i = (r.0, runs-push l (pre ++ d.key ∷ []) cs ms c m r.1 (subst (λ p. IsGroup l p c m) (sym (append_assoc pre (d.key ∷ []) (keys_of cs))) i))

pub runs-split : (l : Layout) (pre : List ℕ) (cs : List Cursor) (ms : List (List Bool)) (c : Cursor) (m : List Bool) → length cs ≡ length ms → Runs l pre (cs ++ c ∷ []) (ms ++ m ∷ []) → Runs l pre cs ms × IsGroup l (pre ++ keys_of cs) c m
runs-split l pre [] [] c m e r = (tt, subst (λ p. IsGroup l p c m) (sym (append-nil pre)) r.0)
runs-split l pre [] (n ∷ ms) c m e r = absurd (omega arith)
runs-split l pre (d ∷ cs) [] c m e r = absurd (omega arith)
runs-split l pre (d ∷ cs) (n ∷ ms) c m e r =
    let rest = runs-split l (pre ++ d.key ∷ []) cs ms c m (omega arith) r.1 in
    ((r.0, rest.0), subst (λ p. IsGroup l p c m) (append_assoc pre (d.key ∷ []) (keys_of cs)) rest.1)

pub runs-keys : (l : Layout) (pre : List ℕ) (cs : List Cursor) (ms : List (List Bool)) → Runs l pre cs ms → IsKeyPart l pre (keys_of cs)
runs-keys l pre [] ms r = tt
runs-keys l pre (c ∷ cs) [] r = absurd r
runs-keys l pre (c ∷ cs) (m ∷ ms) r = (r.0.key_in, r.0.alive, runs-keys l (pre ++ c.key ∷ []) cs ms r.1)

-- ---- marks
-- the marks of a list of n are bits of its kept places
pub any-marked : (m : List Bool) (q : ℕ → Bool) (x : ℕ) → ((i : ℕ) → i < length m → get_or m i false ≡ q (x + i)) → has_mark m ≡ has_one (filter q (numbers_from x (length m)))
any-marked [] q x h = refl
any-marked (true ∷ m) q x h = ap (λ b. has_one (cond b (x ∷ filter q (numbers_from (x + 1) (length m))) (filter q (numbers_from (x + 1) (length m))))) (h 0 (omega arith) ∙ ap q (omega arith))
any-marked (false ∷ m) q x h =
    any-marked m q (x + 1) (λ i w. h (suc i) (omega arith) ∙ ap q (omega arith))
    ∙ ap (λ b. has_one (cond b (x ∷ filter q (numbers_from (x + 1) (length m))) (filter q (numbers_from (x + 1) (length m))))) (h 0 (omega arith) ∙ ap q (omega arith))

pub filter-cut : (q : ℕ → Bool) (size x n : ℕ) → filter (λ j. ltb j size && q j) (numbers_from x n) ≡ filter q (numbers_from x (min n (size - x)))
filter-cut q size x zero = let e : min 0 (size - x) ≡ 0 = omega arith in ap (λ m. filter q (numbers_from x m)) (sym e)
filter-cut q size x (suc n) = elim (cases_lt x size) [
  | inl low ↦ (let e : min (suc n) (size - x) ≡ suc (min n (size - (x + 1))) = omega arith in
      ap (λ b. cond (b && q x) (x ∷ filter (λ j. ltb j size && q j) (numbers_from (x + 1) n)) (filter (λ j. ltb j size && q j) (numbers_from (x + 1) n))) (lt-ltb x size low)
      ∙ ap (λ l. cond (q x) (x ∷ l) l) (filter-cut q size (x + 1) n)
      ∙ ap (λ m. filter q (numbers_from x m)) (sym e))
  | inr high ↦ (let e : min (suc n) (size - x) ≡ 0 = omega arith in let f : min n (size - (x + 1)) ≡ 0 = omega arith in
      ap (λ b. cond (b && q x) (x ∷ filter (λ j. ltb j size && q j) (numbers_from (x + 1) n)) (filter (λ j. ltb j size && q j) (numbers_from (x + 1) n))) (le-ltb x size high)
      ∙ filter-cut q size (x + 1) n
      ∙ ap (λ m. filter q (numbers_from (x + 1) m)) f ∙ sym (ap (λ m. filter q (numbers_from x m)) e))
]

pub filter-numbers : (p q : ℕ → Bool) (x n : ℕ) → ((j : ℕ) → x ≤ j → j < x + n → p j ≡ q j) → filter p (numbers_from x n) ≡ filter q (numbers_from x n)
filter-numbers p q x zero h = refl
filter-numbers p q x (suc n) h =
    ap (λ b. cond b (x ∷ filter p (numbers_from (x + 1) n)) (filter p (numbers_from (x + 1) n))) (h x (omega arith) (omega arith))
    ∙ ap (λ l. cond (q x) (x ∷ l) l) (filter-numbers p q (x + 1) n (λ j a b. h j (omega arith) (omega arith)))

true_and : (b : Bool) → (true && b) ≡ b
true_and b = refl

-- a mark of an in-range place is its test
pub mark-is : (l : Layout) (pre : List ℕ) (p : ℕ) (m : List Bool) (j : ℕ) → IsMarkedAt l pre p m → VECTOR * p ≤ j → j < VECTOR * p + VECTOR → j < l.size pre → get_or m (j - VECTOR * p) false ≡ l.keeps pre j
mark-is l pre p m j h a b c =
    let e : VECTOR * p + (j - VECTOR * p) ≡ j = omega arith in
    h.each (j - VECTOR * p) (omega arith) ∙ ap (λ i. ltb i (l.size pre) && l.keeps pre i) e ∙ ap (λ t. t && l.keeps pre j) (lt-ltb j (l.size pre) c)

pub live-piece : (l : Layout) (pre : List ℕ) (k : ℕ) (m : List Bool) → l.flat pre ≡ false → IsMarkedAt l pre k m → has_mark m ≡ live l pre k
live-piece l pre k m f h =
    any-marked m (λ j. ltb j (l.size pre) && l.keeps pre j) (VECTOR * k) (λ i w. h.each i (omega (arith, h.len)))
    ∙ ap has_one (filter-cut (l.keeps pre) (l.size pre) (VECTOR * k) (length m))
    ∙ ap (λ n. has_one (filter (l.keeps pre) (numbers_from (VECTOR * k) (min n (l.size pre - VECTOR * k))))) h.len
    ∙ ap (λ b. has_one (filter (l.keeps pre) (places_of b (l.size pre) k))) (sym f)

one-test : (q : ℕ → Bool) (k : ℕ) → q k ≡ has_one (filter q (k ∷ []))
one-test q k = elim (q k) as (λ b. b ≡ has_one (cond b (k ∷ []) [])) [ true ↦ refl | false ↦ refl ]

pub live-flat : (l : Layout) (pre : List ℕ) (k : ℕ) (m : List Bool) → l.flat pre ≡ true → k < l.size pre → IsMarkedAt l pre (k / VECTOR) m → get_or m (k % VECTOR) false ≡ live l pre k
live-flat l pre k m f h marked =
    let e : k % VECTOR ≡ k - VECTOR * (k / VECTOR) = omega arith in
    ap (λ i. get_or m i false) e
    ∙ mark-is l pre (k / VECTOR) m k marked (omega arith) (omega arith) h
    ∙ one-test (l.keeps pre) k
    ∙ ap (λ b. has_one (filter (l.keeps pre) (places_of b (l.size pre) k))) (sym f)

-- ---- the chunk that stands is the cell of its key
selected-is : (l : Layout) (pre : List ℕ) (f : Bool) (c : Cursor) (m : List Bool) → l.flat pre ≡ f → l.size pre ≡ c.size → c.key < count l pre → IsMarkedAt l pre (piece_of f c.key) m → selected f c m ≡ picks l pre c.key
selected-is l pre true c m f s key marked =
    let h : c.key < l.size pre = subst (λ b. c.key < numbers_in b (l.size pre)) f key in
    ap (λ b. cond b (c.key ∷ []) []) (
    (let e : c.key % VECTOR ≡ c.key - VECTOR * (c.key / VECTOR) = omega arith in ap (λ i. get_or m i false) e ∙ mark-is l pre (c.key / VECTOR) m c.key marked (omega arith) (omega arith) h))
    ∙ ap (λ b. filter (l.keeps pre) (places_of b (l.size pre) c.key)) (sym f)
selected-is l pre false c m f s key marked =
    ap (λ n. filter (λ j. get_or m (j % VECTOR) false) (numbers_from (VECTOR * c.key) (min VECTOR (n - VECTOR * c.key)))) (sym s)
    ∙ filter-numbers (λ j. get_or m (j % VECTOR) false) (l.keeps pre) (VECTOR * c.key) (min VECTOR (l.size pre - VECTOR * c.key))
    (λ j a b. (let e : j % VECTOR ≡ j - VECTOR * c.key = omega arith in ap (λ i. get_or m i false) e ∙ mark-is l pre c.key m j marked a (omega arith) (omega arith)))
    ∙ ap (λ b. filter (l.keeps pre) (places_of b (l.size pre) c.key)) (sym f)

pub choices-cell : (l : Layout) (pre : List ℕ) (cs : List Cursor) (ms : List (List Bool)) → Runs l pre cs ms → choices l pre cs ms ≡ cell l (length cs) pre (keys_of cs)
choices-cell l pre [] ms r = refl
choices-cell l pre (c ∷ cs) [] r = absurd r
choices-cell l pre (c ∷ cs) (m ∷ ms) r =
    let here : selected (l.flat pre) c m ≡ picks l pre c.key = selected-is l pre (l.flat pre) c m refl (sym r.0.size_is) r.0.key_in r.0.marked in
    ap (λ ws. flat_map (λ j. map (λ w. j ∷ w) ws) (selected (l.flat pre) c m)) (choices-cell l (pre ++ c.key ∷ []) cs ms r.1)
    ∙ ap (flat_map (λ j. map (λ w. j ∷ w) (cell l (length cs) (pre ++ c.key ∷ []) (keys_of cs)))) here

pub any-none : (m : List Bool) → ((k : ℕ) → get_or m k false ≡ false) → has_mark m ≡ false
any-none [] h = refl
any-none (true ∷ m) h = let e : true ≡ false = h 0 in cc
any-none (false ∷ m) h = any-none m (λ k. h (suc k))

pub any-at : (m : List Bool) (p : ℕ) → get_or m p false ≡ true → has_mark m ≡ true
any-at [] p h = cc
any-at (true ∷ m) p h = refl
any-at (false ∷ m) zero h = let e : false ≡ true = h in cc
any-at (false ∷ m) (suc p) h = any-at m p h

pub length-keys : (cs : List Cursor) (depth : ℕ) → depth ≤ length cs → length (prefix cs depth) ≡ depth
length-keys cs depth h = length-map (take depth cs) (λ (c : Cursor). c.key) ∙ length-take-le depth cs h

-- ---- a kept place of a number

and-both : (a b : Bool) → (a && b) ≡ true → (a ≡ true) × (b ≡ true)
and-both true true h = (refl, refl)
and-both true false h = (let e : false ≡ true = h in cc)
and-both false b h = (let e : false ≡ true = h in cc)

marked_low : (m : List Bool) (p : ℕ) → get_or m p false ≡ true → p < length m
marked_low [] p h = (let e : false ≡ true = h in cc)
marked_low (b ∷ m) zero h = omega arith
marked_low (b ∷ m) (suc p) h = omega (arith, marked_low m p h)

single-kept : (q : ℕ → Bool) (k : ℕ) → has_one (filter q (k ∷ [])) ≡ true → q k ≡ true
single-kept q k h = one-test q k ∙ h

pub flat-place : (l : Layout) (pre : List ℕ) (k : ℕ) → l.flat pre ≡ true → k < count l pre → live l pre k ≡ true → IsPlace l pre k k
flat-place l pre k f inside alive = record {
  number_is = ap (λ b. number_of b k) f;
  inside = subst (λ b. k < numbers_in b (l.size pre)) f inside;
  kept = single-kept (l.keeps pre) k (ap (λ b. has_one (filter (l.keeps pre) (places_of b (l.size pre) k))) (sym f) ∙ alive);
}

pub piece-place : (l : Layout) (pre : List ℕ) (k p : ℕ) (m : List Bool) → l.flat pre ≡ false → IsMarkedAt l pre (piece_of (l.flat pre) k) m → get_or m p false ≡ true → IsPlace l pre k (k * VECTOR + p)
piece-place l pre k p m f marked on =
    let short : p < VECTOR = omega (arith, marked_low m p on, marked.len) in
    let at : VECTOR * piece_of (l.flat pre) k + p ≡ k * VECTOR + p = omega (arith, ap (λ b. piece_of b k) f) in
    let both = and-both _ _ (ap (kept_in l pre) (sym at) ∙ sym (marked.each p short) ∙ on) in
    record {
      number_is = ap (λ b. number_of b (k * VECTOR + p)) f ∙ omega arith;
      inside = ltb-true (k * VECTOR + p) (l.size pre) both.0;
      kept = both.1;
    }

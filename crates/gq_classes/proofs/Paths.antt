-- The rows that levels make of fronts, and that each stands once.
use Rattle.std.proofs.Common.{◌≡◌, ◌∙◌, ap, ap₂, refl, sym, subst, ℕ, ◌+◌, ◌<◌, ◌≤◌, zero, suc, Some, List, [], ◌∷◌, ◌++◌, length, slice_get, slice_index_or, arith, length-append}
use Rattle.std.specs.List.{AllByRecursion}
use Rattle.std.proofs.Math.ListN.{get_or-append}
use Rattle.std.proofs.lemmas.List.{length-map}
use Rattle.std.proofs.lemmas.Option.{slice_get-get_or}
use Rattle.gq_base.specs.Values.{Val}
use Rattle.gq_classes.specs.Rows.{AreWide}
use Rattle.gq_classes.specs.declared.key.Key.{Key}
use Rattle.gq_classes.specs.declared.key.Key.TheVariants as key
use Rattle.gq_classes.specs.steps.Levels.{AreLevels, AreTexts, HasText, IsOnce, IsWithin, front_of, key_val, longer, rows_from, text_val}
use Rattle.gq_classes.proofs.Keys.{same_keys}
use Rattle.gq_classes.proofs.Once.{source}

abbrev pub Texts : Type 0
Texts = List (List ℕ)

abbrev pub Rows : Type 0
Rows = List (List Val)

-- ---- more texts, more fronts

pub get_front : {X : Type 0} (xs ys : List X) (n : ℕ) → n < length xs → slice_get (xs ++ ys) n ≡ slice_get xs n
get_front [] ys n lt = absurd (omega (arith, lt))
get_front (x ∷ xs) ys zero lt = refl
get_front (x ∷ xs) ys (suc n) lt = get_front xs ys n (omega (arith, lt))

same_val : (old more : Texts) (k : Key) → HasText (length old) k → key_val (old ++ more) k ≡ key_val old k
same_val old more (key.Text f n) lt = ap text_val (get_front old more n lt)
same_val old more (key.Null f) lt = refl
same_val old more (key.Flag f b) lt = refl
same_val old more (key.Int f z) lt = refl
same_val old more (key.Node f t r) lt = refl
same_val old more (key.Rel f t r) lt = refl

pub longer_texts : (old more : Texts) (fronts : Rows) (n : ℕ) (keys : List Key) → AllByRecursion (IsWithin (length old) n) keys → longer (old ++ more) fronts keys ≡ longer old fronts keys
longer_texts old more fronts n [] h = refl
longer_texts old more fronts n (k ∷ keys) (h, hs) =
    ap₂ (λ v l. (slice_index_or fronts (front_of k) [] ++ v ∷ []) ∷ l) (same_val old more k h.1) (longer_texts old more fronts n keys hs)

pub longer_fronts : (t : Texts) (fronts more : Rows) (m : ℕ) (keys : List Key) → AllByRecursion (IsWithin m (length fronts)) keys → longer t (fronts ++ more) keys ≡ longer t fronts keys
longer_fronts t fronts more m [] h = refl
longer_fronts t fronts more m (k ∷ keys) (h, hs) =
    ap₂ (λ f l. (f ++ key_val t k ∷ []) ∷ l) (get_or-append fronts more [] (front_of k) h.0) (longer_fronts t fronts more m keys hs)

pub length-longer : (t : Texts) (fronts : Rows) (keys : List Key) → length (longer t fronts keys) ≡ length keys
length-longer t fronts keys = length-map keys (λ k. slice_index_or fronts (front_of k) [] ++ key_val t k ∷ [])

pub rows_texts : (old more : Texts) (fronts : Rows) (ls : List (List Key)) → AreLevels (length old) (length fronts) ls → rows_from (old ++ more) fronts ls ≡ rows_from old fronts ls
rows_texts old more fronts [] h = refl
rows_texts old more fronts (keys ∷ ls) (h, once, hs) =
    ap (λ fs. rows_from (old ++ more) fs ls) (longer_texts old more fronts (length fronts) keys h)
    ∙ rows_texts old more (longer old fronts keys) ls (subst (λ n. AreLevels (length old) n ls) (sym (length-longer old fronts keys)) hs)

has_more : (m n : ℕ) (k : Key) → m ≤ n → HasText m k → HasText n k
has_more m n (key.Text f i) le lt = omega (arith, le, lt)
has_more m n (key.Null f) le lt = tt
has_more m n (key.Flag f b) le lt = tt
has_more m n (key.Int f z) le lt = tt
has_more m n (key.Node f t r) le lt = tt
has_more m n (key.Rel f t r) le lt = tt

pub more_within : (m n m' n' : ℕ) → m ≤ m' → n ≤ n' → (keys : List Key) → AllByRecursion (IsWithin m n) keys → AllByRecursion (IsWithin m' n') keys
more_within m n m' n' a b [] h = tt
more_within m n m' n' a b (k ∷ keys) (h, hs) = ((omega (arith, h.0, b), has_more m m' k a h.1), more_within m n m' n' a b keys hs)

pub more_levels : (m n m' n' : ℕ) → m ≤ m' → n ≤ n' → (ls : List (List Key)) → AreLevels m n ls → AreLevels m' n' ls
more_levels m n m' n' a b [] h = tt
more_levels m n m' n' a b (keys ∷ ls) (h, once, hs) = (more_within m n m' n' a b keys h, once, more_levels m (length keys) m' (length keys) a (omega arith) ls hs)

-- ---- rows stand once

abbrev pub AreOnce : Rows → Type 0
AreOnce rows = (i j : ℕ) (row : List Val) → slice_get rows i ≡ Some row → slice_get rows j ≡ Some row → i ≡ j

-- lists with one item more tell both apart
tails : {X : Type 0} → List X → List X
tails [] = []
tails (x ∷ xs) = xs

last_is : {X : Type 0} (xs ys : List X) (x y : X) → xs ++ x ∷ [] ≡ ys ++ y ∷ [] → (xs ≡ ys) × (x ≡ y)
last_is [] [] x y e = (refl, let is : x ≡ y = cc in is)
last_is [] (z ∷ []) x y e = absurd (let no : ⊥ = cc in no)
last_is [] (z ∷ w ∷ zs) x y e = absurd (let no : ⊥ = cc in no)
last_is (z ∷ []) [] x y e = absurd (let no : ⊥ = cc in no)
last_is (z ∷ w ∷ zs) [] x y e = absurd (let no : ⊥ = cc in no)
last_is (z ∷ zs) (w ∷ ws) x y e =
    let rest : zs ++ x ∷ [] ≡ ws ++ y ∷ [] = cc in
    let first : z ≡ w = cc in
    let is = last_is zs ws x y rest in
    (ap₂ (λ v l. v ∷ l) first is.0, is.1)

at_key : (P : Key → Type 0) (keys : List Key) (i : ℕ) (k : Key) → AllByRecursion P keys → slice_get keys i ≡ Some k → P k
at_key P [] i k h e = absurd (let no : ⊥ = cc in no)
at_key P (x ∷ xs) zero k h e = subst P (let is : x ≡ k = cc in is) h.0
at_key P (x ∷ xs) (suc i) k h e = at_key P xs i k h.1 e

once_longer : (t : Texts) → AreTexts t → (fronts : Rows) → AreOnce fronts → (keys : List Key) → AllByRecursion (IsWithin (length t) (length fronts)) keys → IsOnce keys → AreOnce (longer t fronts keys)
once_longer t texts fronts once keys within apart i j row a b =
    let f : Key → List Val = λ k. slice_index_or fronts (front_of k) [] ++ key_val t k ∷ [] in
    let p = source f keys i row a in
    let q = source f keys j row b in
    let wp = at_key (IsWithin (length t) (length fronts)) keys i p.0 within p.1 in
    let wq = at_key (IsWithin (length t) (length fronts)) keys j q.0 within q.1 in
    let is = last_is (slice_index_or fronts (front_of p.0) []) (slice_index_or fronts (front_of q.0) []) (key_val t p.0) (key_val t q.0) (p.2 ∙ sym q.2) in
    let front : front_of p.0 ≡ front_of q.0 =
    once (front_of p.0) (front_of q.0) (slice_index_or fronts (front_of q.0) []) (slice_get-get_or fronts (front_of p.0) [] wp.0 ∙ ap Some is.0) (slice_get-get_or fronts (front_of q.0) [] wq.0) in
    let key = same_keys t texts p.0 q.0 wp.1 wq.1 front is.1 in
    apart i j q.0 (p.1 ∙ ap Some key) q.1

pub once_rows : (t : Texts) → AreTexts t → (fronts : Rows) → AreOnce fronts → (ls : List (List Key)) → AreLevels (length t) (length fronts) ls → AreOnce (rows_from t fronts ls)
once_rows t texts fronts once [] h = once
once_rows t texts fronts once (keys ∷ ls) (h, apart, hs) =
    once_rows t texts (longer t fronts keys) (once_longer t texts fronts once keys h apart) ls (subst (λ n. AreLevels (length t) n ls) (sym (length-longer t fronts keys)) hs)

-- ---- rows are as long as there are levels

wide_longer : (t : Texts) (w : ℕ) (fronts : Rows) (m : ℕ) → AreWide w fronts → (keys : List Key) → AllByRecursion (IsWithin m (length fronts)) keys → AreWide (w + 1) (longer t fronts keys)
wide_longer t w fronts m wide [] h = tt
wide_longer t w fronts m wide (k ∷ keys) (h, hs) =
    let front = slice_index_or fronts (front_of k) [] in
    let long : length front ≡ w = at_row fronts (front_of k) front wide (slice_get-get_or fronts (front_of k) [] h.0) in
    (omega (arith, long, length-append front (key_val t k ∷ [])), wide_longer t w fronts m wide keys hs)
  where
    at_row : (rows : Rows) (i : ℕ) (row : List Val) → AreWide w rows → slice_get rows i ≡ Some row → length row ≡ w
    at_row [] i row h e = absurd (let no : ⊥ = cc in no)
    at_row (x ∷ xs) zero row h e = subst (λ r. length r ≡ w) (let is : x ≡ row = cc in is) h.0
    at_row (x ∷ xs) (suc i) row h e = at_row xs i row h.1 e

pub wide_rows : (t : Texts) (w m : ℕ) (fronts : Rows) → AreWide w fronts → (ls : List (List Key)) → AreLevels m (length fronts) ls → AreWide (w + length ls) (rows_from t fronts ls)
wide_rows t w m fronts wide [] h = subst (λ n. AreWide n fronts) (let n : w ≡ w + 0 = omega arith in n) wide
wide_rows t w m fronts wide (keys ∷ ls) (h, apart, hs) =
    subst (λ n. AreWide n (rows_from t (longer t fronts keys) ls)) (let n : w + 1 + length ls ≡ w + suc (length ls) = omega arith in n)
    (wide_rows t (w + 1) m (longer t fronts keys) (wide_longer t w fronts m wide keys h) ls (subst (λ n. AreLevels m n ls) (sym (length-longer t fronts keys)) hs))

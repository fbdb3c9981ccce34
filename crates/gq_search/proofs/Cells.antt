-- What is owed is, as a bag, the cells of the keys that are owed.
use Rattle.std.proofs.Common.{◌≡◌, ℕ, zero, suc, ◌+◌, ◌-◌, ◌*◌, ◌/◌, ◌<◌, ◌≤◌, min, Bool, true, false, cond, List, [], ◌∷◌, ◌++◌, length, map, refl, sym, ap, ◌∙◌, subst, arith, inl, inr}
use Rattle.std.specs.Prelude.{IsPermutation}
use Rattle.std.specs.Int.{div_ceil}
use Rattle.std.specs.List.{flat_map, filter, AllByRecursion}
use Rattle.std.proofs.lemmas.Bool.{cases_lt}
use Rattle.std.proofs.lemmas.List.{append_assoc, map-append, nil_from_length}
use Rattle.std.proofs.lemmas.List.Elements.{filter-append}
use Rattle.std.proofs.lemmas.List.Concat.{flat_map-append}
use Rattle.std.proofs.lemmas.List.Folds.{flat_map-map}
use Rattle.std.proofs.lemmas.List.Sorted.{IsPermutation-refl, IsPermutation-trans, IsPermutation-sym, IsPermutation-append, IsPermutation-append_comm, IsPermutation-map, length_permutation}
use Rattle.gq_bits.specs.declared.TheConstants.{VECTOR}
use Rattle.gq_search.specs.Layouts.{numbers_from, Layout, below, number_of, places_of, numbers_in, count, picks, has_one, walks, key_of, cell, keys, later, Spot, Before, At, Over, owed_walks, owed_keys}
use Rattle.gq_search.proofs.Odometer.{numbers_from-append, filter-map_cons_same, IsKeyPart}

pub same_bag : {X : Type 0} (xs ys : List X) → xs ≡ ys → IsPermutation xs ys
same_bag xs ys e = subst (λ l. IsPermutation xs l) e (IsPermutation-refl xs)

-- bags of each item
pub bag-flat_map : {X Y : Type 0} (f g : X → List Y) (xs : List X) → ((x : X) → IsPermutation (f x) (g x)) → IsPermutation (flat_map f xs) (flat_map g xs)
bag-flat_map f g [] h = IsPermutation-refl []
bag-flat_map f g (x ∷ xs) h = IsPermutation-append (f x) (g x) (flat_map f xs) (flat_map g xs) (h x) (bag-flat_map f g xs h)

pub bag-both : {X Y : Type 0} (f g : X → List Y) (xs : List X) → IsPermutation (flat_map f xs ++ flat_map g xs) (flat_map (λ x. f x ++ g x) xs)
bag-both f g [] = IsPermutation-refl []
bag-both f g (x ∷ xs) =
    let a = f x in
    let b = flat_map f xs in
    let c = g x in
    let d = flat_map g xs in
    let one = same_bag ((f x ++ flat_map f xs) ++ (g x ++ flat_map g xs)) (f x ++ (flat_map f xs ++ (g x ++ flat_map g xs))) (append_assoc a b (c ++ d)) in
    let swap = IsPermutation-trans (b ++ (c ++ d)) ((c ++ b) ++ d) (c ++ (b ++ d))
    (IsPermutation-trans (b ++ (c ++ d)) ((b ++ c) ++ d) ((c ++ b) ++ d) (same_bag _ _ (sym (append_assoc b c d))) (IsPermutation-append (b ++ c) (c ++ b) d d (IsPermutation-append_comm b c) (IsPermutation-refl d)))
    (same_bag _ _ (append_assoc c b d)) in
    let two = IsPermutation-append a a (b ++ (c ++ d)) (c ++ (b ++ d)) (IsPermutation-refl a) swap in
    let three = IsPermutation-append a a (c ++ (b ++ d)) (c ++ flat_map (λ x. f x ++ g x) xs) (IsPermutation-refl a) (IsPermutation-append c c (b ++ d) (flat_map (λ x. f x ++ g x) xs) (IsPermutation-refl c) (bag-both f g xs)) in
    let four = same_bag (f x ++ (g x ++ flat_map (λ x. f x ++ g x) xs)) ((f x ++ g x) ++ flat_map (λ x. f x ++ g x) xs) (sym (append_assoc a c (flat_map (λ x. f x ++ g x) xs))) in
    IsPermutation-trans _ _ _ (IsPermutation-trans _ _ _ one two) (IsPermutation-trans _ _ _ three four)

-- two loops may change places
pub bag-exchange : {X Y Z : Type 0} (f : X → Y → List Z) (xs : List X) (ys : List Y) → IsPermutation (flat_map (λ x. flat_map (λ y. f x y) ys) xs) (flat_map (λ y. flat_map (λ x. f x y) xs) ys)
bag-exchange f [] ys = same_bag _ _ (sym (none ys))
  where
    none : {Y Z : Type 0} (ys : List Y) → (let nothing : Y → List Z = λ y. [] in flat_map nothing ys ≡ [])
    none [] = refl
    none (y ∷ ys) = none ys
bag-exchange f (x ∷ xs) ys =
    IsPermutation-trans _ _ _
    (IsPermutation-append (flat_map (λ y. f x y) ys) (flat_map (λ y. f x y) ys) _ _ (IsPermutation-refl (flat_map (λ y. f x y) ys)) (bag-exchange f xs ys))
    (bag-both (λ y. f x y) (λ y. flat_map (λ x. f x y) xs) ys)

pub filter-flat_map : {X Y : Type 0} (p : Y → Bool) (f : X → List Y) (xs : List X) → filter p (flat_map f xs) ≡ flat_map (λ x. filter p (f x)) xs
filter-flat_map p f [] = refl
filter-flat_map p f (x ∷ xs) = filter-append p (f x) (flat_map f xs) ∙ ap (λ l. filter p (f x) ++ l) (filter-flat_map p f xs)

pub flat_map-flat_map : {X Y Z : Type 0} (f : Y → List Z) (h : X → List Y) (xs : List X) → flat_map f (flat_map h xs) ≡ flat_map (λ x. flat_map f (h x)) xs
flat_map-flat_map f h [] = refl
flat_map-flat_map f h (x ∷ xs) = flat_map-append f (h x) (flat_map h xs) ∙ ap (λ l. flat_map f (h x) ++ l) (flat_map-flat_map f h xs)

pub flat_map-same : {X Y : Type 0} (f h : X → List Y) (xs : List X) → ((x : X) → f x ≡ h x) → flat_map f xs ≡ flat_map h xs
flat_map-same f h xs e = λ i. flat_map (λ x. e x i) xs

pub map-flat_map : {X Y Z : Type 0} (f : Y → Z) (h : X → List Y) (xs : List X) → map f (flat_map h xs) ≡ flat_map (λ x. map f (h x)) xs
map-flat_map f h [] = refl
map-flat_map f h (x ∷ xs) = map-append f (h x) (flat_map h xs) ∙ ap (λ l. map f (h x) ++ l) (map-flat_map f h xs)

-- a range, by the numbers of its positions
numbers_in_pieces : (len p n : ℕ) → len ≤ VECTOR * (p + n) → ((m : ℕ) → n ≡ m + 1 → VECTOR * (p + m) < len) →
    numbers_from (VECTOR * p) (len - VECTOR * p) ≡ flat_map (λ q. numbers_from (VECTOR * q) (min VECTOR (len - VECTOR * q))) (numbers_from p n)
numbers_in_pieces len p zero h last = let e : len - VECTOR * p ≡ 0 = omega arith in ap (numbers_from (VECTOR * p)) e
numbers_in_pieces len p (suc n) h last =
    let rec : numbers_from (VECTOR * (p + 1)) (len - VECTOR * (p + 1)) ≡ flat_map (λ q. numbers_from (VECTOR * q) (min VECTOR (len - VECTOR * q))) (numbers_from (p + 1) n) =
    numbers_in_pieces len (p + 1) n (omega arith) (λ m e. omega (arith, last (m + 1) (omega arith))) in
    ap (numbers_from (VECTOR * p)) parts ∙ numbers_from-append (VECTOR * p) (min VECTOR (len - VECTOR * p)) (len - VECTOR * (p + 1))
    ∙ ap (λ l. numbers_from (VECTOR * p) (min VECTOR (len - VECTOR * p)) ++ l) (later_part ∙ rec)
  where
    parts : len - VECTOR * p ≡ min VECTOR (len - VECTOR * p) + (len - VECTOR * (p + 1))
    parts = omega arith

    later_part : numbers_from (VECTOR * p + min VECTOR (len - VECTOR * p)) (len - VECTOR * (p + 1)) ≡ numbers_from (VECTOR * (p + 1)) (len - VECTOR * (p + 1))
    later_part = elim (cases_lt (len - VECTOR * p) VECTOR) [
      | inl short ↦ (let e : len - VECTOR * (p + 1) ≡ 0 = omega arith in rw e refl)
      | inr long ↦ (let e : VECTOR * p + min VECTOR (len - VECTOR * p) ≡ VECTOR * (p + 1) = omega arith in ap (λ x. numbers_from x (len - VECTOR * (p + 1))) e)
    ]

pub by_numbers : (f : Bool) (n : ℕ) → numbers_from 0 n ≡ flat_map (places_of f n) (numbers_from 0 (numbers_in f n))
by_numbers true n = sym (singles 0 n)
  where
    singles : (x n : ℕ) → flat_map (λ k. k ∷ []) (numbers_from x n) ≡ numbers_from x n
    singles x zero = refl
    singles x (suc n) = ap (λ l. x ∷ l) (singles (x + 1) n)
by_numbers false n =
    let e : n - 0 ≡ n = omega arith in
    ap (numbers_from 0) (sym e) ∙ numbers_in_pieces n 0 (div_ceil n VECTOR) (omega arith) (λ m e. omega arith)

-- functions that agree on the positions of a number
kept-numbers : {Y : Type 0} (q : ℕ → Bool) (F G : ℕ → List Y) (x m : ℕ) → ((j : ℕ) → x ≤ j → j < x + m → F j ≡ G j) → flat_map F (filter q (numbers_from x m)) ≡ flat_map G (filter q (numbers_from x m))
kept-numbers q F G x zero e = refl
kept-numbers q F G x (suc m) e =
    let rest = kept-numbers q F G (x + 1) m (λ j a b. e j (omega arith) (omega arith)) in
    elim (q x) as (λ b. flat_map F (cond b (x ∷ filter q (numbers_from (x + 1) m)) (filter q (numbers_from (x + 1) m))) ≡ flat_map G (cond b (x ∷ filter q (numbers_from (x + 1) m)) (filter q (numbers_from (x + 1) m)))) [
      | true ↦ rw (e x (omega arith) (omega arith)) (ap (λ l. G x ++ l) rest)
      | false ↦ rest
    ]

pub flat_map-picks : {Y : Type 0} (q : ℕ → Bool) (f : Bool) (n k : ℕ) (F G : ℕ → List Y) → ((j : ℕ) → number_of f j ≡ k → F j ≡ G j) → flat_map F (filter q (places_of f n k)) ≡ flat_map G (filter q (places_of f n k))
flat_map-picks q true n k F G e = elim (q k) as (λ b. flat_map F (cond b (k ∷ []) []) ≡ flat_map G (cond b (k ∷ []) [])) [ true ↦ ap (λ l. l ++ []) (e k refl) | false ↦ refl ]
flat_map-picks q false n k F G e = kept-numbers q F G (VECTOR * k) (min VECTOR (n - VECTOR * k)) (λ j a b. e j (omega arith))

-- what a test of the key keeps of all walks is, as a bag, the cells of the keys that the test keeps
pub owed_in_cells : (l : Layout) (n : ℕ) (pre : List ℕ) (t : List ℕ → Bool) →
    IsPermutation (filter (λ w. t (key_of l pre w)) (walks l n pre)) (flat_map (cell l n pre) (filter t (keys l n pre)))
owed_in_cells l zero pre t = elim (t []) as (λ b. IsPermutation (cond b ([] ∷ []) []) (flat_map (cell l zero pre) (cond b ([] ∷ []) []))) [ true ↦ IsPermutation-refl ([] ∷ []) | false ↦ IsPermutation-refl [] ]
owed_in_cells l (suc n) pre t =
    let f : Bool = l.flat pre in
    let ks : List ℕ = numbers_from 0 (count l pre) in
    let W : ℕ → List (List ℕ) = λ k. walks l n (pre ++ k ∷ []) in
    let K : ℕ → List (List ℕ) = λ k. keys l n (pre ++ k ∷ []) in
    let H : ℕ → List (List ℕ) = λ j. map (λ w. j ∷ w) (W (number_of f j)) in
    let T : List ℕ → Bool = λ w. t (key_of l pre w) in
    let tk : ℕ → List ℕ → Bool = λ k r. t (k ∷ r) in
    let C : ℕ → List ℕ → List (List ℕ) = λ k r. cell l n (pre ++ k ∷ []) r in
    let KT : ℕ → List ℕ → Bool = λ k w. tk k (key_of l (pre ++ k ∷ []) w) in
    let split : filter T (flat_map H (filter (l.keeps pre) (numbers_from 0 (l.size pre)))) ≡ flat_map (λ k. filter T (flat_map H (picks l pre k))) ks =
    ap (λ r. filter T (flat_map H (filter (l.keeps pre) r))) (by_numbers f (l.size pre))
    ∙ ap (λ r. filter T (flat_map H r)) (filter-flat_map (l.keeps pre) (places_of f (l.size pre)) ks)
    ∙ ap (filter T) (flat_map-flat_map H (picks l pre) ks)
    ∙ filter-flat_map T (λ k. flat_map H (picks l pre k)) ks in
    let inner : (k : ℕ) → filter T (flat_map H (picks l pre k)) ≡ flat_map (λ j. map (λ w. j ∷ w) (filter (KT k) (W k))) (picks l pre k) =
    λ k. filter-flat_map T H (picks l pre k)
    ∙ flat_map-picks (l.keeps pre) f (l.size pre) k (λ j. filter T (H j)) (λ j. map (λ w. j ∷ w) (filter (KT k) (W k)))
    (λ j e. filter-map_cons_same T (KT (number_of f j)) j (W (number_of f j)) (λ w. refl) ∙ ap (λ m. map (λ w. j ∷ w) (filter (KT m) (W m))) e) in
    let swap : (k : ℕ) (ps : List ℕ) → IsPermutation (flat_map (λ j. map (λ w. j ∷ w) (filter (KT k) (W k))) ps) (flat_map (λ r. flat_map (λ j. map (λ w. j ∷ w) (C k r)) ps) (filter (tk k) (K k))) =
    λ k ps. IsPermutation-trans _ _ _
    (bag-flat_map (λ j. map (λ w. j ∷ w) (filter (KT k) (W k))) (λ j. flat_map (λ r. map (λ w. j ∷ w) (C k r)) (filter (tk k) (K k))) ps
    (λ j. IsPermutation-trans _ _ _ (IsPermutation-map (λ w. j ∷ w) _ _ (owed_in_cells l n (pre ++ k ∷ []) (tk k))) (same_bag _ _ (map-flat_map (λ w. j ∷ w) (C k) (filter (tk k) (K k))))))
    (bag-exchange (λ j r. map (λ w. j ∷ w) (C k r)) ps (filter (tk k) (K k))) in
    let cells : (k : ℕ) → IsPermutation (filter T (flat_map H (picks l pre k))) (flat_map (λ r. cell l (suc n) pre (k ∷ r)) (filter (tk k) (below l n pre k))) =
    λ k. IsPermutation-trans _ _ _ (same_bag _ _ (inner k))
    (live_or_not k (λ j. map (λ w. j ∷ w) (filter (KT k) (W k))) (C k) (tk k) (K k) (picks l pre k) (swap k (picks l pre k))) in
    let right : flat_map (cell l (suc n) pre) (filter t (flat_map (λ k. map (λ r. k ∷ r) (below l n pre k)) ks)) ≡ flat_map (λ k. flat_map (λ r. cell l (suc n) pre (k ∷ r)) (filter (tk k) (below l n pre k))) ks =
    ap (flat_map (cell l (suc n) pre)) (filter-flat_map t (λ k. map (λ r. k ∷ r) (below l n pre k)) ks)
    ∙ flat_map-flat_map (cell l (suc n) pre) (λ k. filter t (map (λ r. k ∷ r) (below l n pre k))) ks
    ∙ flat_map-same (λ k. flat_map (cell l (suc n) pre) (filter t (map (λ r. k ∷ r) (below l n pre k)))) (λ k. flat_map (λ r. cell l (suc n) pre (k ∷ r)) (filter (tk k) (below l n pre k))) ks
    (λ k. ap (flat_map (cell l (suc n) pre)) (filter-map_cons_same t (tk k) k (below l n pre k) (λ r. refl)) ∙ flat_map-map (cell l (suc n) pre) (λ r. k ∷ r) (filter (tk k) (below l n pre k))) in
    IsPermutation-trans _ _ _ (same_bag _ _ split)
    (IsPermutation-trans _ _ _ (bag-flat_map (λ k. filter T (flat_map H (picks l pre k))) (λ k. flat_map (λ r. cell l (suc n) pre (k ∷ r)) (filter (tk k) (below l n pre k))) ks cells) (same_bag _ _ (sym right)))
  where
    -- a number with no selected position has no walks, and its keys are left out
    live_or_not : (k : ℕ) (A : ℕ → List (List ℕ)) (C : List ℕ → List (List ℕ)) (tk : List ℕ → Bool) (K : List (List ℕ)) (ps : List ℕ) →
        IsPermutation (flat_map A ps) (flat_map (λ r. flat_map (λ j. map (λ w. j ∷ w) (C r)) ps) (filter tk K)) →
        IsPermutation (flat_map A ps) (flat_map (λ r. flat_map (λ j. map (λ w. j ∷ w) (C r)) ps) (filter tk (cond (has_one ps) K [])))
    live_or_not k A C tk K [] h = IsPermutation-refl []
    live_or_not k A C tk K (p ∷ ps) h = h

pub filter_true : {X : Type 0} (xs : List X) → filter (λ _. true) xs ≡ xs
filter_true [] = refl
filter_true (x ∷ xs) = ap (λ l. x ∷ l) (filter_true xs)

pub owed_bag : (l : Layout) (n : ℕ) (spot : Spot) → IsPermutation (owed_walks l n spot) (flat_map (cell l n []) (owed_keys l n spot))
owed_bag l n Over = IsPermutation-refl []
owed_bag l n (At k) = owed_in_cells l n [] (later k)
owed_bag l n Before =
    subst (λ ws. IsPermutation ws (flat_map (cell l n []) (keys l n []))) (filter_true (walks l n []))
    (subst (λ ks. IsPermutation (filter (λ _. true) (walks l n [])) (flat_map (cell l n []) ks)) (filter_true (keys l n [])) (owed_in_cells l n [] (λ _. true)))

-- one key taken is one cell taken
pub bag_taken : (l : Layout) (n : ℕ) (old new : Spot) (k : List ℕ) → owed_keys l n old ≡ k ∷ owed_keys l n new → IsPermutation (owed_walks l n old) (cell l n [] k ++ owed_walks l n new)
bag_taken l n old new k e =
    IsPermutation-trans _ _ _ (owed_bag l n old)
    (IsPermutation-trans _ _ _ (same_bag _ _ (ap (flat_map (cell l n [])) e))
    (IsPermutation-append (cell l n [] k) (cell l n [] k) _ _ (IsPermutation-refl (cell l n [] k)) (IsPermutation-sym _ _ (owed_bag l n new))))

pub bag_none : (l : Layout) (n : ℕ) (old : Spot) → owed_keys l n old ≡ [] → owed_walks l n old ≡ []
bag_none l n old e =
    nil_from_length (owed_walks l n old) (sym (length_permutation (owed_walks l n old) [] (subst (λ ks. IsPermutation (owed_walks l n old) (flat_map (cell l n []) ks)) e (owed_bag l n old))))

-- ---- a cell of a key is not empty
some-append : {X : Type 0} (xs ys : List X) → has_one xs ≡ true → has_one (xs ++ ys) ≡ true
some-append [] ys h = cc
some-append (x ∷ xs) ys h = refl

some-map : {X Y : Type 0} (f : X → Y) (xs : List X) → has_one xs ≡ true → has_one (map f xs) ≡ true
some-map f [] h = cc
some-map f (x ∷ xs) h = refl

some-product : (ps : List ℕ) (c : List (List ℕ)) → has_one ps ≡ true → has_one c ≡ true → has_one (flat_map (λ j. map (λ w. j ∷ w) c) ps) ≡ true
some-product [] c h i = cc
some-product (p ∷ ps) c h i = some-append (map (λ w. p ∷ w) c) _ (some-map (λ w. p ∷ w) c i)

pub cell-some : (l : Layout) (n : ℕ) (pre ks : List ℕ) → length ks ≡ n → IsKeyPart l pre ks → has_one (cell l n pre ks) ≡ true
cell-some l zero pre [] e v = refl
cell-some l zero pre (k ∷ ks) e v = absurd (omega arith)
cell-some l (suc n) pre [] e v = absurd (omega arith)
cell-some l (suc n) pre (k ∷ ks) e v = some-product (picks l pre k) (cell l n (pre ++ k ∷ []) ks) v.1 (cell-some l n (pre ++ k ∷ []) ks (omega arith) v.2)

-- ---- all walks of a cell have its key
pub all-append : {X : Type 0} (P : X → Type 0) (xs ys : List X) → AllByRecursion P xs → AllByRecursion P ys → AllByRecursion P (xs ++ ys)
all-append P [] ys a b = b
all-append P (x ∷ xs) ys a b = (a.0, all-append P xs ys a.1 b)

all-cons : (P : List ℕ → Type 0) (j : ℕ) (ws : List (List ℕ)) → AllByRecursion (λ w. P (j ∷ w)) ws → AllByRecursion P (map (λ w. j ∷ w) ws)
all-cons P j [] a = tt
all-cons P j (w ∷ ws) a = (a.0, all-cons P j ws a.1)

all-kept : {X : Type 0} (P : X → Type 0) (q : X → Bool) (xs : List X) → AllByRecursion P xs → AllByRecursion P (filter q xs)
all-kept P q [] a = tt
all-kept P q (x ∷ xs) a = elim (q x) as (λ b. AllByRecursion P (cond b (x ∷ filter q xs) (filter q xs))) [ true ↦ (a.0, all-kept P q xs a.1) | false ↦ all-kept P q xs a.1 ]

all-product : (P : List ℕ → Type 0) (Q : ℕ → Type 0) (c : List (List ℕ)) (ps : List ℕ) → ((j : ℕ) → Q j → AllByRecursion (λ w. P (j ∷ w)) c) → AllByRecursion Q ps → AllByRecursion P (flat_map (λ j. map (λ w. j ∷ w) c) ps)
all-product P Q c [] h a = tt
all-product P Q c (p ∷ ps) h a = all-append P (map (λ w. p ∷ w) c) _ (all-cons P p c (h p a.0)) (all-product P Q c ps h a.1)

pub all-weaker : {X : Type 0} (P Q : X → Type 0) (xs : List X) → ((x : X) → P x → Q x) → AllByRecursion P xs → AllByRecursion Q xs
all-weaker P Q [] h a = tt
all-weaker P Q (x ∷ xs) h a = (h x a.0, all-weaker P Q xs h a.1)

numbers-have : (k x m : ℕ) → VECTOR * k ≤ x → x + m ≤ VECTOR * k + VECTOR → AllByRecursion (λ j. j / VECTOR ≡ k) (numbers_from x m)
numbers-have k x zero a b = tt
numbers-have k x (suc m) a b = (omega arith, numbers-have k (x + 1) m (omega arith) (omega arith))

places-have : (f : Bool) (n k : ℕ) → AllByRecursion (λ j. number_of f j ≡ k) (places_of f n k)
places-have true n k = (refl, tt)
places-have false n k = numbers-have k (VECTOR * k) (min VECTOR (n - VECTOR * k)) (omega arith) (omega arith)

pub cell-key : (l : Layout) (n : ℕ) (pre ks : List ℕ) → AllByRecursion (λ w. key_of l pre w ≡ ks) (cell l n pre ks)
cell-key l zero pre [] = (refl, tt)
cell-key l zero pre (k ∷ ks) = tt
cell-key l (suc n) pre [] = tt
cell-key l (suc n) pre (k ∷ ks) =
    all-product (λ w. key_of l pre w ≡ k ∷ ks) (λ j. number_of (l.flat pre) j ≡ k) (cell l n (pre ++ k ∷ []) ks) (picks l pre k)
    (λ j e. all-weaker (λ w. key_of l (pre ++ k ∷ []) w ≡ ks) (λ w. key_of l pre (j ∷ w) ≡ k ∷ ks) (cell l n (pre ++ k ∷ []) ks)
    (λ w h. ap (λ m. m ∷ key_of l (pre ++ m ∷ []) w) e ∙ ap (λ r. k ∷ r) h) (cell-key l n (pre ++ k ∷ []) ks))
    (all-kept (λ j. number_of (l.flat pre) j ≡ k) (l.keeps pre) (places_of (l.flat pre) (l.size pre) k) (places-have (l.flat pre) (l.size pre) k))

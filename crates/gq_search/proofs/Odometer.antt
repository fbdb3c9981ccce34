-- What is owed while the groups stand at a prefix of a key, and how a search moves on it.
use Rattle.std.proofs.Common.{◌≡◌, ℕ, zero, suc, ◌+◌, ◌-◌, ◌<◌, ◌≤◌, Bool, true, false, cond, List, [], ◌∷◌, ◌++◌, length, map, refl, sym, ap, ◌∙◌, subst, arith}
use Rattle.std.specs.List.{flat_map, filter}
use Rattle.std.proofs.lemmas.List.{append_assoc, append-nil}
use Rattle.std.proofs.lemmas.Bool.{eq-eqb, ne_eqb, lt-ltb, le-ltb}
use Rattle.std.proofs.lemmas.List.Elements.{filter-append}
use Rattle.std.proofs.lemmas.List.Concat.{flat_map-append}
use Rattle.gq_search.specs.Layouts.{numbers_from, Layout, below, count, live, keys, later}

-- the keys where the next group begins at x
abbrev pub keys_from : Layout → ℕ → List ℕ → ℕ → List (List ℕ)
keys_from l n pre x = flat_map (λ k. map (λ ks. k ∷ ks) (below l n pre k)) (numbers_from x (count l pre - x))

-- the keys still to come where the first groups stand at cs and the next one is to begin at x
abbrev pub open_keys : Layout → ℕ → List ℕ → List ℕ → ℕ → List (List ℕ)
open_keys l zero pre cs x = []
open_keys l (suc n) pre [] x = keys_from l n pre x
open_keys l (suc n) pre (c ∷ cs) x = map (λ ks. c ∷ ks) (open_keys l n (pre ++ c ∷ []) cs x) ++ keys_from l n pre (c + 1)

pub keys_from-step : (l : Layout) (n : ℕ) (pre : List ℕ) (x : ℕ) → x < count l pre →
    keys_from l n pre x ≡ map (λ ks. x ∷ ks) (below l n pre x) ++ keys_from l n pre (x + 1)
keys_from-step l n pre x h =
    let e : count l pre - x ≡ suc (count l pre - (x + 1)) = omega arith in
    ap (λ m. flat_map (λ k. map (λ ks. k ∷ ks) (below l n pre k)) (numbers_from x m)) e

pub keys_from-live : (l : Layout) (n : ℕ) (pre : List ℕ) (x : ℕ) → x < count l pre → live l pre x ≡ true →
    keys_from l n pre x ≡ map (λ ks. x ∷ ks) (keys l n (pre ++ x ∷ [])) ++ keys_from l n pre (x + 1)
keys_from-live l n pre x h a =
    keys_from-step l n pre x h ∙ ap (λ b. map (λ ks. x ∷ ks) (cond b (keys l n (pre ++ x ∷ [])) []) ++ keys_from l n pre (x + 1)) a

pub keys_from-skip : (l : Layout) (n : ℕ) (pre : List ℕ) (x : ℕ) → x < count l pre → below l n pre x ≡ [] → keys_from l n pre x ≡ keys_from l n pre (x + 1)
keys_from-skip l n pre x h a = keys_from-step l n pre x h ∙ ap (λ kss. map (λ ks. x ∷ ks) kss ++ keys_from l n pre (x + 1)) a

pub keys_from-end : (l : Layout) (n : ℕ) (pre : List ℕ) (x : ℕ) → count l pre ≤ x → keys_from l n pre x ≡ []
keys_from-end l n pre x h =
    let e : count l pre - x ≡ 0 = omega arith in
    ap (λ m. flat_map (λ k. map (λ ks. k ∷ ks) (below l n pre k)) (numbers_from x m)) e

pub keys_from-all : (l : Layout) (n : ℕ) (pre : List ℕ) → keys_from l n pre 0 ≡ keys l (suc n) pre
keys_from-all l n pre =
    let e : count l pre - 0 ≡ count l pre = omega arith in
    ap (λ m. flat_map (λ k. map (λ ks. k ∷ ks) (below l n pre k)) (numbers_from 0 m)) e

-- all is owed before the first key
pub open_keys-start : (l : Layout) (n : ℕ) → 0 < n → open_keys l n [] [] 0 ≡ keys l n []
open_keys-start l zero h = absurd (omega arith)
open_keys-start l (suc n) h = keys_from-all l n []

-- a further group is opened
pub open_keys-push : (l : Layout) (n : ℕ) (pre cs : List ℕ) (x : ℕ) → length cs + 1 < n → x < count l (pre ++ cs) → live l (pre ++ cs) x ≡ true → open_keys l n pre cs x ≡ open_keys l n pre (cs ++ x ∷ []) 0
open_keys-push l zero pre cs x w h a = absurd (omega arith)
open_keys-push l (suc zero) pre [] x w h a = absurd (omega arith)
open_keys-push l (suc (suc n)) pre [] x w h a =
    let h' : x < count l pre = subst (λ p. x < count l p) (append-nil pre) h in
    let a' : live l pre x ≡ true = subst (λ p. live l p x ≡ true) (append-nil pre) a in
    keys_from-live l (suc n) pre x h' a' ∙ ap (λ r. map (λ ks. x ∷ ks) r ++ keys_from l (suc n) pre (x + 1)) (sym (keys_from-all l n (pre ++ x ∷ [])))
open_keys-push l (suc n) pre (c ∷ cs) x w h a =
    let h' : x < count l ((pre ++ c ∷ []) ++ cs) = subst (λ p. x < count l p) (sym (append_assoc pre (c ∷ []) cs)) h in
    let a' : live l ((pre ++ c ∷ []) ++ cs) x ≡ true = subst (λ p. live l p x ≡ true) (sym (append_assoc pre (c ∷ []) cs)) a in
    ap (λ r. map (λ ks. c ∷ ks) r ++ keys_from l n pre (c + 1)) (open_keys-push l n (pre ++ c ∷ []) cs x (omega arith) h' a')

-- the last group moves on: one key
pub open_keys-found : (l : Layout) (n : ℕ) (pre cs : List ℕ) (x : ℕ) → length cs + 1 ≡ n → x < count l (pre ++ cs) → live l (pre ++ cs) x ≡ true → open_keys l n pre cs x ≡ (cs ++ x ∷ []) ∷ open_keys l n pre cs (x + 1)
open_keys-found l zero pre cs x w h a = absurd (omega arith)
open_keys-found l (suc (suc n)) pre [] x w h a = absurd (omega arith)
open_keys-found l (suc zero) pre [] x w h a =
    let h' : x < count l pre = subst (λ p. x < count l p) (append-nil pre) h in
    let a' : live l pre x ≡ true = subst (λ p. live l p x ≡ true) (append-nil pre) a in
    keys_from-live l zero pre x h' a'
open_keys-found l (suc n) pre (c ∷ cs) x w h a =
    let h' : x < count l ((pre ++ c ∷ []) ++ cs) = subst (λ p. x < count l p) (sym (append_assoc pre (c ∷ []) cs)) h in
    let a' : live l ((pre ++ c ∷ []) ++ cs) x ≡ true = subst (λ p. live l p x ≡ true) (sym (append_assoc pre (c ∷ []) cs)) a in
    ap (λ r. map (λ ks. c ∷ ks) r ++ keys_from l n pre (c + 1)) (open_keys-found l n (pre ++ c ∷ []) cs x (omega arith) h' a')

-- the tests leave no position of a number: nothing is owed under it
pub open_keys-skip : (l : Layout) (n m : ℕ) (pre cs : List ℕ) (x : ℕ) → m + length cs + 1 ≡ n → x < count l (pre ++ cs) → below l m (pre ++ cs) x ≡ [] → open_keys l n pre cs x ≡ open_keys l n pre cs (x + 1)
open_keys-skip l zero m pre cs x e h a = refl
open_keys-skip l (suc n) m pre [] x e h a =
    let same : m ≡ n = omega (arith, e) in
    keys_from-skip l n pre x (subst (λ p. x < count l p) (append-nil pre) h) (subst (λ q. below l q pre x ≡ []) same (subst (λ p. below l m p x ≡ []) (append-nil pre) a))
open_keys-skip l (suc n) m pre (c ∷ cs) x e h a =
    let h' : x < count l ((pre ++ c ∷ []) ++ cs) = subst (λ p. x < count l p) (sym (append_assoc pre (c ∷ []) cs)) h in
    let a' : below l m ((pre ++ c ∷ []) ++ cs) x ≡ [] = subst (λ p. below l m p x ≡ []) (sym (append_assoc pre (c ∷ []) cs)) a in
    ap (λ r. map (λ ks. c ∷ ks) r ++ keys_from l n pre (c + 1)) (open_keys-skip l n m (pre ++ c ∷ []) cs x (omega (arith, e)) h' a')

-- past the list nothing is owed
pub open_keys-past : (l : Layout) (n : ℕ) (pre cs : List ℕ) (x : ℕ) → count l (pre ++ cs) ≤ x → open_keys l n pre cs x ≡ open_keys l n pre cs (x + 1)
open_keys-past l zero pre cs x h = refl
open_keys-past l (suc n) pre [] x h =
    let h' : count l pre ≤ x = subst (λ p. count l p ≤ x) (append-nil pre) h in
    keys_from-end l n pre x h' ∙ sym (keys_from-end l n pre (x + 1) (omega (arith, h')))
open_keys-past l (suc n) pre (c ∷ cs) x h =
    let h' : count l ((pre ++ c ∷ []) ++ cs) ≤ x = subst (λ p. count l p ≤ x) (sym (append_assoc pre (c ∷ []) cs)) h in
    ap (λ r. map (λ ks. c ∷ ks) r ++ keys_from l n pre (c + 1)) (open_keys-past l n (pre ++ c ∷ []) cs x h')

-- the last open group is done: the one before moves on
pub open_keys-pop : (l : Layout) (n : ℕ) (pre cs : List ℕ) (c x : ℕ) → length cs < n → count l (pre ++ (cs ++ c ∷ [])) ≤ x → open_keys l n pre (cs ++ c ∷ []) x ≡ open_keys l n pre cs (c + 1)
open_keys-pop l zero pre cs c x w h = absurd (omega arith)
open_keys-pop l (suc zero) pre [] c x w h = refl
open_keys-pop l (suc (suc n)) pre [] c x w h =
    ap (λ r. map (λ ks. c ∷ ks) r ++ keys_from l (suc n) pre (c + 1)) (keys_from-end l n (pre ++ c ∷ []) x h)
open_keys-pop l (suc n) pre (d ∷ cs) c x w h =
    let h' : count l ((pre ++ d ∷ []) ++ (cs ++ c ∷ [])) ≤ x = subst (λ p. count l p ≤ x) (sym (append_assoc pre (d ∷ []) (cs ++ c ∷ []))) h in
    ap (λ r. map (λ ks. d ∷ ks) r ++ keys_from l n pre (d + 1)) (open_keys-pop l n (pre ++ d ∷ []) cs c x (omega arith) h')

-- nothing is left
pub open_keys-done : (l : Layout) (n x : ℕ) → count l [] ≤ x → open_keys l n [] [] x ≡ []
open_keys-done l zero x h = refl
open_keys-done l (suc n) x h = keys_from-end l n [] x h

-- each number of cur is one that its group has, and selects something
abbrev pub IsKeyPart : Layout → List ℕ → List ℕ → Type 0
IsKeyPart l pre [] = Unit {0}
IsKeyPart l pre (c ∷ cs) = (c < count l pre) × (live l pre c ≡ true) × IsKeyPart l (pre ++ c ∷ []) cs

-- the keys after cur
abbrev pub after : Layout → ℕ → List ℕ → List ℕ → List (List ℕ)
after l zero pre cur = []
after l (suc n) pre [] = keys l (suc n) pre
after l (suc n) pre (c ∷ cs) = map (λ ks. c ∷ ks) (after l n (pre ++ c ∷ []) cs) ++ keys_from l n pre (c + 1)

pub after-open : (l : Layout) (n : ℕ) (pre cs : List ℕ) (c : ℕ) → length cs + 1 ≡ n → after l n pre (cs ++ c ∷ []) ≡ open_keys l n pre cs (c + 1)
after-open l zero pre cs c w = absurd (omega arith)
after-open l (suc (suc n)) pre [] c w = absurd (omega arith)
after-open l (suc zero) pre [] c w = refl
after-open l (suc n) pre (d ∷ cs) c w = ap (λ r. map (λ ks. d ∷ ks) r ++ keys_from l n pre (d + 1)) (after-open l n (pre ++ d ∷ []) cs c (omega arith))

pub numbers_from-append : (x a b : ℕ) → numbers_from x (a + b) ≡ numbers_from x a ++ numbers_from (x + a) b
numbers_from-append x zero b = same (omega arith) (omega arith)
  where
    same : {u v m n : ℕ} → m ≡ n → u ≡ v → numbers_from u m ≡ numbers_from v n
    same p q = cc
numbers_from-append x (suc a) b =
    let e : suc a + b ≡ suc (a + b) = omega arith in
    let f : x + 1 + a ≡ x + suc a = omega arith in
    ap (numbers_from x) e ∙ ap (λ l. x ∷ l) (numbers_from-append (x + 1) a b ∙ ap (λ y. numbers_from (x + 1) a ++ numbers_from y b) f)

pub filter-map_cons_all : (p : List ℕ → Bool) (k : ℕ) (l : List (List ℕ)) → ((ks : List ℕ) → p (k ∷ ks) ≡ true) → filter p (map (λ ks. k ∷ ks) l) ≡ map (λ ks. k ∷ ks) l
filter-map_cons_all p k [] h = refl
filter-map_cons_all p k (x ∷ l) h = rw (h x) (ap (λ m. (k ∷ x) ∷ m) (filter-map_cons_all p k l h))

pub filter-map_cons_none : (p : List ℕ → Bool) (k : ℕ) (l : List (List ℕ)) → ((ks : List ℕ) → p (k ∷ ks) ≡ false) → filter p (map (λ ks. k ∷ ks) l) ≡ []
filter-map_cons_none p k [] h = refl
filter-map_cons_none p k (x ∷ l) h = rw (h x) (filter-map_cons_none p k l h)

pub filter-map_cons_same : (p q : List ℕ → Bool) (k : ℕ) (l : List (List ℕ)) → ((ks : List ℕ) → p (k ∷ ks) ≡ q ks) → filter p (map (λ ks. k ∷ ks) l) ≡ map (λ ks. k ∷ ks) (filter q l)
filter-map_cons_same p q k [] h = refl
filter-map_cons_same p q k (x ∷ l) h =
    rw (h x) (elim (q x) as (λ b. cond b ((k ∷ x) ∷ filter p (map (λ ks. k ∷ ks) l)) (filter p (map (λ ks. k ∷ ks) l)) ≡ map (λ ks. k ∷ ks) (cond b (x ∷ filter q l) (filter q l))) [
      | true ↦ ap (λ m. (k ∷ x) ∷ m) (filter-map_cons_same p q k l h)
      | false ↦ filter-map_cons_same p q k l h
    ])

-- a filter of keys whose first number runs over a range, where it keeps all or nothing of each number
pub filter-range_all : (p : List ℕ → Bool) (f : ℕ → List (List ℕ)) (x n : ℕ) → ((k : ℕ) (ks : List ℕ) → x ≤ k → p (k ∷ ks) ≡ true) →
    filter p (flat_map (λ k. map (λ ks. k ∷ ks) (f k)) (numbers_from x n)) ≡ flat_map (λ k. map (λ ks. k ∷ ks) (f k)) (numbers_from x n)
filter-range_all p f x zero h = refl
filter-range_all p f x (suc n) h =
    filter-append p (map (λ ks. x ∷ ks) (f x)) (flat_map (λ k. map (λ ks. k ∷ ks) (f k)) (numbers_from (x + 1) n))
    ∙ ap (λ l. l ++ filter p (flat_map (λ k. map (λ ks. k ∷ ks) (f k)) (numbers_from (x + 1) n))) (filter-map_cons_all p x (f x) (λ ks. h x ks (omega arith)))
    ∙ ap (λ l. map (λ ks. x ∷ ks) (f x) ++ l) (filter-range_all p f (x + 1) n (λ k ks w. h k ks (omega arith)))

pub filter-range_none : (p : List ℕ → Bool) (f : ℕ → List (List ℕ)) (x n : ℕ) → ((k : ℕ) (ks : List ℕ) → k < x + n → p (k ∷ ks) ≡ false) →
    filter p (flat_map (λ k. map (λ ks. k ∷ ks) (f k)) (numbers_from x n)) ≡ []
filter-range_none p f x zero h = refl
filter-range_none p f x (suc n) h =
    filter-append p (map (λ ks. x ∷ ks) (f x)) (flat_map (λ k. map (λ ks. k ∷ ks) (f k)) (numbers_from (x + 1) n))
    ∙ ap (λ l. l ++ filter p (flat_map (λ k. map (λ ks. k ∷ ks) (f k)) (numbers_from (x + 1) n))) (filter-map_cons_none p x (f x) (λ ks. h x ks (omega arith)))
    ∙ filter-range_none p f (x + 1) n (λ k ks w. h k ks (omega arith))

-- the keys that come later than cur are those after it
pub filter-later : (l : Layout) (n : ℕ) (pre cur : List ℕ) → IsKeyPart l pre cur → filter (later cur) (keys l n pre) ≡ after l n pre cur
filter-later l zero pre [] v = refl
filter-later l zero pre (c ∷ cs) v = refl
filter-later l (suc n) pre [] v = filter-range_all (later []) (below l n pre) 0 (count l pre) (λ k ks w. refl)
filter-later l (suc n) pre (c ∷ cs) v =
    let f : ℕ → List (List ℕ) = below l n pre in
    let g : ℕ → List (List ℕ) = λ k. map (λ ks. k ∷ ks) (f k) in
    let p : List ℕ → Bool = later (c ∷ cs) in
    let e : count l pre ≡ c + suc (count l pre - (c + 1)) = omega (arith, v.0) in
    let split : numbers_from 0 (count l pre) ≡ numbers_from 0 c ++ (c ∷ numbers_from (c + 1) (count l pre - (c + 1))) =
    ap (numbers_from 0) e ∙ numbers_from-append 0 c (suc (count l pre - (c + 1))) ∙ ap (λ y. numbers_from 0 c ++ numbers_from y (suc (count l pre - (c + 1)))) (omega arith) in
    let low : filter p (flat_map g (numbers_from 0 c)) ≡ [] = filter-range_none p f 0 c (λ k ks w. later-below c cs k ks (omega arith)) in
    let here : filter p (g c) ≡ map (λ ks. c ∷ ks) (after l n (pre ++ c ∷ []) cs) =
    filter-map_cons_same p (later cs) c (f c) (λ ks. later-same c cs ks)
    ∙ ap (λ b. map (λ ks. c ∷ ks) (filter (later cs) (cond b (keys l n (pre ++ c ∷ [])) []))) v.1
    ∙ ap (map (λ ks. c ∷ ks)) (filter-later l n (pre ++ c ∷ []) cs v.2) in
    let high : filter p (flat_map g (numbers_from (c + 1) (count l pre - (c + 1)))) ≡ flat_map g (numbers_from (c + 1) (count l pre - (c + 1))) =
    filter-range_all p f (c + 1) (count l pre - (c + 1)) (λ k ks w. later-above c cs k ks (omega arith)) in
    ap (λ r. filter p (flat_map g r)) split
    ∙ ap (filter p) (flat_map-append g (numbers_from 0 c) (c ∷ numbers_from (c + 1) (count l pre - (c + 1))))
    ∙ filter-append p (flat_map g (numbers_from 0 c)) (g c ++ flat_map g (numbers_from (c + 1) (count l pre - (c + 1))))
    ∙ ap (λ r. r ++ filter p (g c ++ flat_map g (numbers_from (c + 1) (count l pre - (c + 1))))) low
    ∙ filter-append p (g c) (flat_map g (numbers_from (c + 1) (count l pre - (c + 1))))
    ∙ ap (λ r. r ++ filter p (flat_map g (numbers_from (c + 1) (count l pre - (c + 1))))) here
    ∙ ap (λ r. map (λ ks. c ∷ ks) (after l n (pre ++ c ∷ []) cs) ++ r) high
  where
    later-same : (c : ℕ) (cs ks : List ℕ) → later (c ∷ cs) (c ∷ ks) ≡ later cs ks
    later-same c cs ks = rw (eq-eqb c c refl) refl

    later-below : (c : ℕ) (cs : List ℕ) (k : ℕ) (ks : List ℕ) → k < c → later (c ∷ cs) (k ∷ ks) ≡ false
    later-below c cs k ks h = rw (ne_eqb c k (λ e. absurd (omega arith)), le-ltb c k (omega arith)) refl

    later-above : (c : ℕ) (cs : List ℕ) (k : ℕ) (ks : List ℕ) → c < k → later (c ∷ cs) (k ∷ ks) ≡ true
    later-above c cs k ks h = rw (ne_eqb c k (λ e. absurd (omega arith)), lt-ltb c k h) refl

-- ---- how much of the search is left
pub sum_from : (ℕ → ℕ) → ℕ → ℕ → ℕ
sum_from f x zero = 0
sum_from f x (suc m) = f x + sum_from f (x + 1) m

abbrev pub tree : Layout → ℕ → List ℕ → ℕ
tree l zero pre = 1
tree l (suc n) pre = 2 + sum_from (λ k. tree l n (pre ++ k ∷ [])) 0 (count l pre)

abbrev pub left : Layout → ℕ → List ℕ → List ℕ → ℕ → ℕ
left l zero pre cs x = 0
left l (suc n) pre [] x = sum_from (λ k. tree l n (pre ++ k ∷ [])) x (count l pre - x)
left l (suc n) pre (c ∷ cs) x = left l n (pre ++ c ∷ []) cs x + 1 + sum_from (λ k. tree l n (pre ++ k ∷ [])) (c + 1) (count l pre - (c + 1))

sum_from-none : (f : ℕ → ℕ) (x m : ℕ) → m ≡ 0 → sum_from f x m ≡ 0
unfolding sum_from
sum_from-none f x zero e = refl
sum_from-none f x (suc m) e = absurd (omega arith)

sum_from-step : (f : ℕ → ℕ) (x c : ℕ) → x < c → sum_from f x (c - x) ≡ f x + sum_from f (x + 1) (c - (x + 1))
unfolding sum_from
sum_from-step f x c h =
    let e : c - x ≡ suc (c - (x + 1)) = omega arith in
    ap (sum_from f x) e

tree-some : (l : Layout) (n : ℕ) (pre : List ℕ) → 0 < tree l n pre
tree-some l zero pre = omega arith
tree-some l (suc n) pre = omega arith

pub left-push : (l : Layout) (n : ℕ) (pre cs : List ℕ) (x : ℕ) → length cs + 1 < n → x < count l (pre ++ cs) → left l n pre (cs ++ x ∷ []) 0 < left l n pre cs x
left-push l zero pre cs x w h = absurd (omega arith)
left-push l (suc zero) pre [] x w h = absurd (omega arith)
left-push l (suc (suc n)) pre [] x w h =
    let h' : x < count l pre = subst (λ p. x < count l p) (append-nil pre) h in
    let e : count l (pre ++ x ∷ []) - 0 ≡ count l (pre ++ x ∷ []) = omega arith in
    omega (arith, sum_from-step (λ k. tree l (suc n) (pre ++ k ∷ [])) x (count l pre) h', ap (sum_from (λ k. tree l n ((pre ++ x ∷ []) ++ k ∷ [])) 0) e)
left-push l (suc n) pre (c ∷ cs) x w h =
    let h' : x < count l ((pre ++ c ∷ []) ++ cs) = subst (λ p. x < count l p) (sym (append_assoc pre (c ∷ []) cs)) h in
    omega (arith, left-push l n (pre ++ c ∷ []) cs x (omega arith) h')

pub left-skip : (l : Layout) (n : ℕ) (pre cs : List ℕ) (x : ℕ) → length cs < n → x < count l (pre ++ cs) → left l n pre cs (x + 1) < left l n pre cs x
left-skip l zero pre cs x w h = absurd (omega arith)
left-skip l (suc n) pre [] x w h =
    let h' : x < count l pre = subst (λ p. x < count l p) (append-nil pre) h in
    omega (arith, sum_from-step (λ k. tree l n (pre ++ k ∷ [])) x (count l pre) h', tree-some l n (pre ++ x ∷ []))
left-skip l (suc n) pre (c ∷ cs) x w h =
    let h' : x < count l ((pre ++ c ∷ []) ++ cs) = subst (λ p. x < count l p) (sym (append_assoc pre (c ∷ []) cs)) h in
    omega (arith, left-skip l n (pre ++ c ∷ []) cs x (omega arith) h')

pub left-pop : (l : Layout) (n : ℕ) (pre cs : List ℕ) (c x : ℕ) → length cs + 1 < n → count l (pre ++ (cs ++ c ∷ [])) ≤ x → left l n pre cs (c + 1) < left l n pre (cs ++ c ∷ []) x
left-pop l zero pre cs c x w h = absurd (omega arith)
left-pop l (suc zero) pre [] c x w h = absurd (omega arith)
left-pop l (suc (suc n)) pre [] c x w h =
    omega (arith, sum_from-none (λ k. tree l n ((pre ++ c ∷ []) ++ k ∷ [])) x (count l (pre ++ c ∷ []) - x) (omega arith))
left-pop l (suc n) pre (d ∷ cs) c x w h =
    let h' : count l ((pre ++ d ∷ []) ++ (cs ++ c ∷ [])) ≤ x = subst (λ p. count l p ≤ x) (sym (append_assoc pre (d ∷ []) (cs ++ c ∷ []))) h in
    omega (arith, left-pop l n (pre ++ d ∷ []) cs c x (omega arith) h')

pub left-past : (l : Layout) (n : ℕ) (pre cs : List ℕ) (x : ℕ) → count l (pre ++ cs) ≤ x → left l n pre cs (x + 1) ≤ left l n pre cs x
left-past l zero pre cs x h = omega arith
left-past l (suc n) pre [] x h =
    let h' : count l pre ≤ x = subst (λ p. count l p ≤ x) (append-nil pre) h in
    omega (arith, sum_from-none (λ k. tree l n (pre ++ k ∷ [])) (x + 1) (count l pre - (x + 1)) (omega (arith, h')))
left-past l (suc n) pre (c ∷ cs) x h =
    let h' : count l ((pre ++ c ∷ []) ++ cs) ≤ x = subst (λ p. count l p ≤ x) (sym (append_assoc pre (c ∷ []) cs)) h in
    omega (arith, left-past l n (pre ++ c ∷ []) cs x h')

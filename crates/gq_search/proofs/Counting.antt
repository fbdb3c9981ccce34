-- The keys of walks: each once, in order.
use Rattle.std.proofs.Common.{◌≡◌, ℕ, zero, suc, ◌+◌, ◌<◌, ◌≤◌, Bool, true, false, cond, List, [], ◌∷◌, ◌++◌, length, map, refl, ◌∙◌, arith}
use Rattle.std.specs.List.{flat_map, AllByRecursion}
use Rattle.std.proofs.lemmas.Bool.{eq-eqb, ne_eqb, lt-ltb}
use Rattle.gq_search.specs.Layouts.{numbers_from, Layout, below, count, live, keys, later}
use Rattle.gq_search.specs.Law.{Rises}
use Rattle.gq_search.proofs.Odometer.{IsKeyPart}
use Rattle.gq_search.proofs.Cells.{all-append, all-weaker}

pub all-numbers : {X : Type 0} (P : X → Type 0) (F : ℕ → List X) (x m : ℕ) → ((k : ℕ) → x ≤ k → k < x + m → AllByRecursion P (F k)) → AllByRecursion P (flat_map F (numbers_from x m))
all-numbers P F x zero h = tt
all-numbers P F x (suc m) h = all-append P (F x) (flat_map F (numbers_from (x + 1) m)) (h x (omega arith) (omega arith)) (all-numbers P F (x + 1) m (λ k a b. h k (omega arith) (omega arith)))

pub all-under : (P : List ℕ → Type 0) (k : ℕ) (kss : List (List ℕ)) → AllByRecursion (λ r. P (k ∷ r)) kss → AllByRecursion P (map (λ r. k ∷ r) kss)
all-under P k [] a = tt
all-under P k (r ∷ kss) a = (a.0, all-under P k kss a.1)

all-below : (P : List ℕ → Type 0) (b : Bool) (kss : List (List ℕ)) → (b ≡ true → AllByRecursion P kss) → AllByRecursion P (cond b kss [])
all-below P true kss h = h refl
all-below P false kss h = tt

-- each key selects something in each group
pub keys-live : (l : Layout) (n : ℕ) (pre : List ℕ) → AllByRecursion (λ ks. (length ks ≡ n) × IsKeyPart l pre ks) (keys l n pre)
keys-live l zero pre = ((refl, tt), tt)
keys-live l (suc n) pre =
    all-numbers (λ ks. (length ks ≡ suc n) × IsKeyPart l pre ks) (λ k. map (λ r. k ∷ r) (below l n pre k)) 0 (count l pre) (λ k a h.
    all-under (λ ks. (length ks ≡ suc n) × IsKeyPart l pre ks) k (below l n pre k)
    (all-below (λ r. (length (k ∷ r) ≡ suc n) × IsKeyPart l pre (k ∷ r)) (live l pre k) (keys l n (pre ++ k ∷ []))
    (λ e. all-weaker (λ r. (length r ≡ n) × IsKeyPart l (pre ++ k ∷ []) r) (λ r. (length (k ∷ r) ≡ suc n) × IsKeyPart l pre (k ∷ r)) (keys l n (pre ++ k ∷ []))
    (λ r p. (omega (arith, p.0), (omega arith, e, p.1))) (keys-live l n (pre ++ k ∷ [])))))

-- ---- each key once: each is before all that follow it
rises-append : (xs ys : List (List ℕ)) → Rises xs → Rises ys → AllByRecursion (λ x. AllByRecursion (λ b. later x b ≡ true) ys) xs → Rises (xs ++ ys)
rises-append [] ys a b h = b
rises-append (x ∷ xs) ys a b h = (all-append (λ b. later x b ≡ true) xs ys a.0 h.0, rises-append xs ys a.1 b h.1)

later-same : (c : ℕ) (cs ks : List ℕ) → later (c ∷ cs) (c ∷ ks) ≡ later cs ks
later-same c cs ks = rw (eq-eqb c c refl) refl

later-above : (c : ℕ) (cs : List ℕ) (k : ℕ) (ks : List ℕ) → c < k → later (c ∷ cs) (k ∷ ks) ≡ true
later-above c cs k ks h = rw (ne_eqb c k (λ e. absurd (omega arith)), lt-ltb c k h) refl

rises-under : (k : ℕ) (kss : List (List ℕ)) → Rises kss → Rises (map (λ r. k ∷ r) kss)
rises-under k [] a = tt
rises-under k (r ∷ kss) a = (all-under (λ b. later (k ∷ r) b ≡ true) k kss (all-weaker (λ b. later r b ≡ true) (λ b. later (k ∷ r) (k ∷ b) ≡ true) kss (λ b h. later-same k r b ∙ h) a.0), rises-under k kss a.1)

all-any : {X : Type 0} (P : X → Type 0) (xs : List X) → ((x : X) → P x) → AllByRecursion P xs
all-any P [] h = tt
all-any P (x ∷ xs) h = (h x, all-any P xs h)

pub rises-numbers : (F : ℕ → List (List ℕ)) (x m : ℕ) → ((k : ℕ) → Rises (F k)) → Rises (flat_map (λ k. map (λ r. k ∷ r) (F k)) (numbers_from x m))
rises-numbers F x zero h = tt
rises-numbers F x (suc m) h =
    rises-append (map (λ r. x ∷ r) (F x)) (flat_map (λ k. map (λ r. k ∷ r) (F k)) (numbers_from (x + 1) m)) (rises-under x (F x) (h x)) (rises-numbers F (x + 1) m h)
    (all-under (λ a. AllByRecursion (λ b. later a b ≡ true) (flat_map (λ k. map (λ r. k ∷ r) (F k)) (numbers_from (x + 1) m))) x (F x)
    (all-any (λ r. AllByRecursion (λ b. later (x ∷ r) b ≡ true) (flat_map (λ k. map (λ r. k ∷ r) (F k)) (numbers_from (x + 1) m))) (F x)
    (λ r. all-numbers (λ b. later (x ∷ r) b ≡ true) (λ k. map (λ r. k ∷ r) (F k)) (x + 1) m
    (λ k a b. all-under (λ c. later (x ∷ r) c ≡ true) k (F k) (all-any (λ s. later (x ∷ r) (k ∷ s) ≡ true) (F k) (λ s. later-above x r k s (omega arith)))))))

pub keys-rise : (l : Layout) (n : ℕ) (pre : List ℕ) → Rises (keys l n pre)
keys-rise l zero pre = (tt, tt)
keys-rise l (suc n) pre = rises-numbers (below l n pre) 0 (count l pre) (λ k. rises-below (live l pre k) (keys l n (pre ++ k ∷ [])) (keys-rise l n (pre ++ k ∷ [])))
  where
    rises-below : (b : Bool) (kss : List (List ℕ)) → Rises kss → Rises (cond b kss [])
    rises-below true kss h = h
    rises-below false kss h = tt

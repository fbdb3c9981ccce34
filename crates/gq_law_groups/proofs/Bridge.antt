-- The walks of a layout that follows a plan's groups mean what the plan means.
use Rattle.std.proofs.Common.{◌≡◌, ℕ, zero, suc, ◌+◌, ◌<◌, ◌≤◌, Bool, true, false, cond, Some, List, [], ◌∷◌, ◌++◌, map, filter, flat_map, length, get_or, refl, sym, ap, ◌∙◌, subst, arith, true≢false}
use Rattle.std.specs.Prelude.{IsPermutation}
use Rattle.std.proofs.lemmas.Bool.{eq-eqb}
use Rattle.std.proofs.lemmas.List.{append-nil}
use Rattle.std.proofs.lemmas.List.Sorted.{IsPermutation-refl, IsPermutation-trans, IsPermutation-map}
use Rattle.gq_base.specs.Plain.{Graph}
use Rattle.gq_base.specs.declared.RelId.{RelId}
use Rattle.gq_base.specs.declared.direction.Direction.{Direction}
use Rattle.gq_plan.specs.Allowed.{at_same}
use Rattle.gq_plan.specs.Meaning.{Partial, look, nothing, with_rel, with_all, agree, far, rels_from, mean, step}
use Rattle.gq_plan.specs.Plans.{Plan, Step, Scan, Extend, Close, Join, Keep, Differ, NoLoop, Single, Meet}
use Rattle.gq_plan.specs.declared.typed.Typed.{Typed}
use Rattle.gq_search.specs.Layouts.{numbers_from, Layout, number_of, walks, has_one}
use Rattle.gq_search.proofs.Cells.{map-flat_map, flat_map-same, flat_map-flat_map, bag-flat_map, same_bag}
use Rattle.gq_law_groups.specs.Groups.{Group, MakesGroup, AreGroups, checked, plan_of, first, follow, raw, own, reaches, kept, passes, raw_at, place, choices, decode, results, Follows}
use Rattle.gq_law_groups.specs.Law.{WalksMean}
use Rattle.gq_law_plans.proofs.Reordered.{permuted_flat_map}

-- ---- walks of the layout are choices by place
both-numbers : {Y : Type 0} (p q : ℕ → Bool) (F H : ℕ → List Y) (x n : ℕ) → ((j : ℕ) → x ≤ j → j < x + n → p j ≡ q j) → ((j : ℕ) → x ≤ j → j < x + n → p j ≡ true → F j ≡ H j) →
    flat_map F (filter p (numbers_from x n)) ≡ flat_map H (filter q (numbers_from x n))
both-numbers p q F H x zero h e = refl
both-numbers {Y} p q F H x (suc n) h e = go (p x) (q x) refl (h x (omega arith) (omega arith)) (e x (omega arith) (omega arith)) (both-numbers p q F H (x + 1) n (λ j a b. h j (omega arith) (omega arith)) (λ j a b. e j (omega arith) (omega arith)))
  where
    go : (b c : Bool) → p x ≡ b → p x ≡ c → (p x ≡ true → F x ≡ H x) → flat_map F (filter p (numbers_from (x + 1) n)) ≡ flat_map H (filter q (numbers_from (x + 1) n)) →
        flat_map F (cond b (x ∷ filter p (numbers_from (x + 1) n)) (filter p (numbers_from (x + 1) n))) ≡ flat_map H (cond c (x ∷ filter q (numbers_from (x + 1) n)) (filter q (numbers_from (x + 1) n)))
    go true true u v f rest = ap (λ l. l ++ flat_map F (filter p (numbers_from (x + 1) n))) (f u) ∙ ap (λ l. H x ++ l) rest
    go true false u v f rest = cc
    go false true u v f rest = cc
    go false false u v f rest = rest

pub walks_are_choices : (g : Graph) (y : Typed) (rows : ℕ → List Partial) (l : Layout) (gs : List Group) (pre : List ℕ) (i : ℕ) (a : Partial) → Follows g y rows l pre i gs a → walks l (length gs) pre ≡ choices g y rows i gs a
walks_are_choices g y rows l [] pre i a f = refl
walks_are_choices g y rows l (b ∷ gs) pre i a f =
    both-numbers (l.keeps pre) (λ j. passes g y b (raw_at g y (rows i) b a j)) (λ j. map (λ w. j ∷ w) (walks l (length gs) (pre ++ number_of (l.flat pre) j ∷ []))) (λ j. map (λ w. j ∷ w) (choices g y rows (i + 1) gs (place g y (rows i) b a j))) 0 (l.size pre)
    (λ j _ h. f.1 j (omega arith))
    (λ j _ h k. ap (map (λ w. j ∷ w)) (walks_are_choices g y rows l gs (pre ++ number_of (l.flat pre) j ∷ []) (i + 1) (place g y (rows i) b a j) (f.2 j (omega arith) k)))
    ∙ ap (λ n. flat_map (λ j. map (λ w. j ∷ w) (choices g y rows (i + 1) gs (place g y (rows i) b a j))) (filter (λ j. passes g y b (raw_at g y (rows i) b a j)) (numbers_from 0 n))) f.0

-- ---- choices decoded are results
by-places : {A B : Type 0} (F : A → List B) (q : A → Bool) (f : ℕ → A) (d : A) (xs : List A) (k : ℕ) → ((i : ℕ) → i < length xs → f (k + i) ≡ get_or xs i d) →
    flat_map (λ j. F (f j)) (filter (λ j. q (f j)) (numbers_from k (length xs))) ≡ flat_map F (filter q xs)
by-places F q f d [] k h = refl
by-places F q f d (x ∷ xs) k h =
    let e : k + 0 ≡ k = omega arith in
    let here : f k ≡ x = ap f (sym e) ∙ h 0 (omega arith) in
    let rest = by-places F q f d xs (k + 1) (λ i w. (let s : k + 1 + i ≡ k + suc i = omega arith in ap f s ∙ h (suc i) (omega arith))) in
    let inner : List ℕ = filter (λ j. q (f j)) (numbers_from (k + 1) (length xs)) in
    ap (λ b. flat_map (λ j. F (f j)) (cond b (k ∷ inner) inner)) (ap q here)
    ∙ elim (q x) as (λ b. flat_map (λ j. F (f j)) (cond b (k ∷ inner) inner) ≡ flat_map F (cond b (x ∷ filter q xs) (filter q xs))) [
      | true ↦ ap (λ v. F v ++ flat_map (λ j. F (f j)) inner) here ∙ ap (λ l. F x ++ l) rest
      | false ↦ rest
    ]

map-map-cons : {B : Type 0} (f : List ℕ → B) (j : ℕ) (ws : List (List ℕ)) → map f (map (λ w. j ∷ w) ws) ≡ map (λ w. f (j ∷ w)) ws
map-map-cons f j [] = refl
map-map-cons f j (w ∷ ws) = ap (λ l. f (j ∷ w) ∷ l) (map-map-cons f j ws)

-- a list of at most one item
small-first : {B : Type 0} (F : Partial → List B) (xs : List Partial) → length xs ≤ 1 → cond (has_one xs) (F (first xs)) [] ≡ flat_map F xs
small-first F [] h = refl
small-first F (x ∷ []) h = sym (append-nil (F x))
small-first F (x ∷ z ∷ xs) h = absurd (omega arith)

filter-as : {A B : Type 0} (F : A → List B) (q : A → Bool) (xs : List A) → flat_map F (filter q xs) ≡ flat_map (λ e. cond (q e) (F e) []) xs
filter-as F q [] = refl
filter-as F q (x ∷ xs) =
    elim (q x) as (λ b. flat_map F (cond b (x ∷ filter q xs) (filter q xs)) ≡ cond b (F x) [] ++ flat_map (λ e. cond (q e) (F e) []) xs) [
      | true ↦ ap (λ l. F x ++ l) (filter-as F q xs)
      | false ↦ filter-as F q xs
    ]

pub choices_are_results : (g : Graph) (y : Typed) (rows : ℕ → List Partial) (gs : List Group) (i : ℕ) (a : Partial) → AreGroups g y rows i gs → map (decode g y rows i gs a) (choices g y rows i gs a) ≡ results g y rows i gs a
choices_are_results g y rows [] i a h = refl
choices_are_results g y rows (b ∷ gs) i a h =
    let at : ℕ → Partial = raw_at g y (rows i) b a in
    let list : List ℕ = filter (λ j. passes g y b (raw_at g y (rows i) b a j)) (numbers_from 0 (length (raw g y (rows i) b.binds a))) in
    let go_on : Partial → List Partial = λ e. results g y rows (i + 1) gs (first (kept g y b e)) in
    let small : (e : Partial) → length (kept g y b e) ≤ 1 = λ e. kept-small (own g y b.binds e) (follow g y b.checks e) (h.1 e) in
    map-flat_map (decode g y rows i (b ∷ gs) a) (λ j. map (λ w. j ∷ w) (choices g y rows (i + 1) gs (place g y (rows i) b a j))) list
    ∙ flat_map-same (λ j. map (decode g y rows i (b ∷ gs) a) (map (λ w. j ∷ w) (choices g y rows (i + 1) gs (place g y (rows i) b a j)))) (λ j. results g y rows (i + 1) gs (place g y (rows i) b a j)) list
    (λ j. map-map-cons (decode g y rows i (b ∷ gs) a) j (choices g y rows (i + 1) gs (place g y (rows i) b a j)) ∙ choices_are_results g y rows gs (i + 1) (place g y (rows i) b a j) h.2)
    ∙ by-places go_on (passes g y b) (raw_at g y (rows i) b a) nothing (raw g y (rows i) b.binds a) 0 (λ n w. (let e : 0 + n ≡ n = omega arith in ap (raw_at g y (rows i) b a) e))
    ∙ filter-as go_on (passes g y b) (raw g y (rows i) b.binds a)
    ∙ flat_map-same (λ e. cond (passes g y b e) (go_on e) []) (λ e. flat_map (results g y rows (i + 1) gs) (kept g y b e)) (raw g y (rows i) b.binds a) (λ e. small-first (results g y rows (i + 1) gs) (kept g y b e) (small e))
    ∙ sym (flat_map-flat_map (results g y rows (i + 1) gs) (kept g y b) (raw g y (rows i) b.binds a))
  where
    kept-small : (c : Bool) (xs : List Partial) → length xs ≤ 1 → length (cond c xs []) ≤ 1
    kept-small true xs h = h
    kept-small false xs h = omega arith

-- ---- results are the plan's meaning
filter_true : {X : Type 0} (xs : List X) → filter (λ _. true) xs ≡ xs
filter_true [] = refl
filter_true (x ∷ xs) = ap (λ l. x ∷ l) (filter_true xs)

close-filter : (g : Graph) (y : Typed) (column : Bool) (x from to : ℕ) (way : Direction) (a : Partial) (rs : List RelId)
    → filter (own g y (Close column x from to way)) (map (λ r. with_rel x r a) rs) ≡ map (λ r. with_rel x r a) (filter (λ r. at_same (look a.nodes to) (far g way r)) rs)
close-filter g y column x from to way a [] = refl
close-filter g y column x from to way a (r ∷ rs) =
    ap (λ b. cond b (with_rel x r a ∷ filter (own g y (Close column x from to way)) (map (λ q. with_rel x q a) rs)) (filter (own g y (Close column x from to way)) (map (λ q. with_rel x q a) rs))) same
    ∙ go (at_same (look a.nodes to) (far g way r)) (close-filter g y column x from to way a rs)
  where
    same : own g y (Close column x from to way) (with_rel x r a) ≡ at_same (look a.nodes to) (far g way r)
    same = ap (λ b. reaches g y way (look a.nodes to) (cond b (Some r) (look a.rels x))) (eq-eqb x x refl)

    go : (b : Bool) → filter (own g y (Close column x from to way)) (map (λ q. with_rel x q a) rs) ≡ map (λ q. with_rel x q a) (filter (λ q. at_same (look a.nodes to) (far g way q)) rs)
        → cond b (with_rel x r a ∷ filter (own g y (Close column x from to way)) (map (λ q. with_rel x q a) rs)) (filter (own g y (Close column x from to way)) (map (λ q. with_rel x q a) rs))
        ≡ map (λ q. with_rel x q a) (cond b (r ∷ filter (λ q. at_same (look a.nodes to) (far g way q)) rs) (filter (λ q. at_same (look a.nodes to) (far g way q)) rs))
    go true e = ap (λ l. with_rel x r a ∷ l) e
    go false e = e

IsPermutation-filter : {A : Type 0} (q : A → Bool) (xs ys : List A) → IsPermutation xs ys → IsPermutation (filter q xs) (filter q ys)
IsPermutation-filter {A} q xs ys h = subst (λ l. IsPermutation l (filter q ys)) (sym (as_flat xs)) (subst (IsPermutation (flat_map (λ x. cond (q x) (x ∷ []) []) xs)) (sym (as_flat ys)) (permuted_flat_map (λ x. cond (q x) (x ∷ []) []) xs ys h))
  where
    as_flat : (zs : List A) → filter q zs ≡ flat_map (λ x. cond (q x) (x ∷ []) []) zs
    as_flat [] = refl
    as_flat (z ∷ zs) = elim (q z) as (λ b. cond b (z ∷ filter q zs) (filter q zs) ≡ cond b (z ∷ []) [] ++ flat_map (λ x. cond (q x) (x ∷ []) []) zs) [ true ↦ ap (λ l. z ∷ l) (as_flat zs) | false ↦ as_flat zs ]

pub step-raw : (g : Graph) (y : Typed) (rows : List Partial) (s : Step) (a : Partial) → MakesGroup g y rows s → IsPermutation (filter (own g y s) (raw g y rows s a)) (step g y s a)
unfolding step mean
step-raw g y rows (Scan v) a h = same_bag _ _ (filter_true (step g y (Scan v) a))
step-raw g y rows (Extend false x from to way) a h = same_bag _ _ (filter_true (step g y (Extend false x from to way) a))
step-raw g y rows (Extend true x from to way) a h = absurd (true≢false (sym h.0))
step-raw g y rows (Close false x from to way) a h = same_bag _ _ (close-filter g y false x from to way a (rels_from g y x way (look a.nodes from)))
step-raw g y rows (Close true x from to way) a h = absurd (true≢false (sym h.0))
step-raw g y rows (Join side keys) a h =
    IsPermutation-trans _ _ _ (same_bag _ _ (filter_true (raw g y rows (Join side keys) a)))
    (IsPermutation-map (λ b. with_all b a) (filter (agree keys a) rows) (filter (agree keys a) (mean g y side nothing)) (IsPermutation-filter (agree keys a) rows (mean g y side nothing) h.1))
step-raw g y rows (Keep i) a h = absurd (true≢false (sym h.0))
step-raw g y rows (Differ p) a h = absurd (true≢false (sym h.0))
step-raw g y rows (NoLoop x) a h = absurd (true≢false (sym h.0))
step-raw g y rows (Single x from to way) a h = absurd (true≢false (sym h.0))
step-raw g y rows (Meet x from to way) a h = absurd (true≢false (sym h.0))

pub mean-checked : (g : Graph) (y : Typed) (ks : List Step) (p : Plan) (e : Partial) → flat_map (mean g y p) (follow g y ks e) ≡ mean g y (checked ks p) e
unfolding mean step
mean-checked g y [] p e = append-nil (mean g y p e)
mean-checked g y (k ∷ ks) p e =
    flat_map-flat_map (mean g y p) (follow g y ks) (step g y k e)
    ∙ flat_map-same (λ d. flat_map (mean g y p) (follow g y ks d)) (mean g y (checked ks p)) (step g y k e) (λ d. mean-checked g y ks p d)

pub results_mean : (g : Graph) (y : Typed) (rows : ℕ → List Partial) (gs : List Group) (i : ℕ) (a : Partial) → AreGroups g y rows i gs → IsPermutation (results g y rows i gs a) (mean g y (plan_of gs) a)
unfolding mean
results_mean g y rows [] i a h = IsPermutation-refl (a ∷ [])
results_mean g y rows (b ∷ gs) i a h =
    let go_on : Partial → List Partial = λ e. flat_map (results g y rows (i + 1) gs) (follow g y b.checks e) in
    let one : flat_map (results g y rows (i + 1) gs) (flat_map (kept g y b) (raw g y (rows i) b.binds a)) ≡ flat_map go_on (filter (own g y b.binds) (raw g y (rows i) b.binds a)) =
    flat_map-flat_map (results g y rows (i + 1) gs) (kept g y b) (raw g y (rows i) b.binds a)
    ∙ flat_map-same (λ e. flat_map (results g y rows (i + 1) gs) (kept g y b e)) (λ e. cond (own g y b.binds e) (go_on e) []) (raw g y (rows i) b.binds a) (λ e. inside (results g y rows (i + 1) gs) (own g y b.binds e) (follow g y b.checks e))
    ∙ sym (filter-as go_on (own g y b.binds) (raw g y (rows i) b.binds a)) in
    IsPermutation-trans _ _ _ (same_bag _ _ one)
    (IsPermutation-trans _ _ _ (permuted_flat_map go_on _ _ (step-raw g y (rows i) b.binds a h.0))
    (IsPermutation-trans _ _ _
    (bag-flat_map go_on (λ e. flat_map (mean g y (plan_of gs)) (follow g y b.checks e)) (step g y b.binds a)
    (λ e. bag-flat_map (results g y rows (i + 1) gs) (mean g y (plan_of gs)) (follow g y b.checks e) (λ d. results_mean g y rows gs (i + 1) d h.2)))
    (same_bag _ _ (flat_map-same (λ e. flat_map (mean g y (plan_of gs)) (follow g y b.checks e)) (mean g y (checked b.checks (plan_of gs))) (step g y b.binds a) (λ e. mean-checked g y b.checks (plan_of gs) e)))))
  where
    inside : {A B : Type 0} (F : A → List B) (c : Bool) (xs : List A) → flat_map F (cond c xs []) ≡ cond c (flat_map F xs) []
    inside F true xs = refl
    inside F false xs = refl

-- the law
pub walks_mean : WalksMean
walks_mean g y rows l gs h f =
    IsPermutation-trans _ _ _ (same_bag _ _ (ap (map (decode g y rows 0 gs nothing)) (walks_are_choices g y rows l gs [] 0 nothing f) ∙ choices_are_results g y rows gs 0 nothing h)) (results_mean g y rows gs 0 nothing h)

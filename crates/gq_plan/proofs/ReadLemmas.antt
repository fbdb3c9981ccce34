-- Reads that are taken one by one, each unless it stands already, are the distinct ones.
use Rattle.std.proofs.Common.{◌≡◌, ◌∙◌, ap, sym, refl, ℕ, Bool, true, false, not, cond, ◌&&◌, ◌||◌, Option, Some, None, List, [], ◌∷◌, ◌++◌, filter, flat_map, take, append_assoc, append-nil, nat_eq, suc, ◌+◌, ◌<◌, length, drop, get_or, drop-cons, add-one}
use Rattle.gq_plan.specs.declared.variable.Variable.TheVariants.{Node as node, Rel as rel}
use Rattle.gq_plan.specs.declared.variable.Variable.{Variable}
use Rattle.std.specs.List.{list_any}
use Rattle.std.specs.Cmp.Lexicographic.{pointwise}
use Rattle.std.proofs.lemmas.Bool.{eqb-true, and_parts, true≢false}
use Rattle.std.proofs.lemmas.Bool.Decides.{Decides-eqb}
use Rattle.std.proofs.lemmas.List.Folds.{list_any-append}
use Rattle.std.proofs.lemmas.Slice.Eq.{slice_eq-Decides}
use Rattle.std.proofs.lemmas.List.Elements.{filter-append}
use Rattle.std.proofs.Math.Seq.{take-suc}
use Rattle.gq_plan.specs.Reads.{Read, properties, is_property, distinct, same_read, same_property, same_variable, with_read, with_reads}

-- ---- one by one

pub with_reads_append : (rs qs ps : List Read) → with_reads rs (qs ++ ps) ≡ with_reads (with_reads rs qs) ps
with_reads_append rs [] ps = refl
with_reads_append rs (q ∷ qs) ps = with_reads_append (with_read rs q) qs ps

-- the properties among one more read
pub properties_next : (xs : List Read) (i : ℕ) (x : Read) → i < length xs → x ≡ get_or xs i x
    → properties (take (i + 1) xs) ≡ properties (take i xs) ++ properties (x ∷ [])
properties_next xs i x h is =
    let more : take (i + 1) xs ≡ take i xs ++ x ∷ [] = rw (add-one i) (take-suc xs i x h ∙ ap (λ y. take i xs ++ y ∷ []) (sym is)) in
    ap properties more ∙ filter-append (λ r. is_property r.property) (take i xs) (x ∷ [])

pub with_next : (rs xs : List Read) (i : ℕ) (x : Read) → i < length xs → x ≡ get_or xs i x
    → with_reads rs (properties (take (i + 1) xs)) ≡ with_reads (with_reads rs (properties (take i xs))) (properties (x ∷ []))
with_next rs xs i x h is = ap (with_reads rs) (properties_next xs i x h is) ∙ with_reads_append rs (properties (take i xs)) (properties (x ∷ []))

-- the reads of one more part
pub reads_more : {X : Type 0} (f : X → List Read) (rs after : List Read) (xs : List X) (i : ℕ) (x : X) → i < length xs → x ≡ get_or xs i x → after ≡ with_reads rs (f x)
    → with_reads after (flat_map f (drop (i + 1) xs)) ≡ with_reads rs (flat_map f (drop i xs))
reads_more f rs after xs i x h is e =
    let first : drop i xs ≡ x ∷ drop (i + 1) xs = rw (add-one i) (drop-cons xs i x h ∙ ap (λ y. y ∷ drop (suc i) xs) (sym is)) in
    ap (λ qs. with_reads qs (flat_map f (drop (i + 1) xs))) e
    ∙ sym (with_reads_append rs (f x) (flat_map f (drop (i + 1) xs)))
    ∙ sym (ap (λ ys. with_reads rs (flat_map f ys)) first)

texts_same : (k l : List ℕ) → pointwise nat_eq k l ≡ true → k ≡ l
texts_same k l e = (slice_eq-Decides Decides-eqb k l (pointwise nat_eq k l) refl).0 e

variable_is : (v w : Variable) → same_variable v w ≡ true → v ≡ w
variable_is (node m) (node n) e = ap node (eqb-true m n e)
variable_is (node m) (rel n) e = absurd (true≢false (sym e))
variable_is (rel m) (node n) e = absurd (true≢false (sym e))
variable_is (rel m) (rel n) e = ap rel (eqb-true m n e)

property_is : (k l : Option (List ℕ)) → same_property k l ≡ true → k ≡ l
property_is None None e = refl
property_is None (Some l) e = absurd (true≢false (sym e))
property_is (Some k) None e = absurd (true≢false (sym e))
property_is (Some k) (Some l) e = ap Some (texts_same k l e)

-- reads that are the same are one
pub read_is : (q r : Read) → same_read q r ≡ true → q ≡ r
read_is q r e =
    let parts = and_parts (same_variable q.variable r.variable) (same_property q.property r.property) e in
    let variables : q.variable ≡ r.variable = variable_is q.variable r.variable parts.0 in
    let names : q.property ≡ r.property = property_is q.property r.property parts.1 in
    λ i. record { variable = variables i; property = names i }

abbrev stands : List Read → Read → Bool
stands rs q = list_any (λ r. same_read r q) rs

-- those that do not stand among others yet
abbrev fresh : List Read → List Read → List Read
fresh rs qs = filter (λ q. not (stands rs q)) qs

module _ {A : Type 0} where
  filter_same : (p q : A → Bool) → ((x : A) → p x ≡ q x) → (xs : List A) → filter p xs ≡ filter q xs
  filter_same p q same xs = λ i. filter (λ x. same x i) xs

  filter_twice : (p q : A → Bool) (xs : List A) → filter p (filter q xs) ≡ filter (λ x. q x && p x) xs
  filter_twice p q [] = refl
  filter_twice p q (x ∷ xs) = elim (q x) as (λ b. filter p (cond b (x ∷ filter q xs) (filter q xs)) ≡ cond (b && p x) (x ∷ filter (λ y. q y && p y) xs) (filter (λ y. q y && p y) xs)) [
    | true ↦ ap (λ ys. cond (p x) (x ∷ ys) ys) (filter_twice p q xs)
    | false ↦ filter_twice p q xs
  ]

or_false : (a : Bool) → (a || false) ≡ a
or_false true = refl
or_false false = refl

-- a read that stands already: what is fresh is none of its like
old_step : (rs : List Read) (r : Read) → stands rs r ≡ true → (q : Read) → (not (same_read r q) && not (stands rs q)) ≡ not (stands rs q)
old_step rs r e q = go (same_read r q) refl
  where
    go : (b : Bool) → same_read r q ≡ b → (not b && not (stands rs q)) ≡ not (stands rs q)
    go true is = sym (ap not (ap (stands rs) (sym (read_is r q is)) ∙ e))
    go false is = refl

new_step : (rs : List Read) (r q : Read) → (not (same_read r q) && not (stands rs q)) ≡ not (stands (rs ++ r ∷ []) q)
new_step rs r q = go (same_read r q) (stands rs q) ∙ sym (ap not (list_any-append (λ p. same_read p q) rs (r ∷ []) ∙ ap (λ b. stands rs q || b) (or_false (same_read r q))))
  where
    go : (a b : Bool) → (not a && not b) ≡ not (b || a)
    go true true = refl
    go true false = refl
    go false true = refl
    go false false = refl

taken : (rs qs : List Read) → with_reads rs qs ≡ rs ++ fresh rs (distinct qs)
taken rs [] = sym (append-nil rs)
taken rs (r ∷ qs) = go (taken rs qs) (taken (rs ++ r ∷ []) qs) (stands rs r) refl
  where
    go : with_reads rs qs ≡ rs ++ fresh rs (distinct qs) → with_reads (rs ++ r ∷ []) qs ≡ (rs ++ r ∷ []) ++ fresh (rs ++ r ∷ []) (distinct qs)
        → (b : Bool) → stands rs r ≡ b → with_reads (cond b rs (rs ++ r ∷ [])) qs ≡ rs ++ cond (not b) (r ∷ fresh rs (filter (λ q. not (same_read r q)) (distinct qs))) (fresh rs (filter (λ q. not (same_read r q)) (distinct qs)))
    go old more true e =
        old ∙ ap (λ l. rs ++ l) (sym (filter_twice (λ q. not (stands rs q)) (λ q. not (same_read r q)) (distinct qs) ∙ filter_same _ _ (old_step rs r e) (distinct qs)))
    go old more false e =
        more
        ∙ append_assoc rs (r ∷ []) (fresh (rs ++ r ∷ []) (distinct qs))
        ∙ ap (λ l. rs ++ r ∷ l) (sym (filter_twice (λ q. not (stands rs q)) (λ q. not (same_read r q)) (distinct qs) ∙ filter_same _ _ (new_step rs r) (distinct qs)))

all_fresh : (qs : List Read) → fresh [] qs ≡ qs
all_fresh [] = refl
all_fresh (q ∷ qs) = ap (λ l. q ∷ l) (all_fresh qs)

-- the distinct reads are those that are taken one by one
pub distinct_taken : (qs : List Read) → distinct qs ≡ with_reads [] qs
distinct_taken qs = sym (taken [] qs ∙ all_fresh (distinct qs))

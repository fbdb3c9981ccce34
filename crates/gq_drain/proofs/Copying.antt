-- A row of a query's variables, into which the first variables are copied one by one.
use Rattle.std.proofs.Common.{◌≡◌, ◌∙◌, ℕ, zero, suc, ◌+◌, ◌<◌, ◌≤◌, Bool, true, false, cond, nat_eq, Option, None, List, [], ◌∷◌, length, slice_get, refl, sym, ap, subst, arith}
use Rattle.std.specs.Prelude.{nat_lt, replicate, slice_set}
use Rattle.std.proofs.lemmas.Bool.{eqb-true}
use Rattle.std.proofs.Math.Dec.{eqb-suc-suc, eqb-suc-zero, eqb-zero-suc}
use Rattle.std.proofs.lemmas.Bool.Decides.{nat_tests}
use Rattle.gq_plan.specs.Assignments.{Assignment, row_of}
use Rattle.gq_plan.specs.declared.Typed.{Typed}
use Rattle.gq_outer.specs.Rows.{Wide, item_at, read}
use Rattle.gq_drain.specs.steps.Behind.{IsBlankFrom}
use Rattle.gq_drain.specs.steps.Copied.{Copies}

item_set : {X : Type 0} (xs : List (Option X)) (v : ℕ) (o : Option X) (u : ℕ) → v < length xs → item_at (slice_set xs v o) u ≡ cond (nat_eq u v) o (item_at xs u)
item_set [] v o u low = absurd (omega (arith, low))
item_set (y ∷ ys) zero o zero low = refl
item_set (y ∷ ys) zero o (suc u) low = ap (λ b. cond b o (item_at ys u)) (sym (eqb-suc-zero u))
item_set (y ∷ ys) (suc v) o zero low = ap (λ b. cond b o (item_at (y ∷ ys) 0)) (sym (eqb-zero-suc v))
item_set (y ∷ ys) (suc v) o (suc u) low = item_set ys v o u (omega (arith, low)) ∙ ap (λ b. cond b o (item_at ys u)) (sym (eqb-suc-suc u v))

length_set : {X : Type 0} (xs : List X) (v : ℕ) (x : X) → length (slice_set xs v x) ≡ length xs
length_set [] v x = refl
length_set (y ∷ ys) zero x = refl
length_set (y ∷ ys) (suc v) x = ap suc (length_set ys v x)

below : (v i : ℕ) → v < i → nat_lt v i ≡ true
below v i h = grind (arith, nat_tests, h)

above : (v i : ℕ) → i ≤ v → nat_lt v i ≡ false
above v i h = grind (arith, nat_tests, h)

-- ---- one by one

pub copied_none : {X : Type 0} (from : ℕ → Option X) (xs : List (Option X)) → Copies from 0 xs xs
copied_none from xs = record { length_is = refl; items = λ v. ap (λ b. cond b (from v) (item_at xs v)) (sym (above v 0 (omega arith))) }

pub copied_more : {X : Type 0} (from : ℕ → Option X) (i : ℕ) (old mid new : List (Option X)) (o : Option X) → Copies from i old mid → i < length old → o ≡ from i → new ≡ slice_set mid i o → Copies from (i + 1) old new
copied_more {X} from i old mid new o came low is set = record {
  length_is = ap length set ∙ length_set mid i o ∙ came.length_is;
  items = λ v. ap (λ l. item_at l v) set ∙ item_set mid i o v (omega (arith, low, came.length_is)) ∙ go v (nat_eq v i) refl;
}
  where
    go : (v : ℕ) (b : Bool) → nat_eq v i ≡ b → cond b o (item_at mid v) ≡ cond (nat_lt v (i + 1)) (from v) (item_at old v)
    go v true e =
        let same : v ≡ i = eqb-true v i e in
        is ∙ ap from (sym same) ∙ ap (λ b. cond b (from v) (item_at old v)) (sym (below v (i + 1) (omega (arith, same))))
    go v false e = came.items v ∙ ap (λ b. cond b (from v) (item_at old v)) (one_more v e)
      where
        one_more : (v : ℕ) → nat_eq v i ≡ false → nat_lt v i ≡ nat_lt v (i + 1)
        one_more v e = grind (arith, nat_tests, e)

-- ---- all of them

module _ {X : Type 0} (xs : List X) (old new : List (Option X)) (copies : Copies (slice_get xs) (length xs) old new) (blank : (v : ℕ) → length xs ≤ v → item_at old v ≡ None) where
  past : (ys : List X) (v : ℕ) → length ys ≤ v → slice_get ys v ≡ None
  past [] v h = refl
  past (y ∷ ys) zero h = absurd (omega (arith, h))
  past (y ∷ ys) (suc v) h = past ys v (omega (arith, h))

  still_blank : (v : ℕ) → length xs ≤ v → item_at new v ≡ None
  still_blank v h = copies.items v ∙ ap (λ b. cond b (slice_get xs v) (item_at old v)) (above v (length xs) h) ∙ blank v h

  item_is : (v : ℕ) (b : Bool) → nat_lt v (length xs) ≡ b → item_at new v ≡ slice_get xs v
  item_is v true e = copies.items v ∙ ap (λ b. cond b (slice_get xs v) (item_at old v)) e
  item_is v false e = still_blank v (not_below v (length xs) e) ∙ sym (past xs v (not_below v (length xs) e))
    where
      not_below : (v n : ℕ) → nat_lt v n ≡ false → n ≤ v
      not_below v n e = grind (arith, nat_tests, e)

  items_are : item_at new ≡ slice_get xs
  items_are = λ i v. item_is v (nat_lt v (length xs)) refl i

-- the row of an assignment, for which the others have nothing
module _ (t : Assignment) (n m : ℕ) (old new : Wide) (blank : IsBlankFrom (length t.nodes) (length t.rels) n m old)
    (nodes : Copies (row_of t).nodes (length t.nodes) old.nodes new.nodes) (rels : Copies (row_of t).rels (length t.rels) old.rels new.rels) where
  pub reads : read new ≡ row_of t
  reads = λ i. record { nodes = items_are t.nodes old.nodes new.nodes nodes blank.no_node i; rels = items_are t.rels old.rels new.rels rels blank.no_rel i }

  pub blank_still : IsBlankFrom (length t.nodes) (length t.rels) n m new
  blank_still = record {
    nodes = nodes.length_is ∙ blank.nodes;
    rels = rels.length_is ∙ blank.rels;
    no_node = still_blank t.nodes old.nodes new.nodes nodes blank.no_node;
    no_rel = still_blank t.rels old.rels new.rels rels blank.no_rel;
  }

-- so after both were copied
pub both_copied : (t : Assignment) (n m k l : ℕ) (old mid new : Wide) → k ≡ length t.nodes → l ≡ length t.rels → IsBlankFrom (length t.nodes) (length t.rels) n m old
    → Copies (row_of t).nodes k old.nodes mid.nodes → mid.rels ≡ old.rels → Copies (row_of t).rels l mid.rels new.rels → new.nodes ≡ mid.nodes
    → (read new ≡ row_of t) × IsBlankFrom (length t.nodes) (length t.rels) n m new
both_copied t n m k l old mid new nodes_are rels_are blank nodes rels_stay rels nodes_stay =
    let ns = subst (λ xs. Copies (row_of t).nodes (length t.nodes) old.nodes xs) (sym nodes_stay) (subst (λ c. Copies (row_of t).nodes c old.nodes mid.nodes) nodes_are nodes) in
    let rs = subst (λ xs. Copies (row_of t).rels (length t.rels) xs new.rels) rels_stay (subst (λ c. Copies (row_of t).rels c mid.rels new.rels) rels_are rels) in
    (reads t n m old new blank ns rs, blank_still t n m old new blank ns rs)

-- so for the variables of an alternative
pub row_copied : (t : Assignment) (y : Typed) (n m k l : ℕ) (old mid new : Wide) → length t.nodes ≡ length y.nodes → length t.rels ≡ length y.rels → k ≡ length y.nodes → l ≡ length y.rels
    → IsBlankFrom (length y.nodes) (length y.rels) n m old
    → Copies (row_of t).nodes k old.nodes mid.nodes → mid.rels ≡ old.rels → Copies (row_of t).rels l mid.rels new.rels → new.nodes ≡ mid.nodes
    → (read new ≡ row_of t) × IsBlankFrom (length y.nodes) (length y.rels) n m new
row_copied t y n m k l old mid new nodes_are rels_are k_is l_is blank nodes rels_stay rels nodes_stay =
    let own = subst (λ a. IsBlankFrom a (length t.rels) n m old) (sym nodes_are) (subst (λ b. IsBlankFrom (length y.nodes) b n m old) (sym rels_are) blank) in
    let copied = both_copied t n m k l old mid new (k_is ∙ sym nodes_are) (l_is ∙ sym rels_are) own nodes rels_stay rels nodes_stay in
    (copied.0, subst (λ a. IsBlankFrom a (length y.rels) n m new) nodes_are (subst (λ b. IsBlankFrom (length t.nodes) b n m new) rels_are copied.1))

-- told of as many variables as the row has, and of as many as it should have
pub own_blank : (k l n m : ℕ) (w : Wide) → IsBlankFrom k l n m w → IsBlankFrom k l (length w.nodes) (length w.rels) w
own_blank k l n m w h = record { nodes = refl; rels = refl; no_node = h.no_node; no_rel = h.no_rel }

pub blank_as : (k l n m : ℕ) (old new : Wide) → IsBlankFrom k l n m old → IsBlankFrom k l (length old.nodes) (length old.rels) new → IsBlankFrom k l n m new
blank_as k l n m old new was is = record { nodes = is.nodes ∙ was.nodes; rels = is.rels ∙ was.rels; no_node = is.no_node; no_rel = is.no_rel }

-- ---- a new row

none_there : {X : Type 0} (n v : ℕ) → item_at {X = X} (replicate n None) v ≡ None
none_there zero v = refl
none_there (suc n) zero = refl
none_there (suc n) (suc v) = none_there n v

length_same : {X : Type 0} (n : ℕ) (x : X) → length (replicate n x) ≡ n
length_same zero x = refl
length_same (suc n) x = ap suc (length_same n x)

pub new_blank : (n m : ℕ) (w : Wide) → w.nodes ≡ replicate n None → w.rels ≡ replicate m None → IsBlankFrom 0 0 n m w
new_blank n m w nodes rels = record {
  nodes = ap length nodes ∙ length_same n None;
  rels = ap length rels ∙ length_same m None;
  no_node = λ v h. ap (λ l. item_at l v) nodes ∙ none_there n v;
  no_rel = λ x h. ap (λ l. item_at l x) rels ∙ none_there m x;
}

-- what has nothing from a number on has nothing from a greater one on
pub blank_further : (k l n m : ℕ) (w : Wide) → IsBlankFrom 0 0 n m w → IsBlankFrom k l n m w
blank_further k l n m w h = record { nodes = h.nodes; rels = h.rels; no_node = λ v _. h.no_node v (omega arith); no_rel = λ x _. h.no_rel x (omega arith) }

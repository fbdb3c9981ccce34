-- Marks and counts.
use Rattle.std.proofs.Common.{◌≡◌, ℕ, zero, suc, ◌+◌, ◌<◌, ◌≤◌, Bool, true, false, not, ◌||◌, cond, List, [], ◌∷◌, ◌++◌, take, drop, length, get_or, refl, sym, ap, ◌∙◌, subst, arith, true≢false, add-zero}
use Rattle.std.specs.Prelude.{count_by, nat_lt}
use Rattle.std.specs.List.{AllByRecursion, list_any, sum_by}
use Rattle.std.proofs.Math.ListN.{set}
use Rattle.std.proofs.lemmas.Bool.{and_parts}
use Rattle.std.proofs.lemmas.Bool.Decides.{nat_tests}
use Rattle.std.proofs.lemmas.List.{get_or-set_same, get_or-set_other, length-set}
use Rattle.std.proofs.lemmas.List.Sums.{count_by-le-length, sum_by-set}
use Rattle.gq_base.specs.Lists.{all_distinct}
use Rattle.gq_base.specs.declared.NodeId.{NodeId}
use Rattle.gq_plan.specs.Assignments.{same_node}
use Rattle.gq_marks.proofs.Nodes.{any_pushed, node_is, node_itself, or_none}
use Rattle.gq_marks.specs.Insides.{is_set}
use Rattle.gq_marks.specs.Places.{IsWithin, place_in}
use Rattle.gq_marks.proofs.Places.{same_place}

-- ---- counts

abbrev bit : Bool → ℕ
bit b = cond b 1 0

pub set_more : (ms : List Bool) (n : ℕ) → n < length ms → get_or ms n false ≡ false → count_by is_set (set ms n true) ≡ count_by is_set ms + 1
set_more ms n low e = sym (add-zero _) ∙ ap (λ b. sum_by bit (set ms n true) + bit b) (sym e) ∙ sum_by-set bit ms n true false low

pub set_less : (ms : List Bool) (n : ℕ) → n < length ms → get_or ms n false ≡ true → count_by is_set (set ms n false) + 1 ≡ count_by is_set ms
set_less ms n low e = ap (λ b. sum_by bit (set ms n false) + bit b) (sym e) ∙ sum_by-set bit ms n false false low ∙ add-zero _

-- a mark that is not set leaves room
pub room_left : (ms : List Bool) (n : ℕ) → n < length ms → get_or ms n false ≡ false → count_by is_set ms < length ms
room_left ms n low e =
    let more = set_more ms n low e in
    let most = count_by-le-length is_set (set ms n true) in
    let long = length-set ms n true in
    omega (arith, more, most, long)

-- ---- one more node

or_some : (b : Bool) → (b || true) ≡ true
or_some true = refl
or_some false = refl

module _ (sizes : List ℕ) where
  abbrev place : NodeId → ℕ
  place n = place_in sizes n.table n.row

  one_place : (j n : NodeId) → IsWithin sizes j → IsWithin sizes n → place j ≡ place n → j ≡ n
  one_place j n hj hn e = let s = same_place sizes j.table j.row n.table n.row hj hn e in λ i. record { table = s.table i; row = s.row i }

  -- the place of another node is another
  apart : (j n : NodeId) → IsWithin sizes j → IsWithin sizes n → same_node j n ≡ false → place j ≡ place n → ⊥
  apart j n hj hn e p = true≢false (sym (subst (λ k. same_node j k ≡ true) (one_place j n hj hn p) (node_itself j)) ∙ e)

  pub told_more : (ms : List Bool) (xs : List NodeId) (n : NodeId) → IsWithin sizes n → place n < length ms
      → ((j : NodeId) → IsWithin sizes j → get_or ms (place j) false ≡ list_any (same_node j) xs)
      → (j : NodeId) → IsWithin sizes j → get_or (set ms (place n) true) (place j) false ≡ list_any (same_node j) (xs ++ n ∷ [])
  told_more ms xs n hn low tell j hj = go (same_node j n) refl
    where
      go : (b : Bool) → same_node j n ≡ b → get_or (set ms (place n) true) (place j) false ≡ list_any (same_node j) (xs ++ n ∷ [])
      go true e =
          ap (λ k. get_or (set ms (place n) true) (place k) false) (node_is j n e) ∙ get_or-set_same ms (place n) true false low
          ∙ sym (any_pushed j n xs ∙ ap (λ b. list_any (same_node j) xs || b) e ∙ or_some (list_any (same_node j) xs))
      go false e =
          get_or-set_other ms (place n) (place j) true false (apart j n hj hn e) ∙ tell j hj
          ∙ sym (any_pushed j n xs ∙ ap (λ b. list_any (same_node j) xs || b) e ∙ sym (or_none (list_any (same_node j) xs)))

  pub told_less : (ms : List Bool) (n : NodeId) (xs : List NodeId) → IsWithin sizes n → place n < length ms → not (list_any (same_node n) xs) ≡ true
      → ((j : NodeId) → IsWithin sizes j → get_or ms (place j) false ≡ list_any (same_node j) (n ∷ xs))
      → (j : NodeId) → IsWithin sizes j → get_or (set ms (place n) false) (place j) false ≡ list_any (same_node j) xs
  told_less ms n xs hn low off tell j hj = go (same_node j n) refl
    where
      negated : (b : Bool) → not b ≡ true → false ≡ b
      negated true k = absurd (true≢false (sym k))
      negated false k = refl

      go : (b : Bool) → same_node j n ≡ b → get_or (set ms (place n) false) (place j) false ≡ list_any (same_node j) xs
      go true e =
          ap (λ k. get_or (set ms (place n) false) (place k) false) (node_is j n e) ∙ get_or-set_same ms (place n) false false low
          ∙ negated (list_any (same_node n) xs) off ∙ ap (λ k. list_any (same_node k) xs) (sym (node_is j n e))
      go false e = get_or-set_other ms (place n) (place j) false false (apart j n hj hn e) ∙ tell j hj ∙ ap (λ b. b || list_any (same_node j) xs) e

pub each_pushed : (P : NodeId → Type 0) (xs : List NodeId) (n : NodeId) → AllByRecursion P xs → P n → AllByRecursion P (xs ++ n ∷ [])
each_pushed P [] n h k = (k, tt)
each_pushed P (x ∷ xs) n h k = (h.0, each_pushed P xs n h.1 k)

pub distinct_drop : (xs : List NodeId) (i : ℕ) → all_distinct same_node xs ≡ true → all_distinct same_node (drop i xs) ≡ true
distinct_drop xs zero d = d
distinct_drop [] (suc i) d = refl
distinct_drop (x ∷ xs) (suc i) d = distinct_drop xs i (and_parts (not (list_any (same_node x) xs)) (all_distinct same_node xs) d).1

-- ---- the node at a place

pub node_at : (ns : List NodeId) (k i : ℕ) (d : NodeId) → i < k → k ≤ length ns → drop i (take k ns) ≡ get_or ns i d ∷ drop (i + 1) (take k ns)
node_at ns zero i d low long = absurd (omega (arith, low))
node_at [] (suc k) i d low long = absurd (omega (arith, long))
node_at (n ∷ ns) (suc k) zero d low long = refl
node_at (n ∷ ns) (suc k) (suc i) d low long = node_at ns k i d (omega (arith, low)) (omega (arith, long)) ∙ ap (λ j. get_or ns i d ∷ drop j (n ∷ take k ns)) (one_more i)
  where
    one_more : (i : ℕ) → suc (i + 1) ≡ suc i + 1
    one_more i = omega arith

pub each_drop : (P : NodeId → Type 0) (xs : List NodeId) (i : ℕ) → AllByRecursion P xs → AllByRecursion P (drop i xs)
each_drop P xs zero h = h
each_drop P [] (suc i) h = tt
each_drop P (x ∷ xs) (suc i) h = each_drop P xs i h.1

-- a node that is no row of these tables was not met
pub not_there : (sizes : List ℕ) (n : NodeId) (xs : List NodeId) → AllByRecursion (IsWithin sizes) xs → nat_lt n.row (get_or sizes n.table 0) ≡ false → false ≡ list_any (same_node n) xs
not_there sizes n [] all off = refl
not_there sizes n (x ∷ xs) all off = go (same_node n x) refl (not_there sizes n xs all.1 off)
  where
    go : (b : Bool) → same_node n x ≡ b → false ≡ list_any (same_node n) xs → false ≡ (b || list_any (same_node n) xs)
    go false e rest = rest
    go true e rest = absurd (outside (subst (IsWithin sizes) (sym (node_is n x e)) all.0))
      where
        outside : n.row < get_or sizes n.table 0 → ⊥
        outside low = grind (arith, nat_tests, low, off)

pub within_is : (sizes : List ℕ) (n : NodeId) → nat_lt n.row (get_or sizes n.table 0) ≡ true → IsWithin sizes n
within_is sizes n h = grind (arith, nat_tests, h)

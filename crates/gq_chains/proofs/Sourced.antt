-- Two relationships of a table that are the first ones of two rows differ where their ends do.
use Rattle.std.proofs.Common.{◌≡◌, ◌≢◌, ◌⊎◌, inl, inr, ℕ, zero, suc, ◌+◌, ◌<◌, ◌==◌, ◌&&◌, ◌||◌, Bool, true, false, not, cond, Option, Some, None, List, [], ◌∷◌, length, eq-eqb, refl, sym, ap, ap₂, ◌∙◌, arith}
use Rattle.std.specs.Prelude.{is_some, slice_get, slice_index}
use Rattle.std.specs.List.{range_with_len}
use Rattle.std.proofs.lemmas.Bool.{cases_eq, eqb-true, false≢true, ne_eqb}
use Rattle.gq_adj.specs.Adjacent.{targets}
use Rattle.gq_base.specs.Plain.{Graph}
use Rattle.gq_base.specs.declared.NodeId.{NodeId}
use Rattle.gq_base.specs.declared.direction.Direction.{Direction}
use Rattle.gq_plan.specs.Conditions.{differ, differs}
use Rattle.gq_plan.specs.Meaning.{far}
use Rattle.gq_plan.specs.Rows.{as_read, rel_table}
use Rattle.gq_plan.specs.declared.assignment.Assignment.{Assignment}
use Rattle.gq_plan.specs.declared.typed.RelPair.{RelPair}
use Rattle.gq_plan.specs.declared.typed.Typed.{Typed}
use Rattle.gq_store.specs.Neighbours.{near_ends, numbers}
use Rattle.gq_chains.proofs.Apart.{apart, read_at}
use Rattle.gq_steps.proofs.Followed.{rel}

-- a number in the list of a row is one at which the row stands
listed_end : (from : List ℕ) (v k i n : ℕ) → slice_get (targets v from (range_with_len k (length from))) i ≡ Some n → (j : ℕ) × (n ≡ k + j) × (slice_get from j ≡ Some v)
listed_end [] v k i n at = absurd (false≢true (ap is_some at))
listed_end (f ∷ fs) v k i n at = by (λ at is. rest (listed_end fs v (k + 1) at n is)) (cases_eq f v) i at
  where
    rest : (j : ℕ) × (n ≡ k + 1 + j) × (slice_get fs j ≡ Some v) → (j : ℕ) × (n ≡ k + j) × (slice_get (f ∷ fs) j ≡ Some v)
    rest r = let (j, same, there) = r in (suc j, omega (arith, same), there)

    by : ((at : ℕ) → slice_get (targets v fs (range_with_len (k + 1) (length fs))) at ≡ Some n → (j : ℕ) × (n ≡ k + j) × (slice_get (f ∷ fs) j ≡ Some v)) → (f ≡ v) ⊎ (f ≡ v → ⊥) → (at : ℕ) → slice_get (targets v (f ∷ fs) (range_with_len k (length (f ∷ fs)))) at ≡ Some n → (j : ℕ) × (n ≡ k + j) × (slice_get (f ∷ fs) j ≡ Some v)
    by go (inl same) zero is =
        let here : k ≡ n = cc (ap (λ b. slice_get (cond b (k ∷ targets v fs (range_with_len (k + 1) (length fs))) (targets v fs (range_with_len (k + 1) (length fs)))) 0) (sym (eq-eqb f v same)) ∙ is) in
        (0, omega (arith, here), ap Some same)
    by go (inl same) (suc at) is =
        go at (ap (λ b. slice_get (cond b (k ∷ targets v fs (range_with_len (k + 1) (length fs))) (targets v fs (range_with_len (k + 1) (length fs)))) (suc at)) (sym (eq-eqb f v same)) ∙ is)
    by go (inr other) at is =
        go at (ap (λ b. slice_get (cond b (k ∷ targets v fs (range_with_len (k + 1) (length fs))) (targets v fs (range_with_len (k + 1) (length fs)))) at) (sym (ne_eqb f v other)) ∙ is)

-- a relationship is followed from one row
pub one_row : (g : Graph) (table : ℕ) (way : Direction) (r s i j n : ℕ) → slice_get (numbers g table way r) i ≡ Some n → slice_get (numbers g table way s) j ≡ Some n → r ≡ s
one_row g table way r s i j n here there =
    let (p, first, at) = listed_end (near_ends g table way) r 0 i n here in
    let (q, second, of) = listed_end (near_ends g table way) s 0 j n there in
    let same : p ≡ q = omega (arith, first, second) in
    cc (ap (slice_get (near_ends g table way)) same, at, of)

-- the first relationships of two rows are one where the rows are
pub as_rows : (g : Graph) (table : ℕ) (way : Direction) (r s m n : ℕ) → slice_get (numbers g table way r) 0 ≡ Some m → slice_get (numbers g table way s) 0 ≡ Some n → (m == n) ≡ (r == s)
as_rows g table way r s m n here there = by (cases_eq r s)
  where
    by : (r ≡ s) ⊎ (r ≡ s → ⊥) → (m == n) ≡ (r == s)
    by (inl same) = let one : m ≡ n = cc (ap (λ v. slice_get (numbers g table way v) 0) same, here, there) in eq-eqb m n one ∙ sym (eq-eqb r s same)
    by (inr other) = ne_eqb m n (λ one. other (one_row g table way r s 0 0 n (here ∙ ap Some one) there)) ∙ sym (ne_eqb r s other)

-- the first relationship of a row, and where it leads
pub record IsFirst (g : Graph) (table : ℕ) (way : Direction) (row lies leads number : ℕ) : Type 0 where
  pub at : slice_get (numbers g table way row) 0 ≡ Some number
  pub far : far g way (rel table number) ≡ Some (record { table = lies; row = leads })

abbrev row_in : Option NodeId → ℕ
row_in None = 0
row_in (Some n) = n.row

-- the first relationships of two rows are one exactly where both their ends are
pub as_ends : (g : Graph) (table : ℕ) (way : Direction) (r s t u p q m n : ℕ) → IsFirst g table way r t p m → IsFirst g table way s u q n → (m == n) ≡ ((r == s) && (p == q))
as_ends g table way r s t u p q m n one other = by (cases_eq r s)
  where
    rows : (m == n) ≡ (r == s)
    rows = as_rows g table way r s m n one.at other.at

    by : (r ≡ s) ⊎ (r ≡ s → ⊥) → (m == n) ≡ ((r == s) && (p == q))
    by (inl same) =
        let alike : m ≡ n = eqb-true m n (rows ∙ eq-eqb r s same) in
        let leads : p ≡ q = ap row_in (sym one.far ∙ ap (λ k. far g way (rel table k)) alike ∙ other.far) in
        rows ∙ eq-eqb r s same ∙ sym (ap₂ ◌&&◌ (eq-eqb r s same) (eq-eqb p q leads))
    by (inr unlike) = rows ∙ ne_eqb r s unlike ∙ sym (ap (λ b. b && (p == q)) (ne_eqb r s unlike))

not_both : (a b : Bool) → not (a && b) ≡ (not a || not b)
not_both true b = refl
not_both false b = refl

module _ (y : Typed) (pair : RelPair) (row : Assignment) (many : length row.rels ≡ length y.rels) (low : pair.first < length y.rels) (lower : pair.second < length y.rels) (same : rel_table y pair.first ≡ rel_table y pair.second) where
  -- relationships of one table differ where their load numbers do
  differs_numbers : differs (as_read y row) pair ≡ not (slice_index row.rels pair.first == slice_index row.rels pair.second)
  differs_numbers =
      ap₂ differ (read_at y row pair.first many low) (read_at y row pair.second many lower)
      ∙ apart (rel_table y pair.first) (rel_table y pair.second) (slice_index row.rels pair.first) (slice_index row.rels pair.second) same

  -- and where an end of theirs does, if they are the first ones of two rows
  pub differs_ends : (g : Graph) (way : Direction) (r s t u p q : ℕ) → IsFirst g (rel_table y pair.first) way r t p (slice_index row.rels pair.first)
      → IsFirst g (rel_table y pair.first) way s u q (slice_index row.rels pair.second) → differs (as_read y row) pair ≡ (not (r == s) || not (p == q))
  differs_ends g way r s t u p q one other =
      differs_numbers ∙ ap not (as_ends g (rel_table y pair.first) way r s t u p q (slice_index row.rels pair.first) (slice_index row.rels pair.second) one other)
      ∙ not_both (r == s) (p == q)

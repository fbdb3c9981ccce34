-- A part of the rows, after a push, a sort and a cut.
use Rattle.std.proofs.Common.{◌≡◌, ℕ, ◌+◌, ◌≤◌, min, List, [], ◌∷◌, ◌++◌, length, take, drop, sym, ap, ◌∙◌, subst, append_assoc, arith, length-append}
use Rattle.std.proofs.lemmas.List.{take-append-drop}
use Rattle.std.proofs.lemmas.List.Sums.{count_by-le-length, sum_by-append}
use Rattle.std.proofs.lemmas.List.Sorted.{IsPermutation-refl, IsPermutation-trans, IsPermutation-append_left, IsPermutation-append_right, IsPermutation-to_front, length_permutation, sum_by-IsPermutation}
use Rattle.std.specs.declared.cmp.Ordering.{Ordering}
use Rattle.std.specs.Ordering.{is_le}
use Rattle.std.specs.Cmp.{IsTotalOrder}
use Rattle.std.specs.List.{count_by}
use Rattle.std.specs.List.Sorted.{IsPermutation}
use Rattle.std.specs.List.{AllByRecursion}
use Rattle.gq_kept.specs.Parts.{Part}
use Rattle.gq_kept.proofs.Rising.{Rises, count-front, each-append, each-map, front-behind}

module _ {T : Type 0} (R : T → T → Ordering) where
  pub part-none : (n : ℕ) → Part R n [] []
  part-none n = record { rest = []; whole = IsPermutation-refl []; behind = tt }

  pub part-push : (n : ℕ) (rows held : List T) (row : T) → Part R n rows held → Part R n (rows ++ row ∷ []) (held ++ row ∷ [])
  part-push n rows held row p = record {
    rest = p.rest;
    whole = IsPermutation-trans _ _ _ (IsPermutation-append_left (row ∷ []) rows (held ++ p.rest) p.whole)
        (subst (λ l. IsPermutation ((held ++ p.rest) ++ row ∷ []) l) (sym (append_assoc held (row ∷ []) p.rest))
        (subst (λ l. IsPermutation l (held ++ (row ∷ p.rest))) (sym (append_assoc held p.rest (row ∷ []))) (IsPermutation-append_right held _ _ (IsPermutation-to_front p.rest row))));
    behind = each-map _ _ (λ r le. rw (sum_by-append _ held (row ∷ [])) (omega (arith, le))) p.rest p.behind;
  }

  -- a row that at least n held rows do not come after may be dropped
  pub part-drop : (n : ℕ) (rows held : List T) (row : T) → n ≤ count_by (λ h. is_le (R h row)) held → Part R n rows held → Part R n (rows ++ row ∷ []) held
  part-drop n rows held row enough p = record {
    rest = p.rest ++ row ∷ [];
    whole = subst (IsPermutation (rows ++ row ∷ [])) (append_assoc held p.rest (row ∷ [])) (IsPermutation-append_left (row ∷ []) rows (held ++ p.rest) p.whole);
    behind = each-append _ p.rest (row ∷ []) p.behind (enough, tt);
  }

  -- the held rows in another order
  pub part-sort : (n : ℕ) (rows held xs : List T) → IsPermutation held xs → Part R n rows held → Part R n rows xs
  part-sort n rows held xs same p = record {
    rest = p.rest;
    whole = IsPermutation-trans _ _ _ p.whole (IsPermutation-append_left p.rest held xs same);
    behind = each-map _ _ (λ r le. rw (sum_by-IsPermutation _ held xs same) le) p.rest p.behind;
  }

  pub whole-cut : (n : ℕ) (rows xs rest : List T) → IsPermutation rows (xs ++ rest) → IsPermutation rows (take n xs ++ (drop n xs ++ rest))
  whole-cut n rows xs rest h = subst (λ l. IsPermutation rows l) (ap (λ l. l ++ rest) (sym (take-append-drop n xs)) ∙ append_assoc (take n xs) (drop n xs) rest) h

  -- only the first n of the held rows
  pub part-cut : (o : IsTotalOrder R) (n : ℕ) (rows xs : List T) → Rises R xs → n ≤ length xs → Part R n rows xs → Part R n rows (take n xs)
  part-cut o n rows xs up le p = record {
    rest = drop n xs ++ p.rest;
    whole = whole-cut n rows xs p.rest p.whole;
    behind = each-append _ (drop n xs) p.rest (front-behind R o n xs up le) (each-map _ _ (λ r h. count-front R o n xs r up h) p.rest p.behind);
  }

  held-count : (n : ℕ) (held rest : List T) → AllByRecursion (λ r. n ≤ count_by (λ h. is_le (R h r)) held) rest → min (length held + length rest + 1) n ≡ min (length held + 1) n
  held-count n held [] h = ap (λ k. min k n) (omega arith)
  held-count n held (r ∷ rest) (h, hs) = omega (arith, h, count_by-le-length (λ x. is_le (R x r)) held)

  -- as many rows are kept of the listing as of the held rows
  pub part-count : (n : ℕ) (rows held : List T) → Part R n rows held → min (length rows + 1) n ≡ min (length held + 1) n
  part-count n rows held p =
      ap (λ k. min (k + 1) n) (sym (length_permutation rows (held ++ p.rest) p.whole) ∙ length-append held p.rest) ∙ held-count n held p.rest p.behind

-- A copy of bytes from a place on.
use Rattle.std.proofs.Common.{◌≡◌, ℕ, ◌+◌, ◌-◌, min, List, [], ◌++◌, length, take, drop, sym, ap, ◌∙◌, arith}
use Rattle.std.proofs.lemmas.List.{take-append-drop, take_at, drop-drop}
use Rattle.std.proofs.lemmas.Grind.{common_steps}
use Rattle.gq_io.specs.steps.Held.{Copies}

nil_of : (xs : List ℕ) → length xs ≡ 0 → xs ≡ []
nil_of xs e = grind (arith, common_steps, e)

-- what fits of the bytes from `at` on, and at most `most`, in front of what a buffer had behind it
pub copies : (all into copied : List ℕ) (at count most : ℕ) → count ≡ min (min (length all - at) (length into)) most → copied ≡ take (at + count - at) (drop at all)
    → Copies all at count most (copied ++ drop count into)
copies all into copied at count most is cut =
    let same : copied ≡ take count (drop at all) = cut ∙ ap (λ n. take n (drop at all)) (omega arith) in
    let size : length copied ≡ count = ap length same ∙ grind (arith, common_steps, is) in
    let front : take count (copied ++ drop count into) ≡ copied = take_at copied (drop count into) count size in
    record {
      bound = grind (arith, common_steps, size, front);
      few = omega (arith, is);
      bytes = sym (take-append-drop count (drop at all)) ∙ ap (λ l. l ++ drop count (drop at all)) (sym same ∙ sym front) ∙ ap (λ l. take count (copied ++ drop count into) ++ l) (drop-drop count at all);
      end = λ none room some. nil_of _ (grind (arith, common_steps, none, is));
    }

-- The numbers of nodes.
use Rattle.std.proofs.Common.{◌≡◌, ℕ, zero, suc, ◌+◌, ◌<◌, List, [], ◌∷◌, ◌++◌, drop, get_or, length, refl, sym, ap, ◌∙◌, subst, arith, add_assoc, append_assoc}
use Rattle.std.proofs.lemmas.List.Sums.{sum_by-cons}
use Rattle.gq_marks.specs.Places.{place_in, starts_from, total_of}

pub table_low : (sizes : List ℕ) (t r : ℕ) → r < get_or sizes t 0 → t < length sizes
table_low [] t r low = absurd (omega (arith, low))
table_low (s ∷ sizes) zero r low = omega arith
table_low (s ∷ sizes) (suc t) r low = let more = table_low sizes t r low in omega (arith, more)

pub length_starts : (n : ℕ) (sizes : List ℕ) → length (starts_from n sizes) ≡ length sizes
length_starts n [] = refl
length_starts n (s ∷ sizes) = ap suc (length_starts (n + s) sizes)

pub place_found_from : (n : ℕ) (sizes : List ℕ) (t r d : ℕ) → t < length sizes → get_or (starts_from n sizes) t d + r ≡ n + place_in sizes t r
place_found_from n [] t r d low = absurd (omega (arith, low))
place_found_from n (s ∷ sizes) zero r d low = refl
place_found_from n (s ∷ sizes) (suc t) r d low = place_found_from (n + s) sizes t r d (omega (arith, low)) ∙ add_assoc n s (place_in sizes t r)

pub place_found : (sizes : List ℕ) (t r d : ℕ) → r < get_or sizes t 0 → get_or (starts_from 0 sizes) t d + r ≡ place_in sizes t r
place_found sizes t r d low = let e = place_found_from 0 sizes t r d (table_low sizes t r low) in omega (arith, e)

pub place_low : (sizes : List ℕ) (t r : ℕ) → r < get_or sizes t 0 → place_in sizes t r < total_of sizes
place_low [] t r low = absurd (omega (arith, low))
place_low (s ∷ sizes) zero r low =
    let first : r < s = low in
    let whole : r < s + total_of sizes = omega (arith, first) in
    subst (λ k. r < k) (sym (sum_by-cons (λ x. x) s sizes)) whole
place_low (s ∷ sizes) (suc t) r low =
    let more = place_low sizes t r low in
    let whole : s + place_in sizes t r < s + total_of sizes = omega (arith, more) in
    subst (λ k. s + place_in sizes t r < k) (sym (sum_by-cons (λ x. x) s sizes)) whole

-- one number is that of one node
pub record SamePlace (t r u q : ℕ) : Type 0 where
  pub table : t ≡ u
  pub row : r ≡ q

pub same_place : (sizes : List ℕ) (t r u q : ℕ) → r < get_or sizes t 0 → q < get_or sizes u 0 → place_in sizes t r ≡ place_in sizes u q → SamePlace t r u q
same_place [] t r u q low lower e = absurd (omega (arith, low))
same_place (s ∷ sizes) zero r zero q low lower e = record { table = refl; row = e }
same_place (s ∷ sizes) zero r (suc u) q low lower e = absurd (omega (arith, low, e))
same_place (s ∷ sizes) (suc t) r zero q low lower e = absurd (omega (arith, lower, e))
same_place (s ∷ sizes) (suc t) r (suc u) q low lower e =
    let more = same_place sizes t r u q low lower (omega (arith, e)) in record { table = ap suc more.table; row = more.row }

-- the starts of more tables
pub starts_more : (starts : List ℕ) (total : ℕ) (sizes : List ℕ) (i : ℕ) (s : ℕ) (whole : List ℕ) → drop i sizes ≡ s ∷ drop (i + 1) sizes
    → starts ++ starts_from total (drop i sizes) ≡ whole → (starts ++ total ∷ []) ++ starts_from (total + s) (drop (i + 1) sizes) ≡ whole
starts_more starts total sizes i s whole rest is =
    append_assoc starts (total ∷ []) (starts_from (total + s) (drop (i + 1) sizes)) ∙ ap (λ l. starts ++ starts_from total l) (sym rest) ∙ is

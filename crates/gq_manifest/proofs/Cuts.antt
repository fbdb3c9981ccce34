-- The first line of a text.
use Rattle.std.proofs.Common.{◌≡◌, ℕ, ◌+◌, ◌-◌, ◌<◌, ◌≤◌, Bool, true, false, cond, List, [], ◌∷◌, length, take, drop, Some, None, refl, sym, ap, ◌∙◌, arith, length-drop}
use Rattle.std.specs.Prelude.{◌==◌, nat_lt, position}
use Rattle.std.specs.List.{onto_first, position_or_len, slice_split}
use Rattle.std.specs.Str.Lines.{lines, lines_of_parts, strip_carriage_return}
use Rattle.std.proofs.lemmas.Bool.Decides.{nat_tests}
use Rattle.std.proofs.lemmas.List.{take_all}
use Rattle.gq_base.proofs.ListFacts.{some_place}
use Rattle.std.proofs.lemmas.List.Splits.{length-slice_split, slice_split_first}

abbrev is_lf : ℕ → Bool
is_lf b = b == 10

pub no_place : (b : Bool) (n : ℕ) → None ≡ cond b (Some n) None → b ≡ false
no_place true n e = cc e
no_place false n e = refl

-- one part, where no byte cuts
next_part : (p : ℕ → Bool) (x : ℕ) (xs : List ℕ) (b : Bool) → p x ≡ b → (length xs ≤ position_or_len p xs → slice_split p xs ≡ xs ∷ []) → length (x ∷ xs) ≤ position_or_len p (x ∷ xs)
    → slice_split p (x ∷ xs) ≡ (x ∷ xs) ∷ []
next_part p x xs true e more h = absurd (let k = rw e at h in omega arith)
next_part p x xs false e more h = let k = rw e at h in rw e (ap (onto_first x) (more (omega arith)))

one_part : (p : ℕ → Bool) (xs : List ℕ) → length xs ≤ position_or_len p xs → slice_split p xs ≡ xs ∷ []
one_part p [] h = refl
one_part p (x ∷ xs) h = next_part p x xs (p x) refl (one_part p xs) h

parts_some : (p : ℕ → Bool) (xs : List ℕ) (place : ℕ) → Some place ≡ position p xs → slice_split p xs ≡ take place xs ∷ slice_split p (drop (place + 1) xs)
parts_some p xs place e =
    let (found, is) = some_place (nat_lt (position_or_len p xs) (length xs)) (position_or_len p xs) place e in
    let within : position_or_len p xs < length xs = grind (arith, nat_tests, found) in
    slice_split_first p xs 0 within ∙ ap (λ n. take n xs ∷ slice_split p (drop (n + 1) xs)) (sym is)

-- a line that an LF ends
ended : (line : List ℕ) (parts : List (List ℕ)) → 0 < length parts → lines_of_parts (line ∷ parts) ≡ strip_carriage_return line ∷ lines_of_parts parts
ended line [] h = absurd (omega arith)
ended line (part ∷ parts) h = refl

pub first_line : (text : List ℕ) (end : ℕ) → Some end ≡ position is_lf text
    → lines text ≡ strip_carriage_return (take end text) ∷ lines (take (length text - (end + 1)) (drop (end + 1) text))
first_line text end e =
    let rest : take (length text - (end + 1)) (drop (end + 1) text) ≡ drop (end + 1) text = take_all (length text - (end + 1)) (drop (end + 1) text) (omega (arith, length-drop (end + 1) text)) in
    rw rest (ap lines_of_parts (parts_some is_lf text end e) ∙ ended (take end text) (slice_split is_lf (drop (end + 1) text)) (omega (arith, length-slice_split is_lf (drop (end + 1) text))))

one_line : (text : List ℕ) (b : Bool) → (length text == 0) ≡ b → 0 < length text → lines_of_parts (text ∷ []) ≡ text ∷ []
one_line text true e h = absurd (grind (arith, nat_tests, e))
one_line text false e h = rw e refl

pub only_line : (text : List ℕ) → 0 < length text → None ≡ position is_lf text → lines text ≡ text ∷ []
only_line text h e =
    let far = no_place (nat_lt (position_or_len is_lf text) (length text)) (position_or_len is_lf text) e in
    ap lines_of_parts (one_part is_lf text (grind (arith, nat_tests, far))) ∙ one_line text (length text == 0) refl h

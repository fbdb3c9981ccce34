-- What the tests of a field's bytes say.
use Rattle.std.proofs.Common.{◌≡◌, ◌≢◌, ℕ, ◌+◌, ◌-◌, ◌*◌, ◌<◌, ◌≤◌, ◌^◌, Bool, true, false, List, [], ◌∷◌, length, drop, get_or, Option, Some, None, refl, sym, ap, ◌∙◌, arith, w64, rules}
use Rattle.std.specs.Prelude.{if◌then◌else◌, ◌==◌, ◌&&◌, not, nat_eq, nat_lt, nat_le, ℤ, pos, neg_ℤ, Result, Ok, Err, slice_index, option_map}
use Rattle.std.specs.List.{starts_with}
use Rattle.std.specs.Result.{OkIff, result_ok}
use Rattle.std.specs.Char.{is_ascii_digit}
use Rattle.std.specs.Str.{IsAscii, all_ascii_digits, is_utf8}
use Rattle.std.specs.Str.Parse.{ParsesSigned, digits_value}
use Rattle.std.proofs.lemmas.Bool.Decides.{nat_tests}
use Rattle.std.proofs.lemmas.Str.Ascii.{IsAscii-cons, IsAscii-nil}
use Rattle.std.proofs.lemmas.Str.{IsUtf8-from_ascii, is_utf8-from_IsUtf8}
use Rattle.std.proofs.lemmas.Str.Parse.{IsNumeralModel, numerals_by_fold, numerals_by_value, parse_signed_minus, parse_signed_plain, tells_all_ascii_digits}
use Rattle.gq_base.specs.Words.{text_of}
use Rattle.std.proofs.Math.Nat.{pow-le-pow_right}
use Rattle.std.proofs.lemmas.Grind.{pow_more}
use Rattle.std.proofs.lemmas.List.{drop_more, drop_all}
use Rattle.gq_fields.specs.Fields.{int_of, is_numeral}

none_test : (b : Bool) (bytes : List ℕ) → None ≡ (if b then Some bytes else None) → b ≡ false
none_test true bytes e = cc e
none_test false bytes e = refl

-- ---- integers

own : IsNumeralModel (λ ds. all_ascii_digits ds ≡ true) (digits_value 10)
own = numerals_by_value _ tells_all_ascii_digits

by_test : {T E : Type 0} (r : Result T E) (test : Bool) (P : Type 0) (v : T) → OkIff r P v → (P → test ≡ true) → (test ≡ true → P) → result_ok r ≡ (if test then Some v else None)
by_test (Ok x) true P v h to from = ap Some h.1
by_test (Ok x) false P v h to from = cc (to h.0)
by_test (Err e) true P v h to from = absurd (h (from refl))
by_test (Err e) false P v h to from = refl

all_three : (a b c : Bool) → a ≡ true → b ≡ true → c ≡ true → ((a && b) && c) ≡ true
all_three a b c p q r = rw (p, q, r) refl

some-true : (n : ℕ) → 0 < n → not (n == 0) ≡ true
some-true n h = grind (arith, nat_tests)

some-from : (n : ℕ) → not (n == 0) ≡ true → 0 < n
some-from n h = grind (arith, nat_tests)

lt-true : (m n : ℕ) → m < n → nat_lt m n ≡ true
lt-true m n h = grind (arith, nat_tests)

lt-from : (m n : ℕ) → nat_lt m n ≡ true → m < n
lt-from m n h = grind (arith, nat_tests)

le-true : (m n : ℕ) → m ≤ n → nat_le m n ≡ true
le-true m n h = grind (arith, nat_tests)

le-from : (m n : ℕ) → nat_le m n ≡ true → m ≤ n
le-from m n h = grind (arith, nat_tests)

three : (a b c : Bool) → ((a && b) && c) ≡ true → (a ≡ true) × (b ≡ true) × (c ≡ true)
three true true true h = (refl, refl, refl)
three true true false h = cc h
three true false c h = cc h
three false b c h = cc h

plain : {E : Type 0} (ds : List ℕ) (r : Result ℤ E) → OkIff r ((all_ascii_digits ds ≡ true) × (0 < length ds) × (digits_value 10 ds < 2 ^ 63)) (pos (digits_value 10 ds))
    → result_ok r ≡ (if (not (length ds == 0) && all_ascii_digits ds) && nat_lt (digits_value 10 ds) (2 ^ 63) then Some (pos (digits_value 10 ds)) else None)
plain ds r h =
    by_test r ((not (length ds == 0) && all_ascii_digits ds) && nat_lt (digits_value 10 ds) (2 ^ 63)) _ (pos (digits_value 10 ds)) h
    (λ p. all_three _ _ _ (some-true _ p.1) p.0 (lt-true _ _ p.2))
    (λ t. let s = three (not (length ds == 0)) (all_ascii_digits ds) (nat_lt (digits_value 10 ds) (2 ^ 63)) t in (s.1, some-from _ s.0, lt-from _ _ s.2))

minus : {E : Type 0} (ds : List ℕ) (r : Result ℤ E) → OkIff r ((all_ascii_digits ds ≡ true) × (0 < length ds) × (digits_value 10 ds ≤ 2 ^ 63)) (neg_ℤ (pos (digits_value 10 ds)))
    → result_ok r ≡ (if (not (length ds == 0) && all_ascii_digits ds) && nat_le (digits_value 10 ds) (2 ^ 63) then Some (neg_ℤ (pos (digits_value 10 ds))) else None)
minus ds r h =
    by_test r ((not (length ds == 0) && all_ascii_digits ds) && nat_le (digits_value 10 ds) (2 ^ 63)) _ (neg_ℤ (pos (digits_value 10 ds))) h
    (λ p. all_three _ _ _ (some-true _ p.1) p.0 (le-true _ _ p.2))
    (λ t. let s = three (not (length ds == 0)) (all_ascii_digits ds) (nat_le (digits_value 10 ds) (2 ^ 63)) t in (s.1, some-from _ s.0, le-from _ _ s.2))

-- what `parse` gives, a plus sign apart
parsed : {E : Type 0} (bytes : List ℕ) (r : Result ℤ E) (b : Bool) → (slice_index bytes 0 == 45) ≡ b → slice_index bytes 0 ≢ 43 → ParsesSigned w64 10 bytes r → result_ok r ≡ int_of bytes
parsed bytes r true e no_plus h = rw e (minus (drop 1 bytes) r (parse_signed_minus own w64 bytes r h (grind (arith, nat_tests, e))))
parsed bytes r false e no_plus h = rw e (plain bytes r (parse_signed_plain own w64 bytes r h no_plus (grind (arith, nat_tests, e))))

no_plus_sign : (bytes : List ℕ) → starts_with nat_eq bytes (43 ∷ []) ≡ false → slice_index bytes 0 ≢ 43
no_plus_sign [] e = λ h. absurd (omega (arith, h))
no_plus_sign (b ∷ rest) e = λ h. let bad = rw h at e in cc bad

pub int_of-parsed : {E : Type 0} (bytes : List ℕ) (r : Result ℤ E) → starts_with nat_eq bytes (43 ∷ []) ≡ false → ParsesSigned w64 10 bytes r → result_ok r ≡ int_of bytes
int_of-parsed bytes r e h = parsed bytes r (slice_index bytes 0 == 45) refl (no_plus_sign bytes e) h

digits-ascii : (digits : List ℕ) → all_ascii_digits digits ≡ true → IsAscii digits
digits-ascii [] h = IsAscii-nil
digits-ascii (c ∷ cs) h = let p = tells_all_ascii_digits.parts c cs h in IsAscii-cons c cs (omega (arith, p.0)) (digits-ascii cs p.1)

not_ascii : (bytes : List ℕ) → is_utf8 bytes ≡ false → IsAscii bytes → ⊥
not_ascii bytes u h = let yes = is_utf8-from_IsUtf8 bytes (IsUtf8-from_ascii bytes h) in cc

none_if : (test : Bool) (v : ℤ) → (test ≡ true → ⊥) → (if test then Some v else None) ≡ None
none_if true v h = absurd (h refl)
none_if false v h = refl

no_int : (c : ℕ) (cs : List ℕ) (b : Bool) → (c == 45) ≡ b → is_utf8 (c ∷ cs) ≡ false → int_of (c ∷ cs) ≡ None
no_int c cs true e u =
    rw e (none_if ((not (length cs == 0) && all_ascii_digits cs) && nat_le (digits_value 10 cs) (2 ^ 63)) (neg_ℤ (pos (digits_value 10 cs)))
    (λ t. not_ascii (c ∷ cs) u (IsAscii-cons c cs (grind (arith, nat_tests, e)) (digits-ascii cs (three (not (length cs == 0)) (all_ascii_digits cs) (nat_le (digits_value 10 cs) (2 ^ 63)) t).1))))
no_int c cs false e u =
    rw e (none_if ((not (length (c ∷ cs) == 0) && all_ascii_digits (c ∷ cs)) && nat_lt (digits_value 10 (c ∷ cs)) (2 ^ 63)) (pos (digits_value 10 (c ∷ cs)))
    (λ t. not_ascii (c ∷ cs) u (digits-ascii (c ∷ cs) (three (not (length (c ∷ cs) == 0)) (all_ascii_digits (c ∷ cs)) (nat_lt (digits_value 10 (c ∷ cs)) (2 ^ 63)) t).1)))

-- an integer is ASCII, and so is text
pub int_of-none : (bytes : List ℕ) → None ≡ text_of bytes → int_of bytes ≡ None
int_of-none [] e = absurd (not_ascii [] (none_test (is_utf8 []) [] e) IsAscii-nil)
int_of-none (c ∷ cs) e = no_int c cs (c == 45) refl (none_test (is_utf8 (c ∷ cs)) (c ∷ cs) e)

-- ---- a few digits

-- the number that digits go on with
abbrev pub read_on : ℕ → List ℕ → ℕ
read_on number [] = number
read_on number (c ∷ cs) = read_on (10 * number + (c - 48)) cs

by_fold : IsNumeralModel (λ ds. all_ascii_digits ds ≡ true) (read_on 0)
by_fold = numerals_by_fold _ tells_all_ascii_digits read_on (search rules)

pub read_on-value : (ds : List ℕ) → all_ascii_digits ds ≡ true → read_on 0 ds ≡ digits_value 10 ds
read_on-value ds h = by_fold.same ds (by_fold.to ds h)

-- one digit more
pub read_more : (i number : ℕ) (ds : List ℕ) (digit : ℕ) → i < length ds → digit ≡ get_or ds i 0 → is_ascii_digit digit ≡ true
    → read_on number (drop i ds) ≡ read_on 0 ds → all_ascii_digits (drop i ds) ≡ all_ascii_digits ds → number < 10 ^ i
    → (read_on (10 * number + (digit - 48)) (drop (i + 1) ds) ≡ read_on 0 ds) × (all_ascii_digits (drop (i + 1) ds) ≡ all_ascii_digits ds) × (10 * number + (digit - 48) < 10 ^ (i + 1))
read_more i number ds digit h is numeral told all low =
    let next : drop i ds ≡ digit ∷ drop (i + 1) ds = drop_more ds i 0 h ∙ ap (λ d. d ∷ drop (i + 1) ds) (sym is) in
    let range : (48 ≤ digit) × (digit ≤ 57) = grind (arith, nat_tests, numeral) in
    let power : 10 ^ (i + 1) ≡ 10 ^ i * 10 = pow_more 10 i in (
      sym (ap (read_on number) next) ∙ told,
      sym (ap all_ascii_digits next ∙ ap (λ b. b && all_ascii_digits (drop (i + 1) ds)) numeral) ∙ all,
      omega (arith, range.0, range.1, power, low),
    )

-- a byte that is no digit
pub no_numeral : (i : ℕ) (ds : List ℕ) (digit : ℕ) → i < length ds → digit ≡ get_or ds i 0 → is_ascii_digit digit ≡ false → all_ascii_digits (drop i ds) ≡ all_ascii_digits ds → is_numeral ds ≡ false
no_numeral i ds digit h is other all =
    let next : drop i ds ≡ digit ∷ drop (i + 1) ds = drop_more ds i 0 h ∙ ap (λ d. d ∷ drop (i + 1) ds) (sym is) in
    let none : all_ascii_digits ds ≡ false = sym all ∙ ap all_ascii_digits next ∙ ap (λ b. b && all_ascii_digits (drop (i + 1) ds)) other in
    rw none (and-false (not (length ds == 0)))
  where
    and-false : (b : Bool) → (b && false) ≡ false
    and-false true = refl
    and-false false = refl

minus_sign : (bs : List ℕ) (b : Bool) → starts_with nat_eq bs (45 ∷ []) ≡ b → (slice_index bs 0 == 45) ≡ b
minus_sign [] b e = e
minus_sign (c ∷ cs) b e = flip b (sym (and-true (45 == c)) ∙ e)
  where
    and-true : (x : Bool) → (x && true) ≡ x
    and-true true = refl
    and-true false = refl

    flip : (x : Bool) → (45 == c) ≡ x → (c == 45) ≡ x
    flip true h = grind (arith, nat_tests, h)
    flip false h = grind (arith, nat_tests, h)

-- what a few digits give is an integer
pub plain_digits : (ds : List ℕ) (r : Option ℤ) → r ≡ (if is_numeral ds then Some (pos (digits_value 10 ds)) else None) → (is_numeral ds ≡ true → digits_value 10 ds < 2 ^ 63)
    → starts_with nat_eq ds (45 ∷ []) ≡ false → r ≡ int_of ds
plain_digits ds r is few sign = is ∙ shortly (is_numeral ds) (digits_value 10 ds) few ∙ rw (minus_sign ds false sign) refl
  where
    shortly : (b : Bool) (n : ℕ) → (b ≡ true → n < 2 ^ 63) → (if b then Some (pos n) else None) ≡ (if b && nat_lt n (2 ^ 63) then Some (pos n) else None)
    shortly true n few = rw (lt-true n (2 ^ 63) (few refl)) refl
    shortly false n few = refl

pub minus_digits : (bs : List ℕ) (r : Option ℤ) → r ≡ (if is_numeral (drop 1 bs) then Some (pos (digits_value 10 (drop 1 bs))) else None)
    → (is_numeral (drop 1 bs) ≡ true → digits_value 10 (drop 1 bs) < 2 ^ 63) → starts_with nat_eq bs (45 ∷ []) ≡ true → option_map neg_ℤ r ≡ int_of bs
minus_digits bs r is few sign =
    let ds = drop 1 bs in
    ap (option_map neg_ℤ) is ∙ shortly (is_numeral ds) (digits_value 10 ds) few ∙ rw (minus_sign bs true sign) refl
  where
    shortly : (b : Bool) (n : ℕ) → (b ≡ true → n < 2 ^ 63) → option_map neg_ℤ (if b then Some (pos n) else None) ≡ (if b && nat_le n (2 ^ 63) then Some (neg_ℤ (pos n)) else None)
    shortly true n few = (let low : n ≤ 2 ^ 63 = omega (arith, few refl) in rw (le-true n (2 ^ 63) low) refl)
    shortly false n few = refl

-- fewer than eighteen digits so far
pub few_so_far : (i number : ℕ) → number < 10 ^ i → i < 18 → number < 10 ^ 17
few_so_far i number low few = (let most : 10 ^ i ≤ 10 ^ 17 = pow-le-pow_right {n = 10} (omega arith) {i = i} {j = 17} (omega arith) in omega (arith, low, most))

pub all_so_far : (i number : ℕ) → number < 10 ^ i → i ≤ 18 → number < 2 ^ 63
all_so_far i number low few = (let most : 10 ^ i ≤ 10 ^ 18 = pow-le-pow_right {n = 10} (omega arith) {i = i} {j = 18} (omega arith) in omega (arith, low, most))

-- what is read at the end
pub numeral_is : (ds : List ℕ) (number : ℕ) → (length ds == 0) ≡ false → read_on number (drop (length ds) ds) ≡ read_on 0 ds → all_ascii_digits (drop (length ds) ds) ≡ all_ascii_digits ds
    → (is_numeral ds ≡ true) × (digits_value 10 ds ≡ number)
numeral_is ds number some told all =
    let none : drop (length ds) ds ≡ [] = drop_all (length ds) ds (omega arith) in
    let digits : all_ascii_digits ds ≡ true = sym all ∙ ap all_ascii_digits none in (
      rw (digits, some) refl,
      sym (read_on-value ds digits) ∙ sym told ∙ ap (read_on number) none,
    )

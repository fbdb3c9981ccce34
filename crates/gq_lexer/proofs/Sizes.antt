-- Each lexeme takes a character, and an integer is less than 2^63.
use Rattle.std.proofs.Common.{◌≡◌, ℕ, zero, suc, ◌+◌, ◌<◌, ◌^◌, Bool, true, false, cond, ◌==◌, ◌&&◌, ◌||◌, List, [], ◌∷◌, drop, take, Some, None, IfSome, nat_lt, refl, sym, subst, arith}
use Rattle.std.specs.Char.{is_ascii_digit, is_whitespace}
use Rattle.std.specs.declared.option.Option.{Option}
use Rattle.std.proofs.lemmas.Bool.{ltb-true}
use Rattle.gq_base.specs.Words.{code, is_word_start}
use Rattle.gq_lexer.specs.Characters.{begins, begins_digit}
use Rattle.gq_lexer.specs.Lexemes.{lexeme, lone_sign, longest, number_at, number_kind, numeral, pair_sign, quoted_at, runs_on, sign_at, signed, sized, slash_at, string_at, word_at}
use Rattle.gq_lexer.specs.Numbers.{digits_at, value_in}
use Rattle.gq_lexer.specs.steps.Tokens.{IntFits}
use Rattle.gq_lexer.specs.declared.lexeme.Lexeme.{Lexeme}
use Rattle.gq_lexer.specs.declared.token.Sign.{Sign}
use Rattle.gq_lexer.specs.declared.token.TokenKind.{TokenKind}
use Rattle.gq_lexer.specs.declared.token.TokenKind.TheVariants as kind
use Rattle.gq_lexer.proofs.Words.{word_some}

-- where there is a lexeme, it takes a character, and an integer is less than 2^63
record Sized (o : Option Lexeme) : Type 0 where
  size : (l : Lexeme) → o ≡ Some l → 0 < l.size
  fits : (l : Lexeme) → o ≡ Some l → IfSome l.kind IntFits

of_size : (l : Lexeme) → 0 < l.size → IfSome l.kind IntFits → Sized (Some l)
of_size l h k = record {
  size = λ m e. let same : l ≡ m = cc in subst (λ (m : Lexeme). 0 < m.size) same h;
  fits = λ m e. let same : l ≡ m = cc in subst (λ (m : Lexeme). IfSome m.kind IntFits) same k;
}

nothing : Sized None
nothing = record { size = λ l e. cc; fits = λ l e. cc }

either : (b : Bool) (x y : Option Lexeme) → (b ≡ true → Sized x) → (b ≡ false → Sized y) → Sized (cond b x y)
either true x y h k = h refl
either false x y h k = k refl

of_kind : (n : ℕ) (k : Option TokenKind) → 0 < n → IfSome k IntFits → Sized (sized n k)
of_kind n None h w = nothing
of_kind n (Some k) h w = of_size (record { size = n; kind = Some k }) h w

of_sign : (n : ℕ) (s : Option Sign) → 0 < n → Sized (signed n s)
of_sign n None h = nothing
of_sign n (Some s) h = of_size (record { size = n; kind = Some (kind.Sign s) }) h tt

of_longest : (o p : Option Lexeme) → Sized o → Sized p → Sized (longest o p)
of_longest (Some l) p h k = h
of_longest None p h k = k

has_digits : (n : ℕ) (b : Bool) → (n == 0 || b) ≡ false → 0 < n
has_digits zero b e = cc
has_digits (suc n) b e = omega arith

kind_fits : (v : ℕ) (small big : Bool) → (small ≡ true → v < 2 ^ 63) → IfSome (cond small (Some (kind.Int v)) (cond big (Some kind.Big) None)) IntFits
kind_fits v true big h = h refl
kind_fits v false true h = tt
kind_fits v false false h = tt

number_fits : (v : ℕ) → IfSome (number_kind v) IntFits
number_fits v = kind_fits v (nat_lt v (2 ^ 63)) (v == 2 ^ 63) (ltb-true v (2 ^ 63))

of_numeral : (base front : ℕ) (cs : List ℕ) → Sized (numeral base front cs)
of_numeral base front cs =
    let size = digits_at base cs in
    either (size == 0 || runs_on (drop size cs)) None (sized (front + size) (number_kind (value_in base (take size cs)))) (λ _. nothing)
    (λ e. let some = has_digits size (runs_on (drop size cs)) e in of_kind (front + size) (number_kind (value_in base (take size cs))) (omega arith) (number_fits (value_in base (take size cs))))

of_number : (cs : List ℕ) → Sized (number_at cs)
of_number [] = nothing
of_number (c ∷ cs) =
    either (c == code "0" && begins (code "x") cs) (numeral 16 2 (drop 1 cs)) _ (λ _. of_numeral 16 2 (drop 1 cs))
    (λ _. either (c == code "0" && begins_digit cs) None (numeral 10 0 (c ∷ cs)) (λ _. nothing) (λ _. of_numeral 10 0 (c ∷ cs)))

of_quoted : (cs : List ℕ) → Sized (quoted_at cs)
of_quoted cs = either _ _ None (λ _. of_size _ (omega arith) tt) (λ _. nothing)

of_string : (quote : ℕ) (cs : List ℕ) → Sized (string_at quote cs)
of_string quote cs = either _ _ None (λ _. of_size _ (omega arith) tt) (λ _. nothing)

of_slash : (cs : List ℕ) → Sized (slash_at cs)
of_slash [] = of_size _ (omega arith) tt
of_slash (c ∷ cs) =
    either (c == code "/") _ _ (λ _. of_size _ (omega arith) tt)
    (λ _. either (c == code "*") _ _ (λ _. either _ _ None (λ _. of_size _ (omega arith) tt) (λ _. nothing)) (λ _. of_size _ (omega arith) tt))

of_signs : (c : ℕ) (cs : List ℕ) → Sized (sign_at c cs)
of_signs c [] = of_sign 1 (lone_sign c) (omega arith)
of_signs c (d ∷ cs) = of_longest (signed 2 (pair_sign c d)) (signed 1 (lone_sign c)) (of_sign 2 (pair_sign c d) (omega arith)) (of_sign 1 (lone_sign c) (omega arith))

of_word : (c : ℕ) (cs : List ℕ) → is_word_start c ≡ true → Sized (word_at (c ∷ cs))
of_word c cs e = of_size _ (word_some (c ∷ cs) c refl (sym e)) tt

of_lexeme : (cs : List ℕ) → Sized (lexeme cs)
of_lexeme [] = nothing
of_lexeme (c ∷ cs) =
    either (is_whitespace c) _ _ (λ _. of_size _ (omega arith) tt)
    (λ _. either (is_word_start c) _ _ (of_word c cs)
    (λ _. either (is_ascii_digit c) _ _ (λ _. of_number (c ∷ cs))
    (λ _. either (c == code "`") _ _ (λ _. of_quoted cs)
    (λ _. either (c == code "'" || c == code "\"") _ _ (λ _. of_string c cs)
    (λ _. either (c == code "/") _ _ (λ _. of_slash cs) (λ _. of_signs c cs))))))

-- the lexeme that a text begins with takes a character
pub lexeme_some : (cs : List ℕ) (l : Lexeme) → lexeme cs ≡ Some l → 0 < l.size
lexeme_some cs l e = (of_lexeme cs).size l e

-- and an integer is less than 2^63
pub lexeme_fits : (cs : List ℕ) (l : Lexeme) → lexeme cs ≡ Some l → IfSome l.kind IntFits
lexeme_fits cs l e = (of_lexeme cs).fits l e

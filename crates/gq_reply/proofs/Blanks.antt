-- Statements of white space have no tokens, and those that go wrong before their end have some.
use Rattle.std.proofs.Common.{◌≡◌, ℕ, ◌+◌, ◌<◌, true, cond, List, [], ◌∷◌, ◌++◌, length, Ok, Err, refl, sym, ap, ◌∙◌, subst, arith, inl, inr}
use Rattle.std.specs.List.{list_all}
use Rattle.std.specs.Prelude.{take, ◌==◌, ◌||◌}
use Rattle.std.specs.Str.{chars, IsAscii}
use Rattle.std.specs.Str.Lossy.{utf8_valid_len}
use Rattle.std.proofs.lemmas.Bool.{and_parts, eqb-true, or_cases}
use Rattle.std.proofs.lemmas.Str.{chars-IsAscii, IsUtf8-from_ascii, is_utf8-from_IsUtf8}
use Rattle.std.proofs.lemmas.Str.Ascii.{IsAscii-nil, IsAscii-cons}
use Rattle.gq_lexer.specs.Lexemes.{blank, lexeme}
use Rattle.gq_lexer.specs.Tokens.{Lexed, lexed, lexed_behind, lexed_from, prefixed, then_from, width}
use Rattle.gq_lexer.specs.declared.token.Token.{Token}
use Rattle.gq_reply.specs.Replies.{IsBlank}
use Rattle.gq_reply.specs.steps.Gaps.{is_gap}
use Rattle.gq_syntax.specs.Outcomes.{SyntaxAt, place_of}

-- what holds of a space, a tab and both line ends holds of each gap
each_gap : (P : ℕ → Type 0) → P 32 → P 9 → P 10 → P 13 → (b : ℕ) → is_gap b ≡ true → P b
each_gap P space tab feed return b h = elim (or_cases (b == 32 || b == 9) (b == 10 || b == 13) h) [
  | inl one ↦ elim (or_cases (b == 32) (b == 9) one) [
    | inl e ↦ subst P (sym (eqb-true b 32 e)) space
    | inr e ↦ subst P (sym (eqb-true b 9 e)) tab
  ]
  | inr one ↦ elim (or_cases (b == 10) (b == 13) one) [
    | inl e ↦ subst P (sym (eqb-true b 10 e)) feed
    | inr e ↦ subst P (sym (eqb-true b 13 e)) return
  ]
]

white_ascii : (bs : List ℕ) → list_all is_gap bs ≡ true → IsAscii bs
white_ascii [] h = IsAscii-nil
white_ascii (b ∷ bs) h =
    let both = and_parts (is_gap b) (list_all is_gap bs) h in
    IsAscii-cons b bs (each_gap (λ c. c < 128) (omega arith) (omega arith) (omega arith) (omega arith) b both.0) (white_ascii bs both.1)

white_behind : (at : ℕ) (cs : List ℕ) → list_all is_gap cs ≡ true → lexed_behind 0 at cs ≡ Ok []
white_behind at [] h = refl
white_behind at (c ∷ cs) h =
    let both = and_parts (is_gap c) (list_all is_gap cs) h in
    let skips : lexeme (c ∷ cs) ≡ blank 1 = each_gap (λ d. lexeme (d ∷ cs) ≡ blank 1) refl refl refl refl c both.0 in
    ap (λ o. then_from o at (c ∷ cs) (λ left end. lexed_behind left end cs)) skips
    ∙ ap (prefixed []) (white_behind (at + width (take 1 (c ∷ cs))) cs both.1)

-- white space alone has no tokens
pub white_blank : (text : List ℕ) → list_all is_gap text ≡ true → IsBlank text
unfolding lexed lexed_from
white_blank text h =
    let ascii = white_ascii text h in
    ap (λ b. cond b (lexed_behind 0 0 (chars text)) (Err (utf8_valid_len text))) (is_utf8-from_IsUtf8 text (IsUtf8-from_ascii text ascii))
    ∙ ap (lexed_behind 0 0) (chars-IsAscii text ascii) ∙ white_behind 0 text h

rest_none : (before rest : List Token) → before ++ rest ≡ [] → rest ≡ []
rest_none [] rest e = e
rest_none (t ∷ before) rest e = cc

-- a statement that goes wrong before its end has a token there
pub stops_not_blank : (text : List ℕ) (at : ℕ) → SyntaxAt text at → at < length text → IsBlank text → ⊥
stops_not_blank text at (before, rest, stops, stuck) low blank =
    let tokens : ◌≡◌ {A = Lexed} (Ok (before ++ rest)) (Ok []) = sym stops.tokens ∙ blank in
    let none : before ++ rest ≡ [] = cc in
    let end : at ≡ length text = stops.place ∙ ap (λ r. place_of r (length text)) (rest_none before rest none) in
    omega (arith, low, end)

-- The tokens of a text are those of its first lexeme and those of the rest.
use Rattle.std.proofs.Common.{◌≡◌, ℕ, zero, suc, ◌+◌, ◌-◌, ◌<◌, ◌≤◌, Bool, true, false, cond, List, [], ◌∷◌, ◌++◌, length, take, drop, Some, None, Ok, Err, refl, sym, ap, ◌∙◌, append_assoc, append-nil, arith}
use Rattle.std.specs.Prelude.{is_some}
use Rattle.std.specs.Str.{chars, is_utf8, IsUtf8}
use Rattle.std.specs.Str.Lossy.{utf8_valid_len}
use Rattle.std.proofs.lemmas.List.{drop-drop}
use Rattle.std.proofs.lemmas.Str.{IsUtf8-from_is_utf8, is_utf8-from_IsUtf8}
use Rattle.gq_lexer.specs.Lexemes.{lexeme}
use Rattle.gq_lexer.specs.Tokens.{InOrder, Lexed, lexed, lexed_behind, lexed_from, prefixed, then_from, tokens_of, width}
use Rattle.gq_lexer.specs.declared.lexeme.Lexeme.{Lexeme}
use Rattle.gq_ast.specs.declared.span.Span.{Span}
use Rattle.gq_lexer.specs.declared.token.Token.{Token}
use Rattle.gq_lexer.specs.declared.token.TokenKind.{TokenKind}
use Rattle.std.specs.declared.option.Option.{Option}
use Rattle.gq_lexer.proofs.Pieces.{drop_one}

skipped : (left at : ℕ) (cs : List ℕ) → lexed_behind left at cs ≡ lexed_from at (drop left cs)
unfolding lexed_from
skipped zero at cs = refl
skipped (suc left) at [] = refl
skipped (suc left) at (c ∷ cs) = skipped left at cs

-- where a lexeme stands, its token is the first
pub lexed_more : (at : ℕ) (cs : List ℕ) (l : Lexeme) → Some l ≡ lexeme cs → 0 < l.size
    → lexed_from at cs ≡ prefixed (tokens_of l.kind (record { start = at; end = at + width (take l.size cs) })) (lexed_from (at + width (take l.size cs)) (drop l.size cs))
unfolding lexed_from
lexed_more at [] l is h = cc
lexed_more at (c ∷ cs) l is h =
    let end = at + width (take l.size (c ∷ cs)) in
    ap (λ o. then_from o at (c ∷ cs) (λ left e. lexed_behind left e cs)) (sym is)
    ∙ ap (prefixed (tokens_of l.kind (record { start = at; end = end }))) (skipped (l.size - 1) end cs ∙ ap (lexed_from end) (drop_one l.size c cs h))

-- where none stands, the text fails
pub lexed_fails : (at : ℕ) (cs : List ℕ) → None ≡ lexeme cs → 0 < length cs → lexed_from at cs ≡ Err at
unfolding lexed_from
lexed_fails at [] is h = absurd (omega arith)
lexed_fails at (c ∷ cs) is h = ap (λ o. then_from o at (c ∷ cs) (λ left e. lexed_behind left e cs)) (sym is)

pub lexed_nothing : (at : ℕ) → lexed_from at [] ≡ Ok []
unfolding lexed_from
lexed_nothing at = refl

prefixed_both : (xs ys : List Token) (rest : Lexed) → prefixed xs (prefixed ys rest) ≡ prefixed (xs ++ ys) rest
prefixed_both xs ys (Ok more) = ap Ok (sym (append_assoc xs ys more))
prefixed_both xs ys (Err at) = refl

pub prefixed_none : (rest : Lexed) → rest ≡ prefixed [] rest
prefixed_none (Ok more) = refl
prefixed_none (Err at) = refl

-- one more lexeme was read
pub lexed_next : (cs rest : List ℕ) (place at w : ℕ) (l : Lexeme) (tokens new : List Token) → rest ≡ drop place cs → Some l ≡ lexeme rest → 0 < l.size → w ≡ width (take l.size rest)
    → lexed_from 0 cs ≡ prefixed tokens (lexed_from at (drop place cs)) → new ≡ tokens ++ tokens_of l.kind (record { start = at; end = at + w })
    → lexed_from 0 cs ≡ prefixed new (lexed_from (at + w) (drop (place + l.size) cs))
lexed_next cs rest place at w l tokens new e is h wide so_far pushed =
    let first = λ (n : ℕ). tokens_of l.kind (record { start = at; end = at + n }) in
    let more : lexed_from at rest ≡ prefixed (first w) (lexed_from (at + w) (drop l.size rest))
    = lexed_more at rest l is h ∙ ap (λ n. prefixed (first n) (lexed_from (at + n) (drop l.size rest))) (sym wide) in
    so_far ∙ ap (λ r. prefixed tokens (lexed_from at r)) (sym e) ∙ ap (prefixed tokens) more ∙ prefixed_both tokens (first w) _ ∙ ap (λ t. prefixed t (lexed_from (at + w) (drop l.size rest))) (sym pushed)
    ∙ ap (λ r. prefixed new (lexed_from (at + w) r)) (ap (drop l.size) e ∙ drop-drop l.size place cs)

-- the next lexeme fails
pub lexed_stops : (cs rest : List ℕ) (place at : ℕ) (tokens : List Token) → rest ≡ drop place cs → None ≡ lexeme rest → 0 < length rest
    → lexed_from 0 cs ≡ prefixed tokens (lexed_from at (drop place cs)) → lexed_from 0 cs ≡ Err at
lexed_stops cs rest place at tokens e is some so_far = so_far ∙ ap (λ r. prefixed tokens (lexed_from at r)) (sym e) ∙ ap (prefixed tokens) (lexed_fails at rest is some)

-- there is no more text
pub lexed_ends : (cs : List ℕ) (place at : ℕ) (tokens : List Token) → drop place cs ≡ [] → lexed_from 0 cs ≡ prefixed tokens (lexed_from at (drop place cs)) → lexed_from 0 cs ≡ Ok tokens
lexed_ends cs place at tokens none so_far =
    so_far ∙ ap (λ r. prefixed tokens (lexed_from at r)) none ∙ ap (prefixed tokens) (lexed_nothing at) ∙ ap Ok (append-nil tokens)

-- a text that fails is not blank
pub fails_not_blank : (cs : List ℕ) (at : ℕ) → lexed_from 0 cs ≡ Err at → lexed_from 0 cs ≡ Ok [] → ⊥
fails_not_blank cs at fails blank = let e : ◌≡◌ {A = Lexed} (Err at) (Ok []) = sym fails ∙ blank in cc e

token_first : (kind : Option TokenKind) (span : Span) (rest : Lexed) → is_some kind ≡ true → prefixed (tokens_of kind span) rest ≡ Ok [] → ⊥
token_first None span rest some e = cc some
token_first (Some k) span (Ok more) some e = cc e
token_first (Some k) span (Err at) some e = cc e

-- nor is one with a token
pub token_not_blank : (cs rest : List ℕ) (place at : ℕ) (l : Lexeme) → rest ≡ drop place cs → Some l ≡ lexeme rest → 0 < l.size → is_some l.kind ≡ true
    → lexed_from 0 cs ≡ prefixed [] (lexed_from at (drop place cs)) → lexed_from 0 cs ≡ Ok [] → ⊥
token_not_blank cs rest place at l e is h some so_far blank =
    let w = width (take l.size rest) in
    let next = lexed_next cs rest place at w l [] _ e is h refl so_far refl in
    token_first l.kind (record { start = at; end = at + w }) _ some (sym next ∙ blank)

no_token : (kind : Option TokenKind) (span : Span) → is_some kind ≡ false → tokens_of kind span ≡ []
no_token None span none = refl
no_token (Some k) span none = cc none

-- one more lexeme was read that is no token
pub blank_next : (cs rest : List ℕ) (place at : ℕ) (l : Lexeme) → rest ≡ drop place cs → Some l ≡ lexeme rest → 0 < l.size → is_some l.kind ≡ false
    → lexed_from 0 cs ≡ prefixed [] (lexed_from at (drop place cs))
    → (end : ℕ) × (lexed_from 0 cs ≡ prefixed [] (lexed_from end (drop (place + l.size) cs)))
blank_next cs rest place at l e is h none so_far =
    let w = width (take l.size rest) in
    (at + w, lexed_next cs rest place at w l [] [] e is h refl so_far (sym (no_token l.kind (record { start = at; end = at + w }) none)))

-- a text that is UTF-8, and one that is not
pub lexed_text : (text : List ℕ) → IsUtf8 text → lexed text ≡ lexed_from 0 (chars text)
unfolding lexed
lexed_text text u = ap (λ b. cond b (lexed_from 0 (chars text)) (Err (utf8_valid_len text))) (is_utf8-from_IsUtf8 text u)

not_utf8 : (text : List ℕ) → ¬ (IsUtf8 text) → (b : Bool) → is_utf8 text ≡ b → b ≡ false
not_utf8 text not true e = absurd (not (IsUtf8-from_is_utf8 text e))
not_utf8 text not false e = refl

pub lexed_bytes : (text : List ℕ) → ¬ (IsUtf8 text) → lexed text ≡ Err (utf8_valid_len text)
unfolding lexed
lexed_bytes text not = ap (λ b. cond b (lexed_from 0 (chars text)) (Err (utf8_valid_len text))) (not_utf8 text not (is_utf8 text) refl)

-- tokens that stand up to one byte stand up to a later one
pub in_order_to : (from at end : ℕ) (ts : List Token) → at ≤ end → InOrder from at ts → InOrder from end ts
in_order_to from at end [] h o = omega arith
in_order_to from at end (t ∷ ts) h o = (o.0, o.1, in_order_to t.span.end at end ts h o.2)

-- the token of a lexeme stands behind those before it
pub in_order_next : (from at end : ℕ) (ts : List Token) (kind : Option TokenKind) → at < end → InOrder from at ts → InOrder from end (ts ++ tokens_of kind (record { start = at; end = end }))
in_order_next from at end [] None h o = omega arith
in_order_next from at end [] (Some k) h o = (o, h, omega arith)
in_order_next from at end (t ∷ ts) kind h o = (o.0, o.1, in_order_next t.span.end at end ts kind h o.2)

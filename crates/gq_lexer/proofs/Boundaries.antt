-- The tokens of a text begin and end between its characters, and their integers are less than 2^63.
use Rattle.std.proofs.Common.{◌≡◌, ℕ, zero, suc, ◌+◌, ◌-◌, ◌<◌, ◌≤◌, ◌⊎◌, inl, inr, Bool, true, false, cond, ◌&&◌, List, [], ◌∷◌, ◌++◌, take, drop, slice_range, Some, None, Ok, Err, All, IfSome, refl, sym, ap, subst, ◌∙◌, add-zero, add_assoc, arith}
use Rattle.std.specs.Str.{IsCharBoundary, IsUtf8, chars, encode_utf8_all, is_utf8, all_scalars}
use Rattle.std.specs.Str.Lossy.{utf8_valid_len}
use Rattle.std.specs.declared.option.Option.{Option}
use Rattle.std.proofs.Math.Seq.{take-add}
use Rattle.std.proofs.lemmas.Bool.{cases_lt}
use Rattle.std.proofs.lemmas.List.{take-append-drop}
use Rattle.std.proofs.lemmas.List.Elements.{All-append, All-cons, All-nil, All-same}
use Rattle.std.proofs.lemmas.Str.{IsCharBoundary-at_seam, IsUtf8-between, IsUtf8-from_is_utf8, encodes-append, encodes-chars, scalars-chars}
use Rattle.gq_lexer.specs.Lexemes.{lexeme}
use Rattle.gq_ast.specs.Sources.{IsWhole}
use Rattle.gq_lexer.specs.Tokens.{Lexed, lexed, lexed_behind, lexed_from, prefixed, then_from, tokens_of, width}
use Rattle.gq_lexer.specs.steps.Tokens.{IntFits}
use Rattle.gq_lexer.specs.declared.lexeme.Lexeme.{Lexeme}
use Rattle.gq_ast.specs.declared.span.Span.{Span}
use Rattle.gq_lexer.specs.declared.token.Token.{Token}
use Rattle.gq_lexer.specs.declared.token.TokenKind.{TokenKind}
use Rattle.gq_lexer.proofs.Pieces.{drop_one}
use Rattle.gq_lexer.proofs.Sizes.{lexeme_fits, lexeme_some}
use Rattle.gq_lexer.proofs.Widths.{width_append}

-- between two boundaries of a text stands one
between : (text : List ℕ) (i j : ℕ) → IsUtf8 text → IsCharBoundary text i → IsCharBoundary text j → IsUtf8 (slice_range text i j)
between text i j u a b = go (cases_lt j i) where
  go : (j < i) ⊎ (i ≤ j) → IsUtf8 (slice_range text i j)
  go (inr le) = IsUtf8-between text i j u le a b
  go (inl lt) = let none : j - i ≡ 0 = omega arith in rw none ([], (refl, refl))

-- a span between two boundaries
pub whole_of : (text : List ℕ) (span : Span) → IsUtf8 text → IsCharBoundary text span.start → IsCharBoundary text span.end → IsWhole text span
whole_of text span u a b = record { start = a; end = b; utf8 = between text span.start span.end u a b }

-- a token begins and ends between characters, and an integer is less than 2^63
abbrev pub IsWholeToken : List ℕ → Token → Type 0
IsWholeToken text t = IsWhole text t.span × IntFits t.kind

module _ (text : List ℕ) (utf8 : IsUtf8 text) where
  abbrev Whole : Token → Type 0
  Whole = IsWholeToken text

  -- the ends of characters behind a place are boundaries
  abbrev Reaches : ℕ → List ℕ → Type 0
  Reaches at cs = (k : ℕ) → IsCharBoundary text (at + width (take k cs))

  here : (at : ℕ) (cs : List ℕ) → Reaches at cs → IsCharBoundary text at
  here at cs r = subst (IsCharBoundary text) (add-zero at) (r 0)

  further : (at size : ℕ) (cs : List ℕ) → Reaches at cs → Reaches (at + width (take size cs)) (drop size cs)
  further at size cs r k =
      let both : at + width (take (size + k) cs) ≡ (at + width (take size cs)) + width (take k (drop size cs))
      = ap (λ w. at + w) (ap width (take-add size k cs) ∙ width_append (take size cs) (take k (drop size cs))) ∙ sym (add_assoc at (width (take size cs)) (width (take k (drop size cs)))) in
      subst (IsCharBoundary text) both (r (size + k))

  one : (k : Option TokenKind) (span : Span) → IsWhole text span → IfSome k IntFits → All Whole (tokens_of k span)
  one None span h w = All-nil Whole
  one (Some k) span h w = All-cons Whole (record { kind = k; span = span }) [] (h, w) (All-nil Whole)

  put : (ts us : List Token) (r : Lexed) → All Whole ts → ((more : List Token) → r ≡ Ok more → All Whole more) → prefixed ts r ≡ Ok us → All Whole us
  put ts us (Ok more) h k e = let same : us ≡ ts ++ more = cc in All-same Whole us (ts ++ more) same (All-append Whole ts more h (k more refl))
  put ts us (Err at) h k e = cc

  -- the tokens of a lexeme and of the rest
  first : (at c : ℕ) (cs : List ℕ) (ts : List Token) → Reaches at (c ∷ cs)
      → ((left end : ℕ) (more : List Token) → Reaches end (drop left cs) → lexed_behind left end cs ≡ Ok more → All Whole more)
      → (o : Option Lexeme) → lexeme (c ∷ cs) ≡ o → then_from o at (c ∷ cs) (λ left end. lexed_behind left end cs) ≡ Ok ts → All Whole ts
  first at c cs ts r rest None is e = cc
  first at c cs ts r rest (Some l) is e =
      let end = at + width (take l.size (c ∷ cs)) in
      let behind : Reaches end (drop (l.size - 1) cs) = subst (Reaches end) (sym (drop_one l.size c cs (lexeme_some (c ∷ cs) l is))) (further at l.size (c ∷ cs) r) in
      put (tokens_of l.kind (record { start = at; end = end })) ts (lexed_behind (l.size - 1) end cs)
      (one l.kind (record { start = at; end = end }) (whole_of text (record { start = at; end = end }) utf8 (here at (c ∷ cs) r) (r l.size)) (lexeme_fits (c ∷ cs) l is)) (λ more. rest (l.size - 1) end more behind) e

  tokens_whole : (left at : ℕ) (cs : List ℕ) (ts : List Token) → Reaches at (drop left cs) → lexed_behind left at cs ≡ Ok ts → All Whole ts
  tokens_whole left at [] ts r e = let same : ts ≡ [] = cc in All-same Whole ts [] same (All-nil Whole)
  tokens_whole (suc left) at (c ∷ cs) ts r e = tokens_whole left at cs ts r e
  tokens_whole zero at (c ∷ cs) ts r e = first at c cs ts r (λ left end more. tokens_whole left end cs more) (lexeme (c ∷ cs)) refl e

  scalars_behind : (k : ℕ) (cs : List ℕ) → all_scalars cs ≡ true → all_scalars (drop k cs) ≡ true
  scalars_behind zero cs e = e
  scalars_behind (suc k) [] e = e
  scalars_behind (suc k) (c ∷ cs) e = scalars_behind k cs (second _ (all_scalars cs) e) where
    second : (a b : Bool) → (a && b) ≡ true → b ≡ true
    second true b e = e
    second false b e = cc

  reached : Reaches 0 (chars text)
  reached k =
      let cs = chars text in
      let whole : text ≡ encode_utf8_all (take k cs) ++ encode_utf8_all (drop k cs) = sym (encodes-chars text utf8) ∙ ap encode_utf8_all (sym (take-append-drop k cs)) ∙ encodes-append (take k cs) (drop k cs) in
      let seam = IsCharBoundary-at_seam text (encode_utf8_all (take k cs)) (encode_utf8_all (drop k cs)) whole (drop k cs, (scalars_behind k cs (scalars-chars text utf8), refl)) in
      subst (IsCharBoundary text) (omega arith) seam

-- a text that has tokens is UTF-8
tested : (text : List ℕ) (ts : List Token) (b : Bool) → is_utf8 text ≡ b → cond b (lexed_from 0 (chars text)) (Err (utf8_valid_len text)) ≡ Ok ts → IsUtf8 text × (lexed_from 0 (chars text) ≡ Ok ts)
tested text ts true u e = (IsUtf8-from_is_utf8 text u, e)
tested text ts false u e = cc

pub lexed_utf8 : (text : List ℕ) (ts : List Token) → lexed text ≡ Ok ts → IsUtf8 text
unfolding lexed
lexed_utf8 text ts e = (tested text ts (is_utf8 text) refl e).0

-- the tokens of a text begin and end between its characters, and their integers are less than 2^63
pub lexed_whole : (text : List ℕ) (ts : List Token) → lexed text ≡ Ok ts → All (IsWholeToken text) ts
unfolding lexed lexed_from
lexed_whole text ts e = let h = tested text ts (is_utf8 text) refl e in tokens_whole text h.0 0 0 (chars text) ts (reached text h.0) h.1

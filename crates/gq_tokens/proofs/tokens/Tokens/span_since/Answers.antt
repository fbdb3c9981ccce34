use Rattle.std.proofs.Common.{◌≡◌, ◌-◌, ◌≤◌, List, [], ◌∷◌, length, take, get_or, refl, sym, ◌∙◌, ap, subst, arith}
use Rattle.gq_lexer.specs.declared.token.Token.{Token}
use Rattle.gq_ast.specs.declared.span.Span.{Span}
use Rattle.gq_tokens.specs.Relations.{span_of, last_end}
use Rattle.gq_tokens.proofs.tokens.Tokens.span_since.Goals as goal

last_token : (t : Token) (ts : List Token) (d : Token) → last_end t ts ≡ (get_or (t ∷ ts) (length ts) d).span.end
last_token t [] d = refl
last_token t (u ∷ ts) d = last_token u ts d

ends : (xs : List Token) (first last : Token) → first ≡ get_or xs 0 first → last ≡ get_or xs (length xs - 1) last → 2 ≤ length xs
    → ◌≡◌ {A = Span} (record { start = first.span.start; end = last.span.end }) (span_of xs)
ends [] first last f l h = absurd (omega arith)
ends (t ∷ ts) first last f l h =
    let n : length (t ∷ ts) - 1 ≡ length ts = omega arith in
    let e : last_end t ts ≡ last.span.end = last_token t ts last ∙ ap (λ k. (get_or (t ∷ ts) k last).span.end) (sym n) ∙ ap (λ u. u.span.end) (sym l) in
    rw (e, f) refl

pub returns-in-len2-up : goal.returns-in-len2-up
returns-in-len2-up c =
    let size : c.saturating_sub.result ≡ length c.args.start.now - length c.args.self.now
    = c.saturating_sub.ensures ∙ ap (λ left. length c.args.start.now - length left) c.self.view_is in
    subst (λ n. ◌≡◌ {A = Span} (record { start = c.first-item.result.span.start; end = c.last-item.result.span.end }) (span_of (take n c.args.start.now))) size
    (ends (take c.saturating_sub.result c.args.start.now) _ _ c.first-item.is c.last-item.is c.in-len2-up.len_at_least)

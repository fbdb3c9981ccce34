-- Readers of constructs: one that nests, one with its span, and the end of the list.
use Rattle.std.specs.Prelude.{ℕ, zero, suc, ◌-◌, [], ◌∷◌, length, take, Option}
use Rattle.gq_ast.specs.declared.span.Span.{Span}
use Rattle.gq_lexer.specs.declared.token.Token.{Token}
use Rattle.gq_tokens.specs.Readers.{Deep, Done, Reader, Syntax, fork, head_by, on_done, on_head}
use Rattle.gq_tokens.specs.Relations.{span_of}

-- there is no room for what f takes
abbrev pub too_deep : {S B : Type 0} → (Token → Option S) → Reader B → Reader B
too_deep f q = λ ts. on_head (head_by f ts) (λ s. (Deep, ts)) (q ts)

-- a nested construct, which a token that f takes opens, where there is room for one; or else q
unfoldable pub nest : {S B : Type 0} → ℕ → (Token → Option S) → (S → Reader B) → Reader B → Reader B
nest zero f p q = too_deep f q
nest (suc room) f p q = fork f p q

-- x, at the end of the list alone
abbrev pub finish : {A : Type 0} → A → Reader A
finish x [] = (Done x, [])
finish x (t ∷ ts) = (Syntax, t ∷ ts)

-- a value that is made of what p reads and of its span
abbrev pub spanned : {A B : Type 0} → (A → Span → B) → Reader A → Reader B
spanned make p = λ ts. on_done (p ts).0 (p ts).1 (λ x rest. (Done (make x (span_of (take (length ts - length rest) ts))), rest))

-- Relations between lists of tokens and what they spell.
use Rattle.std.specs.Prelude.{◌≡◌, ℕ, zero, suc, List, [], ◌∷◌, ◌++◌, Option, Some, None, ◌⊎◌}
use Rattle.gq_lexer.specs.declared.token.Sign.{Sign}
use Rattle.gq_lexer.specs.declared.token.Sign.TheVariants.{Comma}
use Rattle.gq_ast.specs.declared.span.Span.{Span}
use Rattle.gq_lexer.specs.declared.token.Token.{Token}
use Rattle.gq_tokens.specs.Words.{sign_is}

-- no token; the value is given
abbrev pub Pure : {A : Type 0} → A → List Token → A → Type 0
Pure x ts y = (ts ≡ []) × (y ≡ x)

-- nothing is spelled
abbrev pub Nothing : {A : Type 0} → List Token → A → Type 0
Nothing ts x = ⊥

-- first R, and then what S says of its value
abbrev pub Then : {A B : Type 0} → (List Token → A → Type 0) → (A → List Token → B → Type 0) → List Token → B → Type 0
Then {A} R S ts y = (a b : List Token) × (x : A) × (ts ≡ a ++ b) × R a x × S x b y

-- a value that is made of what R spells
abbrev pub Into : {A B : Type 0} → (A → B) → (List Token → A → Type 0) → List Token → B → Type 0
Into make R = Then R (λ x. Pure (make x))

-- a token that f takes, and behind it P; or else Q
abbrev pub Fork : {S B : Type 0} → (Token → Option S) → (S → List Token → B → Type 0) → (List Token → B → Type 0) → List Token → B → Type 0
Fork {S} f P Q ts y = ((t : Token) × (s : S) × (r : List Token) × (ts ≡ t ∷ r) × (f t ≡ Some s) × P s r y) ⊎ Q ts y

-- a token that f takes, and behind it P
abbrev pub Must : {S B : Type 0} → (Token → Option S) → (S → List Token → B → Type 0) → List Token → B → Type 0
Must f P = Fork f P Nothing

-- a token that f takes, and behind it P, or none of it
abbrev pub Maybe : {S B : Type 0} → (Token → Option S) → (S → List Token → B → Type 0) → List Token → Option B → Type 0
Maybe f P = Fork f (λ s. Into Some (P s)) (Pure None)

-- a nested construct, which a token that f takes opens, where there is room for one; or else Q
abbrev pub Nest : {S B : Type 0} → ℕ → (Token → Option S) → (S → List Token → B → Type 0) → (List Token → B → Type 0) → List Token → B → Type 0
Nest zero f P Q = Q
Nest (suc room) f P Q = Fork f P Q

-- any number of times a token that f takes, and P behind it
abbrev pub Many : {S B : Type 0} → (Token → Option S) → (S → List Token → B → Type 0) → List Token → List B → Type 0
Many f P ts [] = ts ≡ []
Many {S} f P ts (x ∷ xs) = (t : Token) × (s : S) × (a b : List Token) × (ts ≡ t ∷ (a ++ b)) × (f t ≡ Some s) × P s a x × Many f P b xs

-- P { "," P }
abbrev pub Listed : {B : Type 0} → (List Token → B → Type 0) → List Token → List B → Type 0
Listed P = Then P (λ x. Into (λ xs. x ∷ xs) (Many (sign_is Comma) (λ _. P)))

-- [ P { "," P } ] and the sign that closes
abbrev pub Enclosed : {B : Type 0} → Sign → (List Token → B → Type 0) → List Token → List B → Type 0
Enclosed close P = Fork (sign_is close) (λ _. Pure []) (Then (Listed P) (λ xs. Must (sign_is close) (λ _. Pure xs)))

abbrev pub last_end : Token → List Token → ℕ
last_end t [] = t.span.end
last_end t (u ∷ ts) = last_end u ts

-- from the first byte of the first token to the byte behind the last
abbrev pub span_of : List Token → Span
span_of [] = record { start = 0; end = 0 }
span_of (t ∷ ts) = record { start = t.span.start; end = last_end t ts }

-- a value that is made of what R spells and of its span
abbrev pub Spanned : {A B : Type 0} → (A → Span → B) → (List Token → A → Type 0) → List Token → B → Type 0
Spanned {A} make R ts y = (x : A) × R ts x × (y ≡ make x (span_of ts))

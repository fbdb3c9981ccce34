-- Readers of token lists, by the same combinators as the relations: a reader takes tokens from the front, and stops at
-- the first one with which it cannot go on.
use Rattle.std.specs.Prelude.{ℕ, zero, suc, List, [], ◌∷◌, length, Option, Some, None}
use Rattle.gq_lexer.specs.declared.token.Sign.{Sign}
use Rattle.gq_lexer.specs.declared.token.Sign.TheVariants.{Comma}
use Rattle.gq_lexer.specs.declared.token.Token.{Token}
use Rattle.gq_tokens.specs.Words.{sign_is}

-- how a reader ends: with a value, at a token that cannot come, or at one that opens a construct for which there is no room
pub data Verdict (A : Type 0) : Type 0 where
  Done : A → Verdict A
  Syntax : Verdict A
  Deep : Verdict A

-- a verdict, and the tokens that are left
abbrev pub Out : Type 0 → Type 0
Out A = Verdict A × List Token

-- what it answers at each list of tokens
abbrev pub Reader : Type 0 → Type 0
Reader A = List Token → Out A

-- q behind a value; a stop stays
abbrev pub on_done : {A B : Type 0} → Verdict A → List Token → (A → Reader B) → Out B
on_done (Done x) rest q = q x rest
on_done Syntax rest q = (Syntax, rest)
on_done Deep rest q = (Deep, rest)

-- first p, and then what q does with its value
infixl 10 ◌>>=◌
abbrev pub ◌>>=◌ : {A B : Type 0} → Reader A → (A → Reader B) → Reader B
p >>= q = λ ts. on_done (p ts).0 (p ts).1 q

-- no token; the value is given
abbrev pub pure : {A : Type 0} → A → Reader A
pure x = λ ts. (Done x, ts)

-- the next token cannot come
abbrev pub fail : {A : Type 0} → Reader A
fail = λ ts. (Syntax, ts)

-- a value that is made of what p reads
abbrev pub into : {A B : Type 0} → (A → B) → Reader A → Reader B
into make p = p >>= λ x. pure (make x)

-- what the next token stands for
abbrev pub head_by : {S : Type 0} → (Token → Option S) → List Token → Option S
head_by f [] = None
head_by f (t ∷ ts) = f t

-- the tokens behind the next one
abbrev pub tail : List Token → List Token
tail [] = []
tail (t ∷ ts) = ts

-- one way where the next token stands for something, and the other where it does not
abbrev pub on_head : {S B : Type 0} → Option S → (S → Out B) → Out B → Out B
on_head (Some s) taken other = taken s
on_head None taken other = other

-- p behind a token that f takes, or else q
abbrev pub fork : {S B : Type 0} → (Token → Option S) → (S → Reader B) → Reader B → Reader B
fork f p q = λ ts. on_head (head_by f ts) (λ s. p s (tail ts)) (q ts)

-- p behind a token that f takes, which has to come next
abbrev pub must : {S B : Type 0} → (Token → Option S) → (S → Reader B) → Reader B
must f p = fork f p fail

-- p behind a token that f takes, or none of it
abbrev pub maybe : {S B : Type 0} → (Token → Option S) → (S → Reader B) → Reader (Option B)
maybe f p = fork f (λ s. into Some (p s)) (pure None)

-- as often as f takes the next token, but so many times at most
unfoldable pub many_from : {S B : Type 0} → (Token → Option S) → (S → Reader B) → ℕ → Reader (List B)
many_from f p zero = pure []
many_from f p (suc n) = fork f (λ s. p s >>= λ x. many_from f p n >>= λ xs. pure (x ∷ xs)) (pure [])

-- as often as f takes the next token
unfoldable pub many : {S B : Type 0} → (Token → Option S) → (S → Reader B) → Reader (List B)
many f p = λ ts. many_from f p (length ts) ts

-- p { "," p }
abbrev pub listed : {B : Type 0} → Reader B → Reader (List B)
listed p = p >>= λ x. into (λ xs. x ∷ xs) (many (sign_is Comma) (λ _. p))

-- nothing, or a list that is not empty, and the sign that closes
abbrev pub enclosed : {B : Type 0} → Sign → Reader (List B) → Reader (List B)
enclosed close p = fork (sign_is close) (λ _. pure []) (p >>= λ xs. must (sign_is close) (λ _. pure xs))

-- A reader meets its relation: what it reads is spelled, and what is spelled is read. The laws of combinators in pairs,
-- so that the law of a production is one term that mirrors it.
use Rattle.std.proofs.Common.{◌≡◌, ℕ, Bool, true, List, [], ◌∷◌, ◌++◌, Option, Some, None}
use Rattle.gq_lexer.specs.declared.token.Sign.{Sign}
use Rattle.gq_lexer.specs.declared.token.Sign.TheVariants as sign
use Rattle.gq_ast.specs.declared.span.Span.{Span}
use Rattle.gq_lexer.specs.declared.token.Token.{Token}
use Rattle.gq_tokens.specs.Readers.{Reader, ◌>>=◌, enclosed, fork, into, listed, many, maybe, must, pure}
use Rattle.gq_tokens.specs.steps.Constructs.{spanned}
use Rattle.gq_tokens.specs.Relations.{Enclosed, Fork, Into, Listed, Many, Maybe, Must, Pure, Spanned, Then}
use Rattle.gq_tokens.proofs.Classes.{Takes, sign_class, takes_sign}
use Rattle.gq_tokens.proofs.Complete.{Complete, complete-fork, complete-many, complete-must, complete-pure, complete-spanned, complete-then, complete-widen}
use Rattle.gq_tokens.proofs.Laws.{Law, law-fork, law-many, law-must, law-pure, law-spanned, law-then, short}
use Rattle.gq_tokens.proofs.Runs.{Rel}
use Rattle.gq_tokens.proofs.Sets.{apart, within}

-- p has the room that there is, and p2 as much (same) or more; what p reads begins with one of the classes `first`, and
-- one of the classes `after` may follow it
pub record Meets {A : Type 0} (same : Bool) (p p2 : Reader A) (R RMore : Rel A)
    (first after : List ℕ) : Type 0 where
  pub law : Law same p p2 R RMore
  pub complete : Complete p R first after

pub meets-pure : {A : Type 0} (same : Bool) (after : List ℕ) (x : A)
    → Meets same (pure x) (pure x) (Pure x) (Pure x) after after
meets-pure same after x = record { law = law-pure same x; complete = complete-pure after x }

pub meets-widen : {A : Type 0} {same : Bool} {p p2 : Reader A} {R RMore : Rel A}
    {first after : List ℕ} (more fewer : List ℕ)
    → within first more ≡ true → within fewer after ≡ true → Meets same p p2 R RMore first after
    → Meets same p p2 R RMore more fewer
meets-widen more fewer h k l =
    record { law = l.law; complete = complete-widen more fewer h k l.complete }

pub meets-then : {A B : Type 0} {same : Bool} {p p2 : Reader A} {R RMore : Rel A}
    {q q2 : A → Reader B} {S SMore : A → Rel B} {first mid after : List ℕ}
    → Meets same p p2 R RMore first mid
    → ((x : A) → Meets same (q x) (q2 x) (S x) (SMore x) mid after)
    → Meets same (p >>= q) (p2 >>= q2) (Then R S) (Then RMore SMore) first after
meets-then h k = record {
  law = law-then h.law (λ x. (k x).law);
  complete = complete-then h.complete (λ x. (k x).complete);
}

pub meets-into : {A B : Type 0} {same : Bool} (make : A → B) {p p2 : Reader A} {R RMore : Rel A}
    {first after : List ℕ} → Meets same p p2 R RMore first after
    → Meets same (into make p) (into make p2) (Into make R) (Into make RMore) first after
meets-into {same = same} make {after = after} h = meets-then h (λ x. meets-pure same after (make x))

pub meets-fork : {S B : Type 0} {same : Bool} {f : Token → Option S} {G : List ℕ} → Takes f G
    → {p p2 : S → Reader B} {P PMore : S → Rel B} {q q2 : Reader B} {Q QMore : Rel B}
    {inner : S → List ℕ} {first after : List ℕ}
    → ((s : S) → Meets same (p s) (p2 s) (P s) (PMore s) (inner s) after)
    → Meets same q q2 Q QMore first after → apart G first ≡ true
    → Meets same (fork f p q) (fork f p2 q2) (Fork f P Q) (Fork f PMore QMore) (G ++ first) after
meets-fork {f = f} takes h k e = record {
  law = law-fork f (λ s. (h s).law) k.law;
  complete = complete-fork takes (λ s. (h s).complete) k.complete e;
}

pub meets-must : {S B : Type 0} {same : Bool} {f : Token → Option S} {G : List ℕ} → Takes f G
    → {p p2 : S → Reader B} {P PMore : S → Rel B} {inner : S → List ℕ} {after : List ℕ}
    → ((s : S) → Meets same (p s) (p2 s) (P s) (PMore s) (inner s) after)
    → Meets same (must f p) (must f p2) (Must f P) (Must f PMore) G after
meets-must {f = f} takes h = record {
  law = law-must f takes.one.0 takes.one.1 takes.one.2 (λ s. (h s).law);
  complete = complete-must takes (λ s. (h s).complete);
}

pub meets-maybe : {S B : Type 0} {same : Bool} {f : Token → Option S} {G : List ℕ} → Takes f G
    → {p p2 : S → Reader B} {P PMore : S → Rel B} {inner : S → List ℕ} {after : List ℕ}
    → ((s : S) → Meets same (p s) (p2 s) (P s) (PMore s) (inner s) after) → apart G after ≡ true
    → Meets same (maybe f p) (maybe f p2) (Maybe f P) (Maybe f PMore) (G ++ after) after
meets-maybe {same = same} takes {after = after} h e =
    meets-fork takes (λ s. meets-into Some (h s)) (meets-pure same after None) e

pub meets-many : {S B : Type 0} {same : Bool} {f : Token → Option S} {G : List ℕ} → Takes f G
    → {p p2 : S → Reader B} {P PMore : S → Rel B} {inner : S → List ℕ} {after : List ℕ}
    → ((s : S) → Meets same (p s) (p2 s) (P s) (PMore s) (inner s) (G ++ after))
    → apart G after ≡ true
    → Meets same (many f p) (many f p2) (Many f P) (Many f PMore) (G ++ after) after
meets-many {f = f} takes h e = record {
  law = law-many f (λ s. (h s).law);
  complete = complete-many takes (λ s. short (h s).law) (λ s. (h s).complete) e;
}

pub meets-spanned : {A B : Type 0} {same : Bool} (make : A → Span → B) {p p2 : Reader A}
    {R RMore : Rel A} {first after : List ℕ} → Meets same p p2 R RMore first after
    → Meets same (spanned make p) (spanned make p2) (Spanned make R) (Spanned make RMore) first after
meets-spanned make h =
    record { law = law-spanned make h.law; complete = complete-spanned make h.complete }

-- ---- lists

-- P { "," P }
pub meets-listed : {B : Type 0} {same : Bool} {p p2 : Reader B} {P PMore : Rel B}
    {first after : List ℕ} → Meets same p p2 P PMore first (7 ∷ after) → apart (7 ∷ []) after ≡ true
    → Meets same (listed p) (listed p2) (Listed P) (Listed PMore) first after
meets-listed h e =
    meets-then h (λ x. meets-into (λ xs. x ∷ xs) (meets-many (takes_sign sign.Comma) (λ _. h) e))

pub meets-enclosed : {B : Type 0} {same : Bool} (close : Sign) (after : List ℕ)
    {p p2 : Reader (List B)} {P PMore : Rel B} {first : List ℕ}
    → Meets same p p2 (Listed P) (Listed PMore) first (sign_class close ∷ [])
    → apart (sign_class close ∷ []) first ≡ true
    → Meets same (enclosed close p) (enclosed close p2) (Enclosed close P) (Enclosed close PMore)
    (sign_class close ∷ first) after
meets-enclosed {same = same} close after h e =
    meets-fork (takes_sign close) (λ _. meets-pure same after [])
    (meets-then h (λ xs. meets-must (takes_sign close) (λ _. meets-pure same after xs))) e

-- What a relation spells is read: the laws of combinators, packed.
-- A reader goes on as long as it can, so each law says by which tokens what is read may be followed, and, so that a law
-- of what stands before can be used, with which tokens it begins.
use Rattle.std.proofs.Common.{◌≡◌, ℕ, ◌≤◌, true, List, [], ◌∷◌, ◌++◌, length, Option, Some, None, inl, inr, refl, sym, ◌∙◌, ap, subst, append_assoc}
use Rattle.gq_ast.specs.declared.span.Span.{Span}
use Rattle.gq_lexer.specs.declared.token.Token.{Token}
use Rattle.gq_tokens.specs.Readers.{Reader, ◌>>=◌, fail, fork, head_by, many, must, pure}
use Rattle.gq_tokens.specs.steps.Constructs.{spanned, too_deep}
use Rattle.gq_tokens.specs.Relations.{Fork, Many, Must, Nothing, Pure, Spanned, Then}
use Rattle.gq_tokens.proofs.Classes.{Takes, class_of, kind_class}
use Rattle.gq_tokens.proofs.Runs.{Only, Rel, fork-only, many-only, pure-only, spanned-only, then-only}
use Rattle.gq_tokens.proofs.Sets.{among, among_first, among_second, apart, apart_among, within, within_among}

-- the first token, or the end, is of one of these classes
abbrev pub Starts : List ℕ → List Token → Type 0
Starts G ts = among (class_of ts) G ≡ true

-- where R spells tokens, and what follows them starts with one of the classes `after`, p reads them, and they or what
-- follows starts with one of the classes `first`
pub record Complete {A : Type 0} (p : Reader A) (R : Rel A) (first after : List ℕ) : Type 0 where
  pub only : Only p R (Starts after)
  pub heads : (a r : List Token) (x : A) → R a x → Starts after r → Starts first (a ++ r)

-- what starts with none of the classes of a test is not taken
misses_at : {S : Type 0} (f : Token → Option S) (G first : List ℕ) (t : Token) (o : Option S)
    → Takes f G → apart G first ≡ true → among (kind_class t.kind) first ≡ true → f t ≡ o → o ≡ None
misses_at f G first t (Some s) h k l e = absurd (apart_among G first (kind_class t.kind) k
    (h.taken t s e) l)
misses_at f G first t None h k l e = refl

pub misses : {S : Type 0} (f : Token → Option S) (G first : List ℕ) → Takes f G
    → apart G first ≡ true → (ts : List Token) → Starts first ts → head_by f ts ≡ None
misses f G first h k [] l = refl
misses f G first h k (t ∷ ts) l = misses_at f G first t (f t) h k l refl

pub complete-widen : {A : Type 0} {p : Reader A} {R : Rel A} {first after : List ℕ}
    (more fewer : List ℕ)
    → within first more ≡ true → within fewer after ≡ true → Complete p R first after
    → Complete p R more fewer
complete-widen {first = first} {after = after} more fewer h k l = record {
  only = λ a r x w e. l.only a r x w (within_among fewer after (class_of r) k e);
  heads = λ a r x w e. within_among first more (class_of (a ++ r)) h
      (l.heads a r x w (within_among fewer after (class_of r) k e));
}

pub complete-pure : {A : Type 0} (after : List ℕ) (x : A) → Complete (pure x) (Pure x) after after
complete-pure after x = record {
  only = pure-only x (Starts after);
  heads = λ a r y h e. subst (λ w. Starts after (w ++ r)) (sym h.0) e;
}

pub complete-then : {A B : Type 0} {p : Reader A} {q : A → Reader B} {R : Rel A}
    {S : A → Rel B} {first mid after : List ℕ}
    → Complete p R first mid → ((x : A) → Complete (q x) (S x) mid after)
    → Complete (p >>= q) (Then R S) first after
complete-then {p = p} {q = q} {R = R} {S = S} {first = first} {mid = mid} {after = after} h k = record {
  only = then-only p q R S (Starts mid) (Starts after) h.only (λ x. (k x).only)
      (λ x b r y s e. (k x).heads b r y s e);
  heads = λ a r y w e.
      let there = h.heads w.0 (w.1 ++ r) w.2 w.4 ((k w.2).heads w.1 r y w.5 e) in
      subst (λ ts. Starts first ts) (sym (append_assoc w.0 w.1 r) ∙ ap (λ b. b ++ r) (sym w.3))
      there;
}

fork-heads : {S B : Type 0} (f : Token → Option S) (G first after : List ℕ) (P : S → Rel B)
    (Q : Rel B) → Takes f G
    → ((a r : List Token) (y : B) → Q a y → Starts after r → Starts first (a ++ r))
    → (a r : List Token) (y : B) → Fork f P Q a y → Starts after r → Starts (G ++ first) (a ++ r)
fork-heads f G first after P Q h k a r y (inl w) e =
    subst (λ b. Starts (G ++ first) (b ++ r)) (sym w.3) (among_first G first (kind_class w.0.kind)
    (h.taken w.0 w.1 w.4))
fork-heads f G first after P Q h k a r y (inr w) e =
    among_second G first (class_of (a ++ r)) (k a r y w e)

pub complete-fork : {S B : Type 0} {f : Token → Option S} {G : List ℕ} → Takes f G
    → {p : S → Reader B} {P : S → Rel B} {q : Reader B} {Q : Rel B}
    {inner : S → List ℕ} {first after : List ℕ}
    → ((s : S) → Complete (p s) (P s) (inner s) after) → Complete q Q first after
    → apart G first ≡ true → Complete (fork f p q) (Fork f P Q) (G ++ first) after
complete-fork {f = f} {G = G} h {p = p} {P = P} {q = q} {Q = Q} {first = first} {after = after} k l e = record {
  only = fork-only f p q P Q (Starts after) (λ s. (k s).only) l.only
      (λ a r y w s. misses f G first h e (a ++ r) (l.heads a r y w s));
  heads = fork-heads f G first after P Q h l.heads;
}

must-heads : {S B : Type 0} (f : Token → Option S) (G after : List ℕ) (P : S → Rel B) → Takes f G
    → (a r : List Token) (y : B) → Must f P a y → Starts after r → Starts G (a ++ r)
must-heads f G after P h a r y (inl w) e = subst (λ b. Starts G (b ++ r)) (sym w.3)
    (h.taken w.0 w.1 w.4)
must-heads f G after P h a r y (inr w) e = absurd w

pub complete-must : {S B : Type 0} {f : Token → Option S} {G : List ℕ} → Takes f G
    → {p : S → Reader B} {P : S → Rel B} {inner : S → List ℕ} {after : List ℕ}
    → ((s : S) → Complete (p s) (P s) (inner s) after) → Complete (must f p) (Must f P) G after
complete-must {f = f} {G = G} h {p = p} {P = P} {after = after} k = record {
  only = fork-only f p fail P Nothing (Starts after) (λ s. (k s).only) (λ a r y w s. absurd w)
      (λ a r y w s. absurd w);
  heads = must-heads f G after P h;
}

pub complete-deep : {S B : Type 0} {f : Token → Option S} {G : List ℕ} → Takes f G
    → {q : Reader B} {Q : Rel B} {first after : List ℕ}
    → Complete q Q first after → apart G first ≡ true → Complete (too_deep f q) Q (G ++ first) after
complete-deep {f = f} {G = G} h {first = first} l e = record {
  only = λ a r x w s.
      let missed = misses f G first h e (a ++ r) (l.heads a r x w s) in
      rw missed (l.only a r x w s);
  heads = λ a r x w s. among_second G first (class_of (a ++ r)) (l.heads a r x w s);
}

many-heads : {S B : Type 0} (f : Token → Option S) (G after : List ℕ) (P : S → Rel B) → Takes f G
    → (a r : List Token) (xs : List B) → Many f P a xs → Starts after r
    → Starts (G ++ after) (a ++ r)
many-heads f G after P h a r [] w e = subst (λ b. Starts (G ++ after) (b ++ r)) (sym w)
    (among_second G after (class_of r) e)
many-heads f G after P h a r (x ∷ xs) w e = subst (λ b. Starts (G ++ after) (b ++ r)) (sym w.4)
    (among_first G after (kind_class w.0.kind) (h.taken w.0 w.1 w.5))

pub complete-many : {S B : Type 0} {f : Token → Option S} {G : List ℕ} → Takes f G
    → {p : S → Reader B} {P : S → Rel B} {inner : S → List ℕ} {after : List ℕ}
    → ((s : S) (ts : List Token) → length (p s ts).1 ≤ length ts)
    → ((s : S) → Complete (p s) (P s) (inner s) (G ++ after)) → apart G after ≡ true
    → Complete (many f p) (Many f P) (G ++ after) after
complete-many {f = f} {G = G} h {p = p} {P = P} {after = after} shorter k e = record {
  only = many-only f p shorter P (Starts (G ++ after)) (Starts after) (λ s. (k s).only)
      (many-heads f G after P h) (λ r s. misses f G after h e r s);
  heads = many-heads f G after P h;
}

pub complete-spanned : {A B : Type 0} (make : A → Span → B) {p : Reader A} {R : Rel A}
    {first after : List ℕ} → Complete p R first after
    → Complete (spanned make p) (Spanned make R) first after
complete-spanned make {p = p} {R = R} {after = after} h = record {
  only = spanned-only true make p p R R (Starts after) h.only;
  heads = λ a r y w e. h.heads a r w.0 w.1 e;
}

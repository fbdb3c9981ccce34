-- What a reader does, against what its relation says, and what the same reader does on other lists and with more room for nesting.
use Rattle.std.proofs.Common.{◌≡◌, ℕ, zero, suc, ◌-◌, ◌≤◌, Bool, true, false, List, [], ◌∷◌, ◌++◌, length, take, Option, Some, None, inl, inr, refl, sym, ◌∙◌, ap, subst, append_assoc, arith, length-append, append-nil}
use Rattle.std.proofs.Math.Seq.{take-append_seam}
use Rattle.gq_lexer.specs.declared.token.Token.{Token}
use Rattle.gq_ast.specs.declared.span.Span.{Span}
use Rattle.gq_tokens.specs.Readers.{Verdict, Done, Syntax, Deep, Out, Reader, on_done, ◌>>=◌, pure, fail, head_by, tail, on_head, fork, many_from, many}
use Rattle.gq_tokens.specs.steps.Constructs.{finish, too_deep, spanned}
use Rattle.gq_tokens.specs.Relations.{span_of, Pure, Then, Fork, Many, Spanned}

-- what lists of tokens spell
abbrev pub Rel : Type 0 → Type 1
Rel A = List Token → A → Type 0

-- some list that begins with a is spelled
abbrev pub Viable : {A : Type 0} → Rel A → List Token → Type 0
Viable {A} R a = (q : List Token) × (x : A) × R (a ++ q) x

-- two lists have the same first token, or none
abbrev pub SameHead : List Token → List Token → Type 0
SameHead [] [] = Unit {0}
SameHead [] (u ∷ s) = ⊥
SameHead (t ∷ r) [] = ⊥
SameHead (t ∷ r) (u ∷ s) = t ≡ u

-- the next token can be read with more room
abbrev pub Opens : {A : Type 0} → Rel A → List Token → List Token → Type 0
Opens R a rest = (t : Token) × (r : List Token) × (rest ≡ t ∷ r) × Viable R (a ++ (t ∷ []))

-- R is with the room that there is, and RMore with as much (same) or with more
abbrev pub Means : {A : Type 0} → Bool → (R RMore : Rel A) → Verdict A → List Token → List Token → Type 0
Means same R RMore (Done x) a rest = R a x
Means same R RMore Syntax a rest = Viable R a
Means same R RMore Deep a rest = Viable R a × (same ≡ false → Opens RMore a rest)

abbrev pub Kept : {A : Type 0} → Bool → Verdict A → Type 0
Kept same (Done x) = Unit {0}
Kept same Syntax = Unit {0}
Kept same Deep = same ≡ true

-- what p did at ts, where it answered v and left rest
pub record Run {A : Type 0} (same : Bool) (p p2 : Reader A) (R RMore : Rel A) (ts : List Token) (v : Verdict A) (rest : List Token) : Type 0 where
  pub a : List Token
  pub split : ts ≡ a ++ rest
  pub means : Means same R RMore v a rest
  -- no token after the next had a part in it
  pub local : Kept same v → (r : List Token) → SameHead rest r → p2 (a ++ r) ≡ (v, r)

abbrev pub Within : {A : Type 0} → (R RMore : Rel A) → Type 0
Within {A} R RMore = (a : List Token) (x : A) → R a x → RMore a x

abbrev pub Sample : {A : Type 0} → Rel A → Type 0
Sample {A} R = (a : List Token) × (x : A) × R a x

same_head-append : (b r s : List Token) → SameHead r s → SameHead (b ++ r) (b ++ s)
same_head-append [] r s h = h
same_head-append (t ∷ b) r s h = refl

same_head-by : {S : Type 0} (f : Token → Option S) (r s : List Token) → SameHead r s → head_by f s ≡ head_by f r
same_head-by f [] [] h = refl
same_head-by f [] (u ∷ s) h = absurd h
same_head-by f (t ∷ r) [] h = absurd h
same_head-by f (t ∷ r) (u ∷ s) h = ap f (sym h)

head-kept : {S : Type 0} (f : Token → Option S) (o : Option S) (ts a rest r : List Token) → ts ≡ a ++ rest → SameHead rest r → head_by f ts ≡ o → head_by f (a ++ r) ≡ o
head-kept f o ts a rest r split s e = same_head-by f (a ++ rest) (a ++ r) (same_head-append a rest r s) ∙ ap (head_by f) (sym split) ∙ e

module _ {A B : Type 0} (R : Rel A) (S : A → Rel B) where
  then-viable : (a : List Token) → Viable R a → ((x : A) → Sample (S x)) → Viable (Then R S) a
  then-viable a v more = let m = more v.1 in (v.0 ++ m.0, m.1, (a ++ v.0, m.0, v.1, sym (append_assoc a v.0 m.0), v.2, m.2))

  then-viable-right : (x : A) (a b : List Token) → R a x → Viable (S x) b → Viable (Then R S) (a ++ b)
  then-viable-right x a b h k = (k.0, k.1, (a, b ++ k.0, x, append_assoc a b k.0, h, k.2))

  then-opens : (a rest : List Token) → ((x : A) → Sample (S x)) → Opens R a rest → Opens (Then R S) a rest
  then-opens a rest more h = (h.0, h.1, h.2, then-viable (a ++ (h.0 ∷ [])) h.3 more)

  then-opens-right : (x : A) (a b rest : List Token) → R a x → Opens (S x) b rest → Opens (Then R S) (a ++ b) rest
  then-opens-right x a b rest h k = (k.0, k.1, k.2, rw (append_assoc a b (k.0 ∷ [])) (then-viable-right x a (b ++ (k.0 ∷ [])) h k.3))

module _ {A B : Type 0} (same : Bool) (p p2 : Reader A) (q q2 : A → Reader B) (R RMore : Rel A) (S SMore : A → Rel B) (within : Within R RMore) where
  then-means : (x : A) (w : Verdict B) (a b rest : List Token) → R a x → Means same (S x) (SMore x) w b rest → Means same (Then R S) (Then RMore SMore) w (a ++ b) rest
  then-means x (Done y) a b rest h k = (a, b, x, refl, h, k)
  then-means x Syntax a b rest h k = then-viable-right R S x a b h k
  then-means x Deep a b rest h k = (then-viable-right R S x a b h k.0, λ e. then-opens-right RMore SMore x a b rest (within a x h) (k.1 e))

  pub then-run : (more : (x : A) → Sample (S x)) (more2 : (x : A) → Sample (SMore x)) (ts : List Token) (v : Verdict A) (rest : List Token) → Run same p p2 R RMore ts v rest
      → ((x : A) → v ≡ Done x → Run same (q x) (q2 x) (S x) (SMore x) rest (q x rest).0 (q x rest).1)
      → Run same (p >>= q) (p2 >>= q2) (Then R S) (Then RMore SMore) ts (on_done v rest q).0 (on_done v rest q).1
  then-run more more2 ts (Done x) rest h k = let m = k x refl in record {
    a = h.a ++ m.a;
    split = h.split ∙ ap (λ r. h.a ++ r) m.split ∙ sym (append_assoc h.a m.a (q x rest).1);
    means = then-means x (q x rest).0 h.a m.a (q x rest).1 h.means m.means;
    local = λ kept r s. let e : p2 (h.a ++ (m.a ++ r)) ≡ (Done x, m.a ++ r) = h.local tt (m.a ++ r) (subst (λ w. SameHead w (m.a ++ r)) (sym m.split) (same_head-append m.a (q x rest).1 r s)) in
        rw (append_assoc, e) (m.local kept r s);
  }
  then-run more more2 ts Syntax rest h k = record {
    a = h.a;
    split = h.split;
    means = then-viable R S h.a h.means more;
    local = λ kept r s. rw (h.local tt r s) refl;
  }
  then-run more more2 ts Deep rest h k = record {
    a = h.a;
    split = h.split;
    means = (then-viable R S h.a h.means.0 more, λ e. then-opens RMore SMore h.a rest more2 (h.means.1 e));
    local = λ kept r s. rw (h.local kept r s) refl;
  }

pub pure-run : {A : Type 0} (same : Bool) (x : A) (ts : List Token) → Run same (pure x) (pure x) (Pure x) (Pure x) ts (Done x) ts
pure-run same x ts = record { a = []; split = refl; means = (refl, refl); local = λ kept r s. refl }

pub fail-run : {A : Type 0} (same : Bool) (R RMore : Rel A) → Sample R → (ts : List Token) → Run same fail fail R RMore ts Syntax ts
fail-run same R RMore v ts = record { a = []; split = refl; means = v; local = λ kept r s. refl }

-- the same of a reader that does the same, and of relations that hold of more
pub run-along : {A : Type 0} (same : Bool) (p p2 p3 : Reader A) (R RMore T TMore : Rel A) → ((ts : List Token) → p3 ts ≡ p2 ts) → Within R T → Within RMore TMore
    → (ts : List Token) (v : Verdict A) (rest : List Token) → Run same p p2 R RMore ts v rest → Run same p p3 T TMore ts v rest
run-along same p p2 p3 R RMore T TMore e to to2 ts (Done x) rest h = record { a = h.a; split = h.split; means = to h.a x h.means; local = λ kept r s. e (h.a ++ r) ∙ h.local kept r s }
run-along same p p2 p3 R RMore T TMore e to to2 ts Syntax rest h = record { a = h.a; split = h.split; means = (h.means.0, h.means.1, to (h.a ++ h.means.0) h.means.1 h.means.2); local = λ kept r s. e (h.a ++ r) ∙ h.local kept r s }
run-along same p p2 p3 R RMore T TMore e to to2 ts Deep rest h = record {
  a = h.a;
  split = h.split;
  means = ((h.means.0.0, h.means.0.1, to (h.a ++ h.means.0.0) h.means.0.1 h.means.0.2), λ d. let o = h.means.1 d in (o.0, o.1, o.2, (o.3.0, o.3.1, to2 ((h.a ++ (o.0 ∷ [])) ++ o.3.0) o.3.1 o.3.2)));
  local = λ kept r s. e (h.a ++ r) ∙ h.local kept r s;
}

module _ {S B : Type 0} (same : Bool) (f : Token → Option S) (p p2 : S → Reader B) (q q2 : Reader B) (P PMore : S → Rel B) (Q QMore : Rel B) where
  fork-taken : (t : Token) (s : S) → f t ≡ Some s → (v : Verdict B) (a rest : List Token) → Means same (P s) (PMore s) v a rest → Means same (Fork f P Q) (Fork f PMore QMore) v (t ∷ a) rest
  fork-taken t s e (Done x) a rest h = inl (t, s, a, refl, e, h)
  fork-taken t s e Syntax a rest h = (h.0, h.1, inl (t, s, a ++ h.0, refl, e, h.2))
  fork-taken t s e Deep a rest h = ((h.0.0, h.0.1, inl (t, s, a ++ h.0.0, refl, e, h.0.2)), λ d. let o = h.1 d in (o.0, o.1, o.2, (o.3.0, o.3.1, inl (t, s, (a ++ (o.0 ∷ [])) ++ o.3.0, refl, e, o.3.2))))

  fork-at : (h : Option S) (ts : List Token) → head_by f ts ≡ h
      → ((t : Token) (s : S) (r : List Token) → ts ≡ t ∷ r → Run same (p s) (p2 s) (P s) (PMore s) r (p s r).0 (p s r).1)
      → Run same q q2 (Fork f P Q) (Fork f PMore QMore) ts (q ts).0 (q ts).1
      → Run same (fork f p q) (fork f p2 q2) (Fork f P Q) (Fork f PMore QMore) ts (on_head h (λ s. p s (tail ts)) (q ts)).0 (on_head h (λ s. p s (tail ts)) (q ts)).1
  fork-at None ts e ps other = record {
    a = other.a;
    split = other.split;
    means = other.means;
    local = λ kept r s. let same_head = head-kept f None ts other.a (q ts).1 r other.split s e in rw same_head (other.local kept r s);
  }
  fork-at (Some s) [] e ps other = cc
  fork-at (Some s) (t ∷ r) e ps other = let taken = ps t s r refl in record {
    a = t ∷ taken.a;
    split = ap (λ w. t ∷ w) taken.split;
    means = fork-taken t s e (p s r).0 taken.a (p s r).1 taken.means;
    local = λ kept w h. rw e (taken.local kept w h);
  }

  pub fork-run : (ts : List Token)
      → ((t : Token) (s : S) (r : List Token) → ts ≡ t ∷ r → Run same (p s) (p2 s) (P s) (PMore s) r (p s r).0 (p s r).1)
      → Run same q q2 Q QMore ts (q ts).0 (q ts).1
      → Run same (fork f p q) (fork f p2 q2) (Fork f P Q) (Fork f PMore QMore) ts (fork f p q ts).0 (fork f p q ts).1
  fork-run ts ps other =
      fork-at (head_by f ts) ts refl ps
      (run-along same q q2 q2 Q QMore (Fork f P Q) (Fork f PMore QMore) (λ ts. refl) (λ a x h. inr h) (λ a x h. inr h) ts (q ts).0 (q ts).1 other)

-- where nothing else can come
module _ {S B : Type 0} (same : Bool) (f : Token → Option S) (p p2 : S → Reader B) (P PMore : S → Rel B) where
  abbrev Must : Rel B
  Must = Fork f P (λ ts x. ⊥)

  abbrev MustMore : Rel B
  MustMore = Fork f PMore (λ ts x. ⊥)

  pub must-run : (ts : List Token) → Sample Must
      → ((t : Token) (s : S) (r : List Token) → ts ≡ t ∷ r → Run same (p s) (p2 s) (P s) (PMore s) r (p s r).0 (p s r).1)
      → Run same (fork f p fail) (fork f p2 fail) Must MustMore ts (fork f p fail ts).0 (fork f p fail ts).1
  must-run ts one ps = fork-at same f p p2 fail fail P PMore (λ ts x. ⊥) (λ ts x. ⊥) (head_by f ts) ts refl ps (fail-run same Must MustMore one ts)

-- ---- no room for what f takes

module _ {S B : Type 0} (f : Token → Option S) (q q2 : Reader B) (p2 : S → Reader B) (Q QMore : Rel B) (PMore : S → Rel B) (some : Sample Q) where
  same-at : (h : Option S) (ts : List Token) → head_by f ts ≡ h → Run true q q2 Q QMore ts (q ts).0 (q ts).1
      → Run true (too_deep f q) (too_deep f q2) Q QMore ts (on_head h (λ s. (Deep, ts)) (q ts)).0 (on_head h (λ s. (Deep, ts)) (q ts)).1
  same-at None ts e other = record {
    a = other.a;
    split = other.split;
    means = other.means;
    local = λ kept r s. let same_head = head-kept f None ts other.a (q ts).1 r other.split s e in rw same_head (other.local kept r s);
  }
  same-at (Some s) ts e other = record {
    a = [];
    split = refl;
    means = (some, λ wrong. cc);
    local = λ kept r h. let same_head = head-kept f (Some s) ts [] ts r refl h e in rw same_head refl;
  }

  pub too_deep-run : (ts : List Token) → Run true q q2 Q QMore ts (q ts).0 (q ts).1 → Run true (too_deep f q) (too_deep f q2) Q QMore ts (too_deep f q ts).0 (too_deep f q ts).1
  too_deep-run ts other = same-at (head_by f ts) ts refl other

  more-at : ((s : S) → Sample (PMore s)) → (h : Option S) (ts : List Token) → head_by f ts ≡ h → Run false q q2 Q (Fork f PMore QMore) ts (q ts).0 (q ts).1
      → Run false (too_deep f q) (fork f p2 q2) Q (Fork f PMore QMore) ts (on_head h (λ s. (Deep, ts)) (q ts)).0 (on_head h (λ s. (Deep, ts)) (q ts)).1
  more-at more None ts e other = record {
    a = other.a;
    split = other.split;
    means = other.means;
    local = λ kept r s. let same_head = head-kept f None ts other.a (q ts).1 r other.split s e in rw same_head (other.local kept r s);
  }
  more-at more (Some s) [] e other = cc
  more-at more (Some s) (t ∷ ts) e other = record {
    a = [];
    split = refl;
    means = (some, λ d. let m = more s in (t, ts, refl, (m.0, m.1, inl (t, s, m.0, refl, e, m.2))));
    local = λ kept r h. cc;
  }

  pub room-run : ((s : S) → Sample (PMore s)) → (ts : List Token) → Run false q q2 Q QMore ts (q ts).0 (q ts).1 → Run false (too_deep f q) (fork f p2 q2) Q (Fork f PMore QMore) ts (too_deep f q ts).0 (too_deep f q ts).1
  room-run more ts other =
      more-at more (head_by f ts) ts refl
      (run-along false q q2 q2 Q QMore Q (Fork f PMore QMore) (λ ts. refl) (λ a x h. h) (λ a x h. inr h) ts (q ts).0 (q ts).1 other)

-- ---- what is spelled is read

-- where R spells a list, and Stops holds of what follows it, p reads it
abbrev pub Only : {A : Type 0} → Reader A → Rel A → (List Token → Type 0) → Type 0
Only {A} p R Stops = (a r : List Token) (x : A) → R a x → Stops r → p (a ++ r) ≡ (Done x, r)

pub pure-only : {A : Type 0} (x : A) (Stops : List Token → Type 0) → Only (pure x) (Pure x) Stops
pure-only x Stops a r y h s = rw (h.0, h.1) refl

module _ {A B : Type 0} (p : Reader A) (q : A → Reader B) (R : Rel A) (S : A → Rel B) (Before After : List Token → Type 0) where
  pub then-only : Only p R Before → ((x : A) → Only (q x) (S x) After)
      → ((x : A) (b r : List Token) (y : B) → S x b y → After r → Before (b ++ r)) → Only (p >>= q) (Then R S) After
  then-only ps qs follow a r y h stop =
      let e : p (h.0 ++ (h.1 ++ r)) ≡ (Done h.2, h.1 ++ r) = ps h.0 (h.1 ++ r) h.2 h.4 (follow h.2 h.1 r y h.5 stop) in
      rw (h.3, append_assoc, e) (qs h.2 h.1 r y h.5 stop)

module _ {S B : Type 0} (f : Token → Option S) (p : S → Reader B) (q : Reader B) (P : S → Rel B) (Q : Rel B) (After : List Token → Type 0) where
  pub fork-only : ((s : S) → Only (p s) (P s) After) → Only q Q After
      → ((a r : List Token) (y : B) → Q a y → After r → head_by f (a ++ r) ≡ None) → Only (fork f p q) (Fork f P Q) After
  fork-only ps qs avoid a r y (inl h) stop = let e : f h.0 ≡ Some h.1 = h.4 in rw (h.3, e) (ps h.1 h.2 r y h.5 stop)
  fork-only ps qs avoid a r y (inr h) stop = rw (avoid a r y h stop) (qs a r y h stop)

-- ---- repetition

on_done-same : {A B : Type 0} (v : Verdict A) (rest : List Token) (K L : A → Reader B) → ((x : A) → K x rest ≡ L x rest) → on_done v rest K ≡ on_done v rest L
on_done-same (Done x) rest K L h = h x
on_done-same Syntax rest K L h = refl
on_done-same Deep rest K L h = refl

pub on_head-same : {S B : Type 0} (o : Option S) (K L : S → Out B) (other : Out B) → ((s : S) → K s ≡ L s) → on_head o K other ≡ on_head o L other
on_head-same None K L other h = refl
on_head-same (Some s) K L other h = h s

module _ {S B : Type 0} (f : Token → Option S) (p : S → Reader B) (shorter : (s : S) (ts : List Token) → length (p s ts).1 ≤ length ts) where
  go_on : ℕ → B → Reader (List B)
  go_on n = λ x. many_from f p n >>= λ xs. pure (x ∷ xs)

  enough : (n m : ℕ) (ts : List Token) → length ts ≤ n → length ts ≤ m → many_from f p n ts ≡ many_from f p m ts
  unfolding many_from
  enough zero zero ts h k = refl
  enough zero (suc m) [] h k = refl
  enough zero (suc m) (t ∷ r) h k = absurd (omega arith)
  enough (suc n) zero [] h k = refl
  enough (suc n) zero (t ∷ r) h k = absurd (omega arith)
  enough (suc n) (suc m) [] h k = refl
  enough (suc n) (suc m) (t ∷ r) h k =
      on_head-same (f t) (λ s. on_done (p s r).0 (p s r).1 (λ x. many_from f p n >>= λ xs. pure (x ∷ xs))) (λ s. on_done (p s r).0 (p s r).1 (λ x. many_from f p m >>= λ xs. pure (x ∷ xs))) (Done [], t ∷ r)
      (λ s. on_done-same (p s r).0 (p s r).1 (λ x. many_from f p n >>= λ xs. pure (x ∷ xs)) (λ x. many_from f p m >>= λ xs. pure (x ∷ xs))
      (λ x. let short = shorter s r in let e : many_from f p n (p s r).1 ≡ many_from f p m (p s r).1 = enough n m (p s r).1 (omega arith) (omega arith) in rw e refl))

  abbrev body : Reader (List B)
  body = fork f (λ s. p s >>= λ x. many f p >>= λ xs. pure (x ∷ xs)) (pure [])

  pub unrolled : (ts : List Token) → many f p ts ≡ body ts
  unfolding many_from many
  unrolled [] = refl
  unrolled (t ∷ r) =
      on_head-same (f t) (λ s. on_done (p s r).0 (p s r).1 (λ x. many_from f p (length r) >>= λ xs. pure (x ∷ xs))) (λ s. on_done (p s r).0 (p s r).1 (λ x. many f p >>= λ xs. pure (x ∷ xs))) (Done [], t ∷ r)
      (λ s. on_done-same (p s r).0 (p s r).1 (λ x. many_from f p (length r) >>= λ xs. pure (x ∷ xs)) (λ x. many f p >>= λ xs. pure (x ∷ xs))
      (λ x. let short = shorter s r in let e : many_from f p (length r) (p s r).1 ≡ many_from f p (length (p s r).1) (p s r).1 = enough (length r) (length (p s r).1) (p s r).1 short (omega arith) in rw e refl))

module _ {S B : Type 0} (f : Token → Option S) (P : S → Rel B) where
  abbrev Unrolled : List Token → List B → Type 0
  Unrolled = Fork f (λ s. Then (P s) (λ x. Then (Many f P) (λ xs. Pure (x ∷ xs)))) (Pure [])

  rolled : (ts : List Token) (xs : List B) → Unrolled ts xs → Many f P ts xs
  rolled ts xs (inr h) = rw (h.1, h.0) refl
  rolled ts xs (inl h) = let u = h.5 in let v = u.5 in
      rw v.5.1 (h.0, h.1, u.0, v.0, (h.3 ∙ ap (λ w. h.0 ∷ w) (u.3 ∙ ap (λ w. u.0 ++ w) (v.3 ∙ rw (v.5.0, append-nil) refl))), h.4, u.4, v.4)

pub many-within : {S B : Type 0} (f : Token → Option S) (P PMore : S → Rel B) → ((s : S) → Within (P s) (PMore s)) → Within (Many f P) (Many f PMore)
many-within f P PMore w a [] h = h
many-within f P PMore w a (x ∷ xs) h = (h.0, h.1, h.2, h.3, h.4, h.5, w h.1 h.2 x h.6, many-within f P PMore w h.3 xs h.7)

none_such : (ts : List Token) → length ts ≤ 0 → ts ≡ []
none_such [] h = refl
none_such (t ∷ r) h = absurd (omega arith)

module _ {S B : Type 0} (same : Bool) (f : Token → Option S) (p p2 : S → Reader B) (shorter : (s : S) (ts : List Token) → length (p s ts).1 ≤ length ts) (shorter2 : (s : S) (ts : List Token) → length (p2 s ts).1 ≤ length ts)
    (P PMore : S → Rel B) (within : (s : S) → Within (P s) (PMore s)) where
  abbrev AtMany : List Token → Type 0
  AtMany w = Run same (many f p) (many f p2) (Many f P) (Many f PMore) w (many f p w).0 (many f p w).1

  at_body : (ts : List Token)
      → ((t : Token) (s : S) (r : List Token) → ts ≡ t ∷ r → Run same (p s >>= λ x. many f p >>= λ xs. pure (x ∷ xs)) (p2 s >>= λ x. many f p2 >>= λ xs. pure (x ∷ xs))
      (Then (P s) (λ x. Then (Many f P) (λ xs. Pure (x ∷ xs)))) (Then (PMore s) (λ x. Then (Many f PMore) (λ xs. Pure (x ∷ xs)))) r (on_done (p s r).0 (p s r).1 (λ x. many f p >>= λ xs. pure (x ∷ xs))).0 (on_done (p s r).0 (p s r).1 (λ x. many f p >>= λ xs. pure (x ∷ xs))).1)
      → AtMany ts
  at_body ts inner =
      let W : Out (List B) → Type 0 = λ o. Run same (many f p) (many f p2) (Many f P) (Many f PMore) ts o.0 o.1 in
      let step = run-along same (body f p shorter) (body f p2 shorter2) (many f p2) (Unrolled f P) (Unrolled f PMore) (Many f P) (Many f PMore) (unrolled f p2 shorter2) (rolled f P) (rolled f PMore) ts (body f p shorter ts).0 (body f p shorter ts).1
      (fork-run same f (λ s. p s >>= λ x. many f p >>= λ xs. pure (x ∷ xs)) (λ s. p2 s >>= λ x. many f p2 >>= λ xs. pure (x ∷ xs)) (pure []) (pure [])
      (λ s. Then (P s) (λ x. Then (Many f P) (λ xs. Pure (x ∷ xs)))) (λ s. Then (PMore s) (λ x. Then (Many f PMore) (λ xs. Pure (x ∷ xs)))) (Pure []) (Pure []) ts inner (pure-run same [] ts)) in
      subst W (sym (unrolled f p shorter ts)) (record { a = step.a; split = step.split; means = step.means; local = step.local })

  many-run-below : ((s : S) (ts : List Token) → Run same (p s) (p2 s) (P s) (PMore s) ts (p s ts).0 (p s ts).1) → (n : ℕ) (ts : List Token) → length ts ≤ n → AtMany ts
  many-run-below ps zero ts h = let W : List Token → Type 0 = λ w. AtMany w in subst W (sym (none_such ts h)) (at_body [] (λ t s r e. cc))
  many-run-below ps (suc n) ts h =
      at_body ts (λ t s r e. then-run same (p s) (p2 s) (λ x. many f p >>= λ xs. pure (x ∷ xs)) (λ x. many f p2 >>= λ xs. pure (x ∷ xs)) (P s) (PMore s)
      (λ x. Then (Many f P) (λ xs. Pure (x ∷ xs))) (λ x. Then (Many f PMore) (λ xs. Pure (x ∷ xs))) (within s)
      (λ x. ([], x ∷ [], ([], [], [], refl, refl, (refl, refl)))) (λ x. ([], x ∷ [], ([], [], [], refl, refl, (refl, refl)))) r (p s r).0 (p s r).1 (ps s r)
      (λ x done. let short = shorter s r in let len = ap length e in
      then-run same (many f p) (many f p2) (λ xs. pure (x ∷ xs)) (λ xs. pure (x ∷ xs)) (Many f P) (Many f PMore) (λ xs. Pure (x ∷ xs)) (λ xs. Pure (x ∷ xs)) (many-within f P PMore within)
      (λ xs. ([], x ∷ xs, (refl, refl))) (λ xs. ([], x ∷ xs, (refl, refl))) (p s r).1 (many f p (p s r).1).0 (many f p (p s r).1).1
      (many-run-below ps n (p s r).1 (omega arith)) (λ xs d. pure-run same (x ∷ xs) (many f p (p s r).1).1)))

  pub many-run : ((s : S) (ts : List Token) → Run same (p s) (p2 s) (P s) (PMore s) ts (p s ts).0 (p s ts).1) → (ts : List Token) → AtMany ts
  many-run ps ts = many-run-below ps (length ts) ts (omega arith)

module _ {S B : Type 0} (f : Token → Option S) (p : S → Reader B) (shorter : (s : S) (ts : List Token) → length (p s ts).1 ≤ length ts) (P : S → Rel B) where
  pub many-only : (Before After : List Token → Type 0) → ((s : S) → Only (p s) (P s) Before)
      → ((b r : List Token) (xs : List B) → Many f P b xs → After r → Before (b ++ r))
      → ((r : List Token) → After r → head_by f r ≡ None) → Only (many f p) (Many f P) After
  many-only Before After ps follow misses a r [] h stop = let e = misses r stop in rw (h, unrolled f p shorter r, e) refl
  many-only Before After ps follow misses a r (x ∷ xs) h stop =
      let e : f h.0 ≡ Some h.1 = h.5 in
      let first : p h.1 (h.2 ++ (h.3 ++ r)) ≡ (Done x, h.3 ++ r) = ps h.1 h.2 (h.3 ++ r) x h.6 (follow h.3 r xs h.7 stop) in
      let others : many f p (h.3 ++ r) ≡ (Done xs, r) = many-only Before After ps follow misses h.3 r xs h.7 stop in
      rw (h.4, unrolled f p shorter ((h.0 ∷ (h.2 ++ h.3)) ++ r), e, append_assoc, first, others) refl

-- a reader with a run goes no further back
pub run-shorter : {A : Type 0} (same : Bool) (p p2 : Reader A) (R RMore : Rel A) (ts : List Token) (v : Verdict A) (rest : List Token) → Run same p p2 R RMore ts v rest → length rest ≤ length ts
run-shorter same p p2 R RMore ts v rest h = let e = ap length h.split in let l = length-append h.a rest in omega arith

-- ---- the end

finish-empty : {A : Type 0} (x : A) (r : List Token) → SameHead [] r → finish x r ≡ (Done x, r)
finish-empty x [] s = refl
finish-empty x (t ∷ r) s = absurd s

finish-more : {A : Type 0} (x : A) (t : Token) (ts r : List Token) → SameHead (t ∷ ts) r → finish x r ≡ (Syntax, r)
finish-more x t ts [] s = absurd s
finish-more x t ts (u ∷ r) s = refl

-- ---- spans

taken : (ts a rest : List Token) → ts ≡ a ++ rest → take (length ts - length rest) ts ≡ a
taken ts a rest e =
    let k : length (a ++ rest) - length rest ≡ length a = let l = length-append a rest in omega arith in
    rw (e, k, take-append_seam) refl

module _ {A B : Type 0} (same : Bool) (make : A → Span → B) (p p2 : Reader A) (R RMore : Rel A) where
  spanned-viable : (T : Rel A) (a : List Token) → Viable T a → Viable (Spanned make T) a
  spanned-viable T a v = (v.0, make v.1 (span_of (a ++ v.0)), (v.1, v.2, refl))

  pub spanned-at : (ts : List Token) (v : Verdict A) (rest : List Token) → Run same p p2 R RMore ts v rest
      → Run same (spanned make p) (spanned make p2) (Spanned make R) (Spanned make RMore) ts
      (on_done v rest (λ x r. (Done (make x (span_of (take (length ts - length r) ts))), r))).0 (on_done v rest (λ x r. (Done (make x (span_of (take (length ts - length r) ts))), r))).1
  spanned-at ts (Done x) rest h = record {
    a = h.a;
    split = h.split;
    means = (x, h.means, rw (taken ts h.a rest h.split) refl);
    local = λ kept r s. rw (h.local tt r s, taken (h.a ++ r) h.a r refl, taken ts h.a rest h.split) refl;
  }
  spanned-at ts Syntax rest h = record {
    a = h.a;
    split = h.split;
    means = spanned-viable R h.a h.means;
    local = λ kept r s. rw (h.local tt r s) refl;
  }
  spanned-at ts Deep rest h = record {
    a = h.a;
    split = h.split;
    means = (spanned-viable R h.a h.means.0, λ e. let o = h.means.1 e in (o.0, o.1, o.2, spanned-viable RMore (h.a ++ (o.0 ∷ [])) o.3));
    local = λ kept r s. rw (h.local kept r s) refl;
  }

  pub spanned-run : (ts : List Token) → Run same p p2 R RMore ts (p ts).0 (p ts).1 → Run same (spanned make p) (spanned make p2) (Spanned make R) (Spanned make RMore) ts (spanned make p ts).0 (spanned make p ts).1
  spanned-run ts h = spanned-at ts (p ts).0 (p ts).1 h

  pub spanned-only : (After : List Token → Type 0) → Only p R After → Only (spanned make p) (Spanned make R) After
  spanned-only After ps a r y h stop = rw (ps a r h.0 h.1 stop, taken (a ++ r) a r refl, h.2) refl

pub finish-run : {A : Type 0} (same : Bool) (x : A) (ts : List Token) → Run same (finish x) (finish x) (Pure x) (Pure x) ts (finish x ts).0 (finish x ts).1
finish-run same x [] = record { a = []; split = refl; means = (refl, refl); local = λ kept r s. finish-empty x r s }
finish-run same x (t ∷ ts) = record { a = []; split = refl; means = ([], x, (refl, refl)); local = λ kept r s. finish-more x t ts r s }

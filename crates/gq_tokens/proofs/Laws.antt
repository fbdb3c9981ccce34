-- The laws of readers, packed, so that a law of a reader is a term that mirrors it.
use Rattle.std.proofs.Common.{◌≡◌, ℕ, zero, suc, ◌-◌, ◌≤◌, Bool, true, false, List, [], ◌∷◌, ◌++◌, length, take, Option, Some, None, inl, inr, refl, arith}
use Rattle.gq_lexer.specs.declared.token.Token.{Token}
use Rattle.gq_ast.specs.declared.span.Span.{Span}
use Rattle.gq_tokens.specs.Readers.{Verdict, Done, Syntax, Deep, Out, Reader, on_done, ◌>>=◌, pure, fail, head_by, tail, on_head, fork, many_from, many}
use Rattle.gq_tokens.specs.steps.Constructs.{finish, too_deep, spanned}
use Rattle.gq_tokens.specs.Relations.{span_of, Pure, Then, Fork, Many, Spanned}
use Rattle.gq_tokens.proofs.Runs.{Rel, Run, Within, Sample, then-run, pure-run, fork-run, must-run, too_deep-run, room-run, many-run, many-within, run-shorter, spanned-run, finish-run}

pub record Law {A : Type 0} (same : Bool) (p p2 : Reader A) (R RMore : Rel A) : Type 0 where
  pub run : (ts : List Token) → Run same p p2 R RMore ts (p ts).0 (p ts).1
  pub within : Within R RMore
  pub some : Sample R
  pub some2 : Sample RMore
  pub short2 : (ts : List Token) → length (p2 ts).1 ≤ length ts

pub short : {A : Type 0} {same : Bool} {p p2 : Reader A} {R RMore : Rel A} → Law same p p2 R RMore → (ts : List Token) → length (p ts).1 ≤ length ts
short {same = same} {p = p} {p2 = p2} {R = R} {RMore = RMore} h ts = run-shorter same p p2 R RMore ts (p ts).0 (p ts).1 (h.run ts)

on_done-short : {A B : Type 0} (v : Verdict A) (rest : List Token) (q : A → Reader B) (n : ℕ) → length rest ≤ n → ((x : A) → length (q x rest).1 ≤ length rest) → length (on_done v rest q).1 ≤ n
on_done-short (Done x) rest q n h k = let m = k x in omega arith
on_done-short Syntax rest q n h k = h
on_done-short Deep rest q n h k = h

tail-short : (ts : List Token) → length (tail ts) ≤ length ts
tail-short [] = omega arith
tail-short (t ∷ r) = omega arith

on_head-short : {S B : Type 0} (o : Option S) (ts : List Token) (p : S → Reader B) (other : Out B) → length other.1 ≤ length ts → ((s : S) → length (p s (tail ts)).1 ≤ length (tail ts)) → length (on_head o (λ s. p s (tail ts)) other).1 ≤ length ts
on_head-short None ts p other h k = h
on_head-short (Some s) ts p other h k = let m = k s in let n = tail-short ts in omega arith

many-short : {S B : Type 0} (f : Token → Option S) (p : S → Reader B) → ((s : S) (ts : List Token) → length (p s ts).1 ≤ length ts) → (n : ℕ) (ts : List Token) → length (many_from f p n ts).1 ≤ length ts
unfolding many_from
many-short f p h zero ts = omega arith
many-short f p h (suc n) ts = on_head-short (head_by f ts) ts (λ s. p s >>= λ x. many_from f p n >>= λ xs. pure (x ∷ xs)) (Done [], ts) (omega arith)
    (λ s. on_done-short (p s (tail ts)).0 (p s (tail ts)).1 (λ x. many_from f p n >>= λ xs. pure (x ∷ xs)) (length (tail ts)) (h s (tail ts))
    (λ x. let at = (p s (tail ts)).1 in on_done-short (many_from f p n at).0 (many_from f p n at).1 (λ xs. pure (x ∷ xs)) (length at) (many-short f p h n at) (λ xs. omega arith)))

finish-short : {A : Type 0} (x : A) (ts : List Token) → length (finish x ts).1 ≤ length ts
finish-short x [] = omega arith
finish-short x (t ∷ ts) = omega arith

deep-short : {S B : Type 0} (o : Option S) (ts : List Token) (other : Out B) → length other.1 ≤ length ts → length (on_head o (λ s. (Deep, ts)) other).1 ≤ length ts
deep-short None ts other h = h
deep-short (Some s) ts other h = omega arith

fork-within : {S B : Type 0} (f : Token → Option S) (P PMore : S → Rel B) (Q QMore : Rel B) → ((s : S) → Within (P s) (PMore s)) → Within Q QMore → Within (Fork f P Q) (Fork f PMore QMore)
fork-within f P PMore Q QMore h k a y (inl w) = inl (w.0, w.1, w.2, w.3, w.4, h w.1 w.2 y w.5)
fork-within f P PMore Q QMore h k a y (inr w) = inr (k a y w)

pub law-then : {A B : Type 0} {same : Bool} {p p2 : Reader A} {R RMore : Rel A} {q q2 : A → Reader B} {S SMore : A → Rel B}
    → Law same p p2 R RMore → ((x : A) → Law same (q x) (q2 x) (S x) (SMore x)) → Law same (p >>= q) (p2 >>= q2) (Then R S) (Then RMore SMore)
law-then {same = same} {p = p} {p2 = p2} {R = R} {RMore = RMore} {q = q} {q2 = q2} {S = S} {SMore = SMore} h k = record {
  run = λ ts. then-run same p p2 q q2 R RMore S SMore h.within (λ x. (k x).some) (λ x. (k x).some2) ts (p ts).0 (p ts).1 (h.run ts) (λ x d. (k x).run (p ts).1);
  within = λ a y w. (w.0, w.1, w.2, w.3, h.within w.0 w.2 w.4, (k w.2).within w.1 y w.5);
  some = let a = h.some in let b = (k a.1).some in (a.0 ++ b.0, b.1, (a.0, b.0, a.1, refl, a.2, b.2));
  some2 = let a = h.some2 in let b = (k a.1).some2 in (a.0 ++ b.0, b.1, (a.0, b.0, a.1, refl, a.2, b.2));
  short2 = λ ts. on_done-short (p2 ts).0 (p2 ts).1 q2 (length ts) (h.short2 ts) (λ x. (k x).short2 (p2 ts).1);
}

pub law-pure : {A : Type 0} (same : Bool) (x : A) → Law same (pure x) (pure x) (Pure x) (Pure x)
law-pure same x = record { run = λ ts. pure-run same x ts; within = λ a y h. h; some = ([], x, (refl, refl)); some2 = ([], x, (refl, refl)); short2 = λ ts. omega arith }

pub law-finish : {A : Type 0} (same : Bool) (x : A) → Law same (finish x) (finish x) (Pure x) (Pure x)
law-finish same x = record { run = λ ts. finish-run same x ts; within = λ a y h. h; some = ([], x, (refl, refl)); some2 = ([], x, (refl, refl)); short2 = λ ts. finish-short x ts }

pub law-fork : {S B : Type 0} {same : Bool} (f : Token → Option S) {p p2 : S → Reader B} {P PMore : S → Rel B} {q q2 : Reader B} {Q QMore : Rel B}
    → ((s : S) → Law same (p s) (p2 s) (P s) (PMore s)) → Law same q q2 Q QMore → Law same (fork f p q) (fork f p2 q2) (Fork f P Q) (Fork f PMore QMore)
law-fork {same = same} f {p = p} {p2 = p2} {P = P} {PMore = PMore} {q = q} {q2 = q2} {Q = Q} {QMore = QMore} h k = record {
  run = λ ts. fork-run same f p p2 q q2 P PMore Q QMore ts (λ t s r e. (h s).run r) (k.run ts);
  within = λ a y w. fork-within f P PMore Q QMore (λ s. (h s).within) k.within a y w;
  some = (k.some.0, k.some.1, inr k.some.2);
  some2 = (k.some2.0, k.some2.1, inr k.some2.2);
  short2 = λ ts. on_head-short (head_by f ts) ts p2 (q2 ts) (k.short2 ts) (λ s. (h s).short2 (tail ts));
}

-- a token that f takes has to come: t is one
pub law-must : {S B : Type 0} {same : Bool} (f : Token → Option S) (t : Token) (s : S) → f t ≡ Some s → {p p2 : S → Reader B} {P PMore : S → Rel B}
    → ((s : S) → Law same (p s) (p2 s) (P s) (PMore s)) → Law same (fork f p fail) (fork f p2 fail) (Fork f P (λ ts x. ⊥)) (Fork f PMore (λ ts x. ⊥))
law-must {B = B} {same = same} f t s e {p = p} {p2 = p2} {P = P} {PMore = PMore} h =
    let one : Sample (Fork f P (λ ts x. ⊥)) = (t ∷ (h s).some.0, (h s).some.1, inl (t, s, (h s).some.0, refl, e, (h s).some.2)) in
    let two : Sample (Fork f PMore (λ ts x. ⊥)) = (t ∷ (h s).some2.0, (h s).some2.1, inl (t, s, (h s).some2.0, refl, e, (h s).some2.2)) in
    let R : Rel B = Fork f P (λ ts x. ⊥) in
    let RMore : Rel B = Fork f PMore (λ ts x. ⊥) in
    record {
      run = λ ts. must-run same f p p2 P PMore ts one (λ t s r e. (h s).run r);
      within = λ a y w. fork-within f P PMore (λ ts x. ⊥) (λ ts x. ⊥) (λ s. (h s).within) (λ a x k. k) a y w;
      some = one;
      some2 = two;
      short2 = λ ts. on_head-short (head_by f ts) ts p2 (Syntax, ts) (omega arith) (λ s. (h s).short2 (tail ts));
    }

pub law-many : {S B : Type 0} {same : Bool} (f : Token → Option S) {p p2 : S → Reader B} {P PMore : S → Rel B}
    → ((s : S) → Law same (p s) (p2 s) (P s) (PMore s)) → Law same (many f p) (many f p2) (Many f P) (Many f PMore)
unfolding many
law-many {same = same} f {p = p} {p2 = p2} {P = P} {PMore = PMore} h = record {
  run = λ ts. many-run same f p p2 (λ s. short (h s)) (λ s. (h s).short2) P PMore (λ s. (h s).within) (λ s. (h s).run) ts;
  within = many-within f P PMore (λ s. (h s).within);
  some = ([], [], refl);
  some2 = ([], [], refl);
  short2 = λ ts. many-short f p2 (λ s. (h s).short2) (length ts) ts;
}

pub law-spanned : {A B : Type 0} {same : Bool} (make : A → Span → B) {p p2 : Reader A} {R RMore : Rel A} → Law same p p2 R RMore → Law same (spanned make p) (spanned make p2) (Spanned make R) (Spanned make RMore)
law-spanned {same = same} make {p = p} {p2 = p2} {R = R} {RMore = RMore} h = record {
  run = λ ts. spanned-run same make p p2 R RMore ts (h.run ts);
  within = λ a y w. (w.0, h.within a w.0 w.1, w.2);
  some = (h.some.0, make h.some.1 (span_of h.some.0), (h.some.1, h.some.2, refl));
  some2 = (h.some2.0, make h.some2.1 (span_of h.some2.0), (h.some2.1, h.some2.2, refl));
  short2 = λ ts. on_done-short (p2 ts).0 (p2 ts).1 (λ x r. (Done (make x (span_of (take (length ts - length r) ts))), r)) (length ts) (h.short2 ts) (λ x. omega arith);
}

pub law-too_deep : {S B : Type 0} (f : Token → Option S) {q q2 : Reader B} {Q QMore : Rel B} → Law true q q2 Q QMore → Law true (too_deep f q) (too_deep f q2) Q QMore
law-too_deep f {q = q} {q2 = q2} {Q = Q} {QMore = QMore} h = record {
  run = λ ts. too_deep-run f q q2 (λ s. q) Q QMore (λ s. Q) h.some ts (h.run ts);
  within = h.within;
  some = h.some;
  some2 = h.some2;
  short2 = λ ts. deep-short (head_by f ts) ts (q2 ts) (h.short2 ts);
}

pub law-room : {S B : Type 0} (f : Token → Option S) {q q2 : Reader B} {Q QMore : Rel B} (p2 : S → Reader B) (PMore : S → Rel B)
    → Law false q q2 Q QMore → ((s : S) → Sample (PMore s)) → ((s : S) (ts : List Token) → length (p2 s ts).1 ≤ length ts) → Law false (too_deep f q) (fork f p2 q2) Q (Fork f PMore QMore)
law-room f {q = q} {q2 = q2} {Q = Q} {QMore = QMore} p2 PMore h more shorter = record {
  run = λ ts. room-run f q q2 p2 Q QMore PMore h.some more ts (h.run ts);
  within = λ a y w. inr (h.within a y w);
  some = h.some;
  some2 = (h.some2.0, h.some2.1, inr h.some2.2);
  short2 = λ ts. on_head-short (head_by f ts) ts p2 (q2 ts) (h.short2 ts) (λ s. shorter s (tail ts));
}

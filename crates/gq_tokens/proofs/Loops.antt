-- Steps of readers: a construct that opens, and the turns of a repetition.
use Rattle.std.proofs.Common.{◌≡◌, ℕ, zero, suc, ◌+◌, ◌-◌, ◌≤◌, ◌<◌, List, [], ◌∷◌, ◌++◌, length, Option, Some, None, Err, refl, sym, ◌∙◌, ap, subst, arith, append_assoc, append-nil}
use Rattle.gq_lexer.specs.declared.token.Token.{Token}
use Rattle.gq_tokens.specs.Answers.{Reads}
use Rattle.gq_tokens.specs.Readers.{Verdict, Done, Syntax, Deep, Out, Reader, on_done, pure, head_by, tail, many, many_from}
use Rattle.gq_tokens.specs.steps.Constructs.{nest}
use Rattle.gq_tokens.specs.declared.tokens.Stop.{Stop}
use Rattle.gq_tokens.specs.declared.tokens.Stop.TheVariants as stop

-- ---- constructs

module _ {S B : Type 0} (room : ℕ) (f : Token → Option S) (r : S → Reader B) (q : Reader B)
    (ts : List Token) where
  opens_at : (n : ℕ) (s : S) → head_by f ts ≡ Some s → 0 < n → nest n f r q ts ≡ r s (tail ts)
  unfolding nest
  opens_at zero s e h = absurd (omega arith)
  opens_at (suc n) s e h = rw e refl

  deep_at : (n : ℕ) (s : S) → head_by f ts ≡ Some s → n ≡ 0 → nest n f r q ts ≡ (Deep, ts)
  unfolding nest
  deep_at zero s e z = rw e refl
  deep_at (suc n) s e z = absurd (omega arith)

  other_at : (n : ℕ) → head_by f ts ≡ None → nest n f r q ts ≡ q ts
  unfolding nest
  other_at zero e = rw e refl
  other_at (suc n) e = rw e refl

  pub nest_opens : (s : S) → head_by f ts ≡ Some s → 0 < room → nest room f r q ts ≡ r s (tail ts)
  nest_opens s e h = opens_at room s e h

  pub nest_deep : (s : S) → head_by f ts ≡ Some s → room ≡ 0 → nest room f r q ts ≡ (Deep, ts)
  nest_deep s e z = deep_at room s e z

  pub nest_other : head_by f ts ≡ None → nest room f r q ts ≡ q ts
  nest_other e = other_at room e

-- ---- repetitions

-- items that were read, and then what a reader of more of them does
unfoldable pub fronted : {B : Type 0} → List B → Out (List B) → Out (List B)
fronted xs o = on_done o.0 o.1 (λ ys rest. (Done (xs ++ ys), rest))

nothing_read : {B : Type 0} (v : Verdict (List B)) (rest : List Token)
    → fronted [] (v, rest) ≡ (v, rest)
unfolding fronted
nothing_read (Done xs) rest = refl
nothing_read Syntax rest = refl
nothing_read Deep rest = refl

module _ {S B : Type 0} (f : Token → Option S) (r : S → Reader B)
    (ts : List Token) (xs : List B) where
  -- before the first turn
  pub starts : (n : ℕ) → xs ≡ [] → n ≡ length ts
      → fronted xs (many_from f r (n - 0) ts) ≡ many f r ts
  unfolding many
  starts n none all = let k : n - 0 ≡ length ts =
      omega arith in rw (none, k) (nothing_read (many_from f r (length ts) ts).0
      (many_from f r (length ts) ts).1)

  -- one turn of so many that are left
  module _ (n : ℕ) where
    from_ends : head_by f ts ≡ None → fronted xs (many_from f r (suc n) ts) ≡ (Done xs, ts)
    unfolding fronted many_from
    from_ends h = rw (h, append-nil) refl

    from_goes : (s : S) (x : B) (rest : List Token) → head_by f ts ≡ Some s
        → r s (tail ts) ≡ (Done x, rest) → fronted (xs ++ (x ∷ [])) (many_from f r n rest) ≡ fronted
        xs (many_from f r (suc n) ts)
    unfolding fronted many_from
    from_goes s x rest h e = rw (h, e) (regroup (many_from f r n rest).0 (many_from f r n rest).1)
      where
        regroup : (v : Verdict (List B)) (z : List Token)
            → on_done v z (λ ys rest. (Done ((xs ++ (x ∷ [])) ++ ys), rest)) ≡ on_done
            (on_done v z (λ ys. pure (x ∷ ys))).0 (on_done v z (λ ys. pure (x ∷ ys))).1
            (λ ys rest. (Done (xs ++ ys), rest))
        regroup (Done ys) z = rw append_assoc refl
        regroup Syntax z = refl
        regroup Deep z = refl

    from_fails : (s : S) (e : Stop) (rest : List Token) → head_by f ts ≡ Some s
        → Reads {A = B} (r s (tail ts)) (Err e) rest
        → Reads {A = List B} (fronted xs (many_from f r (suc n) ts)) (Err e) rest
    unfolding fronted many_from
    from_fails s stop.Syntax rest h e = rw (h, e) refl
    from_fails s stop.Depth rest h e = rw (h, e) refl
    from_fails s stop.Memory rest h e = tt

  -- the turns of a loop that counts them: so many of n are over, and with what was read what is left gives W
  module _ (n at : ℕ) (W : Out (List B)) (so_far : fronted xs (many_from f r (n - at) ts) ≡ W) where
    pub all_read : n ≤ at → W ≡ (Done xs, ts)
    unfolding fronted many_from
    all_read h = let none : n - at ≡ 0 = omega arith in sym so_far ∙ rw (none, append-nil) refl

    module _ (more : at < n) where
      turn : fronted xs (many_from f r (suc (n - (at + 1))) ts) ≡ W
      turn = let left : suc (n - (at + 1)) ≡ n - at =
          omega arith in ap (λ k. fronted xs (many_from f r k ts)) left ∙ so_far

      pub none_read : (u : List Token) → None ≡ head_by f ts → u ≡ ts → W ≡ (Done xs, u)
      none_read u taken left = sym turn ∙ from_ends (n - (at + 1)) (sym taken)
          ∙ ap (λ v. (Done xs, v)) (sym left)

      module _ (s : S) (u : List Token) (taken : Some s ≡ head_by f ts) (left : u ≡ tail ts) where
        pub item_read : (x : B) (rest : List Token) (new : List B) → r s u ≡ (Done x, rest)
            → new ≡ xs ++ (x ∷ []) → fronted new (many_from f r (n - (at + 1)) rest) ≡ W
        item_read x rest new h e =
            ap (λ ys. fronted ys (many_from f r (n - (at + 1)) rest)) e
            ∙ from_goes (n - (at + 1)) s x rest (sym taken) (ap (r s) (sym left) ∙ h) ∙ turn

        pub item_fails : (e : Stop) (rest : List Token) → Reads {A = B} (r s u) (Err e) rest
            → Reads {A = List B} W (Err e) rest
        item_fails e rest h =
            subst (λ o. Reads {A = List B} o (Err e) rest) turn
            (from_fails (n - (at + 1)) s e rest (sym taken)
            (subst (λ v. Reads {A = B} (r s v) (Err e) rest) left h))

-- what follows a first item that was read
pub after_first : {B : Type 0} (first : B) (o : Out (List B)) (more : List B) (rest : List Token)
    (all : List B) → o ≡ (Done more, rest) → all ≡ first ∷ more
    → on_done o.0 o.1 (λ xs. pure (first ∷ xs)) ≡ (Done all, rest)
after_first first o more rest all h e = rw (h, e) refl

pub fails_after : {A B : Type 0} (o : Out A) (q : A → Reader B) (e : Stop) (rest : List Token)
    → Reads o (Err e) rest → Reads {A = B} (on_done o.0 o.1 q) (Err e) rest
fails_after o q stop.Syntax rest h = rw h refl
fails_after o q stop.Depth rest h = rw h refl
fails_after o q stop.Memory rest h = tt

-- How far a piece and a session have come.
use Rattle.std.proofs.Common.{◌≡◌, ℕ, ◌+◌, ◌-◌, ◌<◌, ◌≤◌, List, [], ◌∷◌, ◌++◌, length, take, drop, inl, inr, get_or, true, false, refl, sym, ap, ◌∙◌, append_assoc, append-nil, subst, arith, length-append}
use Rattle.std.specs.declared.option.Option.{Option}
use Rattle.std.specs.Io.KnownBytes.{Appends}
use Rattle.std.proofs.lemmas.List.{take-append-drop}
use Rattle.gq_io.specs.Outside.{AppendsFront}
use Rattle.gq_session.specs.Tones.{worse}
use Rattle.gq_session.specs.Replies.{Rule, Wrote, WroteFront}
use Rattle.gq_session.specs.Scanning.{Place, start, step, ended_by, place_after, ended_in}
use Rattle.std.specs.Prelude.{Ok, Err}
use Rattle.std.specs.Io.KnownBytes.{Consumes, IsAtEnd, Keeps}
use Rattle.gq_io.specs.Causes.{Rose}
use Rattle.gq_io.proofs.Counts.{Rose-since}
use Rattle.gq_io.proofs.Moved.{Consumes-both, Consumes-kept, Consumes-none}
use Rattle.gq_session.specs.Sessions.{Broke, IsStill, Session, Span, statements_of}
use Rattle.gq_session.specs.declared.run.Stop.TheVariants as stop
use Rattle.gq_session.specs.declared.answering.Tone.{Tone}
use Rattle.gq_session.specs.declared.answering.Tone.TheVariants as tone
use Rattle.gq_session.proofs.Cut.{place-append, ended-append, place-more, ended-more, place-stopped, ended-stopped, count-grows, count-within}
use Rattle.gq_session.proofs.Texts.{wrote-none, wrote-one, wrote-more, front-one, front-more}

-- the text was taken from the place p to the place q, and the statements that ended were answered
pub record Came {S : Type 0} (answers : Rule S) (before after : S) (long most : ℕ) (p : Place) (text : List ℕ) (q : Place) (t : Tone) (old new : Option (List ℕ)) : Type 0 where
  pub place : place_after long most p text ≡ q
  pub wrote : Wrote answers before after (ended_in long most p text) t old new

pub came-none : {S : Type 0} (answers : Rule S) (before : S) (long most : ℕ) (p : Place) (a : Option (List ℕ)) → Came answers before before long most p [] p tone.Good a a
came-none answers before long most p a = record { place = refl; wrote = wrote-none answers before a }

pub came-further : {S : Type 0} (answers : Rule S) (before mid after : S) (long most : ℕ) (p q r : Place) (xs ys : List ℕ) (t u : Tone) (a b c : Option (List ℕ))
    → Came answers before mid long most p xs q t a b → Came answers mid after long most q ys r u b c → Came answers before after long most p (xs ++ ys) r (worse t u) a c
came-further answers before mid after long most p q r xs ys t u a b c h k = record {
  place = place-append long most p xs ys ∙ ap (λ z. place_after long most z ys) h.place ∙ k.place;
  wrote = subst (λ l. Wrote answers before after l (worse t u) a c)
      (ap (λ z. ended_in long most p xs ++ ended_in long most z ys) (sym h.place) ∙ sym (ended-append long most p xs ys))
      (wrote-more answers before mid after _ _ t u a b c h.wrote k.wrote);
}

-- a byte that is kept
pub came-kept : {S : Type 0} (answers : Rule S) (before after : S) (long most : ℕ) (p q r : Place) (xs : List ℕ) (i : ℕ) (t : Tone) (a b : Option (List ℕ)) → i < length xs
    → Came answers before after long most p (take i xs) q t a b → step long most q (get_or xs i 0) ≡ r → ended_by most q (get_or xs i 0) ≡ [] → Came answers before after long most p (take (i + 1) xs) r t a b
came-kept answers before after long most p q r xs i t a b lt h next none = record {
  place = place-more long most p xs i lt ∙ ap (λ z. step long most z (get_or xs i 0)) h.place ∙ next;
  wrote = subst (λ l. Wrote answers before after l t a b)
      (sym (ended-more long most p xs i lt ∙ ap (λ z. ended_in long most p (take i xs) ++ ended_by most z (get_or xs i 0)) h.place
      ∙ ap (λ l. ended_in long most p (take i xs) ++ l) none ∙ append-nil _)) h.wrote;
}

ended-now : (long most : ℕ) (p q : Place) (xs : List ℕ) (i : ℕ) (s : List ℕ) → i < length xs → place_after long most p (take i xs) ≡ q → ended_by most q (get_or xs i 0) ≡ s ∷ []
    → ended_in long most p (take (i + 1) xs) ≡ ended_in long most p (take i xs) ++ s ∷ []
ended-now long most p q xs i s lt place one = ended-more long most p xs i lt ∙ ap (λ z. ended_in long most p (take i xs) ++ ended_by most z (get_or xs i 0)) place
    ∙ ap (λ l. ended_in long most p (take i xs) ++ l) one

-- a byte that ends a statement, which is answered
pub came-ended : {S : Type 0} (answers : Rule S) (before mid after : S) (long most : ℕ) (p q r : Place) (xs : List ℕ) (i : ℕ) (t u : Tone) (a b c : Option (List ℕ)) (s : List ℕ) → i < length xs
    → Came answers before mid long most p (take i xs) q t a b → step long most q (get_or xs i 0) ≡ r → ended_by most q (get_or xs i 0) ≡ s ∷ []
    → (text : List ℕ) × answers mid s u text after × Appends b c text → Came answers before after long most p (take (i + 1) xs) r (worse t u) a c
came-ended answers before mid after long most p q r xs i t u a b c s lt h next one said = record {
  place = place-more long most p xs i lt ∙ ap (λ z. step long most z (get_or xs i 0)) h.place ∙ next;
  wrote = subst (λ l. Wrote answers before after l (worse t u) a c) (sym (ended-now long most p q xs i s lt h.place one))
      (wrote-more answers before mid after _ _ t u a b c h.wrote (wrote-one answers mid after s u b c said));
}

-- the reply to a statement that ended broke off
pub came-broke : {S : Type 0} (answers : Rule S) (before mid : S) (long most : ℕ) (p q : Place) (xs : List ℕ) (i : ℕ) (t : Tone) (a b c : Option (List ℕ)) (s : List ℕ) → i < length xs
    → Came answers before mid long most p (take i xs) q t a b → ended_by most q (get_or xs i 0) ≡ s ∷ []
    → (u : Tone) × (text : List ℕ) × (after : S) × answers mid s u text after × AppendsFront b c text → Broke answers before long most p xs a c
came-broke answers before mid long most p q xs i t a b c s lt h one said = record {
  front = take (i + 1) xs;
  rest = drop (i + 1) xs;
  whole = sym (take-append-drop (i + 1) xs);
  wrote = subst (λ l. WroteFront answers before l a c) (sym (ended-now long most p q xs i s lt h.place one))
      (front-more answers before mid _ _ t a b c h.wrote (front-one answers mid s b c said));
}

-- a byte that passes a limit
pub came-over : {S : Type 0} (answers : Rule S) (before after : S) (long most : ℕ) (p q : Place) (xs : List ℕ) (i : ℕ) (t : Tone) (a b : Option (List ℕ)) → i < length xs
    → Came answers before after long most p (take i xs) q t a b → (step long most q (get_or xs i 0)).stopped ≡ true → ended_by most q (get_or xs i 0) ≡ []
    → ((place_after long most p xs).stopped ≡ true) × (u : Tone) × Wrote answers before after (ended_in long most p xs) u a b
came-over answers before after long most p q xs i t a b lt h over none =
    let next = came-kept answers before after long most p q (step long most q (get_or xs i 0)) xs i t a b lt h refl none in
    let stopped : (place_after long most p (take (i + 1) xs)).stopped ≡ true = ap (λ z. z.stopped) next.place ∙ over in
    let split = take-append-drop (i + 1) xs in
    let same : place_after long most p xs ≡ place_after long most p (take (i + 1) xs) =
    ap (place_after long most p) (sym split) ∙ place-append long most p (take (i + 1) xs) (drop (i + 1) xs) ∙ place-stopped long most _ (drop (i + 1) xs) stopped in
    let all : ended_in long most p (take (i + 1) xs) ≡ ended_in long most p xs =
    sym (ap (ended_in long most p) (sym split) ∙ ended-append long most p (take (i + 1) xs) (drop (i + 1) xs)
    ∙ ap (λ l. ended_in long most p (take (i + 1) xs) ++ l) (ended-stopped long most _ (drop (i + 1) xs) stopped) ∙ append-nil _) in
    (ap (λ z. z.stopped) same ∙ stopped, t, subst (λ l. Wrote answers before after l t a b) all next.wrote)

abbrev pub span : Option (List ℕ) → Option (List ℕ) → ℕ → ℕ → Span
span old new before now = record { old = old; new = new; before = before; now = now }

-- the session ate some text, came to the place q and answered the statements that ended
pub record Going {S : Type 0} (answers : Rule S) (before after : S) (long most : ℕ) (q : Place) (t : Tone) (input out : Span) : Type 0 where
  pub eaten : List ℕ
  pub took : Consumes input.old input.new eaten
  pub came : Came answers before after long most start eaten q t out.old out.new
  pub small : q.count ≤ most
  pub live : q.stopped ≡ false
  pub input_still : IsStill input
  pub out_still : IsStill out

pub going-start : {S : Type 0} (answers : Rule S) (before : S) (long most : ℕ) (a o : Option (List ℕ)) (m n : ℕ) → Going answers before before long most start tone.Good (span a a m m) (span o o n n)
going-start answers before long most a o m n = record {
  eaten = [];
  took = Consumes-none a;
  came = came-none answers before long most start o;
  small = omega arith;
  live = refl;
  input_still = refl;
  out_still = refl;
}

pub going-size : {S : Type 0} (answers : Rule S) (before after : S) (long most : ℕ) (q : Place) (t : Tone) (input out : Span) (h : Going answers before after long most q t input out) → length h.eaten ≡ q.count
going-size answers before after long most q t input out h =
    let grows = count-grows long most start h.eaten (ap (λ z. z.stopped) h.came.place ∙ h.live) in
    omega (arith, grows, ap (λ z. z.count) h.came.place)

-- a rest of a reply after what was answered
pub broke-further : {S : Type 0} (answers : Rule S) (before mid : S) (long most : ℕ) (p q : Place) (xs ys : List ℕ) (t : Tone) (a b c : Option (List ℕ))
    → Came answers before mid long most p xs q t a b → Broke answers mid long most q ys b c → Broke answers before long most p (xs ++ ys) a c
broke-further answers before mid long most p q xs ys t a b c h k = record {
  front = xs ++ k.front;
  rest = k.rest;
  whole = ap (λ l. xs ++ l) k.whole ∙ sym (append_assoc xs k.front k.rest);
  wrote = subst (λ l. WroteFront answers before l a c)
      (ap (λ z. ended_in long most p xs ++ ended_in long most z k.front) (sym h.place) ∙ sym (ended-append long most p xs k.front))
      (front-more answers before mid _ _ t a b c h.wrote k.wrote);
}

module _ {S : Type 0} (answers : Rule S) (before mid : S) (long most : ℕ) (q : Place) (t : Tone) (a b c : Option (List ℕ)) (i j k : ℕ) (x y z : Option (List ℕ)) (m n o : ℕ)
    (h : Going answers before mid long most q t (span a b i j) (span x y m n)) where
  -- another piece was taken whole
  pub further : (after : S) (r : Place) (u : Tone) (ys : List ℕ) → Consumes b c ys → k ≡ j → o ≡ n → r.stopped ≡ false → Came answers mid after long most q ys r u y z
      → Going answers before after long most r (worse t u) (span a c i k) (span x z m o)
  further after r u ys took same same' live more =
      let came = came-further answers before mid after long most start q r h.eaten ys t u x y z h.came more in
      record {
        eaten = h.eaten ++ ys;
        took = Consumes-both a b c h.eaten ys h.took took;
        came = came;
        small = omega (arith, count-within long most start (h.eaten ++ ys) (omega arith) (ap (λ z. z.stopped) came.place ∙ live), ap (λ z. z.count) came.place);
        live = live;
        input_still = same ∙ h.input_still;
        out_still = same' ∙ h.out_still;
      }

  pub read_failed : Keeps b c → j ≤ k → Rose j k → Session answers before mid long most (span a c i k) (span x y m n) (Err stop.Read)
  read_failed kept le rose = record {
    eaten = h.eaten;
    took = Consumes-kept a b c h.eaten h.took kept;
    few = omega (arith, h.small, going-size answers before mid long most q t (span a b i j) (span x y m n) h);
    ends = (t, h.came.wrote, Rose-since i j k h.input_still rose);
    input_later = omega (arith, h.input_still, le);
    out_later = omega (arith, h.out_still);
    first = h.out_still;
  }

  few-more : (ys : List ℕ) → length ys ≤ most - q.count + 1 → length (h.eaten ++ ys) ≤ most + 1
  few-more ys le = omega (arith, length-append h.eaten ys, le, h.small, going-size answers before mid long most q t (span a b i j) (span x y m n) h)

  pub write_failed : (after : S) (ys : List ℕ) → Consumes b c ys → k ≡ j → n ≤ o → length ys ≤ most - q.count + 1 → Broke answers mid long most q ys y z → Rose n o
      → Session answers before after long most (span a c i k) (span x z m o) (Err stop.Write)
  write_failed after ys took same le few broke rose = record {
    eaten = h.eaten ++ ys;
    took = Consumes-both a b c h.eaten ys h.took took;
    few = few-more ys few;
    ends = (inl (broke-further answers before mid long most start q h.eaten ys t x y z h.came broke), Rose-since m n o h.out_still rose);
    input_later = omega (arith, h.input_still, same);
    out_later = omega (arith, h.out_still, le);
    first = same ∙ h.input_still;
  }

  pub too_long : (after : S) (ys : List ℕ) → Consumes b c ys → k ≡ j → o ≡ n → length ys ≤ most - q.count + 1
      → ((place_after long most q ys).stopped ≡ true) × (u : Tone) × Wrote answers mid after (ended_in long most q ys) u y z → Session answers before after long most (span a c i k) (span x z m o) (Err stop.TooLong)
  too_long after ys took same same' few (stopped, u, wrote) =
      let came = came-further answers before mid after long most start q (place_after long most q ys) h.eaten ys t u x y z h.came (record { place = refl; wrote = wrote }) in
      record {
        eaten = h.eaten ++ ys;
        took = Consumes-both a b c h.eaten ys h.took took;
        few = few-more ys few;
        ends = (ap (λ z. z.stopped) came.place ∙ stopped, worse t u, came.wrote);
        input_later = omega (arith, h.input_still, same);
        out_later = omega (arith, h.out_still, same');
        first = (same ∙ h.input_still, same' ∙ h.out_still);
      }

  all-statements : ended_in long most start h.eaten ++ q.rest ∷ [] ≡ statements_of long most h.eaten
  all-statements = rw (h.came.place, h.live) refl

  ate-all : Consumes b c [] → Consumes a c h.eaten
  ate-all took = rw (← append-nil h.eaten) (Consumes-both a b c h.eaten [] h.took took)

  pub done : (after : S) (u : Tone) → Consumes b c [] → IsAtEnd c → k ≡ j → o ≡ n → (text : List ℕ) × answers mid q.rest u text after × Appends y z text
      → Session answers before after long most (span a c i k) (span x z m o) (Ok (worse t u))
  done after u took end same same' said = record {
    eaten = h.eaten;
    took = ate-all took;
    few = omega (arith, h.small, going-size answers before mid long most q t (span a b i j) (span x y m n) h);
    ends = (
      ap (λ z. z.stopped) h.came.place ∙ h.live,
      end,
      subst (λ l. Wrote answers before after l (worse t u) x z) all-statements
          (wrote-more answers before mid after _ _ t u x y z h.came.wrote (wrote-one answers mid after q.rest u y z said)),
    );
    input_later = omega (arith, h.input_still, same);
    out_later = omega (arith, h.out_still, same');
    first = (same ∙ h.input_still, same' ∙ h.out_still);
  }

  pub done-part : (after : S) → Consumes b c [] → IsAtEnd c → k ≡ j → n ≤ o → (u : Tone) × (text : List ℕ) × (later : S) × answers mid q.rest u text later × AppendsFront y z text → Rose n o
      → Session answers before after long most (span a c i k) (span x z m o) (Err stop.Write)
  done-part after took end same le said rose = record {
    eaten = h.eaten;
    took = ate-all took;
    few = omega (arith, h.small, going-size answers before mid long most q t (span a b i j) (span x y m n) h);
    ends = (inr (end, subst (λ l. WroteFront answers before l x z) all-statements (front-more answers before mid _ _ t x y z h.came.wrote (front-one answers mid q.rest y z said))), Rose-since m n o h.out_still rose);
    input_later = omega (arith, h.input_still, same);
    out_later = omega (arith, h.out_still, le);
    first = same ∙ h.input_still;
  }

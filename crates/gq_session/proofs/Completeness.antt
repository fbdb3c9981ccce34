-- What one byte can do, and what follows for whole texts.
use Rattle.std.proofs.Common.{◌≡◌, ℕ, ◌+◌, ◌<◌, ◌≤◌, List, [], ◌∷◌, ◌++◌, length, Some, None, true, false, refl, sym, ap, ◌∙◌, append_assoc, append-nil, subst, arith, Bool, inl, inr, length-append, Ok, Err, Result}
use Rattle.std.specs.Prelude.{if◌then◌else◌, nat_le, ◌⊎◌}
use Rattle.std.specs.declared.option.Option.{Option}
use Rattle.std.specs.Io.KnownBytes.{Consumes}
use Rattle.gq_session.specs.declared.scan.State.{State}
use Rattle.gq_session.specs.declared.scan.State.TheVariants as at
use Rattle.gq_session.specs.declared.answering.Tone.{Tone}
use Rattle.gq_session.specs.declared.run.Stop.{Stop}
use Rattle.gq_session.specs.declared.run.Stop.TheVariants as stopped_by
use Rattle.gq_session.specs.Scanning.{Place, start, stop, step, next_state, ends, ended_by, place_after, ended_in}
use Rattle.gq_session.specs.Replies.{Replies, Rule, WroteFront}
use Rattle.gq_session.specs.Tones.{worse}
use Rattle.gq_session.specs.declared.answering.Tone.TheVariants as tone
use Rattle.gq_io.proofs.Moved.{Consumes-whole, front_longer}
use Rattle.gq_session.proofs.Texts.{replies-append}
use Rattle.gq_session.specs.Sessions.{Session, Span, statements_of}
use Rattle.gq_session.specs.Whole.{HasLongTail, IsTooLong, Partly, Whole, cut_from, statements, tail_from}
use Rattle.gq_session.proofs.Cut.{count-grows, count-within, live, place-append, place-stopped, ended-stopped, ended-append}

abbrev fresh : Place → Place
fresh p = record { state = at.Plain; rest = []; count = p.count + 1; stopped = false }

abbrev longer : Place → ℕ → Place
longer p b = record { state = next_state p.state b; rest = p.rest ++ b ∷ []; count = p.count + 1; stopped = false }

data Kind (long most : ℕ) (p : Place) (b : ℕ) : Type 0 where
  over : most ≤ p.count → step long most p b ≡ stop p → Kind long most p b
  ended : ends p.state b ≡ true → step long most p b ≡ fresh p → ended_by most p b ≡ p.rest ∷ [] → Kind long most p b
  too_long : ends p.state b ≡ false → long ≤ length p.rest → step long most p b ≡ stop p → Kind long most p b
  kept : ends p.state b ≡ false → length p.rest < long → step long most p b ≡ longer p b → ended_by most p b ≡ [] → Kind long most p b

yes : (m n : ℕ) → nat_le m n ≡ true → m ≤ n
yes m n h = grind (arith, h)

no : (m n : ℕ) → nat_le m n ≡ false → n < m
no m n h = grind (arith, h)

kind-by : (long most : ℕ) (p : Place) (b : ℕ) (m e l : Bool) → p.stopped ≡ false → nat_le most p.count ≡ m → ends p.state b ≡ e → nat_le long (length p.rest) ≡ l → Kind long most p b
kind-by long most p b true e l live im ie il = over (yes _ _ im) (rw (live, im) refl)
kind-by long most p b false true l live im ie il = ended ie (rw (live, im, ie) refl) (rw (live, im, ie) refl)
kind-by long most p b false false true live im ie il = too_long ie (yes _ _ il) (rw (live, im, ie, il) refl)
kind-by long most p b false false false live im ie il = kept ie (no _ _ il) (rw (live, im, ie, il) refl) (rw (live, im, ie) refl)

kind : (long most : ℕ) (p : Place) (b : ℕ) → p.stopped ≡ false → Kind long most p b
kind long most p b h = kind-by long most p b (nat_le most p.count) (ends p.state b) (nat_le long (length p.rest)) h refl refl refl

cut-ended : (s : State) (rest : List ℕ) (b : ℕ) (xs : List ℕ) → ends s b ≡ true → cut_from s rest (b ∷ xs) ≡ rest ∷ cut_from at.Plain [] xs
cut-ended s rest b xs e = rw e refl

cut-kept : (s : State) (rest : List ℕ) (b : ℕ) (xs : List ℕ) → ends s b ≡ false → cut_from s rest (b ∷ xs) ≡ cut_from (next_state s b) (rest ++ b ∷ []) xs
cut-kept s rest b xs e = rw e refl

tail-ended : (s : State) (rest : List ℕ) (b : ℕ) (xs : List ℕ) → ends s b ≡ true → tail_from s rest (b ∷ xs) ≡ tail_from at.Plain [] xs
tail-ended s rest b xs e = rw e refl

tail-kept : (s : State) (rest : List ℕ) (b : ℕ) (xs : List ℕ) → ends s b ≡ false → tail_from s rest (b ∷ xs) ≡ tail_from (next_state s b) (rest ++ b ∷ []) xs
tail-kept s rest b xs e = rw e refl

-- what holds of the places at which no limit stopped the scanner
module _ (long most : ℕ) where
  tail-is : (p : Place) (xs : List ℕ) → (place_after long most p xs).stopped ≡ false → (place_after long most p xs).rest ≡ tail_from p.state p.rest xs
  tail-is p [] h = refl
  tail-is p (b ∷ xs) h =
      let next = live long most (step long most p b) xs h in
      let rec = tail-is (step long most p b) xs h in
      elim (kind long most p b (live long most p (b ∷ xs) h)) [
        | over le is ↦ let s = ap (λ q. q.stopped) is in cc
        | ended e is one ↦ rw e (rec ∙ ap (λ q. tail_from q.state q.rest xs) is)
        | too_long e le is ↦ let s = ap (λ q. q.stopped) is in cc
        | kept e lt is none ↦ rw e (rec ∙ ap (λ q. tail_from q.state q.rest xs) is)
      ]

  rest-short : (p : Place) (xs : List ℕ) → length p.rest ≤ long → (place_after long most p xs).stopped ≡ false → length (place_after long most p xs).rest ≤ long
  rest-short p [] le h = le
  rest-short p (b ∷ xs) le h =
      let rec = λ (le : length (step long most p b).rest ≤ long). rest-short (step long most p b) xs le h in
      let next = live long most (step long most p b) xs h in
      elim (kind long most p b (live long most p (b ∷ xs) h)) [
        | over m is ↦ let s = ap (λ q. q.stopped) is in cc
        | ended e is one ↦ rec (omega (arith, ap (λ q. length q.rest) is))
        | too_long e m is ↦ let s = ap (λ q. q.stopped) is in cc
        | kept e lt is none ↦ rec (omega (arith, lt, ap (λ q. length q.rest) is, length-append p.rest (b ∷ [])))
      ]

  -- without limits the cut is the same
  cuts-are : (p : Place) (xs : List ℕ) → (place_after long most p xs).stopped ≡ false → ended_in long most p xs ++ (place_after long most p xs).rest ∷ [] ≡ cut_from p.state p.rest xs
  cuts-are p [] h = refl
  cuts-are p (b ∷ xs) h =
      let next = live long most (step long most p b) xs h in
      let rec = cuts-are (step long most p b) xs h in
      let more = ended_in long most (step long most p b) xs in
      let last = (place_after long most (step long most p b) xs).rest ∷ [] in
      elim (kind long most p b (live long most p (b ∷ xs) h)) [
        | over m is ↦ let s = ap (λ q. q.stopped) is in cc
        | ended e is one ↦ append_assoc (ended_by most p b) more last ∙ ap (λ l. l ++ (more ++ last)) one ∙ ap (λ l. p.rest ∷ l) (rec ∙ ap (λ q. cut_from q.state q.rest xs) is)
            ∙ sym (cut-ended p.state p.rest b xs e)
        | too_long e m is ↦ let s = ap (λ q. q.stopped) is in cc
        | kept e lt is none ↦ append_assoc (ended_by most p b) more last ∙ ap (λ l. l ++ (more ++ last)) none ∙ rec ∙ ap (λ q. cut_from q.state q.rest xs) is
            ∙ sym (cut-kept p.state p.rest b xs e)
      ]

  Over : State → List ℕ → ℕ → List ℕ → Type 0
  Over s rest count xs = (most < count + length xs) ⊎ HasLongTail long s rest xs

  tail-later : (s : State) (rest : List ℕ) (r : State) (rest' : List ℕ) (b : ℕ) (xs : List ℕ) → ((front : List ℕ) → tail_from s rest (b ∷ front) ≡ tail_from r rest' front) → HasLongTail long r rest' xs → HasLongTail long s rest (b ∷ xs)
  tail-later s rest r rest' b xs same t = record { front = b ∷ t.front; back = t.back; whole = ap (λ l. b ∷ l) t.whole; over = omega (arith, t.over, ap length (same t.front)) }

  over-later : (p q : Place) (b : ℕ) (xs : List ℕ) → q.count ≡ p.count + 1 → ((front : List ℕ) → tail_from p.state p.rest (b ∷ front) ≡ tail_from q.state q.rest front)
      → (most < q.count + length xs) ⊎ HasLongTail long q.state q.rest xs → (most < p.count + length (b ∷ xs)) ⊎ HasLongTail long p.state p.rest (b ∷ xs)
  over-later p q b xs count same (inl h) = inl (omega (arith, h, count))
  over-later p q b xs count same (inr t) = inr (tail-later p.state p.rest q.state q.rest b xs same t)

  -- a limit that stopped the scanner was passed
  passed : (p : Place) (xs : List ℕ) → p.stopped ≡ false → (place_after long most p xs).stopped ≡ true → (most < p.count + length xs) ⊎ HasLongTail long p.state p.rest xs
  passed p [] l h = cc
  passed p (b ∷ xs) l h =
      let rec = λ (q : Place) (is : step long most p b ≡ q) (live : q.stopped ≡ false).
      subst (λ q. (most < q.count + length xs) ⊎ HasLongTail long q.state q.rest xs) is (passed (step long most p b) xs (ap (λ q. q.stopped) is ∙ live) h) in
      elim (kind long most p b l) [
        | over m is ↦ inl (omega (arith, m))
        | ended e is one ↦ over-later p (fresh p) b xs refl (λ front. tail-ended p.state p.rest b front e) (rec (fresh p) is refl)
        | too_long e m is ↦ inr (record { front = b ∷ []; back = xs; whole = refl; over = omega (arith, m, ap length (tail-kept p.state p.rest b [] e), length-append p.rest (b ∷ [])) })
        | kept e lt is none ↦ over-later p (longer p b) b xs refl (λ front. tail-kept p.state p.rest b front e) (rec (longer p b) is refl)
      ]

  not-passed : (text : List ℕ) → (place_after long most start text).stopped ≡ false → ¬ IsTooLong long most text
  not-passed text h (inl beyond) = omega (arith, beyond, count-grows long most start text h, count-within long most start text (omega arith) h)
  not-passed text h (inr t) =
      let split = ap (place_after long most start) t.whole ∙ place-append long most start t.front t.back in
      let before = live long most (place_after long most start t.front) t.back (sym (ap (λ q. q.stopped) split) ∙ h) in
      omega (arith, t.over, rest-short start t.front (omega arith) before, ap length (tail-is start t.front before))

  passed-whole : (text : List ℕ) → (place_after long most start text).stopped ≡ true → IsTooLong long most text
  passed-whole text h = elim (passed start text refl h) [ inl m ↦ inl (omega (arith, m)) | inr t ↦ inr t ]

  statements-are : (text : List ℕ) → (place_after long most start text).stopped ≡ false → statements_of long most text ≡ statements text
  statements-are text h = rw h (cuts-are start text h)

some-eaten : (text : List ℕ) (after : Option (List ℕ)) (eaten : List ℕ) → Consumes (Some text) after eaten → (rest : List ℕ) × (text ≡ eaten ++ rest)
some-eaten text None eaten took = absurd took
some-eaten text (Some rest) eaten took = (rest, took)

-- a front of the replies to some statements is one of the replies to more
module _ {S : Type 0} (answers : Rule S) (total : (before : S) (statement : List ℕ) → (t : Tone) × (reply : List ℕ) × (after : S) × answers before statement t reply after) where
  some-replies : (before : S) (ss : List (List ℕ)) → (t : Tone) × (text : List ℕ) × (after : S) × Replies answers before after ss t text
  some-replies before [] = (tone.Good, [], before, (refl, refl, refl))
  some-replies before (s ∷ ss) =
      let (t, reply, next, is) = total before s in
      let (u, more, after, rest) = some-replies next ss in
      (worse t u, reply ++ more, after, (t, u, reply, more, next, is, rest, refl, refl))

  front-longer : (before : S) (xs ys : List (List ℕ)) (a b : Option (List ℕ)) → WroteFront answers before xs a b → WroteFront answers before (xs ++ ys) a b
  front-longer before xs ys a b w =
      let (t, text, after, rest) = some-replies w.after ys in
      record {
        after = after;
        tone = worse w.tone t;
        text = w.text ++ text;
        replies = replies-append answers before w.after after xs ys w.tone t w.text text w.replies rest;
        moved = front_longer a b w.text text w.moved;
      }

  module _ (before : S) (long most : ℕ) where
    -- a front of the replies to the statements of a text, whether a limit is passed or not
    partly-by : (text : List ℕ) (a b : Option (List ℕ)) (halts : Bool) → (place_after long most start text).stopped ≡ halts
        → WroteFront answers before (statements_of long most text) a b → Partly answers before long most text a b
    partly-by text a b true halted w = record {
      result = Err stopped_by.TooLong;
      replies = w.text;
      permitted = (passed-whole long most text halted, (w.after, w.tone, subst (λ l. Replies answers before w.after l w.tone w.text) (rw halted (append-nil _)) w.replies));
      moved = w.moved;
    }
    partly-by text a b false alive w = record {
      result = Ok w.tone;
      replies = w.text;
      permitted = (not-passed long most text alive, (w.after, subst (λ l. Replies answers before w.after l w.tone w.text) (statements-are long most text alive) w.replies));
      moved = w.moved;
    }

    partly : (text : List ℕ) (a b : Option (List ℕ)) → WroteFront answers before (statements_of long most text) a b → Partly answers before long most text a b
    partly text a b w = partly-by text a b (place_after long most start text).stopped refl w

    abbrev last-of : List ℕ → List (List ℕ)
    last-of text = if (place_after long most start text).stopped then [] else (place_after long most start text).rest ∷ []

    -- a write failed: in the reply to a statement that ended, or in that to the last
    broke-off : (after : S) (text : List ℕ) (input out : Span) (h : Session answers before after long most input out (Err stopped_by.Write)) → input.old ≡ Some text → WroteFront answers before (statements_of long most text) out.old out.new
    broke-off after text input out h told = elim h.ends.0 [
      | inl broke ↦
          let (left, whole) = some-eaten text input.new h.eaten (rw told at h.took) in
          let all : text ≡ broke.front ++ (broke.rest ++ left) = whole ∙ ap (λ l. l ++ left) broke.whole ∙ append_assoc broke.front broke.rest left in
          rw all (subst (λ l. WroteFront answers before l out.old out.new)
          (sym (ap (λ l. l ++ last-of (broke.front ++ (broke.rest ++ left))) (ended-append long most start broke.front (broke.rest ++ left))
          ∙ append_assoc (ended_in long most start broke.front) _ _))
          (front-longer before (ended_in long most start broke.front) _ out.old out.new broke.wrote))
      | inr end ↦ rw (Consumes-whole text h.eaten input.new (rw told at h.took) end.0) end.1
    ]

    complete_by : (after : S) (input out : Span) (result : Result Tone Stop) → Session answers before after long most input out result → Whole answers before long most input out result
    complete_by after input out (Ok t) h text told =
        let (alive, end, wrote) = h.ends in
        let all = Consumes-whole text h.eaten input.new (rw told at h.took) end in
        record {
          replies = wrote.text;
          permitted = rw all (not-passed long most h.eaten alive, (after, subst (λ l. Replies answers before after l t wrote.text) (statements-are long most h.eaten alive) wrote.replies));
          moved = wrote.moved;
        }
    complete_by after input out (Err stopped_by.TooLong) h text told =
        let (halted, t, wrote) = h.ends in
        let (rest, whole) = some-eaten text input.new h.eaten (rw told at h.took) in
        let same = place-append long most start h.eaten rest ∙ place-stopped long most _ rest halted in
        let all = ended-append long most start h.eaten rest ∙ ap (λ l. ended_in long most start h.eaten ++ l) (ended-stopped long most _ rest halted) ∙ append-nil _ in
        record {
          replies = wrote.text;
          permitted = rw whole (passed-whole long most (h.eaten ++ rest) (ap (λ q. q.stopped) same ∙ halted), (after, t, subst (λ l. Replies answers before after l t wrote.text) (sym all) wrote.replies));
          moved = wrote.moved;
        }
    complete_by after input out (Err stopped_by.Read) h text told =
        let (t, wrote, rose) = h.ends in
        let (rest, whole) = some-eaten text input.new h.eaten (rw told at h.took) in
        (record { front = h.eaten; back = rest; whole = whole; after = after; tone = t; wrote = wrote }, rose)
    complete_by after input out (Err stopped_by.Write) h text told = (partly text out.old out.new (broke-off after text input out h told), h.ends.1)

pub complete : {S : Type 0} (answers : Rule S) (total : (before : S) (statement : List ℕ) → (t : Tone) × (reply : List ℕ) × (after : S) × answers before statement t reply after)
    (before after : S) (long most : ℕ) (input out : Span) (result : Result Tone Stop) → Session answers before after long most input out result → Whole answers before long most input out result
complete answers total before after long most input out result h = complete_by answers total before long most after input out result h

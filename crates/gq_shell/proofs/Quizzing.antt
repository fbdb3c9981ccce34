-- One question after another.
use Rattle.std.proofs.Common.{◌≡◌, ℕ, zero, suc, ◌+◌, ◌-◌, ◌≤◌, List, [], ◌∷◌, ◌++◌, map, Some, Ok, Err, refl, sym, ap, ap₂, ◌∙◌, subst, arith}
use Rattle.std.specs.Prelude.{Result, slice_get}
use Rattle.std.specs.Io.KnownBytes.{Appends}
use Rattle.std.specs.List.{range_with_len}
use Rattle.std.specs.declared.option.Option.{Option}
use Rattle.std.proofs.lemmas.List.FromFn.{map-range_with_len_more}
use Rattle.std.proofs.lemmas.List.{map-append}
use Rattle.std.proofs.lemmas.Option.{get_or_from_slice_get, slice_get-get_or}
use Rattle.gq_base.specs.declared.memory.Memory.TheVariants.{Exhausted}
use Rattle.gq_io.proofs.Moved.{Appends-both, front_after, front_longer}
use Rattle.gq_io.specs.Causes.{HasCause}
use Rattle.gq_io.specs.Outside.{AppendsFront}
use Rattle.gq_io.specs.declared.Failed.{Failed}
use Rattle.gq_reply.specs.Replies.{Context, IsTurn, memory_line}
use Rattle.gq_sample.specs.Questions.{questions}
use Rattle.gq_session.proofs.Texts.{front-more, front-one, replies-append, wrote-more, wrote-one}
use Rattle.gq_session.specs.Replies.{Answered, Replies, Wrote, WroteFront}
use Rattle.gq_session.specs.Tones.{worse}
use Rattle.gq_session.specs.declared.answering.Tone.{Tone}
use Rattle.gq_session.specs.declared.answering.Tone.TheVariants as tone
use Rattle.gq_shell.specs.Questions.{IsNumbered, label_text}
use Rattle.gq_shell.specs.steps.Steps.{question_of}
use Rattle.gq_tokens.specs.declared.params.Param.{Param}

-- the question of a number has the place before it
placed : (number : ℕ) → 1 ≤ number → number ≤ 6 → slice_get questions (number - 1) ≡ Some (question_of number)
placed number least most = slice_get-get_or questions (number - 1) [] (omega (arith, least, most))

-- and it is the text that has that place
pub asked_text : (number : ℕ) (text : List ℕ) → slice_get questions (number - 1) ≡ Some text → question_of number ≡ text
asked_text number text is = get_or_from_slice_get questions (number - 1) text [] is

counted : (number : ℕ) → 1 ≤ number → number - 1 + 1 ≡ number
counted number least = omega (arith, least)

-- the numbers of the questions behind the first ones
abbrev others : ℕ → List ℕ
others k = range_with_len (k + 2) (6 - (k + 1))

-- numbers, and those behind them
parts : (a b m n k : ℕ) → a + m ≡ b → m + n ≡ k → range_with_len a m ++ range_with_len b n ≡ range_with_len a k
parts a b zero n k e f = ap₂ range_with_len (omega (arith, e)) (omega (arith, f))
parts a b (suc m) n zero e f = absurd (omega (arith, f))
parts a b (suc m) n (suc k) e f = ap (λ l. a ∷ l) (parts (a + 1) b m n k (omega (arith, e)) (omega (arith, f)))

all_questions : (k : ℕ) → k + 1 ≤ 6 → map question_of (range_with_len 1 (k + 1)) ++ map question_of (others k) ≡ questions
all_questions k low =
    sym (map-append question_of (range_with_len 1 (k + 1)) (others k))
    ∙ ap (map question_of) (parts 1 (k + 2) (k + 1) (6 - (k + 1)) 6 (omega arith) (omega (arith, low)))

module _ (c : Context) where
  -- an answer to the question of a number
  is_numbered : (params behind : List Param) (number : ℕ) → 1 ≤ number → number ≤ 6 → (t : Tone) (reply : List ℕ) → IsTurn c params (question_of number) t reply behind
      → IsNumbered c params (question_of number) t (label_text number ++ reply) behind
  is_numbered params behind number least most t reply is = record {
    place = number - 1;
    at = placed number least most;
    reply = reply;
    replies = is;
    is = ap (λ n. label_text n ++ reply) (sym (counted number least));
  }

  -- the reply to a question, behind the line of its number
  pub numbered : (params behind : List Param) (number : ℕ) → 1 ≤ number → number ≤ 6 → (old mid new : Option (List ℕ)) (result : Result Tone Failed) → Appends old mid (label_text number)
      → Answered (IsTurn c params (question_of number)) behind mid new result → Answered (IsNumbered c params (question_of number)) behind old new result
  numbered params behind number least most old mid new (Ok t) label (reply, is, moved) =
      (label_text number ++ reply, is_numbered params behind number least most t reply is, Appends-both old mid new (label_text number) reply label moved)
  numbered params behind number least most old mid new (Err failed) label (t, reply, later, is, moved) =
      (t, label_text number ++ reply, later, is_numbered params later number least most t reply is, front_after old mid new (label_text number) reply label moved)

  -- a front of that line
  pub unnumbered : (params : List Param) (number : ℕ) → 1 ≤ number → number ≤ 6 → (old new : Option (List ℕ)) → AppendsFront old new (label_text number)
      → (t : Tone) × (text : List ℕ) × (behind : List Param) × IsNumbered c params (question_of number) t text behind × AppendsFront old new text
  unnumbered params number least most old new moved = (
    tone.Memory Exhausted,
    label_text number ++ memory_line,
    params,
    is_numbered params params number least most (tone.Memory Exhausted) memory_line (refl, refl),
    front_longer old new (label_text number) memory_line moved,
  )

  abbrev pub first : ℕ → List (List ℕ)
  first k = map question_of (range_with_len 1 k)

  -- each question has an answer
  some_answers : (params : List Param) (n k : ℕ) → 1 ≤ n → n + k ≤ 7 → (t : Tone) × (text : List ℕ) × Replies (IsNumbered c) params params (map question_of (range_with_len n k)) t text
  some_answers params n zero least most = (tone.Good, [], (refl, refl, refl))
  some_answers params n (suc k) least most =
      let (u, more, rest) = some_answers params (n + 1) k (omega arith) (omega (arith, most)) in (
        worse (tone.Memory Exhausted) u,
        (label_text n ++ memory_line) ++ more,
        (
          tone.Memory Exhausted,
          u,
          label_text n ++ memory_line,
          more,
          params,
          is_numbered params params n least (omega (arith, most)) (tone.Memory Exhausted) memory_line (refl, refl),
          rest,
          refl,
          refl,
        ),
      )

  -- another question was answered
  pub next : (params mid behind : List Param) (k number : ℕ) → 1 + k ≡ number → (t u : Tone) (a b d : Option (List ℕ)) → Wrote (IsNumbered c) params mid (first k) t a b
      → (text : List ℕ) × IsNumbered c mid (question_of number) u text behind × Appends b d text → Wrote (IsNumbered c) params behind (first (k + 1)) (worse t u) a d
  next params mid behind k number is t u a b d wrote said = subst (λ l. Wrote (IsNumbered c) params behind l (worse t u) a d) (sym (map-range_with_len_more question_of 1 k number is))
      (wrote-more (IsNumbered c) params mid behind (first k) (question_of number ∷ []) t u a b d wrote (wrote-one (IsNumbered c) mid behind (question_of number) u b d said))

  -- the answer to a question broke off
  pub broke : (params mid : List Param) (k number : ℕ) → 1 + k ≡ number → k + 1 ≤ 6 → (t : Tone) (a b d : Option (List ℕ)) → Wrote (IsNumbered c) params mid (first k) t a b
      → (u : Tone) × (text : List ℕ) × (behind : List Param) × IsNumbered c mid (question_of number) u text behind × AppendsFront b d text → WroteFront (IsNumbered c) params questions a d
  broke params mid k number is low t a b d wrote said =
      let front = subst (λ l. WroteFront (IsNumbered c) params l a d) (sym (map-range_with_len_more question_of 1 k number is))
      (front-more (IsNumbered c) params mid (first k) (question_of number ∷ []) t a b d wrote (front-one (IsNumbered c) mid (question_of number) b d said)) in
      let (u, text, more) = some_answers front.after (k + 2) (6 - (k + 1)) (omega arith) (omega (arith, low)) in
      record {
        after = front.after;
        tone = worse front.tone u;
        text = front.text ++ text;
        replies = subst (λ l. Replies (IsNumbered c) params front.after l (worse front.tone u) (front.text ++ text)) (all_questions k low)
            (replies-append (IsNumbered c) params front.after front.after (first (k + 1)) (map question_of (others k)) front.tone u front.text text front.replies more);
        moved = front_longer a d front.text text front.moved;
      }

-- the same by the number of the question
pub next_number : (c : Context) (params mid behind : List Param) (n : ℕ) → 1 ≤ n → (t u : Tone) (a b d : Option (List ℕ)) → Wrote (IsNumbered c) params mid (first c (n - 1)) t a b
    → (text : List ℕ) × IsNumbered c mid (question_of n) u text behind × Appends b d text → Wrote (IsNumbered c) params behind (first c (n + 1 - 1)) (worse t u) a d
next_number c params mid behind n le t u a b d wrote said =
    let same : n - 1 + 1 ≡ n + 1 - 1 = omega (arith, le) in
    subst (λ m. Wrote (IsNumbered c) params behind (first c m) (worse t u) a d) same (next c params mid behind (n - 1) n (omega (arith, le)) t u a b d wrote said)

-- all questions were answered
pub all_asked : (c : Context) (params behind : List Param) (n : ℕ) → n ≤ 7 → 7 ≤ n → (t : Tone) (a b : Option (List ℕ)) → Wrote (IsNumbered c) params behind (first c (n - 1)) t a b
    → Wrote (IsNumbered c) params behind questions t a b
all_asked c params behind n most least t a b wrote =
    let last : n ≡ 7 = omega (arith, most, least) in
    subst (λ m. Wrote (IsNumbered c) params behind (first c (m - 1)) t a b) last wrote

-- a count that did not rise before rose in a later part as in the whole
pub later_cause : (i j k : ℕ) (result : Result Tone Failed) → j ≡ i → HasCause j k result → HasCause i k result
later_cause i j k result same cause = subst (λ l. HasCause l k result) same cause

-- From the parts of a run to the whole run.
use Rattle.std.proofs.Common.{◌≡◌, ℕ, ◌≤◌, List, [], codes, Some, None, refl, sym, ◌∙◌, subst, append-nil, arith, inl, inr}
use Rattle.std.specs.Prelude.{Option, IfSome, Result, Ok, Err}
use Rattle.std.specs.Io.KnownBytes.{Appends, IsAtEnd, Keeps}
use Rattle.std.specs.Borrow.{Bor}
use Rattle.clap.specs.Words.{Row, Text, first_of}
use Rattle.gq_base.specs.Plain.{Graph}
use Rattle.gq_base.specs.declared.memory.Memory.TheVariants.{Exhausted}
use Rattle.gq_execute.specs.declared.settings.Settings.{Settings}
use Rattle.gq_io.specs.Causes.{HasCause, Rose}
use Rattle.gq_io.specs.Outside.{AppendsFront, Names, Writes}
use Rattle.gq_io.specs.declared.Failed.{Failed}
use Rattle.gq_io.proofs.Moved.{Consumes-none}
use Rattle.gq_loader.specs.Answers.{Answers, Refuses}
use Rattle.gq_loader.specs.Effects.{ByFault, ByMiss}
use Rattle.gq_loader.specs.Limits.{standard}
use Rattle.gq_loader.specs.Loads.{load_of}
use Rattle.gq_loader.specs.Refusals.{IsOfFiles}
use Rattle.gq_loader.specs.declared.refusal.LoadRefusal.{LoadRefusal}
use Rattle.gq_loader.specs.declared.refusal.LoadRefusal.TheVariants as load
use Rattle.gq_reply.specs.Replies.{Context, IsTurn, memory_line}
use Rattle.gq_sample.specs.Questions.{questions}
use Rattle.gq_session.specs.Replies as replies
use Rattle.gq_session.specs.Sessions.{Session, Span}
use Rattle.gq_session.specs.Sessions as sessions
use Rattle.gq_session.proofs.Completeness.{complete}
use Rattle.gq_session.specs.Whole as session
use Rattle.gq_session.specs.declared.answering.Tone.{Tone}
use Rattle.gq_session.specs.declared.answering.Tone.TheVariants as tone
use Rattle.gq_session.specs.declared.run.Stop.{Stop}
use Rattle.gq_session.specs.declared.run.Stop.TheVariants as stop
use Rattle.gq_shell.specs.Claim.{AnswersEnded, EatsAll, EatsFor, Ends, EndsAtFault, IsPath, IsQuiz, IsStill, OnSample, Outside, Over, Permits, Runs, WroteFront, full, long, most, settings_of, short, with_eaten}
use Rattle.gq_shell.specs.LoadLines.{load_line}
use Rattle.gq_shell.specs.Questions.{IsNumbered}
use Rattle.gq_shell.specs.Statuses.{status_of}
use Rattle.gq_shell.specs.Serving.{Served}
use Rattle.gq_shell.specs.steps.Steps.{EndsLoad, Quizzed, Told, told}
use Rattle.gq_shell.specs.declared.status.Status.{Status}
use Rattle.gq_shell.specs.declared.status.Status.TheVariants as status
use Rattle.gq_tokens.specs.declared.params.Param.{Param}
use Rattle.gq_arguments.specs.Command.{usage_text}
use Rattle.gq_arguments.specs.Meaning.{IsSource, Means}
use Rattle.gq_arguments.specs.Reading.{IsMisused, IsRead}
use Rattle.gq_arguments.specs.declared.meaning.Source.TheVariants as source
use Rattle.gq_arguments.specs.declared.meaning.Arguments.{Arguments}

-- a line ended the run, or the sink failed in it
pub told_by : (text : List ℕ) (s : Status) (out : Span) (written : Result (Unit {0}) Failed) → Writes out.old out.new text written → HasCause out.before out.now written
    → (answer : Status) → answer ≡ told written s → Told text s out answer
told_by text s out (Ok done) bytes cause answer is = inl (is, bytes, cause.kept)
told_by text s out (Err failed) bytes cause answer is = inr (is, bytes, cause.failed)

-- the files were refused, and their line ended the run
pub line_ended : (e : LoadRefusal) (out : Span) (answer : Status) → ((name : List ℕ) → e ≡ load.ReadFault name → ⊥) → (e ≡ load.Memory → ⊥)
    → Told (load_line e) status.NotLoaded out answer → EndsLoad e out answer
line_ended (load.ReadFault name) out answer fault memory line = absurd (fault name refl)
line_ended load.Memory out answer fault memory line = absurd (memory refl)
line_ended e out answer fault memory line = line

abbrev pub input_of : Outside → Span
input_of o = record { old = o.left; new = o.unread; before = o.input_faults.before; now = o.input_faults.now }

abbrev pub out_of : Outside → Span
out_of o = record { old = o.taken; new = o.took; before = o.out_faults.before; now = o.out_faults.now }

-- an option that is told one thing is not told another
same_told : (left : Option (List ℕ)) (a b : List ℕ) → left ≡ Some a → left ≡ Some b → a ≡ b
same_told left a b p q = let e : ◌≡◌ {A = Option (List ℕ)} (Some a) (Some b) = sym p ∙ q in cc e

not_told : {R : Type 0} (a : List ℕ) → ◌≡◌ {A = Option (List ℕ)} None (Some a) → R
not_told a e = cc e

-- the sizes of samples that words may say
sample_size : (m s : Option Text) (size : ℕ) → IsSource m s (source.Sample size) → (1 ≤ size) × (size ≤ 1000000)
sample_size (Some path) None size is = absurd is
sample_size (Some path) (Some text) size is = absurd is
sample_size None None size is = absurd is
sample_size None (Some text) size is = (is.least, is.most)

pub sample_sizes : (found : List Row) (read : Arguments) (size : ℕ) → Means found read → read.source ≡ source.Sample size → (1 ≤ size) × (size ≤ 1000000)
sample_sizes found read size means from = sample_size (first_of (codes "manifest") found) (first_of (codes "sample") found) size
    (subst (λ s. IsSource (first_of (codes "manifest") found) (first_of (codes "sample") found) s) from means.source)

-- the path that the words name
pub path_said : (read : Arguments) (manifest : Bor Text) → read.source ≡ source.Manifest manifest → IsPath manifest.now read.source
path_said read manifest is = subst (IsPath manifest.now) (sym is) refl

-- a session that was had over a buffer of the longest statement
pub served : (graph : Graph) (settings : Settings) (behind : List Param) (n : ℕ) (input out : Span) (result : Result Tone Stop) (answer : Status) → n ≡ long → answer ≡ status_of result
    → Session (IsTurn (full graph settings)) [] behind n most input out result → session.Whole (IsTurn (full graph settings)) [] n most input out result → Served graph settings input out answer
served graph settings behind n input out result answer size is read whole = inr (record {
  result = result;
  is = is;
  behind = behind;
  read = subst (λ m. Session (IsTurn (full graph settings)) [] behind m most input out result) size read;
  whole = subst (λ m. session.Whole (IsTurn (full graph settings)) [] m most input out result) size whole;
})

module _ (words : List (List ℕ)) (o : Outside) where
  -- there was not enough memory, and nothing was written
  for_memory : (answer : Status) → answer ≡ status.Memory Exhausted → Keeps o.taken o.took → Ends words o [] answer
  for_memory answer is kept = rw is (inl (kept, refl))

  broken_line : (answer s : Status) (text : List ℕ) → Permits words o.held o.left s text → EatsFor words o [] s → answer ≡ status.WriteFault → AppendsFront o.taken o.took text → Rose o.out_faults.before o.out_faults.now
      → Ends words o [] answer
  broken_line answer s text permitted ate is front rose = rw is (record { answer = s; text = text; permitted = permitted; moved = front }, ate, rose)

  misused : (answer : Status) → IsMisused words → Told usage_text status.Usage (out_of o) answer → Ends words o [] answer
  misused answer wrong (inl (is, moved, still)) = rw is (record { text = usage_text; permitted = (wrong, refl); moved = moved }, refl)
  misused answer wrong (inr (is, front, rose)) = broken_line answer status.Usage usage_text (wrong, refl) refl is front rose

  module _ (read : Arguments) (given : IsRead words read) where
    module _ (path : List ℕ) (from : IsPath path read.source) where
      by_line : (answer : Status) (e : LoadRefusal) → IsOfFiles e → IfSome o.held (λ files. load_of path files standard ≡ Err e)
          → ((name : List ℕ) → e ≡ load.NoFile name → Rose o.files_misses.before o.files_misses.now)
          → Told (load_line e) status.NotLoaded (out_of o) answer → Ends words o [] answer
      by_line answer e of_files meant missed (inl (is, moved, still)) = rw is (
        record {
          refusal = e;
          permitted = record { read = read; given = given; path = path; from = from; of_files = of_files; told = meant };
          missed = missed;
          moved = moved;
        },
        refl,
      )
      by_line answer e of_files meant missed (inr (is, front, rose)) =
          broken_line answer status.NotLoaded (load_line e) (e, record { read = read; given = given; path = path; from = from; of_files = of_files; told = meant }, refl) refl is front rose

      -- the files were refused
      refused : (answer : Status) (graph : Result Graph LoadRefusal) (e : LoadRefusal) → IsOfFiles e → graph ≡ Err e
          → IfSome o.held (λ files. load_of path files standard ≡ Err e) → ByMiss o.files_misses.before o.files_misses.now graph
          → Told (load_line e) status.NotLoaded (out_of o) answer → Ends words o [] answer
      refused answer graph e of_files is meant miss ends =
          by_line answer e of_files meant (λ name no. miss.missed name (subst (λ r. graph ≡ Err r) no is)) ends

      -- what is meant of an answer that is this refusal
      meant_of : (graph : Result Graph LoadRefusal) (e : LoadRefusal) → graph ≡ Err e → Answers o.held (λ files. load_of path files standard) graph
          → Refuses o.held (λ files. load_of path files standard) e
      meant_of graph e is loads = rw is at loads

      -- the load gave no graph
      not_loaded : (answer : Status) (graph : Result Graph LoadRefusal) (e : LoadRefusal)
          → graph ≡ Err e → Answers o.held (λ files. load_of path files standard) graph
          → ByFault o.files_faults.before o.files_faults.now graph → ByMiss o.files_misses.before o.files_misses.now graph
          → EndsLoad e (out_of o) answer → Ends words o [] answer
      not_loaded answer graph (load.ReadFault name) is loads fault miss ((kept, still), ends) = rw ends (inl ((kept, refl), fault.failed name is))
      not_loaded answer graph load.Memory is loads fault miss ((kept, still), ends) = for_memory answer ends kept
      not_loaded answer graph e is loads fault miss ends = refused answer graph e tt is (meant_of graph e is loads) miss ends

      module _ (graph : Graph) (loads : IfSome o.held (λ files. load_of path files standard ≡ Ok graph)) where
        abbrev here : Context
        here = full graph (settings_of read)

        -- what holds of the input where it is told holds of the run
        over : (held : Option Names) (left : Option (List ℕ)) (Says : Context → List ℕ → Type 0) → IfSome held (λ files. load_of path files standard ≡ Ok graph)
            → ((text : List ℕ) → left ≡ Some text → Says here text) → Over words held left Says
        over held None Says is says = record { read = read; given = given; path = path; from = from; graph = graph; loads = is; says = tt }
        over held (Some input) Says is says = record { read = read; given = given; path = path; from = from; graph = graph; loads = is; says = says input refl }

        abbrev May : Result Tone Stop → List ℕ → List ℕ → Type 0
        May result text input = session.Permits (IsTurn here) [] long most input result text

        -- what holds of the input that is told holds of each that is
        of_told : (input : List ℕ) → o.left ≡ Some input → (P : List ℕ → Type 0) → P input → (other : List ℕ) → o.left ≡ Some other → P other
        of_told input is P p other told = subst P (same_told o.left input other is told) p

        -- the text that was written, which is permitted where the input is told
        abbrev Written : Result Tone Stop → Type 0
        Written result = (text : List ℕ) × ((input : List ℕ) → o.left ≡ Some input → May result text input) × Appends o.taken o.took text

        written : (result : Result Tone Stop) (left : Option (List ℕ)) → o.left ≡ left → (text : List ℕ) → Appends o.taken o.took text
            → ((input : List ℕ) → o.left ≡ Some input → session.Wholly (IsTurn here) [] long most input result o.taken o.took) → Written result
        written result None is text moved whole = (text, (λ input told. not_told input (sym is ∙ told)), moved)
        written result (Some input) is text moved whole =
            let w = whole input is in
            (w.replies, of_told input is (May result w.replies) w.permitted, w.moved)

        -- the input is read over the graph
        on_graph : Over words o.held o.left (λ c input. Unit {0})
        on_graph = over o.held o.left (λ c input. Unit {0}) loads (λ input told. tt)

        -- the input was read to its end
        eaten_all : (eaten : List ℕ) → IsAtEnd o.unread → EatsAll words o eaten
        eaten_all eaten end = inl (on_graph, end)

        finished : (eaten : List ℕ) → IsAtEnd o.unread → (t : Tone) → Written (Ok t) → Ends words o eaten (status_of (Ok t))
        finished eaten end tone.Good (text, may, moved) = (record { text = text; permitted = inl (over o.held o.left _ loads may); moved = moved }, eaten_all eaten end)
        finished eaten end tone.Refused (text, may, moved) = (record { text = text; permitted = inl (over o.held o.left _ loads may); moved = moved }, eaten_all eaten end)
        finished eaten end (tone.Memory why) (text, may, moved) = inr (record { text = text; permitted = inl (over o.held o.left _ loads may); moved = moved }, eaten_all eaten end)

        -- a front of a permitted text, of whose input this much was eaten
        abbrev Broken : List ℕ → Type 0
        Broken eaten = (front : WroteFront words o.held o.left o.taken o.took) × EatsFor words o eaten front.answer

        -- a front of what a session over the input permits
        front_of : (eaten input : List ℕ) → o.left ≡ Some input → (result : Result Tone Stop) (text : List ℕ) → May result text input → AppendsFront o.taken o.took text
            → Broken eaten
        front_of eaten input is (Ok tone.Good) text may moved = (record { answer = status.Ended; text = text; permitted = inl (over o.held o.left _ loads (of_told input is (May (Ok tone.Good) text) may)); moved = moved }, inl on_graph)
        front_of eaten input is (Ok tone.Refused) text may moved = (record { answer = status.Refused; text = text; permitted = inl (over o.held o.left _ loads (of_told input is (May (Ok tone.Refused) text) may)); moved = moved }, inl on_graph)
        front_of eaten input is (Ok (tone.Memory why)) text may moved = (record { answer = status.Memory why; text = text; permitted = inl (over o.held o.left _ loads (of_told input is (May (Ok (tone.Memory why)) text) may)); moved = moved }, inl on_graph)
        front_of eaten input is (Err stop.TooLong) text may moved = (record { answer = status.TooLong; text = text; permitted = over o.held o.left _ loads (of_told input is (May (Err stop.TooLong) text) may); moved = moved }, inl on_graph)
        front_of eaten input is (Err stop.Read) text may moved = absurd may
        front_of eaten input is (Err stop.Write) text may moved = absurd may

        -- any front, where the input is not told
        front_untold : (eaten : List ℕ) → o.left ≡ None → (text : List ℕ) → AppendsFront o.taken o.took text → Broken eaten
        front_untold eaten none text moved = (
          record {
            answer = status.Ended;
            text = text;
            permitted = inl (over o.held o.left _ loads (λ input told. not_told input (sym none ∙ told)));
            moved = moved;
          },
          inl on_graph,
        )

        abbrev Had : List Param → Result Tone Stop → Type 0
        Had behind result = Session (IsTurn here) [] behind long most (input_of o) (out_of o) result

        abbrev HadWhole : Result Tone Stop → Type 0
        HadWhole result = session.Whole (IsTurn here) [] long most (input_of o) (out_of o) result

        broke : (behind : List Param) (left : Option (List ℕ)) → o.left ≡ left → (read : Had behind (Err stop.Write)) → HadWhole (Err stop.Write) → Broken read.eaten
        broke behind (Some input) is read whole = let p = (whole input is).0 in front_of read.eaten input is p.result p.replies p.permitted p.moved
        broke behind None is read whole = elim read.ends.0 [
          | inl part ↦ front_untold read.eaten is part.wrote.text part.wrote.moved
          | inr end ↦ front_untold read.eaten is end.1.text end.1.moved
        ]

        not_read : (behind : List Param) (read : Had behind (Err stop.Read)) → Ends words o read.eaten status.ReadFault
        not_read behind read = inr (
          over o.held (Some read.eaten) (λ c text. AnswersEnded c text o.taken o.took) loads (λ text told.
              subst (λ e. AnswersEnded here e o.taken o.took) (same_told (Some read.eaten) read.eaten text refl told) (read.ends.0, behind, read.ends.1)),
          read.ends.2,
        )

        ended : (behind : List Param) (result : Result Tone Stop) (read : Had behind result) → HadWhole result → Ends words o read.eaten (status_of result)
        ended behind (Ok t) read whole = finished read.eaten read.ends.1 t (written (Ok t) o.left refl read.ends.2.text read.ends.2.moved whole)
        ended behind (Err stop.TooLong) read whole =
            let (text, may, moved) = written (Err stop.TooLong) o.left refl read.ends.2.text read.ends.2.moved whole in
            record { text = text; permitted = over o.held o.left _ loads may; moved = moved }
        ended behind (Err stop.Read) read whole = not_read behind read
        ended behind (Err stop.Write) read whole = let part = broke behind o.left refl read whole in (part.0, part.1, read.ends.1)

    module _ (size : ℕ) (from : read.source ≡ source.Sample size) where
      on_sample : OnSample words (λ c. Unit {0})
      on_sample = record { read = read; given = given; size = size; from = from; says = tt }

      -- nothing of the input was eaten
      eaten_none : EatsAll words o []
      eaten_none = inr (on_sample, refl)

      shown : (t : Tone) (behind : List Param) → replies.Wrote (IsNumbered (short size (settings_of read))) [] behind questions t o.taken o.took → Ends words o [] (status_of (Ok t))
      shown tone.Good behind w = (record { text = w.text; permitted = inr (record { read = read; given = given; size = size; from = from; says = (behind, w.replies) }); moved = w.moved }, eaten_none)
      shown tone.Refused behind w = (record { text = w.text; permitted = inr (record { read = read; given = given; size = size; from = from; says = (behind, w.replies) }); moved = w.moved }, eaten_none)
      shown (tone.Memory why) behind w = inr (record { text = w.text; permitted = inr (record { read = read; given = given; size = size; from = from; says = (behind, w.replies) }); moved = w.moved }, eaten_none)

      part_shown : (t : Tone) (text : List ℕ) → IsQuiz (short size (settings_of read)) t text → AppendsFront o.taken o.took text
          → (front : WroteFront words o.held o.left o.taken o.took) × EatsFor words o [] front.answer
      part_shown tone.Good text says moved = (record { answer = status.Ended; text = text; permitted = inr (record { read = read; given = given; size = size; from = from; says = says }); moved = moved }, inr (on_sample, refl))
      part_shown tone.Refused text says moved = (record { answer = status.Refused; text = text; permitted = inr (record { read = read; given = given; size = size; from = from; says = says }); moved = moved }, inr (on_sample, refl))
      part_shown (tone.Memory why) text says moved = (record { answer = status.Memory why; text = text; permitted = inr (record { read = read; given = given; size = size; from = from; says = says }); moved = moved }, inr (on_sample, refl))

      quizzed : (answer : Status) → Quizzed size (settings_of read) (out_of o) answer → Ends words o [] answer
      quizzed answer (inl (is, (kept, still))) = for_memory answer is kept
      quizzed answer (inr (inl (t, behind, is, wrote, still))) = rw is (shown t behind wrote)
      quizzed answer (inr (inr (is, front, rose))) =
          let part = part_shown front.tone front.text (front.after, front.replies) front.moved in
          rw is (part.0, part.1, rose)

-- ---- the run, over the input as far as it is told and over what was eaten

-- each statement has a reply
has_reply : (c : Context) (params : List Param) (statement : List ℕ) → (t : Tone) × (reply : List ℕ) × (after : List Param) × IsTurn c params statement t reply after
has_reply c params statement = (tone.Memory Exhausted, memory_line, params, (refl, refl))

-- a session that ate so much is one over an input that is just that
module _ (c : Context) (behind : List Param) (out : Span) where
  abbrev HadOver : Span → Result Tone Stop → Type 0
  HadOver input result = Session (IsTurn c) [] behind long most input out result

  abbrev only_eaten : Span → List ℕ → Span
  only_eaten input eaten = record input { old = Some eaten; new = Some [] }

  ends_at_end : (input : Span) (result : Result Tone Stop) (eaten : List ℕ) → sessions.Ends (IsTurn c) [] behind long most eaten input out result
      → sessions.Ends (IsTurn c) [] behind long most eaten (only_eaten input eaten) out result
  ends_at_end input (Ok t) eaten (alive, end, wrote) = (alive, refl, wrote)
  ends_at_end input (Err stop.Read) eaten h = h
  ends_at_end input (Err stop.TooLong) eaten h = h
  ends_at_end input (Err stop.Write) eaten (inl part, rose) = (inl part, rose)
  ends_at_end input (Err stop.Write) eaten (inr (end, part), rose) = (inr (refl, part), rose)

  first_alike : (input : Span) (result : Result Tone Stop) (eaten : List ℕ) → sessions.EndsAtFault input out result → sessions.EndsAtFault (only_eaten input eaten) out result
  first_alike input (Ok t) eaten h = h
  first_alike input (Err stop.Read) eaten h = h
  first_alike input (Err stop.TooLong) eaten h = h
  first_alike input (Err stop.Write) eaten h = h

  had_alike : (input : Span) (result : Result Tone Stop) (read : HadOver input result) → HadOver (only_eaten input read.eaten) result
  had_alike input result read = record {
    eaten = read.eaten;
    took = sym (append-nil read.eaten);
    few = read.few;
    ends = ends_at_end input result read.eaten read.ends;
    input_later = read.input_later;
    out_later = read.out_later;
    first = first_alike input result read.eaten read.first;
  }

-- ---- the first call that failed ended the run

module _ (o : Outside) where
  -- no call failed
  abbrev NoneFailed : Type 0
  NoneFailed = IsStill o.files_faults × IsStill o.input_faults × IsStill o.out_faults

  first_memory : (answer : Status) → answer ≡ status.Memory Exhausted → NoneFailed → EndsAtFault o answer
  first_memory answer is none = rw is none

  first_line : (answer s : Status) (text : List ℕ) → (NoneFailed → EndsAtFault o s) → IsStill o.files_faults → IsStill o.input_faults → Told text s (out_of o) answer → EndsAtFault o answer
  first_line answer s text go files input (inl (is, moved, still)) = rw is (go (files, input, still))
  first_line answer s text go files input (inr (is, front, rose)) = rw is (files, input)

  -- a refusal of the files is no call of them that failed
  no_fault : (graph : Result Graph LoadRefusal) (e : LoadRefusal) → IsOfFiles e → graph ≡ Err e → ByFault o.files_faults.before o.files_faults.now graph → IsStill o.files_faults
  no_fault graph e of_files is fault = fault.kept (λ name was. let same : e ≡ load.ReadFault name = cc in subst IsOfFiles same of_files)

  first_load : (answer : Status) (graph : Result Graph LoadRefusal) (e : LoadRefusal) → graph ≡ Err e → ByFault o.files_faults.before o.files_faults.now graph → IsStill o.input_faults
      → EndsLoad e (out_of o) answer → EndsAtFault o answer
  first_load answer graph (load.ReadFault name) is fault input ((kept, still), ends) = rw ends (still, inr input)
  first_load answer graph load.Memory is fault input ((kept, still), ends) =
      first_memory answer ends (fault.kept (λ n was. let not : ◌≡◌ {A = Result Graph LoadRefusal} (Err load.Memory) (Err (load.ReadFault n)) = sym is ∙ was in cc not), input, still)
  first_load answer graph e is fault input ends = first_line answer status.NotLoaded (load_line e) (λ none. none) (no_fault graph e tt is fault) input ends

  first_served : (result : Result Tone Stop) → IsStill o.files_faults → sessions.EndsAtFault (input_of o) (out_of o) result → EndsAtFault o (status_of result)
  first_served (Ok tone.Good) files still = (files, still.0, still.1)
  first_served (Ok tone.Refused) files still = (files, still.0, still.1)
  first_served (Ok (tone.Memory why)) files still = (files, still.0, still.1)
  first_served (Err stop.TooLong) files still = (files, still.0, still.1)
  first_served (Err stop.Read) files still = (still, inl files)
  first_served (Err stop.Write) files still = (files, still)

  first_quizzed : (size : ℕ) (settings : Settings) (answer : Status) → IsStill o.files_faults → IsStill o.input_faults → Quizzed size settings (out_of o) answer → EndsAtFault o answer
  first_quizzed size settings answer files input (inl (is, (kept, still))) = first_memory answer is (files, input, still)
  first_quizzed size settings answer files input (inr (inl (t, behind, is, wrote, still))) = rw is (first_served (Ok t) files (input, still))
  first_quizzed size settings answer files input (inr (inr (is, front, rose))) = rw is (files, input)

module _ (words : List (List ℕ)) (o : Outside) where
  abbrev alike : List ℕ → Outside
  alike eaten = with_eaten o eaten

  -- a run that read no input
  unread : (answer : Status) → o.unread ≡ o.left → EndsAtFault o answer → Ends words o [] answer → Ends words (alike []) [] answer → Runs words o answer
  unread answer same first ends also = record { eaten = []; ate = rw same (Consumes-none o.left); few = grind arith; ends = ends; ends_alike = also; first = first }

  pub exit_memory : (answer : Status) → answer ≡ status.Memory Exhausted → o.unread ≡ o.left → Keeps o.taken o.took → NoneFailed o → Runs words o answer
  exit_memory answer is same kept none = unread answer same (first_memory o answer is none) (for_memory words o answer is kept) (for_memory words (alike []) answer is kept)

  pub exit_misused : (answer : Status) → IsMisused words → o.unread ≡ o.left → IsStill o.files_faults → IsStill o.input_faults → Told usage_text status.Usage (out_of o) answer → Runs words o answer
  exit_misused answer wrong same files input line =
      unread answer same (first_line o answer status.Usage usage_text (λ none. none) files input line) (misused words o answer wrong line) (misused words (alike []) answer wrong line)

  module _ (read : Arguments) (given : IsRead words read) where
    module _ (path : List ℕ) (from : IsPath path read.source) where
      -- the load gave no graph
      pub exit_refused : (answer : Status) (graph : Result Graph LoadRefusal) (e : LoadRefusal)
          → graph ≡ Err e → Answers o.held (λ files. load_of path files standard) graph
          → ByFault o.files_faults.before o.files_faults.now graph → ByMiss o.files_misses.before o.files_misses.now graph
          → o.unread ≡ o.left → IsStill o.input_faults → EndsLoad e (out_of o) answer → Runs words o answer
      exit_refused answer graph e is loads fault miss same input ends =
          unread answer same (first_load o answer graph e is fault input ends) (not_loaded words o read given path from answer graph e is loads fault miss ends)
          (not_loaded words (alike []) read given path from answer graph e is loads fault miss ends)

      module _ (graph : Graph) (loads : IfSome o.held (λ files. load_of path files standard ≡ Ok graph)) where
        abbrev asked : Context
        asked = full graph (settings_of read)

        pub exit_served : (answer : Status) → IsStill o.files_faults → Served graph (settings_of read) (input_of o) (out_of o) answer → Runs words o answer
        unfolding had_alike
        exit_served answer files (inl (is, same, input, (kept, out))) = exit_memory answer is same kept (files, input, out)
        exit_served answer files (inr served) =
            let also = had_alike asked served.behind (out_of o) (input_of o) served.result served.read in
            let all = complete (IsTurn asked) (has_reply asked) [] served.behind long most (input_of (alike served.read.eaten)) (out_of o) served.result also in
            rw served.is (record {
              eaten = served.read.eaten;
              ate = served.read.took;
              few = served.read.few;
              ends = ended words o read given path from graph loads served.behind served.result served.read served.whole;
              ends_alike = ended words (alike served.read.eaten) read given path from graph loads served.behind served.result also all;
              first = first_served o served.result files served.read.first;
            })

    module _ (size : ℕ) (from : read.source ≡ source.Sample size) where
      pub exit_quizzed : (answer : Status) → o.unread ≡ o.left → IsStill o.files_faults → IsStill o.input_faults → Quizzed size (settings_of read) (out_of o) answer → Runs words o answer
      exit_quizzed answer same files input said = unread answer same (first_quizzed o size (settings_of read) answer files input said) (quizzed words o read given size from answer said) (quizzed words (alike []) read given size from answer said)

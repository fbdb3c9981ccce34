-- For given words, files and input one status alone may be answered, but where memory may end and for queries of which not
-- all outcomes are looked at.
use Rattle.std.proofs.Common.{◌≡◌, ℕ, List, [], ◌∷◌, ◌++◌, Some, None, Ok, Err, codes, refl, sym, ap, ap₂, ◌∙◌, subst, inl, inr}
use Rattle.std.specs.Prelude.{◌⊎◌, Option, Result}
use Rattle.std.specs.Io.KnownBytes.{Appends}
use Rattle.clap.specs.Words.{Row, Text, first_of}
use Rattle.gq_base.specs.Plain.{Graph}
use Rattle.gq_execute.specs.declared.settings.Settings.{Settings}
use Rattle.gq_io.specs.Causes.{Rose}
use Rattle.gq_io.specs.Outside.{Names}
use Rattle.gq_loader.specs.Limits.{standard}
use Rattle.gq_loader.specs.Loads.{load_of}
use Rattle.gq_loader.specs.declared.refusal.LoadRefusal.{LoadRefusal}
use Rattle.gq_order.proofs.OneName.{one_name}
use Rattle.gq_order.specs.declared.named.Order.{Order}
use Rattle.gq_reply.proofs.OneTone.{Agree, AsksSome, tones_agree}
use Rattle.gq_reply.specs.Replies.{Context, IsTurn}
use Rattle.gq_reply.specs.declared.replier.Extent.TheVariants.{Full, Short}
use Rattle.gq_sample.specs.Questions.{questions}
use Rattle.gq_sample.specs.Sample.{sample_graph}
use Rattle.gq_session.specs.Replies.{Replies}
use Rattle.gq_session.specs.Tones as tones
use Rattle.gq_session.specs.Whole as session
use Rattle.gq_session.specs.declared.answering.Tone.{Tone}
use Rattle.gq_session.specs.declared.answering.Tone.TheVariants as tone
use Rattle.gq_shell.proofs.Ordering.{no_open}
use Rattle.gq_shell.specs.Claim.{AreOpen, AsksOpenQuery, IsNotLoaded, IsPath, IsQuiz, IsToTheEnd, IsWhole, OnSample, Outside, Over, Permits, Runs, Whole, full, long, most, settings_of, short}
use Rattle.gq_shell.specs.LoadLines.{load_line}
use Rattle.gq_shell.specs.Questions.{IsNumbered}
use Rattle.gq_shell.specs.Statuses.{IsMemory, status_of}
use Rattle.gq_shell.specs.declared.status.Status.{Status}
use Rattle.gq_shell.specs.declared.status.Status.TheVariants as status
use Rattle.gq_tokens.specs.Parameters.{values_of}
use Rattle.gq_tokens.specs.declared.params.Param.{Param}
use Rattle.gq_arguments.specs.Meaning.{IsOrder, IsRows, IsSource, Means}
use Rattle.gq_arguments.specs.Reading.{IsMisused, IsRead}
use Rattle.gq_arguments.specs.declared.meaning.Source.{Source}
use Rattle.gq_arguments.specs.declared.meaning.Source.TheVariants as source
use Rattle.gq_arguments.specs.declared.meaning.Arguments.{Arguments}

-- ---- the words are read in one way

same_path : (m s : Option Text) (x y : Source) (p q : List ℕ) → IsSource m s x → IsSource m s y → IsPath p x → IsPath q y → p ≡ q
same_path (Some path) None (source.Manifest a) (source.Manifest b) p q x y here there = sym here ∙ x ∙ sym y ∙ there
same_path (Some path) None (source.Manifest a) (source.Sample n) p q x y here there = absurd there
same_path (Some path) None (source.Sample n) z p q x y here there = absurd here
same_path (Some path) (Some text) w z p q x y here there = absurd x
same_path None None w z p q x y here there = absurd x
same_path None (Some text) (source.Manifest a) z p q x y here there = absurd x
same_path None (Some text) (source.Sample n) z p q x y here there = absurd here

no_sample : (m s : Option Text) (x : Source) (size : ℕ) (p : List ℕ) → IsSource m s x → IsSource m s (source.Sample size) → IsPath p x → ⊥
no_sample (Some path) None x size p here there is = there
no_sample (Some path) (Some text) x size p here there is = there
no_sample None None x size p here there is = there
no_sample None (Some text) (source.Manifest a) size p here there is = here
no_sample None (Some text) (source.Sample n) size p here there is = is

-- the same of what was found for the options
pub same_paths : (found : List Row) (r r' : Arguments) (p q : List ℕ) → Means found r → Means found r' → IsPath p r.source → IsPath q r'.source → p ≡ q
same_paths found r r' p q m m' here there = same_path (first_of (codes "manifest") found) (first_of (codes "sample") found) r.source r'.source p q m.source m'.source here there

pub no_samples : (found : List Row) (r r' : Arguments) (size : ℕ) (p : List ℕ) → Means found r → Means found r' → r'.source ≡ source.Sample size → IsPath p r.source → ⊥
no_samples found r r' size p m m' from here =
    no_sample (first_of (codes "manifest") found) (first_of (codes "sample") found) r.source size p m.source
    (subst (λ s. IsSource (first_of (codes "manifest") found) (first_of (codes "sample") found) s) from m'.source) here

-- one size of the sample, one order and one number of rows
same_size : (m s : Option Text) (size other : ℕ) → IsSource m s (source.Sample size) → IsSource m s (source.Sample other) → size ≡ other
same_size (Some path) None size other x y = absurd x
same_size (Some path) (Some text) size other x y = absurd x
same_size None None size other x y = absurd x
same_size None (Some text) size other x y = x.value ∙ sym y.value

same_sizes : (found : List Row) (r r' : Arguments) (size other : ℕ) → Means found r → Means found r' → r.source ≡ source.Sample size → r'.source ≡ source.Sample other → size ≡ other
same_sizes found r r' size other m m' from from' =
    same_size (first_of (codes "manifest") found) (first_of (codes "sample") found) size other
    (subst (λ x. IsSource (first_of (codes "manifest") found) (first_of (codes "sample") found) x) from m.source)
    (subst (λ x. IsSource (first_of (codes "manifest") found) (first_of (codes "sample") found) x) from' m'.source)

same_order : (o : Option Text) (x y : Order) → IsOrder o x → IsOrder o y → x ≡ y
same_order None x y is is' = is ∙ sym is'
same_order (Some name) x y is is' = one_name x y (sym is ∙ is')

same_rows : (o : Option Text) (x y : ℕ) → IsRows o x → IsRows o y → x ≡ y
same_rows None x y is is' = is ∙ sym is'
same_rows (Some text) x y is is' = is.value ∙ sym is'.value

pub same_settings : (found : List Row) (r r' : Arguments) → Means found r → Means found r' → settings_of r ≡ settings_of r'
same_settings found r r' m m' =
    ap₂ (λ o n. settings_with o n) (same_order (first_of (codes "order") found) r.order r'.order m.order m'.order) (same_rows (first_of (codes "rows") found) r.rows r'.rows m.rows m'.rows)
  where
    settings_with : Order → ℕ → Settings
    settings_with o n = record { order = o; rows = n }

pub not_misused : (words : List (List ℕ)) (read : Arguments) → IsMisused words → IsRead words read → ⊥
not_misused words read (inl some) is = some is.taken
not_misused words read (inr none) is = none read is.means

-- ---- the questions of the sample, without the lines of their numbers

unnumbered : (c : Context) (params behind : List Param) (ss : List (List ℕ)) (t : Tone) (text : List ℕ) → Replies (IsNumbered c) params behind ss t text
    → (replies : List ℕ) × Replies (IsTurn c) params behind ss t replies
unnumbered c params behind [] t text (good, none, same) = ([], (good, refl, same))
unnumbered c params behind (s ∷ ss) t text (u, v, reply, more, next, is, rest, worst, whole) =
    let (others, replied) = unnumbered c next behind ss v more rest in
    (is.reply ++ others, (u, v, is.reply, others, next, is.replies, replied, worst, refl))

opened : (c : Context) (ss : List (List ℕ)) → AsksSome c [] ss → AsksOpenQuery c ss
opened c ss asks = record {
  place = asks.place;
  statement = asks.statement;
  at = asks.at;
  params = asks.behind;
  stand = asks.stand;
  query = asks.asks.query;
  bound = asks.asks.bound;
  asked = asks.asks.asked;
  limited = asks.asks.cut.limited;
  all_lines = asks.asks.cut.all_lines;
  unordered = asks.asks.cut.unordered;
}

-- ---- what each status says

module _ (words : List (List ℕ)) (files : Names) (input : List ℕ) where
  abbrev OnInput : (Context → List ℕ → Type 0) → Type 0
  OnInput Says = Over words (Some files) (Some input) Says

  paths : (Says : Context → List ℕ → Type 0) (over : OnInput Says) (read : Arguments) (given : IsRead words read) (path : List ℕ) (from : IsPath path read.source) → over.path ≡ path
  paths Says over read given path from = same_paths _ over.read read over.path path over.given.means given.means over.from from

  no_load : (Says : Context → List ℕ → Type 0) (refusal : LoadRefusal) → IsNotLoaded words (Some files) refusal → OnInput Says → ⊥
  no_load Says refusal not over =
      let same : over.path ≡ not.path = paths Says over not.read not.given not.path not.from in
      let both : ◌≡◌ {A = Result Graph LoadRefusal} (Err refusal) (Ok over.graph) =
      sym not.told ∙ subst (λ p. load_of p files standard ≡ Ok over.graph) same over.loads in
      cc both

  no_input : (Says : Context → List ℕ → Type 0) (read : Arguments) (given : IsRead words read) (size : ℕ) → read.source ≡ source.Sample size → OnInput Says → ⊥
  no_input Says read given size from over = no_samples _ over.read read size over.path over.given.means given.means from over.from

  not_unloaded : (refusal : LoadRefusal) → IsNotLoaded words (Some files) refusal → (Says : Context → Type 0) → OnSample words Says → ⊥
  not_unloaded refusal not Says sample = no_samples _ not.read sample.read sample.size not.path not.given.means sample.given.means sample.from not.from

  -- which of five things a status says
  data Sort (s : Status) : Type 0 where
    misused : s ≡ status.Usage → IsMisused words → Sort s
    unloaded : (refusal : LoadRefusal) → s ≡ status.NotLoaded → IsNotLoaded words (Some files) refusal → Sort s
    too_long : s ≡ status.TooLong → OnInput (λ c text. session.IsTooLong long most text) → Sort s
    answered : (t : Tone) (text : List ℕ) → s ≡ status_of (Ok t) → OnInput (λ c text'. (¬ session.IsTooLong long most text') × ((behind : List Param) × Replies (IsTurn c) [] behind (session.statements text') t text)) → Sort s
    sampled : (t : Tone) (text : List ℕ) → s ≡ status_of (Ok t) → OnSample words (λ c. IsQuiz c t text) → Sort s

  narrow : (Says Less : Context → List ℕ → Type 0) → ((c : Context) (text : List ℕ) → Says c text → Less c text) → OnInput Says → OnInput Less
  narrow Says Less go over = record { read = over.read; given = over.given; path = over.path; from = over.from; graph = over.graph; loads = over.loads; says = go _ _ over.says }

  replaced : (Says Less : Context → Type 0) → ((c : Context) → Says c → Less c) → OnSample words Says → OnSample words Less
  replaced Says Less go sample = record { read = sample.read; given = sample.given; size = sample.size; from = sample.from; says = go _ sample.says }

  sort : (s : Status) (text : List ℕ) → Permits words (Some files) (Some input) s text → Sort s
  sort status.Usage text p = misused refl p.0
  sort status.NotLoaded text p = unloaded p.0 refl p.1
  sort status.TooLong text p = too_long refl (narrow _ _ (λ c text' says. says.0) p)
  sort status.Ended text (inl over) = answered tone.Good text refl over
  sort status.Ended text (inr sample) = sampled tone.Good text refl sample
  sort status.Refused text (inl over) = answered tone.Refused text refl over
  sort status.Refused text (inr sample) = sampled tone.Refused text refl sample
  sort (status.Memory why) text (inl over) = answered (tone.Memory why) text refl over
  sort (status.Memory why) text (inr sample) = sampled (tone.Memory why) text refl sample
  sort status.ReadFault text p = absurd p
  sort status.WriteFault text p = absurd p

  to_the_end : (s : Status) (t : Tone) → s ≡ status_of (Ok t) → IsToTheEnd s
  to_the_end s tone.Good is = subst IsToTheEnd (sym is) tt
  to_the_end s tone.Refused is = subst IsToTheEnd (sym is) tt
  to_the_end s (tone.Memory why) is = subst IsToTheEnd (sym is) tt

  -- a session whose worst reply is want of memory ends so
  of_tone : (t : Tone) → tones.IsMemory t → IsMemory (status_of (Ok t))
  of_tone tone.Good is = absurd is
  of_tone tone.Refused is = absurd is
  of_tone (tone.Memory why) is = tt

  abbrev Only : Status → Status → Type 0
  Only s s' = (s ≡ s') ⊎ AreOpen words files input s s'

  abbrev Why : Status → Status → Type 0
  Why s s' = IsMemory s ⊎ IsMemory s' ⊎ OnInput (λ c i. AsksOpenQuery c (session.statements i))

  -- two ends, by how their tones agree
  module _ (s s' : Status) (t t' : Tone) (is : s ≡ status_of (Ok t)) (is' : s' ≡ status_of (Ok t')) where
    open_by : Why s s' → Only s s'
    open_by why = inr (record { first = to_the_end s t is; second = to_the_end s' t' is'; why = why })

    ends_by : (Asks : Type 0) → (Asks → Why s s') → Agree Asks t t' → Only s s'
    ends_by Asks why (inl agree) = inl (is ∙ ap (λ u. status_of (Ok u)) agree ∙ sym is')
    ends_by Asks why (inr (inl memory)) = open_by (inl (subst IsMemory (sym is) (of_tone t memory)))
    ends_by Asks why (inr (inr (inl memory))) = open_by (inr (inl (subst IsMemory (sym is') (of_tone t' memory))))
    ends_by Asks why (inr (inr (inr asks))) = open_by (why asks)

  -- two ends of one session
  module _ (s s' : Status) (t t' : Tone) (text text' : List ℕ) (is : s ≡ status_of (Ok t)) (is' : s' ≡ status_of (Ok t'))
      (one : OnInput (λ c i. (¬ session.IsTooLong long most i) × ((behind : List Param) × Replies (IsTurn c) [] behind (session.statements i) t text)))
      (other : OnInput (λ c i. (¬ session.IsTooLong long most i) × ((behind : List Param) × Replies (IsTurn c) [] behind (session.statements i) t' text'))) where
    abbrev graph : Graph
    graph = one.graph

    loads : load_of other.path files standard ≡ Ok graph
    loads = subst (λ p. load_of p files standard ≡ Ok graph) (paths _ one other.read other.given other.path other.from) one.loads

    same : other.graph ≡ graph
    same = let both : ◌≡◌ {A = Result Graph LoadRefusal} (Ok other.graph) (Ok graph) = sym other.loads ∙ loads in cc both

    settings : settings_of other.read ≡ settings_of one.read
    settings = same_settings _ other.read one.read other.given.means one.given.means

    abbrev behind' : List Param
    behind' = other.says.1.0

    replied : Replies (IsTurn (full graph (settings_of one.read))) [] behind' (session.statements input) t' text'
    replied = subst (λ k. Replies (IsTurn (full graph k)) [] behind' (session.statements input) t' text') settings
        (subst (λ g. Replies (IsTurn (full g (settings_of other.read))) [] behind' (session.statements input) t' text') same other.says.1.1)

    two_ends : Only s s'
    two_ends =
        ends_by s s' t t' is is' (AsksSome (full graph (settings_of one.read)) [] (session.statements input))
        (λ asks. inr (inr (record {
          read = one.read;
          given = one.given;
          path = one.path;
          from = one.from;
          graph = graph;
          loads = one.loads;
          says = opened (full graph (settings_of one.read)) (session.statements input) asks;
        })))
        (tones_agree graph (settings_of one.read) Full Full [] one.says.1.0 behind' (session.statements input) t t' text text' one.says.1.1 replied)

  -- two ends of the questions
  module _ (s s' : Status) (t t' : Tone) (text text' : List ℕ) (is : s ≡ status_of (Ok t)) (is' : s' ≡ status_of (Ok t'))
      (one : OnSample words (λ c. IsQuiz c t text)) (other : OnSample words (λ c. IsQuiz c t' text')) where
    there : short other.size (settings_of other.read) ≡ short one.size (settings_of one.read)
    there = ap₂ short (same_sizes _ other.read one.read other.size one.size other.given.means one.given.means other.from one.from)
        (same_settings _ other.read one.read other.given.means one.given.means)

    two_quizzes : Only s s'
    two_quizzes =
        let (behind, says) = one.says in
        let (behind', says') = subst (λ c. IsQuiz c t' text') there other.says in
        let (first, replied) = unnumbered (short one.size (settings_of one.read)) [] behind questions t text says in
        let (second, otherwise) = unnumbered (short one.size (settings_of one.read)) [] behind' questions t' text' says' in
        ends_by s s' t t' is is' (AsksSome (short one.size (settings_of one.read)) [] questions)
        (λ asks. let one_asked = asks.asks.asked in
        absurd (no_open (values_of asks.behind) asks.place asks.statement asks.at asks.behind refl one_asked.profiled asks.asks.query one_asked.spelled asks.asks.cut.unordered))
        (tones_agree (sample_graph one.size) (settings_of one.read) Short Short [] behind behind' questions t t' first second replied otherwise)

  one_by : (s s' : Status) → Sort s → Sort s' → Only s s'
  one_by s s' (misused is m) (misused is' m') = inl (is ∙ sym is')
  one_by s s' (misused is m) (unloaded refusal is' n) = absurd (not_misused words n.read m n.given)
  one_by s s' (misused is m) (too_long is' o) = absurd (not_misused words o.read m o.given)
  one_by s s' (misused is m) (answered t text is' o) = absurd (not_misused words o.read m o.given)
  one_by s s' (misused is m) (sampled t text' is' o) = absurd (not_misused words o.read m o.given)
  one_by s s' (unloaded refusal is n) (misused is' m) = absurd (not_misused words n.read m n.given)
  one_by s s' (unloaded refusal is n) (unloaded refusal' is' n') = inl (is ∙ sym is')
  one_by s s' (unloaded refusal is n) (too_long is' o) = absurd (no_load _ refusal n o)
  one_by s s' (unloaded refusal is n) (answered t text' is' o) = absurd (no_load _ refusal n o)
  one_by s s' (unloaded refusal is n) (sampled t text' is' o) = absurd (not_unloaded refusal n _ o)
  one_by s s' (too_long is o) (misused is' m) = absurd (not_misused words o.read m o.given)
  one_by s s' (too_long is o) (unloaded refusal is' n) = absurd (no_load _ refusal n o)
  one_by s s' (too_long is o) (too_long is' o') = inl (is ∙ sym is')
  one_by s s' (too_long is o) (answered t text is' o') = absurd (o'.says.0 o.says)
  one_by s s' (too_long is o) (sampled t text' is' o') = absurd (no_input _ o'.read o'.given o'.size o'.from o)
  one_by s s' (answered t text is o) (misused is' m) = absurd (not_misused words o.read m o.given)
  one_by s s' (answered t text is o) (unloaded refusal is' n) = absurd (no_load _ refusal n o)
  one_by s s' (answered t text is o) (too_long is' o') = absurd (o.says.0 o'.says)
  one_by s s' (answered t text is o) (answered t' text' is' o') = two_ends s s' t t' text text' is is' o o'
  one_by s s' (answered t text is o) (sampled t' text' is' o') = absurd (no_input _ o'.read o'.given o'.size o'.from o)
  one_by s s' (sampled t replies is o) (misused is' m) = absurd (not_misused words o.read m o.given)
  one_by s s' (sampled t replies is o) (unloaded refusal is' n) = absurd (not_unloaded refusal n _ o)
  one_by s s' (sampled t replies is o) (too_long is' o') = absurd (no_input _ o.read o.given o.size o.from o')
  one_by s s' (sampled t replies is o) (answered t' text is' o') = absurd (no_input _ o.read o.given o.size o.from o')
  one_by s s' (sampled t replies is o) (sampled t' text' is' o') = two_quizzes s s' t t' replies text' is is' o o'

  pub one_status : (s s' : Status) (t t' : List ℕ) → Permits words (Some files) (Some input) s t → Permits words (Some files) (Some input) s' t' → Only s s'
  one_status s s' t t' p q = one_by s s' (sort s t p) (sort s' t' q)

module _ (words : List (List ℕ)) (outside : Outside) (files : Names) (input : List ℕ) (held : outside.held ≡ Some files) (left : outside.left ≡ Some input) where
  told : (answer : Status) (text : List ℕ) → Permits words outside.held outside.left answer text → Permits words (Some files) (Some input) answer text
  told answer text may = subst (λ l. Permits words (Some files) l answer text) left (subst (λ h. Permits words h outside.left answer text) held may)

  is_whole : (answer : Status) (text : List ℕ) → Permits words outside.held outside.left answer text → Appends outside.taken outside.took text
      → IsWhole words files input answer outside.taken outside.took
  is_whole answer text may moved = record {
    text = text;
    permitted = told answer text may;
    written = moved;
    only = λ other otherwise permits. one_status words files input other answer otherwise text permits (told answer text may);
  }

pub whole : (words : List (List ℕ)) (outside : Outside) (answer : Status) → Runs words outside answer → Whole words outside answer
whole words outside status.Usage run files input held left no_files no_input no_out = inr (is_whole words outside files input held left status.Usage run.ends.0.text run.ends.0.permitted run.ends.0.moved)
whole words outside status.NotLoaded run files input held left no_files no_input no_out =
    let end = run.ends.0 in
    inr (is_whole words outside files input held left status.NotLoaded (load_line end.refusal) (end.refusal, end.permitted, refl) end.moved)
whole words outside status.TooLong run files input held left no_files no_input no_out = inr (is_whole words outside files input held left status.TooLong run.ends.text run.ends.permitted run.ends.moved)
whole words outside status.Refused run files input held left no_files no_input no_out = inr (is_whole words outside files input held left status.Refused run.ends.0.text run.ends.0.permitted run.ends.0.moved)
whole words outside status.Ended run files input held left no_files no_input no_out = inr (is_whole words outside files input held left status.Ended run.ends.0.text run.ends.0.permitted run.ends.0.moved)
whole words outside (status.Memory why) run files input held left no_files no_input no_out = elim run.ends [
  | inl kept ↦ inl (tt, kept.0)
  | inr (wrote, eaten) ↦ inr (is_whole words outside files input held left (status.Memory why) wrote.text wrote.permitted wrote.moved)
]
whole words outside status.ReadFault run files input held left no_files no_input no_out = elim run.ends [
  | inl load ↦ absurd (no_files load.1)
  | inr session ↦ absurd (no_input session.1)
]
whole words outside status.WriteFault run files input held left no_files no_input no_out = absurd (no_out run.ends.2)

pub read_fault : (words : List (List ℕ)) (outside : Outside) (answer : Status) → Runs words outside answer → answer ≡ status.ReadFault
    → Rose outside.files_faults.before outside.files_faults.now ⊎ Rose outside.input_faults.before outside.input_faults.now
read_fault words outside answer run is = let ends = rw is at run.ends in elim ends [ inl load ↦ inl load.1 | inr session ↦ inr session.1 ]

pub write_fault : (words : List (List ℕ)) (outside : Outside) (answer : Status) → Runs words outside answer → answer ≡ status.WriteFault
    → Rose outside.out_faults.before outside.out_faults.now
write_fault words outside answer run is = let ends = rw is at run.ends in ends.2

-- One query that an input has alone has a reply that openCypher permits.
use Rattle.std.proofs.Common.{◌≡◌, ℕ, Bool, true, false, List, [], ◌∷◌, ◌++◌, Some, None, Ok, Err, refl, sym, ap, ap₂, ◌∙◌, subst, append-nil, inl, inr}
use Rattle.std.specs.Prelude.{◌⊎◌, Option, Result}
use Rattle.std.specs.Io.KnownBytes.{Appends}
use Rattle.std.specs.List.{AllByRecursion}
use Rattle.gq_ast.specs.declared.statement.Query.{Query}
use Rattle.gq_ast.specs.declared.statement.Statement.{Statement}
use Rattle.gq_ast.specs.declared.statement.Statement.TheVariants as tree
use Rattle.gq_base.specs.Plain.{Graph}
use Rattle.gq_bound.proofs.OneBound.{same_bound}
use Rattle.gq_bound.specs.Binding.{IsBound}
use Rattle.gq_execute.specs.Replies.{Reply, Rows, Faulted, TooManyRows, IsPermitted}
use Rattle.gq_io.specs.Outside.{Names}
use Rattle.gq_loader.specs.Limits.{standard}
use Rattle.gq_loader.specs.Loads.{load_of}
use Rattle.gq_loader.specs.declared.refusal.LoadRefusal.{LoadRefusal}
use Rattle.gq_plan.specs.declared.Bound.{Bound}
use Rattle.gq_reply.proofs.Replying.{not_blank, refusal_is}
use Rattle.gq_reply.specs.Bindings.{bind_refusal}
use Rattle.gq_reply.specs.ReplyTexts.{reply_text}
use Rattle.gq_reply.specs.Replies.{Context, IsAnswered, IsBlank, IsOverfull, IsStopped, IsText, IsTurn, IsUnbound, IsWrong, RepliesWith, asked_by, question, refusal_text}
use Rattle.gq_session.specs.Replies.{Replies}
use Rattle.gq_session.specs.Tones as tones
use Rattle.gq_session.specs.Tones.{worse}
use Rattle.gq_session.specs.Whole as session
use Rattle.gq_session.specs.declared.answering.Tone.{Tone}
use Rattle.gq_session.specs.declared.answering.Tone.TheVariants as tone
use Rattle.gq_shell.proofs.OneStatus.{no_samples, not_misused, same_paths, same_settings, whole}
use Rattle.gq_shell.specs.Claim.{Finished, IsNotLoaded, Outside, Over, Permits, Runs, full, settings_of}
use Rattle.gq_shell.specs.OneQuery.{IsOneQuery, RepliesToOne, WroteReply, status_by}
use Rattle.gq_shell.specs.Statuses.{IsMemory, status_of}
use Rattle.gq_shell.specs.declared.status.Status.{Status}
use Rattle.gq_shell.specs.declared.status.Status.TheVariants as status
use Rattle.gq_syntax.proofs.Exact.{comes_statement}
use Rattle.gq_syntax.specs.Outcomes.{SpelledText}
use Rattle.gq_syntax.specs.declared.refusal.SyntaxRefusal.TheVariants as refusal
use Rattle.gq_tokens.specs.declared.params.Param.{Param}

-- ---- the worse of two tones

with_good : (u : Tone) → worse u tone.Good ≡ u
with_good tone.Good = refl
with_good tone.Refused = refl
with_good (tone.Memory why) = refl

memory_first : (u v : Tone) → tones.IsMemory u → tones.IsMemory (worse u v)
memory_first tone.Good v is = absurd is
memory_first tone.Refused v is = absurd is
memory_first (tone.Memory why) v is = tt

memory_behind : (u v : Tone) → tones.IsMemory v → tones.IsMemory (worse u v)
memory_behind tone.Good v is = is
memory_behind tone.Refused tone.Good is = absurd is
memory_behind tone.Refused tone.Refused is = absurd is
memory_behind tone.Refused (tone.Memory why) is = tt
memory_behind (tone.Memory why) v is = tt

-- a session whose worst reply is want of memory ends so
of_tone : (t : Tone) → tones.IsMemory t → IsMemory (status_of (Ok t))
of_tone tone.Good is = absurd is
of_tone tone.Refused is = absurd is
of_tone (tone.Memory why) is = tt

-- ---- white space and comments behind a statement

module _ (c : Context) where
  blank_reply : (params : List Param) (s reply : List ℕ) → IsBlank s → IsAnswered c params s reply → reply ≡ []
  blank_reply params s reply blank (inl here) = here.1
  blank_reply params s reply blank (inr (inl (spelled, is))) = absurd (not_blank s params tree.Schema spelled blank)
  blank_reply params s reply blank (inr (inr (inl sets))) = absurd (not_blank s params (tree.Param sets.name sets.value) sets.spelled blank)
  blank_reply params s reply blank (inr (inr (inr (inl shows)))) = absurd (not_blank s params (tree.Plan shows.query) shows.spelled blank)
  blank_reply params s reply blank (inr (inr (inr (inr (lines, replies))))) =
      absurd (not_blank s params (asked_by replies.asked.profiled replies.query) replies.asked.spelled blank)

  -- want of memory, or nothing
  abbrev IsNothing : Tone → List ℕ → Type 0
  IsNothing t text = tones.IsMemory t ⊎ ((t ≡ tone.Good) × (text ≡ []))

  blank_turn : (params next : List Param) (s : List ℕ) (u : Tone) (reply : List ℕ) → IsBlank s → IsTurn c params s u reply next → IsNothing u reply
  blank_turn params next s tone.Good reply blank turn = inr (refl, blank_reply params s reply blank turn.0)
  blank_turn params next s tone.Refused reply blank turn = absurd (turn.0.written blank)
  blank_turn params next s (tone.Memory why) reply blank turn = inl tt

  blank_turns : (params behind : List Param) (ss : List (List ℕ)) (t : Tone) (text : List ℕ) → AllByRecursion IsBlank ss → Replies (IsTurn c) params behind ss t text → IsNothing t text
  blank_turns params behind [] t text all (good, none, same) = inr (good, none)
  blank_turns params behind (s ∷ ss) t text all (u, v, reply, more, next, is, rest, worst, joined) =
      elim (blank_turn params next s u reply all.0 is) [
        | inl memory ↦ inl (subst tones.IsMemory (sym worst) (memory_first u v memory))
        | inr (good, none) ↦ elim (blank_turns next behind ss v more all.1 rest) [
          | inl memory ↦ inl (subst tones.IsMemory (sym worst) (memory_behind u v memory))
          | inr (fine, empty) ↦ inr (worst ∙ ap₂ worse good fine, joined ∙ ap₂ ◌++◌ none empty)
        ]
      ]

-- ---- the query

module _ (c : Context) (statement : List ℕ) (query : Query) (bound : Bound) (spelled : SpelledText statement [] (tree.Query query)) (binds : IsBound query statement c.graph.catalog bound) where
  -- a reply that is permitted, its tone and its text
  record Said (t : Tone) (text : List ℕ) : Type 0 where
    pub reply : Reply
    pub permitted : IsPermitted (question c query bound) reply
    pub status_is : status_of (Ok t) ≡ status_by reply
    pub is : text ≡ reply_text c.extent c.settings.rows c.graph bound reply

  abbrev IsSaid : Tone → List ℕ → Type 0
  IsSaid t text = tones.IsMemory t ⊎ Said t text

  one_tree : (s : Statement) → SpelledText statement [] s → tree.Query query ≡ s
  one_tree s other = elim ((comes_statement statement [] (Ok (tree.Query query)) spelled s).1 other) [
    | inl e ↦ cc e
    | inr e ↦ cc e
  ]

  not_schema : SpelledText statement [] tree.Schema → ⊥
  not_schema other = let e : tree.Query query ≡ tree.Schema = one_tree tree.Schema other in absurd (cc e)

  same_query : (profiled : Bool) (q : Query) → SpelledText statement [] (asked_by profiled q) → (profiled ≡ false) × (query ≡ q)
  same_query false q other = let e : tree.Query query ≡ tree.Query q = one_tree (tree.Query q) other in (refl, cc e)
  same_query true q other = let e : tree.Query query ≡ tree.Profile q = one_tree (tree.Profile q) other in absurd (cc e)

  plain_text : (profiled : Bool) (q : Query) (b : Bound) (reply : Reply) (text : List ℕ) → profiled ≡ false → IsText c profiled q b reply text
      → text ≡ reply_text c.extent c.settings.rows c.graph b reply
  plain_text false q b reply text plain is = is
  plain_text true q b reply text plain is = absurd (cc plain)

  said : (t : Tone) (reply : Reply) (text : List ℕ) → status_of (Ok t) ≡ status_by reply → RepliesWith c [] statement reply text → Said t text
  said t reply text status_is r =
      let (plain, same) = same_query r.asked.profiled r.query r.asked.spelled in
      let own : IsBound query statement c.graph.catalog r.bound = subst (λ q. IsBound q statement c.graph.catalog r.bound) (sym same) r.asked.binds in
      let one : r.bound ≡ bound = same_bound query statement c.graph.catalog r.bound bound own binds in
      let asked : IsPermitted (question c query r.bound) reply = subst (λ q. IsPermitted (question c q r.bound) reply) (sym same) r.permitted in
      record {
        reply = reply;
        permitted = subst (λ b. IsPermitted (question c query b) reply) one asked;
        status_is = status_is;
        is = subst (λ b. text ≡ reply_text c.extent c.settings.rows c.graph b reply) one (plain_text r.asked.profiled r.query r.bound reply text plain r.is);
      }

  answered : (text : List ℕ) → IsAnswered c [] statement text → Said tone.Good text
  answered text (inl blank) = absurd (not_blank statement [] (tree.Query query) spelled blank.0)
  answered text (inr (inl (other, is))) = absurd (not_schema other)
  answered text (inr (inr (inl sets))) =
      let e : tree.Query query ≡ tree.Param sets.name sets.value = one_tree (tree.Param sets.name sets.value) sets.spelled in absurd (cc e)
  answered text (inr (inr (inr (inl shows)))) =
      let e : tree.Query query ≡ tree.Plan shows.query = one_tree (tree.Plan shows.query) shows.spelled in absurd (cc e)
  answered text (inr (inr (inr (inr (lines, replies))))) = said tone.Good (Rows lines) text refl replies

  accepted : bind_refusal (tree.Query query) statement c.graph.catalog ≡ None
  accepted = refusal_is false statement query c.graph.catalog ∙ binds.accepted

  stopped : (text : List ℕ) → IsStopped c [] statement text → Said tone.Refused text
  stopped text (inl (fault, replies)) = said tone.Refused (Faulted fault) text refl replies
  stopped text (inr replies) = said tone.Refused TooManyRows text refl replies

  refused : (text : List ℕ) → IsWrong [] statement text ⊎ IsUnbound c.graph [] statement text ⊎ IsOverfull [] statement text ⊎ IsStopped c [] statement text → Said tone.Refused text
  refused text (inl wrong) = elim ((comes_statement statement [] (Err wrong.why) wrong.cause (tree.Query query)).1 spelled) [
    | inl e ↦ absurd (cc e)
    | inr e ↦ (let memory : wrong.why ≡ refusal.Memory = cc e in let none : None ≡ Some text = ap refusal_text (sym memory) ∙ wrong.is in absurd (cc none))
  ]
  refused text (inr (inl unbound)) =
      let same : tree.Query query ≡ unbound.tree = one_tree unbound.tree unbound.spelled in
      let clash : None ≡ Some unbound.why = sym accepted ∙ ap (λ t. bind_refusal t statement c.graph.catalog) same ∙ unbound.refused in
      absurd (cc clash)
  refused text (inr (inr (inl over))) =
      let e : tree.Query query ≡ tree.Param over.name over.value = one_tree (tree.Param over.name over.value) over.spelled in absurd (cc e)
  refused text (inr (inr (inr stop))) = stopped text stop

  turn : (behind : List Param) (u : Tone) (text : List ℕ) → IsTurn c [] statement u text behind → IsSaid u text
  turn behind tone.Good text is = inr (answered text is.0)
  turn behind tone.Refused text is = inr (refused text is.0.why)
  turn behind (tone.Memory why) text is = inl tt

  -- with white space and comments behind it
  turns : (behind : List Param) (others : List (List ℕ)) (t : Tone) (text : List ℕ) → AllByRecursion IsBlank others → Replies (IsTurn c) [] behind (statement ∷ others) t text → IsSaid t text
  turns behind others t text blank (u, v, reply, more, next, is, rest, worst, joined) =
      elim (turn next u reply is) [
        | inl memory ↦ inl (subst tones.IsMemory (sym worst) (memory_first u v memory))
        | inr own ↦ elim (blank_turns c next behind others v more blank rest) [
          | inl memory ↦ inl (subst tones.IsMemory (sym worst) (memory_behind u v memory))
          | inr (good, none) ↦ (
              let same : t ≡ u = worst ∙ ap (worse u) good ∙ with_good u in
              let text_is : text ≡ reply = joined ∙ ap (λ m. reply ++ m) none ∙ append-nil reply in
              inr (record { reply = own.reply; permitted = own.permitted; status_is = ap (λ k. status_of (Ok k)) same ∙ own.status_is; is = text_is ∙ own.is }))
        ]
      ]

-- ---- the run

module _ (words : List (List ℕ)) (files : Names) (input : List ℕ) (query : Query) (bound : Bound) (asks : Over words (Some files) (Some input) (λ c text. IsOneQuery c query bound text)) where
  abbrev context : Context
  context = full asks.graph (settings_of asks.read)

  abbrev one : IsOneQuery context query bound input
  one = asks.says

  abbrev Speaks : Tone → List ℕ → Type 0
  Speaks t text = IsSaid context one.statement query bound one.spelled one.binds t text

  finished : (t : Tone) (text : List ℕ) → Finished words (Some files) (Some input) t text → Speaks t text
  finished t text (inl over) =
      let loads : load_of asks.path files standard ≡ Ok over.graph =
      subst (λ p. load_of p files standard ≡ Ok over.graph) (same_paths _ over.read asks.read over.path asks.path over.given.means asks.given.means over.from asks.from) over.loads in
      let both : ◌≡◌ {A = Result Graph LoadRefusal} (Ok over.graph) (Ok asks.graph) = sym loads ∙ asks.loads in
      let graph : over.graph ≡ asks.graph = cc both in
      let settings : settings_of over.read ≡ settings_of asks.read = same_settings _ over.read asks.read over.given.means asks.given.means in
      let (behind, replies) = over.says.1 in
      let here : Replies (IsTurn (full over.graph (settings_of asks.read))) [] behind (session.statements input) t text =
      subst (λ k. Replies (IsTurn (full over.graph k)) [] behind (session.statements input) t text) settings replies in
      let there : Replies (IsTurn context) [] behind (session.statements input) t text =
      subst (λ g. Replies (IsTurn (full g (settings_of asks.read))) [] behind (session.statements input) t text) graph here in
      turns context one.statement query bound one.spelled one.binds behind one.others t text one.blank (subst (λ ss. Replies (IsTurn context) [] behind ss t text) one.cut there)
  finished t text (inr sample) = absurd (no_samples _ asks.read sample.read sample.size asks.path asks.given.means sample.given.means sample.from asks.from)

  not_unloaded : (why : LoadRefusal) → IsNotLoaded words (Some files) why → ⊥
  not_unloaded why not =
      let same : asks.path ≡ not.path = same_paths _ asks.read not.read asks.path not.path asks.given.means not.given.means asks.from not.from in
      let both : ◌≡◌ {A = Result Graph LoadRefusal} (Err why) (Ok asks.graph) = sym not.told ∙ subst (λ p. load_of p files standard ≡ Ok asks.graph) same asks.loads in
      cc both

  -- what was written, and how the run ended
  module _ (old new : Option (List ℕ)) where
    abbrev Replied : Status → Type 0
    Replied s = IsMemory s ⊎ WroteReply context query bound s old new

    wrote : (t : Tone) (text : List ℕ) → Appends old new text → Speaks t text → Replied (status_of (Ok t))
    wrote t text moved (inl memory) = inl (of_tone t memory)
    wrote t text moved (inr own) = inr (record {
      reply = own.reply;
      permitted = own.permitted;
      status_is = own.status_is;
      written = subst (Appends old new) own.is moved;
    })

    replied : (s : Status) (text : List ℕ) → Permits words (Some files) (Some input) s text → Appends old new text → Replied s
    replied status.Usage text p moved = absurd (not_misused words asks.read p.0 asks.given)
    replied status.NotLoaded text (why, not, is) moved = absurd (not_unloaded why not)
    replied status.TooLong text p moved = absurd (one.short p.says.0)
    replied status.Ended text p moved = wrote tone.Good text moved (finished tone.Good text p)
    replied status.Refused text p moved = wrote tone.Refused text moved (finished tone.Refused text p)
    replied (status.Memory why) text p moved = inl tt
    replied status.ReadFault text p moved = absurd p
    replied status.WriteFault text p moved = absurd p

pub one_query : (words : List (List ℕ)) (outside : Outside) (answer : Status) → Runs words outside answer → RepliesToOne words outside answer
one_query words outside answer run files input held left no_files no_input no_out query bound asks =
    elim (whole words outside answer run files input held left no_files no_input no_out) [
      | inl kept ↦ inl kept.0
      | inr is ↦ replied words files input query bound asks outside.taken outside.took answer is.text is.permitted is.written
    ]

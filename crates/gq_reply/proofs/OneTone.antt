-- A statement's replies have one tone, but for want of memory and for a query of which not all outcomes are looked at.
use Rattle.std.proofs.Common.{◌≡◌, ℕ, ◌+◌, Bool, true, false, List, [], ◌∷◌, Some, None, Ok, Err, suc, refl, sym, ap, ap₂, ◌∙◌, subst, inl, inr}
use Rattle.std.specs.Prelude.{◌⊎◌, ◌||◌, not, Option, IsSome, option_map, slice_get, take, ◌++◌, if◌then◌else◌}
use Rattle.gq_base.specs.Lists.{is_empty}
use Rattle.gq_base.specs.Plain.{Graph}
use Rattle.gq_base.specs.Values.{Val}
use Rattle.gq_base.specs.declared.literal.Literal.{Literal}
use Rattle.gq_bound.proofs.OneBound.{same_bound, unordered}
use Rattle.gq_bound.specs.Binding.{IsBound}
use Rattle.gq_bound.specs.Columns.{Resolves}
use Rattle.gq_execute.proofs.OneReply.{not_too_many, some_looked}
use Rattle.gq_execute.specs.Replies.{Reply, Rows, Faulted, TooManyRows, IsPermitted}
use Rattle.gq_execute.specs.declared.settings.Settings.{Settings}
use Rattle.gq_plan.specs.declared.Bound.{Bound}
use Rattle.gq_reply.proofs.Replying.{not_blank, refusal_is}
use Rattle.gq_reply.specs.Bindings.{bind_refusal}
use Rattle.gq_reply.specs.Replies.{AreBehind, Context, IsAnswered, IsAsked, IsOverfull, IsRefused, IsReply, IsStopped, IsTurn, IsUnbound, IsWrong, RepliesWith, Sets, StandBehind, asked_by, params_behind, question, refusal_text}
use Rattle.gq_reply.specs.declared.replier.Extent.{Extent}
use Rattle.gq_kept.specs.Answers.{cut_of, most_listed}
use Rattle.gq_session.specs.Replies.{Replies}
use Rattle.gq_session.specs.Tones.{IsMemory, worse}
use Rattle.gq_session.specs.declared.answering.Tone.{Tone}
use Rattle.gq_session.specs.declared.answering.Tone.TheVariants as tone
use Rattle.gq_syntax.proofs.Exact.{comes_statement}
use Rattle.gq_syntax.specs.Outcomes.{SpelledText}
use Rattle.gq_syntax.specs.declared.refusal.SyntaxRefusal.TheVariants as refusal
use Rattle.gq_ast.specs.declared.statement.Query.{Query}
use Rattle.gq_ast.specs.declared.statement.Statement.{Statement}
use Rattle.gq_ast.specs.declared.statement.Statement.TheVariants as tree
use Rattle.gq_tokens.specs.Parameters.{IsFull}
use Rattle.gq_tokens.specs.Words.{Name}
use Rattle.gq_tokens.specs.declared.params.Param.{Param}

-- ---- a query of which not all outcomes are looked at

pub record IsCut (query : Query) : Type 0 where
  pub limited : IsSome query.limit
  pub all_lines : query.distinct ≡ false
  pub unordered : query.order ≡ []

limited_by : (skip : ℕ) (limit : Option ℕ) → IsSome (option_map (λ n. skip + n) limit) → IsSome limit
limited_by skip None h = h
limited_by skip (Some n) h = refl

is_cut : (query : Query) (text : List ℕ) (bound : Bound) → Resolves query text bound → IsSome (cut_of bound) → IsCut query
is_cut query text bound r h = by bound.distinct (is_empty bound.keys) refl refl h
  where
    by : (d e : Bool) → bound.distinct ≡ d → is_empty bound.keys ≡ e → IsSome (if d || not e then None else most_listed bound) → IsCut query
    by true e same none k = cc k
    by false false same none k = cc k
    by false true same none k = record {
      limited = subst IsSome r.limit (limited_by bound.skip bound.limit k);
      all_lines = sym r.distinct ∙ same;
      unordered = unordered query text bound r none;
    }

-- the statement asks such a query
pub record AsksOne (graph : Graph) (params : List Param) (statement : List ℕ) : Type 0 where
  pub query : Query
  pub bound : Bound
  pub asked : IsAsked graph params statement query bound
  pub cut : IsCut query

-- ---- what asks a query

one_query : (p p' : Bool) (q q' : Query) → asked_by p q ≡ asked_by p' q' → q ≡ q'
one_query false false q q' e = cc e
one_query true true q q' e = cc e
one_query false true q q' e = absurd (cc e)
one_query true false q q' e = absurd (cc e)

not_schema : (p : Bool) (q : Query) → asked_by p q ≡ tree.Schema → ⊥
not_schema false q e = absurd (cc e)
not_schema true q e = absurd (cc e)

not_plan : (p : Bool) (q q' : Query) → asked_by p q ≡ tree.Plan q' → ⊥
not_plan false q q' e = absurd (cc e)
not_plan true q q' e = absurd (cc e)

not_param : (p : Bool) (q : Query) (name : Name) (value : Literal) → asked_by p q ≡ tree.Param name value → ⊥
not_param false q name value e = absurd (cc e)
not_param true q name value e = absurd (cc e)

-- ---- one statement

-- two trees that one statement spells are one
one_tree : (params : List Param) (statement : List ℕ) (s s' : Statement) → SpelledText statement params s → SpelledText statement params s' → s ≡ s'
one_tree params statement s s' spelled spelled' = elim ((comes_statement statement params (Ok s) spelled s').1 spelled') [
  | inl e ↦ cc e
  | inr e ↦ cc e
]

module _ (graph : Graph) (settings : Settings) (one other : Extent) (params : List Param) (statement : List ℕ) where
  abbrev first : Context
  first = record { graph = graph; settings = settings; extent = one }

  abbrev second : Context
  second = record { graph = graph; settings = settings; extent = other }

  same_tree : (s s' : Statement) → SpelledText statement params s → SpelledText statement params s' → s ≡ s'
  same_tree s s' spelled spelled' = one_tree params statement s s' spelled spelled'

  -- where a parameter is set, there is room for it
  has_room : {text : List ℕ} (sets : Sets params statement text) (name : Name) (value : Literal) → tree.Param sets.name sets.value ≡ tree.Param name value → ¬ (IsFull name params)
  has_room sets name value same full = let e : sets.name ≡ name = cc same in sets.room (subst (λ n. IsFull n params) (sym e) full)

  abbrev Unanswered : List ℕ → Type 0
  Unanswered text = IsWrong params statement text ⊎ IsUnbound graph params statement text ⊎ IsOverfull params statement text ⊎ IsStopped second params statement text

  -- a statement that is bound and has room for a parameter is refused for its outcomes alone
  module _ (form : Statement) (spelled : SpelledText statement params form) (bound : bind_refusal form statement graph.catalog ≡ None)
      (room : (name : Name) (value : Literal) → form ≡ tree.Param name value → ¬ (IsFull name params)) where
    is_stopped : (text : List ℕ) → Unanswered text → IsStopped second params statement text
    is_stopped text (inl wrong) = elim ((comes_statement statement params (Err wrong.why) wrong.cause form).1 spelled) [
      | inl e ↦ cc e
      | inr e ↦ (let memory : wrong.why ≡ refusal.Memory = cc e in let none : None ≡ Some text = ap refusal_text (sym memory) ∙ wrong.is in cc none)
    ]
    is_stopped text (inr (inl unbound)) =
        let same : unbound.tree ≡ form = same_tree unbound.tree form unbound.spelled spelled in
        let clash : None ≡ Some unbound.why = sym bound ∙ ap (λ t. bind_refusal t statement graph.catalog) (sym same) ∙ unbound.refused in cc clash
    is_stopped text (inr (inr (inl over))) =
        absurd (room over.name over.value (same_tree form (tree.Param over.name over.value) spelled over.spelled) over.full)
    is_stopped text (inr (inr (inr stopped))) = stopped

    -- and where it asks no query it is not refused
    module _ (no : (profiled : Bool) (query : Query) → ¬ (asked_by profiled query ≡ form)) where
      not_asked : (profiled : Bool) (query : Query) → SpelledText statement params (asked_by profiled query) → ⊥
      not_asked profiled query asked = no profiled query (same_tree (asked_by profiled query) form asked spelled)

      no_stop : (text : List ℕ) → IsStopped second params statement text → ⊥
      no_stop text (inl (fault, replies)) = not_asked replies.asked.profiled replies.query replies.asked.spelled
      no_stop text (inr replies) = not_asked replies.asked.profiled replies.query replies.asked.spelled

      no_refusal : (text : List ℕ) → Unanswered text → ⊥
      no_refusal text refused = no_stop text (is_stopped text refused)

  -- two replies to the query of one statement are replies to one question
  module _ (q : Query) (b : Bound) (asked : IsAsked graph params statement q b) where
    same_query : (profiled : Bool) (q' : Query) → SpelledText statement params (asked_by profiled q') → q' ≡ q
    same_query profiled q' spelled = one_query profiled asked.profiled q' q (same_tree (asked_by profiled q') (asked_by asked.profiled q) spelled asked.spelled)

    same_question : (q' : Query) (b' : Bound) (reply : Reply) → IsAsked graph params statement q' b' → IsPermitted (question second q' b') reply
        → IsPermitted (question first q b) reply
    same_question q' b' reply asked' permitted =
        let query : q' ≡ q = same_query asked'.profiled q' asked'.spelled in
        let binds : IsBound q statement graph.catalog b' = subst (λ k. IsBound k statement graph.catalog b') query asked'.binds in
        let bound : b' ≡ b = same_bound q statement graph.catalog b' b binds asked.binds in
        subst (λ k. IsPermitted (question first q k) reply) bound (subst (λ k. IsPermitted (question first k b') reply) query permitted)

  -- rows were answered, and there is none
  both_stopped : (lines : List (List Val)) (text text' : List ℕ) (rows : RepliesWith first params statement (Rows lines) text) → IsStopped second params statement text' → AsksOne graph params statement
  both_stopped lines text text' rows (inl (fault, faulted)) =
      let cut = some_looked (question first rows.query rows.bound) lines rows.permitted fault
      (same_question rows.query rows.bound rows.asked faulted.query faulted.bound (Faulted fault) faulted.asked faulted.permitted) in
      record { query = rows.query; bound = rows.bound; asked = rows.asked; cut = is_cut rows.query statement rows.bound rows.asked.binds.resolves cut }
  both_stopped lines text text' rows (inr many) =
      absurd (not_too_many (question first rows.query rows.bound) lines rows.permitted
      (same_question rows.query rows.bound rows.asked many.query many.bound TooManyRows many.asked many.permitted))

  -- a statement that was answered and is refused asks a query of which not all outcomes are looked at
  both_replies : (text text' : List ℕ) → IsAnswered first params statement text → IsRefused second params statement text' → AsksOne graph params statement
  both_replies text text' (inl blank) refused = absurd (refused.written blank.0)
  both_replies text text' (inr (inl (spelled, is))) refused =
      absurd (no_refusal tree.Schema spelled refl (λ name value same. cc same) (λ profiled query same. not_schema profiled query same) text' refused.why)
  both_replies text text' (inr (inr (inl sets))) refused =
      absurd (no_refusal (tree.Param sets.name sets.value) sets.spelled refl (has_room sets) (λ profiled query same. not_param profiled query sets.name sets.value same) text' refused.why)
  both_replies text text' (inr (inr (inr (inl shows)))) refused =
      absurd (no_refusal (tree.Plan shows.query) shows.spelled shows.binds.accepted (λ name value same. cc same) (λ profiled query same. not_plan profiled query shows.query same) text' refused.why)
  both_replies text text' (inr (inr (inr (inr (lines, replies))))) refused =
      both_stopped lines text text' replies
      (is_stopped (asked_by replies.asked.profiled replies.query) replies.asked.spelled (refusal_is replies.asked.profiled statement replies.query graph.catalog ∙ replies.asked.binds.accepted)
      (λ name value same full. not_param replies.asked.profiled replies.query name value same) text' refused.why)

-- the parameters behind two replies of one tone are the same
same_params : (params : List Param) (statement : List ℕ) (t : Tone) (behind behind' : List Param) → AreBehind params statement t behind → AreBehind params statement t behind' → behind ≡ behind'
same_params params statement tone.Good behind behind' (inl (blank, is)) (inl (blank', is')) = is ∙ sym is'
same_params params statement tone.Good behind behind' (inl (blank, is)) (inr (s, spelled, is')) = absurd (not_blank statement params s spelled blank)
same_params params statement tone.Good behind behind' (inr (s, spelled, is)) (inl (blank, is')) = absurd (not_blank statement params s spelled blank)
same_params params statement tone.Good behind behind' (inr (s, spelled, is)) (inr (s', spelled', is')) = is ∙ ap (λ u. params_behind u params) (one_tree params statement s s' spelled spelled') ∙ sym is'
same_params params statement tone.Refused behind behind' is is' = is ∙ sym is'
same_params params statement (tone.Memory why) behind behind' is is' = is ∙ sym is'

-- the tones of replies agree, or one of them is want of memory, or a statement asks such a query
abbrev pub Agree : Type 0 → Tone → Tone → Type 0
Agree Asks t u = (t ≡ u) ⊎ IsMemory t ⊎ IsMemory u ⊎ Asks

-- ---- statements

-- some statement asks such a query, with the parameters that stand behind those before it
pub record AsksSome (c : Context) (params : List Param) (statements : List (List ℕ)) : Type 0 where
  pub place : ℕ
  pub statement : List ℕ
  pub at : slice_get statements place ≡ Some statement
  pub behind : List Param
  pub stand : StandBehind c params (take place statements) behind
  pub asks : AsksOne c.graph behind statement

not_worse : (a t : Tone) → ¬ (IsMemory a) → ¬ (IsMemory t) → ¬ (IsMemory (worse a t))
not_worse tone.Good t left right is = right is
not_worse tone.Refused tone.Good left right is = is
not_worse tone.Refused tone.Refused left right is = is
not_worse tone.Refused (tone.Memory why) left right is = right tt
not_worse (tone.Memory why) t left right is = left tt

later : (c : Context) (params next : List Param) (s : List ℕ) (ss : List (List ℕ)) (a : Tone) (reply : List ℕ) → IsTurn c params s a reply next → ¬ (IsMemory a) → AsksSome c next ss
    → AsksSome c params (s ∷ ss)
later c params next s ss a reply is some asks =
    let (t, text, replies, enough) = asks.stand in
    record {
      place = suc asks.place;
      statement = asks.statement;
      at = asks.at;
      behind = asks.behind;
      stand = (worse a t, reply ++ text, (a, t, reply, text, next, is, replies, refl, refl), not_worse a t some enough);
      asks = asks.asks;
    }

-- of two tones one of which is want of memory the worse is
memory_before : (a t : Tone) → IsMemory a → IsMemory (worse a t)
memory_before tone.Good t is = absurd is
memory_before tone.Refused t is = absurd is
memory_before (tone.Memory why) t is = tt

memory_behind : (a t : Tone) → IsMemory t → IsMemory (worse a t)
memory_behind tone.Good t is = is
memory_behind tone.Refused tone.Good is = absurd is
memory_behind tone.Refused tone.Refused is = absurd is
memory_behind tone.Refused (tone.Memory why) is = tt
memory_behind (tone.Memory why) t is = tt

by_memory : (t : Tone) → IsMemory t ⊎ (¬ (IsMemory t))
by_memory tone.Good = inr (λ is. is)
by_memory tone.Refused = inr (λ is. is)
by_memory (tone.Memory why) = inl tt

module _ (graph : Graph) (settings : Settings) (one other : Extent) where
  abbrev here : Context
  here = record { graph = graph; settings = settings; extent = one }

  abbrev there : Context
  there = record { graph = graph; settings = settings; extent = other }

  one_tone : (params : List Param) (statement : List ℕ) (t u : Tone) (x y : List ℕ) → IsReply here params statement t x → IsReply there params statement u y
      → Agree (AsksOne graph params statement) t u
  one_tone params statement tone.Good tone.Good x y p q = inl refl
  one_tone params statement tone.Good tone.Refused x y p q = inr (inr (inr (both_replies graph settings one other params statement x y p q)))
  one_tone params statement tone.Refused tone.Good x y p q = inr (inr (inr (both_replies graph settings other one params statement y x q p)))
  one_tone params statement tone.Refused tone.Refused x y p q = inl refl
  one_tone params statement (tone.Memory why) u x y p q = inr (inl tt)
  one_tone params statement tone.Good (tone.Memory why) x y p q = inr (inr (inl tt))
  one_tone params statement tone.Refused (tone.Memory why) x y p q = inr (inr (inl tt))

  pub tones_agree : (params behind behind' : List Param) (ss : List (List ℕ)) (t u : Tone) (x y : List ℕ) → Replies (IsTurn here) params behind ss t x → Replies (IsTurn there) params behind' ss u y
      → Agree (AsksSome here params ss) t u
  tones_agree params behind behind' [] t u x y p q = inl (p.0 ∙ sym q.0)
  tones_agree params behind behind' (s ∷ ss) t u x y (a, v, reply, more, next, is, rest, worst, whole) (b, w, reply', more', next', is', rest', worst', whole') =
      elim (one_tone params s a b reply reply' is.0 is'.0) [
        | inl same ↦ elim (by_memory a) [
          | inl memory ↦ inr (inl (subst IsMemory (sym worst) (memory_before a v memory)))
          | inr some ↦ (
              let left : next' ≡ next = same_params params s a next' next (subst (λ z. AreBehind params s z next') (sym same) is'.1) is.1 in
              elim (tones_agree next behind behind' ss v w more more' rest (subst (λ z. Replies (IsTurn there) z behind' ss w more') left rest')) [
                | inl equal ↦ inl (worst ∙ ap₂ worse same equal ∙ sym worst')
                | inr (inl memory) ↦ inr (inl (subst IsMemory (sym worst) (memory_behind a v memory)))
                | inr (inr (inl memory)) ↦ inr (inr (inl (subst IsMemory (sym worst') (memory_behind b w memory))))
                | inr (inr (inr asks)) ↦ inr (inr (inr (later here params next s ss a reply is some asks)))
              ])
        ]
        | inr (inl memory) ↦ inr (inl (subst IsMemory (sym worst) (memory_before a v memory)))
        | inr (inr (inl memory)) ↦ inr (inr (inl (subst IsMemory (sym worst') (memory_before b w memory))))
        | inr (inr (inr asks)) ↦ inr (inr (inr (record {
          place = 0;
          statement = s;
          at = refl;
          behind = params;
          stand = (tone.Good, [], (refl, refl, refl), λ is. is);
          asks = asks;
        })))
      ]

-- How a reply that was written is one that its statement may have.
use Rattle.std.proofs.Common.{◌≡◌, ℕ, Bool, true, false, Option, List, [], ◌∷◌, length, map, suc, Some, Ok, Err, refl, sym, ap, ◌∙◌, subst, arith, inl, inr}
use Rattle.std.specs.List.{AllByRecursion, AllZip}
use Rattle.std.proofs.lemmas.List.{length-map}
use Rattle.std.proofs.lemmas.List.Elements.{All-from_recursion}
use Rattle.std.proofs.lemmas.Slice.Zip.{AllZip-long}
use Rattle.std.specs.Prelude.{◌<◌, ◌≤◌, All, ◌++◌, codes, decimal, IfOk, Result}
use Rattle.gq_base.specs.Catalogs.{Tables}
use Rattle.gq_base.specs.declared.literal.Literal.{Literal}
use Rattle.gq_base.specs.declared.memory.Memory.{Memory}
use Rattle.gq_bound.specs.Binding.{Answers, IsBound}
use Rattle.gq_bound.specs.Refusals.{first_refusal}
use Rattle.gq_bound.specs.Tested.{IsTested, ScopedTest, tests}
use Rattle.gq_bound.specs.declared.refusal.BindRefusal.{BindRefusal}
use Rattle.gq_bound.specs.declared.refusal.BindRefusal.TheVariants as bind
use Rattle.gq_base.specs.Values.{Val}
use Rattle.gq_execute.specs.Spending.{AreSpent}
use Rattle.gq_execute.specs.Replies.{Reply, Rows, Faulted, TooManyRows, IsPermitted}
use Rattle.gq_expr.specs.declared.Fault.{Fault}
use Rattle.gq_io.specs.Causes.{HasCause}
use Rattle.gq_io.proofs.Moved.{Appends-both, front_after, front_longer}
use Rattle.gq_io.specs.Outside.{AppendsFront, Writes}
use Rattle.std.specs.Io.KnownBytes.{Appends}
use Rattle.gq_homes.specs.declared.spent.Spent.{Spent}
use Rattle.gq_io.specs.declared.Failed.{Failed}
use Rattle.gq_lexer.specs.Tokens.{Lexed, lexed}
use Rattle.gq_lexer.specs.declared.token.Token.{Token}
use Rattle.gq_plan.specs.Covers.{Covers}
use Rattle.gq_plan.specs.Plans.{plan_of}
use Rattle.gq_plan.specs.declared.Bound.{Bound}
use Rattle.gq_plan.specs.Soundness.{IsSound}
use Rattle.gq_plan.specs.declared.ExistsPart.{ExistsPart}
use Rattle.gq_plan.specs.declared.Plan as code_plan
use Rattle.gq_plan.specs.declared.typed.Typed.{Typed}
use Rattle.gq_render.specs.Texts.{name_text}
use Rattle.gq_reply.specs.BindLines.{bind_line}
use Rattle.gq_reply.specs.steps.BindLines.{bind_tone}
use Rattle.gq_reply.specs.Bindings.{bind_refusal}
use Rattle.gq_reply.specs.ErrorLines.{error_line}
use Rattle.gq_reply.specs.Replies.{AreBehind, Context, IsAsked, IsBlank, IsRefused, IsReply, IsStopped, IsText, IsTurn, RepliesWith, asked_by, memory_line, params_behind, question, refusal_text}
use Rattle.gq_reply.specs.ReplyTexts.{columns_each, fault_text, many_text, rows_text, spent_text}
use Rattle.gq_reply.specs.steps.Steps.{MayAsk, MaySet, MayShow, Replied, WantsMemory, answer_text, behind_set, toned}
use Rattle.gq_session.specs.Replies.{Answered}
use Rattle.gq_session.specs.Sessions.{Span}
use Rattle.gq_session.specs.declared.answering.Tone.{Tone}
use Rattle.gq_session.specs.declared.answering.Tone.TheVariants as tone
use Rattle.gq_syntax.specs.Grammar.{Clauses, SpelledStatement}
use Rattle.gq_syntax.specs.Spans.{SpelledQuery}
use Rattle.gq_syntax.specs.RefusalNames.{name_of}
use Rattle.gq_syntax.specs.Outcomes.{Cause, ComesWhere, DepthAt, SpelledText, SyntaxAt, TooDeep, UnknownIn}
use Rattle.gq_syntax.specs.declared.refusal.SyntaxRefusal.{SyntaxRefusal}
use Rattle.gq_syntax.specs.declared.refusal.SyntaxRefusal.TheVariants as refusal
use Rattle.gq_ast.specs.declared.statement.Clause.{Clause}
use Rattle.gq_ast.specs.declared.statement.Query.{Query}
use Rattle.gq_ast.specs.declared.statement.Statement.{Statement}
use Rattle.gq_ast.specs.declared.statement.Statement.TheVariants as tree
use Rattle.gq_tokens.specs.Parameters.{with_value}
use Rattle.gq_tokens.specs.Words.{Name}
use Rattle.gq_tokens.specs.declared.params.Param.{Param}

-- ---- replies that were written

-- a text that a statement may have by this tone was written, or a front of it
pub replied : (May : Tone → List ℕ → Type 0) (t : Tone) (text : List ℕ) → May t text → (out : Span) (written : Result (Unit {0}) Failed)
    → Writes out.old out.new text written → HasCause out.before out.now written → (result : Result Tone Failed) → result ≡ toned written t → Replied May out result
replied May t text may out (Ok done) bytes cause result is = rw is (record { bytes = (text, may, bytes); cause = record { later = cause.later; kept = cause.kept; failed = tt } })
replied May t text may out (Err failed) bytes cause result is = rw is (record { bytes = (t, text, may, bytes); cause = record { later = cause.later; kept = tt; failed = cause.failed } })

-- a reply of fewer forms is one of more
pub replied_as : (May Might : Tone → List ℕ → Type 0) → ((t : Tone) (text : List ℕ) → May t text → Might t text) → (out : Span) (result : Result Tone Failed)
    → Replied May out result → Replied Might out result
replied_as May Might go out (Ok t) r = let (text, may, moved) = r.bytes in record { bytes = (text, go t text may, moved); cause = r.cause }
replied_as May Might go out (Err failed) r = let (t, text, may, moved) = r.bytes in record { bytes = (t, text, go t text may, moved); cause = r.cause }

-- want of memory replies to each statement
pub wants_memory : (May : Tone → List ℕ → Type 0) (why : Memory) → May (tone.Memory why) memory_line → (out : Span) (result : Result Tone Failed) → Replied (WantsMemory why) out result → Replied May out result
wants_memory May why may = replied_as (WantsMemory why) May (λ t text is. rw (is.0, is.1) may)

-- ---- statements of no tokens

front_empty : (xs ys : List Token) → xs ++ ys ≡ [] → xs ≡ []
front_empty [] ys e = refl
front_empty (x ∷ xs) ys e = cc

rest_empty : (xs ys : List Token) → xs ++ ys ≡ [] → ys ≡ []
rest_empty [] ys e = e
rest_empty (x ∷ xs) ys e = cc

no_clauses : (values : List ℕ → Literal) (depth : ℕ) (ts : List Token) (cs : List Clause) → ts ≡ [] → Clauses values depth ts cs → ⊥
no_clauses values depth ts cs none (inl (t, s, r, e, takes, h)) = let clash : ◌≡◌ {A = List Token} [] (t ∷ r) = sym none ∙ e in cc
no_clauses values depth ts cs none (inr h) = absurd h

-- no statement is spelled by no tokens
nothing_spells : (values : List ℕ → Literal) (depth : ℕ) (s : Statement) → SpelledStatement values depth [] s → ⊥
nothing_spells values depth s (inl (t, colon, r, e, takes, h)) = let clash : ◌≡◌ {A = List Token} [] (t ∷ r) = e in cc
nothing_spells values depth s (inr (a, b, query, e, (c, d, clauses, split, spelled, more), made)) =
    no_clauses values depth c clauses (front_empty c d (sym split ∙ front_empty a b (sym e))) spelled

spelled_not_blank : (statement : List ℕ) (values : List ℕ → Literal) (tokens : List Token) (s : Statement) → lexed statement ≡ Ok tokens → SpelledStatement values 64 tokens s → ¬ (IsBlank statement)
spelled_not_blank statement values tokens s lexes spelled blank =
    let e : ◌≡◌ {A = Lexed} (Ok tokens) (Ok []) = sym lexes ∙ blank in
    let none : tokens ≡ [] = cc in
    nothing_spells values 64 s (subst (λ ts. SpelledStatement values 64 ts s) none spelled)

pub not_blank : (statement : List ℕ) (params : List Param) (s : Statement) → SpelledText statement params s → ¬ (IsBlank statement)
not_blank statement params s text = spelled_not_blank statement _ text.tokens s text.lexes text.spelled

unknown_not_blank : (statement : List ℕ) (params : List Param) (name : List ℕ) → UnknownIn statement params name → ¬ (IsBlank statement)
unknown_not_blank statement params name unknown = spelled_not_blank statement unknown.values unknown.tokens unknown.s unknown.lexes unknown.spelled

lex_not_blank : (statement : List ℕ) (at : ℕ) → lexed statement ≡ Err at → ¬ (IsBlank statement)
lex_not_blank statement at fails blank = let e : ◌≡◌ {A = Lexed} (Err at) (Ok []) = sym fails ∙ blank in cc

depth_not_blank : (statement : List ℕ) (at : ℕ) → DepthAt statement at → ¬ (IsBlank statement)
depth_not_blank statement at (before, rest, stops, deep) blank =
    let e : ◌≡◌ {A = Lexed} (Ok (before ++ rest)) (Ok []) = sym stops.tokens ∙ blank in
    let none : before ++ rest ≡ [] = cc in
    subst (TooDeep 64 before) (rest_empty before rest none) deep

-- ---- refusals

-- the line of a statement that the grammar refuses
wrong : (c : Context) (params : List Param) (statement text : List ℕ) (why : SyntaxRefusal) → ¬ (IsBlank statement) → Cause statement params (Err why) → refusal_text why ≡ Some text
    → IsRefused c params statement text
wrong c params statement text why written cause is = record { written = written; why = inl (record { why = why; cause = cause; is = is }) }

-- what parse says of a refusal is its cause
pub cause_of : (params : List Param) (statement : List ℕ) (why : SyntaxRefusal) → ((at : ℕ) → ComesWhere (lexed statement ≡ Err at) (Err (refusal.Lex at)) (Err why))
    → ((at : ℕ) → ComesWhere (SyntaxAt statement at) (Err (refusal.Syntax at)) (Err why)) → ((at : ℕ) → ComesWhere (DepthAt statement at) (Err (refusal.Depth at)) (Err why))
    → ((name : List ℕ) → ComesWhere (UnknownIn statement params name) (Err (refusal.UnknownParameter name)) (Err why)) → Cause statement params (Err why)
cause_of params statement (refusal.Lex at) lex syntax depth unknown = (lex at).0 refl
cause_of params statement (refusal.Syntax at) lex syntax depth unknown = (syntax at).0 refl
cause_of params statement (refusal.Depth at) lex syntax depth unknown = (depth at).0 refl
cause_of params statement (refusal.UnknownParameter name) lex syntax depth unknown = (unknown name).0 refl
cause_of params statement refusal.Memory lex syntax depth unknown = tt

module _ (c : Context) (params : List Param) (statement : List ℕ) where
  -- the lines are made of the names
  pub wrong_lex : (why : List ℕ) (at : ℕ) → why ≡ name_of (refusal.Lex at) → lexed statement ≡ Err at → IsReply c params statement tone.Refused (error_line (why ++ codes " at byte " ++ decimal at))
  wrong_lex why at named cause = rw named (wrong c params statement _ (refusal.Lex at) (lex_not_blank statement at cause) cause refl)

  pub wrong_syntax : (why : List ℕ) (at : ℕ) → why ≡ name_of (refusal.Syntax at) → ¬ (IsBlank statement) → SyntaxAt statement at
      → IsReply c params statement tone.Refused (error_line (why ++ codes " at byte " ++ decimal at))
  wrong_syntax why at named written cause = rw named (wrong c params statement _ (refusal.Syntax at) written cause refl)

  pub wrong_depth : (why : List ℕ) (at : ℕ) → why ≡ name_of (refusal.Depth at) → DepthAt statement at → IsReply c params statement tone.Refused (error_line (why ++ codes " at byte " ++ decimal at))
  wrong_depth why at named cause = rw named (wrong c params statement _ (refusal.Depth at) (depth_not_blank statement at cause) cause refl)

  pub wrong_unknown : (why name : List ℕ) → why ≡ name_of (refusal.UnknownParameter name) → UnknownIn statement params name → IsReply c params statement tone.Refused (error_line (why ++ codes " " ++ name_text name))
  wrong_unknown why name named cause = rw named (wrong c params statement _ (refusal.UnknownParameter name) (unknown_not_blank statement params name cause) cause refl)

  -- what becomes of a statement that its tokens spell
  module _ (form : Statement) (spelled : SpelledText statement params form) where
    pub unbound_line : (why : BindRefusal) → bind_refusal form statement c.graph.catalog ≡ Some why → IsReply c params statement tone.Refused (bind_line why)
    unbound_line why refused = record {
      written = not_blank statement params form spelled;
      why = inr (inl (record { tree = form; spelled = spelled; why = why; refused = refused; is = refl }));
    }

    -- a query that the binder does not accept
    pub unbound : (query : Query) → bind_refusal form statement c.graph.catalog ≡ first_refusal query statement c.graph.catalog → (e : BindRefusal) → Answers query statement c.graph.catalog (Err e)
        → IsReply c params statement (bind_tone e) (bind_line e)
    unbound query of (bind.Memory why) refused = refl
    unbound query of (bind.UnknownVariable name) refused = unbound_line (bind.UnknownVariable name) (of ∙ refused)
    unbound query of (bind.VariableConflict name) refused = unbound_line (bind.VariableConflict name) (of ∙ refused)
    unbound query of (bind.RelationshipRepeated name) refused = unbound_line (bind.RelationshipRepeated name) (of ∙ refused)
    unbound query of (bind.ColumnRepeated name) refused = unbound_line (bind.ColumnRepeated name) (of ∙ refused)
    unbound query of (bind.AmbiguousOrderName name) refused = unbound_line (bind.AmbiguousOrderName name) (of ∙ refused)
    unbound query of (bind.UnknownFunction name) refused = unbound_line (bind.UnknownFunction name) (of ∙ refused)
    unbound query of (bind.ArgumentCount name) refused = unbound_line (bind.ArgumentCount name) (of ∙ refused)
    unbound query of (bind.OrderOutOfScope item) refused = unbound_line (bind.OrderOutOfScope item) (of ∙ refused)
    unbound query of bind.NothingToReturn refused = unbound_line bind.NothingToReturn (of ∙ refused)
    unbound query of bind.TooManyPatterns refused = unbound_line bind.TooManyPatterns (of ∙ refused)
    unbound query of bind.TooManyReads refused = unbound_line bind.TooManyReads (of ∙ refused)
    unbound query of bind.TooManyColumns refused = unbound_line bind.TooManyColumns (of ∙ refused)
    unbound query of bind.TooManyAlternatives refused = unbound_line bind.TooManyAlternatives (of ∙ refused)
    unbound query of bind.TrailLength refused = unbound_line bind.TrailLength (of ∙ refused)
    unbound query of bind.TrailWithOptional refused = unbound_line bind.TrailWithOptional (of ∙ refused)
    unbound query of bind.ExistsPlace refused = unbound_line bind.ExistsPlace (of ∙ refused)

-- ---- queries

module _ (c : Context) (params : List Param) (statement : List ℕ) (query : Query) (bound : Bound) where
  -- a fault and too many rows stand alone, behind `:profile` too
  fault_alone : (profiled : Bool) (f : Fault) (text : List ℕ) → text ≡ fault_text f → IsText c profiled query bound (Faulted f) text
  fault_alone true f text is = is
  fault_alone false f text is = is

  many_alone : (profiled : Bool) (text : List ℕ) → text ≡ many_text c.settings.rows → IsText c profiled query bound TooManyRows text
  many_alone true text is = is
  many_alone false text is = is

  module _ (asked : IsAsked c.graph params statement query bound) where
    replies_with : (reply : Reply) (text : List ℕ) → IsPermitted (question c query bound) reply → IsText c asked.profiled query bound reply text → RepliesWith c params statement reply text
    replies_with reply text permitted is = record { query = query; bound = bound; asked = asked; permitted = permitted; is = is }

    stopped : (text : List ℕ) → IsStopped c params statement text → IsRefused c params statement text
    stopped text h = record { written = not_blank statement params (asked_by asked.profiled query) asked.spelled; why = inr (inr (inr h)) }

    -- the reply to the query that a statement asks, or whose profile it asks for, replies to it
    pub may_reply : (t : Tone) (text : List ℕ) → MayAsk c asked.profiled query bound t text → IsReply c params statement t text
    may_reply tone.Good text (lines, permitted, is) = inr (inr (inr (inr (lines, replies_with (Rows lines) text permitted is))))
    may_reply tone.Refused text (inl (f, permitted, is)) = stopped text (inl (f, replies_with (Faulted f) text permitted (fault_alone asked.profiled f text is)))
    may_reply tone.Refused text (inr (permitted, is)) = stopped text (inr (replies_with TooManyRows text permitted (many_alone asked.profiled text is)))
    may_reply (tone.Memory why) text is = is

  -- the plans of the query that a statement spells reply to it
  pub may_show : SpelledText statement params (tree.Plan query) → IsBound query statement c.graph.catalog bound → (t : Tone) (text : List ℕ) → MayShow c query bound t text → IsReply c params statement t text
  may_show spelled binds tone.Good text is = inr (inr (inr (inl (record { query = query; bound = bound; spelled = spelled; binds = binds; is = is }))))
  may_show spelled binds tone.Refused text is = absurd is
  may_show spelled binds (tone.Memory why) text is = is

-- ---- parameters

-- a query leaves the parameters
pub asked_behind : (profiled : Bool) (query : Query) (params : List Param) → params_behind (asked_by profiled query) params ≡ params
asked_behind false query params = refl
asked_behind true query params = refl

module _ (params : List Param) (statement : List ℕ) where
  -- the parameters behind a statement that sets one
  set_behind : (name : Name) (value : Literal) → SpelledText statement params (tree.Param name value) → (t : Tone) (behind : List Param) → behind ≡ behind_set params name value t
      → AreBehind params statement t behind
  set_behind name value spelled tone.Good behind is = inr (tree.Param name value, spelled, is)
  set_behind name value spelled tone.Refused behind is = is
  set_behind name value spelled (tone.Memory why) behind is = is

  pub set_after : (name : Name) (value : Literal) → SpelledText statement params (tree.Param name value) → (behind : List Param) (result : Result Tone Failed)
      → IfOk result (λ t. behind ≡ behind_set params name value t) → IfOk result (λ t. AreBehind params statement t behind)
  set_after name value spelled behind (Ok t) is = set_behind name value spelled t behind is
  set_after name value spelled behind (Err failed) is = tt

  -- any other statement leaves them
  pub same_behind : (s : Statement) → SpelledText statement params s → params_behind s params ≡ params → (t : Tone) → AreBehind params statement t params
  same_behind s spelled same tone.Good = inr (s, spelled, sym same)
  same_behind s spelled same tone.Refused = refl
  same_behind s spelled same (tone.Memory why) = refl

module _ (c : Context) (params : List Param) (statement : List ℕ) where
  -- the reply to a statement that sets a parameter
  pub may_set : (name : Name) (value : Literal) → SpelledText statement params (tree.Param name value) → (t : Tone) (text : List ℕ) → MaySet params name value t text → IsReply c params statement t text
  may_set name value spelled tone.Good text (room, is) = inr (inr (inl (record { name = name; value = value; spelled = spelled; room = room; is = is })))
  may_set name value spelled tone.Refused text (full, is) = record {
    written = not_blank statement params (tree.Param name value) spelled;
    why = inr (inr (inl (record { name = name; value = value; spelled = spelled; full = full; is = is })));
  }
  may_set name value spelled (tone.Memory why) text is = is

  -- each reply has parameters behind it
  some_behind : (t : Tone) (text : List ℕ) → IsReply c params statement t text → (behind : List Param) × AreBehind params statement t behind
  some_behind tone.Good text (inl (blank, is)) = (params, inl (blank, refl))
  some_behind tone.Good text (inr (inl (spelled, is))) = (params, inr (tree.Schema, spelled, refl))
  some_behind tone.Good text (inr (inr (inl sets))) = (with_value sets.name sets.value params, inr (tree.Param sets.name sets.value, sets.spelled, refl))
  some_behind tone.Good text (inr (inr (inr (inl shows)))) = (params, inr (tree.Plan shows.query, shows.spelled, refl))
  some_behind tone.Good text (inr (inr (inr (inr (lines, replies))))) = (params, inr (asked_by replies.asked.profiled replies.query, replies.asked.spelled, sym (asked_behind replies.asked.profiled replies.query params)))
  some_behind tone.Refused text may = (params, refl)
  some_behind (tone.Memory why) text may = (params, refl)

  -- a reply that was written, with the parameters behind it, is a turn
  pub turned : (behind : List Param) (out : Span) (result : Result Tone Failed) → Replied (IsReply c params statement) out result → IfOk result (λ t. AreBehind params statement t behind)
      → Answered (IsTurn c params statement) behind out.old out.new result
  turned behind out (Ok t) r is = let (text, may, moved) = r.bytes in (text, (may, is), moved)
  turned behind out (Err failed) r is =
      let (t, text, may, moved) = r.bytes in
      let (later, behind') = some_behind t text may in
      (t, text, later, (may, behind'), moved)

-- what holds of the tone of a line holds of the tone that is answered
pub by_tone : (P : Tone → Type 0) (t : Tone) → P t → (written : Result (Unit {0}) Failed) (result : Result Tone Failed) → result ≡ toned written t → IfOk result P
by_tone P t is (Ok done) result same = rw same is
by_tone P t is (Err failed) result same = rw same tt

-- what holds of the tone of want of memory holds of the tone that is answered
pub by_memory : (P : Tone → Type 0) (why : Memory) → P (tone.Memory why) → (out : Span) (result : Result Tone Failed) → Replied (WantsMemory why) out result → IfOk result P
by_memory P why is out (Ok t) r = let (text, same, moved) = r.bytes in rw same.0 is
by_memory P why is out (Err failed) r = tt

-- what holds for each of some holds for one
pub for_one : {T E X : Type 0} (P : X → T → Type 0) (x : X) (r : Result T E) → IfOk r (λ t. (y : X) → P y t) → IfOk r (P x)
for_one P x (Ok t) all = all x
for_one P x (Err e) all = tt

-- what holds of each value holds of that of a result
pub if_each : {T E : Type 0} (P : T → Type 0) (r : Result T E) → ((t : T) → P t) → IfOk r P
if_each P (Ok t) all = all t
if_each P (Err e) all = tt

-- ---- plans

-- there is a plan for each alternative
pub as_many : (catalog : Tables) (bound : Bound) (plans : List code_plan.Plan) → AllZip (Covers catalog) bound.alternatives (map plan_of plans) → length plans ≡ length bound.alternatives
as_many catalog bound plans covers = sym (length-map plans plan_of) ∙ AllZip-long (Covers catalog) bound.alternatives (map plan_of plans) covers

-- as many numbers of columns as alternatives
pub columns_long : (ys : List Typed) (ps : List code_plan.Plan) → length ps ≡ length ys → length (columns_each ys ps) ≡ length ys
columns_long [] ps same = refl
columns_long (y ∷ ys) [] same = cc
columns_long (y ∷ ys) (p ∷ ps) same = let less : length ps ≡ length ys = omega (arith, same) in ap suc (columns_long ys ps less)

-- the alternatives of a bound query have node variables
pub begun : (query : Query) (text : List ℕ) (catalog : Tables) (bound : Bound) → IsBound query text catalog bound → All (λ y. 0 < length y.nodes) bound.alternatives
begun query text catalog bound is = λ k d lt. omega (arith, is.has_node, is.node_counts k d lt)

-- they have no more variables than the query has
pub nodes_fit : (query : Query) (text : List ℕ) (catalog : Tables) (bound : Bound) → IsBound query text catalog bound → All (λ y. length y.nodes ≤ length bound.node_names) bound.alternatives
nodes_fit query text catalog bound is = λ k d lt. omega (arith, is.node_width, is.node_counts k d lt)

pub rels_fit : (query : Query) (text : List ℕ) (catalog : Tables) (bound : Bound) → IsBound query text catalog bound → All (λ y. length y.rels ≤ length bound.rel_names) bound.alternatives
rels_fit query text catalog bound is = λ k d lt. omega (arith, is.rel_width, is.rel_counts k d lt)

-- what is so of each test of a path is so of the parts of a bound query
zip_each : (P : ExistsPart → Type 0) (text : List ℕ) (catalog : Tables) → ((t : ScopedTest) (part : ExistsPart) → IsTested text catalog t part → P part)
    → (ts : List ScopedTest) (parts : List ExistsPart) → AllZip (IsTested text catalog) ts parts → AllByRecursion P parts
zip_each P text catalog holds [] [] is = tt
zip_each P text catalog holds [] (part ∷ parts) is = absurd is
zip_each P text catalog holds (t ∷ ts) [] is = tt
zip_each P text catalog holds (t ∷ ts) (part ∷ parts) is = (holds t part is.0, zip_each P text catalog holds ts parts is.1)

-- their alternatives are sound, and have node variables
pub tests_sound : (query : Query) (text : List ℕ) (catalog : Tables) (bound : Bound) → IsBound query text catalog bound → All (λ (p : ExistsPart). All (IsSound catalog) p.alternatives) bound.patterns
tests_sound query text catalog bound is =
    All-from_recursion _ bound.patterns (zip_each (λ p. All (IsSound catalog) p.alternatives) text catalog (λ t part tested. tested.sound) (tests text query) bound.patterns is.tested)

pub tests_begin : (query : Query) (text : List ℕ) (catalog : Tables) (bound : Bound) → IsBound query text catalog bound
    → All (λ (p : ExistsPart). All (λ (y : Typed). 0 < length y.nodes) p.alternatives) bound.patterns
tests_begin query text catalog bound is =
    All-from_recursion _ bound.patterns
    (zip_each (λ p. All (λ (y : Typed). 0 < length y.nodes) p.alternatives) text catalog (λ t part tested. tested.has_node) (tests text query) bound.patterns is.tested)

-- ---- profiles

-- a query is spelled, behind `:profile` or not
pub spelled_query : (profiled : Bool) (params : List Param) (statement : List ℕ) (query : Query) → SpelledText statement params (asked_by profiled query) → SpelledQuery statement query
spelled_query false params statement query spelled = (params, inl spelled)
spelled_query true params statement query spelled = (params, inr (inr spelled))

-- what the binder says of it is what it says of the statement
pub refusal_is : (profiled : Bool) (statement : List ℕ) (query : Query) (catalog : Tables) → bind_refusal (asked_by profiled query) statement catalog ≡ first_refusal query statement catalog
refusal_is false statement query catalog = refl
refusal_is true statement query catalog = refl

-- what was written of rows is their text, behind `:profile` with what the pipelines spent
pub answered : (c : Context) (profiled : Bool) (query : Query) (bound : Bound) (spent : List Spent) (pushed : ℕ) (lines : List (List Val)) → AreSpent (question c query bound) spent pushed
    → IsText c profiled query bound (Rows lines) (answer_text c profiled bound spent lines)
answered c true query bound spent pushed lines spends = record { spent = spent; pushed = pushed; spends = spends; is = refl }
answered c false query bound spent pushed lines spends = refl

-- rows alone, where no profile is asked for
pub rows_alone : (c : Context) (profiled : Bool) (bound : Bound) (spent : List Spent) (lines : List (List Val)) (a b : Option (List ℕ)) (r : Result (Unit {0}) Failed) → profiled ≡ false
    → Writes a b (rows_text c.extent c.graph bound lines) r → Writes a b (answer_text c profiled bound spent lines) r
rows_alone c true bound spent lines a b r e h = absurd (cc e)
rows_alone c false bound spent lines a b r e h = h

-- one text was written, and then another, or a front of it
pub written_then : (x y : List ℕ) (a b d : Option (List ℕ)) (r : Result (Unit {0}) Failed) → Appends a b x → Writes b d y r → Writes a d (x ++ y) r
written_then x y a b d (Ok done) p q = Appends-both a b d x y p q
written_then x y a b d (Err failed) p q = front_after a b d x y p q

-- what the pipelines spent, and then rows, or a front of them
pub profile_then : (c : Context) (profiled : Bool) (bound : Bound) (spent : List Spent) (lines : List (List Val)) (a b d : Option (List ℕ)) (r : Result (Unit {0}) Failed) → profiled ≡ true
    → Appends a b (spent_text 1 spent) → Writes b d (rows_text c.extent c.graph bound lines) r → Writes a d (answer_text c profiled bound spent lines) r
profile_then c true bound spent lines a b d r e p q = written_then (spent_text 1 spent) (rows_text c.extent c.graph bound lines) a b d r p q
profile_then c false bound spent lines a b d r e p q = absurd (cc e)

-- a front of what they spent
pub profile_broke : (c : Context) (profiled : Bool) (bound : Bound) (spent : List Spent) (lines : List (List Val)) (a b : Option (List ℕ)) → profiled ≡ true
    → AppendsFront a b (spent_text 1 spent) → AppendsFront a b (answer_text c profiled bound spent lines)
profile_broke c true bound spent lines a b e p = front_longer a b (spent_text 1 spent) (rows_text c.extent c.graph bound lines) p
profile_broke c false bound spent lines a b e p = absurd (cc e)

-- How a reply is written, for the contracts of its parts.
use Rattle.std.specs.Prelude.{◌≡◌, ◌⊎◌, ℕ, List, Result, Ok, Err, Bool, true, false, ◌++◌, codes, map}
use Rattle.std.specs.List.{AllZip}
use Rattle.std.specs.Io.KnownBytes.{Appends}
use Rattle.std.specs.declared.option.Option.{Option}
use Rattle.gq_base.specs.Values.{Val, literal_val}
use Rattle.gq_base.specs.declared.literal.Literal.{Literal}
use Rattle.gq_base.specs.declared.memory.Memory.{Memory}
use Rattle.gq_bound.specs.Binding.{IsBound}
use Rattle.gq_execute.specs.Planned.{ArePlansIn}
use Rattle.gq_execute.specs.Replies.{Rows, Faulted, TooManyRows, IsPermitted}
use Rattle.gq_expr.specs.declared.Fault.{Fault}
use Rattle.gq_io.specs.Causes.{HasCause}
use Rattle.gq_io.specs.Outside.{AppendsFront}
use Rattle.gq_io.specs.declared.Failed.{Failed}
use Rattle.gq_plan.specs.Covers.{Covers}
use Rattle.gq_plan.specs.Plans.{plan_of}
use Rattle.gq_plan.specs.declared.Bound.{Bound}
use Rattle.gq_homes.specs.declared.spent.Spent.{Spent}
use Rattle.gq_reply.specs.Arrows.{trail_arrows}
use Rattle.gq_reply.specs.ErrorLines.{error_line}
use Rattle.gq_reply.specs.Replies.{Context, IsText, memory_line, question}
use Rattle.gq_reply.specs.ReplyTexts.{IsPlanText, columns_each, fault_text, many_text, rows_text, spent_text}
use Rattle.gq_reply.specs.declared.plans.ShownPlans.{ShownPlans}
use Rattle.gq_session.specs.Sessions.{Span}
use Rattle.gq_session.specs.declared.answering.Tone.{Tone}
use Rattle.gq_session.specs.declared.answering.Tone.TheVariants as tone
use Rattle.gq_render.specs.Texts.{param_line}
use Rattle.gq_ast.specs.declared.statement.Query.{Query}
use Rattle.gq_tokens.specs.Parameters.{IsFull, with_value}
use Rattle.gq_tokens.specs.Words.{Name}
use Rattle.gq_tokens.specs.declared.params.Param.{Param}

-- the tone of a reply that was written, or the failure to write it
abbrev pub toned : Result (Unit {0}) Failed → Tone → Result Tone Failed
toned (Ok _) t = Ok t
toned (Err failed) t = Err failed

-- a permitted reply was written, or a front of one
abbrev pub Written : (Tone → List ℕ → Type 0) → Option (List ℕ) → Option (List ℕ) → Result Tone Failed → Type 0
Written May old new (Ok t) = (text : List ℕ) × May t text × Appends old new text
Written May old new (Err failed) = (t : Tone) × (text : List ℕ) × May t text × AppendsFront old new text

-- the same; where a front was written, the sink failed
pub record Replied (May : Tone → List ℕ → Type 0) (out : Span) (result : Result Tone Failed) : Type 0 where
  pub bytes : Written May out.old out.new result
  pub cause : HasCause out.before out.now result

-- the reply to any statement that wants memory, by this cause
abbrev pub WantsMemory : Memory → Tone → List ℕ → Type 0
WantsMemory why t text = (t ≡ tone.Memory why) × (text ≡ memory_line)

-- the replies to a query that is bound, or to one whose profile is asked for: its rows, a line in their place, or the line for
-- want of memory
abbrev pub MayAsk : Context → Bool → Query → Bound → Tone → List ℕ → Type 0
MayAsk c profiled query bound tone.Good text = (lines : List (List Val)) × IsPermitted (question c query bound) (Rows lines)
    × IsText c profiled query bound (Rows lines) text
MayAsk c profiled query bound tone.Refused text =
    ((f : Fault) × IsPermitted (question c query bound) (Faulted f) × (text ≡ fault_text f))
    ⊎ (IsPermitted (question c query bound) TooManyRows × (text ≡ many_text c.settings.rows))
MayAsk c profiled query bound (tone.Memory why) text = text ≡ memory_line

-- the same for each query that is bound so
abbrev pub Asks : Context → Bool → Bound → Span → Result Tone Failed → Type 0
Asks c profiled bound out result =
    (query : Query) (statement : List ℕ) → IsBound query statement c.graph.catalog bound → Replied (MayAsk c profiled query bound) out result

-- what is written of rows: behind `:profile` first what the pipelines spent
abbrev pub answer_text : Context → Bool → Bound → List Spent → List (List Val) → List ℕ
answer_text c true bound spent lines = spent_text 1 spent ++ rows_text c.extent c.graph bound lines
answer_text c false bound spent lines = rows_text c.extent c.graph bound lines

-- what is shown of the plans of a query that is bound: each covers its alternative
pub record AreShown (c : Context) (query : Query) (bound : Bound) (s : ShownPlans) : Type 0 where
  pub are : ArePlansIn c.settings.order c.graph bound.alternatives (map plan_of s.made.plans) s.made.costs
  pub covers : AllZip (Covers c.graph.catalog) bound.alternatives (map plan_of s.made.plans)
  pub columns : s.columns ≡ columns_each bound.alternatives s.made.plans
  pub arrows : s.arrows ≡ trail_arrows query.clauses

-- the plans of a query that is bound, by their text
abbrev pub MayShow : Context → Query → Bound → Tone → List ℕ → Type 0
MayShow c query bound tone.Good text = IsPlanText c.settings.order c.graph query bound text
MayShow c query bound tone.Refused text = ⊥
MayShow c query bound (tone.Memory why) text = text ≡ memory_line

-- the replies to a statement that sets a parameter
abbrev pub MaySet : List Param → Name → Literal → Tone → List ℕ → Type 0
MaySet params name value tone.Good text = (¬ (IsFull name params)) × (text ≡ param_line name (literal_val value))
MaySet params name value tone.Refused text = IsFull name params × (text ≡ error_line (codes "TooManyParameters"))
MaySet params name value (tone.Memory why) text = text ≡ memory_line

-- the parameters behind it
abbrev pub behind_set : List Param → Name → Literal → Tone → List Param
behind_set params name value tone.Good = with_value name value params
behind_set params name value t = params

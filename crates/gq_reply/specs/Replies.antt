-- The reply to a statement over a graph, and the parameters behind it (this project's profile).
-- It rests on `IsBound` (what a query stands for over the graph), `IsPermitted` (which rows, or which refusal, openCypher
-- permits), `reply_text`, `schema_text` and `IsPlanText` (how a reply is spelled), `SpelledText` and `Cause` (the tree that a
-- statement's tokens spell, or where they go wrong), `bind_refusal` and `bind_line` (why a query cannot be bound), and
-- `with_value` and `IsFull` (parameters with one more, and that there is no room for it).
use Rattle.std.specs.Prelude.{◌≡◌, ◌⊎◌, ℕ, List, [], ◌++◌, codes, decimal, Option, Some, None, Ok, Err, Bool, true, false}
use Rattle.gq_base.specs.Plain.{Graph}
use Rattle.gq_base.specs.Values.{Val, literal_val}
use Rattle.gq_base.specs.declared.literal.Literal.{Literal}
use Rattle.gq_bound.specs.Binding.{IsBound}
use Rattle.gq_bound.specs.declared.refusal.BindRefusal.{BindRefusal}
use Rattle.gq_execute.specs.Replies.{Question, Reply, Rows, Faulted, TooManyRows, IsPermitted}
use Rattle.gq_execute.specs.Spending.{AreSpent}
use Rattle.gq_execute.specs.declared.settings.Settings.{Settings}
use Rattle.gq_homes.specs.declared.spent.Spent.{Spent}
use Rattle.gq_explain.specs.Schema.{schema_text}
use Rattle.gq_expr.specs.declared.Fault.{Fault}
use Rattle.gq_lexer.specs.Tokens.{lexed}
use Rattle.gq_plan.specs.declared.Bound.{Bound}
use Rattle.gq_render.specs.Texts.{name_text, param_line}
use Rattle.gq_reply.specs.BindLines.{bind_line}
use Rattle.gq_reply.specs.Bindings.{bind_refusal}
use Rattle.gq_reply.specs.ErrorLines.{error_line}
use Rattle.gq_reply.specs.ReplyTexts.{IsPlanText, fault_text, many_text, reply_text, rows_text, spent_text}
use Rattle.gq_reply.specs.declared.replier.Extent.{Extent}
use Rattle.gq_reply.specs.declared.replier.Replier.{Replier}
use Rattle.gq_session.specs.Replies.{Replies, Rule}
use Rattle.gq_session.specs.Tones.{IsMemory}
use Rattle.gq_session.specs.declared.answering.Tone.{Tone}
use Rattle.gq_session.specs.declared.answering.Tone.TheVariants as tone
use Rattle.gq_syntax.specs.Outcomes.{Cause, SpelledText}
use Rattle.gq_syntax.specs.RefusalNames.{name_of}
use Rattle.gq_syntax.specs.declared.refusal.SyntaxRefusal.{SyntaxRefusal}
use Rattle.gq_syntax.specs.declared.refusal.SyntaxRefusal.TheVariants as refusal
use Rattle.gq_ast.specs.declared.statement.Query.{Query}
use Rattle.gq_ast.specs.declared.statement.Statement.{Statement}
use Rattle.gq_ast.specs.declared.statement.Statement.TheVariants as tree
use Rattle.gq_tokens.specs.Parameters.{IsFull, with_value}
use Rattle.gq_tokens.specs.Words.{Name}
use Rattle.gq_tokens.specs.declared.params.Param.{Param}

-- over which graph statements are answered, how rows are found, and how they are written
pub record Context : Type 0 where
  pub graph : Graph
  pub settings : Settings
  pub extent : Extent

abbrev pub context_of : Replier → Context
context_of r = record { graph = r.graph.now; settings = r.settings; extent = r.extent }

-- the statement has no tokens: it is white space and comments alone
abbrev pub IsBlank : List ℕ → Type 0
IsBlank statement = lexed statement ≡ Ok []

-- a statement asks a query, or for its profile
abbrev pub asked_by : Bool → Query → Statement
asked_by false query = tree.Query query
asked_by true query = tree.Profile query

-- a query that is answered: a statement's tokens spell it with these parameters, behind `:profile` or not, and it is bound
-- over the graph
pub record IsAsked (graph : Graph) (params : List Param) (statement : List ℕ) (query : Query) (bound : Bound) : Type 0 where
  pub profiled : Bool
  pub spelled : SpelledText statement params (asked_by profiled query)
  pub binds : IsBound query statement graph.catalog bound

-- what is asked then: the rows over the graph, in the order and with the most rows of the settings
abbrev pub question : Context → Query → Bound → Question
question c query bound =
    record { graph = c.graph; query = query; bound = bound; order = c.settings.order; most = c.settings.rows }

-- the text of a profile: a line for each pipeline that ran, and the rows
pub record IsProfile (c : Context) (query : Query) (bound : Bound) (lines : List (List Val)) (text : List ℕ) : Type 0 where
  pub spent : List Spent
  pub pushed : ℕ
  pub spends : AreSpent (question c query bound) spent pushed
  pub is : text ≡ spent_text 1 spent ++ rows_text c.extent c.graph bound lines

-- the text of a reply; a fault and too many rows stand alone behind `:profile` too
abbrev pub IsText : Context → Bool → Query → Bound → Reply → List ℕ → Type 0
IsText c true query bound (Rows lines) text = IsProfile c query bound lines text
IsText c true query bound (Faulted why) text = text ≡ fault_text why
IsText c true query bound TooManyRows text = text ≡ many_text c.settings.rows
IsText c false query bound reply text = text ≡ reply_text c.extent c.settings.rows c.graph bound reply

-- a reply to such a query: one that openCypher permits over the graph, and its text
pub record RepliesWith (c : Context) (params : List Param) (statement : List ℕ) (reply : Reply) (text : List ℕ) : Type 0 where
  pub query : Query
  pub bound : Bound
  pub asked : IsAsked c.graph params statement query bound
  pub permitted : IsPermitted (question c query bound) reply
  pub is : IsText c asked.profiled query bound reply text

-- the plans of a query: a statement asks for them, it is bound over the graph, and this is their text
pub record ShowsPlans (c : Context) (params : List Param) (statement text : List ℕ) : Type 0 where
  pub query : Query
  pub bound : Bound
  pub spelled : SpelledText statement params (tree.Plan query)
  pub binds : IsBound query statement c.graph.catalog bound
  pub is : IsPlanText c.settings.order c.graph query bound text

-- a parameter is set: a statement says so, there is room for it, and this is its line
pub record Sets (params : List Param) (statement text : List ℕ) : Type 0 where
  pub name : Name
  pub value : Literal
  pub spelled : SpelledText statement params (tree.Param name value)
  pub room : ¬ (IsFull name params)
  pub is : text ≡ param_line name (literal_val value)

-- a statement's reply: none to white space and comments alone, the graph's tables to `:schema`, the name and the value to
-- `:param`, plans to `:plan`, rows to a query, behind what its pipelines spent to `:profile`
abbrev pub IsAnswered : Context → List Param → List ℕ → List ℕ → Type 0
IsAnswered c params statement text =
    (IsBlank statement × (text ≡ []))
    ⊎ (SpelledText statement params tree.Schema × (text ≡ schema_text c.graph))
    ⊎ Sets params statement text
    ⊎ ShowsPlans c params statement text
    ⊎ ((lines : List (List Val)) × RepliesWith c params statement (Rows lines) text)

-- the line of a statement that is no text, has no tokens, or is spelled by no statement within the allowed nesting, with the
-- place where it goes wrong; or of one with a name behind a `$` that is no parameter
abbrev pub refusal_text : SyntaxRefusal → Option (List ℕ)
refusal_text (refusal.Lex at) = Some (error_line (name_of (refusal.Lex at) ++ codes " at byte " ++ decimal at))
refusal_text (refusal.Syntax at) = Some (error_line (name_of (refusal.Syntax at) ++ codes " at byte " ++ decimal at))
refusal_text (refusal.Depth at) = Some (error_line (name_of (refusal.Depth at) ++ codes " at byte " ++ decimal at))
refusal_text (refusal.UnknownParameter name) = Some (error_line (name_of (refusal.UnknownParameter name) ++ codes " " ++ name_text name))
refusal_text refusal.Memory = None

-- the statement is wrong, by the grammar, and this line says where, or it names no parameter, and this line says which
pub record IsWrong (params : List Param) (statement text : List ℕ) : Type 0 where
  pub why : SyntaxRefusal
  pub cause : Cause statement params (Err why)
  pub is : refusal_text why ≡ Some text

-- the statement is right, but its query cannot be bound over the graph, and this line says why
pub record IsUnbound (graph : Graph) (params : List Param) (statement text : List ℕ) : Type 0 where
  pub tree : Statement
  pub spelled : SpelledText statement params tree
  pub why : BindRefusal
  pub refused : bind_refusal tree statement graph.catalog ≡ Some why
  pub is : text ≡ bind_line why

-- the statement is right, but there is no room for the parameter that it sets, and this line says so
pub record IsOverfull (params : List Param) (statement text : List ℕ) : Type 0 where
  pub name : Name
  pub value : Literal
  pub spelled : SpelledText statement params (tree.Param name value)
  pub full : IsFull name params
  pub is : text ≡ error_line (codes "TooManyParameters")

-- a query has no rows: an outcome that is looked at is this fault, or too many rows are kept
abbrev pub IsStopped : Context → List Param → List ℕ → List ℕ → Type 0
IsStopped c params statement text =
    ((fault : Fault) × RepliesWith c params statement (Faulted fault) text)
    ⊎ RepliesWith c params statement TooManyRows text

-- every other statement is refused by one line
pub record IsRefused (c : Context) (params : List Param) (statement text : List ℕ) : Type 0 where
  pub written : ¬ (IsBlank statement)
  pub why : IsWrong params statement text ⊎ IsUnbound c.graph params statement text
      ⊎ IsOverfull params statement text ⊎ IsStopped c params statement text

-- the line of a statement for which there was not enough memory, or which asks for more than one statement may take
abbrev pub memory_line : List ℕ
memory_line = error_line (codes "Memory")

-- the replies that a statement may have with these parameters, by their tones: any statement may want memory, by either cause
abbrev pub IsReply : Context → List Param → List ℕ → Tone → List ℕ → Type 0
IsReply c params statement tone.Good text = IsAnswered c params statement text
IsReply c params statement tone.Refused text = IsRefused c params statement text
IsReply c params statement (tone.Memory why) text = text ≡ memory_line

-- the parameters behind a statement that is accepted
abbrev pub params_behind : Statement → List Param → List Param
params_behind (tree.Param name value) params = with_value name value params
params_behind tree params = params

-- the parameters behind a reply: where the statement is accepted, those of its tree; else they are as before
abbrev pub AreBehind : List Param → List ℕ → Tone → List Param → Type 0
AreBehind params statement tone.Good behind =
    (IsBlank statement × (behind ≡ params))
    ⊎ ((tree : Statement) × SpelledText statement params tree × (behind ≡ params_behind tree params))
AreBehind params statement t behind = behind ≡ params

-- one turn of a session: the reply to a statement, and the parameters behind it
abbrev pub IsTurn : Context → Rule (List Param)
IsTurn c params statement t text behind = IsReply c params statement t text × AreBehind params statement t behind

-- the parameters that stand behind statements, from these on: those behind some replies to them, none of which is want of memory
abbrev pub StandBehind : Context → List Param → List (List ℕ) → List Param → Type 0
StandBehind c params statements behind = (t : Tone) × (text : List ℕ)
    × Replies (IsTurn c) params behind statements t text × (¬ (IsMemory t))

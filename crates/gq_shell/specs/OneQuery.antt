-- The claim for one query, to be read before the whole of it: where the files and the input are told and no call fails, the
-- reply that is written is one that openCypher permits (`IsPermitted`), spelled to the last byte. It follows from `Runs` of
-- Claim.
use Rattle.std.specs.Prelude.{◌≡◌, ◌⊎◌, ℕ, List, ◌∷◌, [], Option, Some}
use Rattle.std.specs.Io.KnownBytes.{Appends}
use Rattle.std.specs.List.{AllByRecursion}
use Rattle.gq_ast.specs.declared.statement.Query.{Query}
use Rattle.gq_ast.specs.declared.statement.Statement.TheVariants as tree
use Rattle.gq_bound.specs.Binding.{IsBound}
use Rattle.gq_execute.specs.Replies.{Reply, Rows, Faulted, TooManyRows, IsPermitted}
use Rattle.gq_io.specs.Causes.{Rose}
use Rattle.gq_io.specs.Outside.{Names}
use Rattle.gq_plan.specs.declared.Bound.{Bound}
use Rattle.gq_reply.specs.Replies.{Context, IsBlank, question}
use Rattle.gq_reply.specs.ReplyTexts.{reply_text}
use Rattle.gq_session.specs.Whole.{IsTooLong, statements}
use Rattle.gq_shell.specs.Claim.{Outside, Over, full, long, most, settings_of}
use Rattle.gq_shell.specs.Statuses.{IsMemory}
use Rattle.gq_shell.specs.declared.status.Status.{Status}
use Rattle.gq_shell.specs.declared.status.Status.TheVariants as status
use Rattle.gq_syntax.specs.Outcomes.{SpelledText}

-- the input is one query, which is bound over the graph, with white space and comments about it
pub record IsOneQuery (c : Context) (query : Query) (bound : Bound) (input : List ℕ) : Type 0 where
  pub short : ¬ (IsTooLong long most input)
  pub statement : List ℕ
  pub others : List (List ℕ)
  pub cut : statements input ≡ statement ∷ others
  pub blank : AllByRecursion IsBlank others
  pub spelled : SpelledText statement [] (tree.Query query)
  pub binds : IsBound query statement c.graph.catalog bound

-- the status of a run that wrote a reply: whether it has rows
abbrev pub status_by : Reply → Status
status_by (Rows lines) = status.Ended
status_by (Faulted why) = status.Refused
status_by TooManyRows = status.Refused

-- a reply that openCypher permits to the query over the graph was written whole, and the status is that of the reply
pub record WroteReply (c : Context) (query : Query) (bound : Bound) (answer : Status) (old new : Option (List ℕ)) : Type 0 where
  pub reply : Reply
  pub permitted : IsPermitted (question c query bound) reply
  pub status_is : answer ≡ status_by reply
  pub written : Appends old new (reply_text c.extent c.settings.rows c.graph bound reply)

-- where no call fails, one query that is asked over the graph of the files has its reply, or there was not enough memory
abbrev pub RepliesToOne : List (List ℕ) → Outside → Status → Type 0
RepliesToOne words o answer = (files : Names) (input : List ℕ) → o.held ≡ Some files → o.left ≡ Some input
    → ¬ (Rose o.files_faults.before o.files_faults.now) → ¬ (Rose o.input_faults.before o.input_faults.now) → ¬ (Rose o.out_faults.before o.out_faults.now)
    → (query : Query) (bound : Bound) (asks : Over words (Some files) (Some input) (λ c text. IsOneQuery c query bound text))
    → IsMemory answer ⊎ WroteReply (full asks.graph (settings_of asks.read)) query bound answer o.taken o.took

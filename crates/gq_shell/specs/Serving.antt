-- How a session over a graph ends, and with what it begins.
use Rattle.std.specs.Prelude.{◌≡◌, ◌⊎◌, ◌≤◌, [], List, true, Result}
use Rattle.std.specs.Io.KnownBytes.{Keeps}
use Rattle.gq_base.specs.Plain.{Graph}
use Rattle.gq_base.specs.declared.memory.Memory.TheVariants.{Exhausted}
use Rattle.gq_execute.specs.declared.settings.Settings.{Settings}
use Rattle.gq_pool.specs.Pool.{spare_of}
use Rattle.gq_reply.specs.Replies.{IsTurn}
use Rattle.gq_reply.specs.declared.replier.Workspace.{Workspace}
use Rattle.gq_session.specs.Sessions.{IsStill, Session, Span}
use Rattle.gq_session.specs.Whole as session
use Rattle.gq_session.specs.declared.answering.Tone.{Tone}
use Rattle.gq_session.specs.declared.run.Stop.{Stop}
use Rattle.gq_shell.specs.Claim.{full, long, most}
use Rattle.gq_shell.specs.Statuses.{status_of}
use Rattle.gq_shell.specs.declared.status.Status.{Status}
use Rattle.gq_shell.specs.declared.status.Status.TheVariants as status
use Rattle.gq_tokens.specs.Parameters.{are_params}
use Rattle.gq_tokens.specs.declared.params.Param.{Param}

-- a session can go on with this workspace: a pipeline has room in its pool, and its parameters are few and distinct
abbrev pub IsReady : Workspace → Type 0
IsReady w = (112 ≤ spare_of w.pool) × (are_params w.params ≡ true)

-- nothing was written, and no write failed
abbrev pub IsUntouched : Span → Type 0
IsUntouched out = Keeps out.old out.new × IsStill out

-- how a session over a graph ended
pub record IsServed (graph : Graph) (settings : Settings) (input out : Span) (answer : Status) : Type 0 where
  pub result : Result Tone Stop
  pub is : answer ≡ status_of result
  pub behind : List Param
  pub read : Session (IsTurn (full graph settings)) [] behind long most input out result
  pub whole : session.Whole (IsTurn (full graph settings)) [] long most input out result

-- there was not enough memory to begin, or a session was had
abbrev pub Served : Graph → Settings → Span → Span → Status → Type 0
Served graph settings input out answer =
    ((answer ≡ status.Memory Exhausted) × (input.new ≡ input.old) × IsStill input × IsUntouched out)
    ⊎ IsServed graph settings input out answer

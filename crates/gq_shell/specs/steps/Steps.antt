-- How a part of a run ends, for the contracts of its helpers.
use Rattle.std.specs.Prelude.{◌≡◌, ◌⊎◌, ℕ, ◌-◌, List, [], get_or, Result, Ok, Err}
use Rattle.std.specs.Io.KnownBytes.{Appends}
use Rattle.gq_base.specs.declared.memory.Memory.TheVariants.{Exhausted}
use Rattle.gq_execute.specs.declared.settings.Settings.{Settings}
use Rattle.gq_io.specs.Causes.{HasCause, Rose}
use Rattle.gq_io.specs.Outside.{AppendsFront}
use Rattle.gq_io.specs.declared.Failed.{Failed}
use Rattle.gq_loader.specs.declared.refusal.LoadRefusal.{LoadRefusal}
use Rattle.gq_loader.specs.declared.refusal.LoadRefusal.TheVariants as load
use Rattle.gq_reply.specs.Replies.{Context}
use Rattle.gq_sample.specs.Questions.{questions}
use Rattle.gq_session.specs.Replies.{Answered, Wrote, WroteFront}
use Rattle.gq_session.specs.Sessions.{IsStill, Span}
use Rattle.gq_session.specs.declared.answering.Tone.{Tone}
use Rattle.gq_shell.specs.Claim.{short}
use Rattle.gq_shell.specs.LoadLines.{load_line}
use Rattle.gq_shell.specs.Questions.{IsNumbered}
use Rattle.gq_shell.specs.Serving.{IsUntouched}
use Rattle.gq_shell.specs.Statuses.{status_of}
use Rattle.gq_shell.specs.declared.status.Status.{Status}
use Rattle.gq_shell.specs.declared.status.Status.TheVariants as status
use Rattle.gq_tokens.specs.declared.params.Param.{Param}

-- the status of a run that ended with a line
abbrev pub told : Result (Unit {0}) Failed → Status → Status
told (Ok _) s = s
told (Err _) s = status.WriteFault

-- a line was written and this is the status, or a front of it was and the sink failed
abbrev pub Told : List ℕ → Status → Span → Status → Type 0
Told text s out answer =
    ((answer ≡ s) × Appends out.old out.new text × IsStill out)
    ⊎ ((answer ≡ status.WriteFault) × AppendsFront out.old out.new text × Rose out.before out.now)

-- what becomes of a load that gave no graph: the line of its refusal is written, or nothing after a
-- fault and for want of memory
abbrev pub EndsLoad : LoadRefusal → Span → Status → Type 0
EndsLoad (load.ReadFault name) out answer = IsUntouched out × (answer ≡ status.ReadFault)
EndsLoad load.Memory out answer = IsUntouched out × (answer ≡ status.Memory Exhausted)
EndsLoad e out answer = Told (load_line e) status.NotLoaded out answer

-- the question of a number from 1 to 6
abbrev pub question_of : ℕ → List ℕ
question_of number = get_or questions (number - 1) []

-- the questions were answered, or a front of their answers was written and the sink failed
abbrev pub Asked : Context → Span → Result Tone Failed → Type 0
Asked c out (Ok t) = ((behind : List Param) × Wrote (IsNumbered c) [] behind questions t out.old out.new) × IsStill out
Asked c out (Err failed) = WroteFront (IsNumbered c) [] questions out.old out.new × Rose out.before out.now

-- there was not enough memory for the sample graph, or it was asked the questions
abbrev pub Quizzed : ℕ → Settings → Span → Status → Type 0
Quizzed size settings out answer =
    ((answer ≡ status.Memory Exhausted) × IsUntouched out)
    ⊎ ((t : Tone) × (behind : List Param) × (answer ≡ status_of (Ok t))
    × Wrote (IsNumbered (short size settings)) [] behind questions t out.old out.new × IsStill out)
    ⊎ ((answer ≡ status.WriteFault) × WroteFront (IsNumbered (short size settings)) [] questions out.old out.new
    × Rose out.before out.now)

-- a question was answered, or a front of its answer was written and the sink failed
pub record AskedOne (c : Context) (number : ℕ) (before after : List Param) (out : Span) (result : Result Tone Failed) : Type 0 where
  pub bytes : Answered (IsNumbered c before (question_of number)) after out.old out.new result
  pub cause : HasCause out.before out.now result

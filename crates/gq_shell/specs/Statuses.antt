-- The exit status of each way in which a run ends, want of memory, and how a run ends whose session ended so (this project's
-- profile).
use Rattle.std.specs.Prelude.{ℕ, Result, Ok, Err}
use Rattle.gq_session.specs.declared.answering.Tone.{Tone}
use Rattle.gq_session.specs.declared.answering.Tone.TheVariants as tone
use Rattle.gq_session.specs.declared.run.Stop.{Stop}
use Rattle.gq_session.specs.declared.run.Stop.TheVariants as stop
use Rattle.gq_shell.specs.declared.status.Status.{Status}
use Rattle.gq_shell.specs.declared.status.Status.TheVariants as status

-- the exit status of the program
abbrev pub exit_status : Status → ℕ
exit_status status.Ended = 0
exit_status status.Refused = 1
exit_status status.Usage = 2
exit_status status.NotLoaded = 3
exit_status status.ReadFault = 4
exit_status status.WriteFault = 5
exit_status (status.Memory why) = 6
exit_status status.TooLong = 7

-- want of memory, whatever its cause
abbrev pub IsMemory : Status → Type 0
IsMemory (status.Memory why) = Unit {0}
IsMemory s = ⊥

-- the status of a run whose session ended so: by the worst tone of its replies, or by what stopped it
abbrev pub status_of : Result Tone Stop → Status
status_of (Ok tone.Good) = status.Ended
status_of (Ok tone.Refused) = status.Refused
status_of (Ok (tone.Memory why)) = status.Memory why
status_of (Err stop.Read) = status.ReadFault
status_of (Err stop.Write) = status.WriteFault
status_of (Err stop.TooLong) = status.TooLong

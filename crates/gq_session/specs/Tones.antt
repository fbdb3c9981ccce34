-- The worse of two replies, and want of memory.
use Rattle.gq_session.specs.declared.answering.Tone.{Tone}
use Rattle.gq_session.specs.declared.answering.Tone.TheVariants as tone

-- the worse of two; of two wants of memory the first
abbrev pub worse : Tone → Tone → Tone
worse (tone.Memory why) b = tone.Memory why
worse tone.Refused (tone.Memory why) = tone.Memory why
worse tone.Refused tone.Refused = tone.Refused
worse tone.Refused tone.Good = tone.Refused
worse tone.Good b = b

-- the line of want of memory, whatever its cause
abbrev pub IsMemory : Tone → Type 0
IsMemory (tone.Memory why) = Unit {0}
IsMemory t = ⊥

-- The tone of each refusal of the binder (this project's profile).
use Rattle.gq_bound.specs.declared.refusal.BindRefusal.{BindRefusal}
use Rattle.gq_bound.specs.declared.refusal.BindRefusal.TheVariants as refusal
use Rattle.gq_session.specs.declared.answering.Tone.{Tone}
use Rattle.gq_session.specs.declared.answering.Tone.TheVariants as tone

-- the tone of a reply by this line
abbrev pub bind_tone : BindRefusal → Tone
bind_tone (refusal.Memory why) = tone.Memory why
bind_tone why = tone.Refused

-- What the refusals of the crates below are for an answer.
use Rattle.gq_join.specs.declared.build.JoinRefusal.{JoinRefusal}
use Rattle.gq_join.specs.declared.build.JoinRefusal.TheVariants as join
use Rattle.gq_kept.specs.declared.refusal.RowRefusal.{RowRefusal}
use Rattle.gq_kept.specs.declared.refusal.RowRefusal.TheVariants as rows
use Rattle.gq_execute.specs.declared.refusal.AnswerRefusal.{AnswerRefusal}
use Rattle.gq_execute.specs.declared.refusal.AnswerRefusal.TheVariants as refusal

abbrev pub of_join : JoinRefusal → AnswerRefusal
of_join (join.TooManyRows limit) = refusal.TooManyRows limit
of_join (join.Memory why) = refusal.Memory why

abbrev pub of_rows : RowRefusal → AnswerRefusal
of_rows (rows.Fault fault) = refusal.Fault fault
of_rows (rows.TooManyRows limit) = refusal.TooManyRows limit
of_rows (rows.Memory why) = refusal.Memory why

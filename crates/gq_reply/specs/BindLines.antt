-- The line of each refusal of the binder (this project's profile).
use Rattle.std.specs.Prelude.{ℕ, List, [], ◌++◌, codes, decimal}
use Rattle.gq_bound.specs.RefusalNames.{name_of}
use Rattle.gq_bound.specs.declared.refusal.BindRefusal.{BindRefusal}
use Rattle.gq_bound.specs.declared.refusal.BindRefusal.TheVariants as refusal
use Rattle.gq_render.specs.Texts.{name_text}
use Rattle.gq_reply.specs.ErrorLines.{error_line}

-- what a refusal is about, behind a space: a name, or the number of an item
abbrev pub subject_text : BindRefusal → List ℕ
subject_text (refusal.UnknownVariable name) = codes " " ++ name_text name
subject_text (refusal.VariableConflict name) = codes " " ++ name_text name
subject_text (refusal.RelationshipRepeated name) = codes " " ++ name_text name
subject_text (refusal.ColumnRepeated name) = codes " " ++ name_text name
subject_text (refusal.OrderOutOfScope item) = codes " " ++ decimal item
subject_text (refusal.AmbiguousOrderName name) = codes " " ++ name_text name
subject_text (refusal.UnknownFunction name) = codes " " ++ name_text name
subject_text (refusal.ArgumentCount name) = codes " " ++ name_text name
subject_text why = []

-- the line that names a refusal, and what it is about
abbrev pub bind_line : BindRefusal → List ℕ
bind_line why = error_line (name_of why ++ subject_text why)

use Rattle.std.proofs.Common.{ap, sym, subst, ◌∙◌, Some, Ok, Err, w64}
use Rattle.std.specs.Prelude.{ℤ, FitsSigned}
use Rattle.std.proofs.lemmas.Int.{to_z-of_z}
use Rattle.gq_base.proofs.Texts.{text_of-same}
use Rattle.gq_fields.proofs.FieldLaws.{int_of-none, int_of-parsed}
use Rattle.gq_fields.proofs.field.read_long.Goals as goal

pub returns-in_default : goal.returns-in_default
returns-in_default c = sym (int_of-none _ c.in_default.ensures)

pub returns-in-Ok-parse : goal.returns-in-Ok-parse
returns-in-Ok-parse c =
    let same = text_of-same _ _ c.in-Ok.ensures in
    let h = rw same at c.in-Ok-parse.ensures.value.0 in
    let P : ℤ → Type 0 = λ z. FitsSigned w64 z in
    ap Some (to_z-of_z w64 c.in-Ok-parse.value (subst P (sym h.1) h.0.1)) ∙ int_of-parsed {E = ℤ} c.args.field.now (Ok c.in-Ok-parse.value) (sym c.starts_with.ensures.value ∙ c.if-starts_with.false) h

pub returns-in-Err : goal.returns-in-Err
returns-in-Err c =
    let same = text_of-same _ _ c.in-Ok.ensures in
    let h = rw same at c.in-Err.ensures.value.0 in
    int_of-parsed c.args.field.now (Err c.in-Err.field-0) (sym c.starts_with.ensures.value ∙ c.if-starts_with.false) h

use Rattle.std.proofs.Common.{◌∙◌, ap, length, sym}
use Rattle.std.proofs.lemmas.List.{length-map}
use Rattle.gq_store.specs.Columns.{Encoded, cell_of, decoded}
use Rattle.gq_store.proofs.property.Property.len.Goals as goal

pub returns : goal.returns
returns c =
    let p = c.self.inside in
    c.len.ensures ∙ sym (length-map p.column (λ z. cell_of p.kind p.dict z)) ∙ ap (λ (e : Encoded). length (decoded e)) c.self.view_is

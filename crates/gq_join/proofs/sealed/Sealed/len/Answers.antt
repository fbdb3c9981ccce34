use Rattle.std.proofs.Common.{length, sym, ap, ◌∙◌}
use Rattle.gq_join.specs.Kept.{Held}
use Rattle.gq_join.proofs.Cells.{length-rows}
use Rattle.gq_join.proofs.sealed.Sealed.len.Goals as goal

pub returns : goal.returns
returns c =
    let s = c.self.inside in
    sym (length-rows s.count (length s.nodes) (length s.rels) s.node_cells.items s.rel_cells.items) ∙ ap (λ (h : Held). length h.rows) c.self.view_is

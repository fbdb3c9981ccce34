use Rattle.std.proofs.Common.{sym, ap, subst}
use Rattle.gq_masks.specs.Masks.{AreReached, IsPart, RowsReached, next_end}
use Rattle.gq_masks.proofs.Marking.{reached_more}
use Rattle.gq_masks.proofs.mask.Mask.tell.Goals as goal

pub returns-then-mark_piece-clause-reached : goal.returns-then-mark_piece-clause-reached
returns-then-mark_piece-clause-reached c = λ all before part.
    reached_more c.self.inside.graph.now c.self.inside.table c.self.inside.direction c.self.inside.told c.next_end-end.result c.self.inside.marked.pieces.items c.mark_piece.new.marked.pieces.items all c.args.chosen.now
    (subst (λ (m : RowsReached). AreReached m all) (sym c.self.view_is) before)
    (subst (λ n. IsPart all n c.next_end-end.result c.args.chosen.now) (sym (ap (λ (m : RowsReached). m.told) c.self.view_is))
    (subst (λ e. IsPart all c.args.self.now.told e c.args.chosen.now) (sym c.next_end-end.ensures.end) part))
    (c.mark_piece.ensures.own c.if-mark_piece.true) c.mark_piece.ensures.others

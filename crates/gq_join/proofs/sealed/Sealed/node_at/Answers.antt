use Rattle.std.proofs.Common.{◌<◌, length, sym, ◌∙◌, subst}
use Rattle.gq_join.specs.Kept.{Held}
use Rattle.gq_join.proofs.Narrowing.{node_fits, place_is}
use Rattle.gq_join.proofs.sealed.Sealed.node_at.Goals as goal

pub cell-requires-clause-inside : goal.cell-requires-clause-inside
cell-requires-clause-inside c =
    rw (c.len.ensures, c.as_slice.ensures.value) (node_fits c.self.inside c.self.invariant c.args.self.now c.self.view_is c.args.row c.requires.row)

pub returns : goal.returns
returns c =
    let s = c.self.inside in
    let low : c.args.place < length s.nodes = subst (λ (h : Held). c.args.place < length h.nodes) (sym c.self.view_is) c.requires.place in
    c.cell.ensures
    ∙ rw (c.len.ensures, c.as_slice.ensures.value) (sym (place_is s c.self.invariant c.args.self.now c.self.view_is c.args.place c.args.row low))

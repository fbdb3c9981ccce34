use Rattle.std.proofs.Common.{◌≡◌, ◌∙◌, subst, sym}
use Rattle.std.specs.Prelude.{slice_get, slice_index}
use Rattle.gq_group.specs.Edges.{way}
use Rattle.gq_group.specs.declared.edge.EdgeAt.TheVariants as edge
use Rattle.gq_store.specs.Neighbours.{numbers}
use Rattle.gq_store.specs.Places.{number_at}
use Rattle.gq_listed.specs.Finding.{IsFound, IsPlaced}
use Rattle.gq_listed.specs.Leads.{HasRelTable, here_at}
use Rattle.gq_listed.proofs.Leading.{edge_loads, placed}
use Rattle.gq_listed.proofs.leads.Spot.find_edge.Goals as goal

pub returns-in-Listed : goal.returns-in-Listed
returns-in-Listed c =
    let s = c.args.self.now in
    let g = s.graph.now in
    let r = c.in-Rel.range in
    let k = c.in-Listed in
    let has = subst (HasRelTable s.typed.now) c.in-Rel.is c.requires.table in
    let place = c.edge_place-place.result in
    let number = subst (λ d. number_at g r.table place ≡ slice_get (numbers g r.table d k.row) k.position) c.direction.ensures c.edge_place-place.ensures.number in
    let placing : IsPlaced g r (here_at s) place = record {
      number = slice_index (numbers g r.table (way k.forward) k.row) k.position;
      at = placed g r.table place (way k.forward) k.row k.position number c.edge_place-place.ensures.there;
      is = edge_loads g s.typed.now s.chunk.now s.positions.now r (edge.Listed k.forward k.row k.position) has (sym k.is ∙ c.edge_at.ensures);
    } in
    subst (λ w. IsFound g w (here_at s) c.found_place.result) (sym c.in-Rel.is) (c.found_place.ensures g (here_at s) placing)

pub returns-in-Single : goal.returns-in-Single
returns-in-Single c =
    let s = c.args.self.now in
    let g = s.graph.now in
    let r = c.in-Rel.range in
    let k = c.in-Single in
    let has = subst (HasRelTable s.typed.now) c.in-Rel.is c.requires.table in
    let place = c.edge_place-place-in-Single.result in
    let number = subst (λ d. number_at g r.table place ≡ slice_get (numbers g r.table d k.row) 0) c.direction-in-Single.ensures c.edge_place-place-in-Single.ensures.number in
    let placing : IsPlaced g r (here_at s) place = record {
      number = slice_index (numbers g r.table (way k.forward) k.row) 0;
      at = placed g r.table place (way k.forward) k.row 0 number c.edge_place-place-in-Single.ensures.there;
      is = edge_loads g s.typed.now s.chunk.now s.positions.now r (edge.Single k.forward k.row) has (sym k.is ∙ c.edge_at.ensures);
    } in
    subst (λ w. IsFound g w (here_at s) c.found_place-in-Single.result) (sym c.in-Rel.is) (c.found_place-in-Single.ensures g (here_at s) placing)

pub returns-in-Number : goal.returns-in-Number
returns-in-Number c =
    let s = c.args.self.now in
    let r = c.in-Rel.range in
    let k = c.in-Number in
    let has = subst (HasRelTable s.typed.now) c.in-Rel.is c.requires.table in
    subst (λ w. IsFound s.graph.now w (here_at s) c.found_number.result) (sym c.in-Rel.is)
    (c.found_number.ensures (here_at s) (edge_loads s.graph.now s.typed.now s.chunk.now s.positions.now r (edge.Number k.number) has (sym k.is ∙ c.edge_at.ensures)))

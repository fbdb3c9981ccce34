use Rattle.std.proofs.Common.{◌≡◌, ◌≢◌, ◌<◌, ℕ, ℤ, List, arith, length, map, set, ap, ◌∙◌, sym, Vec, Global}
use Rattle.std.proofs.lemmas.List.{length-map, get_or-set_other}
use Rattle.gq_bits.specs.declared.TheConstants.{VECTOR}
use Rattle.gq_pool.specs.Pool.{Pool, cells_of}
use Rattle.std.specs.Vec.{with_items}
use Rattle.gq_pool.proofs.Lanes.{put_back, put_other, other_lane, carried}
use Rattle.gq_pool.proofs.VectorPool.copy_map.Goals as goal

pub returns-clause-copied : goal.returns-clause-copied
returns-clause-copied g c = λ k h.
    let lanes = c.self.inside.lanes.items in
    let i : ℕ = c.to.inside.number in
    let j : ℕ = c.from.inside.number in
    let size = length-map lanes (λ (v : Vec ℤ Global). v.items) in
    let all = ap (λ (p : Pool). length p.cells) c.self.view_is in
    let to_in : i < length lanes = omega (arith, c.requires.to_out.there, c.to.view_is, all, size) in
    let from_in : j < length lanes = omega (arith, c.requires.from_out.there, c.from.view_is, all, size) in
    let ne : j ≢ i = λ e. c.requires.different (sym c.from.view_is ∙ e ∙ c.to.view_is) in
    let w : List ℤ = c.map_cells.new.to in
    let read : cells_of c.args.self.now c.args.from.now ≡ c.as_slice.result.now =
    rw (← c.self.view_is, ← c.from.view_is) (other_lane lanes i j c.replace-target.new.dest c.index.result.now ne from_in c.index.ensures) ∙ sym c.as_slice.ensures.value in
    let size_to : length w ≡ c.replace-target.result.len = c.map_cells.auto.to ∙ c.as_mut_slice.ensures.len in
    let lane_is = c.index.ensures ∙ get_or-set_other lanes i j c.replace-target.new.dest c.index.result.now ne in
    let size_from : length c.as_slice.result.now ≡ VECTOR = c.as_slice.ensures.len ∙ ap (λ (v : Vec ℤ Global). v.len) lane_is ∙ c.self.invariant.whole j c.index.result.now from_in in
    carried (λ a b. g.F.Fn.post c.args.f (a, tt) b) c.args.self.now.cells (map (λ (v : Vec ℤ Global). v.items) (set (set lanes i c.replace-target.new.dest) i (with_items c.replace-target.result w))) c.args.from.now c.args.to.now k c.as_slice.result.now w read
    (rw (← c.to.view_is) (put_back lanes i c.replace-target.new.dest c.replace-target.result w to_in size_to))
    (c.map_cells.ensures k (omega (arith, size_from, h)))

pub returns-clause-others : goal.returns-clause-others
returns-clause-others g c = λ s ne.
    rw (← c.self.view_is) (put_other c.self.inside.lanes.items c.to.inside.number s _ _ (λ e. ne (e ∙ c.to.view_is)))

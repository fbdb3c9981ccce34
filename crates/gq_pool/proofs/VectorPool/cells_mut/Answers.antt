use Rattle.std.proofs.Common.{◌<◌, ℤ, List, refl, arith, length, ap, ◌∙◌, sym, Vec, Global, Bool, vec_len}
use Rattle.std.proofs.lemmas.List.{length-map}
use Rattle.gq_pool.specs.Pool.{Pool}
use Rattle.gq_pool.proofs.Lanes.{lane_lent, lane_is}
use Rattle.gq_pool.proofs.VectorPool.cells_mut.Goals as goal

pub returns : goal.returns
returns c =
    let lanes = c.self.inside.lanes.items in
    let number = c.slot.inside.number in
    let lane = c.index_mut-lane.result.now in
    let inside : number < length lanes =
    omega (arith, c.requires.there, c.slot.view_is, ap (λ (p : Pool). length p.cells) c.self.view_is, length-map lanes (λ (v : Vec ℤ Global). v.items)) in (
      (refl, λ w. rw (← c.self.view_is, ← c.slot.view_is) (ap (λ l. pool_of l c.self.inside.out.items) (lane_lent lanes number lane w inside c.index_mut-lane.ensures.value))),
      record {
        writes_back = tt;
        value = rw (← c.self.view_is, ← c.slot.view_is) (c.as_mut_slice.ensures.value ∙ sym (lane_is lanes number lane inside c.index_mut-lane.ensures.value));
        whole = c.as_mut_slice.ensures.len ∙ ap vec_len c.index_mut-lane.ensures.value ∙ c.self.invariant.whole number lane inside;
      },
    )
  where
    pool_of : List (List ℤ) → List Bool → Pool
    pool_of cells out = record { cells = cells; out = out }

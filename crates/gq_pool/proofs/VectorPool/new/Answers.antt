use Rattle.std.proofs.Common.{◌≡◌, ℤ, arith, length, ◌∙◌, Vec, Global}
use Rattle.std.proofs.lemmas.List.{length-map}
use Rattle.gq_pool.proofs.Lanes.{all_zero}
use Rattle.gq_pool.proofs.VectorPool.new.Goals as goal

pub returns : goal.returns
returns c =
    let count : length c.loop.lanes.items ≡ c.args.slots = omega (arith, c.loop.invariant.count, c.loop-test.false, c.loop.lanes.ok.0) in
    record {
      count = length-map c.loop.lanes.items (λ (v : Vec ℤ Global). v.items) ∙ count;
      free = c.in_ok-out.ensures.items_if_clones_equal (λ y e. e);
      zero = λ slot h. all_zero c.loop.lanes.items slot c.loop.invariant.zero (omega (arith, count));
    }

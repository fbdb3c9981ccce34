use Rattle.std.proofs.Common.{◌∙◌, arith}
use Rattle.gq_io.proofs.Bounded.{read_more}
use Rattle.gq_io.proofs.reading.read_chosen.Goals as goal

pub loop-filled-preserved : goal.loop-filled-preserved
loop-filled-preserved g c = record {
  going = read_more _ _ _ _ _ _ _ _ _ _ _ c.loop-filled.invariant.going (rw c.deref_mut.ensures.value c.in_ok-make_room.ensures.kept) (omega (arith, c.in_ok-make_room.ensures)) (omega (arith, c.in_ok-make_room.ensures)) c.deref_mut.ensures.len c.read.auto.into c.in_ok-count.ensures.bound.0 c.in_ok-count.ensures.bytes.0;
  kept = c.in_ok-count.ensures.cause.kept ∙ c.loop-filled.invariant.kept;
  misses = omega (arith, c.in_ok-count.ensures.misses);
  held = cc;
}

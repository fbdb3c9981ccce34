use Rattle.std.proofs.Common.{◌≡◌, ◌≤◌, length, take}
use Rattle.gq_hops.proofs.used.put_front.Given as goal

abbrev pub invariant-loop-place : goal.invariant-loop-place
invariant-loop-place l = record {
  many : length l.into ≡ length l.fn.into;
  most : l.place ≤ l.place-end;
  front : take l.place l.into ≡ take l.place l.from;
}

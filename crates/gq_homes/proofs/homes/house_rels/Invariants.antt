use Rattle.std.proofs.Common.{◌≡◌, length, take}
use Rattle.gq_group.specs.declared.home.RelHome.TheVariants.{Kept}
use Rattle.gq_homes.specs.steps.Housing.{set_numbered}
use Rattle.gq_homes.proofs.homes.house_rels.Given as goal

abbrev pub invariant-loop-place : goal.invariant-loop-place
invariant-loop-place l = record {
  many : length l.homes ≡ length l.fn.homes;
  written : l.homes ≡ set_numbered (Kept l.group) 0 (take l.place l.build.rels) l.fn.homes;
}

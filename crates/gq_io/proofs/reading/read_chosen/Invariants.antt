use Rattle.std.proofs.Common.{◌≡◌, ◌+◌, ◌-◌, ◌≤◌}
use Rattle.gq_io.proofs.Bounded.{Going}
use Rattle.gq_io.proofs.reading.read_chosen.Given as goal

abbrev pub invariant-loop-filled : goal.invariant-loop-filled
invariant-loop-filled g l = record {
  going : Going l.most (g.F.Files.left l.initial.files) (g.F.Files.left l.files) l.bytes.items l.filled;
  kept : g.F.Files.faults l.files ≡ g.F.Files.faults l.initial.files;
  misses : g.F.Files.misses l.initial.files ≤ g.F.Files.misses l.files;
  held : g.F.Files.held l.files ≡ g.F.Files.held l.initial.files;
}

abbrev pub decreases-loop-filled : goal.decreases-loop-filled
decreases-loop-filled g l = l.most + 1 - l.filled

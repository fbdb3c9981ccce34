use Rattle.std.proofs.Common.{◌≡◌, ◌+◌, ◌≤◌, length}
use Rattle.std.specs.Str.Lines.{lines}
use Rattle.gq_manifest.specs.Manifests.{manifest_of, take_lines}
use Rattle.gq_manifest.proofs.manifest.read_manifest.Given as goal

abbrev pub invariant-lines : goal.invariant-lines
invariant-lines l = record {
  counted : l.number + length l.rest ≤ length l.text;
  taken : manifest_of l.text ≡ take_lines (l.number + 1) l.manifest (lines l.rest);
}

abbrev pub decreases-lines : goal.decreases-lines
decreases-lines l = length l.rest

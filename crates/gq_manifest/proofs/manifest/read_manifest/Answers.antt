use Rattle.std.proofs.Common.{arith, ◌≡◌, length, ap, ◌+◌, ◌∙◌}
use Rattle.std.proofs.lemmas.Bool.Decides.{nat_tests}
use Rattle.std.proofs.lemmas.List.{nil_from_length}
use Rattle.std.specs.Str.Lines.{lines}
use Rattle.gq_manifest.specs.Manifests.{take_lines}
use Rattle.gq_manifest.proofs.Whole.{manifest_whole}
use Rattle.gq_manifest.proofs.manifest.read_manifest.Goals as goal

pub returns-clause-whole : goal.returns-clause-whole
returns-clause-whole c =
    let none : length c.lines.rest.now ≡ 0 =
    grind (arith, nat_tests, c.lines-test.false, c.is_empty.ensures) in
    let last = ap (λ rest. take_lines (c.lines.number + 1) c.lines.manifest (lines rest))
    (nil_from_length c.lines.rest.now none) in
    manifest_whole c.args.text.now c.lines.manifest (c.lines.invariant.taken ∙ last)

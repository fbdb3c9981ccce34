use Rattle.std.proofs.Common.{◌++◌, ◌∙◌, codes}
use Rattle.gq_io.proofs.Moved.{Appends-both}
use Rattle.gq_loader.specs.Refusals.{name_of}
use Rattle.gq_shell.proofs.Sequence.{broke, writes_then}
use Rattle.gq_shell.specs.LoadLines.{place_line}
use Rattle.gq_shell.proofs.load_line.write_load_line.Goals as goal

pub returns-in_err-write_all-clause-bytes : goal.returns-in_err-write_all-clause-bytes
returns-in_err-write_all-clause-bytes g c =
    let e = c.args.refusal.now in
    broke _ _ _ (codes "load: ") (name_of e ++ place_line e) _ _ _
    c.write_all.ensures.bytes c.in_err-write_all.was c.from_residual.ensures.1

pub returns-in_err-write_all-2-clause-bytes : goal.returns-in_err-write_all-2-clause-bytes
returns-in_err-write_all-2-clause-bytes g c =
    let e = c.args.refusal.now in
    let name = c.as_bytes.ensures.value ∙ c.name.ensures in
    let front = writes_then _ _ _ (codes "load: ") (name_of e) _
    c.in_ok-write_all.ensures.bytes (rw name at c.write_all-2.ensures.bytes) in
    broke _ _ _ (codes "load: " ++ name_of e) (place_line e) _ _ _
    front c.in_err-write_all-2.was c.from_residual-in_err-write_all-2.ensures.1

pub returns-clause-bytes : goal.returns-clause-bytes
returns-clause-bytes g c =
    let e = c.args.refusal.now in
    let name = c.as_bytes.ensures.value ∙ c.name.ensures in
    let front = Appends-both _ _ _ (codes "load: ") (name_of e)
    c.in_ok-write_all.ensures.bytes (rw name at c.in_ok-write_all-2.ensures.bytes) in
    writes_then _ _ _ (codes "load: " ++ name_of e) (place_line e) _ front c.write_place.ensures.bytes

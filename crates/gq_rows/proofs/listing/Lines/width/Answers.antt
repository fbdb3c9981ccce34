use Rattle.std.proofs.Common.{◌≡◌, ◌<◌, [], length, sym, subst}
use Rattle.std.specs.Prelude.{slice_index_or}
use Rattle.std.specs.List.{All}
use Rattle.gq_rows.proofs.CutLines.{lines_width}
use Rattle.gq_rows.proofs.listing.Lines.width.Goals as goal

pub returns-clause-width : goal.returns-clause-width
returns-clause-width c =
    let l = c.self.inside in
    subst (λ v. l.width ≡ length (slice_index_or v c.args.row [])) c.self.view_is
    (sym (lines_width l c.self.invariant c.args.row [] (subst (λ v. c.args.row < length v) (sym c.self.view_is) c.requires)))

pub returns-clause-all : goal.returns-clause-all
returns-clause-all c =
    let l = c.self.inside in
    subst (λ v. All (λ line. length line ≡ l.width) v) c.self.view_is (lines_width l c.self.invariant)

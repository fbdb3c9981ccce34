use Rattle.std.proofs.Common.{subst, sym}
use Rattle.std.specs.Prelude.{slice_get}
use Rattle.gq_cells.specs.Numbers.{number_val}
use Rattle.gq_listed.specs.Finding.{HasNumber}
use Rattle.gq_listed.proofs.Finding.{number_fits, number_means}
use Rattle.gq_listed.proofs.finder.put_column.Goals as goal

pub put-requires : goal.put-requires
put-requires g c =
    let f = c.args.finder.now in
    let a = c.args.column.now in
    let here = g.R.Assigned.assignment c.args.row.now in
    let has = subst (λ x. HasNumber x f.way here c.in-Number.number) (sym c.requires.graph) c.in-Number.ensures in
    record { number = number_fits a.graph c.args.cells.now.sources f.source a.expr f.way c.requires.finder.finds here c.in-Number.number has }

pub returns-in_ok-put-in-Number-clause-puts : goal.returns-in_ok-put-in-Number-clause-puts
returns-in_ok-put-in-Number-clause-puts g c =
    let f = c.args.finder.now in
    let a = c.args.column.now in
    let ss = c.args.cells.now.sources in
    let here = g.R.Assigned.assignment c.args.row.now in
    let has = subst (λ x. HasNumber x f.way here c.in-Number.number) (sym c.requires.graph) c.in-Number.ensures in (
      number_val (slice_get ss f.source) c.in-Number.number,
      number_means a.graph ss f.source a.expr f.way c.requires.finder.finds here c.in-Number.number has,
      c.in_ok-put-in-Number.ensures.values,
    )

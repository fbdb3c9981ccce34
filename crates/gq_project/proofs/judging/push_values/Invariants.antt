use Rattle.std.proofs.Common.{◌≡◌, drop, map}
use Rattle.gq_base.specs.Values.{val}
use Rattle.gq_eval.specs.Asked.{answers}
use Rattle.gq_project.specs.Judged.{values_after}
use Rattle.gq_project.proofs.judging.push_values.Given as goal

abbrev pub invariant-all : goal.invariant-all
invariant-all g l =
    let here = g.R.Assigned.assignment l.row in
    values_after (map val l.values.items) (answers here (drop l.one-index l.all))
    ≡ values_after (map val l.initial.values.items) (answers here l.all)

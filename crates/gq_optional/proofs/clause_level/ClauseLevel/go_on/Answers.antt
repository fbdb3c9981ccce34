use Rattle.std.proofs.Common.{◌∙◌}
use Rattle.gq_outer.specs.Rows.{read}
use Rattle.gq_eval.specs.declared.judging.Verdict.TheVariants as verdict
use Rattle.gq_optional.proofs.Asking.{asks_same, judged_by}
use Rattle.gq_optional.proofs.Pending.{found_left, rows_stay, same_then}
use Rattle.gq_optional.proofs.clause_level.ClauseLevel.go_on.Goals as goal

pub matches-preserved : goal.matches-preserved
matches-preserved c =
    let row = read c.args.before.now in
    let old = c.matches.self in
    let mid = c.next_match.new.self in
    let new = c.place.new.self in
    let i = c.matches.invariant in
    let n = c.in-Some.ensures in
    let p = c.place.ensures in
    record {
      level = p.level;
      rows = rows_stay mid new p.same.clause p.at p.rows n.rows;
      same = same_then _ _ _ (same_then _ _ _ i.same n.same) p.same;
      left = λ g asks.
          i.left g asks
          ∙ found_left g row old mid new c.in-Some.found n.finds n.same.clause p.same.clause p.at p.rows p.next p.row verdict.Dropped
          (c.in-Dropped.ensures ∙ judged_by g (read new.row) new.clause.now c.as_slice.result.now c.as_slice.ensures (asks_same g c.args.self.now.clause.now new.clause.now (p.same.clause ∙ n.same.clause ∙ i.same.clause) asks));
    }

pub returns-in-Pass-clause-goes_on : goal.returns-in-Pass-clause-goes_on
returns-in-Pass-clause-goes_on c g asks =
    let new = c.place.new.self in
    let i = c.matches.invariant in
    let n = c.in-Some.ensures in
    let p = c.place.ensures in
    i.left g asks
    ∙ found_left g (read c.args.before.now) c.matches.self c.next_match.new.self new c.in-Some.found n.finds n.same.clause p.same.clause p.at p.rows p.next p.row verdict.Pass
    (c.in-Pass.ensures ∙ judged_by g (read new.row) new.clause.now c.as_slice.result.now c.as_slice.ensures (asks_same g c.args.self.now.clause.now new.clause.now (p.same.clause ∙ n.same.clause ∙ i.same.clause) asks))

pub returns-in-Fault-clause-goes_on : goal.returns-in-Fault-clause-goes_on
returns-in-Fault-clause-goes_on c g asks =
    let new = c.place.new.self in
    let i = c.matches.invariant in
    let n = c.in-Some.ensures in
    let p = c.place.ensures in
    i.left g asks
    ∙ found_left g (read c.args.before.now) c.matches.self c.next_match.new.self new c.in-Some.found n.finds n.same.clause p.same.clause p.at p.rows p.next p.row (verdict.Fault c.in-Fault.fault)
    (c.in-Fault.ensures ∙ judged_by g (read new.row) new.clause.now c.as_slice.result.now c.as_slice.ensures (asks_same g c.args.self.now.clause.now new.clause.now (p.same.clause ∙ n.same.clause ∙ i.same.clause) asks))

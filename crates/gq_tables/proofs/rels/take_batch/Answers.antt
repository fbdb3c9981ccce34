use Rattle.std.proofs.Common.{◌≡◌, ◌∙◌, [], length, length-append, ap, sym, arith}
use Rattle.std.proofs.lemmas.Result.{err_from_is_err_and}
use Rattle.gq_base.proofs.ListLaws.{not_not, not_yet}
use Rattle.gq_tables.proofs.Answering.{passed_on}
use Rattle.gq_tables.proofs.BatchSteps.{records-drop}
use Rattle.gq_tables.proofs.RelSteps.{not_single, one_rel, source_in, stopped, target_in}
use Rattle.gq_tables.proofs.rels.take_batch.Goals as goal

pub take-requires-clause-source_in : goal.take-requires-clause-source_in
take-requires-clause-source_in c =
    let next = records-drop c.args.batch.now c.loop-pending.pending-index c.pending-item.result []
    c.loop-pending-test.true c.pending-item.is in
    let size : c.len.result ≡ length c.loop-pending.rels = c.len.ensures in
    source_in _ _ _ _ _ _ _ _ _ _ _ (c.loop-pending.invariant.taken []) _ _ next c.in_ok-rel.rel
    (rw size at c.in_ok-rel.ensures)

pub take-requires-clause-target_in : goal.take-requires-clause-target_in
take-requires-clause-target_in c =
    let next = records-drop c.args.batch.now c.loop-pending.pending-index c.pending-item.result []
    c.loop-pending-test.true c.pending-item.is in
    let size : c.len.result ≡ length c.loop-pending.rels = c.len.ensures in
    target_in _ _ _ _ _ _ _ _ _ _ _ (c.loop-pending.invariant.taken []) _ _ next c.in_ok-rel.rel
    (rw size at c.in_ok-rel.ensures)

pub returns-in_err-rel-clause-refused : goal.returns-in_err-rel-clause-refused
returns-in_err-rel-clause-refused c =
    let p = err_from_is_err_and c.from_residual.result c.from_residual.ensures.1 in
    let next = records-drop c.args.batch.now c.loop-pending.pending-index c.pending-item.result in
    let size : c.len.result ≡ length c.loop-pending.rels = c.len.ensures in
    let part = rw size at c.in_err-rel.ensures in
    rw (p.1, p.2) (λ left. passed_on _ _ c.in_err-rel.field-0.0 part
    (stopped _ _ _ _ _ _ _ _ _ _ _ (c.loop-pending.invariant.taken left) _ _
    (next left c.loop-pending-test.true c.pending-item.is)))

pub returns-then-not-take-clause-refused : goal.returns-then-not-take-clause-refused
returns-then-not-take-clause-refused c =
    let next = records-drop c.args.batch.now c.loop-pending.pending-index c.pending-item.result in
    let size : c.len.result ≡ length c.loop-pending.rels = c.len.ensures in
    let number : c.len-then-not-take.result ≡ length c.loop-pending.rels =
    c.len-then-not-take.ensures in
    let barred = not_not _ (sym c.if-not-take.true ∙ c.take.ensures.free) in
    λ left. rw number (not_single _ _ _ _ _ _ _ _ _ _ _ (c.loop-pending.invariant.taken left) _ _
    (next left c.loop-pending-test.true c.pending-item.is)
    c.in_ok-rel.rel (rw size at c.in_ok-rel.ensures) barred)

pub loop-pending-preserved : goal.loop-pending-preserved
loop-pending-preserved c =
    let next = records-drop c.args.batch.now c.loop-pending.pending-index c.pending-item.result in
    let size : c.len.result ≡ length c.loop-pending.rels = c.len.ensures in
    let free = not_yet _ (sym c.if-not-take.false ∙ c.take.ensures.free) in
    let sources = rw c.if-not-take.false at c.take.ensures.sources in
    let targets = rw c.if-not-take.false at c.take.ensures.targets in
    record {
      empty = c.in_ok-room.ensures.room;
      size = omega (
        arith,
        c.loop-pending.invariant.size,
        simp length-append at
            (ap length c.in_ok-room.ensures.taken),
      );
      taken = λ left. rw (c.in_ok-room.ensures.taken, sources, targets)
          (one_rel _ _ _ _ _ _ _ _ _ _ _ (c.loop-pending.invariant.taken left) _ _
          (next left c.loop-pending-test.true c.pending-item.is)
          c.in_ok-rel.rel (rw size at c.in_ok-rel.ensures) free);
    }

pub returns-clause-marked : goal.returns-clause-marked
returns-clause-marked c =
    let gathered = c.loop-pending.invariant.taken [] in
    record { sources = gathered.sources_told; targets = gathered.targets_told }

pub returns-clause-few : goal.returns-clause-few
returns-clause-few c = (c.loop-pending.invariant.taken []).few

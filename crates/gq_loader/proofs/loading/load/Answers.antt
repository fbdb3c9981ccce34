use Rattle.std.proofs.Common.{arith}
use Rattle.std.proofs.lemmas.Result.{err_from_is_err_and}
use Rattle.gq_loader.specs.Limits.{most_bytes}
use Rattle.gq_loader.proofs.Effecting.{reads_less, stops_fault, stops_few, then_answers, then_reads}
use Rattle.gq_loader.proofs.Keeping.{unread_next}
use Rattle.gq_loader.proofs.Naming.{files_first, files_next, manifest_named, table_named}
use Rattle.gq_loader.proofs.Rest.{meant_first, meant_next, meant_stops, numbers_stay}
use Rattle.gq_loader.proofs.loading.load.Goals as goal

pub loop-table-init : goal.loop-table-init
loop-table-init g c =
    let b = c.in_ok-loading.ensures in
    let items = c.as_slice-table-items.ensures in
    record {
      going = b.fresh c.args.limits.now;
      numbers = rw items b.numbers;
      valid = b.valid;
      unread = rw items (λ k d from within. b.unread k d within);
      meant = rw items (meant_first c.args.manifest.now c.args.limits.now
          (g.F.Files.held c.args.files.now) c.in_ok-loading.field-0 b.answers);
      files = files_first (g.F.Files.held c.args.files.now) c.args.manifest.now c.in_ok-loading.field-0 b.answers;
      reads = reads_less _ (most_bytes c.args.limits.now) _ _ _ (omega arith)
          (then_answers _ _ _ _ _ b.reads (λ n e. cc) (λ n e. cc) (λ n e. cc) (λ n e. cc));
    }

pub returns-in_err-loading-clause-few : goal.returns-in_err-loading-clause-few
returns-in_err-loading-clause-few g c =
    let p = err_from_is_err_and c.from_residual.result c.from_residual.ensures.1 in
    let reads = reads_less _ (most_bytes c.args.limits.now) _ _ _ (omega arith) c.begin.ensures.reads in
    stops_few _ _ _ c.begin.result c.from_residual.result c.in_err-loading.field-0.0
    c.in_err-loading.was (cc (p.1, p.2)) reads.few

pub returns-in_err-loading-clause-named : goal.returns-in_err-loading-clause-named
returns-in_err-loading-clause-named g c =
    let p = err_from_is_err_and c.from_residual.result c.from_residual.ensures.1 in
    manifest_named _ _ c.begin.result c.from_residual.result c.in_err-loading.field-0.0
    c.in_err-loading.was (cc (p.1, p.2)) c.begin.ensures.named

pub returns-in_err-take_table-clause-named : goal.returns-in_err-take_table-clause-named
returns-in_err-take_table-clause-named g c =
    let i = c.loop-table.invariant in
    let p = err_from_is_err_and c.from_residual-in_err-take_table.result
    c.from_residual-in_err-take_table.ensures.1 in
    table_named _ _ c.loop-table.loading.graph.catalog c.take_table.result c.from_residual-in_err-take_table.result
    c.in_err-take_table.field-0.0 c.in_err-take_table.was (cc (p.1, p.2)) i.files c.take_table.ensures.named

pub returns-in_err-take_table-clause-loads : goal.returns-in_err-take_table-clause-loads
returns-in_err-take_table-clause-loads g c =
    let p = err_from_is_err_and c.from_residual-in_err-take_table.result
    c.from_residual-in_err-take_table.ensures.1 in
    let i = c.loop-table.invariant in
    meant_stops c.args.manifest.now c.args.limits.now _ _ _ _ _ _ _ c.in_err-take_table.field-0.0 _
    _ c.loop-table-test.true i.reads.held c.take_table.ensures.leaves c.in_err-take_table.was
    (cc (p.1, p.2)) i.meant

pub returns-in_err-take_table-clause-few : goal.returns-in_err-take_table-clause-few
returns-in_err-take_table-clause-few g c =
    let i = c.loop-table.invariant in
    let p = err_from_is_err_and c.from_residual-in_err-take_table.result
    c.from_residual-in_err-take_table.ensures.1 in
    let reads = then_reads _ _ _ _ _ _ i.reads (reads_less _ (most_bytes c.args.limits.now) _ _ _ (omega arith)
    c.take_table.ensures.reads) in
    stops_few _ _ _ c.take_table.result c.from_residual-in_err-take_table.result
    c.in_err-take_table.field-0.0 c.in_err-take_table.was (cc (p.1, p.2)) reads.few

pub returns-in_err-take_table-clause-faults : goal.returns-in_err-take_table-clause-faults
returns-in_err-take_table-clause-faults g c =
    let i = c.loop-table.invariant in
    let p = err_from_is_err_and c.from_residual-in_err-take_table.result
    c.from_residual-in_err-take_table.ensures.1 in
    let reads = then_reads _ _ _ _ _ _ i.reads (reads_less _ (most_bytes c.args.limits.now) _ _ _ (omega arith)
    c.take_table.ensures.reads) in
    stops_fault _ _ c.take_table.result c.from_residual-in_err-take_table.result
    c.in_err-take_table.field-0.0 c.in_err-take_table.was (cc (p.1, p.2)) reads.faults

pub loop-table-preserved : goal.loop-table-preserved
loop-table-preserved g c =
    let i = c.loop-table.invariant in
    let t = c.in_ok-take_table.ensures in
    let b = c.in_ok-loading.ensures in
    let items = c.as_slice-table-items.ensures in
    record {
      going = t.going;
      numbers = numbers_stay _ _ _ t.tables i.numbers;
      valid = t.valid;
      unread = unread_next c.loop-table.loading.graph c.take_table.new.loading.graph _ _ _
          c.loop-table-test.true (rw items b.once) t.others i.unread;
      meant = meant_next c.args.manifest.now c.args.limits.now _ _ _ _ _ _ _ c.loop-table-test.true
          i.reads.held t.leaves i.meant;
      files = files_next (g.F.Files.held c.args.files.now) c.args.manifest.now c.loop-table.loading.graph.catalog c.take_table.new.loading.graph.catalog t.files i.files;
      reads = then_answers _ _ _ _ _ (then_reads _ _ _ _ _ _ i.reads
          (reads_less _ (most_bytes c.args.limits.now) _ _ _ (omega arith) t.reads)) (λ n e. cc)
          (λ n e. cc) (λ n e. cc) (λ n e. cc);
    }

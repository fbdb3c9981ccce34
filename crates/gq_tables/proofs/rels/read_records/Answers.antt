use Rattle.std.proofs.Common.{◌≡◌, ◌∙◌, ◌+◌, ◌++◌, [], length, ap, sym, arith}
use Rattle.std.proofs.lemmas.Result.{err_from_is_err_and}
use Rattle.std.specs.Prelude.{nat_eq}
use Rattle.std.proofs.lemmas.Bool.Decides.{nat_tests}
use Rattle.gq_tables.proofs.Answering.{passed_on}
use Rattle.gq_tables.proofs.BatchSteps.{all_read, length-records, records-fill, room-behind, unread}
use Rattle.gq_tables.specs.steps.Batches.{rels_by, texts_of}
use Rattle.gq_tables.specs.steps.Unread.{records_left}
use Rattle.gq_tables.proofs.rels.read_records.Goals as goal
use Rattle.gq_tables.proofs.rels.read_records.Goals.{After-find_ends}

-- the records that were left are those of the batch, and those behind it
records : (c : After-find_ends) → records_left c.loop-more.reader
    ≡ texts_of c.find_ends.new.batch ++ unread
    (nat_eq c.in_ok-count.count (length c.fill.new.batch)) (records_left c.fill.new.reader)
records c =
    let filled = c.in_ok-count.ensures in
    records-fill c.fill.new.batch c.in_ok-count.count _ _ filled.full filled.last filled.within
    ∙ ap (λ texts. texts ++ unread (nat_eq c.in_ok-count.count (length c.fill.new.batch))
    (records_left c.fill.new.reader)) (sym (c.find_ends.ensures.texts
    ∙ c.read_keys.ensures.texts))

given : (c : After-find_ends) → rels_by c.args.form.now []
    (records_left c.args.reader.now) ≡ rels_by c.args.form.now c.loop-more.rels
    (texts_of c.find_ends.new.batch ++ unread (nat_eq c.in_ok-count.count (length c.fill.new.batch))
    (records_left c.fill.new.reader))
given c = (rw c.loop-more-test.true at c.loop-more.invariant.taken.given)
    ∙ ap (rels_by c.args.form.now c.loop-more.rels) (records c)

left : (c : After-find_ends) → length (records_left c.loop-more.reader)
    ≡ length c.find_ends.new.batch + length (unread
    (nat_eq c.in_ok-count.count (length c.fill.new.batch)) (records_left c.fill.new.reader))
left c = length-records _ _ _ (records c)

pub take_batch-requires-clause-few_records : goal.take_batch-requires-clause-few_records
take_batch-requires-clause-few_records c =
    let before = rw c.loop-more-test.true at c.loop-more.invariant.size in
    omega (
      arith,
      before,
      left (goal.at.take_batch-requires-clause-few_records c).After-find_ends,
      c.requires.few_records,
    )

pub loop-more-smaller : goal.loop-more-smaller
loop-more-smaller c =
    let less = left (goal.at.loop-more-smaller c).After-find_ends in
    grind (arith, nat_tests, less, c.loop-more.invariant.room, c.loop-more-test.true)

pub loop-more-preserved : goal.loop-more-preserved
loop-more-preserved c =
    let at = (goal.at.loop-more-preserved c).After-find_ends in
    let taken = c.in_ok-take_batch.ensures in
    let before = rw c.loop-more-test.true at c.loop-more.invariant.size in
    record {
      room = room-behind c.find_ends.new.batch c.fill.new.batch c.in_ok-count.count (omega arith)
          c.in_ok-count.ensures.within (omega arith);
      is_open = λ e. c.in_ok-count.ensures.is_open (all_read _ _ e);
      size = omega (arith, taken.count, left at, before);
      taken = record {
        few = taken.few;
        given = given at ∙ taken.taken _;
        sources_told =
            taken.marked.sources;
        targets_told = taken.marked.targets;
      };
    }

pub returns-in_err-take_batch-clause-answers : goal.returns-in_err-take_batch-clause-answers
returns-in_err-take_batch-clause-answers c =
    let at = (goal.at.returns-in_err-take_batch-clause-answers c).After-find_ends in
    let p = err_from_is_err_and c.from_residual-in_err-take_batch.result
    c.from_residual-in_err-take_batch.ensures.1 in
    rw (p.1, p.2) (passed_on _ _ c.in_err-take_batch.field-0.0
    (c.in_err-take_batch.ensures.refused _)
    (λ refusal e. given at ∙ e))

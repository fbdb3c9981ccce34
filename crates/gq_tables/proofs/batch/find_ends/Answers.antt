use Rattle.std.proofs.Common.{◌≡◌, ◌∙◌, ◌<◌, arith, length, refl, take}
use Rattle.std.proofs.lemmas.List.{take_all}
use Rattle.std.proofs.lemmas.List.Elements.{All-set}
use Rattle.gq_tables.specs.steps.Batches.{HasEnds, HasKeys}
use Rattle.gq_tables.proofs.BatchSteps.{each-take, texts-set}
use Rattle.gq_tables.proofs.batch.find_ends.Goals as goal

pub loop-pending-preserved : goal.loop-pending-preserved
loop-pending-preserved c =
    let less : c.loop-pending.pending-index < length c.loop-pending.batch = omega arith in
    let read = c.loop-pending.invariant.keys c.loop-pending.pending-index _ less in
    record {
      texts = texts-set c.loop-pending.batch c.loop-pending.pending-index _ c.pending-item.result less refl ∙ c.loop-pending.invariant.texts;
      keys = All-set (HasKeys _ _) c.loop-pending.batch c.loop-pending.pending-index _ (record { source = read.source; target = read.target }) c.loop-pending.invariant.keys;
      found = each-take (HasEnds _ _) c.loop-pending.batch c.loop-pending.pending-index _ less
          (record { source = c.end_by-pending.ensures; target = c.end_by-pending-in-loop-pending.ensures }) c.loop-pending.invariant.found;
    }

pub returns-clause-found : goal.returns-clause-found
returns-clause-found c =
    let all : take c.loop-pending.pending-index c.loop-pending.batch ≡ c.loop-pending.batch = take_all c.loop-pending.pending-index c.loop-pending.batch (omega arith) in
    rw all at c.loop-pending.invariant.found

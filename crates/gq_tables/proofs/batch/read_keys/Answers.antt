use Rattle.std.proofs.Common.{◌≡◌, ◌∙◌, ◌<◌, arith, length, refl, take}
use Rattle.std.proofs.lemmas.List.{take_all}
use Rattle.gq_tables.specs.steps.Batches.{HasKeys}
use Rattle.gq_tables.proofs.BatchSteps.{each-take, texts-set}
use Rattle.gq_tables.proofs.batch.read_keys.Goals as goal

pub loop-pending-preserved : goal.loop-pending-preserved
loop-pending-preserved c =
    let less : c.loop-pending.pending-index < length c.loop-pending.batch = omega arith in
    record {
      texts = texts-set c.loop-pending.batch c.loop-pending.pending-index _ c.pending-item.result less refl ∙ c.loop-pending.invariant.texts;
      keys = each-take (HasKeys _ _) c.loop-pending.batch c.loop-pending.pending-index _ less
          (record { source = c.key_at-pending.ensures; target = c.key_at-pending-in-loop-pending.ensures }) c.loop-pending.invariant.keys;
    }

pub returns-clause-keys : goal.returns-clause-keys
returns-clause-keys c =
    let all : take c.loop-pending.pending-index c.loop-pending.batch ≡ c.loop-pending.batch = take_all c.loop-pending.pending-index c.loop-pending.batch (omega arith) in
    rw all at c.loop-pending.invariant.keys

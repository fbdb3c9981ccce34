use Rattle.std.proofs.Common.{◌≡◌, ◌+◌, ◌*◌, None, replicate, rules}
use Rattle.gq_tables.proofs.SlotSteps.{spare_free}
use Rattle.gq_tables.specs.steps.KeyMaps.{row_at}
use Rattle.gq_tables.specs.declared.key_index.TheConstants.{SLOTS_PER_ROW, WINDOW}
use Rattle.gq_tables.proofs.key_index.KeyIndex.new.Goals as goal

pub invariant_of-result-clause-spare : goal.invariant_of-result-clause-spare
invariant_of-result-clause-spare c =
    let free : c.in_ok-slots.slots.items ≡ replicate (c.args.rows * SLOTS_PER_ROW + WINDOW) None = c.in_ok-slots.ensures.items_if_clones_equal (search rules) in
    spare_free c.in_ok-slots.slots.items (c.args.rows * SLOTS_PER_ROW + WINDOW) (row_at c.new-others.result) free c.new-others.ensures

use Rattle.std.proofs.Common.{◌≡◌, ℕ, suc, ◌-◌, length}
use Rattle.gq_exists.specs.steps.Rows.{marked_in}
use Rattle.gq_exists.proofs.rows.reach_block.Given as goal

abbrev pub invariant-blocks-2 : goal.invariant-blocks-2
invariant-blocks-2 l = (r : ℕ) → marked_in l.blocks.items r ≡ marked_in l.initial.blocks.items r

abbrev pub decreases-blocks-2 : goal.decreases-blocks-2
decreases-blocks-2 l = suc l.block - length l.blocks.items

use Rattle.std.proofs.Common.{◌≡◌}
use Rattle.gq_chains.specs.steps.Blocks.{IsWalked}
use Rattle.gq_chains.specs.steps.Parting.{ends_apart}
use Rattle.gq_chains.proofs.block_steps.part_ends.Given as goal

abbrev pub invariant-loop-at : goal.invariant-loop-at
invariant-loop-at l = IsWalked (λ j old told new. (new ≡ old) × (told ≡ ends_apart old l.ends)) l.row l.offset l.at l.rows l.rows l.fn.marks l.marks

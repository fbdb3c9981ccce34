use Rattle.std.proofs.Common.{arith}
use Rattle.gq_io.proofs.Copied.{copies}
use Rattle.gq_io.proofs.copying.copy_from.Goals as goal

pub returns : goal.returns
returns c = copies _ _ _ _ _ _ (grind arith) c.copy_from_slice.ensures.after

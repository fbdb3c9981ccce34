use Rattle.std.proofs.Common.{ap, length, arith}
use Rattle.gq_edges.proofs.Seen.{length-pairs_of}
use Rattle.gq_edges.proofs.singles.Single.len.Goals as goal

pub overflow_cast-result : goal.overflow_cast-result
overflow_cast-result c = omega (arith, c.len.ensures, c.self.inside.numbers.ok.0, c.self.invariant.few)

pub returns : goal.returns
returns c = omega (arith, c.len.ensures, c.self.inside.numbers.ok.0, ap length c.self.view_is, length-pairs_of c.self.inside.numbers.items c.self.inside.targets.items c.self.invariant.paired)

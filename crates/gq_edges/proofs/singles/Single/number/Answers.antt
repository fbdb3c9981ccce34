use Rattle.std.proofs.Common.{ap, sym, length, arith}
use Rattle.std.specs.Option.{option_map}
use Rattle.gq_edges.specs.Once.{Pair}
use Rattle.gq_edges.proofs.Seen.{length-pairs_of, pair_none, pair_some}
use Rattle.gq_edges.proofs.singles.Single.number.Goals as goal

pub index-number-requires : goal.index-number-requires
index-number-requires c = omega (arith, ap length c.self.view_is, length-pairs_of c.self.inside.numbers.items c.self.inside.targets.items c.self.invariant.paired, c.self.inside.numbers.ok.0)

pub returns-then-number : goal.returns-then-number
returns-then-number c = ap (option_map (λ (p : Pair). p.number)) (sym (pair_none _ _ _ _ _ _ c.self.view_is c.self.invariant.paired c.self.inside.numbers.ok.0 c.requires c.index-number.ensures c.if-number.true))

pub returns-else-number : goal.returns-else-number
returns-else-number c = ap (option_map (λ (p : Pair). p.number)) (sym (pair_some _ _ _ _ _ _ c.self.view_is c.self.invariant.paired c.self.inside.numbers.ok.0 c.requires c.index-number.ensures c.if-number.false))

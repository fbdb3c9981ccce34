use Rattle.std.proofs.Common.{ℕ, ap, ◌∙◌, sym, length, arith, Some}
use Rattle.std.specs.Option.{option_map}
use Rattle.std.proofs.lemmas.List.{get_or_read_under}
use Rattle.gq_edges.specs.Once.{Pair}
use Rattle.gq_edges.proofs.Seen.{length-pairs_of, pair_none, pair_some}
use Rattle.gq_edges.proofs.singles.Single.get.Goals as goal

pub index-requires : goal.index-requires
index-requires c = omega (arith, ap length c.self.view_is, length-pairs_of c.self.inside.numbers.items c.self.inside.targets.items c.self.invariant.paired, c.self.inside.numbers.ok.0)

pub index-requires-else-index : goal.index-requires-else-index
index-requires-else-index c = omega (arith, ap length c.self.view_is, length-pairs_of c.self.inside.numbers.items c.self.inside.targets.items c.self.invariant.paired, c.self.invariant.paired, c.self.inside.targets.ok.0)

pub returns-then-index : goal.returns-then-index
returns-then-index c = ap (option_map (λ (p : Pair). p.target)) (sym (pair_none _ _ _ _ _ _ c.self.view_is c.self.invariant.paired c.self.inside.numbers.ok.0 c.requires c.index.ensures c.if-index.true))

pub returns-else-index : goal.returns-else-index
returns-else-index c =
    let targets = c.self.inside.targets in
    let target = get_or_read_under targets.items c.args.vertex targets.len c.index-else-index.result.now 0 c.index-else-index.ensures (omega (arith, ap length c.self.view_is, length-pairs_of c.self.inside.numbers.items targets.items c.self.invariant.paired, c.self.invariant.paired, targets.ok.0)) targets.ok.0 in
    ap (λ (m : ℕ). Some m) target
    ∙ ap (option_map (λ (p : Pair). p.target)) (sym (pair_some _ _ _ _ _ _ c.self.view_is c.self.invariant.paired c.self.inside.numbers.ok.0 c.requires c.index.ensures c.if-index.false))

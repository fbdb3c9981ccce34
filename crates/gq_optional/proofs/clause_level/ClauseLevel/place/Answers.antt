use Rattle.std.proofs.Common.{◌∙◌, ap, length, sym, arith}
use Rattle.std.proofs.lemmas.List.FromFn.{length-range_with_len}
use Rattle.gq_optional.specs.steps.Listed.{IsSized}
use Rattle.gq_optional.proofs.Keyed.{sized_at}
use Rattle.gq_optional.proofs.clause_level.ClauseLevel.place.Goals as goal

pub place_nodes-requires-clause-inside : goal.place_nodes-requires-clause-inside
place_nodes-requires-clause-inside c =
    let n = length c.args.self.now.clause.now.part.now.nodes in
    omega (arith, ap length c.as_slice-tables.ensures, c.requires.whole.tables, ap length c.requires.whole.nodes, length-range_with_len 0 n)

pub place_nodes-requires-clause-fits : goal.place_nodes-requires-clause-fits
place_nodes-requires-clause-fits c = omega (arith, ap length c.as_slice-tables.ensures, c.requires.whole.tables, c.requires.whole.few_nodes)

pub place_nodes-requires-clause-sized : goal.place_nodes-requires-clause-sized
place_nodes-requires-clause-sized c =
    let n = length c.args.self.now.clause.now.part.now.nodes in
    let m = length c.args.matches.now.typed.now.rels in
    (sized_at (IsSized n m) c.args.matches.now.build.rows c.args.at c.requires.whole.sized c.requires.there).0
    ∙ sym (ap length c.requires.whole.nodes ∙ length-range_with_len 0 n)

pub place_rels-requires-clause-inside : goal.place_rels-requires-clause-inside
place_rels-requires-clause-inside c =
    let m = length c.args.matches.now.typed.now.rels in
    omega (arith, ap length c.as_slice.ensures, ap length c.requires.whole.rels, length-range_with_len 0 m)

pub place_rels-requires-clause-fits : goal.place_rels-requires-clause-fits
place_rels-requires-clause-fits c = omega (arith, ap length c.as_slice.ensures, c.requires.whole.few_rels)

pub place_rels-requires-clause-sized : goal.place_rels-requires-clause-sized
place_rels-requires-clause-sized c =
    let n = length c.args.self.now.clause.now.part.now.nodes in
    let m = length c.args.matches.now.typed.now.rels in
    (sized_at (IsSized n m) c.args.matches.now.build.rows c.args.at c.requires.whole.sized c.requires.there).1
    ∙ sym (ap length c.requires.whole.rels ∙ length-range_with_len 0 m)

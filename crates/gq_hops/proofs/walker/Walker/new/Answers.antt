use Rattle.std.proofs.Common.{◌∙◌, sym, ap}
use Rattle.gq_base.specs.Directions.{opposite}
use Rattle.gq_hops.specs.declared.follow.Follow.{Follow}
use Rattle.gq_hops.proofs.Aiming.{no_bounds}
use Rattle.gq_hops.proofs.Spreading.{opposite_twice}
use Rattle.gq_hops.proofs.walker.Walker.new.Goals as goal

pub invariant_of-result : goal.invariant_of-result
invariant_of-result c =
    let f : Follow = c.in_ok-follow_type.field-0 in
    let told = c.in_ok-follow_type.ensures in
    let back = c.in_ok-back.ensures in
    record {
      tables = told.tables;
      low = c.requires.some;
      high = c.requires.few;
      bounds = no_bounds f.graph.now f.kind.now f.way c.in_ok-bounds.bounds c.in_ok-bounds.ensures;
      room = c.in_ok-new-2.ensures;
      back = back.tables;
      back_graph = back.graph ∙ sym told.graph;
      back_kind = back.kind ∙ sym told.kind;
      back_way = ap opposite (back.way ∙ c.opposite.ensures) ∙ opposite_twice c.args.part.now.way ∙ sym told.way;
      aimed = λ n e. absurd (cc e);
      sought = tt;
    }

-- What the fields of a search for the nodes to which a trail leads stand for, and what is true of them.
use Rattle.std.specs.Prelude.{◌≤◌, drop}
use Rattle.gq_hops.specs.Reaching.{Reaching}
use Rattle.gq_hops.specs.steps.Hops.{AreTables}
use Rattle.gq_hops.specs.steps.Sizes.{AreSizes}
use Rattle.gq_hops.specs.declared.reacher.Reacher.TheInside.{Inside}

abbrev pub reaching_of : Inside → Reaching
reaching_of r = record {
  graph = r.follow.graph.now;
  kind = r.follow.kind.now;
  way = r.follow.way;
  high = r.high;
  owed = drop r.place r.visited.nodes;
}

pub record CanReach (r : Inside) : Type 0 where
  pub tables : AreTables r.follow
  pub sizes : AreSizes r.follow r.visited.sizes
  pub some : 1 ≤ r.high

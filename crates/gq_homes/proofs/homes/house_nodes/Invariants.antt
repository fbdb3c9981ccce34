use Rattle.std.proofs.Common.{◌≡◌, ◌++◌, take, length}
use Rattle.gq_group.specs.declared.home.NodeHome.TheVariants.{Column}
use Rattle.gq_homes.specs.steps.Housing.{fillings_of, not_in, set_numbered}
use Rattle.gq_homes.proofs.homes.house_nodes.Given as goal

abbrev pub invariant-loop-node : goal.invariant-loop-node
invariant-loop-node l = record {
  items : l.node-items ≡ l.build.nodes;
  many : length l.housing.homes.nodes ≡ length l.fn.housing.homes.nodes;
  homes : l.housing.homes ≡ record {
    nodes = set_numbered (Column l.spot.group) (length l.fn.housing.fillings.items) (not_in l.keys (take l.node-index l.node-items)) l.fn.housing.homes.nodes;
    rels = l.fn.housing.homes.rels;
  };
  fillings : l.housing.fillings.items ≡ l.fn.housing.fillings.items ++ fillings_of l.spot.group l.spot.depth (not_in l.keys (take l.node-index l.node-items));
}

use Rattle.std.proofs.Common.{◌≡◌, take}
use Rattle.gq_trails.specs.steps.Chained.{AreOfOne, parts_in}
use Rattle.gq_trails.proofs.chain.ends_of.Given as goal

abbrev pub invariant-parts : goal.invariant-parts
invariant-parts l = record {
  all : AreOfOne l.graph l.nodes l.rels l.ends.items;
  parts : parts_in l.ends.items ≡ take l.part-index l.parts;
}

use Rattle.std.proofs.Common.{◌≡◌, take}
use Rattle.gq_optional.specs.steps.Levels.{AreLevels, clauses_of}
use Rattle.gq_optional.proofs.walk.stages_of.Given as goal

abbrev pub invariant-clauses : goal.invariant-clauses
invariant-clauses l = record {
  levels : AreLevels l.shape.nodes l.shape.rels l.stages.items;
  clauses : clauses_of l.stages.items ≡ take l.clause-index l.clauses;
}

use Rattle.std.proofs.Common.{◌≡◌, ◌++◌, drop}
use Rattle.gq_core.specs.Entries.{entry_test}
use Rattle.gq_law_reaches.specs.Core.{parts_from}
use Rattle.gq_core.proofs.parts.parts_from.Given as goal

abbrev pub invariant-loop-trail : goal.invariant-loop-trail
invariant-loop-trail l =
    l.parts ++ parts_from (entry_test l.text) l.pattern l.bound.items (drop l.trail-index l.trails)
    ≡ parts_from (entry_test l.text) l.pattern l.first l.trails

use Rattle.std.proofs.Common.{◌≡◌, ◌++◌, drop}
use Rattle.gq_core.specs.Renumbering.{plain_from}
use Rattle.gq_core.proofs.numbering.plain_rels.Given as goal

abbrev pub invariant-loop-rel : goal.invariant-loop-rel
invariant-loop-rel l = l.plain ++ plain_from l.number (drop l.rel-index l.rels) ≡ plain_from 0 l.rels

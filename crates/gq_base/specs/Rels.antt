-- A relationship whose cells are borrowed.
use Rattle.gq_base.specs.declared.cell.PlainRel.{PlainRel}
use Rattle.gq_base.specs.declared.rels.RelRef.{RelRef}

-- the relationship whose cells are borrowed
abbrev pub rel_seen : RelRef → PlainRel
rel_seen rel = record { source = rel.source; target = rel.target; cells = rel.cells.now }

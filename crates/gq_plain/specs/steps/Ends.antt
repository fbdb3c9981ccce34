-- The ends of a relationship.
use Rattle.std.specs.Prelude.{ℕ}
use Rattle.gq_base.specs.declared.cell.PlainRel.{PlainRel}
use Rattle.gq_plain.specs.declared.distinct.End.{End}
use Rattle.gq_plain.specs.declared.distinct.End.TheVariants.{Source, Target}

-- the row of the node at an end
abbrev pub row_at : End → PlainRel → ℕ
row_at Source rel = rel.source
row_at Target rel = rel.target

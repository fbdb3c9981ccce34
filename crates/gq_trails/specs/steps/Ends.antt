-- Whether a walk of a trail may end at a node, and what becomes of the row.
use Rattle.std.specs.Prelude.{◌≡◌, Bool, Some, List, map, slice_set, if◌then◌else◌}
use Rattle.gq_base.specs.Plain.{Graph}
use Rattle.gq_base.specs.declared.NodeId.{NodeId}
use Rattle.gq_ends.specs.Ends.{OtherEnd, other_end}
use Rattle.gq_law_trails.specs.Trails.{fits_end}
use Rattle.gq_plan.specs.declared.TrailPart.{TrailPart}
use Rattle.gq_plan.specs.Allowed.{at_same}
use Rattle.gq_outer.specs.Rows.{Wide, item_at}

-- the other ends of all trails
abbrev pub AreEndsOf : Graph → List TrailPart → List OtherEnd → Type 0
AreEndsOf g parts ends = ends ≡ map (other_end g) parts

-- the other end has to be the node where it is bound; else the node has to be as the trail asks
abbrev pub may_end : Graph → TrailPart → Wide → NodeId → Bool
may_end g p row n = if p.both then at_same (item_at row.nodes p.to) (Some n) else fits_end g p n

-- where it is not bound, it is bound now
abbrev pub settled : TrailPart → Wide → NodeId → Wide
settled p row n = if p.both then row else record row { nodes = slice_set row.nodes p.to (Some n) }

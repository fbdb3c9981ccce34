-- The laws that walks are the trails that are meant, and that a chain of relationships may be followed from either end.
use Rattle.std.specs.Prelude.{◌≡◌, ℕ, nat_le, ◌&&◌, ◌++◌, Option, List, length, reverse}
use Rattle.std.specs.List.{list_all}
use Rattle.gq_base.specs.Lists.{all_distinct}
use Rattle.gq_base.specs.Plain.{Graph}
use Rattle.gq_base.specs.declared.NodeId.{NodeId}
use Rattle.gq_base.specs.declared.RelId.{RelId}
use Rattle.gq_base.specs.declared.direction.Direction.{Direction}
use Rattle.gq_base.specs.declared.direction.Direction.TheVariants.{Backward}
use Rattle.gq_plan.specs.Allowed.{at_same}
use Rattle.gq_plan.specs.Assignments.{is_rel, same_rel}
use Rattle.gq_law_trails.specs.Walks.{are_free, chained, chained_by, end_of, is_of_type, is_walk}

-- a list is a walk from one node that ends at another where its relationships are of the graph and of the type, are as many as they
-- may be, lead from the one node to the other, and none is used or stands twice
abbrev pub WalksAreTrails : Type 0
WalksAreTrails =
    (g : Graph) (kind : List ℕ) (way : Direction) (low high : ℕ) (at end : Option NodeId) (used l : List RelId)
    → (is_walk g kind way low high at used l && at_same (end_of g way at l) end)
    ≡ (list_all (is_rel g) l && (((nat_le low (length l) && nat_le (length l) high) && (list_all (is_of_type g kind) l && chained_by g way at l end)) && are_free used l))

-- relationships that are followed backward from one node to another are, the last one first, a chain from the other to the one
abbrev pub ChainsTurn : Type 0
ChainsTurn =
    (g : Graph) (at end : Option NodeId) (l : List RelId)
    → chained_by g Backward at l end ≡ chained g end (reverse l) at

-- relationships that are all different, and a list that is free of them, are all different together
abbrev pub FreeIsDistinct : Type 0
FreeIsDistinct =
    (used l : List RelId) → all_distinct same_rel (used ++ l) ≡ (all_distinct same_rel used && are_free used l)

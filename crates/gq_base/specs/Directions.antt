-- The two directions in which a relationship is followed.
use Rattle.gq_base.specs.declared.direction.Direction.{Direction}
use Rattle.gq_base.specs.declared.direction.Direction.TheVariants.{Forward, Backward}

-- the other direction
abbrev pub opposite : Direction → Direction
opposite Forward = Backward
opposite Backward = Forward

-- The core of patterns and trails, by an order of their variables.
use Rattle.std.specs.Prelude.{◌≡◌, ℕ, List, length}
use Rattle.gq_law_cuts.specs.Cuts.{core_first, core_of, numbered_in}
use Rattle.gq_law_reaches.specs.Core.{core_nodes}
use Rattle.gq_law_reaches.specs.Reaches.{Trailed}
use Rattle.gq_core.specs.declared.cored.Core.{Core}

-- the core where its variables are the first of an order, so many
pub record IsCoreBy (variables : List ℕ) (count : ℕ) (q : Trailed) (core : Core) : Type 0 where
  pub order : core.order ≡ variables
  pub nodes : core.nodes ≡ count
  pub whole : core.whole ≡ numbered_in variables q
  pub pattern : core.pattern ≡ core_of count core.whole.pattern

pub record IsCoreOf (q : Trailed) (core : Core) : Type 0 where
  pub order : core.order ≡ core_first q
  pub nodes : core.nodes ≡ length (core_nodes q)
  pub whole : core.whole ≡ numbered_in core.order q
  pub pattern : core.pattern ≡ core_of core.nodes core.whole.pattern

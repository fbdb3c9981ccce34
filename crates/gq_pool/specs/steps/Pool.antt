-- The vectors of a pool, and which of them are out.
use Rattle.std.specs.Prelude.{ℤ, ◌≡◌, ◌≤◌, List, Bool, length, All, vec_len, Vec}
use Rattle.std.specs.Global.{Global}
use Rattle.gq_bits.specs.declared.TheConstants.{VECTOR}

-- each slot has the cells of one vector, and is out or free
pub record AreLanes (lanes : List (Vec ℤ Global)) (out : List Bool) : Type 0 where
  pub paired : length out ≡ length lanes
  pub few : length lanes ≤ 4096
  pub whole : All (λ lane. vec_len lane ≡ VECTOR) lanes

-- Orders that take the connected components of an alternative one by one.
use Rattle.std.specs.Prelude.{◌≡◌, ℕ, nat_eq, nat_lt, ◌<◌, ◌&&◌, IsTrue, List, length, slice_get}
use Rattle.std.specs.List.{AllZip}
use Rattle.gq_order.specs.Greedy.{at, components, numbers}
use Rattle.gq_order.specs.declared.order.Piece.{Piece}
use Rattle.gq_order.specs.Connected.{is_connected, bound_alone}
use Rattle.gq_plan.specs.Known.{Known, none, with_node}
use Rattle.gq_plan.specs.Meaning.{holds}
use Rattle.gq_plan.specs.declared.typed.Typed.{Typed}

-- what the component with a number has
abbrev pub component : Typed → ℕ → Known
component y c = record {
  nodes = λ v. nat_lt v (length y.nodes) && nat_eq (at (components y) v) c;
  rels = λ x. holds (λ r. nat_eq (at (components y) r.source) c) (slice_get y.rels x);
}

-- a piece takes just the component with a number: it begins in it, goes on from what is bound, and binds all of it
pub record IsPieceOf (y : Typed) (c : ℕ) (p : Piece) : Type 0 where
  pub within : p.first < length y.nodes
  pub own : at (components y) p.first ≡ c
  pub connected : IsTrue (is_connected y (with_node p.first none) p.turns)
  pub binds : bound_alone y p ≡ component y c

-- pieces that take the components of an alternative one by one, in order
abbrev pub TakeComponents : Typed → List Piece → Type 0
TakeComponents y ps = AllZip (IsPieceOf y) (numbers y) ps

-- Turns that go on from what is bound, and what they bind.
use Rattle.std.specs.Prelude.{ℕ, Bool, true, false, not, ◌&&◌, Option, Some, None, List, [], ◌∷◌}
use Rattle.gq_order.specs.Orders.{read_by, known_by}
use Rattle.gq_order.specs.declared.order.Piece.{Piece}
use Rattle.gq_order.specs.declared.order.Turn.{Turn}
use Rattle.gq_plan.specs.Known.{Known, none, with_node}
use Rattle.gq_plan.specs.Soundness.{left_of}
use Rattle.gq_plan.specs.declared.typed.Typed.{Typed}
use Rattle.gq_plan.specs.declared.typed.TypedRel.{TypedRel}

-- what is bound once turns are taken, one after another
abbrev pub known_after : Typed → Known → List Turn → Known
known_after y k [] = k
known_after y k (t ∷ ts) = known_after y (known_by k t.rel (read_by y t)) ts

-- a relationship that is not bound yet is taken from a bound node variable
abbrev pub goes_on : Known → ℕ → Option TypedRel → Bool
goes_on k x None = false
goes_on k x (Some r) = not (k.rels x) && k.nodes (left_of r)

-- each turn does so
abbrev pub is_connected : Typed → Known → List Turn → Bool
is_connected y k [] = true
is_connected y k (t ∷ ts) = goes_on k t.rel (read_by y t) && is_connected y (known_by k t.rel (read_by y t)) ts

-- what a piece binds by itself
abbrev pub bound_alone : Typed → Piece → Known
bound_alone y p = known_after y (with_node p.first none) p.turns

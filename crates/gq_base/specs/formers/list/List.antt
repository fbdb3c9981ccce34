-- A `List` of a type may stand inside that type: its items are the children, and nothing else of it is kept.
use mathlib.Core.Path.{◌≡◌, refl, sym}
use mathlib.Core.List as lists
use mathlib.Core.Former as former
use base.Stored.{code_map}
use denote.RattleType.{RattleType}
use denote.HoleLaws.{Alike}
use denote.HolePlaces as places
use denote.Hole.Carrier as carrier
use denote.Hole.Fix.{over}
use denote.Param.Weighed as weighed
use denote.Model.Placed.{view_places}
use Rattle.std.specs.formers.vec.Vec as vec
use Rattle.std.specs.declared.alloc.Global.{Global}
use Rattle.std.specs.contracts.alloc.Global as heap
use Rattle.std.specs.contracts.impls.GlobalAllocator.TheImpl.{ghosts}
use Rattle.gq_base.specs.declared.list.List.TheInside.{Inside}
use Rattle.gq_base.specs.declared.list.List.TheView.{view, invariant}
use Rattle.gq_base.specs.contracts.list.List as whole
use Rattle.gq_base.specs.contracts.list.List.TheInside as inside

-- how a list splits into a shape and its items
abbrev pub the_former : former.Former {0} → former.Former {0}
the_former g = former.list g

abbrev pub the_weighed : {g : former.Former {0}} → weighed.Weighed g → weighed.Weighed (the_former g)
the_weighed w = weighed.w_list w

-- without items there is one list
pub the_empty : lists.List ⊥
the_empty = lists.[]

abbrev pub the_items : (X : Type 0) → lists.List X → lists.List X
the_items X items = items

pub the_items_listed : (X : Type 0) (items : lists.List X) → carrier.listed _ (former.children (the_former former.this) X items) ≡ the_items X items
the_items_listed X items = carrier.list-listed X items

-- the struct's one field, a vector
abbrev in_struct : former.Former {0}
in_struct = former.via (vec.the_former former.this Global) Inside (λ X s. s.vec) (λ X v. record { vec = v }) (λ X s. refl) (λ X v. refl)

module _ (R S : RattleType) (h : R.Denot → S.Denot) where
  pub the_places : Alike R S h → Alike (whole.the_row R) (whole.the_row S) ((the_former former.this).map R.Denot S.Denot h)
  the_places alike = view_places in_struct (former.list former.this) view (λ X Y k u. refl) (λ X u. refl) R.Denot S.Denot h
      (whole.the_row R).coded (whole.the_row S).coded
      (invariant R.Denot) (invariant S.Denot) (λ u p q. refl) (λ u p q. refl) (λ u e. tt) (λ u e. tt)
      (over (inside.the_row R)) (over (inside.the_row S))
      (places.struct_places (inside.the_type R) (inside.the_type S) (vec.mapped h, tt) _ (λ d. refl) refl
      (places.laid _ _ _ (vec.the_places heap.the_row ghosts R S h alike), tt))

  pub the_codes_placed : places.Recodes R S h → places.Recodes (whole.the_row R) (whole.the_row S) ((the_former former.this).map R.Denot S.Denot h)
  the_codes_placed same items = sym (code_map R.coded.code S.coded.code h (λ x. sym (same x)) items)

-- A `Boxed` of a type may stand inside that type: its value is the one child.
use mathlib.Core.Path.{refl}
use mathlib.Core.Former as former
use base.Stored.{gnil}
use base.Fml.{ftrue}
use denote.RattleType.{RattleType}
use denote.Memory.{part_of}
use denote.RawPtr.{Ptr}
use denote.Sharing.{nothing}
use denote.HoleLaws.{Alike}
use denote.HolePlaces as places
use denote.Hole.Fix.{over}
use denote.Param.Weighed as weighed
use denote.Model.Placed.{view_places}
use Rattle.std.specs.declared.boxed.Box.{Box}
use Rattle.std.specs.contracts.boxed.Box as std_box
use Rattle.std.specs.declared.alloc.Global.{Global}
use Rattle.std.specs.contracts.alloc.Global as heap
use Rattle.std.specs.contracts.impls.GlobalAllocator.TheImpl.{ghosts}
use Rattle.gq_base.specs.declared.boxed.Boxed.TheInside.{Inside}
use Rattle.gq_base.specs.declared.boxed.Boxed.TheView.{view, invariant}
use Rattle.gq_base.specs.contracts.boxed.Boxed as whole
use Rattle.gq_base.specs.contracts.boxed.Boxed.TheInside as inside

-- a box has no shape beside its value
abbrev pub the_former : former.Former {0} → former.Former {0}
the_former g = g

abbrev pub the_weighed : {g : former.Former {0}} → weighed.Weighed g → weighed.Weighed (the_former g)
the_weighed w = w

-- another value behind the same pointer
abbrev holding : {X Y : Type 0} → Box X Global → Y → Box Y Global
holding b value = record { ptr = b.ptr; alloc = b.alloc; value = value }

-- the struct's one field, a box: a pointer and an allocator beside the value
abbrev in_struct : former.Former {0}
in_struct = former.via (former.pair (former.const (Ptr × Global)) former.this) Inside
    (λ X s. ((s.inner.ptr, s.inner.alloc), s.inner.value))
    (λ X p. record { inner = record { ptr = p.0.0; alloc = p.0.1; value = p.1 } }) (λ X s. refl) (λ X p. refl)

abbrev boxed_row : RattleType → RattleType
boxed_row R = std_box.the_row R heap.the_row ghosts

module _ (R S : RattleType) (h : R.Denot → S.Denot) where
  inner_places : Alike R S h → Alike (boxed_row R) (boxed_row S) (λ b. holding b (h b.value))
  unfolding part_of
  inner_places alike = record {
    mir_same = λ i. (boxed_row (places.one_value R (alike.mir_same i) (λ _. ftrue) (λ _ _. nothing) gnil)).mir;
    own_same = λ b i. (boxed_row (places.one_value R (alike.mir_same i) (alike.own_same b.value i) (alike.shr_same b.value i) gnil)).own_val (holding b tt);
    shr_same = λ b i. (boxed_row (places.one_value R (alike.mir_same i) (alike.own_same b.value i) (alike.shr_same b.value i) gnil)).shr_at (holding b tt);
  }

  pub the_places : Alike R S h → Alike (whole.the_row R) (whole.the_row S) ((the_former former.this).map R.Denot S.Denot h)
  the_places alike = view_places in_struct former.this view (λ X Y k u. refl) (λ X u. refl) R.Denot S.Denot h
      (whole.the_row R).coded (whole.the_row S).coded
      (invariant R.Denot) (invariant S.Denot) (λ u p q. refl) (λ u p q. refl) (λ u e. tt) (λ u e. tt)
      (over (inside.the_row R)) (over (inside.the_row S))
      (places.struct_places (inside.the_type R) (inside.the_type S) ((λ b. holding b (h b.value)), tt) _ (λ d. refl) refl
      (places.laid _ _ _ (inner_places alike), tt))

  pub the_codes_placed : places.Recodes R S h → places.Recodes (whole.the_row R) (whole.the_row S) ((the_former former.this).map R.Denot S.Denot h)
  the_codes_placed same value = same value

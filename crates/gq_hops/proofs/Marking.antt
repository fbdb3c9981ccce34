-- What marks say of relationships.
use Rattle.std.proofs.Common.{◌≡◌, Bool, true, false, List, [], ◌∷◌, refl, sym, ap, ◌∙◌}
use Rattle.std.specs.List.{list_any}
use Rattle.gq_base.specs.declared.RelId.{RelId}
use Rattle.gq_plan.specs.Assignments.{same_rel}
use Rattle.gq_plan.proofs.Products.{same_rel_is}
use Rattle.gq_hops.specs.steps.Marks.{AreMarked, is_marked}

-- no relationship without a mark is used
pub none_marked : (marks : List Bool) (r : RelId) (rels : List RelId) → AreMarked marks rels → is_marked marks r ≡ false → list_any (same_rel r) rels ≡ false
none_marked marks r [] are none = refl
none_marked marks r (q ∷ rels) are none = go (same_rel r q) refl (none_marked marks r rels are.1 none)
  where
    go : (b : Bool) → same_rel r q ≡ b → list_any (same_rel r) rels ≡ false → list_any (same_rel r) (q ∷ rels) ≡ false
    go false other more = rw other more
    go true same more =
        let lost : true ≡ false = sym are.0 ∙ ap (is_marked marks) (same_rel_is r q same) ∙ none in
        absurd (cc lost)

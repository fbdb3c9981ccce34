-- Nodes stand at the variables of a row where they begin with the key that the row has there.
use Rattle.std.proofs.Common.{◌≡◌, ℕ, ◌&&◌, Option, Some, List, [], ◌∷◌, map, length, take, refl, ap, ap₂}
use Rattle.gq_base.specs.declared.NodeId.{NodeId}
use Rattle.gq_plan.specs.Allowed.{at_same}
use Rattle.gq_plan.specs.Keys.{same_nodes, stand_at}

first_is : {X : Type 0} (x y : Option X) (xs ys : List (Option X)) → x ∷ xs ≡ y ∷ ys → x ≡ y
first_is x y xs ys e = cc

rest_is : {X : Type 0} (x y : Option X) (xs ys : List (Option X)) → x ∷ xs ≡ y ∷ ys → xs ≡ ys
rest_is x y xs ys e = cc

pub stand_by_key : (vs : List ℕ) (row : ℕ → Option NodeId) (ks ns : List NodeId) → map row vs ≡ map Some ks → stand_at vs row ns ≡ same_nodes ks (take (length vs) ns)
stand_by_key [] row [] ns e = refl
stand_by_key [] row (k ∷ ks) ns e = absurd (cc e)
stand_by_key (v ∷ vs) row [] ns e = absurd (cc e)
stand_by_key (v ∷ vs) row (k ∷ ks) [] e = refl
stand_by_key (v ∷ vs) row (k ∷ ks) (n ∷ ns) e =
    ap₂ ◌&&◌ (ap (λ o. at_same o (Some n)) (first_is (row v) (Some k) (map row vs) (map Some ks) e))
    (stand_by_key vs row ks ns (rest_is (row v) (Some k) (map row vs) (map Some ks) e))

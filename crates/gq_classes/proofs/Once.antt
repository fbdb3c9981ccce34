-- Lists in which each item stands once, and what an insertion leaves of them.
use Rattle.std.proofs.Common.{◌≡◌, ◌∙◌, ap, refl, sym, subst, ℕ, zero, suc, Bool, true, false, true≢false, Some, List, [], ◌∷◌, ◌++◌, map, slice_get, inl, inr, if◌then◌else◌}
use Rattle.std.specs.Prelude.{◌⊎◌}
use Rattle.std.specs.List.{AllByRecursion, IsDistinct}

-- each item, at its place
pub each_at : {X : Type 0} (P : X → Type 0) (xs : List X) (i : ℕ) (x : X) → AllByRecursion P xs → slice_get xs i ≡ Some x → P x
each_at P [] i x h e = absurd (let no : ⊥ = cc in no)
each_at P (y ∷ ys) zero x h e = subst P (let is : y ≡ x = cc in is) h.0
each_at P (y ∷ ys) (suc i) x h e = each_at P ys i x h.1 e

module _ {K V : Type 0} (f : K → V) (same : V → V → Bool) (itself : (v : V) → same v v ≡ true) where
  -- items that look the same stand at one place
  pub once : (ks : List K) → IsDistinct (λ x y. same (f x) (f y)) ks → (i j : ℕ) (k l : K) → slice_get ks i ≡ Some k → slice_get ks j ≡ Some l → f k ≡ f l → i ≡ j
  unfolding IsDistinct
  once [] h i j k l a b e = absurd (let no : ⊥ = cc in no)
  once (x ∷ ks) h zero zero k l a b e = refl
  once (x ∷ ks) h zero (suc j) k l a b e =
      let other = each_at (λ y. same (f x) (f y) ≡ false) ks j l h.0 b in
      let is : x ≡ k = cc in
      absurd (true≢false (sym (itself (f l)) ∙ ap (λ v. same v (f l)) (sym e ∙ ap f (sym is)) ∙ other))
  once (x ∷ ks) h (suc i) zero k l a b e =
      let other = each_at (λ y. same (f x) (f y) ≡ false) ks i k h.0 a in
      let is : x ≡ l = cc in
      absurd (true≢false (sym (itself (f k)) ∙ ap (λ v. same v (f k)) (e ∙ ap f (sym is)) ∙ other))
  once (x ∷ ks) h (suc i) (suc j) k l a b e = ap suc (once ks h.1 i j k l a b e)

-- an item of a list of what f gives comes of one
pub source : {K V : Type 0} (f : K → V) (ks : List K) (i : ℕ) (v : V) → slice_get (map f ks) i ≡ Some v → (k : K) × (slice_get ks i ≡ Some k) × (f k ≡ v)
source f [] i v e = absurd (let no : ⊥ = cc in no)
source f (k ∷ ks) zero v e = (k, refl, let is : f k ≡ v = cc in is)
source f (k ∷ ks) (suc i) v e = source f ks i v e

-- an insertion leaves the list, or puts one item behind it
pub inserted : {K : Type 0} (b : Bool) (old : List K) (k : K) → (((if b then old else old ++ k ∷ []) ≡ old) × (b ≡ true)) ⊎ (((if b then old else old ++ k ∷ []) ≡ old ++ k ∷ []) × (b ≡ false))
inserted true old k = inl (refl, refl)
inserted false old k = inr (refl, refl)

-- What stands in front of the items that a list gives, and lists of distinct items.
use Rattle.std.proofs.Common.{◌≡◌, Bool, true, false, List, [], ◌∷◌, ◌++◌, ◌<◌, length, Some, None, refl, sym, ap, ◌∙◌, append_assoc, arith}
use Rattle.std.specs.Prelude.{◌&&◌, ◌||◌, not, option_map}
use Rattle.std.specs.declared.option.Option.{Option}
use Rattle.std.specs.List.{list_any}
use Rattle.gq_base.specs.Lists.{all_distinct, with_first}

-- these items, and then those that follow, if there are any
abbrev pub prepend : {A : Type 0} → List A → Option (List A) → Option (List A)
prepend xs o = option_map (λ ys. xs ++ ys) o

pub prepend-first : {A : Type 0} (xs : List A) (x : A) (o : Option (List A)) → prepend xs (with_first (Some x) o) ≡ prepend (xs ++ x ∷ []) o
prepend-first xs x None = refl
prepend-first xs x (Some ys) = ap Some (sym (append_assoc xs (x ∷ []) ys))

pub prepend-nil : {A : Type 0} (o : Option (List A)) → o ≡ prepend [] o
prepend-nil None = refl
prepend-nil (Some ys) = refl

pub shorter : {A : Type 0} (xs rest : List A) (x : A) → xs ≡ x ∷ rest → length rest < length xs
shorter xs rest x e = let longer : length xs ≡ length (x ∷ rest) = ap length e in omega arith

pub two : (a b : Bool) → (a && b) ≡ true → (a ≡ true) × (b ≡ true)
two true b e = (refl, e)
two false b e = cc e

pub not_not : (a : Bool) → false ≡ not a → a ≡ true
not_not true e = refl
not_not false e = cc e

pub not_yet : (a : Bool) → true ≡ not a → a ≡ false
not_yet true e = cc e
not_yet false e = refl

neither : (a b : Bool) → (a || b) ≡ false → (a ≡ false) × (b ≡ false)
neither true b e = cc e
neither false b e = (refl, e)

or_true : (a : Bool) → (a || true) ≡ true
or_true true = refl
or_true false = refl

and_false : (a : Bool) → (a && false) ≡ false
and_false true = refl
and_false false = refl

or_assoc : (a b c : Bool) → (a || (b || c)) ≡ ((a || b) || c)
or_assoc true b c = refl
or_assoc false b c = refl

still_new : (a : Bool) → not a ≡ true → (not (a || (false || false)) && true) ≡ true
still_new true e = cc e
still_new false e = refl

any-append : {A : Type 0} (p : A → Bool) (xs ys : List A) → list_any p (xs ++ ys) ≡ (list_any p xs || list_any p ys)
any-append p [] ys = refl
any-append p (x ∷ xs) ys = ap (λ b. p x || b) (any-append p xs ys) ∙ or_assoc (p x) (list_any p xs) (list_any p ys)

pub any-snoc : {A : Type 0} (p : A → Bool) (xs : List A) (x : A) → list_any p (xs ++ x ∷ []) ≡ (list_any p xs || (p x || false))
any-snoc p xs x = any-append p xs (x ∷ [])

any-at : {A : Type 0} (p : A → Bool) (xs ys : List A) (x : A) → p x ≡ true → list_any p (xs ++ x ∷ ys) ≡ true
any-at p [] ys x e = rw e refl
any-at p (a ∷ xs) ys x e = ap (λ b. p a || b) (any-at p xs ys x e) ∙ or_true (p a)

module _ {A : Type 0} (same : A → A → Bool) where
  either : (b : Bool) (a x : A) (zs ys : List A) → same a x ≡ b → (list_any (λ y. same y x) zs ≡ true → all_distinct same (zs ++ x ∷ ys) ≡ false)
      → (b || list_any (λ y. same y x) zs) ≡ true → all_distinct same (a ∷ (zs ++ x ∷ ys)) ≡ false
  either true a x zs ys e more h = rw (any-at (same a) zs ys x e) refl
  either false a x zs ys e more h = rw (more h) (and_false (not (list_any (same a) (zs ++ x ∷ ys))))

  -- an item that is the same as one before it
  pub repeated : (xs ys : List A) (x : A) → list_any (λ y. same y x) xs ≡ true → all_distinct same (xs ++ x ∷ ys) ≡ false
  repeated [] ys x e = cc e
  repeated (a ∷ zs) ys x e = either (same a x) a x zs ys refl (repeated zs ys x) e

  -- an item that is new
  pub distinct-more : (xs : List A) (x : A) → all_distinct same xs ≡ true → list_any (λ y. same y x) xs ≡ false → all_distinct same (xs ++ x ∷ []) ≡ true
  distinct-more [] x d e = refl
  distinct-more (a ∷ zs) x d e =
      let (new, rest) = two (not (list_any (same a) zs)) (all_distinct same zs) d in
      let (other, others) = neither (same a x) (list_any (λ y. same y x) zs) e in
      rw (any-snoc (same a) zs x, other, distinct-more zs x rest others) (still_new (list_any (same a) zs) new)

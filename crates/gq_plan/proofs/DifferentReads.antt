-- Different items of lists, different reads, and reads that are among others.
use Rattle.std.proofs.Common.{◌≡◌, ℕ, suc, ◌≤◌, Bool, true, false, not, ◌||◌, cond, nat_eq, Option, Some, None, List, [], ◌∷◌, ◌++◌, filter, flat_map, length, refl, sym, ap, ap₂, ◌∙◌, subst, arith, true≢false}
use Rattle.gq_plan.specs.declared.variable.Variable.TheVariants.{Node as node, Rel as rel}
use Rattle.gq_plan.specs.declared.variable.Variable.{Variable}
use Rattle.std.specs.List.{AllByRecursion, list_any}
use Rattle.std.specs.Cmp.Lexicographic.{pointwise}
use Rattle.std.proofs.Math.Bool.{or-true}
use Rattle.std.proofs.lemmas.Bool.{eq-eqb, and_from, not-true}
use Rattle.std.proofs.lemmas.List.Elements.{filter-append}
use Rattle.std.proofs.lemmas.List.Folds.{list_any-append}
use Rattle.gq_plan.specs.Reads.{Read, same_variable, same_property, same_read, is_property, properties, distinct}
use Rattle.gq_plan.proofs.ReadLemmas.{read_is}
use Rattle.gq_plan.proofs.Each.{each_of, each_then, each_append, each_kept}

-- ---- different items

module _ {X : Type 0} (same : X → X → Bool) (same_is : (x z : X) → same x z ≡ true → x ≡ z) where
  -- all of these are among those
  abbrev pub Among : List X → List X → Type 0
  Among xs ys = AllByRecursion (λ x. list_any (same x) ys ≡ true) xs

  abbrev pub IsUnique : List X → Type 0
  IsUnique [] = Unit {0}
  IsUnique (x ∷ xs) = AllByRecursion (λ z. same x z ≡ false) xs × IsUnique xs

  abbrev others : X → List X → List X
  others x ys = filter (λ z. not (same x z)) ys

  fewer : (x : X) (ys : List X) → length (others x ys) ≤ length ys
  fewer x [] = omega arith
  fewer x (y ∷ ys) = go (same x y) (fewer x ys)
    where
      go : (b : Bool) → length (others x ys) ≤ length ys → length (cond (not b) (y ∷ others x ys) (others x ys)) ≤ suc (length ys)
      go true h = omega arith
      go false h = omega arith

  one_fewer : (x : X) (ys : List X) → list_any (same x) ys ≡ true → suc (length (others x ys)) ≤ length ys
  one_fewer x [] h = absurd (true≢false (sym h))
  one_fewer x (y ∷ ys) h = go (same x y) (one_fewer x ys) (fewer x ys) h
    where
      go : (b : Bool) → (list_any (same x) ys ≡ true → suc (length (others x ys)) ≤ length ys) → length (others x ys) ≤ length ys → (b || list_any (same x) ys) ≡ true
          → suc (length (cond (not b) (y ∷ others x ys) (others x ys))) ≤ suc (length ys)
      go true more less h = omega arith
      go false more less h = let k = more h in omega arith

  -- what is no first item stays where that is left out
  stays : (x w : X) (ys : List X) → same x w ≡ false → list_any (same w) ys ≡ true → list_any (same w) (others x ys) ≡ true
  stays x w [] e h = h
  stays x w (y ∷ ys) e h = go (same x y) (same w y) refl refl (stays x w ys e) h
    where
      go : (b c : Bool) → same x y ≡ b → same w y ≡ c → (list_any (same w) ys ≡ true → list_any (same w) (others x ys) ≡ true) → (c || list_any (same w) ys) ≡ true
          → list_any (same w) (cond (not b) (y ∷ others x ys) (others x ys)) ≡ true
      go true true i j more h = absurd (true≢false (sym i ∙ ap (same x) (sym (same_is w y j)) ∙ e))
      go true false i j more h = more h
      go false true i j more h = ap (λ b. b || list_any (same w) (others x ys)) j
      go false false i j more h = ap (λ b. b || list_any (same w) (others x ys)) j ∙ more h

  all_stay : (x : X) (xs ys : List X) → AllByRecursion (λ z. same x z ≡ false) xs → Among xs ys → Among xs (others x ys)
  all_stay x [] ys e h = tt
  all_stay x (w ∷ xs) ys e h = (stays x w ys e.0 h.0, all_stay x xs ys e.1 h.1)

  -- different items among others are at most as many
  pub among_fewer : (xs ys : List X) → IsUnique xs → Among xs ys → length xs ≤ length ys
  among_fewer [] ys u h = omega arith
  among_fewer (x ∷ xs) ys u h =
      let more : length xs ≤ length (others x ys) = among_fewer xs (others x ys) u.1 (all_stay x xs ys u.0 h.1) in
      let one : suc (length (others x ys)) ≤ length ys = one_fewer x ys h.0 in
      omega arith

  unique_kept : (p : X → Bool) (xs : List X) → IsUnique xs → IsUnique (filter p xs)
  unique_kept p [] u = tt
  unique_kept p (x ∷ xs) u = go (p x) (unique_kept p xs u.1)
    where
      go : (b : Bool) → IsUnique (filter p xs) → IsUnique (cond b (x ∷ filter p xs) (filter p xs))
      go true more = (each_then (λ z. (same x z ≡ false) × (p z ≡ true)) (λ z. same x z ≡ false) (λ z h. h.0) (filter p xs) (each_kept (λ z. same x z ≡ false) p xs u.0), more)
      go false more = more

-- ---- different reads

same_name_refl : (k : List ℕ) → pointwise nat_eq k k ≡ true
same_name_refl [] = refl
same_name_refl (a ∷ k) = and_from (nat_eq a a) (pointwise nat_eq k k) (eq-eqb a a refl) (same_name_refl k)

same_variable_refl : (v : Variable) → same_variable v v ≡ true
same_variable_refl (node n) = eq-eqb n n refl
same_variable_refl (rel n) = eq-eqb n n refl

same_property_refl : (k : Option (List ℕ)) → same_property k k ≡ true
same_property_refl None = refl
same_property_refl (Some k) = same_name_refl k

same_read_refl : (r : Read) → same_read r r ≡ true
same_read_refl r = and_from (same_variable r.variable r.variable) (same_property r.property r.property) (same_variable_refl r.variable) (same_property_refl r.property)

-- a read is among reads
abbrev pub is_among : List Read → Read → Bool
is_among rs r = list_any (same_read r) rs

abbrev pub AllAmong : List Read → List Read → Type 0
AllAmong rs ss = AllByRecursion (λ r. is_among ss r ≡ true) rs

different : (q r : Read) → same_read q r ≡ false → same_read r q ≡ false
different q r e = go (same_read r q) refl
  where
    go : (b : Bool) → same_read r q ≡ b → same_read r q ≡ false
    go true h = let is : r ≡ q = read_is r q h in ap₂ same_read is (sym is) ∙ e
    go false h = h

abbrev differs : Read → Read → Bool
differs r q = not (same_read r q)

unique_distinct : (rs : List Read) → IsUnique same_read read_is (distinct rs)
unique_distinct [] = tt
unique_distinct (r ∷ rs) = (
  each_then (λ q. Unit {0} × (differs r q ≡ true)) (λ q. same_read r q ≡ false) (λ q h. not-true (same_read r q) h.1) (filter (differs r) (distinct rs))
      (each_kept (λ q. Unit {0}) (differs r) (distinct rs) (each_of (λ q. Unit {0}) (λ q. tt) (distinct rs))),
  unique_kept same_read read_is (differs r) (distinct rs) (unique_distinct rs),
)

each_distinct : (P : Read → Type 0) (rs : List Read) → AllByRecursion P rs → AllByRecursion P (distinct rs)
each_distinct P [] h = tt
each_distinct P (r ∷ rs) h =
    (h.0, each_then (λ q. P q × (differs r q ≡ true)) P (λ q k. k.0) (filter (differs r) (distinct rs)) (each_kept P (differs r) (distinct rs) (each_distinct P rs h.1)))

among_distinct : (r : Read) (rs : List Read) → is_among rs r ≡ true → is_among (distinct rs) r ≡ true
among_distinct r [] h = h
among_distinct r (q ∷ rs) h = go (same_read r q) refl (among_distinct r rs) h
  where
    go : (b : Bool) → same_read r q ≡ b → (is_among rs r ≡ true → is_among (distinct rs) r ≡ true) → (b || is_among rs r) ≡ true
        → (same_read r q || is_among (filter (differs q) (distinct rs)) r) ≡ true
    go true e more k = ap (λ b. b || is_among (filter (differs q) (distinct rs)) r) e
    go false e more k = ap (λ b. b || is_among (filter (differs q) (distinct rs)) r) e ∙ stays same_read read_is q r (distinct rs) (different r q e) (more k)

-- reads that are among others have at most as many different ones
pub distinct_fewer : (rs ss : List Read) → AllAmong rs ss → length (distinct rs) ≤ length (distinct ss)
distinct_fewer rs ss h =
    among_fewer same_read read_is (distinct rs) (distinct ss) (unique_distinct rs)
    (each_then (λ r. is_among ss r ≡ true) (λ r. is_among (distinct ss) r ≡ true) (λ r k. among_distinct r ss k) (distinct rs) (each_distinct (λ r. is_among ss r ≡ true) rs h))

-- ---- parts of reads

among_left : (r : Read) (rs ss : List Read) → is_among rs r ≡ true → is_among (rs ++ ss) r ≡ true
among_left r rs ss h = list_any-append (same_read r) rs ss ∙ ap (λ b. b || is_among ss r) h

among_right : (r : Read) (rs ss : List Read) → is_among ss r ≡ true → is_among (rs ++ ss) r ≡ true
among_right r rs ss h = list_any-append (same_read r) rs ss ∙ ap (λ b. is_among rs r || b) h ∙ or-true (is_among rs r)

pub all_left : (qs rs ss : List Read) → AllAmong qs rs → AllAmong qs (rs ++ ss)
all_left qs rs ss h = each_then (λ r. is_among rs r ≡ true) (λ r. is_among (rs ++ ss) r ≡ true) (λ r k. among_left r rs ss k) qs h

pub all_right : (qs rs ss : List Read) → AllAmong qs ss → AllAmong qs (rs ++ ss)
all_right qs rs ss h = each_then (λ r. is_among ss r ≡ true) (λ r. is_among (rs ++ ss) r ≡ true) (λ r k. among_right r rs ss k) qs h

pub all_self : (rs : List Read) → AllAmong rs rs
all_self [] = tt
all_self (r ∷ rs) = (ap (λ b. b || is_among rs r) (same_read_refl r), all_right rs (r ∷ []) rs (all_self rs))

all_both : (qs rs ss ts : List Read) → AllAmong qs ss → AllAmong rs ts → AllAmong (qs ++ rs) (ss ++ ts)
all_both qs rs ss ts h k = each_append (λ r. is_among (ss ++ ts) r ≡ true) qs rs (all_left qs ss ts h) (all_right rs ss ts k)

-- what is kept is among all
pub kept_among : (p : Read → Bool) (rs : List Read) → AllAmong (filter p rs) rs
kept_among p rs = each_then (λ r. (is_among rs r ≡ true) × (p r ≡ true)) (λ r. is_among rs r ≡ true) (λ r h. h.0) (filter p rs) (each_kept (λ r. is_among rs r ≡ true) p rs (all_self rs))

keeps : (p : Read → Bool) (r : Read) (ss : List Read) → p r ≡ true → is_among ss r ≡ true → is_among (filter p ss) r ≡ true
keeps p r [] e h = h
keeps p r (s ∷ ss) e h = go (same_read r s) (p s) refl refl (keeps p r ss e) h
  where
    go : (b c : Bool) → same_read r s ≡ b → p s ≡ c → (is_among ss r ≡ true → is_among (filter p ss) r ≡ true) → (b || is_among ss r) ≡ true → is_among (cond c (s ∷ filter p ss) (filter p ss)) r ≡ true
    go true true i j more k = ap (λ b. b || is_among (filter p ss) r) i
    go true false i j more k = absurd (true≢false (sym e ∙ ap p (read_is r s i) ∙ j))
    go false true i j more k = ap (λ b. b || is_among (filter p ss) r) i ∙ more k
    go false false i j more k = more k

pub both_kept : (p : Read → Bool) (rs ss : List Read) → AllAmong rs ss → AllAmong (filter p rs) (filter p ss)
both_kept p rs ss h =
    each_then (λ r. (is_among ss r ≡ true) × (p r ≡ true)) (λ r. is_among (filter p ss) r ≡ true) (λ r k. keeps p r ss k.1 k.0) (filter p rs) (each_kept (λ r. is_among ss r ≡ true) p rs h)

-- what some items read is among what all read
pub some_among : {X : Type 0} (f : X → List Read) (p : X → Bool) (xs : List X) → AllAmong (flat_map f (filter p xs)) (flat_map f xs)
some_among f p [] = tt
some_among {X} f p (x ∷ xs) = go (p x) (some_among f p xs)
  where
    go : (b : Bool) → AllAmong (flat_map f (filter p xs)) (flat_map f xs) → AllAmong (flat_map f (cond b (x ∷ filter p xs) (filter p xs))) (f x ++ flat_map f xs)
    go true more = all_both (f x) (flat_map f (filter p xs)) (f x) (flat_map f xs) (all_self (f x)) more
    go false more = all_right (flat_map f (filter p xs)) (f x) (flat_map f xs) more

-- the properties among two lists of reads are among the first list and the properties of what the second is among
pub properties_among : (qs rs ss : List Read) → AllAmong rs ss → AllAmong (properties (qs ++ rs)) (qs ++ properties ss)
properties_among qs rs ss h =
    subst (λ l. AllAmong l (qs ++ properties ss)) (sym (filter-append (λ (r : Read). is_property r.property) qs rs))
    (all_both (properties qs) (properties rs) qs (properties ss) (kept_among (λ r. is_property r.property) qs) (both_kept (λ r. is_property r.property) rs ss h))

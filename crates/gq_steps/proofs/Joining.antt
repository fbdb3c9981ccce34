-- A match of a join: what is written for it is what the plan's step makes at the place.
use Rattle.std.proofs.Common.{◌≡◌, ℕ, zero, suc, ◌+◌, ◌<◌, ◌≤◌, Bool, true, false, ◌&&◌, ◌||◌, cond, nat_eq, Some, None, List, [], ◌∷◌, ◌++◌, map, filter, length, drop, get_or, set, slice_get, refl, sym, ap, ap₂, ◌∙◌, arith, inl, inr, ◌⊎◌}
use Rattle.std.specs.Prelude.{slice_index}
use Rattle.std.specs.List.{list_all, range_with_len, AllByRecursion}
use Rattle.std.proofs.lemmas.Bool.{and_parts, eq-eqb, ne_eqb, cases_eq}
use Rattle.std.proofs.lemmas.List.{drop_more, drop_all, get_or-set_same, get_or-set_other, length-set}
use Rattle.std.proofs.lemmas.List.FromFn.{get_or-map-range_with_len}
use Rattle.std.proofs.lemmas.Option.{slice_get_within, get_or_from_slice_get}
use Rattle.gq_base.specs.Plain.{Graph}
use Rattle.gq_join.specs.Kept.{Held, has_key, matches_of, node_in}
use Rattle.gq_plan.specs.declared.assignment.Assignment.{Assignment}
use Rattle.gq_plan.specs.Allowed.{at_same}
use Rattle.gq_plan.specs.Covers.{after}
use Rattle.gq_plan.specs.Known.{Known, none}
use Rattle.gq_plan.specs.Meaning.{Partial, nothing, with_all, look, agree}
use Rattle.gq_plan.specs.Plans.{Plan, Join}
use Rattle.gq_plan.specs.declared.typed.Typed.{Typed}
use Rattle.gq_steps.specs.Built.{whole_row, IsBuildOf}
use Rattle.gq_steps.specs.Given.{given}
use Rattle.gq_steps.specs.steps.Outcomes.{set_all}
use Rattle.gq_plan.specs.Rows.{node_table, node_at}
use Rattle.gq_steps.specs.Tries.{tries}
use Rattle.gq_steps.proofs.Binding.{Looks, looks_given, swap}

-- ---- numbers that are written for several variables

pub set_all_more : (vs : List ℕ) (v : ℕ) (f : ℕ → ℕ) (xs : List ℕ) → set_all (vs ++ v ∷ []) f xs ≡ set (set_all vs f xs) v (f v)
set_all_more [] v f xs = refl
set_all_more (w ∷ vs) v f xs = set_all_more vs v f (set xs w (f w))

pub length-set_all : (vs : List ℕ) (f : ℕ → ℕ) (xs : List ℕ) → length (set_all vs f xs) ≡ length xs
length-set_all [] f xs = refl
length-set_all (v ∷ vs) f xs = length-set_all vs f (set xs v (f v)) ∙ length-set xs v (f v)

abbrev pub has : List ℕ → ℕ → Bool
has [] v = false
has (w ∷ vs) v = nat_eq w v || has vs v

pub get_set_all : (vs : List ℕ) (f : ℕ → ℕ) (xs : List ℕ) (v : ℕ) → v < length xs → get_or (set_all vs f xs) v 0 ≡ cond (has vs v) (f v) (get_or xs v 0)
get_set_all [] f xs v low = refl
get_set_all (w ∷ vs) f xs v low = get_set_all vs f (set xs w (f w)) v (omega (arith, low, length-set xs w (f w))) ∙ go (has vs v) (cases_eq w v)
  where
    go : (b : Bool) → (w ≡ v) ⊎ (w ≡ v → ⊥) → cond b (f v) (get_or (set xs w (f w)) v 0) ≡ cond (nat_eq w v || b) (f v) (get_or xs v 0)
    go true (inl e) = rw (eq-eqb w v e) refl
    go true (inr e) = rw (ne_eqb w v e) refl
    go false (inl e) = rw (eq-eqb w v e) (ap (λ u. get_or (set xs w (f u)) v 0) e ∙ ap (λ u. get_or (set xs u (f v)) v 0) e ∙ get_or-set_same xs v (f v) 0 low)
    go false (inr e) = rw (ne_eqb w v e) (get_or-set_other xs w v (f w) 0 (λ h. e (sym h)))

-- ---- variables that are kept

has_range : (p : ℕ → Bool) (a n v : ℕ) → v < a + n → a ≤ v → has (filter p (range_with_len a n)) v ≡ p v
has_range p a zero v high low = absurd (omega arith)
has_range p a (suc n) v high low = go (p a) refl (cases_eq a v) (λ more. has_range p (a + 1) n v (omega arith) more)
  where
    none_before : (b n : ℕ) → v < b → has (filter p (range_with_len b n)) v ≡ false
    none_before b zero h = refl
    none_before b (suc n) h = one (p b) (none_before (b + 1) n (omega arith))
      where
        one : (t : Bool) → has (filter p (range_with_len (b + 1) n)) v ≡ false → has (cond t (b ∷ filter p (range_with_len (b + 1) n)) (filter p (range_with_len (b + 1) n))) v ≡ false
        one true e = rw (ne_eqb b v (λ same. absurd (omega (arith, same, h)))) e
        one false e = e

    go : (t : Bool) → p a ≡ t → (a ≡ v) ⊎ (a ≡ v → ⊥) → (a + 1 ≤ v → has (filter p (range_with_len (a + 1) n)) v ≡ p v)
        → has (cond t (a ∷ filter p (range_with_len (a + 1) n)) (filter p (range_with_len (a + 1) n))) v ≡ p v
    go true is (inl e) more = rw (eq-eqb a v e) (sym is ∙ ap p e)
    go true is (inr e) more = rw (ne_eqb a v e) (more (omega (arith, e)))
    go false is (inl e) more = none_before (a + 1) n (omega (arith, e)) ∙ sym is ∙ ap p e
    go false is (inr e) more = more (omega (arith, e))

pub has_kept : (p : ℕ → Bool) (n v : ℕ) → v < n → has (filter p (range_with_len 0 n)) v ≡ p v
has_kept p n v low = has_range p 0 n v (omega arith) (omega arith)

-- ---- matches

drop_map : {X Y : Type 0} (f : X → Y) (n : ℕ) (xs : List X) → drop n (map f xs) ≡ map f (drop n xs)
drop_map f zero xs = refl
drop_map f (suc n) [] = refl
drop_map f (suc n) (x ∷ xs) = drop_map f n xs

filter_map : {X Y : Type 0} (p : Y → Bool) (f : X → Y) (xs : List X) → filter p (map f xs) ≡ map f (filter (λ x. p (f x)) xs)
filter_map p f [] = refl
filter_map p f (x ∷ xs) = go (p (f x)) (filter_map p f xs)
  where
    go : (b : Bool) → filter p (map f xs) ≡ map f (filter (λ x. p (f x)) xs) → cond b (f x ∷ filter p (map f xs)) (filter p (map f xs)) ≡ map f (cond b (x ∷ filter (λ x. p (f x)) xs) (filter (λ x. p (f x)) xs))
    go true e = ap (λ l. f x ∷ l) e
    go false e = e

map_map : {X Y Z : Type 0} (f : Y → Z) (h : X → Y) (xs : List X) → map f (map h xs) ≡ map (λ x. f (h x)) xs
map_map f h [] = refl
map_map f h (x ∷ xs) = ap (λ l. f (h x) ∷ l) (map_map f h xs)

module _ (g : Graph) (y : Typed) (side : Plan) (h : Held) (old : Assignment) (k : Known) (a : Partial) (l : Looks y old k a) where
  -- what a row of the build makes
  abbrev pub made : ℕ → Partial
  made i = given y (whole_row y h i) side nothing

  made_looks : (i : ℕ) → Looks y (whole_row y h i) (after side none) (made i)
  made_looks i = looks_given y (whole_row y h i) side none nothing (record { nodes = λ v. refl; rels = λ x. refl })

  -- it agrees on the keys with an assignment exactly where it has the assignment's nodes there
  agrees_at : (keys : List ℕ) (i : ℕ) → list_all (λ v. (after side none).nodes v && k.nodes v) keys ≡ true → AllByRecursion (λ v. v < length y.nodes) keys
      → agree keys a (made i) ≡ has_key (map (node_in h) keys) (map (slice_index old.nodes) keys) i
  agrees_at [] i both low = refl
  agrees_at (v ∷ keys) i both low =
      let parts = and_parts ((after side none).nodes v && k.nodes v) (list_all (λ v. (after side none).nodes v && k.nodes v) keys) both in
      let here = and_parts ((after side none).nodes v) (k.nodes v) parts.0 in
      let one : look a.nodes v ≡ Some (node_at y old v) = l.nodes v ∙ ap (λ b. cond b (Some (node_at y old v)) None) here.1 in
      let two : look (made i).nodes v ≡ Some (node_at y (whole_row y h i) v) = (made_looks i).nodes v ∙ ap (λ b. cond b (Some (node_at y (whole_row y h i) v)) None) here.0 in
      let there : slice_index (whole_row y h i).nodes v ≡ node_in h v i = get_or-map-range_with_len (λ v. node_in h v i) 0 (length y.nodes) v v 0 low.0 (omega arith) in
      ap₂ ◌&&◌
      (ap₂ at_same one two ∙ ap (λ b. b && nat_eq (slice_index old.nodes v) (slice_index (whole_row y h i).nodes v)) (eq-eqb (node_table y v) (node_table y v) refl)
      ∙ ap (nat_eq (slice_index old.nodes v)) there ∙ swap (slice_index old.nodes v) (node_in h v i))
      (agrees_at keys i parts.1 low.1)

  abbrev pub found : ℕ → List Partial
  found i = with_all (made i) a ∷ []

  -- the build's rows
  abbrev pub built : List Partial
  built = map made (range_with_len 0 (length h.rows))

  pub join_tries : (keys : List ℕ) → IsBuildOf g y side keys h → list_all (λ v. (after side none).nodes v && k.nodes v) keys ≡ true → AllByRecursion (λ v. v < length y.nodes) keys
      → tries g y built (Join side keys) a ≡ map found (matches_of h old)
  unfolding tries
  join_tries keys is both low =
      let all : List ℕ = range_with_len 0 (length h.rows) in
      ap (map (λ b. with_all b a ∷ [])) (filter_map (agree keys a) made all)
      ∙ map_map (λ b. with_all b a ∷ []) made (filter (λ i. agree keys a (made i)) all)
      ∙ ap (λ p. map found (filter p all)) (λ t. λ i. agrees_at keys i both low t)
      ∙ ap (λ ks. map found (filter (has_key (map (node_in h) ks) (map (slice_index old.nodes) ks)) all)) (sym is.key_list)

  module _ (keys : List ℕ) (is : IsBuildOf g y side keys h) (both : list_all (λ v. (after side none).nodes v && k.nodes v) keys ≡ true) (low : AllByRecursion (λ v. v < length y.nodes) keys) (place : ℕ) where
    pub join_here : (i : ℕ) → slice_get (matches_of h old) place ≡ Some i → drop place (tries g y built (Join side keys) a) ≡ found i ∷ drop (place + 1) (tries g y built (Join side keys) a)
    join_here i e =
        let ms : List ℕ = matches_of h old in
        ap (drop place) (join_tries keys is both low) ∙ drop_map found place ms
        ∙ ap (map found) (drop_more ms place 0 (slice_get_within ms place i e) ∙ ap (λ j. j ∷ drop (place + 1) ms) (get_or_from_slice_get ms place i 0 e))
        ∙ ap (λ l. found i ∷ l) (sym (drop_map found (place + 1) ms) ∙ ap (drop (place + 1)) (sym (join_tries keys is both low)))

    pub join_past : length (matches_of h old) ≤ place → drop place (tries g y built (Join side keys) a) ≡ []
    join_past high = ap (drop place) (join_tries keys is both low) ∙ drop_map found place (matches_of h old) ∙ ap (map found) (drop_all place (matches_of h old) high)

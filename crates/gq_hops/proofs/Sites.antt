-- Where relationships stand tells them apart.
use Rattle.std.proofs.Common.{◌≡◌, ◌≢◌, ℕ, zero, suc, ◌+◌, ◌<◌, ◌≤◌, nat_eq, Bool, true, false, ◌&&◌, ◌||◌, Some, None, List, [], ◌∷◌, map, length, take, get_or, slice_get, refl, sym, ap, ap₂, ◌∙◌, arith, inl, inr, ◌⊎◌}
use Rattle.std.specs.List.{list_any, range_with_len}
use Rattle.std.proofs.lemmas.Bool.{and_parts, cases_eq, eq-eqb, eqb-true, ne_eqb}
use Rattle.std.proofs.lemmas.Option.{get_or_from_slice_get, slice_get-get_or, slice_get_within}
use Rattle.gq_adj.specs.Adjacent.{targets}
use Rattle.gq_base.specs.Plain.{Graph}
use Rattle.gq_base.specs.declared.RelId.{RelId}
use Rattle.gq_base.specs.declared.direction.Direction.{Direction}
use Rattle.gq_plan.specs.Assignments.{same_rel}
use Rattle.gq_plan.proofs.Products.{same_rel_is}
use Rattle.gq_store.specs.Neighbours.{near_ends, neighbours, numbers}
use Rattle.gq_hops.specs.steps.Hops.{IsHop, IsSiteIn, rel_of, same_site}
use Rattle.gq_hops.specs.steps.Searches.{met_at}
use Rattle.gq_hops.specs.declared.follow.Follow.{Follow}
use Rattle.gq_hops.specs.declared.follow.Followed.{Followed}
use Rattle.gq_hops.specs.declared.follow.Hop.{Hop}
use Rattle.gq_hops.specs.declared.follow.Met.{Met}
use Rattle.gq_hops.proofs.Following.{as_many, get_some}

-- ---- a number stands once in the lists of all rows

-- a number stands at a place of a row's list, where the first source has some number
abbrev IsListed : ℕ → List ℕ → ℕ → ℕ → ℕ → Type 0
IsListed row from first i k = slice_get (targets row from (range_with_len first (length from))) i ≡ Some k

first_least : (row : ℕ) (from : List ℕ) (first i k : ℕ) → IsListed row from first i k → first ≤ k
first_least row [] first i k is = absurd (cc is)
first_least row (f ∷ fs) first i k is = go (cases_eq f row) i is (λ j. first_least row fs (first + 1) j k)
  where
    go : (f ≡ row) ⊎ (f ≡ row → ⊥) → (i : ℕ) → IsListed row (f ∷ fs) first i k → ((j : ℕ) → IsListed row fs (first + 1) j k → first + 1 ≤ k) → first ≤ k
    go (inl same) zero e more =
        let here : Some first ≡ Some k = rw (eq-eqb f row same) at e in
        let is_first : first ≡ k = cc here in
        omega (arith, is_first)
    go (inl same) (suc j) e more =
        let later : IsListed row fs (first + 1) j k = rw (eq-eqb f row same) at e in
        omega (arith, more j later)
    go (inr other) j e more =
        let later : IsListed row fs (first + 1) j k = rw (ne_eqb f row other) at e in
        omega (arith, more j later)

record IsOnce (row other i j : ℕ) : Type 0 where
  row_is : row ≡ other
  place_is : i ≡ j

module _ (f first row other k : ℕ) (fs : List ℕ) where
  not_first : (r p : ℕ) → IsListed r fs (first + 1) p k → Some first ≡ Some k → ⊥
  not_first r p later is =
      let is_first : first ≡ k = cc is in
      omega (arith, first_least r fs (first + 1) p k later, is_first)

  once_more : ((i j : ℕ) → IsListed row fs (first + 1) i k → IsListed other fs (first + 1) j k → IsOnce row other i j) → (f ≡ row) ⊎ (f ≡ row → ⊥) → (f ≡ other) ⊎ (f ≡ other → ⊥) → (i j : ℕ)
      → IsListed row (f ∷ fs) first i k → IsListed other (f ∷ fs) first j k → IsOnce row other i j
  once_more more (inl a) (inl b) zero zero one two = record { row_is = sym a ∙ b; place_is = refl }
  once_more more (inl a) (inl b) zero (suc j) one two =
      let here : Some first ≡ Some k = rw (eq-eqb f row a) at one in
      let later : IsListed other fs (first + 1) j k = rw (eq-eqb f other b) at two in
      absurd (not_first other j later here)
  once_more more (inl a) (inl b) (suc i) zero one two =
      let here : Some first ≡ Some k = rw (eq-eqb f other b) at two in
      let later : IsListed row fs (first + 1) i k = rw (eq-eqb f row a) at one in
      absurd (not_first row i later here)
  once_more more (inl a) (inl b) (suc i) (suc j) one two =
      let left : IsListed row fs (first + 1) i k = rw (eq-eqb f row a) at one in
      let right : IsListed other fs (first + 1) j k = rw (eq-eqb f other b) at two in
      let rest : IsOnce row other i j = more i j left right in
      record { row_is = rest.row_is; place_is = ap suc rest.place_is }
  once_more more (inl a) (inr b) zero j one two =
      let here : Some first ≡ Some k = rw (eq-eqb f row a) at one in
      let later : IsListed other fs (first + 1) j k = rw (ne_eqb f other b) at two in
      absurd (not_first other j later here)
  once_more more (inl a) (inr b) (suc i) j one two =
      let left : IsListed row fs (first + 1) i k = rw (eq-eqb f row a) at one in
      let right : IsListed other fs (first + 1) j k = rw (ne_eqb f other b) at two in
      let rest : IsOnce row other i j = more i j left right in
      absurd (b (a ∙ rest.row_is))
  once_more more (inr a) (inl b) i zero one two =
      let here : Some first ≡ Some k = rw (eq-eqb f other b) at two in
      let later : IsListed row fs (first + 1) i k = rw (ne_eqb f row a) at one in
      absurd (not_first row i later here)
  once_more more (inr a) (inl b) i (suc j) one two =
      let left : IsListed row fs (first + 1) i k = rw (ne_eqb f row a) at one in
      let right : IsListed other fs (first + 1) j k = rw (eq-eqb f other b) at two in
      let rest : IsOnce row other i j = more i j left right in
      absurd (a (b ∙ sym rest.row_is))
  once_more more (inr a) (inr b) i j one two =
      let left : IsListed row fs (first + 1) i k = rw (ne_eqb f row a) at one in
      let right : IsListed other fs (first + 1) j k = rw (ne_eqb f other b) at two in
      more i j left right

listed_once : (from : List ℕ) (first row other i j k : ℕ) → IsListed row from first i k → IsListed other from first j k → IsOnce row other i j
listed_once [] first row other i j k one two = absurd (cc one)
listed_once (f ∷ fs) first row other i j k one two =
    once_more f first row other k fs (λ p q. listed_once fs (first + 1) row other p q k) (cases_eq f row) (cases_eq f other) i j one two

-- ---- the relationship of a site

pub rel_is : (f : Follow) (m : Met) (h : Hop) → IsHop f m h → rel_of f.graph.now f.way m ≡ h.rel
rel_is f m h is =
    let row : get_or (numbers f.graph.now m.table f.way m.near) m.place 0 ≡ h.rel.row = get_or_from_slice_get (numbers f.graph.now m.table f.way m.near) m.place h.rel.row 0 is.number in
    λ i. record { table = sym is.table i; row = row i }

module _ (g : Graph) (es : List Followed) (way : Direction) where
  number_is : (m : Met) → IsSiteIn g es way m → slice_get (numbers g m.table way m.near) m.place ≡ Some (get_or (numbers g m.table way m.near) m.place 0)
  number_is m site =
      let k = get_some g.catalog.rels m.table site.within in
      let low : m.place < length (neighbours g m.table way m.near) = slice_get_within (neighbours g m.table way m.near) m.place m.node.row site.leads in
      slice_get-get_or (numbers g m.table way m.near) m.place 0 (omega (arith, low, as_many g m.table k.0 k.1 way m.near))

  both : (a b : Bool) → a ≡ true → b ≡ true → (a && b) ≡ true
  both a b x y = rw (x, y) refl

  agree : (a b : Bool) → (a ≡ true → b ≡ true) → (b ≡ true → a ≡ true) → a ≡ b
  agree true b there back = sym (there refl)
  agree false true there back = back refl
  agree false false there back = refl

  one_site : (m q : Met) → IsSiteIn g es way m → IsSiteIn g es way q → same_rel (rel_of g way m) (rel_of g way q) ≡ true → same_site m q ≡ true
  one_site m q here there same =
      let parts = and_parts (nat_eq m.table q.table) (nat_eq (rel_of g way m).row (rel_of g way q).row) same in
      let table : m.table ≡ q.table = eqb-true m.table q.table parts.0 in
      let row : (rel_of g way m).row ≡ (rel_of g way q).row = eqb-true (rel_of g way m).row (rel_of g way q).row parts.1 in
      let one : slice_get (numbers g m.table way m.near) m.place ≡ Some (rel_of g way m).row = number_is m here in
      let two : slice_get (numbers g m.table way q.near) q.place ≡ Some (rel_of g way m).row =
      ap (λ t. slice_get (numbers g t way q.near) q.place) table ∙ number_is q there ∙ ap Some (sym row) in
      let once = listed_once (near_ends g m.table way) 0 m.near q.near m.place q.place (rel_of g way m).row one two in
      both (nat_eq m.place q.place && nat_eq m.near q.near) (nat_eq m.table q.table)
      (both (nat_eq m.place q.place) (nat_eq m.near q.near) (eq-eqb m.place q.place once.place_is) (eq-eqb m.near q.near once.row_is))
      (eq-eqb m.table q.table table)

  one_rel : (m q : Met) → same_site m q ≡ true → same_rel (rel_of g way m) (rel_of g way q) ≡ true
  one_rel m q same =
      let outer = and_parts (nat_eq m.place q.place && nat_eq m.near q.near) (nat_eq m.table q.table) same in
      let inner = and_parts (nat_eq m.place q.place) (nat_eq m.near q.near) outer.0 in
      let place : m.place ≡ q.place = eqb-true m.place q.place inner.0 in
      let near : m.near ≡ q.near = eqb-true m.near q.near inner.1 in
      let table : m.table ≡ q.table = eqb-true m.table q.table outer.1 in
      let row : (rel_of g way m).row ≡ (rel_of g way q).row =
      ap (λ t. get_or (numbers g t way m.near) m.place 0) table ∙ ap₂ (λ n p. get_or (numbers g q.table way n) p 0) near place in
      both (nat_eq m.table q.table) (nat_eq (rel_of g way m).row (rel_of g way q).row) (eq-eqb m.table q.table table) (eq-eqb (rel_of g way m).row (rel_of g way q).row row)

  same_is : (m q : Met) → IsSiteIn g es way m → IsSiteIn g es way q → same_rel (rel_of g way m) (rel_of g way q) ≡ same_site m q
  same_is m q here there = agree (same_rel (rel_of g way m) (rel_of g way q)) (same_site m q) (one_site m q here there) (one_rel m q)

  -- whether a relationship stands among the first ones
  pub stands_by : (m : Met) → IsSiteIn g es way m → (ms : List Met) (n : ℕ) → n ≤ length ms → ((i : ℕ) → i < n → IsSiteIn g es way (met_at ms i))
      → list_any (same_rel (rel_of g way m)) (take n (map (rel_of g way) ms)) ≡ list_any (same_site m) (take n ms)
  stands_by m here ms zero low sites = refl
  stands_by m here [] (suc n) low sites = refl
  stands_by m here (q ∷ ms) (suc n) low sites =
      ap₂ (λ a b. a || b) (same_is m q here (sites 0 (omega arith))) (stands_by m here ms n (omega (arith, low)) (λ i less. sites (suc i) (omega (arith, less))))

-- the relationship at a place
pub get_taken : {X Y : Type 0} (f : X → Y) (xs : List X) (n place : ℕ) (x : X) → place < n → slice_get xs place ≡ Some x → slice_get (take n (map f xs)) place ≡ Some (f x)
get_taken f xs zero place x low is = absurd (omega (arith, low))
get_taken f [] (suc n) place x low is = absurd (cc is)
get_taken f (y ∷ xs) (suc n) zero x low is = let same : y ≡ x = cc is in ap (λ z. Some (f z)) same
get_taken f (y ∷ xs) (suc n) (suc place) x low is = get_taken f xs n place x (omega (arith, low)) is

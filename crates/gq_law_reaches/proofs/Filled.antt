-- What trails bind they bind in one way, and behind all of them each variable of the query is bound.
use Rattle.std.proofs.Common.{◌≡◌, ℕ, ◌+◌, ◌<◌, ◌≤◌, Bool, true, false, not, ◌&&◌, ◌||◌, nat_eq, nat_lt, Option, Some, None, List, [], ◌∷◌, map, flat_map, length, refl, sym, ap, ap₂, ◌∙◌, arith, zero-add, suc, true≢false}
use Rattle.std.specs.List.{AllByRecursion, list_any}
use Rattle.std.proofs.lemmas.Bool.{ne_eqb}
use Rattle.std.proofs.lemmas.Bool.Decides.{nat_tests}
use Rattle.gq_base.specs.Plain.{Graph}
use Rattle.gq_base.specs.declared.NodeId.{NodeId}
use Rattle.gq_base.specs.declared.RelId.{RelId}
use Rattle.gq_plan.specs.Allowed.{at_same}
use Rattle.gq_plan.specs.Meaning.{Partial, keep_if, look, with_node}
use Rattle.gq_plan.specs.Soundness.{has_number}
use Rattle.gq_plan.specs.declared.NamedExpr.{NamedExpr}
use Rattle.gq_plan.proofs.Each.{each_flat_map, each_map, each_of}
use Rattle.gq_plan.proofs.Permuted.{range_any}
use Rattle.gq_law_plans.specs.Bindings.{bound}
use Rattle.gq_law_plans.proofs.Lookups.{Found, eqb_swap, found_bind}
use Rattle.gq_law_trails.specs.Met.{knows_more}
use Rattle.gq_law_trails.specs.Trails.{Trailing, after_trails, arrivals, arrive_at, fits_end, walks_from, with_list}
use Rattle.gq_law_trails.specs.Walks.{end_of}
use Rattle.gq_plan.specs.declared.TrailPart.{TrailPart}
use Rattle.gq_scopes.specs.Patterns.{MapEntry, Pattern}
use Rattle.gq_law_reaches.specs.Core.{numbered, part_of, parts_from}
use Rattle.gq_law_reaches.specs.Cores.{AreReached}
use Rattle.gq_law_reaches.specs.Reaches.{TrailPattern}
use Rattle.gq_law_reaches.specs.Turned.{binds}
use Rattle.gq_law_reaches.proofs.Cored.{numbered_bound}
use Rattle.gq_law_reaches.proofs.Orders.{knows_on}

-- ---- items with their numbers are bound in one way

module _ {X : Type 0} where
  later_numbers : (i j : ℕ) (xs : List X) → j < i → bound (numbered i xs) j ≡ false
  later_numbers i j [] low = refl
  later_numbers i j (x ∷ xs) low = ap₂ ◌||◌ (ne_eqb j i (λ e. omega (arith, e, low))) (later_numbers (i + 1) j xs (omega arith))

  pub numbers_found : (i : ℕ) (xs : List X) → Found (numbered i xs) (numbered i xs)
  numbers_found i [] = tt
  numbers_found i (x ∷ xs) = found_bind i x (numbered (i + 1) xs) (later_numbers (i + 1) i xs (omega arith)) (numbers_found (i + 1) xs)

  pub numbers_bound : (xs : List X) (v : ℕ) → bound (numbered 0 xs) v ≡ nat_lt v (length xs)
  numbers_bound xs v = numbered_bound 0 xs v ∙ range_any v 0 (length xs) (omega arith) ∙ ap (nat_lt v) (zero-add (length xs))

-- ---- what is known behind trails

abbrev pub IsNew : Bool → Bool → Type 0
IsNew true there = Unit {0}
IsNew false there = there ≡ false

-- a trail binds its other end only where that is not known
abbrev pub AreNew : List TrailPart → (ℕ → Bool) → Type 0
AreNew [] k = Unit {0}
AreNew (p ∷ ps) k = IsNew p.both (k p.to) × AreNew ps (knows_more p.both p.to k)

abbrev pub known_behind : List TrailPart → (ℕ → Bool) → ℕ → Bool
known_behind [] k = k
known_behind (p ∷ ps) k = known_behind ps (knows_more p.both p.to k)

pub known_or_bound : (ps : List TrailPart) (k : ℕ → Bool) (v : ℕ) → known_behind ps k v ≡ (k v || list_any (binds v) ps)
known_or_bound [] k v = none (k v)
  where
    none : (b : Bool) → b ≡ (b || false)
    none true = refl
    none false = refl
known_or_bound (p ∷ ps) k v = known_or_bound ps (knows_more p.both p.to k) v ∙ go p.both
  where
    turn : (a b c : Bool) → ((a || b) || c) ≡ (b || (a || c))
    turn a b c = grind arith

    go : (both : Bool) → (knows_more both p.to k v || list_any (binds v) ps) ≡ (k v || ((not both && nat_eq p.to v) || list_any (binds v) ps))
    go true = refl
    go false = turn (nat_eq v p.to) (k v) (list_any (binds v) ps) ∙ ap (λ b. k v || (b || list_any (binds v) ps)) (eqb_swap v p.to)

module _ (test : MapEntry → NamedExpr) (p : Pattern) where
  new_one : (left right : Bool) (k : ℕ → Bool) (w : TrailPattern) → (left || right) ≡ true → k w.left ≡ left → k w.right ≡ right
      → IsNew (part_of test p left right w).both (k (part_of test p left right w).to)
  new_one true true k w one l r = tt
  new_one true false k w one l r = r
  new_one false true k w one l r = l
  new_one false false k w one l r = absurd (true≢false (sym one))

  -- trails bind what is not known
  pub new_from : (ws : List TrailPattern) (known : List ℕ) (k : ℕ → Bool) → ((v : ℕ) → k v ≡ has_number known v) → AreReached known ws → AreNew (parts_from test p known ws) k
  new_from [] known k same reached = tt
  new_from (w ∷ ws) known k same reached =
      let q : TrailPart = part_of test p (has_number known w.left) (has_number known w.right) w in (
        new_one (has_number known w.left) (has_number known w.right) k w reached.0 (same w.left) (same w.right),
        new_from ws (w.left ∷ w.right ∷ known) (knows_more q.both q.to k)
            (λ v. knows_on test p (has_number known w.left) (has_number known w.right) k w reached.0 (same w.left) (same w.right) v ∙ ap (λ c. nat_eq v w.left || (nat_eq v w.right || c)) (same v)) reached.1,
      )

-- ---- what trails have bound

-- all is bound in one way, and these variables are; the relationships are those of before; and there is a list for each trail
pub record IsBehind (k : ℕ → Bool) (rels : List (ℕ × RelId)) (many : ℕ) (m : Trailing) : Type 0 where
  pub found : Found m.row.nodes m.row.nodes
  pub nodes : (v : ℕ) → bound m.row.nodes v ≡ k v
  pub rels_are : m.row.rels ≡ rels
  pub lists : length m.lists ≡ many

module _ (g : Graph) (patterns : ℕ → List RelId) where
  -- where a trail arrives
  record HasArrived (k : ℕ → Bool) (rels : List (ℕ × RelId)) (b : Partial) : Type 0 where
    found : Found b.nodes b.nodes
    nodes : (v : ℕ) → bound b.nodes v ≡ k v
    rels_are : b.rels ≡ rels

  kept : (k : ℕ → Bool) (rels : List (ℕ × RelId)) (b : Bool) (a : Partial) → HasArrived k rels a → AllByRecursion (HasArrived k rels) (keep_if b a)
  kept k rels true a h = (h, tt)
  kept k rels false a h = tt

  arrived : (p : TrailPart) (a : Partial) (k : ℕ → Bool) → ((v : ℕ) → bound a.nodes v ≡ k v) → IsNew p.both (k p.to) → Found a.nodes a.nodes
      → (o : Option NodeId) → AllByRecursion (HasArrived (knows_more p.both p.to k) a.rels) (arrivals g p a o)
  arrived p a k same new h None = tt
  arrived p a k same new h (Some n) = go p.both new
    where
      go : (c : Bool) → IsNew c (k p.to) → AllByRecursion (HasArrived (knows_more c p.to k) a.rels) (arrive_at c g p a n)
      go true new = kept k a.rels (at_same (look a.nodes p.to) (Some n)) a (record { found = h; nodes = same; rels_are = refl })
      go false new =
          kept (knows_more false p.to k) a.rels (fits_end g p n) (with_node p.to n a)
          (record { found = found_bind p.to n a.nodes (same p.to ∙ new) h; nodes = λ v. ap (λ b. nat_eq v p.to || b) (same v); rels_are = refl })

  pub each_behind : (ps : List TrailPart) (a : Partial) (ws : List (ℕ × List RelId)) (k : ℕ → Bool) (rels : List (ℕ × RelId))
      → ((v : ℕ) → bound a.nodes v ≡ k v) → a.rels ≡ rels → AreNew ps k → Found a.nodes a.nodes
      → AllByRecursion (IsBehind (known_behind ps k) rels (length ps)) (after_trails g patterns ps a ws)
  unfolding after_trails
  each_behind [] a ws k rels same is new h = (record { found = h; nodes = same; rels_are = is; lists = refl }, tt)
  each_behind (p ∷ ps) a ws k rels same is new h =
      each_flat_map (λ (l : List RelId). Unit {0}) (IsBehind (known_behind (p ∷ ps) k) rels (length (p ∷ ps)))
      (λ l. flat_map_of l)
      (λ l _. each_flat_map (HasArrived (knows_more p.both p.to k) a.rels) (IsBehind (known_behind (p ∷ ps) k) rels (length (p ∷ ps)))
      (λ b. map (with_list l) (after_trails g patterns ps b ((p.clause, l) ∷ ws)))
      (λ b here. each_map (IsBehind (known_behind ps (knows_more p.both p.to k)) rels (length ps)) (IsBehind (known_behind (p ∷ ps) k) rels (length (p ∷ ps))) (with_list l)
      (λ m rest. record { found = rest.found; nodes = rest.nodes; rels_are = rest.rels_are; lists = ap suc rest.lists })
      (after_trails g patterns ps b ((p.clause, l) ∷ ws))
      (each_behind ps b ((p.clause, l) ∷ ws) (knows_more p.both p.to k) rels here.nodes (here.rels_are ∙ is) new.1 here.found))
      (arrivals g p a (end_of g p.way (look a.nodes p.from) l)) (arrived p a k same new.0 h (end_of g p.way (look a.nodes p.from) l)))
      (walks_from g patterns p a ws) (each_of (λ (l : List RelId). Unit {0}) (λ l. tt) (walks_from g patterns p a ws))
    where
      flat_map_of : List RelId → List Trailing
      flat_map_of l = flat_map (λ b. map (with_list l) (after_trails g patterns ps b ((p.clause, l) ∷ ws))) (arrivals g p a (end_of g p.way (look a.nodes p.from) l))

-- ---- all variables

-- where each variable outside the first k is bound by a part, and parts bind only variables below n
pub filled : (k n : ℕ) (ps : List TrailPart) → k ≤ n → AllByRecursion (λ (q : TrailPart). q.to < n) ps
    → ((v : ℕ) → nat_lt v k ≡ false → v < n → list_any (binds v) ps ≡ true)
    → (v : ℕ) → known_behind ps (λ w. nat_lt w k) v ≡ nat_lt v n
filled k n ps few ends all v = known_or_bound ps (λ w. nat_lt w k) v ∙ go (nat_lt v k) refl (nat_lt v n) refl
  where
    outside : (qs : List TrailPart) → AllByRecursion (λ (q : TrailPart). q.to < n) qs → n ≤ v → list_any (binds v) qs ≡ false
    outside [] low high = refl
    outside (q ∷ qs) low high =
        let other : nat_eq q.to v ≡ false = ne_eqb q.to v (λ e. let under : q.to < n = low.0 in omega (arith, e, under, high)) in
        ap₂ (λ a b. (not q.both && a) || b) other (outside qs low.1 high) ∙ neither (not q.both)
      where
        neither : (b : Bool) → ((b && false) || false) ≡ false
        neither true = refl
        neither false = refl

    go : (a : Bool) → nat_lt v k ≡ a → (b : Bool) → nat_lt v n ≡ b → (a || list_any (binds v) ps) ≡ b
    go true inner true low = refl
    go true inner false high =
        let in_core : v < k = grind (arith, nat_tests, inner) in
        let out : n ≤ v = grind (arith, nat_tests, high) in
        absurd (omega (arith, in_core, out, few))
    go false outer true low = all v outer (grind (arith, nat_tests, low))
    go false outer false high = outside ps ends (grind (arith, nat_tests, high))

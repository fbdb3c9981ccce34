-- Walks that repeat no relationship lead to the nodes to which walks lead that may: of one that repeats a relationship, the part
-- between can be cut out.
use Rattle.std.proofs.Common.{◌≡◌, ◌⊎◌, inl, inr, ℕ, zero, suc, ◌+◌, ◌≤◌, Bool, true, false, not, ◌&&◌, ◌||◌, cond, nat_eq, Option, Some, None, List, [], ◌∷◌, map, filter, flat_map, length, refl, sym, ap, ap₂, ◌∙◌, subst, arith, true≢false, zero-add}
use Rattle.std.specs.Prelude.{nat_le}
use Rattle.std.specs.List.{list_all, list_any}
use Rattle.std.proofs.lemmas.Bool.{and_parts, and_from, eq-eqb}
use Rattle.std.proofs.lemmas.Bool.Decides.{nat_tests}
use Rattle.std.proofs.lemmas.List.Folds.{list_any-append}
use Rattle.gq_base.specs.Lists.{all_distinct}
use Rattle.gq_base.specs.Plain.{Graph}
use Rattle.gq_base.specs.declared.NodeId.{NodeId}
use Rattle.gq_base.specs.declared.RelId.{RelId}
use Rattle.gq_base.specs.declared.direction.Direction.{Direction}
use Rattle.gq_plan.specs.Allowed.{at_same}
use Rattle.gq_plan.specs.Assignments.{all_rels, is_rel, same_rel}
use Rattle.gq_plan.specs.Meaning.{far, near}
use Rattle.gq_plan.specs.Counts.{bit, hits}
use Rattle.gq_plan.proofs.Permuted.{list_any_map}
use Rattle.std.specs.Cmp.Lexicographic.{pointwise}
use Rattle.gq_plan.proofs.Products.{same_list_is, same_rel_is}
use Rattle.gq_law_plans.proofs.Wholes.{bool_iff}
use Rattle.gq_law_trails.specs.Walks.{are_free, chained_by, end_of, is_of_type, is_walk, may_follow, pred, walks}
use Rattle.gq_law_ends.specs.Leading.{WalksLead, leads_to}
use Rattle.gq_law_trails.proofs.Free.{free_is}
use Rattle.gq_law_trails.proofs.Meant.{walks_are}
use Rattle.gq_law_plans.proofs.Numbering.{rel_hits}
use Rattle.gq_law_trails.proofs.Once.{walks_once}

-- ---- tests of lists

pub or_parts : (a b : Bool) → (a || b) ≡ true → (a ≡ true) ⊎ (b ≡ true)
or_parts true b h = inl refl
or_parts false b h = inr h

pub or_first : (a b : Bool) → a ≡ true → (a || b) ≡ true
or_first a b h = ap (λ c. c || b) h

pub or_second : (a b : Bool) → b ≡ true → (a || b) ≡ true
or_second true b h = refl
or_second false b h = h

pub any_more : {X : Type 0} (p q : X → Bool) → ((x : X) → p x ≡ true → q x ≡ true) → (xs : List X) → list_any p xs ≡ true → list_any q xs ≡ true
any_more p q more [] h = absurd (true≢false (sym h))
any_more p q more (x ∷ xs) h =
    elim (or_parts (p x) (list_any p xs) h) as (λ _. list_any q (x ∷ xs) ≡ true)
    [ inl e ↦ or_first (q x) (list_any q xs) (more x e) | inr e ↦ or_second (q x) (list_any q xs) (any_more p q more xs e) ]

any_flat_map : {X Y : Type 0} (p : Y → Bool) (f : X → List Y) (xs : List X) → list_any p (flat_map f xs) ≡ list_any (λ x. list_any p (f x)) xs
any_flat_map p f [] = refl
any_flat_map p f (x ∷ xs) = list_any-append p (f x) (flat_map f xs) ∙ ap (λ b. list_any p (f x) || b) (any_flat_map p f xs)

pub any_filter : {X : Type 0} (p q : X → Bool) (xs : List X) → list_any p (filter q xs) ≡ list_any (λ x. q x && p x) xs
any_filter p q [] = refl
any_filter p q (x ∷ xs) = go (q x) (any_filter p q xs)
  where
    go : (b : Bool) → list_any p (filter q xs) ≡ list_any (λ z. q z && p z) xs → list_any p (cond b (x ∷ filter q xs) (filter q xs)) ≡ ((b && p x) || list_any (λ z. q z && p z) xs)
    go true e = ap (λ b. p x || b) e
    go false e = e

-- what stands in a list makes a test of it true
pub any_there : {X : Type 0} (same p : X → Bool) → ((z : X) → same z ≡ true → p z ≡ true) → (xs : List X) → 1 ≤ hits same xs → list_any p xs ≡ true
any_there same p is [] h = absurd (omega (arith, h))
any_there same p is (x ∷ xs) h = go (same x) refl (any_there same p is xs)
  where
    go : (b : Bool) → same x ≡ b → (1 ≤ hits same xs → list_any p xs ≡ true) → list_any p (x ∷ xs) ≡ true
    go true e next = or_first (p x) (list_any p xs) (is x e)
    go false e next =
        or_second (p x) (list_any p xs)
        (next (subst (λ n. 1 ≤ n) (zero-add (hits same xs)) (subst (λ b. 1 ≤ bit b + hits same xs) e h)))

same_itself : (r : RelId) → same_rel r r ≡ true
same_itself r = and_from (nat_eq r.table r.table) (nat_eq r.row r.row) (eq-eqb r.table r.table refl) (eq-eqb r.row r.row refl)

-- a relationship of a list that passes a test
pub record Passing (p : RelId → Bool) (rs : List RelId) : Type 0 where
  pub rel : RelId
  pub passes : p rel ≡ true
  pub there : 1 ≤ hits (same_rel rel) rs

pub passing : (p : RelId → Bool) (rs : List RelId) → list_any p rs ≡ true → Passing p rs
passing p [] h = absurd (true≢false (sym h))
passing p (r ∷ rs) h =
    elim (or_parts (p r) (list_any p rs) h) as (λ _. Passing p (r ∷ rs)) [
      | inl e ↦ record { rel = r; passes = e; there = subst (λ b. 1 ≤ bit b + hits (same_rel r) rs) (sym (same_itself r)) (omega arith) }
      | inr e ↦ let more = passing p rs e in
          record { rel = more.rel; passes = more.passes; there = later more }
    ]
  where
    later : (more : Passing p rs) → 1 ≤ hits (same_rel more.rel) (r ∷ rs)
    later more = let there = more.there in omega (arith, there)

-- ---- walks by tests

abbrev Within : List RelId → List RelId → Type 0
Within used more = (r : RelId) → list_any (same_rel r) used ≡ true → list_any (same_rel r) more ≡ true

not_less : (used more : List RelId) → Within used more → (r : RelId) → not (list_any (same_rel r) more) ≡ true → not (list_any (same_rel r) used) ≡ true
not_less used more w r h = go (list_any (same_rel r) used) refl
  where
    go : (b : Bool) → list_any (same_rel r) used ≡ b → not (list_any (same_rel r) used) ≡ true
    go false e = ap not e
    go true e = absurd (true≢false (sym h ∙ ap not (w r e)))

module _ (g : Graph) (kind : List ℕ) (way : Direction) (n : NodeId) where
  abbrev ends_there : Option NodeId → List RelId → Bool
  ends_there at l = at_same (end_of g way at l) (Some n)

  -- some walk ends at the node
  abbrev ends : ℕ → ℕ → Option NodeId → List RelId → Bool
  ends low high at used = list_any (ends_there at) (walks g kind way low high at used)

  stop_any : (b : Bool) (at : Option NodeId) → list_any (ends_there at) (cond b ([] ∷ []) []) ≡ (b && at_same at (Some n))
  stop_any true at = alone (at_same at (Some n))
    where
      alone : (b : Bool) → (b || false) ≡ b
      alone true = refl
      alone false = refl
  stop_any false at = refl

  ends_none : (low : ℕ) (at : Option NodeId) (used : List RelId) → ends low zero at used ≡ (nat_eq low 0 && at_same at (Some n))
  unfolding walks
  ends_none low at used = stop_any (nat_eq low 0) at

  ends_more : (low high : ℕ) (at : Option NodeId) (used : List RelId)
      → ends low (suc high) at used
      ≡ ((nat_eq low 0 && at_same at (Some n)) || list_any (λ r. may_follow g kind way at used r && ends (pred low) high (far g way r) (r ∷ used)) (all_rels g))
  unfolding walks
  ends_more low high at used =
      list_any-append (ends_there at) (cond (nat_eq low 0) ([] ∷ []) []) _
      ∙ ap₂ ◌||◌ (stop_any (nat_eq low 0) at)
      (any_flat_map (ends_there at) (λ r. map (λ l. r ∷ l) (walks g kind way (pred low) high (far g way r) (r ∷ used))) (filter (may_follow g kind way at used) (all_rels g))
      ∙ any_filter (λ r. list_any (ends_there at) (map (λ l. r ∷ l) (walks g kind way (pred low) high (far g way r) (r ∷ used)))) (may_follow g kind way at used) (all_rels g)
      ∙ ap (λ f. list_any f (all_rels g)) (λ i r. may_follow g kind way at used r && each r i))
    where
      each : (r : RelId) → list_any (ends_there at) (map (λ l. r ∷ l) (walks g kind way (pred low) high (far g way r) (r ∷ used))) ≡ ends (pred low) high (far g way r) (r ∷ used)
      each r = list_any_map (ends_there at) (λ l. r ∷ l) (walks g kind way (pred low) high (far g way r) (r ∷ used))

  -- ---- a walk is one that may repeat relationships

  follows_less : (at : Option NodeId) (used more : List RelId) → Within used more → (r : RelId) → may_follow g kind way at more r ≡ true → may_follow g kind way at used r ≡ true
  follows_less at used more w r h =
      let parts = and_parts (is_of_type g kind r && at_same at (near g way r)) (not (list_any (same_rel r) more)) h in
      and_from (is_of_type g kind r && at_same at (near g way r)) (not (list_any (same_rel r) used)) parts.0 (not_less used more w r parts.1)

  led : (low high : ℕ) (at : Option NodeId) (used more : List RelId) → Within used more → ends low high at more ≡ true
      → ((nat_eq low 0 && at_same at (Some n)) ≡ true) ⊎ (leads_to g kind way used high at n ≡ true)
  unfolding leads_to
  led low zero at used more w h = inl (sym (ends_none low at more) ∙ h)
  led low (suc high) at used more w h =
      go (λ r k. led (pred low) high (far g way r) used (r ∷ more) (λ q e. or_second (same_rel q r) (list_any (same_rel q) more) (w q e)) k)
      (or_parts (nat_eq low 0 && at_same at (Some n)) (list_any (λ r. may_follow g kind way at more r && ends (pred low) high (far g way r) (r ∷ more)) (all_rels g)) (sym (ends_more low high at more) ∙ h))
    where
      arrives : (b : Bool) (r : RelId) → ((b && at_same (far g way r) (Some n)) ≡ true) ⊎ (leads_to g kind way used high (far g way r) n ≡ true)
          → (at_same (far g way r) (Some n) || leads_to g kind way used high (far g way r) n) ≡ true
      arrives b r (inl e) = or_first (at_same (far g way r) (Some n)) (leads_to g kind way used high (far g way r) n) (and_parts b (at_same (far g way r) (Some n)) e).1
      arrives b r (inr e) = or_second (at_same (far g way r) (Some n)) (leads_to g kind way used high (far g way r) n) e

      go : ((r : RelId) → ends (pred low) high (far g way r) (r ∷ more) ≡ true
          → ((nat_eq (pred low) 0 && at_same (far g way r) (Some n)) ≡ true) ⊎ (leads_to g kind way used high (far g way r) n ≡ true))
          → ((nat_eq low 0 && at_same at (Some n)) ≡ true) ⊎ (list_any (λ r. may_follow g kind way at more r && ends (pred low) high (far g way r) (r ∷ more)) (all_rels g) ≡ true)
          → ((nat_eq low 0 && at_same at (Some n)) ≡ true)
          ⊎ (list_any (λ r. may_follow g kind way at used r && (at_same (far g way r) (Some n) || leads_to g kind way used high (far g way r) n)) (all_rels g) ≡ true)
      go next (inl e) = inl e
      go next (inr e) =
          inr
          (any_more (λ r. may_follow g kind way at more r && ends (pred low) high (far g way r) (r ∷ more))
          (λ r. may_follow g kind way at used r && (at_same (far g way r) (Some n) || leads_to g kind way used high (far g way r) n))
          (λ r k.
          let parts = and_parts (may_follow g kind way at more r) (ends (pred low) high (far g way r) (r ∷ more)) k in
          and_from (may_follow g kind way at used r) (at_same (far g way r) (Some n) || leads_to g kind way used high (far g way r) n)
          (follows_less at used more w r parts.0) (arrives (nat_eq (pred low) 0) r (next r parts.1)))
          (all_rels g) e)

  -- ---- relationships that lead there

  record Strolled (used : List RelId) (high : ℕ) (at : Option NodeId) : Type 0 where
    pub rels : List RelId
    pub some : 1 ≤ length rels
    pub few : length rels ≤ high
    pub there : list_all (is_rel g) rels ≡ true
    pub typed : list_all (is_of_type g kind) rels ≡ true
    pub unused : list_all (λ (r : RelId). not (list_any (same_rel r) used)) rels ≡ true
    pub chain : chained_by g way at rels (Some n) ≡ true

  is_there : (r : RelId) → 1 ≤ hits (same_rel r) (all_rels g) → is_rel g r ≡ true
  is_there r h = go (is_rel g r) refl
    where
      go : (b : Bool) → is_rel g r ≡ b → is_rel g r ≡ true
      go true e = e
      go false e = absurd (none (subst (λ k. 1 ≤ k) (rel_hits g r ∙ ap bit e) h))
        where
          none : 1 ≤ 0 → ⊥
          none k = omega (arith, k)

  strolled : (high : ℕ) (at : Option NodeId) (used : List RelId) → leads_to g kind way used high at n ≡ true → Strolled used high at
  unfolding leads_to
  strolled zero at used h = absurd (true≢false (sym h))
  strolled (suc high) at used h =
      let first = passing (λ r. may_follow g kind way at used r && (at_same (far g way r) (Some n) || leads_to g kind way used high (far g way r) n)) (all_rels g) h in
      let r = first.rel in
      let parts = and_parts (may_follow g kind way at used r) (at_same (far g way r) (Some n) || leads_to g kind way used high (far g way r) n) first.passes in
      let may = and_parts (is_of_type g kind r && at_same at (near g way r)) (not (list_any (same_rel r) used)) parts.0 in
      let met = and_parts (is_of_type g kind r) (at_same at (near g way r)) may.0 in
      go r (is_there r first.there) met.0 met.1 may.1 (λ e. strolled high (far g way r) used e) (or_parts (at_same (far g way r) (Some n)) (leads_to g kind way used high (far g way r) n) parts.1)
    where
      go : (r : RelId) → is_rel g r ≡ true → is_of_type g kind r ≡ true → at_same at (near g way r) ≡ true → not (list_any (same_rel r) used) ≡ true
          → (leads_to g kind way used high (far g way r) n ≡ true → Strolled used high (far g way r))
          → (at_same (far g way r) (Some n) ≡ true) ⊎ (leads_to g kind way used high (far g way r) n ≡ true) → Strolled used (suc high) at
      go r there typed near_it free next (inl e) = record {
        rels = r ∷ [];
        some = omega arith;
        few = omega arith;
        there = and_from (is_rel g r) true there refl;
        typed = and_from (is_of_type g kind r) true typed refl;
        unused = and_from (not (list_any (same_rel r) used)) true free refl;
        chain = and_from (at_same at (near g way r)) (at_same (far g way r) (Some n)) near_it e;
      }
      go r there typed near_it free next (inr e) =
          let s = next e in
          let few = s.few in
          record {
            rels = r ∷ s.rels;
            some = omega arith;
            few = omega (arith, few);
            there = and_from (is_rel g r) (list_all (is_rel g) s.rels) there s.there;
            typed = and_from (is_of_type g kind r) (list_all (is_of_type g kind) s.rels) typed s.typed;
            unused = and_from (not (list_any (same_rel r) used)) (list_all (λ (q : RelId). not (list_any (same_rel q) used)) s.rels) free s.unused;
            chain = and_from (at_same at (near g way r)) (chained_by g way (far g way r) s.rels (Some n)) near_it s.chain;
          }

-- ---- cutting out what lies between a relationship and itself

module _ (g : Graph) (way : Direction) where
  -- what stands behind a relationship in a list, or all of the list
  record Behind (r : RelId) (l : List RelId) : Type 0 where
    pub rels : List RelId
    pub few : length rels ≤ length l
    pub apart : not (list_any (same_rel r) rels) ≡ true
    pub distinct : all_distinct same_rel rels ≡ true
    pub kept : (p : RelId → Bool) → list_all p l ≡ true → list_all p rels ≡ true
    pub chain : (end : Option NodeId) → chained_by g way (far g way r) l end ≡ true → chained_by g way (far g way r) rels end ≡ true

  -- where it stands there, what leads on from anywhere leads on from its end
  record After (r : RelId) (l : List RelId) : Type 0 where
    pub rels : List RelId
    pub few : length rels ≤ length l
    pub apart : not (list_any (same_rel r) rels) ≡ true
    pub distinct : all_distinct same_rel rels ≡ true
    pub kept : (p : RelId → Bool) → list_all p l ≡ true → list_all p rels ≡ true
    pub chain : (at end : Option NodeId) → chained_by g way at l end ≡ true → chained_by g way (far g way r) rels end ≡ true

  after : (r : RelId) (l : List RelId) → all_distinct same_rel l ≡ true → list_any (same_rel r) l ≡ true → After r l
  after r [] d h = absurd (true≢false (sym h))
  after r (s ∷ l) d h = go (same_rel r s) refl (λ e. after r l (and_parts (not (list_any (same_rel s) l)) (all_distinct same_rel l) d).1 e)
    where
      go : (b : Bool) → same_rel r s ≡ b → (list_any (same_rel r) l ≡ true → After r l) → After r (s ∷ l)
      go true e next =
          let parts = and_parts (not (list_any (same_rel s) l)) (all_distinct same_rel l) d in
          let is : s ≡ r = same_rel_is r s e in
          record {
            rels = l;
            few = omega arith;
            apart = subst (λ q. not (list_any (same_rel q) l) ≡ true) is parts.0;
            distinct = parts.1;
            kept = λ p k. (and_parts (p s) (list_all p l) k).1;
            chain = λ at end k. subst (λ q. chained_by g way (far g way q) l end ≡ true) is (and_parts (at_same at (near g way s)) (chained_by g way (far g way s) l end) k).1;
          }
      go false e next =
          let a = next (ap (λ b. b || list_any (same_rel r) l) (sym e) ∙ h) in
          let few = a.few in
          record {
            rels = a.rels;
            few = omega (arith, few);
            apart = a.apart;
            distinct = a.distinct;
            kept = λ p k. a.kept p (and_parts (p s) (list_all p l) k).1;
            chain = λ at end k. a.chain (far g way s) end (and_parts (at_same at (near g way s)) (chained_by g way (far g way s) l end) k).1;
          }

  behind : (r : RelId) (l : List RelId) → all_distinct same_rel l ≡ true → Behind r l
  behind r l d = go (list_any (same_rel r) l) refl
    where
      go : (b : Bool) → list_any (same_rel r) l ≡ b → Behind r l
      go false e = record { rels = l; few = omega arith; apart = ap not e; distinct = d; kept = λ p k. k; chain = λ end k. k }
      go true e =
          let a = after r l d e in
          record { rels = a.rels; few = a.few; apart = a.apart; distinct = a.distinct; kept = a.kept; chain = λ end k. a.chain (far g way r) end k }

  -- a list that repeats nothing, and leads as the other does
  record Cut (l : List RelId) : Type 0 where
    pub rels : List RelId
    pub some : 1 ≤ length l → 1 ≤ length rels
    pub few : length rels ≤ length l
    pub distinct : all_distinct same_rel rels ≡ true
    pub kept : (p : RelId → Bool) → list_all p l ≡ true → list_all p rels ≡ true
    pub chain : (at end : Option NodeId) → chained_by g way at l end ≡ true → chained_by g way at rels end ≡ true

  cut : (l : List RelId) → Cut l
  cut [] = record { rels = []; some = λ h. h; few = omega arith; distinct = refl; kept = λ p h. h; chain = λ at end h. h }
  cut (r ∷ l) =
      let c = cut l in
      let b = behind r c.rels c.distinct in
      let short = c.few in
      let shorter = b.few in
      record {
        rels = r ∷ b.rels;
        some = λ h. omega arith;
        few = omega (arith, short, shorter);
        distinct = and_from (not (list_any (same_rel r) b.rels)) (all_distinct same_rel b.rels) b.apart b.distinct;
        kept = λ p h. let parts = and_parts (p r) (list_all p l) h in and_from (p r) (list_all p b.rels) parts.0 (b.kept p (c.kept p parts.1));
        chain = λ at end h.
            let parts = and_parts (at_same at (near g way r)) (chained_by g way (far g way r) l end) h in
            and_from (at_same at (near g way r)) (chained_by g way (far g way r) b.rels end) parts.0 (b.chain end (c.chain (far g way r) end parts.1));
      }

-- ---- the law

le_true : (m n : ℕ) → m ≤ n → nat_le m n ≡ true
le_true m n h = grind (arith, nat_tests, h)

one_hit : (n : ℕ) (b : Bool) → n ≡ bit b → b ≡ true → 1 ≤ n
one_hit n true e h = omega (arith, e)
one_hit n false e h = absurd (true≢false (sym h))

pub walks_lead : WalksLead
walks_lead g kind way high at used n =
    bool_iff (ends g kind way n 1 high at used) (leads_to g kind way used high at n) (λ h. there (led g kind way n 1 high at used used (λ r e. e) h)) (λ h. back (strolled g kind way n high at used h))
  where
    there : ((nat_eq 1 0 && at_same at (Some n)) ≡ true) ⊎ (leads_to g kind way used high at n ≡ true) → leads_to g kind way used high at n ≡ true
    there (inl e) = absurd (true≢false (sym e))
    there (inr e) = e

    back : Strolled g kind way n used high at → ends g kind way n 1 high at used ≡ true
    back s =
        let c = cut g way s.rels in
        let l = c.rels in
        let few : length l ≤ high = (let a = c.few in let b = s.few in omega (arith, a, b)) in
        let free : are_free used l ≡ true =
        free_is used l ∙ and_from (list_all (λ (r : RelId). not (list_any (same_rel r) used)) l) (all_distinct same_rel l) (c.kept _ s.unused) c.distinct in
        let lengths = and_from (nat_le 1 (length l)) (nat_le (length l) high) (le_true 1 (length l) (c.some s.some)) (le_true (length l) high few) in
        let follow = and_from (list_all (is_of_type g kind) l) (chained_by g way at l (Some n)) (c.kept _ s.typed) (c.chain at (Some n) s.chain) in
        let both = walks_are g kind way 1 high at (Some n) used l
        ∙ and_from (list_all (is_rel g) l) _ (c.kept _ s.there) (and_from _ (are_free used l) (and_from _ _ lengths follow) free) in
        let parts = and_parts (is_walk g kind way 1 high at used l) (at_same (end_of g way at l) (Some n)) both in
        any_there (pointwise same_rel l) (ends_there g kind way n at) (λ z e. subst (λ k. at_same (end_of g way at k) (Some n) ≡ true) (sym (same_list_is same_rel same_rel_is l z e)) parts.1)
        (walks g kind way 1 high at used) (one_hit _ (is_walk g kind way 1 high at used l) (walks_once g kind way 1 high at used l) parts.0)

-- ---- from no node

none_any : {X : Type 0} (p : X → Bool) → ((x : X) → p x ≡ false) → (xs : List X) → list_any p xs ≡ false
none_any p off [] = refl
none_any p off (x ∷ xs) = ap (λ b. b || list_any p xs) (off x) ∙ none_any p off xs

-- from no node nothing leads anywhere
pub leads_nowhere : (g : Graph) (kind : List ℕ) (way : Direction) (used : List RelId) (high : ℕ) (n : NodeId) → leads_to g kind way used high None n ≡ false
unfolding leads_to
leads_nowhere g kind way used zero n = refl
leads_nowhere g kind way used (suc high) n =
    none_any (λ r. may_follow g kind way None used r && (at_same (far g way r) (Some n) || leads_to g kind way used high (far g way r) n))
    (λ r. ap (λ b. (b && not (list_any (same_rel r) used)) && (at_same (far g way r) (Some n) || leads_to g kind way used high (far g way r) n)) (and_off (is_of_type g kind r))) (all_rels g)
  where
    and_off : (b : Bool) → (b && false) ≡ false
    and_off true = refl
    and_off false = refl

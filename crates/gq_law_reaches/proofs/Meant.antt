-- The matches of a core that trails continue, in the words of what is meant.
use Rattle.std.proofs.Common.{◌≡◌, ℕ, suc, ◌+◌, ◌<◌, Bool, true, false, not, ◌&&◌, ◌||◌, cond, nat_eq, Some, List, [], ◌∷◌, ◌++◌, length, slice_get, refl, sym, ap, ap₂, ◌∙◌, arith, zero-add}
use Rattle.std.specs.List.{list_all, list_any}
use Rattle.std.proofs.lemmas.Bool.{and_parts, and_from, eqb-true}
use Rattle.std.proofs.lemmas.List.Folds.{list_all-append}
use Rattle.gq_base.specs.Lists.{all_distinct}
use Rattle.gq_base.specs.declared.RelId.{RelId}
use Rattle.gq_alternatives.specs.Matches.{entry_holds, is_match, node_holds, pair_holds, pairs_from, pairs_with, rels_hold}
use Rattle.gq_plan.specs.Assignments.{Assignment, same_rel}
use Rattle.gq_plan.specs.Counts.{bit}
use Rattle.gq_law_plans.proofs.Lookups.{eqb_swap}
use Rattle.gq_law_trails.specs.Real.{is_real}
use Rattle.gq_law_trails.specs.Met.{trails_met}
use Rattle.gq_law_trails.proofs.Asked.{trails_meant}
use Rattle.gq_scopes.specs.Patterns.{RelPattern}
use Rattle.gq_law_reaches.specs.Continued.{CoreContinuedAsMeant, PairsAreDistinct}
use Rattle.gq_law_reaches.specs.Core.{core_part, core_pattern}
use Rattle.gq_law_reaches.specs.Reaches.{rels_in}
use Rattle.gq_law_reaches.proofs.Cored.{core_continued}

module _ (t : Assignment) where
  -- a relationship differs from all later ones of a clause
  differs_so : (clause first : ℕ) (r : RelId) → slice_get t.rels first ≡ Some r → (at : ℕ) (ps : List RelPattern) (rs : List RelId) → length ps ≡ length rs
      → ((j : ℕ) → j < length rs → slice_get t.rels (at + j) ≡ slice_get rs j)
      → list_all (pair_holds t) (pairs_with clause first at ps) ≡ not (list_any (same_rel r) (rels_in clause ps rs))
  differs_so clause first r is at [] [] e get = refl
  differs_so clause first r is at [] (s ∷ rs) e get = absurd (omega arith)
  differs_so clause first r is at (q ∷ ps) [] e get = absurd (omega arith)
  differs_so clause first r is at (q ∷ ps) (s ∷ rs) e get =
      go (nat_eq clause q.clause) (eqb_swap clause q.clause)
      (differs_so clause first r is (suc at) ps rs (omega arith) (λ j low. let next : suc at + j ≡ at + suc j = omega arith in ap (slice_get t.rels) next ∙ get (suc j) (omega arith)))
    where
      here : slice_get t.rels at ≡ Some s
      here = let same : at ≡ at + 0 = omega arith in ap (slice_get t.rels) same ∙ get 0 (omega arith)

      go : (b : Bool) → b ≡ nat_eq q.clause clause → list_all (pair_holds t) (pairs_with clause first (suc at) ps) ≡ not (list_any (same_rel r) (rels_in clause ps rs))
          → list_all (pair_holds t) (cond b (record { first = first; second = at } ∷ pairs_with clause first (suc at) ps) (pairs_with clause first (suc at) ps))
          ≡ not (list_any (same_rel r) (cond (nat_eq q.clause clause) (s ∷ []) [] ++ rels_in clause ps rs))
      go true h more =
          ap₂ ◌&&◌ (rw (is, here) refl) more
          ∙ nor (same_rel r s) (list_any (same_rel r) (rels_in clause ps rs))
          ∙ ap (λ (b : Bool). not (list_any (same_rel r) (cond b (s ∷ []) [] ++ rels_in clause ps rs))) h
        where
          nor : (a b : Bool) → (not a && not b) ≡ not (a || b)
          nor true b = refl
          nor false b = refl
      go false h more = more ∙ ap (λ (b : Bool). not (list_any (same_rel r) (cond b (s ∷ []) [] ++ rels_in clause ps rs))) h

  distinct_so : (at : ℕ) (ps : List RelPattern) (rs : List RelId) → length ps ≡ length rs → ((j : ℕ) → j < length rs → slice_get t.rels (at + j) ≡ slice_get rs j)
      → list_all (pair_holds t) (pairs_from at ps) ≡ true → (clause : ℕ) → all_distinct same_rel (rels_in clause ps rs) ≡ true
  distinct_so at [] [] e get h clause = refl
  distinct_so at [] (r ∷ rs) e get h clause = refl
  distinct_so at (p ∷ ps) [] e get h clause = absurd (omega arith)
  distinct_so at (p ∷ ps) (r ∷ rs) e get h clause =
      let parts = and_parts (list_all (pair_holds t) (pairs_with p.clause at (suc at) ps)) (list_all (pair_holds t) (pairs_from (suc at) ps))
      (sym (list_all-append (pair_holds t) (pairs_with p.clause at (suc at) ps) (pairs_from (suc at) ps)) ∙ h) in
      let same : at ≡ at + 0 = omega arith in
      go (nat_eq p.clause clause) refl
      (sym (differs_so p.clause at r (ap (slice_get t.rels) same ∙ get 0 (omega arith)) (suc at) ps rs (omega arith) more) ∙ parts.0)
      (distinct_so (suc at) ps rs (omega arith) more parts.1 clause)
    where
      more : (j : ℕ) → j < length rs → slice_get t.rels (suc at + j) ≡ slice_get rs j
      more j low = let next : suc at + j ≡ at + suc j = omega arith in ap (slice_get t.rels) next ∙ get (suc j) (omega arith)

      go : (b : Bool) → nat_eq p.clause clause ≡ b → not (list_any (same_rel r) (rels_in p.clause ps rs)) ≡ true → all_distinct same_rel (rels_in clause ps rs) ≡ true
          → all_distinct same_rel (cond b (r ∷ []) [] ++ rels_in clause ps rs) ≡ true
      go true k apart rest = and_from (not (list_any (same_rel r) (rels_in clause ps rs))) (all_distinct same_rel (rels_in clause ps rs)) (ap (λ c. not (list_any (same_rel r) (rels_in c ps rs))) (sym (eqb-true p.clause clause k)) ∙ apart) rest
      go false k apart rest = rest

pub pairs_distinct : PairsAreDistinct
pairs_distinct p t e h clause = distinct_so t 0 p.rels t.rels e (λ j low. ap (slice_get t.rels) (zero-add j)) h clause

-- ---- the core

only_where : (c : Bool) (a b : Bool) → (c ≡ true → a ≡ b) → bit (c && a) ≡ bit (c && b)
only_where true a b h = ap bit (h refl)
only_where false a b h = refl

pub core_meant : CoreContinuedAsMeant
core_meant g k p parts t ls few nodes rels many ordered =
    let core : Bool = is_real g (core_part k t) && is_match g (core_pattern k p) (core_part k t) in
    core_continued g k p parts t ls few nodes rels ordered
    ∙ only_where core (trails_met g (λ clause. rels_in clause p.rels t.rels) parts t [] ls) _
    (λ h.
    let matched = (and_parts (is_real g (core_part k t)) (is_match g (core_pattern k p) (core_part k t)) h).1 in
    let behind = (and_parts (list_all (node_holds g (core_part k t)) (core_pattern k p).nodes && rels_hold g (core_part k t) p.rels t.rels) (list_all (entry_holds g (core_part k t)) (core_pattern k p).entries && list_all (pair_holds (core_part k t)) (pairs_from 0 p.rels)) matched).1 in
    let differ = (and_parts (list_all (entry_holds g (core_part k t)) (core_pattern k p).entries) (list_all (pair_holds (core_part k t)) (pairs_from 0 p.rels)) behind).1 in
    trails_meant g (λ clause. rels_in clause p.rels t.rels) parts t ls many (pairs_distinct p t (sym rels) differ))

-- Walks along their relationships are the trails that are meant.
use Rattle.std.proofs.Common.{◌≡◌, ℕ, zero, suc, Bool, true, false, not, ◌&&◌, nat_eq, Option, Some, None, List, [], ◌∷◌, ◌++◌, length, reverse, refl, sym, ap, ap₂, ◌∙◌, arith}
use Rattle.std.specs.Prelude.{nat_le}
use Rattle.std.specs.List.{list_all, list_any}
use Rattle.std.proofs.Math.Bool.{and_assoc}
use Rattle.std.proofs.lemmas.Bool.{ne_eqb}
use Rattle.std.proofs.lemmas.Bool.Decides.{nat_tests}
use Rattle.std.proofs.lemmas.List.{reverse-append}
use Rattle.gq_law_plans.proofs.Lookups.{eqb_swap}
use Rattle.gq_base.specs.Plain.{Graph}
use Rattle.gq_base.specs.declared.NodeId.{NodeId}
use Rattle.gq_base.specs.declared.RelId.{RelId}
use Rattle.gq_plan.specs.Allowed.{at_same}
use Rattle.gq_plan.specs.Assignments.{is_rel, same_rel, source, target}
use Rattle.gq_plan.specs.Meaning.{near, far}
use Rattle.gq_law_trails.specs.Walks.{are_free, chained, chained_by, end_of, is_of_type, is_walk, pred}
use Rattle.gq_law_trails.specs.Meant.{ChainsTurn, WalksAreTrails}

zero_le : (n : ℕ) → nat_le 0 n ≡ true
zero_le n = grind (arith, nat_tests)

too_long : (n : ℕ) → nat_le (suc n) 0 ≡ false
too_long n = grind (arith, nat_tests)

le_zero : (low high : ℕ) → nat_eq low 0 ≡ (nat_le low 0 && nat_le 0 high)
le_zero zero high = sym (zero_le high)
le_zero (suc low) high = ne_eqb (suc low) 0 (λ e. omega arith) ∙ ap (λ b. b && nat_le 0 high) (sym (too_long low))

le_more : (n m : ℕ) → nat_le n m ≡ nat_le (suc n) (suc m)
le_more n m = go (nat_le n m) refl
  where
    go : (b : Bool) → nat_le n m ≡ b → b ≡ nat_le (suc n) (suc m)
    go true e = sym (more e)
      where
        more : nat_le n m ≡ true → nat_le (suc n) (suc m) ≡ true
        more e = grind (arith, nat_tests, e)
    go false e = sym (less e)
      where
        less : nat_le n m ≡ false → nat_le (suc n) (suc m) ≡ false
        less e = grind (arith, nat_tests, e)

le_pred : (low n : ℕ) → nat_le (pred low) n ≡ nat_le low (suc n)
le_pred zero n = zero_le n ∙ sym (zero_le (suc n))
le_pred (suc low) n = le_more low n

ends_so : (z s a : Bool) → z ≡ a → (z && s) ≡ (true && ((a && (true && s)) && true))
ends_so z true true e = ap (λ b. b && true) e
ends_so z true false e = ap (λ b. b && true) e
ends_so z false true e = ap (λ b. b && false) e
ends_so z false false e = ap (λ b. b && false) e

never : (r m x f : Bool) → false ≡ (r && (((m && false) && x) && f))
never false m x f = refl
never true false x f = refl
never true true x f = refl

-- the relationship is there R, of the type T, begins at the node S, and is free U; the rest is a walk W and ends E: the others are
-- there, of the lengths, types, chained and free
regroup : (r t s u w e rs ls ts cs fs : Bool) → (w && e) ≡ (rs && ((ls && (ts && cs)) && fs))
    → (((r && ((t && s) && u)) && w) && e) ≡ ((r && rs) && ((ls && ((t && ts) && (s && cs))) && (u && fs)))
regroup false t s u w e rs ls ts cs fs h = refl
regroup true false s u w e false ls ts cs fs h = refl
regroup true false s u w e true false ts cs fs h = refl
regroup true false s u w e true true ts cs fs h = refl
regroup true true false u w e false ls ts cs fs h = refl
regroup true true false u w e true false ts cs fs h = refl
regroup true true false u w e true true false cs fs h = refl
regroup true true false u w e true true true cs fs h = refl
regroup true true true false w e false ls ts cs fs h = refl
regroup true true true false w e true false ts cs fs h = refl
regroup true true true false w e true true false cs fs h = refl
regroup true true true false w e true true true false fs h = refl
regroup true true true false w e true true true true fs h = refl
regroup true true true true w e rs ls ts cs fs h = h

pub walks_are : WalksAreTrails
walks_are g kind way low high at end used [] = ends_so (nat_eq low 0) (at_same at end) (nat_le low 0 && nat_le 0 high) (le_zero low high)
walks_are g kind way low zero at end used (r ∷ l) =
    let there : Bool = is_rel g r && list_all (is_rel g) l in
    let chain : Bool = list_all (is_of_type g kind) (r ∷ l) && chained_by g way at (r ∷ l) end in
    never there (nat_le low (suc (length l))) chain (are_free used (r ∷ l))
    ∙ ap (λ b. there && (((nat_le low (suc (length l)) && b) && chain) && are_free used (r ∷ l))) (sym (too_long (length l)))
walks_are g kind way low (suc high) at end used (r ∷ l) =
    regroup (is_rel g r) (is_of_type g kind r) (at_same at (near g way r)) (not (list_any (same_rel r) used))
    (is_walk g kind way (pred low) high (far g way r) (r ∷ used) l) (at_same (end_of g way (far g way r) l) end)
    (list_all (is_rel g) l) (nat_le low (suc (length l)) && nat_le (suc (length l)) (suc high)) (list_all (is_of_type g kind) l) (chained_by g way (far g way r) l end) (are_free (r ∷ used) l)
    (walks_are g kind way (pred low) high (far g way r) end (r ∷ used) l
    ∙ ap (λ b. list_all (is_rel g) l && ((b && (list_all (is_of_type g kind) l && chained_by g way (far g way r) l end)) && are_free (r ∷ used) l))
    (ap₂ ◌&&◌ (le_pred low (length l)) (le_more (length l) high)))

-- ---- from either end

same_swap : (o q : Option NodeId) → at_same o q ≡ at_same q o
same_swap None None = refl
same_swap None (Some n) = refl
same_swap (Some m) None = refl
same_swap (Some m) (Some n) = ap₂ ◌&&◌ (eqb_swap m.table n.table) (eqb_swap m.row n.row)

chained_last : (g : Graph) (at end : Option NodeId) (l : List RelId) (r : RelId)
    → chained g at (l ++ r ∷ []) end ≡ (chained g at l (source g r) && at_same (target g r) end)
chained_last g at end [] r = refl
chained_last g at end (q ∷ l) r =
    ap (λ b. at_same at (source g q) && b) (chained_last g (target g q) end l r)
    ∙ sym (and_assoc (at_same at (source g q)) (chained g (target g q) l (source g r)) (at_same (target g r) end))

and_turn : (a b : Bool) → (a && b) ≡ (b && a)
and_turn a b = grind arith

pub chains_turn : ChainsTurn
chains_turn g at end [] = same_swap at end
chains_turn g at end (r ∷ l) =
    ap₂ ◌&&◌ (same_swap at (target g r)) (chains_turn g (source g r) end l)
    ∙ and_turn (at_same (target g r) at) (chained g end (reverse l) (source g r))
    ∙ sym (chained_last g end at (reverse l) r)
    ∙ ap (λ m. chained g end m at) (sym (reverse-append (r ∷ []) l))

-- Lists of different nodes.
use Rattle.std.proofs.Common.{◌≡◌, ◌⊎◌, inl, inr, ℕ, Bool, true, false, not, ◌&&◌, ◌||◌, nat_eq, List, [], ◌∷◌, ◌++◌, refl, sym, ap, ap₂, ◌∙◌, true≢false}
use Rattle.std.specs.List.{list_any}
use Rattle.std.proofs.lemmas.Bool.{and_from, and_parts, cases_eq, eq-eqb, ne_eqb}
use Rattle.std.proofs.lemmas.List.Folds.{list_any-append}
use Rattle.gq_base.specs.Lists.{all_distinct}
use Rattle.gq_base.specs.declared.NodeId.{NodeId}
use Rattle.gq_plan.specs.Assignments.{same_node}
use Rattle.gq_plan.proofs.Products.{same_node_is}

pub node_is : (m n : NodeId) → same_node m n ≡ true → m ≡ n
node_is m n e = sym (same_node_is m n e)

pub node_itself : (n : NodeId) → same_node n n ≡ true
node_itself n = and_from (nat_eq n.table n.table) (nat_eq n.row n.row) (eq-eqb n.table n.table refl) (eq-eqb n.row n.row refl)

number_turn : (m n : ℕ) → nat_eq m n ≡ nat_eq n m
number_turn m n = swapped (cases_eq m n)
  where
    swapped : (m ≡ n) ⊎ (m ≡ n → ⊥) → nat_eq m n ≡ nat_eq n m
    swapped (inl same) = eq-eqb m n same ∙ sym (eq-eqb n m (sym same))
    swapped (inr other) = ne_eqb m n other ∙ sym (ne_eqb n m (λ same. other (sym same)))

node_turn : (m n : NodeId) → same_node m n ≡ same_node n m
node_turn m n = ap₂ ◌&&◌ (number_turn m.table n.table) (number_turn m.row n.row)

-- ---- one more node

pub or_none : (b : Bool) → b ≡ (b || false)
or_none true = refl
or_none false = refl

pub any_pushed : (j n : NodeId) (xs : List NodeId) → list_any (same_node j) (xs ++ n ∷ []) ≡ (list_any (same_node j) xs || same_node j n)
any_pushed j n xs = list_any-append (same_node j) xs (n ∷ []) ∙ ap (λ b. list_any (same_node j) xs || b) (sym (or_none (same_node j n)))

pub distinct_more : (xs : List NodeId) (n : NodeId) → all_distinct same_node xs ≡ true → list_any (same_node n) xs ≡ false → all_distinct same_node (xs ++ n ∷ []) ≡ true
distinct_more [] n d e = refl
distinct_more (x ∷ xs) n d e =
    let parts = and_parts (not (list_any (same_node x) xs)) (all_distinct same_node xs) d in
    let off = nor_parts (same_node n x) (list_any (same_node n) xs) e in
    and_from (not (list_any (same_node x) (xs ++ n ∷ []))) (all_distinct same_node (xs ++ n ∷ []))
    (ap not (any_pushed x n xs ∙ ap (λ b. list_any (same_node x) xs || b) (node_turn x n ∙ off.0) ∙ sym (or_none (list_any (same_node x) xs))) ∙ parts.0)
    (distinct_more xs n parts.1 off.1)
  where
    nor_parts : (a b : Bool) → (a || b) ≡ false → (a ≡ false) × (b ≡ false)
    nor_parts true b k = absurd (true≢false k)
    nor_parts false b k = (refl, k)

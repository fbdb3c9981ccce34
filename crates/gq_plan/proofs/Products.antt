-- Each tuple stands once in a product of lists whose items stand once, and items of a product are of the lists.
use Rattle.std.proofs.Common.{◌≡◌, ℕ, zero, suc, ◌+◌, ◌<◌, Bool, true, ◌&&◌, cond, eqb, List, [], ◌∷◌, map, length, refl, sym, ap, ap₂, ◌∙◌, arith, true≢false}
use Rattle.std.specs.Cmp.Lexicographic.{pointwise}
use Rattle.std.specs.List.{range_with_len, AllByRecursion}
use Rattle.std.proofs.lemmas.Bool.{eqb-true, eq-eqb, and_parts, and_from}
use Rattle.gq_base.specs.Plain.{Graph, rels_at, rows_at}
use Rattle.gq_base.specs.declared.NodeId.{NodeId}
use Rattle.gq_base.specs.declared.RelId.{RelId}
use Rattle.gq_plan.specs.Assignments.{Assignment, tuples, assignments, nodes_of, all_nodes, rels_of, all_rels, same_node, same_rel}
use Rattle.gq_plan.specs.Counts.{bit, hits}
use Rattle.gq_plan.proofs.Counts.{total_map, total_flat_map, total_same, hits_const_and, cond_bit}
use Rattle.gq_plan.proofs.Each.{each_of, each_map, each_flat_map, each_below}

-- a tuple stands once where a test of tuples is one test an item, and each item is picked once
pub tuple_once : {X Y : Type 0} (test : List Y → List X → Bool) (one : Y → X → Bool)
    → (test [] [] ≡ true)
    → ((y : Y) (ys : List Y) (x : X) (xs : List X) → test (y ∷ ys) (x ∷ xs) ≡ (one y x && test ys xs))
    → (xs : List X) (ys : List Y) → AllByRecursion (λ y. hits (one y) xs ≡ 1) ys → hits (test ys) (tuples (length ys) xs) ≡ 1
unfolding tuples
tuple_once test one none splits xs [] h = ap (λ b. bit b + 0) none
tuple_once test one none splits xs (y ∷ ys) h =
    total_flat_map (λ l. bit (test (y ∷ ys) l)) (λ x. map (λ l. x ∷ l) (tuples (length ys) xs)) xs
    ∙ total_same _ _
    (λ x. total_map (λ l. bit (test (y ∷ ys) l)) (λ l. x ∷ l) (tuples (length ys) xs)
    ∙ total_same _ _ (λ l. ap bit (splits y ys x l)) (tuples (length ys) xs)
    ∙ hits_const_and (one y x) (test ys) (tuples (length ys) xs)
    ∙ ap (λ n. cond (one y x) n 0) (tuple_once test one none splits xs ys h.1) ∙ cond_bit (one y x)) xs
    ∙ h.0

pub each_tuple : {X : Type 0} (P : X → Type 0) (n : ℕ) (xs : List X) → AllByRecursion P xs → AllByRecursion (λ l. AllByRecursion P l × (length l ≡ n)) (tuples n xs)
unfolding tuples
each_tuple P zero xs h = ((tt, refl), tt)
each_tuple P (suc n) xs h =
    each_flat_map P (λ l. AllByRecursion P l × (length l ≡ suc n)) (λ x. map (λ l. x ∷ l) (tuples n xs))
    (λ x here. each_map (λ l. AllByRecursion P l × (length l ≡ n)) (λ l. AllByRecursion P l × (length l ≡ suc n)) (λ l. x ∷ l)
    (λ l more. ((here, more.0), ap suc more.1)) (tuples n xs) (each_tuple P n xs h)) xs h

-- an assignment has so many nodes and relationships, of tables that the graph has
pub record IsSized (g : Graph) (n m : ℕ) (t : Assignment) : Type 0 where
  pub nodes : AllByRecursion (λ k. k.table < length g.nodes) t.nodes
  pub rels : AllByRecursion (λ k. k.table < length g.rels) t.rels
  pub node_count : length t.nodes ≡ n
  pub rel_count : length t.rels ≡ m

nodes_low : (g : Graph) → AllByRecursion (λ k. k.table < length g.nodes) (all_nodes g)
unfolding all_nodes nodes_of
nodes_low g =
    each_flat_map (λ k. k < length g.nodes) (λ n. n.table < length g.nodes) (nodes_of g)
    (λ k low. each_map (λ r. Unit {0}) (λ n. n.table < length g.nodes) (λ r. record { table = k; row = r }) (λ r _. low) _ (each_of _ (λ r. tt) (range_with_len 0 (length (rows_at g k)))))
    (range_with_len 0 (length g.nodes)) (each_below 0 (length g.nodes) (length g.nodes) (omega arith))

rels_low : (g : Graph) → AllByRecursion (λ k. k.table < length g.rels) (all_rels g)
unfolding all_rels rels_of
rels_low g =
    each_flat_map (λ k. k < length g.rels) (λ n. n.table < length g.rels) (rels_of g)
    (λ k low. each_map (λ r. Unit {0}) (λ n. n.table < length g.rels) (λ r. record { table = k; row = r }) (λ r _. low) _ (each_of _ (λ r. tt) (range_with_len 0 (length (rels_at g k)))))
    (range_with_len 0 (length g.rels)) (each_below 0 (length g.rels) (length g.rels) (omega arith))

pub each_sized : (n m : ℕ) (g : Graph) → AllByRecursion (IsSized g n m) (assignments n m g)
unfolding assignments
each_sized n m g =
    each_flat_map (λ ns. AllByRecursion (λ k. k.table < length g.nodes) ns × (length ns ≡ n)) (IsSized g n m) (λ ns. map (λ rs. record { nodes = ns; rels = rs }) (tuples m (all_rels g)))
    (λ ns h. each_map (λ rs. AllByRecursion (λ k. k.table < length g.rels) rs × (length rs ≡ m)) (IsSized g n m) (λ rs. record { nodes = ns; rels = rs })
    (λ rs k. record { nodes = h.0; rels = k.0; node_count = h.1; rel_count = k.1 }) (tuples m (all_rels g)) (each_tuple _ m (all_rels g) (rels_low g)))
    (tuples n (all_nodes g)) (each_tuple _ n (all_nodes g) (nodes_low g))

pub same_node_is : (m n : NodeId) → same_node m n ≡ true → n ≡ m
same_node_is m n e =
    let parts = and_parts _ _ e in
    let tables : m.table ≡ n.table = eqb-true _ _ parts.0 in
    let rows : m.row ≡ n.row = eqb-true _ _ parts.1 in
    λ i. record { table = sym tables i; row = sym rows i }

pub same_rel_is : (q r : RelId) → same_rel q r ≡ true → r ≡ q
same_rel_is q r e =
    let parts = and_parts _ _ e in
    let tables : q.table ≡ r.table = eqb-true _ _ parts.0 in
    let rows : q.row ≡ r.row = eqb-true _ _ parts.1 in
    λ i. record { table = sym tables i; row = sym rows i }

module _ {X : Type 0} (same : X → X → Bool) where
  pub same_list_is : ((x z : X) → same x z ≡ true → z ≡ x) → (xs zs : List X) → pointwise same xs zs ≡ true → zs ≡ xs
  same_list_is is [] [] e = refl
  same_list_is is [] (z ∷ zs) e = absurd (true≢false (sym e))
  same_list_is is (x ∷ xs) [] e = absurd (true≢false (sym e))
  same_list_is is (x ∷ xs) (z ∷ zs) e = let parts = and_parts (same x z) (pointwise same xs zs) e in ap₂ ◌∷◌ (is x z parts.0) (same_list_is is xs zs parts.1)

  pub same_list_refl : ((x : X) → same x x ≡ true) → (xs : List X) → pointwise same xs xs ≡ true
  same_list_refl is [] = refl
  same_list_refl is (x ∷ xs) = and_from _ _ (is x) (same_list_refl is xs)

same_node_refl : (n : NodeId) → same_node n n ≡ true
same_node_refl n = and_from (eqb n.table n.table) (eqb n.row n.row) (eq-eqb _ _ refl) (eq-eqb _ _ refl)

same_rel_refl : (r : RelId) → same_rel r r ≡ true
same_rel_refl r = and_from (eqb r.table r.table) (eqb r.row r.row) (eq-eqb _ _ refl) (eq-eqb _ _ refl)

-- two assignments are one
abbrev pub same_assignment : Assignment → Assignment → Bool
same_assignment s t = pointwise same_node s.nodes t.nodes && pointwise same_rel s.rels t.rels

pub same_assignment_refl : (t : Assignment) → same_assignment t t ≡ true
same_assignment_refl t = and_from _ _ (same_list_refl same_node same_node_refl t.nodes) (same_list_refl same_rel same_rel_refl t.rels)

pub same_assignment_is : (s t : Assignment) → same_assignment s t ≡ true → t ≡ s
same_assignment_is s t e =
    let parts = and_parts (pointwise same_node s.nodes t.nodes) (pointwise same_rel s.rels t.rels) e in
    λ i. record { nodes = same_list_is same_node same_node_is s.nodes t.nodes parts.0 i; rels = same_list_is same_rel same_rel_is s.rels t.rels parts.1 i }

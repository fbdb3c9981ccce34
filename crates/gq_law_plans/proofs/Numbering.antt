-- How often an assignment stands among all assignments of a graph: once, where its nodes and relationships are of the graph.
use Rattle.std.proofs.Common.{◌≡◌, ℕ, ◌<◌, Bool, true, false, ◌&&◌, cond, nat_eq, nat_lt, Option, Some, None, List, [], ◌∷◌, map, length, slice_get, refl, sym, ap, ◌∙◌, arith, zero-add, true≢false}
use Rattle.std.specs.List.{range_with_len, list_all}
use Rattle.std.proofs.lemmas.Bool.{ltb-true, lt-ltb}
use Rattle.std.proofs.lemmas.Option.{slice_get_within}
use Rattle.gq_base.specs.Plain.{Graph, all_of}
use Rattle.gq_base.specs.declared.NodeId.{NodeId}
use Rattle.gq_base.specs.declared.RelId.{RelId}
use Rattle.gq_plan.specs.Assignments.{Assignment, tuples, assignments, nodes_of, all_nodes, rels_of, all_rels, same_node, same_rel, is_node, is_rel}
use Rattle.gq_plan.specs.Counts.{bit, hits}
use Rattle.gq_plan.proofs.Counts.{total_map, total_flat_map, total_same, hits_const_and, hits_and_const, hits_range, cond_and}
use Rattle.std.specs.Cmp.Lexicographic.{pointwise}
use Rattle.gq_plan.proofs.Products.{same_assignment}
use Rattle.gq_law_plans.proofs.Counting.{cond_both, hits_nodes_of, hits_rels_of}

-- a list stands once among the lists of so many items where each of its items stands once, and else not at all
pub list_hits : {X : Type 0} (same : X → X → Bool) (stands : X → Bool) (xs : List X) → ((x : X) → hits (same x) xs ≡ bit (stands x)) → (l : List X)
    → hits (pointwise same l) (tuples (length l) xs) ≡ bit (list_all stands l)
unfolding tuples
list_hits same stands xs once [] = refl
list_hits same stands xs once (x ∷ l) =
    let rest = tuples (length l) xs in
    total_flat_map (λ k. bit (pointwise same (x ∷ l) k)) (λ z. map (λ k. z ∷ k) rest) xs
    ∙ total_same _ _
    (λ z. total_map (λ k. bit (pointwise same (x ∷ l) k)) (λ k. z ∷ k) rest
    ∙ hits_const_and (same x z) (pointwise same l) rest
    ∙ ap (λ n. cond (same x z) n 0) (list_hits same stands xs once l)
    ∙ cond_both (same x z) (list_all stands l)) xs
    ∙ hits_and_const (same x) (list_all stands l) xs
    ∙ ap (λ n. cond (list_all stands l) n 0) (once x)
    ∙ cond_and (stands x) (list_all stands l)

in_range : (k n : ℕ) → hits (λ j. nat_eq k j) (range_with_len 0 n) ≡ bit (nat_lt k n)
in_range k n = hits_range k 0 n (omega arith) ∙ ap (λ m. bit (nat_lt k m)) (zero-add n)

only_if : (a b : Bool) → (b ≡ true → a ≡ true) → cond b (bit a) 0 ≡ bit b
only_if true true h = refl
only_if false true h = absurd (true≢false (sym (h refl)))
only_if a false h = refl

-- what stands in a row of a table that is there has a table that is there
table_low : {X : Type 0} (tables : List (List X)) (table row : ℕ) → nat_lt row (length (all_of (slice_get tables table))) ≡ true → nat_lt table (length tables) ≡ true
table_low tables table row h = go (slice_get tables table) refl
  where
    go : (o : Option _) → slice_get tables table ≡ o → nat_lt table (length tables) ≡ true
    go (Some rows) e = lt-ltb table (length tables) (slice_get_within tables table rows e)
    go None e =
        let none : length (all_of (slice_get tables table)) ≡ 0 = rw e refl in
        let low : row < length (all_of (slice_get tables table)) = ltb-true _ _ h in
        absurd (omega arith)

pub node_hits : (g : Graph) (n : NodeId) → hits (same_node n) (all_nodes g) ≡ bit (is_node g n)
unfolding all_nodes
node_hits g n =
    total_flat_map (λ m. bit (same_node n m)) (nodes_of g) (range_with_len 0 (length g.nodes))
    ∙ total_same _ _ (λ k. hits_nodes_of g k (Some n)) (range_with_len 0 (length g.nodes))
    ∙ hits_and_const (λ k. nat_eq n.table k) (is_node g n) (range_with_len 0 (length g.nodes))
    ∙ ap (λ c. cond (is_node g n) c 0) (in_range n.table (length g.nodes))
    ∙ only_if (nat_lt n.table (length g.nodes)) (is_node g n) (table_low g.nodes n.table n.row)

pub rel_hits : (g : Graph) (r : RelId) → hits (same_rel r) (all_rels g) ≡ bit (is_rel g r)
unfolding all_rels
rel_hits g r =
    total_flat_map (λ m. bit (same_rel r m)) (rels_of g) (range_with_len 0 (length g.rels))
    ∙ total_same _ _ (λ k. hits_rels_of g k r) (range_with_len 0 (length g.rels))
    ∙ hits_and_const (λ k. nat_eq r.table k) (is_rel g r) (range_with_len 0 (length g.rels))
    ∙ ap (λ c. cond (is_rel g r) c 0) (in_range r.table (length g.rels))
    ∙ only_if (nat_lt r.table (length g.rels)) (is_rel g r) (table_low g.rels r.table r.row)

-- the nodes and the relationships of an assignment are of the graph
abbrev pub is_real : Graph → Assignment → Bool
is_real g t = list_all (is_node g) t.nodes && list_all (is_rel g) t.rels

pub assignment_hits : (g : Graph) (n m : ℕ) (t : Assignment) → length t.nodes ≡ n → length t.rels ≡ m → hits (same_assignment t) (assignments n m g) ≡ bit (is_real g t)
unfolding assignments
assignment_hits g n m t many_nodes many_rels =
    let nss = tuples n (all_nodes g) in
    let rss = tuples m (all_rels g) in
    total_flat_map (λ s. bit (same_assignment t s)) (λ ns. map (λ rs. record { nodes = ns; rels = rs }) rss) nss
    ∙ total_same _ _
    (λ ns. total_map (λ s. bit (same_assignment t s)) (λ rs. record { nodes = ns; rels = rs }) rss
    ∙ hits_const_and (pointwise same_node t.nodes ns) (pointwise same_rel t.rels) rss
    ∙ ap (λ c. cond (pointwise same_node t.nodes ns) c 0)
    (ap (λ k. hits (pointwise same_rel t.rels) (tuples k (all_rels g))) (sym many_rels) ∙ list_hits same_rel (is_rel g) (all_rels g) (rel_hits g) t.rels)
    ∙ cond_both (pointwise same_node t.nodes ns) (list_all (is_rel g) t.rels)) nss
    ∙ hits_and_const (pointwise same_node t.nodes) (list_all (is_rel g) t.rels) nss
    ∙ ap (λ c. cond (list_all (is_rel g) t.rels) c 0)
    (ap (λ k. hits (pointwise same_node t.nodes) (tuples k (all_nodes g))) (sym many_nodes) ∙ list_hits same_node (is_node g) (all_nodes g) (node_hits g) t.nodes)
    ∙ cond_and (list_all (is_node g) t.nodes) (list_all (is_rel g) t.rels)

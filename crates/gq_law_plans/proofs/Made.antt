-- What a plan that covers an alternative makes is of the graph, lies in the alternative and makes its tests true.
use Rattle.std.proofs.Common.{◌≡◌, ℕ, ◌<◌, true, ◌&&◌, List, map, filter, length, IsTrue, arith, flat_map}
use Rattle.std.specs.List.{AllByRecursion, list_all, range_with_len}
use Rattle.std.proofs.lemmas.Bool.{lt-ltb, and_parts}
use Rattle.std.proofs.lemmas.List.Elements.{All-from_recursion}
use Rattle.std.proofs.lemmas.List.Sorted.{All-permutation, IsPermutation-sym}
use Rattle.gq_base.specs.Plain.{Graph, rels_at, rows_at}
use Rattle.gq_base.specs.declared.NodeId.{NodeId}
use Rattle.gq_base.specs.declared.RelId.{RelId}
use Rattle.gq_plan.specs.Allowed.{lies_in}
use Rattle.gq_plan.specs.Assignments.{Assignment, tuples, assignments, nodes_of, all_nodes, rels_of, all_rels, is_node, is_rel, row_of}
use Rattle.gq_plan.specs.Conditions.{allows, passes, differs}
use Rattle.gq_plan.specs.Meaning.{meaning}
use Rattle.gq_plan.specs.declared.typed.Typed.{Typed}
use Rattle.gq_plan.proofs.Each.{each_of, each_then, each_map, each_flat_map, each_kept, each_below}
use Rattle.gq_plan.proofs.Products.{each_tuple}
use Rattle.gq_law_plans.specs.Safe.{IsMade, PlansMake}
use Rattle.gq_law_plans.proofs.Wholes.{plans_mean}

abbrev IsNode : Graph → NodeId → Type 0
IsNode g n = IsTrue (is_node g n)

abbrev IsRel : Graph → RelId → Type 0
IsRel g r = IsTrue (is_rel g r)

-- an assignment has so many nodes and relationships, of the graph
record IsOf (g : Graph) (n m : ℕ) (t : Assignment) : Type 0 where
  nodes : AllByRecursion (IsNode g) t.nodes
  rels : AllByRecursion (IsRel g) t.rels
  node_count : length t.nodes ≡ n
  rel_count : length t.rels ≡ m

-- what is made of each row of each table is real where each of them is
rows_real : {X : Type 0} (P : X → Type 0) (size : ℕ → ℕ) (make : ℕ → ℕ → X) → ((k r : ℕ) → r < size k → P (make k r)) → (tables : ℕ)
    → AllByRecursion P (flat_map (λ k. map (make k) (range_with_len 0 (size k))) (range_with_len 0 tables))
rows_real P size make real tables =
    each_flat_map (λ k. Unit {0}) P (λ k. map (make k) (range_with_len 0 (size k)))
    (λ k _. each_map (λ r. r < size k) P (make k) (real k) (range_with_len 0 (size k)) (each_below 0 (size k) (size k) (omega arith)))
    (range_with_len 0 tables) (each_of _ (λ k. tt) (range_with_len 0 tables))

nodes_real : (g : Graph) → AllByRecursion (IsNode g) (all_nodes g)
unfolding all_nodes nodes_of
nodes_real g = rows_real (IsNode g) (λ k. length (rows_at g k)) (λ k r. record { table = k; row = r }) (λ k r low. lt-ltb r (length (rows_at g k)) low) (length g.nodes)

rels_real : (g : Graph) → AllByRecursion (IsRel g) (all_rels g)
unfolding all_rels rels_of
rels_real g = rows_real (IsRel g) (λ k. length (rels_at g k)) (λ k r. record { table = k; row = r }) (λ k r low. lt-ltb r (length (rels_at g k)) low) (length g.rels)

each_real : (n m : ℕ) (g : Graph) → AllByRecursion (IsOf g n m) (assignments n m g)
unfolding assignments
each_real n m g =
    each_flat_map (λ ns. AllByRecursion (IsNode g) ns × (length ns ≡ n)) (IsOf g n m) (λ ns. map (λ rs. record { nodes = ns; rels = rs }) (tuples m (all_rels g)))
    (λ ns h. each_map (λ rs. AllByRecursion (IsRel g) rs × (length rs ≡ m)) (IsOf g n m) (λ rs. record { nodes = ns; rels = rs })
    (λ rs k. record { nodes = h.0; rels = k.0; node_count = h.1; rel_count = k.1 }) (tuples m (all_rels g)) (each_tuple (IsRel g) m (all_rels g) (rels_real g)))
    (tuples n (all_nodes g)) (each_tuple (IsNode g) n (all_nodes g) (nodes_real g))

allowed_made : (g : Graph) (y : Typed) (t : Assignment) → IsOf g (length y.nodes) (length y.rels) t × (allows g y t ≡ true) → IsMade g y t
allowed_made g y t h =
    let parts = and_parts (lies_in g y t) (list_all (passes g (row_of t)) y.tests && list_all (differs (row_of t)) y.pairs) h.1 in
    let more = and_parts (list_all (passes g (row_of t)) y.tests) (list_all (differs (row_of t)) y.pairs) parts.1 in
    record {
      node_count = h.0.node_count;
      rel_count = h.0.rel_count;
      nodes = All-from_recursion (IsNode g) t.nodes h.0.nodes;
      rels = All-from_recursion (IsRel g) t.rels h.0.rels;
      lies = parts.0;
      tests = more.0;
      pairs = more.1;
    }

pub plans_make : PlansMake
plans_make g y p real sound covers =
    let all : List Assignment = assignments (length y.nodes) (length y.rels) g in
    All-permutation (IsMade g y) (filter (allows g y) all) (meaning g y p) (IsPermutation-sym _ _ (plans_mean g y p real sound covers))
    (All-from_recursion (IsMade g y) (filter (allows g y) all)
    (each_then (λ t. IsOf g (length y.nodes) (length y.rels) t × (allows g y t ≡ true)) (IsMade g y) (allowed_made g y) (filter (allows g y) all)
    (each_kept (IsOf g (length y.nodes) (length y.rels)) (allows g y) all (each_real (length y.nodes) (length y.rels) g))))

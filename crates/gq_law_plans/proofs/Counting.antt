-- Nodes and relationships of tables, counted against an assignment; which demands it meets, and which partial assignments it extends.
use Rattle.std.proofs.Common.{◌≡◌, ℕ, Bool, true, false, ◌&&◌, cond, nat_eq, nat_lt, Option, Some, None, length, slice_get, refl, sym, ap, ap₂, ◌∙◌, arith, zero-add, true≢false}
use Rattle.gq_base.proofs.BoolLaws.{and_pairs}
use Rattle.std.specs.List.{range_with_len}
use Rattle.std.proofs.Math.Bool.{and_assoc}
use Rattle.std.proofs.lemmas.Bool.{eqb-true, and_parts}
use Rattle.std.proofs.lemmas.List.Folds.{list_all-append}
use Rattle.gq_base.specs.Plain.{Graph, rels_at, rows_at}
use Rattle.gq_base.specs.declared.NodeId.{NodeId}
use Rattle.gq_base.specs.declared.RelId.{RelId}
use Rattle.gq_plan.specs.Allowed.{at_same, leads}
use Rattle.gq_plan.specs.Assignments.{Assignment, row_of, nodes_of, rels_of, same_rel, is_node, is_rel}
use Rattle.gq_plan.specs.Conditions.{passes, differs, no_loop}
use Rattle.gq_plan.specs.Known as known
use Rattle.gq_plan.specs.Known.{Known}
use Rattle.gq_plan.specs.Meaning.{Partial, with_node, with_rel, with_all, look, holds}
use Rattle.gq_plan.specs.declared.demand.Demand.{Demand}
use Rattle.gq_plan.specs.declared.demand.Demand.TheVariants.{InTable, Joins, Passes, Differs, IsNoLoop}
use Rattle.gq_plan.specs.declared.typed.Typed.{Typed}
use Rattle.gq_plan.specs.declared.typed.TypedRel.{TypedRel}
use Rattle.gq_plan.specs.Counts.{bit, hits}
use Rattle.gq_plan.proofs.Counts.{total_map, total_none, hits_at, hits_range, cond_and}
use Rattle.gq_plan.proofs.Products.{same_node_is, same_rel_is}
use Rattle.gq_law_plans.specs.Bindings.{extends, is_rel_at, nodes_in, rels_in, bound}
use Rattle.gq_law_plans.proofs.Lookups.{bound_append, look_is}

pub and_swap : (a b c : Bool) → (a && (b && c)) ≡ (b && (a && c))
and_swap a b c = grind arith

pub cond_both : (c h : Bool) → cond c (bit h) 0 ≡ bit (c && h)
cond_both true h = refl
cond_both false h = refl

-- ---- tables counted

abbrev pub is_in : Graph → ℕ → Option NodeId → Bool
is_in g table None = false
is_in g table (Some n) = nat_eq n.table table && is_node g n

-- the relationship that stands for a variable is one of a table, and passes a test
abbrev pub passes_in : Graph → ℕ → (RelId → Bool) → Option RelId → Bool
passes_in g table test None = false
passes_in g table test (Some q) = (nat_eq q.table table && is_rel g q) && test q

-- so many rows of a table have a number and stand in the table
rows_hit : (size : ℕ → ℕ) (own row table : ℕ) → hits (λ r. nat_eq own table && nat_eq row r) (range_with_len 0 (size table)) ≡ bit (nat_eq own table && nat_lt row (size own))
rows_hit size own row table = go (nat_eq own table) refl
  where
    go : (b : Bool) → nat_eq own table ≡ b → hits (λ r. b && nat_eq row r) (range_with_len 0 (size table)) ≡ bit (b && nat_lt row (size own))
    go true e =
        hits_range row 0 (size table) (omega arith)
        ∙ ap (λ k. bit (nat_lt row k)) (zero-add _) ∙ ap (λ k. bit (nat_lt row (size k))) (sym (eqb-true _ _ e))
    go false e = total_none _ (λ r. refl) (range_with_len 0 (size table))

-- a node stands once among the nodes of its table
pub hits_nodes_of : (g : Graph) (table : ℕ) (o : Option NodeId) → hits (λ n. at_same o (Some n)) (nodes_of g table) ≡ bit (is_in g table o)
unfolding nodes_of
hits_nodes_of g table None = total_none _ (λ n. refl) (nodes_of g table)
hits_nodes_of g table (Some m) =
    total_map _ (λ r. record { table = table; row = r }) (range_with_len 0 (length (rows_at g table))) ∙ rows_hit (λ k. length (rows_at g k)) m.table m.row table

pub hits_rels_of : (g : Graph) (table : ℕ) (q : RelId) → hits (same_rel q) (rels_of g table) ≡ bit (nat_eq q.table table && is_rel g q)
unfolding rels_of
hits_rels_of g table q =
    total_map _ (λ k. record { table = table; row = k }) (range_with_len 0 (length (rels_at g table))) ∙ rows_hit (λ k. length (rels_at g k)) q.table q.row table

pub hits_rels_at : (g : Graph) (table : ℕ) (test : RelId → Bool) (o : Option RelId) → hits (λ r. is_rel_at o r && test r) (rels_of g table) ≡ bit (passes_in g table test o)
hits_rels_at g table test None = total_none _ (λ r. refl) (rels_of g table)
hits_rels_at g table test (Some q) =
    hits_at (same_rel q) test q (same_rel_is q) (rels_of g table) ∙ ap (λ n. cond (test q) n 0) (hits_rels_of g table q) ∙ cond_and (nat_eq q.table table && is_rel g q) (test q)

-- ---- demands

-- this relationship is of the pattern's table and joins the nodes that stand at its ends
abbrev pub joins : Graph → TypedRel → Option NodeId → Option NodeId → Option RelId → Bool
joins g k from to None = false
joins g k from to (Some r) = (nat_eq r.table k.table && is_rel g r) && leads g from to r

-- an assignment meets a demand of an alternative
abbrev pub met : Graph → Typed → Assignment → Demand → Bool
met g y t (InTable v) = holds (λ k. is_in g k (slice_get t.nodes v)) (slice_get y.nodes v)
met g y t (Joins x) = holds (λ k. joins g k (slice_get t.nodes k.source) (slice_get t.nodes k.target) (slice_get t.rels x)) (slice_get y.rels x)
met g y t (Passes i) = holds (passes g (row_of t)) (slice_get y.tests i)
met g y t (Differs p) = holds (differs (row_of t)) (slice_get y.pairs p)
met g y t (IsNoLoop x) = holds (no_loop (row_of t)) (slice_get y.rels x)

-- ---- partial assignments

-- what is bound
abbrev pub known_by : Partial → Known
known_by a = record { nodes = bound a.nodes; rels = bound a.rels }

pub extends_with_node : (v : ℕ) (n : NodeId) (a : Partial) (t : Assignment) → extends (with_node v n a) t ≡ (at_same (slice_get t.nodes v) (Some n) && extends a t)
extends_with_node v n a t = and_assoc (at_same (slice_get t.nodes v) (Some n)) (nodes_in t a.nodes) (rels_in t a.rels)

pub extends_with_rel : (x : ℕ) (r : RelId) (a : Partial) (t : Assignment) → extends (with_rel x r a) t ≡ (is_rel_at (slice_get t.rels x) r && extends a t)
extends_with_rel x r a t = and_swap (nodes_in t a.nodes) (is_rel_at (slice_get t.rels x) r) (rels_in t a.rels)

pub extends_with_all : (b a : Partial) (t : Assignment) → extends (with_all b a) t ≡ (extends b t && extends a t)
extends_with_all b a t =
    ap₂ ◌&&◌ (list_all-append _ b.nodes a.nodes) (list_all-append _ b.rels a.rels) ∙ and_pairs (nodes_in t b.nodes) (nodes_in t a.nodes) (rels_in t b.rels) (rels_in t a.rels)

pub known_by_all : (b a : Partial) → known_by (with_all b a) ≡ known.with_both (known_by b) (known_by a)
known_by_all b a = λ i. record { nodes = λ v. bound_append b.nodes a.nodes v i; rels = λ x. bound_append b.rels a.rels x i }

pub at_same_is : (o q : Option NodeId) → at_same o q ≡ true → o ≡ q
at_same_is None q e = absurd (true≢false (sym e))
at_same_is (Some m) None e = absurd (true≢false (sym e))
at_same_is (Some m) (Some n) e = ap Some (sym (same_node_is m n e))

pub is_rel_at_is : (o : Option RelId) (r : RelId) → is_rel_at o r ≡ true → o ≡ Some r
is_rel_at_is None r e = absurd (true≢false (sym e))
is_rel_at_is (Some q) r e = ap Some (sym (same_rel_is q r e))

-- what is bound reads as in each assignment that has it
pub node_look : (a : Partial) (t : Assignment) → extends a t ≡ true → (v : ℕ) → bound a.nodes v ≡ true → look a.nodes v ≡ slice_get t.nodes v
node_look a t e v h = look_is (λ o n. at_same o (Some n)) (λ o n. at_same_is o (Some n)) (slice_get t.nodes) v a.nodes (and_parts (nodes_in t a.nodes) (rels_in t a.rels) e).0 h

pub rel_look : (a : Partial) (t : Assignment) → extends a t ≡ true → (x : ℕ) → bound a.rels x ≡ true → look a.rels x ≡ slice_get t.rels x
rel_look a t e x h = look_is is_rel_at is_rel_at_is (slice_get t.rels) x a.rels (and_parts (nodes_in t a.nodes) (rels_in t a.rels) e).1 h

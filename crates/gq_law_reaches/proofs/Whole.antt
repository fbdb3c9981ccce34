-- Where all variables are bound in one way, an assignment has what is bound exactly where it is this, read in a row.
use Rattle.std.proofs.Common.{◌≡◌, ℕ, ◌+◌, ◌<◌, ◌≤◌, Bool, true, ◌&&◌, nat_eq, nat_lt, Option, Some, List, [], ◌∷◌, flat_map, length, slice_get, refl, sym, ap, ap₂, ◌∙◌, arith, subst, zero-add}
use Rattle.std.specs.List.{list_all, range_with_len}
use Rattle.std.proofs.lemmas.Bool.{and_from, eq-eqb, lt-ltb, ltb-true, or_left, or_right}
use Rattle.gq_plan.specs.Allowed.{at_same}
use Rattle.gq_plan.specs.Assignments.{Assignment, same_node, same_rel}
use Rattle.gq_plan.specs.Meaning.{Partial, found, look}
use Rattle.std.specs.Cmp.Lexicographic.{pointwise}
use Rattle.gq_plan.proofs.Products.{same_assignment, same_list_is, same_list_refl, same_node_is, same_rel_is}
use Rattle.gq_law_plans.specs.Bindings.{extends, is_rel_at, bound}
use Rattle.gq_law_plans.proofs.Counting.{at_same_is, is_rel_at_is}
use Rattle.gq_law_plans.proofs.Lookups.{Found, lists_same, look_is, read_at, read_length}
use Rattle.gq_law_plans.proofs.Wholes.{bool_iff, node_self, rel_self}
use Rattle.gq_law_reaches.specs.Bags.{assigned}

module _ {X : Type 0} (bs : List (ℕ × X)) (n : ℕ) (all : (v : ℕ) → bound bs v ≡ nat_lt v n) where
  abbrev items : List X
  items = flat_map (λ v. found (look bs v)) (range_with_len 0 n)

  each_bound : (v : ℕ) → 0 ≤ v → v < 0 + n → bound bs v ≡ true
  each_bound v least low = all v ∙ lt-ltb v n (omega arith)

  pub items_length : length items ≡ n
  items_length = read_length bs 0 n each_bound

  pub items_at : (v : ℕ) → v < n → slice_get items v ≡ look bs v
  items_at v low = read_at bs 0 n each_bound v low ∙ ap (look bs) (zero-add v)

  module _ (same : X → X → Bool) (same_self : (x : X) → same x x ≡ true) (same_is : (x z : X) → same x z ≡ true → z ≡ x)
      (test : Option X → X → Bool) (test_self : (x : X) → test (Some x) x ≡ true) (test_is : (o : Option X) (x : X) → test o x ≡ true → o ≡ Some x) where
    -- they have each binding at its place
    have : (ds : List (ℕ × X)) → Found ds bs → ((v : ℕ) → bound ds v ≡ true → v < n) → list_all (λ b. test (slice_get items b.0) b.1) ds ≡ true
    have [] h low = refl
    have (d ∷ ds) h low =
        and_from (test (slice_get items d.0) d.1) (list_all (λ b. test (slice_get items b.0) b.1) ds)
        (ap (λ o. test o d.1) (items_at d.0 (low d.0 (or_left (nat_eq d.0 d.0) (bound ds d.0) (eq-eqb d.0 d.0 refl))) ∙ h.0) ∙ test_self d.1)
        (have ds h.1 (λ v k. low v (or_right (nat_eq v d.0) (bound ds v) k)))

    pub same_items : Found bs bs → (xs : List X) → length xs ≡ n → pointwise same xs items ≡ list_all (λ b. test (slice_get xs b.0) b.1) bs
    same_items own xs many =
        bool_iff (pointwise same xs items) (list_all (λ b. test (slice_get xs b.0) b.1) bs)
        (λ e. subst (λ l. list_all (λ b. test (slice_get l b.0) b.1) bs ≡ true) (same_list_is same same_is xs items e)
        (have bs own (λ v h. ltb-true v n (sym (all v) ∙ h))))
        (λ h. subst (λ l. pointwise same xs l ≡ true)
        (lists_same xs items (many ∙ sym items_length)
        (λ i low. sym (look_is test test_is (slice_get xs) i bs h (all i ∙ lt-ltb i n (omega (arith, low, many)))) ∙ sym (items_at i (omega (arith, low, many)))))
        (same_list_refl same same_self xs))

-- all variables are bound, in one way
pub record IsFilled (n m : ℕ) (a : Partial) : Type 0 where
  pub nodes : (v : ℕ) → bound a.nodes v ≡ nat_lt v n
  pub rels : (x : ℕ) → bound a.rels x ≡ nat_lt x m
  pub found_nodes : Found a.nodes a.nodes
  pub found_rels : Found a.rels a.rels

module _ (n m : ℕ) (a : Partial) (full : IsFilled n m a) where
  pub assigned_nodes : length (assigned n m a).nodes ≡ n
  assigned_nodes = items_length a.nodes n full.nodes

  pub assigned_rels : length (assigned n m a).rels ≡ m
  assigned_rels = items_length a.rels m full.rels

  pub assigned_same : (t : Assignment) → length t.nodes ≡ n → length t.rels ≡ m → same_assignment t (assigned n m a) ≡ extends a t
  assigned_same t nodes rels =
      ap₂ ◌&&◌
      (same_items a.nodes n full.nodes same_node node_self same_node_is (λ o x. at_same o (Some x)) node_self (λ o x. at_same_is o (Some x)) full.found_nodes t.nodes nodes)
      (same_items a.rels m full.rels same_rel rel_self same_rel_is is_rel_at rel_self is_rel_at_is full.found_rels t.rels rels)

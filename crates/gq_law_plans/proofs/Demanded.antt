-- What an alternative demands is what it allows of the assignments of a graph.
use Rattle.std.proofs.Common.{◌≡◌, ℕ, zero, suc, ◌+◌, Bool, true, false, not, ◌&&◌, ◌||◌, nat_eq, Option, Some, None, List, [], ◌∷◌, ◌++◌, map, filter, length, slice_get, refl, ap, ap₂, ◌∙◌, arith, add-one}
use Rattle.gq_base.proofs.BoolLaws.{and_pairs}
use Rattle.std.specs.List.{range_with_len, list_all}
use Rattle.std.proofs.lemmas.List.Folds.{list_all-append, list_all-map}
use Rattle.gq_base.specs.Plain.{Graph}
use Rattle.gq_base.specs.declared.NodeId.{NodeId}
use Rattle.gq_base.specs.declared.RelId.{RelId}
use Rattle.gq_plan.specs.Allowed.{leads, in_tables, rels_lie}
use Rattle.gq_plan.specs.Assignments.{Assignment, row_of, is_node, is_rel}
use Rattle.gq_plan.specs.Conditions.{passes, differs, no_loop, allows}
use Rattle.gq_plan.specs.Covers.{demands, leaves_loops_out}
use Rattle.gq_plan.specs.Meaning.{holds}
use Rattle.gq_plan.specs.declared.demand.Demand.{Demand}
use Rattle.gq_plan.specs.declared.demand.Demand.TheVariants.{InTable, Joins, Passes, Differs, IsNoLoop}
use Rattle.gq_plan.specs.declared.typed.Typed.{Typed}
use Rattle.gq_plan.specs.declared.typed.TypedRel.{TypedRel}
use Rattle.gq_law_plans.proofs.Counting.{is_in, joins, met}
use Rattle.gq_law_plans.proofs.Numbering.{is_real}
use Rattle.gq_plan.proofs.Permuted.{all_kept, all_and}

-- ---- tests by number

range_shift : (p : ℕ → Bool) (a n : ℕ) → list_all p (range_with_len (a + 1) n) ≡ list_all (λ k. p (suc k)) (range_with_len a n)
range_shift p a zero = refl
range_shift p a (suc n) = ap₂ ◌&&◌ (ap p (add-one a)) (range_shift p (a + 1) n)

pub range_get : {X : Type 0} (p : X → Bool) (xs : List X) → list_all (λ k. holds p (slice_get xs k)) (range_with_len 0 (length xs)) ≡ list_all p xs
range_get p [] = refl
range_get p (x ∷ xs) = ap (λ b. p x && b) (range_shift (λ k. holds p (slice_get (x ∷ xs) k)) 0 (length xs) ∙ range_get p xs)

-- two lists of one length, item beside item
abbrev beside : {X Y : Type 0} → (X → Option Y → Bool) → List X → List Y → Bool
beside p [] [] = true
beside p [] (y ∷ ys) = false
beside p (x ∷ xs) [] = false
beside p (x ∷ xs) (y ∷ ys) = p x (Some y) && beside p xs ys

range_beside : {X Y : Type 0} (p : X → Option Y → Bool) (xs : List X) (ys : List Y) → length ys ≡ length xs
    → list_all (λ k. holds (λ x. p x (slice_get ys k)) (slice_get xs k)) (range_with_len 0 (length xs)) ≡ beside p xs ys
range_beside p [] [] e = refl
range_beside p [] (y ∷ ys) e = absurd (omega arith)
range_beside p (x ∷ xs) [] e = absurd (omega arith)
range_beside p (x ∷ xs) (y ∷ ys) e =
    ap (λ b. p x (Some y) && b) (range_shift (λ k. holds (λ x. p x (slice_get (y ∷ ys) k)) (slice_get (x ∷ xs) k)) 0 (length xs) ∙ range_beside p xs ys (omega arith))

-- ---- truth tables

rel_bits : (e r l n a b : Bool) → ((((e && r) && l) && n) && (a && b)) ≡ (((e && (l && n)) && a) && (r && b))
rel_bits e r l n a b = grind arith

five_bits : (a b c d e : Bool) → ((((a && b) && c) && d) && e) ≡ ((a && (b && e)) && (c && d))
five_bits a b c d e = grind arith

real_bits : (a n b r s : Bool) → (((a && n) && (b && r)) && s) ≡ ((n && r) && ((a && b) && s))
real_bits a n b r s = grind arith

-- ---- what is demanded

pub all_demand : (p : Demand → Bool) (a b c d e : List ℕ) → list_all p (map InTable a ++ map Joins b ++ map Passes c ++ map Differs d ++ map IsNoLoop e)
    ≡ ((((list_all (λ x. p (InTable x)) a && list_all (λ x. p (Joins x)) b) && list_all (λ x. p (Passes x)) c) && list_all (λ x. p (Differs x)) d) && list_all (λ x. p (IsNoLoop x)) e)
all_demand p a b c d e = simp (list_all-append, list_all-map)

module _ (g : Graph) (y : Typed) (t : Assignment) where
  abbrev to : ℕ → List ℕ
  to n = range_with_len 0 n

  abbrev left_out : ℕ → Bool
  left_out x = holds leaves_loops_out (slice_get y.rels x)

  -- a relationship of an alternative, with its loop left out where that is asked
  abbrev demanded_rel : TypedRel → Option RelId → Bool
  demanded_rel k o = joins g k (slice_get t.nodes k.source) (slice_get t.nodes k.target) o && (not k.no_loop || no_loop (row_of t) k)

  tables_are : (ks : List ℕ) (ns : List NodeId) → beside (is_in g) ks ns ≡ (in_tables ks ns && list_all (is_node g) ns)
  tables_are [] [] = refl
  tables_are [] (n ∷ ns) = refl
  tables_are (k ∷ ks) [] = refl
  tables_are (k ∷ ks) (n ∷ ns) =
      ap (λ b. (nat_eq n.table k && is_node g n) && b) (tables_are ks ns)
      ∙ and_pairs (nat_eq n.table k) (is_node g n) (in_tables ks ns) (list_all (is_node g) ns)

  rels_are : (ks : List TypedRel) (rs : List RelId) → beside demanded_rel ks rs ≡ (rels_lie g t ks rs && list_all (is_rel g) rs)
  rels_are [] [] = refl
  rels_are [] (r ∷ rs) = refl
  rels_are (k ∷ ks) [] = refl
  rels_are (k ∷ ks) (r ∷ rs) =
      ap (λ b. demanded_rel k (Some r) && b) (rels_are ks rs)
      ∙ rel_bits (nat_eq r.table k.table) (is_rel g r) (leads g (slice_get t.nodes k.source) (slice_get t.nodes k.target) r) (not k.no_loop || no_loop (row_of t) k) (rels_lie g t ks rs) (list_all (is_rel g) rs)

  one_rel : (x : ℕ) → (met g y t (Joins x) && (not (left_out x) || met g y t (IsNoLoop x))) ≡ holds (λ k. demanded_rel k (slice_get t.rels x)) (slice_get y.rels x)
  one_rel x = go (slice_get y.rels x)
    where
      go : (o : Option TypedRel) → (holds (λ k. joins g k (slice_get t.nodes k.source) (slice_get t.nodes k.target) (slice_get t.rels x)) o && (not (holds leaves_loops_out o) || holds (no_loop (row_of t)) o))
          ≡ holds (λ k. demanded_rel k (slice_get t.rels x)) o
      go None = refl
      go (Some k) = refl

  -- of an assignment with as many nodes and relationships
  pub demanded : length t.nodes ≡ length y.nodes → length t.rels ≡ length y.rels → list_all (met g y t) (demands y) ≡ (is_real g t && allows g y t)
  unfolding demands
  demanded many_nodes many_rels =
      let n = to (length y.nodes) in
      let m = to (length y.rels) in
      all_demand (met g y t) n m (to (length y.tests)) (to (length y.pairs)) (filter left_out m)
      ∙ five_bits (list_all (λ v. met g y t (InTable v)) n) (list_all (λ x. met g y t (Joins x)) m) (list_all (λ i. met g y t (Passes i)) (to (length y.tests))) (list_all (λ p. met g y t (Differs p)) (to (length y.pairs))) (list_all (λ x. met g y t (IsNoLoop x)) (filter left_out m))
      ∙ ap₂ (λ a b. (a && b) && (list_all (λ i. met g y t (Passes i)) (to (length y.tests)) && list_all (λ p. met g y t (Differs p)) (to (length y.pairs))))
      (range_beside (is_in g) y.nodes t.nodes many_nodes ∙ tables_are y.nodes t.nodes)
      (ap (λ b. list_all (λ x. met g y t (Joins x)) m && b) (all_kept left_out (λ x. met g y t (IsNoLoop x)) m)
      ∙ all_and (λ x. met g y t (Joins x)) (λ x. not (left_out x) || met g y t (IsNoLoop x)) m
      ∙ (λ i. list_all (λ x. one_rel x i) m)
      ∙ range_beside demanded_rel y.rels t.rels many_rels ∙ rels_are y.rels t.rels)
      ∙ ap₂ (λ c d. ((in_tables y.nodes t.nodes && list_all (is_node g) t.nodes) && (rels_lie g t y.rels t.rels && list_all (is_rel g) t.rels)) && (c && d))
      (range_get (passes g (row_of t)) y.tests) (range_get (differs (row_of t)) y.pairs)
      ∙ real_bits (in_tables y.nodes t.nodes) (list_all (is_node g) t.nodes) (rels_lie g t y.rels t.rels) (list_all (is_rel g) t.rels) (list_all (passes g (row_of t)) y.tests && list_all (differs (row_of t)) y.pairs)

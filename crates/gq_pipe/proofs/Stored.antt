-- The nodes that a plan binds are rows of their tables.
use Rattle.std.proofs.Common.{◌≡◌, ℕ, zero, suc, ◌+◌, ◌<◌, Bool, true, false, cond, nat_eq, nat_lt, Option, Some, None, List, [], ◌∷◌, ◌++◌, map, filter, flat_map, length, slice_get, refl, sym, ap, ap₂, ◌∙◌, subst, arith}
use Rattle.std.specs.List.{AllByRecursion, list_all, range_with_len}
use Rattle.std.proofs.lemmas.Bool.{ltb-true, and_parts}
use Rattle.gq_base.specs.Lists.{all_zip}
use Rattle.gq_base.specs.Plain.{Graph, rels_at, rows_at}
use Rattle.gq_base.specs.Valid.{are_rels, is_rel, is_valid, row_count}
use Rattle.gq_base.specs.declared.NodeId.{NodeId}
use Rattle.gq_base.specs.declared.PlainRel.{PlainRel}
use Rattle.gq_base.specs.declared.RelId.{RelId}
use Rattle.gq_base.specs.declared.RelTable.{RelTable}
use Rattle.gq_base.specs.declared.direction.Direction.{Direction}
use Rattle.gq_base.specs.declared.direction.Direction.TheVariants.{Forward, Backward}
use Rattle.gq_plan.specs.Allowed.{at_same}
use Rattle.gq_plan.specs.Assignments.{nodes_of, source, target, source_in, target_in}
use Rattle.gq_plan.specs.Meaning.{Partial, nothing, with_node, with_rel, with_all, look, agree, far, arrive, keep_if, nodes_for, rels_from, mean, step}
use Rattle.gq_plan.specs.Plans.{Plan, Done, Then, Step, Scan, Extend, Close, Join, Keep, Differ, NoLoop, Single, Meet}
use Rattle.gq_plan.specs.declared.typed.Typed.{Typed}
use Rattle.gq_join.proofs.Sorting.{all_filter}

-- ---- lists

all_append : {X : Type 0} (P : X → Type 0) (xs ys : List X) → AllByRecursion P xs → AllByRecursion P ys → AllByRecursion P (xs ++ ys)
all_append P [] ys h k = k
all_append P (x ∷ xs) ys h k = (h.0, all_append P xs ys h.1 k)

all_flat : {X Y : Type 0} (P : X → Type 0) (Q : Y → Type 0) (f : X → List Y) (xs : List X) → ((x : X) → P x → AllByRecursion Q (f x)) → AllByRecursion P xs → AllByRecursion Q (flat_map f xs)
all_flat P Q f [] each h = tt
all_flat P Q f (x ∷ xs) each h = all_append Q (f x) (flat_map f xs) (each x h.0) (all_flat P Q f xs each h.1)

all_map : {X Y : Type 0} (P : X → Type 0) (Q : Y → Type 0) (f : X → Y) (xs : List X) → ((x : X) → P x → Q (f x)) → AllByRecursion P xs → AllByRecursion Q (map f xs)
all_map P Q f [] each h = tt
all_map P Q f (x ∷ xs) each h = (each x h.0, all_map P Q f xs each h.1)

anything : {X : Type 0} (xs : List X) → AllByRecursion (λ x. Unit {0}) xs
anything [] = tt
anything (x ∷ xs) = (tt, anything xs)

all_range : {X : Type 0} (P : X → Type 0) (f : ℕ → X) (a n : ℕ) → ((i : ℕ) → i < a + n → P (f i)) → AllByRecursion P (map f (range_with_len a n))
all_range P f a zero h = tt
all_range P f a (suc n) h = (h a (omega arith), all_range P f (a + 1) n (λ i low. h i (omega (arith, low))))

zip_at : {A B : Type 0} (p : A → B → Bool) (xs : List A) (ys : List B) → all_zip p xs ys ≡ true → (i : ℕ) (x : A) (y : B) → slice_get xs i ≡ Some x → slice_get ys i ≡ Some y → p x y ≡ true
zip_at p [] ys h i x y e k = absurd (cc e)
zip_at p (z ∷ xs) [] h i x y e k = absurd (cc k)
zip_at p (z ∷ xs) (w ∷ ys) h zero x y e k =
    let left : z ≡ x = cc e in let right : w ≡ y = cc k in
    ap₂ p (sym left) (sym right) ∙ (and_parts (p z w) (all_zip p xs ys) h).0
zip_at p (z ∷ xs) (w ∷ ys) h (suc i) x y e k = zip_at p xs ys (and_parts (p z w) (all_zip p xs ys) h).1 i x y e k

all_get : {X : Type 0} (p : X → Bool) (xs : List X) → list_all p xs ≡ true → (i : ℕ) (x : X) → slice_get xs i ≡ Some x → p x ≡ true
all_get p [] h i x e = absurd (cc e)
all_get p (z ∷ xs) h zero x e = let same : z ≡ x = cc e in ap p (sym same) ∙ (and_parts (p z) (list_all p xs) h).0
all_get p (z ∷ xs) h (suc i) x e = all_get p xs (and_parts (p z) (list_all p xs) h).1 i x e

-- ---- nodes

-- a node is a row of its table
abbrev pub IsStored : Graph → NodeId → Type 0
IsStored g n = n.row < row_count g.nodes n.table

-- each node that is bound is one
abbrev pub Stores : Graph → Partial → Type 0
Stores g e = AllByRecursion (λ (b : ℕ × NodeId). IsStored g b.1) e.nodes

module _ (g : Graph) (valid : is_valid g ≡ true) where
  rows_same : (t : ℕ) → row_count g.nodes t ≡ length (rows_at g t)
  rows_same t = go (slice_get g.nodes t) refl
    where
      go : (o : Option _) → slice_get g.nodes t ≡ o → row_count g.nodes t ≡ length (rows_at g t)
      go None e = rw e refl
      go (Some rows) e = rw e refl

  -- the ends of a relationship of a table
  ends : (t i : ℕ) (table : RelTable) (r : PlainRel) → slice_get g.catalog.rels t ≡ Some table → slice_get (rels_at g t) i ≡ Some r
      → (r.source < row_count g.nodes table.from) × (r.target < row_count g.nodes table.to)
  ends t i table r table_is rel_is = let all : all_zip (are_rels g.nodes) g.catalog.rels g.rels ≡ true = (and_parts _ _ valid).1 in go all (slice_get g.rels t) refl
    where
      go : all_zip (are_rels g.nodes) g.catalog.rels g.rels ≡ true → (o : Option (List PlainRel)) → slice_get g.rels t ≡ o → (r.source < row_count g.nodes table.from) × (r.target < row_count g.nodes table.to)
      go all None e = let none : rels_at g t ≡ [] = rw e refl in let gone : None ≡ Some r = ap (λ l. slice_get l i) (sym none) ∙ rel_is in absurd (cc gone)
      go all (Some rs) e =
          let here : rels_at g t ≡ rs = rw e refl in
          let are = zip_at (are_rels g.nodes) g.catalog.rels g.rels all t table rs table_is e in
          let within = all_get (is_rel table.fields (row_count g.nodes table.from) (row_count g.nodes table.to)) rs (and_parts _ _ (and_parts _ _ are).0).1 i r (ap (λ l. slice_get l i) (sym here) ∙ rel_is) in
          let both = and_parts (nat_lt r.source (row_count g.nodes table.from)) (nat_lt r.target (row_count g.nodes table.to)) (and_parts _ _ within).0 in
          (ltb-true _ _ both.0, ltb-true _ _ both.1)

  source_stored : (r : RelId) (n : NodeId) → source g r ≡ Some n → IsStored g n
  unfolding source
  source_stored r n is = go (slice_get g.catalog.rels r.table) (slice_get (rels_at g r.table) r.row) refl refl is
    where
      go : (o : Option RelTable) (p : Option PlainRel) → slice_get g.catalog.rels r.table ≡ o → slice_get (rels_at g r.table) r.row ≡ p → source_in o p ≡ Some n → IsStored g n
      go None p e k h = absurd (cc h)
      go (Some table) None e k h = absurd (cc h)
      go (Some table) (Some rel) e k h = let same : record { table = table.from; row = rel.source } ≡ n = cc h in subst (IsStored g) same (ends r.table r.row table rel e k).0

  target_stored : (r : RelId) (n : NodeId) → target g r ≡ Some n → IsStored g n
  unfolding target
  target_stored r n is = go (slice_get g.catalog.rels r.table) (slice_get (rels_at g r.table) r.row) refl refl is
    where
      go : (o : Option RelTable) (p : Option PlainRel) → slice_get g.catalog.rels r.table ≡ o → slice_get (rels_at g r.table) r.row ≡ p → target_in o p ≡ Some n → IsStored g n
      go None p e k h = absurd (cc h)
      go (Some table) None e k h = absurd (cc h)
      go (Some table) (Some rel) e k h = let same : record { table = table.to; row = rel.target } ≡ n = cc h in subst (IsStored g) same (ends r.table r.row table rel e k).1

  far_stored : (way : Direction) (r : RelId) (n : NodeId) → far g way r ≡ Some n → IsStored g n
  far_stored Forward r n is = target_stored r n is
  far_stored Backward r n is = source_stored r n is

  arrives : (v : ℕ) (e : Partial) (o : Option NodeId) → ((n : NodeId) → o ≡ Some n → IsStored g n) → Stores g e → AllByRecursion (Stores g) (arrive v o e)
  arrives v e None each h = tt
  arrives v e (Some n) each h = ((each n refl, h), tt)

  keeps : (b : Bool) (e : Partial) → Stores g e → AllByRecursion (Stores g) (keep_if b e)
  keeps true e h = (h, tt)
  keeps false e h = tt

  table_stored : (table : ℕ) → AllByRecursion (IsStored g) (nodes_of g table)
  unfolding nodes_of
  table_stored table = all_range (IsStored g) (λ row. record { table = table; row = row }) 0 (length (rows_at g table)) (λ i low. omega (arith, low, rows_same table))

  module _ (y : Typed) where
    scanned : (v : ℕ) → AllByRecursion (IsStored g) (nodes_for g y v)
    scanned v = go (slice_get y.nodes v) refl
      where
        go : (o : Option ℕ) → slice_get y.nodes v ≡ o → AllByRecursion (IsStored g) (nodes_for g y v)
        go None e = rw e tt
        go (Some table) e = rw e (table_stored table)

    mutual
      unfolding mean

      -- what a plan makes of an assignment whose nodes are rows of their tables
      pub mean_stores : (p : Plan) (a : Partial) → Stores g a → AllByRecursion (Stores g) (mean g y p a)
      mean_stores Done a h = (h, tt)
      mean_stores (Then s p) a h = all_flat (Stores g) (Stores g) (mean g y p) (step g y s a) (mean_stores p) (step_stores s a h)

      step_stores : (s : Step) (a : Partial) → Stores g a → AllByRecursion (Stores g) (step g y s a)
      step_stores (Scan v) a h = all_map (IsStored g) (Stores g) (λ n. with_node v n a) (nodes_for g y v) (λ n low. (low, h)) (scanned v)
      step_stores (Extend column x from to way) a h =
          all_flat (λ r. Unit {0}) (Stores g) (λ r. arrive to (far g way r) (with_rel x r a)) (rels_from g y x way (look a.nodes from)) (λ r u. arrives to (with_rel x r a) (far g way r) (far_stored way r) h) (anything _)
      step_stores (Close column x from to way) a h =
          all_map (λ r. Unit {0}) (Stores g) (λ r. with_rel x r a) (filter (λ r. at_same (look a.nodes to) (far g way r)) (rels_from g y x way (look a.nodes from))) (λ r u. h) (anything _)
      step_stores (Join side keys) a h =
          all_map (Stores g) (Stores g) (λ b. with_all b a) (filter (agree keys a) (mean g y side nothing)) (λ b own. all_append (λ (b : ℕ × NodeId). IsStored g b.1) b.nodes a.nodes own h)
          (all_filter (Stores g) (agree keys a) (mean g y side nothing) (mean_stores side nothing tt))
      step_stores (Keep i) a h = keeps _ a h
      step_stores (Differ p) a h = keeps _ a h
      step_stores (NoLoop x) a h = keeps _ a h
      step_stores (Single x from to way) a h = all_map (λ r. Unit {0}) (Stores g) (λ r. with_rel x r a) (rels_from g y x way (look a.nodes from)) (λ r u. h) (anything _)
      step_stores (Meet x from to way) a h = keeps _ a h

-- a variable that is bound has a row of its table
pub look_stored : (g : Graph) (bs : List (ℕ × NodeId)) (v : ℕ) (n : NodeId) → AllByRecursion (λ (b : ℕ × NodeId). IsStored g b.1) bs → look bs v ≡ Some n → IsStored g n
look_stored g [] v n h e = absurd (cc e)
look_stored g (b ∷ bs) v n h e = go (nat_eq b.0 v) e (look_stored g bs v n h.1)
  where
    go : (t : Bool) → cond t (Some b.1) (look bs v) ≡ Some n → (look bs v ≡ Some n → IsStored g n) → IsStored g n
    go true k more = let same : b.1 ≡ n = cc k in subst (IsStored g) same h.0
    go false k more = more k

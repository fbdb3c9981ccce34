-- Bits of rows: what more blocks and tables make of them, and one more row.
use Rattle.std.proofs.Common.{◌≡◌, ◌∙◌, ap, ap₂, refl, sym, ℕ, ◌<◌, ◌≤◌, ◌+◌, ◌/◌, ◌%◌, Bool, true, false, cond, ◌&&◌, ◌||◌, nat_eq, List, [], ◌∷◌, ◌++◌, length, length-append, slice_index_or, set, arith, inl, inr}
use Rattle.std.specs.Prelude.{Vec, not, ◌⊎◌}
use Rattle.std.specs.List.{list_any}
use Rattle.std.proofs.Math.ListN.{get_or-append}
use Rattle.std.proofs.Math.Seq.{get_or-append_seam}
use Rattle.std.proofs.lemmas.Bool.{and_from, and_left, cases_eq, cases_lt, eq-eqb, ne_eqb}
use Rattle.std.proofs.lemmas.Grind.{get_or-set_at}
use Rattle.std.proofs.lemmas.List.{get_or-map, get_or-set_other, get_or_past, length-map, map-set}
use Rattle.std.proofs.lemmas.List.Folds.{list_any-append}
use Rattle.gq_base.specs.declared.NodeId.{NodeId}
use Rattle.gq_bits.specs.Places.{is_marked}
use Rattle.gq_bits.specs.declared.TheConstants.{VECTOR}
use Rattle.gq_plan.specs.Assignments.{same_node}
use Rattle.gq_plan.proofs.Products.{same_node_is}
use Rattle.gq_exists.specs.steps.Rows.{blocks_of, marked_at, marked_in, with_node}

-- ---- more blocks and tables

-- an item behind a list that is as good as none
more_none : {X Y : Type 0} (f : X → Y) (none x : X) (y : Y) → f none ≡ y → f x ≡ y → (xs : List X) (i : ℕ) → f (slice_index_or (xs ++ x ∷ []) i none) ≡ f (slice_index_or xs i none)
more_none f none x y e h xs i = go (cases_lt i (length xs)) (cases_eq i (length xs))
  where
    past : length xs ≤ i → f (slice_index_or xs i none) ≡ y
    past le = ap f (get_or_past xs i none le) ∙ e

    go : (i < length xs) ⊎ (length xs ≤ i) → (i ≡ length xs) ⊎ (i ≡ length xs → ⊥) → f (slice_index_or (xs ++ x ∷ []) i none) ≡ f (slice_index_or xs i none)
    go (inl lt) at = ap f (get_or-append xs (x ∷ []) none i lt)
    go (inr le) (inl at) = ap (λ j. f (slice_index_or (xs ++ x ∷ []) j none)) at ∙ ap f (get_or-append_seam xs x [] none) ∙ h ∙ sym (past le)
    go (inr le) (inr other) = ap f (get_or_past (xs ++ x ∷ []) i none (omega (arith, le, other, long))) ∙ e ∙ sym (past le)
      where
        long : length (xs ++ x ∷ []) ≡ length xs + 1
        long = length-append xs (x ∷ [])

pub block_more : (blocks : List (List Bool)) (blank : List Bool) → ((k : ℕ) → is_marked blank k ≡ false) → (row : ℕ) → marked_in (blocks ++ blank ∷ []) row ≡ marked_in blocks row
block_more blocks blank none row = more_none (λ b. is_marked b (row % VECTOR)) [] blank false refl (none (row % VECTOR)) blocks (row / VECTOR)

pub table_more : (tables : List (List (List Bool))) (n : NodeId) → marked_at (tables ++ [] ∷ []) n ≡ marked_at tables n
table_more tables n = more_none (λ t. marked_in t n.row) [] [] false refl refl tables n.table

-- ---- one more row

abbrev block : List (List Bool) → ℕ → List Bool
block blocks row = slice_index_or blocks (row / VECTOR) []

pub row_marked : (blocks : List (List Bool)) (row : ℕ) (b : List Bool) → row / VECTOR < length blocks → row % VECTOR < length (block blocks row) → b ≡ set (block blocks row) (row % VECTOR) true → (r : ℕ)
    → marked_in (set blocks (row / VECTOR) b) r ≡ (nat_eq r row || marked_in blocks r)
row_marked blocks row b there wide is r = go (cases_eq (r / VECTOR) (row / VECTOR)) (cases_eq (r % VECTOR) (row % VECTOR))
  where
    other : (r ≡ row → ⊥) → marked_in blocks r ≡ (nat_eq r row || marked_in blocks r)
    other ne = ap (λ t. t || marked_in blocks r) (sym (ne_eqb r row ne))

    go : (r / VECTOR ≡ row / VECTOR) ⊎ (r / VECTOR ≡ row / VECTOR → ⊥) → (r % VECTOR ≡ row % VECTOR) ⊎ (r % VECTOR ≡ row % VECTOR → ⊥)
        → marked_in (set blocks (row / VECTOR) b) r ≡ (nat_eq r row || marked_in blocks r)
    go (inl q) (inl m) =
        let same : r ≡ row = omega (arith, q, m) in
        ap (λ l. is_marked l (r % VECTOR)) (get_or-set_at blocks (row / VECTOR) (r / VECTOR) b [] q there ∙ is)
        ∙ get_or-set_at (block blocks row) (row % VECTOR) (r % VECTOR) true false m wide
        ∙ ap (λ t. t || marked_in blocks r) (sym (eq-eqb r row same))
    go (inl q) (inr m) =
        ap (λ l. is_marked l (r % VECTOR)) (get_or-set_at blocks (row / VECTOR) (r / VECTOR) b [] q there ∙ is)
        ∙ get_or-set_other (block blocks row) (row % VECTOR) (r % VECTOR) true false m
        ∙ ap (λ i. is_marked (slice_index_or blocks i []) (r % VECTOR)) (sym q)
        ∙ other (λ e. m (ap (λ i. i % VECTOR) e))
    go (inr q) m = ap (λ l. is_marked l (r % VECTOR)) (get_or-set_other blocks (row / VECTOR) (r / VECTOR) b [] q) ∙ other (λ e. q (ap (λ i. i / VECTOR) e))

pub node_marked : (tables : List (List (List Bool))) (node : NodeId) (blocks : List (List Bool)) → node.table < length tables
    → ((r : ℕ) → marked_in blocks r ≡ (nat_eq r node.row || marked_in (slice_index_or tables node.table []) r)) → (n : NodeId)
    → marked_at (set tables node.table blocks) n ≡ (same_node n node || marked_at tables n)
node_marked tables node blocks there is n = go (cases_eq n.table node.table)
  where
    go : (n.table ≡ node.table) ⊎ (n.table ≡ node.table → ⊥) → marked_at (set tables node.table blocks) n ≡ (same_node n node || marked_at tables n)
    go (inl e) =
        ap (λ t. marked_in t n.row) (get_or-set_at tables node.table n.table blocks [] e there) ∙ is n.row
        ∙ ap₂ (λ b i. (b && nat_eq n.row node.row) || marked_in (slice_index_or tables i []) n.row) (sym (eq-eqb n.table node.table e)) (sym e)
    go (inr ne) =
        ap (λ t. marked_in t n.row) (get_or-set_other tables node.table n.table blocks [] ne)
        ∙ ap (λ b. b || marked_at tables n) (sym (and_left (nat_eq n.table node.table) (nat_eq n.row node.row) (ne_eqb n.table node.table ne)))

-- ---- nodes

same_itself : (n : NodeId) → same_node n n ≡ true
same_itself n = and_from (nat_eq n.table n.table) (nat_eq n.row n.row) (eq-eqb n.table n.table refl) (eq-eqb n.row n.row refl)

or_first : (a b : Bool) → a ≡ true → (a || b) ≡ true
or_first a b e = ap (λ c. c || b) e

module _ (nodes : List NodeId) (node : NodeId) where
  -- with one more they are those that were there, and it
  pub with_node_has : (n : NodeId) → list_any (same_node n) (with_node nodes node) ≡ (same_node n node || list_any (same_node n) nodes)
  with_node_has n = go (list_any (same_node node) nodes) refl (same_node n node) refl
    where
      go : (known : Bool) → list_any (same_node node) nodes ≡ known → (b : Bool) → same_node n node ≡ b
          → list_any (same_node n) (cond known nodes (nodes ++ node ∷ [])) ≡ (b || list_any (same_node n) nodes)
      go true k true e = ap (λ m. list_any (same_node m) nodes) (sym (same_node_is n node e)) ∙ k
      go true k false e = refl
      go false k b e = list_any-append (same_node n) nodes (node ∷ []) ∙ ap (λ c. list_any (same_node n) nodes || (c || false)) e ∙ turned (list_any (same_node n) nodes) b
        where
          turned : (x y : Bool) → (x || (y || false)) ≡ (y || x)
          turned true true = refl
          turned true false = refl
          turned false true = refl
          turned false false = refl

module _ (nodes : List NodeId) (node : NodeId) (tables : List (List (List Bool))) (old new : List (List Bool)) (there : node.table < length tables) (at : slice_index_or tables node.table [] ≡ old)
    (are : (n : NodeId) → marked_at tables n ≡ list_any (same_node n) nodes) (marked : (r : ℕ) → marked_in new r ≡ (nat_eq r node.row || marked_in old r)) where
  set_marked : (n : NodeId) → marked_at (set tables node.table new) n ≡ list_any (same_node n) (with_node nodes node)
  set_marked n =
      node_marked tables node new there (λ r. marked r ∙ ap (λ b. nat_eq r node.row || marked_in b r) (sym at)) n
      ∙ ap (λ b. same_node n node || b) (are n) ∙ sym (with_node_has nodes node n)

  -- whether it was there, as its mark tells
  known : (first : Bool) → first ≡ not (marked_in old node.row) → list_any (same_node node) nodes ≡ not first
  known first e = sym (are node) ∙ ap (λ b. marked_in b node.row) at ∙ go (marked_in old node.row) ∙ ap not (sym e)
    where
      go : (b : Bool) → b ≡ not (not b)
      go true = refl
      go false = refl

  pub marked_new : (first : Bool) → first ≡ not (marked_in old node.row) → first ≡ true → (n : NodeId) → marked_at (set tables node.table new) n ≡ list_any (same_node n) (nodes ++ node ∷ [])
  marked_new first e on n = set_marked n ∙ ap (λ b. list_any (same_node n) (cond b nodes (nodes ++ node ∷ []))) (known first e ∙ ap not on)

  pub marked_known : (first : Bool) → first ≡ not (marked_in old node.row) → first ≡ false → (n : NodeId) → marked_at (set tables node.table new) n ≡ list_any (same_node n) nodes
  marked_known first e off n = set_marked n ∙ ap (λ b. list_any (same_node n) (cond b nodes (nodes ++ node ∷ []))) (known first e ∙ ap not off)

-- blocks of tables
pub blocks_set : {A : Type 0} (tables : List (Vec (List Bool) A)) (t : ℕ) (v : Vec (List Bool) A) → blocks_of (set tables t v) ≡ set (blocks_of tables) t v.items
blocks_set {A} tables t v = map-set (λ (v : Vec (List Bool) A). v.items) tables t v

pub blocks_at : {A : Type 0} (tables : List (Vec (List Bool) A)) (t : ℕ) (v : Vec (List Bool) A) → t < length tables → v ≡ slice_index_or tables t v → slice_index_or (blocks_of tables) t [] ≡ v.items
blocks_at {A} tables t v lt is = get_or-map (λ (v : Vec (List Bool) A). v.items) tables t v [] lt ∙ ap (λ (v : Vec (List Bool) A). v.items) (sym is)

pub blocks_long : {A : Type 0} (tables : List (Vec (List Bool) A)) (t : ℕ) → t < length tables → t < length (blocks_of tables)
blocks_long {A} tables t lt = omega (arith, lt, length-map tables (λ (v : Vec (List Bool) A). v.items))

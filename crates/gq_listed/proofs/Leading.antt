-- What is found where the numbers of a chunk's columns lie.
use Rattle.std.proofs.Common.{◌≡◌, ◌∙◌, ℕ, zero, suc, ◌+◌, ◌<◌, true, List, [], ◌∷◌, length, map, None, Some, refl, sym, ap, ap₂, subst, arith}
use Rattle.std.specs.Prelude.{slice_get, slice_index}
use Rattle.std.specs.List.{All, range_with_len}
use Rattle.std.proofs.lemmas.Bool.{and_parts}
use Rattle.gq_base.specs.Plain.{Graph}
use Rattle.gq_base.specs.declared.NodeId.{NodeId}
use Rattle.gq_base.specs.declared.RelId.{RelId}
use Rattle.gq_base.specs.declared.direction.Direction.{Direction}
use Rattle.gq_group.specs.Chunks.{IsChunk, IsChunkOf, IsNodeHome, assignment_at, edge_at, group_of, node_at, node_in}
use Rattle.gq_group.specs.Edges.{IsEdge, number_of}
use Rattle.gq_group.specs.Groups.{AreSelected, IsGroup, is_current, is_selected}
use Rattle.gq_group.specs.Pieces.{IsPiece, items_of}
use Rattle.gq_group.specs.declared.chunk.Chunk.{Chunk}
use Rattle.gq_group.specs.declared.edge.EdgeAt.{EdgeAt}
use Rattle.gq_group.specs.declared.group.Group.{Group}
use Rattle.gq_group.specs.declared.home.NodeHome.{NodeHome}
use Rattle.gq_group.specs.declared.home.NodeHome.TheVariants as home
use Rattle.gq_plan.specs.Rows.{as_read, nodes_of_tables, rel_table, rels_of_tables, table_of}
use Rattle.gq_plan.specs.declared.typed.Typed.{Typed}
use Rattle.gq_plan.specs.declared.typed.TypedRel.{TypedRel}
use Rattle.gq_store.specs.Neighbours.{numbers}
use Rattle.gq_store.specs.Places.{number_at}
use Rattle.gq_listed.proofs.FlatGroups.{home_is}
use Rattle.gq_listed.specs.Finding.{HasLoad, HasNode}
use Rattle.gq_listed.specs.Leads.{HasRelTable, HasTable, LivesAt}
use Rattle.gq_listed.specs.declared.finder.Range.{Range}
use Rattle.gq_listed.specs.declared.finder.Way.{Way}
use Rattle.gq_listed.specs.declared.finder.Way.TheVariants as way

-- ---- what is true of all is true of the one at a place

none_there : {X : Type 0} (x : X) (i : ℕ) → (let none : List X = [] in slice_get none i ≡ Some x) → ⊥
none_there x i e = cc e

there_within : {X : Type 0} (xs : List X) (i : ℕ) (x : X) → slice_get xs i ≡ Some x → i < length xs
there_within [] i x e = absurd (none_there x i e)
there_within (y ∷ ys) zero x e = omega arith
there_within (y ∷ ys) (suc i) x e = let low = there_within ys i x e in omega (arith, low)

of_all : {X : Type 0} (P : X → Type 0) (xs : List X) (i : ℕ) (x : X) → All P xs → slice_get xs i ≡ Some x → P x
of_all P xs i x all at = subst P (home_is xs i x x at) (all i x (there_within xs i x at))

-- ---- the position of a group

one : {X : Type 0} {x y : X} → Some x ≡ Some y → x ≡ y
one e = cc e

selected_at : (gs : List Group) (ps : List ℕ) (i : ℕ) (g : Group) → AreSelected gs ps → slice_get gs i ≡ Some g → (is_selected g (slice_index ps i) ≡ true) × (i < length ps)
selected_at [] ps i g h e = absurd (none_there g i e)
selected_at (g' ∷ gs) [] i g h e = absurd h
selected_at (g' ∷ gs) (p ∷ ps) zero g h e = (subst (λ x. is_selected x p ≡ true) (one e) h.0, omega arith)
selected_at (g' ∷ gs) (p ∷ ps) (suc i) g h e = let more = selected_at gs ps i g h.1 e in let low = more.1 in (more.0, omega (arith, low))

-- a group, and its selected position
pub record IsStanding (ps : List ℕ) (i : ℕ) (g : Group) : Type 0 where
  pub piece : IsPiece g.piece
  pub within : i < length ps
  pub low : slice_index ps i < length (items_of g.piece)
  pub selected : is_selected g (slice_index ps i) ≡ true

pub standing : (c : Chunk) (ps : List ℕ) (i : ℕ) (g : Group) → IsChunk c → AreSelected c.groups.now ps → group_of c i ≡ Some g → IsStanding ps i g
standing c ps i g ok selected at =
    let group : IsGroup g = of_all IsGroup c.groups.now i g ok.groups at in
    let here = selected_at c.groups.now ps i g selected at in
    record { piece = group.piece; within = here.1; low = group.marked (slice_index ps i) (and_parts (is_current g.current (slice_index ps i)) _ here.0).1; selected = here.0 }

-- ---- where a variable lives

pub item_stands : (c : Chunk) (w : Way) (i : ℕ) → IsChunk c → LivesAt c w (home.Item i) → i < length c.groups.now
item_stands c way.Value i ok is = absurd is
item_stands c (way.Node r) i ok is = of_all (IsNodeHome c) c.homes.now.nodes r.variable (home.Item i) ok.nodes is
item_stands c (way.Rel r) i ok is = absurd is

node_from : (f : ℕ → ℕ) (a : ℕ) (tables : List ℕ) (v table : ℕ) → slice_get tables v ≡ Some table → slice_get (nodes_of_tables tables (map f (range_with_len a (length tables)))) v ≡ Some (record { table = table; row = f (a + v) })
node_from f a [] v table is = absurd (none_there table v is)
node_from f a (t ∷ tables) zero table is = let here : a ≡ a + 0 = omega arith in ap₂ (λ x r. let n : NodeId = record { table = x; row = r } in Some n) (one is) (ap f here)
node_from f a (t ∷ tables) (suc v) table is = let up : a + 1 + v ≡ a + suc v = omega arith in node_from f (a + 1) tables v table is ∙ ap (λ k. let n : NodeId = record { table = table; row = f k } in Some n) up

-- the row that is read there is that of the variable's node
pub node_is : (g : Graph) (y : Typed) (c : Chunk) (ps : List ℕ) (w : Way) (h : NodeHome) (n : ℕ) → HasTable y w → LivesAt c w h → n ≡ node_in c ps h → HasNode w (as_read y (assignment_at g y c ps)) n
node_is g y c ps way.Value h n has is e = tt
node_is g y c ps (way.Node r) h n has is e =
    let same : 0 + r.variable ≡ r.variable = omega arith in
    node_from (node_at c ps) 0 y.nodes r.variable r.table has
    ∙ ap (λ row. let id : NodeId = record { table = r.table; row = row } in Some id) (ap (node_at c ps) same ∙ ap (node_in c ps) (home_is c.homes.now.nodes r.variable home.Nowhere h is) ∙ sym e)
node_is g y c ps (way.Rel r) h n has is e = tt

-- the same of the row that is read of the variable
pub node_has : (g : Graph) (y : Typed) (c : Chunk) (ps : List ℕ) (v table n : ℕ) → slice_get y.nodes v ≡ Some table → n ≡ node_at c ps v
    → slice_get (nodes_of_tables y.nodes (map (node_at c ps) (range_with_len 0 (length y.nodes)))) v ≡ Some (record { table = table; row = n })
node_has g y c ps v table n has e =
    let same : 0 + v ≡ v = omega arith in
    node_from (node_at c ps) 0 y.nodes v table has ∙ ap (λ row. let id : NodeId = record { table = table; row = row } in Some id) (ap (node_at c ps) same ∙ sym e)

-- ---- the place of a relationship

rel_from : (f : ℕ → ℕ) (a : ℕ) (rs : List TypedRel) (x : ℕ) (r : TypedRel) → slice_get rs x ≡ Some r → slice_get (rels_of_tables rs (map f (range_with_len a (length rs)))) x ≡ Some (record { table = r.table; row = f (a + x) })
rel_from f a [] x r is = absurd (none_there r x is)
rel_from f a (q ∷ rs) zero r is = let here : a ≡ a + 0 = omega arith in ap₂ (λ t n. let id : RelId = record { table = t; row = n } in Some id) (ap (λ (q : TypedRel). q.table) (one is)) (ap f here)
rel_from f a (q ∷ rs) (suc x) r is = let up : a + 1 + x ≡ a + suc x = omega arith in rel_from f (a + 1) rs x r is ∙ ap (λ k. let id : RelId = record { table = r.table; row = f k } in Some id) up

module _ (g : Graph) (y : Typed) (c : Chunk) (ps : List ℕ) (r : Range) (edge : EdgeAt) (has : HasRelTable y (way.Rel r)) (is : edge ≡ edge_at c ps r.variable) where
  table_is : rel_table y r.variable ≡ r.table
  table_is = ap table_of has.1 ∙ has.2

  -- a relationship of the graph is there
  pub edge_stands : IsChunkOf g y c → AreSelected c.groups.now ps → IsEdge g r.table edge
  edge_stands ok selected = subst (IsEdge g r.table) (sym is) (subst (λ t. IsEdge g t (edge_at c ps r.variable)) table_is (ok.edges ps selected r.variable (there_within y.rels r.variable has.0 has.1)))

  -- it is the variable's
  pub edge_loads : HasLoad r (as_read y (assignment_at g y c ps)) (number_of g r.table edge)
  edge_loads =
      let number : ℕ → ℕ = λ x. number_of g (rel_table y x) (edge_at c ps x) in
      let same : 0 + r.variable ≡ r.variable = omega arith in
      rel_from number 0 y.rels r.variable has.0 has.1
      ∙ ap₂ (λ t n. let id : RelId = record { table = t; row = n } in Some id) has.2
      (ap number same ∙ ap (λ t. number_of g t (edge_at c ps r.variable)) table_is ∙ ap (number_of g r.table) (sym is))

-- the number at a place of a list
some_index : (xs : List ℕ) (p : ℕ) → (slice_get xs p ≡ None → ⊥) → slice_get xs p ≡ Some (slice_index xs p)
some_index [] p h = absurd (h refl)
some_index (x ∷ xs) zero h = refl
some_index (x ∷ xs) (suc p) h = some_index xs p h

pub placed : (g : Graph) (table place : ℕ) (d : Direction) (row position : ℕ) → number_at g table place ≡ slice_get (numbers g table d row) position → (number_at g table place ≡ None → ⊥)
    → number_at g table place ≡ Some (slice_index (numbers g table d row) position)
placed g table place d row position is there = is ∙ some_index (numbers g table d row) position (λ none. there (is ∙ none))

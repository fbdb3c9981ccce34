-- The keys of a chunk, choice by choice, each node by node.
use Rattle.std.proofs.Common.{◌≡◌, ◌∙◌, ap, ap₂, refl, sym, subst, ℕ, ◌+◌, ◌<◌, ◌≤◌, zero, suc, Bool, true, false, List, [], ◌∷◌, ◌++◌, length, length-take, map, slice_index_or, Result, Ok, Err, arith, append_assoc, append-nil, true≢false}
use Rattle.std.specs.List.{range_with_len}
use Rattle.std.proofs.lemmas.List.{length-map, map-append, take_more}
use Rattle.std.proofs.lemmas.List.FromFn.{length-range_with_len, get_or-range_with_len}
use Rattle.std.proofs.lemmas.List.{get_or-map}
use Rattle.gq_base.specs.declared.NodeId.{NodeId}
use Rattle.gq_group.specs.Choices.{Begins, Chosen, IsChoice, Moves}
use Rattle.gq_group.specs.Chunks.{node_at}
use Rattle.gq_group.specs.Groups.{choices, later_choices}
use Rattle.gq_group.specs.declared.chunk.Chunk.{Chunk}
use Rattle.gq_group.specs.declared.group.Group.{Group}
use Rattle.gq_join.specs.declared.build.JoinRefusal.{JoinRefusal}
use Rattle.gq_plan.specs.Rows.{nodes_of_tables}
use Rattle.gq_plan.specs.declared.typed.Typed.{Typed}
use Rattle.gq_exists.specs.declared.gathering.Gathering.{Gathering}
use Rattle.gq_exists.specs.steps.Gathered.{Gathers, IsGathering, TakesOn, key_at, keys_at}
use Rattle.gq_exists.proofs.Gathered.{came_none, stops, then}

-- ---- one key

length-nodes : (tables rows : List ℕ) → length rows ≡ length tables → length (nodes_of_tables tables rows) ≡ length tables
length-nodes [] rows e = refl
length-nodes (t ∷ tables) [] e = absurd (omega (arith, e))
length-nodes (t ∷ tables) (r ∷ rows) e = ap suc (length-nodes tables rows (omega (arith, e)))

node_there : (tables rows : List ℕ) (v : ℕ) (d : NodeId) → length rows ≡ length tables → v < length tables
    → slice_index_or (nodes_of_tables tables rows) v d ≡ record { table = slice_index_or tables v 0; row = slice_index_or rows v 0 }
node_there [] rows v d e lt = absurd (omega (arith, lt))
node_there (t ∷ tables) [] v d e lt = absurd (omega (arith, e))
node_there (t ∷ tables) (r ∷ rows) zero d e lt = refl
node_there (t ∷ tables) (r ∷ rows) (suc v) d e lt = node_there tables rows v d (omega (arith, e)) (omega (arith, lt))

pub key_more : (y : Typed) (c : Chunk) (ps : List ℕ) (v table row : ℕ) → v < length y.nodes → table ≡ slice_index_or y.nodes v 0 → row ≡ node_at c ps v
    → key_at y (v + 1) c ps ≡ key_at y v c ps ++ record { table = table; row = row } ∷ []
key_more y c ps v table row lt t r =
    let n = length y.nodes in
    let rows = map (node_at c ps) (range_with_len 0 n) in
    let long : length rows ≡ n = length-map (range_with_len 0 n) (node_at c ps) ∙ length-range_with_len 0 n in
    let d : NodeId = record { table = 0; row = 0 } in
    let here : slice_index_or rows v 0 ≡ node_at c ps v =
    get_or-map (node_at c ps) (range_with_len 0 n) v 0 0 (omega (arith, lt, length-range_with_len 0 n)) ∙ ap (node_at c ps) (get_or-range_with_len 0 n v 0 lt ∙ (let e : 0 + v ≡ v = omega arith in e)) in
    take_more (nodes_of_tables y.nodes rows) v d (omega (arith, lt, length-nodes y.nodes rows long))
    ∙ ap (λ x. key_at y v c ps ++ x ∷ []) (node_there y.nodes rows v d long lt ∙ (λ i. record { table = sym t i; row = (here ∙ sym r) i }))

pub length-key : (y : Typed) (c : Chunk) (ps : List ℕ) (n : ℕ) → n ≤ length y.nodes → length (key_at y n c ps) ≡ n
length-key y c ps n le =
    let rows = map (node_at c ps) (range_with_len 0 (length y.nodes)) in
    let long : length rows ≡ length y.nodes = length-map (range_with_len 0 (length y.nodes)) (node_at c ps) ∙ length-range_with_len 0 (length y.nodes) in
    omega (arith, le, length-take n (nodes_of_tables y.nodes rows), length-nodes y.nodes rows long)

-- ---- all choices

-- the choices that are still to be taken, the one that stands first
abbrev pub left : List Group → Bool → Chosen → List (List ℕ)
left gs true c = c.positions ∷ later_choices gs c.positions
left gs false c = []

pub record Taken (y : Typed) (c : Chunk) (old new : Gathering) (found : Bool) (choice : Chosen) : Type 0 where
  pub before : List (List ℕ)
  pub whole : choices c.groups.now ≡ before ++ left c.groups.now found choice
  pub chosen : found ≡ true → IsChoice c.groups.now choice
  pub took : TakesOn (keys_at y old.width c before) old new

module _ (y : Typed) (c : Chunk) (old : Gathering) where
  abbrev gs : List Group
  gs = c.groups.now

  first_left : (told : Bool) (choice : Chosen) → Begins gs told choice → choices gs ≡ left gs told choice
  first_left true choice h = h.all
  first_left false choice h = h

  first_chosen : (told : Bool) (choice : Chosen) → Begins gs told choice → told ≡ true → IsChoice gs choice
  first_chosen true choice h e = h.stands
  first_chosen false choice h e = absurd (true≢false (sym e))

  next_left : (told : Bool) (a b : Chosen) → Moves gs a told b → later_choices gs a.positions ≡ left gs told b
  next_left true a b h = h.next
  next_left false a b h = h

  next_chosen : (told : Bool) (a b : Chosen) → Moves gs a told b → told ≡ true → IsChoice gs b
  next_chosen true a b h e = h.stands
  next_chosen false a b h e = absurd (true≢false (sym e))

  pub taken_first : IsGathering old → (told : Bool) (choice : Chosen) → Begins gs told choice → Taken y c old old told choice
  taken_first is told choice h = record {
    before = [];
    whole = first_left told choice h;
    chosen = first_chosen told choice h;
    took = came_none old is;
  }

  module _ (mid : Gathering) (choice : Chosen) (t : Taken y c old mid true choice) where
    abbrev rest : List (List ℕ)
    rest = later_choices gs choice.positions

    whole : choices gs ≡ (t.before ++ choice.positions ∷ []) ++ rest
    whole = t.whole ∙ sym (append_assoc t.before (choice.positions ∷ []) rest)

    more : (new : Gathering) (ps : List ℕ) (r : Result (Unit {0}) JoinRefusal) → ps ≡ choice.positions → Gathers (key_at y mid.width c ps ∷ []) mid new r
        → Gathers (keys_at y old.width c (t.before ++ choice.positions ∷ [])) old new r
    more new ps r at h =
        subst (λ l. Gathers l old new r) (sym (map-append (key_at y old.width c) t.before (choice.positions ∷ [])))
        (then (keys_at y old.width c t.before) (keys_at y old.width c (choice.positions ∷ [])) old mid new r t.took
        (subst (λ k. Gathers (k ∷ []) mid new r) (ap₂ (λ w p. key_at y w c p) t.took.width at) h))

    pub taken_next : (new : Gathering) (ps : List ℕ) (u : Unit {0}) → ps ≡ choice.positions → Gathers (key_at y mid.width c ps ∷ []) mid new (Ok u) → (told : Bool) (after : Chosen) → Moves gs choice told after
        → Taken y c old new told after
    taken_next new ps u at h told after moves = record {
      before = t.before ++ choice.positions ∷ [];
      whole = whole ∙ ap (λ l. (t.before ++ choice.positions ∷ []) ++ l) (next_left told choice after moves);
      chosen = next_chosen told choice after moves;
      took = more new ps (Ok u) at h;
    }

    pub taken_stops : (new : Gathering) (ps : List ℕ) (e : JoinRefusal) → ps ≡ choice.positions → Gathers (key_at y mid.width c ps ∷ []) mid new (Err e) → Gathers (keys_at y old.width c (choices gs)) old new (Err e)
    taken_stops new ps e at h =
        subst (λ l. Gathers l old new (Err e)) (sym (map-append (key_at y old.width c) (t.before ++ choice.positions ∷ []) rest) ∙ ap (keys_at y old.width c) (sym whole))
        (stops (keys_at y old.width c (t.before ++ choice.positions ∷ [])) (keys_at y old.width c rest) old new new e (more new ps (Err e) at h))

  pub taken_all : (new : Gathering) (choice : Chosen) → Taken y c old new false choice → TakesOn (keys_at y old.width c (choices gs)) old new
  taken_all new choice t = subst (λ l. TakesOn (keys_at y old.width c l) old new) (sym (t.whole ∙ append-nil t.before)) t.took

-- The pattern of a query's core has a shape: its paths are pieces of joined relationships, which together have each of its variables.
use Rattle.std.proofs.Common.{◌≡◌, ℕ, suc, ◌+◌, ◌<◌, ◌≤◌, Bool, true, false, ◌||◌, cond, nat_eq, nat_lt, Option, Some, None, List, [], ◌∷◌, ◌++◌, map, filter, flat_map, length, slice_get, ◌⊎◌, inl, inr, refl, sym, ap, ap₂, ◌∙◌, subst, arith, true≢false}
use Rattle.std.specs.List.{AllByRecursion, range_with_len}
use Rattle.std.specs.Option.{option_map}
use Rattle.std.proofs.lemmas.Bool.{and_from, and_parts, cases_lt, eq-eqb, eqb-true, or_cases, or_left, or_right}
use Rattle.std.proofs.lemmas.Bool.Decides.{nat_tests}
use Rattle.std.proofs.lemmas.List.{length-map, length_push}
use Rattle.std.proofs.lemmas.List.Elements.{All-from_recursion, recursion_from_All}
use Rattle.std.proofs.lemmas.List.Folds.{list_any-append}
use Rattle.std.proofs.lemmas.Map.Steps.{le-length_from_below}
use Rattle.std.proofs.lemmas.Option.{slice_get-map}
use Rattle.gq_base.specs.Catalogs.{Tables}
use Rattle.gq_alternatives.specs.Alternatives.{typed_of}
use Rattle.gq_alternatives.proofs.Shapes.{Ends, linked, path_ends, rights_of, walk}
use Rattle.gq_alternatives.proofs.ShapesOfPatterns.{IsShaped, all_ends, ends_of, node_cases}
use Rattle.gq_alternatives.proofs.SoundPatterns.{pattern_sound}
use Rattle.gq_plan.proofs.Each.{each_kept, each_map, each_then}
use Rattle.gq_plan.specs.Soundness.{EndsFit, IsPair, IsSound, has_number}
use Rattle.gq_plan.specs.declared.Typed.{Typed}
use Rattle.gq_plan.specs.declared.PathPart.{PathPart}
use Rattle.gq_plan.specs.declared.variable.Variable.{Variable}
use Rattle.gq_plan.specs.declared.variable.Variable.TheVariants.{Node as node, Rel as rel}
use Rattle.gq_scopes.specs.Patterns.{MapEntry, NodePattern, Pattern, RelPattern, no_pattern, variable_of, with_node, with_part, with_rel}
use Rattle.gq_scopes.specs.steps.Variables.{IsThere}
use Rattle.gq_ast.specs.declared.Clause.{Clause}
use Rattle.gq_ast.specs.declared.Hop.{Hop}
use Rattle.gq_ast.specs.declared.NodePart.{NodePart}
use Rattle.gq_ast.specs.declared.Path.{Path}
use Rattle.gq_ast.specs.declared.Range.{Range}
use Rattle.gq_law_reaches.specs.Core.{core_nodes, is_core_entry}
use Rattle.gq_law_reaches.specs.Reaches.{Trailed, without_trails}
use Rattle.gq_law_reaches.proofs.Cored.{take_length}
use Rattle.gq_law_cuts.specs.Cuts.{alone_in, core_first, core_of, core_size, cored_of, in_pattern, pattern_in, piece_behind, trailed_of, variable_in, with_clauses, with_hop, with_hops, with_path, with_paths}
use Rattle.gq_scopes.specs.Renumbering.{placed_in}
use Rattle.gq_law_cuts.specs.Shaped.{CoresAreSound, core_pattern_of}
use Rattle.gq_law_cuts.specs.Typing.{core_typed}
use Rattle.gq_law_cuts.proofs.Coring.{few, is_core, joined_first, lower, names, piece_core}
use Rattle.gq_law_cuts.proofs.Ordering.{placed_onto}
use Rattle.gq_law_cuts.proofs.Reading.{IsRead, trailed_read}

-- ---- each variable has a node pattern

abbrev variables : List NodePattern → List ℕ
variables ns = map (λ (m : NodePattern). m.variable) ns

abbrev HasAll : Pattern → Type 0
HasAll p = (v : ℕ) → v < length p.names → has_number (variables p.nodes) v ≡ true

one_behind : (ns : List NodePattern) (m : NodePattern) (v : ℕ) → has_number (variables (ns ++ m ∷ [])) v ≡ (has_number (variables ns) v || nat_eq v m.variable)
one_behind [] m v = none (nat_eq v m.variable)
  where
    none : (b : Bool) → (b || false) ≡ b
    none true = refl
    none false = refl
one_behind (n ∷ ns) m v = ap (λ b. nat_eq v n.variable || b) (one_behind ns m v) ∙ assoc (nat_eq v n.variable) (has_number (variables ns) v) (nat_eq v m.variable)
  where
    assoc : (a b c : Bool) → (a || (b || c)) ≡ ((a || b) || c)
    assoc true b c = refl
    assoc false b c = refl

node_all : (part : NodePart) (p : Pattern) → HasAll p → HasAll (with_node part p)
node_all part p all =
    node_cases HasAll part p
    (λ w low is v below. one_behind p.nodes (record { variable = w; part = part }) v ∙ or_left (has_number (variables p.nodes) v) (nat_eq v w) (all v below))
    (λ is v below. one_behind p.nodes (record { variable = length p.names; part = part }) v ∙ go v (let longer : length (p.names ++ part.name ∷ []) ≡ length p.names + 1 = length_push p.names part.name in omega (arith, longer, below)))
  where
    go : (v : ℕ) → v < length p.names + 1 → (has_number (variables p.nodes) v || nat_eq v (length p.names)) ≡ true
    go v low = elim (cases_lt v (length p.names)) as (λ _. (has_number (variables p.nodes) v || nat_eq v (length p.names)) ≡ true) [
      | inl less ↦ or_left (has_number (variables p.nodes) v) (nat_eq v (length p.names)) (all v less)
      | inr not_less ↦ or_right (has_number (variables p.nodes) v) (nat_eq v (length p.names)) (eq-eqb v (length p.names) (omega (arith, not_less, low)))
    ]

hops_all : (clause : ℕ) (piece : PathPart) (at : ℕ) (hs : List Hop) (q : Trailed) → HasAll q.pattern → HasAll (with_hops clause piece at hs q).pattern
hops_all clause piece at [] q all = all
hops_all clause piece at (h ∷ hs) q all =
    hops_all clause (piece_behind h.rel.trail piece (length q.pattern.rels) (variable_of q.pattern h.node)) (variable_of q.pattern h.node) hs
    (with_hop h.rel.trail clause piece at (variable_of q.pattern h.node) h q) (go h.rel.trail)
  where
    go : (o : Option Range) → HasAll (with_hop o clause piece at (variable_of q.pattern h.node) h q).pattern
    go None = node_all h.node (with_rel clause at (variable_of q.pattern h.node) h.rel q.pattern) all
    go (Some range) = node_all h.node (record (with_part piece q.pattern) { unnamed = suc q.pattern.unnamed }) all

paths_all : (clause : ℕ) (paths : List Path) (q : Trailed) → HasAll q.pattern → HasAll (with_paths clause paths q).pattern
paths_all clause [] q all = all
paths_all clause (path ∷ paths) q all =
    let v : ℕ = variable_of q.pattern path.first in
    paths_all clause paths (with_path clause path q)
    (hops_all clause (record { first = v; rels = [] }) v path.hops (record (in_pattern (with_node path.first) q) { alone = q.alone ++ alone_in path.hops v }) (node_all path.first q.pattern all))

clauses_all : (number : ℕ) (cs : List Clause) (q : Trailed) → HasAll q.pattern → HasAll (with_clauses number cs q).pattern
clauses_all number [] q all = all
clauses_all number (c ∷ cs) q all = clauses_all (suc number) cs (with_paths number c.paths q) (paths_all number c.paths q all)

trailed_all : (clauses : List Clause) → HasAll (trailed_of clauses).pattern
unfolding trailed_of
trailed_all clauses = clauses_all 0 clauses (without_trails no_pattern) (λ v low. absurd (omega arith))

-- ---- ends moved

module _ (f : ℕ → ℕ) where
  abbrev moved : Ends → Ends
  moved e = record { left = f e.left; right = f e.right }

  linked_moved : (at : ℕ) (os : List (Option Ends)) → linked at os ≡ true → linked (f at) (map (option_map moved) os) ≡ true
  linked_moved at [] h = refl
  linked_moved at (None ∷ os) h = absurd (true≢false (sym h))
  linked_moved at (Some e ∷ os) h =
      let parts = and_parts (nat_eq e.left at) (linked e.right os) h in
      and_from (nat_eq (f e.left) (f at)) (linked (f e.right) (map (option_map moved) os)) (eq-eqb (f e.left) (f at) (ap f (eqb-true e.left at parts.0))) (linked_moved e.right os parts.1)

  rights_moved : (os : List (Option Ends)) → rights_of (map (option_map moved) os) ≡ map f (rights_of os)
  rights_moved [] = refl
  rights_moved (None ∷ os) = rights_moved os
  rights_moved (Some e ∷ os) = ap (λ l. f e.right ∷ l) (rights_moved os)

  ends_moved : (es : List Ends) (xs : List ℕ) → map (slice_get (map moved es)) xs ≡ map (option_map moved) (map (slice_get es) xs)
  ends_moved es [] = refl
  ends_moved es (x ∷ xs) = ap₂ ◌∷◌ (slice_get-map moved es x) (ends_moved es xs)

  all_moved : (rs : List RelPattern) → map ends_of (map (λ (r : RelPattern). record r { left = f r.left; right = f r.right }) rs) ≡ map moved (map ends_of rs)
  all_moved [] = refl
  all_moved (r ∷ rs) = ap (λ l. record { left = f r.left; right = f r.right } ∷ l) (all_moved rs)

  has_moved : (vs : List ℕ) (v : ℕ) → has_number vs v ≡ true → has_number (map f vs) (f v) ≡ true
  has_moved [] v h = absurd (true≢false (sym h))
  has_moved (w ∷ vs) v h = go (or_cases (nat_eq v w) (has_number vs v) h) (has_moved vs v)
    where
      go : (nat_eq v w ≡ true) ⊎ (has_number vs v ≡ true) → (has_number vs v ≡ true → has_number (map f vs) (f v) ≡ true) → (nat_eq (f v) (f w) || has_number (map f vs) (f v)) ≡ true
      go (inl e) more = or_left (nat_eq (f v) (f w)) (has_number (map f vs) (f v)) (eq-eqb (f v) (f w) (ap f (eqb-true v w e)))
      go (inr e) more = or_right (nat_eq (f v) (f w)) (has_number (map f vs) (f v)) (more e)

-- ---- the core

module _ (q : Trailed) (read : IsRead q) (all : HasAll q.pattern) where
  abbrev p : Pattern
  p = q.pattern

  abbrev n : ℕ
  n = length p.names

  abbrev place : ℕ → ℕ
  place = placed_in (core_first q)

  abbrev k : ℕ
  k = length (core_nodes q)

  abbrev p' : Pattern
  p' = pattern_in (core_first q) p

  abbrev c : Pattern
  c = core_of k p'

  abbrev at_place : PathPart → PathPart
  at_place x = record x { first = place x.first }

  abbrev is_piece : PathPart → Bool
  is_piece x = nat_lt x.first k

  ends_are : all_ends c ≡ map (moved place) (all_ends p)
  ends_are = all_moved place p.rels

  counted : length (all_ends c) ≡ length (all_ends p)
  counted = ap length ends_are ∙ length-map (all_ends p) (moved place)

  names_are : length c.names ≡ k
  names_are = take_length k p'.names (subst (λ z. k ≤ z) (sym (names q read)) (few q read))

  -- what holds of all pieces holds of those of the core
  each_piece : (P : PathPart → Type 0) → AllByRecursion (λ x. P (at_place x)) p.paths → AllByRecursion (λ x. P x × (is_piece x ≡ true)) c.paths
  each_piece P h = each_kept P is_piece (map at_place p.paths) (each_map (λ x. P (at_place x)) P at_place (λ x k. k) p.paths h)

  joins : AllByRecursion (λ (x : PathPart). linked x.first (path_ends (all_ends c) x) ≡ true) c.paths
  joins =
      let P : PathPart → Type 0 = λ x. linked x.first (path_ends (all_ends c) x) ≡ true in
      each_then (λ x. P x × (is_piece x ≡ true)) P (λ x h. h.0) c.paths
      (each_piece P
      (each_then (λ (x : PathPart). linked x.first (path_ends (all_ends p) x) ≡ true) (λ x. P (at_place x))
      (λ x h. ap (λ es. linked (place x.first) (map (slice_get es) x.rels)) ends_are ∙ ap (linked (place x.first)) (ends_moved place (all_ends p) x.rels) ∙ linked_moved place x.first (path_ends (all_ends p) x) h)
      p.paths read.shape.joins))

  within : AllByRecursion (λ (x : PathPart). AllByRecursion (λ y. y < length (all_ends c)) x.rels) c.paths
  within =
      let P : PathPart → Type 0 = λ x. AllByRecursion (λ y. y < length (all_ends c)) x.rels in
      each_then (λ x. P x × (is_piece x ≡ true)) P (λ x h. h.0) c.paths
      (each_piece P (subst (λ m. AllByRecursion (λ (x : PathPart). AllByRecursion (λ y. y < m) x.rels) p.paths) (sym counted) read.shape.within))

  starts : AllByRecursion (λ (x : PathPart). x.first < length c.names) c.paths
  starts =
      subst (λ m. AllByRecursion (λ (x : PathPart). x.first < m) c.paths) (sym names_are)
      (each_then (λ x. Unit {0} × (is_piece x ≡ true)) (λ (x : PathPart). x.first < k) (λ x h. let e = h.1 in grind (arith, nat_tests, e)) c.paths
      (each_piece (λ x. Unit {0}) (each_then (λ (x : PathPart). x.first < n) (λ x. Unit {0}) (λ x low. tt) p.paths read.holds.starts)))

  -- the walk of a piece moves with it
  walk_moved : (x : PathPart) → walk (all_ends c) (at_place x) ≡ map place (walk (all_ends p) x)
  walk_moved x = ap (λ l. place x.first ∷ l) (ap (λ es. rights_of (map (slice_get es) x.rels)) ends_are ∙ ap rights_of (ends_moved place (all_ends p) x.rels) ∙ rights_moved place (path_ends (all_ends p) x))

  -- a piece that has a variable of the core is one of the core
  in_core_piece : (xs : List PathPart) → AllByRecursion (λ (x : PathPart). x.first < n) xs
      → AllByRecursion (λ (x : PathPart). (w : ℕ) → has_number (walk (all_ends p) x) w ≡ true → nat_lt (place w) k ≡ true → is_piece (at_place x) ≡ true) xs
      → (w : ℕ) → nat_lt (place w) k ≡ true → has_number (flat_map (walk (all_ends p)) xs) w ≡ true → has_number (flat_map (walk (all_ends c)) (filter is_piece (map at_place xs))) (place w) ≡ true
  in_core_piece [] low core w inner h = absurd (true≢false (sym h))
  in_core_piece (x ∷ xs) low core w inner h =
      go (is_piece (at_place x)) refl (or_cases (has_number (walk (all_ends p) x) w) (has_number (flat_map (walk (all_ends p)) xs) w) (sym (list_any-append (nat_eq w) (walk (all_ends p) x) (flat_map (walk (all_ends p)) xs)) ∙ h))
      (in_core_piece xs low.1 core.1 w inner)
    where
      go : (b : Bool) → is_piece (at_place x) ≡ b → (has_number (walk (all_ends p) x) w ≡ true) ⊎ (has_number (flat_map (walk (all_ends p)) xs) w ≡ true)
          → (has_number (flat_map (walk (all_ends p)) xs) w ≡ true → has_number (flat_map (walk (all_ends c)) (filter is_piece (map at_place xs))) (place w) ≡ true)
          → has_number (flat_map (walk (all_ends c)) (cond b (at_place x ∷ filter is_piece (map at_place xs)) (filter is_piece (map at_place xs)))) (place w) ≡ true
      go true is (inl here) more =
          list_any-append (nat_eq (place w)) (walk (all_ends c) (at_place x)) (flat_map (walk (all_ends c)) (filter is_piece (map at_place xs)))
          ∙ or_left _ _ (ap (λ l. has_number l (place w)) (walk_moved x) ∙ has_moved place (walk (all_ends p) x) w here)
      go true is (inr later) more =
          list_any-append (nat_eq (place w)) (walk (all_ends c) (at_place x)) (flat_map (walk (all_ends c)) (filter is_piece (map at_place xs)))
          ∙ or_right _ _ (more later)
      go false is (inl here) more = absurd (true≢false (sym (core.0 w here inner) ∙ is))
      go false is (inr later) more = more later

  every_node : (v : ℕ) → 0 ≤ v → v < length c.names → has_number (flat_map (walk (all_ends c)) c.paths) v ≡ true
  every_node v least low =
      let below : v < k = subst (λ m. v < m) names_are low in
      let most : k ≤ n = few q read in
      let w = placed_onto (is_core q read) n v (omega (arith, below, most)) in
      subst (λ u. has_number (flat_map (walk (all_ends c)) c.paths) u ≡ true) w.2
      (in_core_piece p.paths read.holds.starts (piece_core q read) w.0 (ap (λ u. nat_lt u k) w.2 ∙ grind (arith, nat_tests, below)) (read.shape.every_node w.0 (omega arith) w.1))

  -- pieces outside the core have no relationship
  every_rel : flat_map (λ (x : PathPart). x.rels) c.paths ≡ range_with_len 0 (length (all_ends c))
  every_rel = kept p.paths (joined_first q read) ∙ read.shape.every_rel ∙ ap (range_with_len 0) (sym counted)
    where
      kept : (xs : List PathPart) → AllByRecursion (λ (x : PathPart). is_piece (at_place x) ≡ false → x.rels ≡ []) xs
          → flat_map (λ (x : PathPart). x.rels) (filter is_piece (map at_place xs)) ≡ flat_map (λ (x : PathPart). x.rels) xs
      kept [] h = refl
      kept (x ∷ xs) h = go (is_piece (at_place x)) refl (kept xs h.1)
        where
          go : (b : Bool) → is_piece (at_place x) ≡ b → flat_map (λ (x : PathPart). x.rels) (filter is_piece (map at_place xs)) ≡ flat_map (λ (x : PathPart). x.rels) xs
              → flat_map (λ (x : PathPart). x.rels) (cond b (at_place x ∷ filter is_piece (map at_place xs)) (filter is_piece (map at_place xs))) ≡ x.rels ++ flat_map (λ (x : PathPart). x.rels) xs
          go true is more = ap (λ l. x.rels ++ l) more
          go false is more = more ∙ ap (λ l. l ++ flat_map (λ (x : PathPart). x.rels) xs) (sym (h.0 is))

  -- each variable of the core has a node pattern of the core
  nodes_kept : (ms : List NodePattern) (w : ℕ) → nat_lt (place w) k ≡ true → has_number (variables ms) w ≡ true
      → has_number (variables (filter (λ (m : NodePattern). nat_lt m.variable k) (map (λ (m : NodePattern). record m { variable = place m.variable }) ms))) (place w) ≡ true
  nodes_kept [] w inner h = absurd (true≢false (sym h))
  nodes_kept (m ∷ ms) w inner h = go (nat_lt (place m.variable) k) refl (or_cases (nat_eq w m.variable) (has_number (variables ms) w) h) (nodes_kept ms w inner)
    where
      go : (b : Bool) → nat_lt (place m.variable) k ≡ b → (nat_eq w m.variable ≡ true) ⊎ (has_number (variables ms) w ≡ true)
          → (has_number (variables ms) w ≡ true → has_number (variables (filter (λ (m : NodePattern). nat_lt m.variable k) (map (λ (m : NodePattern). record m { variable = place m.variable }) ms))) (place w) ≡ true)
          → has_number (variables (cond b (record m { variable = place m.variable } ∷ filter (λ (m : NodePattern). nat_lt m.variable k) (map (λ (m : NodePattern). record m { variable = place m.variable }) ms))
          (filter (λ (m : NodePattern). nat_lt m.variable k) (map (λ (m : NodePattern). record m { variable = place m.variable }) ms)))) (place w) ≡ true
      go true is (inl e) more = or_left _ _ (eq-eqb (place w) (place m.variable) (ap place (eqb-true w m.variable e)))
      go true is (inr e) more = or_right _ _ (more e)
      go false is (inl e) more = absurd (true≢false (sym inner ∙ ap (λ u. nat_lt (place u) k) (eqb-true w m.variable e) ∙ is))
      go false is (inr e) more = more e

  fewer : length c.names ≤ 0 + length c.nodes
  fewer =
      let most : k ≤ n = few q read in
      let many : k ≤ length (variables c.nodes) =
      le-length_from_below (variables c.nodes) k
      (λ v below.
      let w = placed_onto (is_core q read) n v (omega (arith, below, most)) in
      subst (λ u. has_number (variables c.nodes) u ≡ true) w.2 (nodes_kept p.nodes w.0 (ap (λ u. nat_lt u k) w.2 ∙ grind (arith, nat_tests, below)) (all w.0 w.1))) in
      let counts : length (variables c.nodes) ≡ length c.nodes = length-map c.nodes (λ (m : NodePattern). m.variable) in
      let names_many : length c.names ≡ k = names_are in
      omega (arith, many, counts, names_many)

  there : AllByRecursion (λ (e : MapEntry). IsThere (length c.names) (length (all_ends c)) e.variable) c.entries
  there =
      subst (λ m. AllByRecursion (λ (e : MapEntry). IsThere m (length (all_ends c)) e.variable) c.entries) (sym names_are)
      (subst (λ m. AllByRecursion (λ (e : MapEntry). IsThere k m e.variable) c.entries) (sym counted)
      (each_then (λ (e : MapEntry). IsThere n (length (all_ends p)) e.variable × (is_core_entry k e ≡ true)) (λ (e : MapEntry). IsThere k (length (all_ends p)) e.variable)
      (λ e h. below e h.0 h.1) c.entries
      (each_kept (λ (e : MapEntry). IsThere n (length (all_ends p)) e.variable) (is_core_entry k) p'.entries
      (each_map (λ (e : MapEntry). IsThere n (length (all_ends p)) e.variable) (λ (e : MapEntry). IsThere n (length (all_ends p)) e.variable)
      (λ (e : MapEntry). record e { variable = variable_in (core_first q) e.variable }) (λ e h. still e.variable h) p.entries read.shape.there))))
    where
      still : (v : Variable) → IsThere n (length (all_ends p)) v → IsThere n (length (all_ends p)) (variable_in (core_first q) v)
      still (node v) h = lower q read v h
      still (rel x) h = h

      inside : (v : Variable) → IsThere n (length (all_ends p)) v → (e : MapEntry) → is_core_entry k (record e { variable = v }) ≡ true → IsThere k (length (all_ends p)) v
      inside (node v) h e low = grind (arith, nat_tests, low)
      inside (rel x) h e low = h

      below : (e : MapEntry) → IsThere n (length (all_ends p)) e.variable → is_core_entry k e ≡ true → IsThere k (length (all_ends p)) e.variable
      below e h low = inside e.variable h e low

  pub core_shaped : IsShaped c
  core_shaped = record {
    shape = record { joins = joins; within = within; every_node = every_node; every_rel = every_rel; fewer = fewer; there = there };
    starts = starts;
  }

-- the numbers of late conjuncts do not count
late_apart : (catalog : Tables) (y : Typed) (numbers : List ℕ) → IsSound catalog y → IsSound catalog (record y { late = numbers })
late_apart catalog y numbers sound = record {
  tables = sound.tables;
  ends =
      All-from_recursion (EndsFit catalog (record y { late = numbers })) y.rels
      (each_then (EndsFit catalog y) (EndsFit catalog (record y { late = numbers })) (λ r h. record { table = h.table; source = h.source; target = h.target }) y.rels (recursion_from_All (EndsFit catalog y) y.rels sound.ends));
  pairs =
      All-from_recursion (IsPair (record y { late = numbers })) y.pairs
      (each_then (IsPair y) (IsPair (record y { late = numbers })) (λ r h. record { ascends = h.ascends; within = h.within }) y.pairs (recursion_from_All (IsPair y) y.pairs sound.pairs));
  starts = sound.starts;
  joins = sound.joins;
  every_node = sound.every_node;
  every_rel = sound.every_rel;
  nodes_fit = sound.nodes_fit;
  rels_fit = sound.rels_fit;
  names = sound.names;
  reads_fit = sound.reads_fit;
  never_fault = sound.never_fault;
}

pub core_pattern_shaped : (clauses : List Clause) → IsShaped (core_of (core_size clauses) (cored_of clauses).pattern)
unfolding cored_of core_size
core_pattern_shaped clauses = core_shaped (trailed_of clauses) (trailed_read clauses) (trailed_all clauses)

pub cores_are_sound : CoresAreSound
unfolding core_typed
cores_are_sound catalog clauses stays entries conjuncts choice few_nodes few_rels chosen agree fit =
    late_apart catalog (typed_of catalog (core_pattern_of clauses) entries (filter stays conjuncts) choice)
    (core_typed catalog (core_pattern_of clauses) stays entries conjuncts choice).late
    (pattern_sound catalog (core_pattern_of clauses) entries (filter stays conjuncts) choice (core_pattern_shaped clauses) few_nodes few_rels chosen agree fit.names fit.few fit.never_fault)

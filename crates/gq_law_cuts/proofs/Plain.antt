-- Without trails, patterns are read as they are without cuts, and numbering the core's variables first changes nothing.
use Rattle.std.proofs.Common.{◌≡◌, ℕ, zero, suc, ◌+◌, ◌<◌, ◌≤◌, Bool, true, false, not, cond, nat_lt, Option, Some, None, unwrap_or, List, [], ◌∷◌, ◌++◌, map, filter, length, slice_get, take, refl, sym, ap, ap₂, ◌∙◌, subst, arith, append-nil, append_assoc, zero-add, true≢false}
use Rattle.std.specs.List.{AllByRecursion, list_any, range_with_len}
use Rattle.std.proofs.lemmas.Bool.{eq-eqb, lt-ltb, ne_eqb}
use Rattle.std.proofs.lemmas.List.{length_push}
use Rattle.std.proofs.lemmas.List.FromFn.{length-range_with_len}
use Rattle.gq_alternatives.proofs.Searches.{filter_same}
use Rattle.gq_alternatives.proofs.ShapesOfPatterns.{all_ends, node_cases, node_rels}
use Rattle.gq_law_reaches.specs.Core.{core_nodes, is_core_entry}
use Rattle.gq_law_reaches.specs.Cores.{is_end}
use Rattle.gq_law_reaches.specs.Reaches.{Trailed, without_trails}
use Rattle.gq_plan.proofs.Each.{each_append, each_below, each_then}
use Rattle.gq_plan.specs.Soundness.{has_number}
use Rattle.gq_plan.specs.declared.PathPart.{PathPart}
use Rattle.gq_plan.specs.declared.variable.Variable.{Variable}
use Rattle.gq_plan.specs.declared.variable.Variable.TheVariants.{Node as node, Rel as rel}
use Rattle.gq_scopes.specs.Patterns as plain
use Rattle.gq_scopes.specs.Patterns.{MapEntry, Name, NamedVariable, NodePattern, Pattern, RelPattern, naming, no_pattern, pattern_of, variable_of, with_node, with_part, with_rel}
use Rattle.gq_scopes.specs.steps.Variables.{IsThere}
use Rattle.gq_ast.specs.declared.Clause.{Clause}
use Rattle.gq_ast.specs.declared.Hop.{Hop}
use Rattle.gq_ast.specs.declared.NodePart.{NodePart}
use Rattle.gq_ast.specs.declared.Path.{Path}
use Rattle.gq_ast.specs.declared.Range.{Range}
use Rattle.gq_law_cuts.specs.Cuts.{alone_in, core_first, core_of, core_size, cored_of, in_pattern, listed_in, pattern_in, piece_behind, trailed_of, variable_in, with_clauses, with_hop, with_hops, with_path, with_paths}
use Rattle.gq_scopes.specs.Renumbering.{placed_in}
use Rattle.gq_law_cuts.specs.Plain.{HaveNoTrail, PlainCuts}
use Rattle.gq_law_cuts.proofs.Coring.{is_core, outside}
use Rattle.gq_law_cuts.proofs.Ordering.{range_has}
use Rattle.gq_law_cuts.proofs.Reading.{IsRead, trailed_read}

-- ---- patterns are read as they are without cuts

abbrev NoTrail : List Hop → Type 0
NoTrail hs = AllByRecursion (λ (h : Hop). h.rel.trail ≡ None) hs

hops_plain : (clause : ℕ) (piece : PathPart) (at : ℕ) (hs : List Hop) (q : Trailed) → NoTrail hs
    → ((with_hops clause piece at hs q).pattern ≡ with_part (record { first = piece.first; rels = piece.rels ++ range_with_len (length q.pattern.rels) (length hs) }) (plain.with_hops clause at hs q.pattern))
    × ((with_hops clause piece at hs q).trails ≡ q.trails)
hops_plain clause piece at [] q none = (ap (λ l. with_part (record { first = piece.first; rels = l }) q.pattern) (sym (append-nil piece.rels)), refl)
hops_plain clause piece at (h ∷ hs) q none =
    go h.rel.trail none.0 (hops_plain clause (piece_behind None piece (length q.pattern.rels) w) w hs (with_hop None clause piece at w h q) none.1)
  where
    w : ℕ
    w = variable_of q.pattern h.node

    p1 : Pattern
    p1 = with_node h.node (with_rel clause at (variable_of q.pattern h.node) h.rel q.pattern)

    counted : length (with_node h.node (with_rel clause at (variable_of q.pattern h.node) h.rel q.pattern)).rels ≡ length q.pattern.rels + 1
    counted = ap length (node_rels h.node (with_rel clause at (variable_of q.pattern h.node) h.rel q.pattern)) ∙ length_push q.pattern.rels _

    go : (o : Option Range) → o ≡ None
        → ((with_hops clause (piece_behind None piece (length q.pattern.rels) (variable_of q.pattern h.node)) (variable_of q.pattern h.node) hs (with_hop None clause piece at (variable_of q.pattern h.node) h q)).pattern
        ≡ with_part (record { first = piece.first; rels = (piece.rels ++ length q.pattern.rels ∷ []) ++ range_with_len (length (with_node h.node (with_rel clause at (variable_of q.pattern h.node) h.rel q.pattern)).rels) (length hs) })
        (plain.with_hops clause (variable_of q.pattern h.node) hs (with_node h.node (with_rel clause at (variable_of q.pattern h.node) h.rel q.pattern))))
        × ((with_hops clause (piece_behind None piece (length q.pattern.rels) (variable_of q.pattern h.node)) (variable_of q.pattern h.node) hs (with_hop None clause piece at (variable_of q.pattern h.node) h q)).trails ≡ q.trails)
        → ((with_hops clause (piece_behind o piece (length q.pattern.rels) (variable_of q.pattern h.node)) (variable_of q.pattern h.node) hs (with_hop o clause piece at (variable_of q.pattern h.node) h q)).pattern
        ≡ with_part (record { first = piece.first; rels = piece.rels ++ (length q.pattern.rels ∷ range_with_len (length q.pattern.rels + 1) (length hs)) })
        (plain.with_hops clause (variable_of q.pattern h.node) hs (with_node h.node (with_rel clause at (variable_of q.pattern h.node) h.rel q.pattern))))
        × ((with_hops clause (piece_behind o piece (length q.pattern.rels) (variable_of q.pattern h.node)) (variable_of q.pattern h.node) hs (with_hop o clause piece at (variable_of q.pattern h.node) h q)).trails ≡ q.trails)
    go None e more = (
      more.0
          ∙ ap (λ l. with_part (record { first = piece.first; rels = l }) (plain.with_hops clause (variable_of q.pattern h.node) hs (with_node h.node (with_rel clause at (variable_of q.pattern h.node) h.rel q.pattern))))
          (append_assoc piece.rels (length q.pattern.rels ∷ []) _ ∙ ap (λ m. piece.rels ++ (length q.pattern.rels ∷ range_with_len m (length hs))) counted),
      more.1,
    )
    go (Some range) e more = absurd (cc e)

path_plain : (clause : ℕ) (path : Path) (q : Trailed) → NoTrail path.hops
    → ((with_path clause path q).pattern ≡ plain.with_path clause path q.pattern) × ((with_path clause path q).trails ≡ q.trails)
path_plain clause path q none =
    let v : ℕ = variable_of q.pattern path.first in
    let read = hops_plain clause (record { first = v; rels = [] }) v path.hops (record (in_pattern (with_node path.first) q) { alone = q.alone ++ alone_in path.hops v }) none in (
      read.0 ∙ ap (λ (rs : List RelPattern). with_part (record { first = v; rels = range_with_len (length rs) (length path.hops) }) (plain.with_hops clause v path.hops (with_node path.first q.pattern))) (node_rels path.first q.pattern),
      read.1,
    )

paths_plain : (clause : ℕ) (paths : List Path) (q : Trailed) → AllByRecursion (λ (path : Path). NoTrail path.hops) paths
    → ((with_paths clause paths q).pattern ≡ plain.with_paths clause paths q.pattern) × ((with_paths clause paths q).trails ≡ q.trails)
paths_plain clause [] q none = (refl, refl)
paths_plain clause (path ∷ paths) q none =
    let one = path_plain clause path q none.0 in
    let rest = paths_plain clause paths (with_path clause path q) none.1 in
    (rest.0 ∙ ap (plain.with_paths clause paths) one.0, rest.1 ∙ one.1)

clauses_plain : (number : ℕ) (cs : List Clause) (q : Trailed) → HaveNoTrail cs
    → ((with_clauses number cs q).pattern ≡ plain.with_clauses number cs q.pattern) × ((with_clauses number cs q).trails ≡ q.trails)
clauses_plain number [] q none = (refl, refl)
clauses_plain number (c ∷ cs) q none =
    let one = paths_plain number c.paths q none.0 in
    let rest = clauses_plain (suc number) cs (with_paths number c.paths q) none.1 in
    (rest.0 ∙ ap (plain.with_clauses (suc number) cs) one.0, rest.1 ∙ one.1)

trailed_plain : (clauses : List Clause) → HaveNoTrail clauses → ((trailed_of clauses).pattern ≡ pattern_of clauses) × ((trailed_of clauses).trails ≡ [])
unfolding trailed_of pattern_of
trailed_plain clauses none = clauses_plain 0 clauses (without_trails no_pattern) none

-- ---- what each path of a pattern keeps, all keep

module _ (P : Pattern → Type 0) (path_keeps : (clause : ℕ) (path : Path) (p : Pattern) → P p → P (plain.with_path clause path p)) where
  paths_keep : (clause : ℕ) (paths : List Path) (p : Pattern) → P p → P (plain.with_paths clause paths p)
  paths_keep clause [] p h = h
  paths_keep clause (path ∷ paths) p h = paths_keep clause paths (plain.with_path clause path p) (path_keeps clause path p h)

  clauses_keep : (number : ℕ) (cs : List Clause) (p : Pattern) → P p → P (plain.with_clauses number cs p)
  clauses_keep number [] p h = h
  clauses_keep number (c ∷ cs) p h = clauses_keep (suc number) cs (plain.with_paths number c.paths p) (paths_keep number c.paths p h)

-- ---- the names in patterns are of variables

abbrev Below : ℕ → Variable → Type 0
Below n (node v) = v < n
Below n (rel x) = Unit {0}

abbrev Named : Pattern → Type 0
Named p = AllByRecursion (λ (m : NamedVariable). Below (length p.names) m.variable) p.named

one_named : (n : ℕ) (name : Option Name) (v : Variable) → Below n v → AllByRecursion (λ (m : NamedVariable). Below n m.variable) (naming name v)
one_named n None v h = tt
one_named n (Some name) v h = (h, tt)

more_named : (n k : ℕ) (v : Variable) → n ≤ k → Below n v → Below k v
more_named n k (node v) more h = omega (arith, more, h)
more_named n k (rel x) more h = tt

node_named : (part : NodePart) (p : Pattern) → Named p → Named (with_node part p)
node_named part p h =
    node_cases Named part p
    (λ v low is. each_append (λ (m : NamedVariable). Below (length p.names) m.variable) p.named (naming part.name (node v)) h (one_named (length p.names) part.name (node v) low))
    (λ is.
    let n : ℕ = length (p.names ++ part.name ∷ []) in
    let longer : length (p.names ++ part.name ∷ []) ≡ length p.names + 1 = length_push p.names part.name in
    each_append (λ (m : NamedVariable). Below n m.variable) p.named (naming part.name (node (length p.names)))
    (each_then (λ (m : NamedVariable). Below (length p.names) m.variable) (λ (m : NamedVariable). Below n m.variable) (λ m. more_named (length p.names) n m.variable (omega (arith, longer))) p.named h)
    (one_named n part.name (node (length p.names)) (omega (arith, longer))))

hops_named : (clause at : ℕ) (hs : List Hop) (p : Pattern) → Named p → Named (plain.with_hops clause at hs p)
hops_named clause at [] p h = h
hops_named clause at (x ∷ hs) p h =
    let w : ℕ = variable_of p x.node in
    hops_named clause w hs (with_node x.node (with_rel clause at w x.rel p))
    (node_named x.node (with_rel clause at w x.rel p)
    (each_append (λ (m : NamedVariable). Below (length p.names) m.variable) p.named (naming x.rel.name (rel (length p.rels))) h (one_named (length p.names) x.rel.name (rel (length p.rels)) tt)))

pattern_named : (clauses : List Clause) → Named (pattern_of clauses)
unfolding pattern_of
pattern_named clauses =
    clauses_keep Named (λ clause path p h. hops_named clause (variable_of p path.first) path.hops (with_node path.first p) (node_named path.first p h))
    0 clauses no_pattern tt

-- ---- each variable has a name

abbrev Counted : Pattern → Type 0
Counted p = length p.node_names ≡ length p.names

node_counted : (part : NodePart) (p : Pattern) → Counted p → Counted (with_node part p)
node_counted part p h =
    node_cases Counted part p (λ v low is. h)
    (λ is.
    let names : length (p.names ++ part.name ∷ []) ≡ length p.names + 1 = length_push p.names part.name in
    let called : length (p.node_names ++ plain.called p.unnamed part.name ∷ []) ≡ length p.node_names + 1 = length_push p.node_names (plain.called p.unnamed part.name) in
    omega (arith, names, called, h))

hops_counted : (clause at : ℕ) (hs : List Hop) (p : Pattern) → Counted p → Counted (plain.with_hops clause at hs p)
hops_counted clause at [] p h = h
hops_counted clause at (x ∷ hs) p h =
    let w : ℕ = variable_of p x.node in
    hops_counted clause w hs (with_node x.node (with_rel clause at w x.rel p)) (node_counted x.node (with_rel clause at w x.rel p) h)

names_counted : (clauses : List Clause) → Counted (pattern_of clauses)
unfolding pattern_of
names_counted clauses =
    clauses_keep Counted (λ clause path p h. hops_counted clause (variable_of p path.first) path.hops (with_node path.first p) (node_counted path.first p h))
    0 clauses no_pattern refl

-- ---- the order of first appearance changes nothing

placed_range : (a n j : ℕ) → j < n → placed_in (range_with_len a n) (a + j) ≡ j
placed_range a zero j low = absurd (omega arith)
placed_range a (suc n) zero low = ap (λ b. cond b 0 (suc (placed_in (range_with_len (a + 1) n) (a + 0)))) (eq-eqb (a + 0) a (omega arith))
placed_range a (suc n) (suc j) low =
    let next : a + suc j ≡ a + 1 + j = omega arith in
    ap (λ b. cond b 0 (suc (placed_in (range_with_len (a + 1) n) (a + suc j)))) (ne_eqb (a + suc j) a (λ e. omega (arith, e)))
    ∙ ap suc (ap (placed_in (range_with_len (a + 1) n)) next ∙ placed_range (a + 1) n j (omega arith))

listed_range : {X : Type 0} (other : X) (xs : List X) (a : ℕ) (get : ℕ → Option X) → ((j : ℕ) → get (a + j) ≡ slice_get xs j)
    → map (λ v. unwrap_or (get v) other) (range_with_len a (length xs)) ≡ xs
listed_range other [] a get h = refl
listed_range other (x ∷ xs) a get h =
    let here : a ≡ a + 0 = omega arith in
    ap₂ ◌∷◌ (ap (λ o. unwrap_or o other) (ap get here ∙ h 0))
    (listed_range other xs (a + 1) get (λ j. let next : a + 1 + j ≡ a + suc j = omega arith in ap get next ∙ h (suc j)))

map_same : {X : Type 0} (f : X → X) (xs : List X) → AllByRecursion (λ x. f x ≡ x) xs → map f xs ≡ xs
map_same f [] h = refl
map_same f (x ∷ xs) h = ap₂ ◌∷◌ h.0 (map_same f xs h.1)

filter_none : {X : Type 0} (xs : List X) → filter (λ x. false) xs ≡ []
filter_none [] = refl
filter_none (x ∷ xs) = filter_none xs

filter_all : {X : Type 0} (xs : List X) → filter (λ x. true) xs ≡ xs
filter_all [] = refl
filter_all (x ∷ xs) = ap (λ l. x ∷ l) (filter_all xs)

pub kept_all : {X : Type 0} (f : X → Bool) (xs : List X) → AllByRecursion (λ x. f x ≡ true) xs → filter f xs ≡ xs
kept_all f xs h = filter_same f (λ x. true) xs h ∙ filter_all xs

take_all : {X : Type 0} (xs : List X) → take (length xs) xs ≡ xs
take_all [] = refl
take_all (x ∷ xs) = ap (λ l. x ∷ l) (take_all xs)

module _ (q : Trailed) (read : IsRead q) (none : q.trails ≡ []) (counted : length q.pattern.node_names ≡ length q.pattern.names) (named : Named q.pattern) where
  abbrev p : Pattern
  p = q.pattern

  abbrev n : ℕ
  n = length p.names

  core_all : (v : ℕ) → v < n → is_core q read v ≡ true
  core_all v low = go (is_core q read v) refl
    where
      go : (b : Bool) → is_core q read v ≡ b → b ≡ true
      go true e = refl
      go false e = absurd (true≢false (sym (sym (ap (list_any (is_end v)) none) ∙ outside q read v low e)))

  nodes_are : core_nodes q ≡ range_with_len 0 n
  nodes_are = kept_all (is_core q read) (range_with_len 0 n) (each_then (λ k. k < n) (λ k. is_core q read k ≡ true) core_all (range_with_len 0 n) (each_below 0 n n (omega arith)))

  order_is : core_first q ≡ range_with_len 0 n
  order_is =
      ap₂ ◌++◌ nodes_are
      (ap (λ cs. filter (λ v. not (has_number cs v)) (range_with_len 0 n)) nodes_are
      ∙ filter_same (λ v. not (has_number (range_with_len 0 n) v)) (λ v. false) (range_with_len 0 n)
      (each_then (λ k. k < n) (λ k. not (has_number (range_with_len 0 n) k) ≡ false) (λ k low. ap not (range_has n k ∙ lt-ltb k n low)) (range_with_len 0 n) (each_below 0 n n (omega arith)))
      ∙ filter_none (range_with_len 0 n))
      ∙ append-nil (range_with_len 0 n)

  place_is : (v : ℕ) → v < n → placed_in (core_first q) v ≡ v
  place_is v low = ap (λ l. placed_in l v) order_is ∙ ap (placed_in (range_with_len 0 n)) (sym (zero-add v)) ∙ placed_range 0 n v low

  variable_is : (v : Variable) → Below n v → variable_in (core_first q) v ≡ v
  variable_is (node v) low = ap node (place_is v low)
  variable_is (rel x) low = refl

  below_so : (v : Variable) → IsThere n (length (all_ends p)) v → Below n v
  below_so (node v) h = h
  below_so (rel x) h = tt

  pub pattern_same : pattern_in (core_first q) p ≡ p
  pattern_same =
      let names : listed_in None p.names (core_first q) ≡ p.names = ap (listed_in None p.names) order_is ∙ listed_range None p.names 0 (slice_get p.names) (λ j. ap (slice_get p.names) (zero-add j)) in
      let node_names : listed_in [] p.node_names (core_first q) ≡ p.node_names =
      ap (listed_in [] p.node_names) (order_is ∙ ap (range_with_len 0) (sym counted)) ∙ listed_range [] p.node_names 0 (slice_get p.node_names) (λ j. ap (slice_get p.node_names) (zero-add j)) in
      let nameds = map_same (λ (m : NamedVariable). record m { variable = variable_in (core_first q) m.variable }) p.named
      (each_then (λ (m : NamedVariable). Below n m.variable) (λ (m : NamedVariable). record m { variable = variable_in (core_first q) m.variable } ≡ m)
      (λ m low. ap (λ v. record m { variable = v }) (variable_is m.variable low)) p.named named) in
      let nodes = map_same (λ (m : NodePattern). record m { variable = placed_in (core_first q) m.variable }) p.nodes
      (each_then (λ (m : NodePattern). m.variable < n) (λ (m : NodePattern). record m { variable = placed_in (core_first q) m.variable } ≡ m)
      (λ m low. ap (λ v. record m { variable = v }) (place_is m.variable low)) p.nodes read.holds.nodes) in
      let rels = map_same (λ (r : RelPattern). record r { left = placed_in (core_first q) r.left; right = placed_in (core_first q) r.right }) p.rels
      (each_then (λ (r : RelPattern). (r.left < n) × (r.right < n)) (λ (r : RelPattern). record r { left = placed_in (core_first q) r.left; right = placed_in (core_first q) r.right } ≡ r)
      (λ r low. ap₂ (λ v w. record r { left = v; right = w }) (place_is r.left low.0) (place_is r.right low.1)) p.rels read.holds.rels) in
      let paths = map_same (λ (x : PathPart). record x { first = placed_in (core_first q) x.first }) p.paths
      (each_then (λ (x : PathPart). x.first < n) (λ (x : PathPart). record x { first = placed_in (core_first q) x.first } ≡ x)
      (λ x low. ap (λ v. record x { first = v }) (place_is x.first low)) p.paths read.holds.starts) in
      let entries = map_same (λ (e : MapEntry). record e { variable = variable_in (core_first q) e.variable }) p.entries
      (each_then (λ (e : MapEntry). IsThere n (length (all_ends p)) e.variable) (λ (e : MapEntry). record e { variable = variable_in (core_first q) e.variable } ≡ e)
      (λ e there. ap (λ v. record e { variable = v }) (variable_is e.variable (below_so e.variable there))) p.entries read.shape.there) in
      λ i. record p { names = names i; node_names = node_names i; named = nameds i; nodes = nodes i; rels = rels i; paths = paths i; entries = entries i }

  size_is : length (core_nodes q) ≡ n
  size_is = ap length nodes_are ∙ length-range_with_len 0 n

  entry_in : (v : Variable) (e : MapEntry) → Below n v → is_core_entry n (record e { variable = v }) ≡ true
  entry_in (node v) e low = lt-ltb v n low
  entry_in (rel x) e low = refl

  -- all of it is the core
  pub core_same : core_of (length (core_nodes q)) p ≡ p
  core_same =
      ap (λ k. core_of k p) size_is
      ∙ (λ i. record p {
        names = take_all p.names i;
        nodes = kept_all (λ (m : NodePattern). nat_lt m.variable n) p.nodes (each_then (λ (m : NodePattern). m.variable < n) (λ (m : NodePattern). nat_lt m.variable n ≡ true) (λ m low. lt-ltb m.variable n low) p.nodes read.holds.nodes) i;
        entries =
            kept_all (is_core_entry n) p.entries
            (each_then (λ (e : MapEntry). IsThere n (length (all_ends p)) e.variable) (λ (e : MapEntry). is_core_entry n e ≡ true) (λ e there. entry_in e.variable e (below_so e.variable there)) p.entries read.shape.there) i;
        paths = kept_all (λ (x : PathPart). nat_lt x.first n) p.paths (each_then (λ (x : PathPart). x.first < n) (λ (x : PathPart). nat_lt x.first n ≡ true) (λ x low. lt-ltb x.first n low) p.paths read.holds.starts) i;
      })

pub plain_cuts : PlainCuts
unfolding cored_of core_size
plain_cuts clauses none =
    let q : Trailed = trailed_of clauses in
    let read : IsRead q = trailed_read clauses in
    let plainly = trailed_plain clauses none in
    let counted : length q.pattern.node_names ≡ length q.pattern.names =
    ap (λ (r : Pattern). length r.node_names) plainly.0 ∙ names_counted clauses ∙ ap (λ (r : Pattern). length r.names) (sym plainly.0) in
    let named : Named q.pattern = subst Named (sym plainly.0) (pattern_named clauses) in
    let same : pattern_in (core_first q) q.pattern ≡ q.pattern = pattern_same q read plainly.1 counted named in (
      same ∙ plainly.0,
      ap (map _) plainly.1,
      ap (core_of (length (core_nodes q))) same ∙ core_same q read plainly.1 counted named ∙ plainly.0,
    )

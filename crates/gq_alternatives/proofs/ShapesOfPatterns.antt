-- The patterns of a query have a shape: paths of joined relationships, which together have each variable.
use Rattle.std.proofs.Common.{◌≡◌, ℕ, suc, ◌+◌, ◌<◌, ◌≤◌, Option, Some, None, true, List, [], ◌∷◌, ◌++◌, map, flat_map, length, refl, unwrap_or, sym, ap, ◌∙◌, subst, arith}
use Rattle.gq_plan.specs.declared.variable.Variable.TheVariants.{Node as node, Rel as rel}
use Rattle.gq_plan.specs.declared.variable.Variable.{Variable}
use Rattle.std.specs.List.{AllByRecursion}
use Rattle.std.proofs.lemmas.List.{length-map, length_push, map_push}
use Rattle.gq_base.proofs.ListFacts.{found_within}
use Rattle.gq_plan.specs.Soundness.{has_number}
use Rattle.gq_plan.specs.declared.PathPart.{PathPart}
use Rattle.gq_plan.proofs.Each.{each_of, each_map, each_then, each_append}
use Rattle.gq_ast.specs.declared.Clause.{Clause}
use Rattle.gq_ast.specs.declared.Entry.{Entry}
use Rattle.gq_ast.specs.declared.Hop.{Hop}
use Rattle.gq_ast.specs.declared.NodePart.{NodePart}
use Rattle.gq_ast.specs.declared.Path.{Path}
use Rattle.gq_ast.specs.declared.RelPart.{RelPart}
use Rattle.gq_alternatives.proofs.Shapes.{Ends, IsShape, walk, path_ends, end_of, run, shape_path, first_passed, shape_again, shape_new, right_passed, end_is, shape_rel, still_passed}
use Rattle.gq_scopes.specs.Patterns.{Name, RelPattern, MapEntry, Pattern, no_pattern, is_called, known_as, called, variable_of, entries_of, node_again, node_new, with_node, with_rel, with_hops, with_path, with_paths, with_clauses, pattern_of}
use Rattle.gq_scopes.specs.steps.Variables.{IsThere}

abbrev pub ends_of : RelPattern → Ends
ends_of r = record { left = r.left; right = r.right }

abbrev pub all_ends : Pattern → List Ends
all_ends p = map ends_of p.rels

-- a pattern's shape, with these paths and with so many free node variables
abbrev pub HasShape : ℕ → Pattern → List PathPart → Type 0
HasShape free p ps = IsShape free (length p.names) (length p.nodes) (all_ends p) ps p.entries

-- ---- node patterns

known_there : (names : List (Option Name)) (name : Option Name) (v : ℕ) → known_as names name ≡ Some v → v < length names
known_there names None v e = cc e
known_there names (Some name) v e = found_within (is_called name) names v e

module _ (P : Pattern → Type 0) (part : NodePart) (p : Pattern) where
  -- a node pattern is of a variable that stands already, or of a new one
  pub node_cases : ((v : ℕ) → v < length p.names → variable_of p part ≡ v → P (node_again v part p)) → (variable_of p part ≡ length p.names → P (node_new part p)) → P (with_node part p)
  node_cases again new = go (known_as p.names part.name) refl
    where
      go : (o : Option ℕ) → known_as p.names part.name ≡ o → P (with_node part p)
      go None e = rw e (new (ap (λ o. unwrap_or o (length p.names)) e))
      go (Some v) e = rw e (again v (known_there p.names part.name v e) (ap (λ o. unwrap_or o (length p.names)) e))

entries_there : (n m : ℕ) (v : Variable) (name : Name) (es : List Entry) → IsThere n m v → AllByRecursion (λ e. IsThere n m e.variable) (entries_of v name es)
entries_there n m v name es there = each_map (λ e. Unit {0}) (λ e. IsThere n m e.variable) (λ e. record { variable = v; called = name; entry = e }) (λ e _. there) es (each_of (λ e. Unit {0}) (λ e. tt) es)

longer : {X : Type 0} (xs : List X) (x : X) → suc (length xs) ≡ length (xs ++ x ∷ [])
longer xs x = let e : length (xs ++ x ∷ []) ≡ length xs + 1 = length_push xs x in omega arith

pub node_shape : (free : ℕ) (part : NodePart) (p : Pattern) (ps : List PathPart) → HasShape free p ps → has_number (flat_map (walk (all_ends p)) ps) (variable_of p part) ≡ true → HasShape free (with_node part p) ps
node_shape free part p ps s passed =
    node_cases (λ q. HasShape free q ps) part p
    (λ v low is.
    subst (λ k. IsShape free (length p.names) k (all_ends p) ps (p.entries ++ entries_of (node v) (called p.unnamed part.name) part.map)) (longer p.nodes (record { variable = v; part = part }))
    (shape_again free (length p.names) (length p.nodes) (all_ends p) ps p.entries (entries_of (node v) (called p.unnamed part.name) part.map) s
    (entries_there (length p.names) (length (all_ends p)) (node v) (called p.unnamed part.name) part.map low)))
    (λ is.
    let v : ℕ = length p.names in
    let es : List MapEntry = entries_of (node v) (called p.unnamed part.name) part.map in
    subst (λ n. IsShape free n (length (p.nodes ++ record { variable = v; part = part } ∷ [])) (all_ends p) ps (p.entries ++ es)) (longer p.names part.name)
    (subst (λ k. IsShape free (suc v) k (all_ends p) ps (p.entries ++ es)) (longer p.nodes (record { variable = v; part = part }))
    (shape_new free v (length p.nodes) (all_ends p) ps p.entries es s
    (subst (λ w. has_number (flat_map (walk (all_ends p)) ps) w ≡ true) is passed)
    (entries_there (suc v) (length (all_ends p)) (node v) (called p.unnamed part.name) part.map (omega arith)))))

-- a node pattern leaves the relationships and the paths
pub node_rels : (part : NodePart) (p : Pattern) → (with_node part p).rels ≡ p.rels
node_rels part p = node_cases (λ q. q.rels ≡ p.rels) part p (λ v low is. refl) (λ is. refl)

pub node_paths : (part : NodePart) (p : Pattern) → (with_node part p).paths ≡ p.paths
node_paths part p = node_cases (λ q. q.paths ≡ p.paths) part p (λ v low is. refl) (λ is. refl)

-- ---- patterns only grow

pub record Grows (p q : Pattern) : Type 0 where
  pub names : length p.names ≤ length q.names
  pub rels : length p.rels ≤ length q.rels

pub grows_same : (p : Pattern) → Grows p p
grows_same p = record { names = omega arith; rels = omega arith }

pub grows_then : (p q r : Pattern) → Grows p q → Grows q r → Grows p r
grows_then p q r g h =
    let a : length p.names ≤ length q.names = g.names in
    let b : length q.names ≤ length r.names = h.names in
    let c : length p.rels ≤ length q.rels = g.rels in
    let d : length q.rels ≤ length r.rels = h.rels in
    record { names = omega arith; rels = omega arith }

node_grows : (part : NodePart) (p : Pattern) → Grows p (with_node part p)
node_grows part p =
    node_cases (Grows p) part p (λ v low is. record { names = omega arith; rels = omega arith })
    (λ is. let e : suc (length p.names) ≡ length (p.names ++ part.name ∷ []) = longer p.names part.name in record { names = omega arith; rels = omega arith })

rel_grows : (clause left right : ℕ) (part : RelPart) (p : Pattern) → Grows p (with_rel clause left right part p)
rel_grows clause left right part p =
    let e : suc (length p.rels) ≡ length (p.rels ++ record { clause = clause; left = left; right = right; part = part } ∷ []) = longer p.rels (record { clause = clause; left = left; right = right; part = part }) in
    record { names = omega arith; rels = omega arith }

pub hops_grow : (clause left : ℕ) (hs : List Hop) (p : Pattern) → Grows p (with_hops clause left hs p)
hops_grow clause left [] p = grows_same p
hops_grow clause left (h ∷ hs) p =
    let q : Pattern = with_rel clause left (variable_of p h.node) h.rel p in
    let r : Pattern = with_node h.node q in
    grows_then p r (with_hops clause (variable_of p h.node) hs r)
    (grows_then p q r (rel_grows clause left (variable_of p h.node) h.rel p) (node_grows h.node q))
    (hops_grow clause (variable_of p h.node) hs r)

pub path_grows : (clause : ℕ) (path : Path) (p : Pattern) → Grows p (with_path clause path p)
path_grows clause path p =
    let r : Pattern = with_node path.first p in
    let h = hops_grow clause (variable_of p path.first) path.hops r in
    let g = grows_then p r (with_hops clause (variable_of p path.first) path.hops r) (node_grows path.first p) h in
    record { names = g.names; rels = g.rels }

pub paths_grow : (clause : ℕ) (paths : List Path) (p : Pattern) → Grows p (with_paths clause paths p)
paths_grow clause [] p = grows_same p
paths_grow clause (path ∷ paths) p = grows_then p (with_path clause path p) (with_paths clause paths (with_path clause path p)) (path_grows clause path p) (paths_grow clause paths (with_path clause path p))

pub clauses_grow : (number : ℕ) (cs : List Clause) (p : Pattern) → Grows p (with_clauses number cs p)
clauses_grow number [] p = grows_same p
clauses_grow number (c ∷ cs) p =
    grows_then p (with_paths number c.paths p) (with_clauses (suc number) cs (with_paths number c.paths p)) (paths_grow number c.paths p) (clauses_grow (suc number) cs (with_paths number c.paths p))

-- ---- paths

-- the last path is a run that ends at a node variable
pub record IsOpen (free : ℕ) (p : Pattern) (ps : List PathPart) (first start count at : ℕ) : Type 0 where
  pub shape : HasShape free p (ps ++ run first start count ∷ [])
  pub next : start + count ≡ length (all_ends p)
  pub ends : end_of first (path_ends (all_ends p) (run first start count)) ≡ at

module _ (free clause at right : ℕ) (part : RelPart) (p : Pattern) (ps : List PathPart) (first start count : ℕ) (o : IsOpen free p ps first start count at) where
  abbrev new_ends : Ends
  new_ends = record { left = at; right = right }

  ends_more : all_ends p ++ new_ends ∷ [] ≡ all_ends (with_rel clause at right part p)
  ends_more = sym (map_push ends_of p.rels (record { clause = clause; left = at; right = right; part = part }))

  pub rel_open : IsOpen free (with_rel clause at right part p) ps first start (count + 1) right
  rel_open =
      let n : ℕ = length p.names in
      let k : ℕ = length p.nodes in
      let es : List Ends = all_ends p in
      let counted : length es ≡ length p.rels = length-map p.rels ends_of in
      let longer_by : suc (length es) ≡ length (es ++ new_ends ∷ []) = longer es new_ends in
      let next : start + count ≡ length es = o.next in
      record {
        shape =
            subst (λ l. IsShape free n k l (ps ++ run first start (count + 1) ∷ []) (p.entries ++ entries_of (rel (length p.rels)) (called p.unnamed part.name) part.map)) ends_more
            (shape_rel free n k es new_ends ps first start count next p.entries o.shape (entries_of (rel (length p.rels)) (called p.unnamed part.name) part.map) o.ends
            (entries_there n (suc (length es)) (rel (length p.rels)) (called p.unnamed part.name) part.map (omega arith)));
        next = subst (λ l. start + (count + 1) ≡ length l) ends_more (omega arith);
        ends = subst (λ l. end_of first (path_ends l (run first start (count + 1))) ≡ right) ends_more (end_is free n k es new_ends ps first start count next p.entries o.shape);
      }

  pub rel_passed : has_number (flat_map (walk (all_ends (with_rel clause at right part p))) (ps ++ run first start (count + 1) ∷ [])) right ≡ true
  rel_passed =
      subst (λ l. has_number (flat_map (walk l) (ps ++ run first start (count + 1) ∷ [])) right ≡ true) ends_more
      (right_passed free (length p.names) (length p.nodes) (all_ends p) new_ends ps first start count o.next p.entries o.shape)

  -- what stood in the paths stands there
  pub rel_passes : (v : ℕ) → has_number (flat_map (walk (all_ends p)) (ps ++ run first start count ∷ [])) v ≡ true
      → has_number (flat_map (walk (all_ends (with_rel clause at right part p))) (ps ++ run first start (count + 1) ∷ [])) v ≡ true
  rel_passes v h =
      subst (λ l. has_number (flat_map (walk l) (ps ++ run first start (count + 1) ∷ [])) v ≡ true) ends_more
      (still_passed free (length p.names) (length p.nodes) (all_ends p) new_ends ps first start count o.next p.entries o.shape v h)

pub node_open : (free : ℕ) (part : NodePart) (p : Pattern) (ps : List PathPart) (first start count at : ℕ) → has_number (flat_map (walk (all_ends p)) (ps ++ run first start count ∷ [])) (variable_of p part) ≡ true
    → IsOpen free p ps first start count at → IsOpen free (with_node part p) ps first start count at
node_open free part p ps first start count at passed o = record {
  shape = node_shape free part p (ps ++ run first start count ∷ []) o.shape passed;
  next = subst (λ rs. start + count ≡ length (map ends_of rs)) (sym (node_rels part p)) o.next;
  ends = subst (λ rs. end_of first (path_ends (map ends_of rs) (run first start count)) ≡ at) (sym (node_rels part p)) o.ends;
}

hops_shape : (free clause at : ℕ) (hs : List Hop) (p : Pattern) (ps : List PathPart) (first start count : ℕ) → IsOpen free p ps first start count at
    → HasShape free (with_hops clause at hs p) (ps ++ run first start (count + length hs) ∷ [])
hops_shape free clause at [] p ps first start count o = let e : count ≡ count + 0 = omega arith in subst (λ n. HasShape free p (ps ++ run first start n ∷ [])) e o.shape
hops_shape free clause at (h ∷ hs) p ps first start count o =
    let w : ℕ = variable_of p h.node in
    let q : Pattern = with_rel clause at w h.rel p in
    let e : count + 1 + length hs ≡ count + suc (length hs) = omega arith in
    subst (λ n. HasShape free (with_hops clause w hs (with_node h.node q)) (ps ++ run first start n ∷ [])) e
    (hops_shape free clause w hs (with_node h.node q) ps first start (count + 1)
    (node_open free h.node q ps first start (count + 1) w (rel_passed free clause at w h.rel p ps first start count o) (rel_open free clause at w h.rel p ps first start count o)))

pub hops_paths : (clause at : ℕ) (hs : List Hop) (p : Pattern) → (with_hops clause at hs p).paths ≡ p.paths
hops_paths clause at [] p = refl
hops_paths clause at (h ∷ hs) p =
    let q : Pattern = with_rel clause at (variable_of p h.node) h.rel p in
    hops_paths clause (variable_of p h.node) hs (with_node h.node q) ∙ node_paths h.node q

-- patterns have a shape, with so many free node variables, and each path begins with a node variable of theirs
pub record IsShapedBut (free : ℕ) (p : Pattern) : Type 0 where
  pub shape : HasShape free p p.paths
  pub starts : AllByRecursion (λ q. q.first < length p.names) p.paths

abbrev pub IsShaped : Pattern → Type 0
IsShaped p = IsShapedBut 0 p

node_there : (part : NodePart) (p : Pattern) → variable_of p part < length (with_node part p).names
node_there part p =
    node_cases (λ q. variable_of p part < length q.names) part p (λ v low is. omega arith)
    (λ is. let e : suc (length p.names) ≡ length (p.names ++ part.name ∷ []) = longer p.names part.name in omega arith)

pub path_shaped : (free clause : ℕ) (path : Path) (p : Pattern) → IsShapedBut free p → IsShapedBut free (with_path clause path p)
path_shaped free clause path p s =
    let first : ℕ = variable_of p path.first in
    let start : ℕ = length p.rels in
    let q : Pattern = with_node path.first p in
    let r : Pattern = with_hops clause first path.hops q in
    let part : PathPart = run first start (length path.hops) in
    let paths_are : p.paths ≡ r.paths = sym (hops_paths clause first path.hops q ∙ node_paths path.first p) in
    let counted : length (all_ends p) ≡ length p.rels = length-map p.rels ends_of in
    let opened : IsOpen free q p.paths first start 0 first = record {
      shape = node_shape free path.first p (p.paths ++ run first start 0 ∷ []) (shape_path first free (length p.names) (length p.nodes) (all_ends p) p.paths p.entries s.shape start) (first_passed first start (all_ends p) p.paths);
      next = subst (λ rs. start + 0 ≡ length (map ends_of rs)) (sym (node_rels path.first p)) (omega arith);
      ends = refl;
    } in
    let none : 0 + length path.hops ≡ length path.hops = omega arith in
    let grown : length q.names ≤ length r.names = (hops_grow clause first path.hops q).names in
    let grows : length p.names ≤ length q.names = (node_grows path.first p).names in
    let there : first < length q.names = node_there path.first p in
    record {
      shape = subst (λ ps. HasShape free r (ps ++ part ∷ [])) paths_are (subst (λ n. HasShape free r (p.paths ++ run first start n ∷ [])) none (hops_shape free clause first path.hops q p.paths first start 0 opened));
      starts =
          subst (λ ps. AllByRecursion (λ q. q.first < length r.names) (ps ++ part ∷ [])) paths_are
          (each_append (λ q. q.first < length r.names) p.paths (part ∷ []) (each_then (λ q. q.first < length p.names) (λ q. q.first < length r.names) (λ q low. omega arith) p.paths s.starts) (omega arith, tt));
    }

paths_shaped : (clause : ℕ) (paths : List Path) (p : Pattern) → IsShaped p → IsShaped (with_paths clause paths p)
paths_shaped clause [] p s = s
paths_shaped clause (path ∷ paths) p s = paths_shaped clause paths (with_path clause path p) (path_shaped 0 clause path p s)

clauses_shaped : (number : ℕ) (cs : List Clause) (p : Pattern) → IsShaped p → IsShaped (with_clauses number cs p)
clauses_shaped number [] p s = s
clauses_shaped number (c ∷ cs) p s = clauses_shaped (suc number) cs (with_paths number c.paths p) (paths_shaped number c.paths p s)

pub pattern_shaped : (clauses : List Clause) → IsShaped (pattern_of clauses)
unfolding pattern_of
pattern_shaped clauses =
    clauses_shaped 0 clauses no_pattern
    (record { shape = record { joins = tt; within = tt; every_node = λ v f h. absurd (omega arith); every_rel = refl; fewer = omega arith; there = tt }; starts = tt })

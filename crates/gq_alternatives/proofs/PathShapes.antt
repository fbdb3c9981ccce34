-- The pattern of a path by itself has a shape: its first node variables, which are the names of the path's nodes, stand in the path; and
-- how many patterns and variables it has.
use Rattle.std.proofs.Common.{◌≡◌, ℕ, zero, suc, ◌+◌, ◌<◌, ◌≤◌, Bool, true, false, ◌||◌, cond, nat_eq, Option, Some, None, List, [], ◌∷◌, ◌++◌, map, flat_map, length, refl, unwrap_or, sym, ap, ◌∙◌, subst, arith, append-nil, true≢false, inl, inr, eqb-true}
use Rattle.std.specs.Prelude.{is_some}
use Rattle.std.specs.List.{AllByRecursion, list_any, range_with_len}
use Rattle.std.specs.Cmp.Lexicographic.{pointwise}
use Rattle.std.proofs.lemmas.Bool.{and_from, cases_lt, eq-eqb, or_left, or_right}
use Rattle.std.proofs.lemmas.List.{length-map, length_push}
use Rattle.gq_plan.specs.Soundness.{has_number}
use Rattle.gq_plan.proofs.DifferentReads.{IsUnique, among_fewer}
use Rattle.gq_scopes.proofs.NamingLemmas.{listed, where_none_passes, where_one_passes}
use Rattle.gq_scopes.specs.PathPatterns.{named_first, path_pattern, shared_names, with_name, with_names}
use Rattle.gq_scopes.specs.Patterns.{Name, Pattern, find_name, is_called, known_as, no_pattern, variable_of, with_hops, with_node, with_path, with_rel}
use Rattle.gq_ast.specs.declared.Hop.{Hop}
use Rattle.gq_ast.specs.declared.NodePart.{NodePart}
use Rattle.gq_ast.specs.declared.Path.{Path}
use Rattle.gq_alternatives.proofs.Shapes.{Ends, path_ends, rights_of, run, walk, first_passed, shape_path}
use Rattle.gq_alternatives.proofs.ShapesOfPatterns.{IsOpen, IsShaped, IsShapedBut, all_ends, ends_of, hops_grow, hops_paths, path_grows, node_cases, node_open, node_paths, node_rels, node_shape, path_shaped, rel_open, rel_passed, rel_passes}

-- ---- the names of a path's nodes, the last one first

abbrev named : Option Name → List Name → List Name
named None done = done
named (Some name) done = name ∷ done

abbrev hop_names : List Hop → List Name → List Name
hop_names [] done = done
hop_names (h ∷ hs) done = hop_names hs (named h.node.name done)

abbrev path_names : Path → List Name
path_names path = hop_names path.hops (named path.first.name [])

abbrev is_at : Option ℕ → ℕ → Bool
is_at None v = false
is_at (Some w) v = nat_eq w v

called_so : (n : Name) → pointwise nat_eq n n ≡ true
called_so [] = refl
called_so (a ∷ n) = and_from (nat_eq a a) (pointwise nat_eq n n) (eq-eqb a a refl) (called_so n)

at_is : (o : Option ℕ) (v : ℕ) → is_at o v ≡ true → o ≡ Some v
at_is None v e = absurd (true≢false (sym e))
at_is (Some w) v e = ap Some (eqb-true w v e)

is_there : (o : Option ℕ) (v : ℕ) → o ≡ Some v → is_at o v ≡ true
is_there o v e = ap (λ p. is_at p v) e ∙ eq-eqb v v refl

any_then : (f g : Name → Bool) → ((n : Name) → f n ≡ true → g n ≡ true) → (ns : List Name) → list_any f ns ≡ true → list_any g ns ≡ true
any_then f g h [] e = absurd (true≢false (sym e))
any_then f g h (n ∷ ns) e = go (f n) refl (any_then f g h ns) e
  where
    go : (b : Bool) → f n ≡ b → (list_any f ns ≡ true → list_any g ns ≡ true) → (b || list_any f ns) ≡ true → (g n || list_any g ns) ≡ true
    go true is more e = or_left (g n) (list_any g ns) (h n is)
    go false is more e = or_right (g n) (list_any g ns) (more e)

-- a name that stands among variables stands at the same place when there is one more
found_still : (names : List (Option Name)) (more : Option Name) (n : Name) (v : ℕ) → find_name names n ≡ Some v → find_name (names ++ more ∷ []) n ≡ Some v
found_still names more n v e = where_one_passes (is_called n) names more (ap is_some e) ∙ e

-- ---- each of the first variables is the name of a node

abbrev HasFirsts : List (Option Name) → List Name → Type 0
HasFirsts names done = (v : ℕ) → v < length names → list_any (λ n. is_at (find_name names n) v) done ≡ true

firsts_more : (names : List (Option Name)) (name : Option Name) (done : List Name) → HasFirsts names done → HasFirsts names (named name done)
firsts_more names None done h = h
firsts_more names (Some n) done h = λ v low. or_right (is_at (find_name names n) v) (list_any (λ m. is_at (find_name names m) v) done) (h v low)

one_first : (name : Option Name) (p : Pattern) (done : List Name) → HasFirsts p.names done → HasFirsts (with_name name p).names (named name done)
one_first None p done h = h
one_first (Some n) p done h = go (list_any (is_called n) p.names) refl
  where
    new : list_any (is_called n) p.names ≡ false → HasFirsts (p.names ++ Some n ∷ []) (n ∷ done)
    new none v low = elim (cases_lt v (length p.names)) as (λ _. list_any (λ m. is_at (find_name (p.names ++ Some n ∷ []) m) v) (n ∷ done) ≡ true) [
      | inl less ↦ or_right (is_at (find_name (p.names ++ Some n ∷ []) n) v) (list_any (λ m. is_at (find_name (p.names ++ Some n ∷ []) m) v) done)
          (any_then (λ m. is_at (find_name p.names m) v) (λ m. is_at (find_name (p.names ++ Some n ∷ []) m) v)
          (λ m e. is_there (find_name (p.names ++ Some n ∷ []) m) v (found_still p.names (Some n) m v (at_is (find_name p.names m) v e))) done (h v less))
      | inr not_less ↦
          let long : length (p.names ++ Some n ∷ []) ≡ length p.names + 1 = length_push p.names (Some n) in
          let is : length p.names ≡ v = omega arith in
          or_left (is_at (find_name (p.names ++ Some n ∷ []) n) v) (list_any (λ m. is_at (find_name (p.names ++ Some n ∷ []) m) v) done)
          (is_there (find_name (p.names ++ Some n ∷ []) n) v
          (where_none_passes (is_called n) p.names (Some n) (listed (is_called n) p.names ∙ none) (called_so n) ∙ ap Some is))
    ]

    go : (b : Bool) → list_any (is_called n) p.names ≡ b
        → HasFirsts (cond b p (record p { names = p.names ++ Some n ∷ []; node_names = p.node_names ++ n ∷ [] })).names (n ∷ done)
    go true e = firsts_more p.names (Some n) done h
    go false e = new e

all_firsts : (hs : List Hop) (p : Pattern) (done : List Name) → HasFirsts p.names done → HasFirsts (with_names hs p).names (hop_names hs done)
all_firsts [] p done h = h
all_firsts (x ∷ hs) p done h = all_firsts hs (with_name x.node.name p) (named x.node.name done) (one_first x.node.name p done h)

path_firsts : (path : Path) → HasFirsts (named_first path).names (path_names path)
path_firsts path =
    all_firsts path.hops (with_name path.first.name no_pattern) (named path.first.name []) (one_first path.first.name no_pattern [] (λ v low. absurd (omega arith)))

-- ---- before the path there is nothing but names

abbrev of_names : List (Option Name) → List Name → Pattern
of_names ns ms = record no_pattern { names = ns; node_names = ms }

abbrev IsOfNames : Pattern → Type 0
IsOfNames p = p ≡ of_names p.names p.node_names

one_bare : (name : Option Name) (p : Pattern) → IsOfNames p → IsOfNames (with_name name p)
one_bare None p h = h
one_bare (Some n) p h = go (list_any (is_called n) p.names)
  where
    more : Pattern → Pattern
    more q = record q { names = q.names ++ Some n ∷ []; node_names = q.node_names ++ n ∷ [] }

    go : (b : Bool) → IsOfNames (cond b p (more p))
    go true = h
    go false = ap more h

all_bare : (hs : List Hop) (p : Pattern) → IsOfNames p → IsOfNames (with_names hs p)
all_bare [] p h = h
all_bare (x ∷ hs) p h = all_bare hs (with_name x.node.name p) (one_bare x.node.name p h)

path_bare : (path : Path) → IsOfNames (named_first path)
path_bare path = all_bare path.hops (with_name path.first.name no_pattern) (one_bare path.first.name no_pattern refl)

-- ---- the variables of names are passed

module _ (ns : List (Option Name)) where
  -- the names that were there first stay where they were
  abbrev Stay : Pattern → Type 0
  Stay p = (n : Name) (v : ℕ) → find_name ns n ≡ Some v → find_name p.names n ≡ Some v

  node_stay : (part : NodePart) (p : Pattern) → Stay p → Stay (with_node part p)
  node_stay part p h = node_cases Stay part p (λ v low is. h) (λ is. λ n v e. found_still p.names part.name n v (h n v e))

  -- a name's variable stands among these
  abbrev IsPassed : List ℕ → Name → Type 0
  IsPassed ws n = (v : ℕ) → find_name ns n ≡ Some v → has_number ws v ≡ true

  all_then : (ws us : List ℕ) → ((v : ℕ) → has_number ws v ≡ true → has_number us v ≡ true) → (done : List Name) → AllByRecursion (IsPassed ws) done → AllByRecursion (IsPassed us) done
  all_then ws us h [] all = tt
  all_then ws us h (n ∷ done) all = ((λ v e. h v (all.0 v e)), all_then ws us h done all.1)

  one_passed : (part : NodePart) (p : Pattern) (ws : List ℕ) (done : List Name) → Stay p → has_number ws (variable_of p part) ≡ true
      → AllByRecursion (IsPassed ws) done → AllByRecursion (IsPassed ws) (named part.name done)
  one_passed part p ws done stay passed all = go part.name refl
    where
      go : (o : Option Name) → part.name ≡ o → AllByRecursion (IsPassed ws) (named o done)
      go None e = all
      go (Some n) e = (
        λ v found.
            let is : variable_of p part ≡ v = ap (λ o. unwrap_or (known_as p.names o) (length p.names)) e ∙ ap (λ o. unwrap_or o (length p.names)) (stay n v found) in
            subst (λ w. has_number ws w ≡ true) is passed,
        all,
      )

  abbrev walked : Pattern → ℕ → ℕ → List ℕ
  walked p first count = flat_map (walk (all_ends p)) ([] ++ run first 0 count ∷ [])

  node_walked : (part : NodePart) (p : Pattern) (first count : ℕ) → walked (with_node part p) first count ≡ walked p first count
  node_walked part p first count = ap (λ rs. flat_map (walk (map (λ r. record { left = r.left; right = r.right }) rs)) ([] ++ run first 0 count ∷ [])) (node_rels part p)

  hops_passed : (free clause at : ℕ) (hs : List Hop) (p : Pattern) (first count : ℕ) (done : List Name) → IsOpen free p [] first 0 count at → Stay p
      → AllByRecursion (IsPassed (walked p first count)) done
      → AllByRecursion (IsPassed (walked (with_hops clause at hs p) first (count + length hs))) (hop_names hs done)
  hops_passed free clause at [] p first count done o stay all =
      let e : count ≡ count + 0 = omega arith in subst (λ n. AllByRecursion (IsPassed (walked p first n)) done) e all
  hops_passed free clause at (h ∷ hs) p first count done o stay all =
      let w : ℕ = variable_of p h.node in
      let q : Pattern = with_rel clause at w h.rel p in
      let r : Pattern = with_node h.node q in
      let e : count + 1 + length hs ≡ count + suc (length hs) = omega arith in
      let passed : has_number (walked q first (count + 1)) w ≡ true = rel_passed free clause at w h.rel p [] first 0 count o in
      let opened : IsOpen free q [] first 0 (count + 1) w = rel_open free clause at w h.rel p [] first 0 count o in
      subst (λ n. AllByRecursion (IsPassed (walked (with_hops clause w hs r) first n)) (hop_names hs (named h.node.name done))) e
      (hops_passed free clause w hs r first (count + 1) (named h.node.name done) (node_open free h.node q [] first 0 (count + 1) w passed opened) (node_stay h.node q stay)
      (subst (λ ws. AllByRecursion (IsPassed ws) (named h.node.name done)) (sym (node_walked h.node q first (count + 1)))
      (one_passed h.node q (walked q first (count + 1)) done stay passed
      (all_then (walked p first count) (walked q first (count + 1)) (rel_passes free clause at w h.rel p [] first 0 count o) done all))))

  -- a first variable is passed, since it is the variable of some name
  picked : (ws : List ℕ) (v : ℕ) (done : List Name) → AllByRecursion (IsPassed ws) done → list_any (λ n. is_at (find_name ns n) v) done ≡ true → has_number ws v ≡ true
  picked ws v [] all e = absurd (true≢false (sym e))
  picked ws v (n ∷ done) all e = go (is_at (find_name ns n) v) refl (picked ws v done all.1) e
    where
      go : (b : Bool) → is_at (find_name ns n) v ≡ b → (list_any (λ m. is_at (find_name ns m) v) done ≡ true → has_number ws v ≡ true)
          → (b || list_any (λ m. is_at (find_name ns m) v) done) ≡ true → has_number ws v ≡ true
      go true is more e = all.0 v (at_is (find_name ns n) v is)
      go false is more e = more e

-- ---- there are at most as many variables as node patterns

rights_fewer : (os : List (Option Ends)) → length (rights_of os) ≤ length os
rights_fewer [] = omega arith
rights_fewer (None ∷ os) = let h = rights_fewer os in omega arith
rights_fewer (Some e ∷ os) = let h = rights_fewer os in omega arith

range_length : (a n : ℕ) → length (range_with_len a n) ≡ n
range_length a zero = refl
range_length a (suc n) = ap suc (range_length (a + 1) n)

walk_short : (es : List Ends) (first count : ℕ) → length (flat_map (walk es) ([] ++ run first 0 count ∷ [])) ≤ suc count
walk_short es first count =
    let most : length (rights_of (path_ends es (run first 0 count))) ≤ length (path_ends es (run first 0 count)) = rights_fewer (path_ends es (run first 0 count)) in
    let long : length (path_ends es (run first 0 count)) ≡ count = length-map (range_with_len 0 count) _ ∙ range_length 0 count in
    let same : length (flat_map (walk es) ([] ++ run first 0 count ∷ [])) ≡ suc (length (rights_of (path_ends es (run first 0 count)))) =
    ap length (append-nil (walk es (run first 0 count))) in
    omega arith

node_more : (part : NodePart) (q : Pattern) → length (with_node part q).nodes ≡ length q.nodes + 1
node_more part q =
    node_cases (λ r. length r.nodes ≡ length q.nodes + 1) part q
    (λ v low is. length_push q.nodes (record { variable = v; part = part }))
    (λ is. length_push q.nodes (record { variable = length q.names; part = part }))

hops_nodes : (clause at : ℕ) (hs : List Hop) (p : Pattern) → length (with_hops clause at hs p).nodes ≡ length p.nodes + length hs
hops_nodes clause at [] p = omega arith
hops_nodes clause at (h ∷ hs) p =
    let q : Pattern = with_rel clause at (variable_of p h.node) h.rel p in
    let more : length (with_node h.node q).nodes ≡ length p.nodes + 1 = node_more h.node q in
    let rest = hops_nodes clause (variable_of p h.node) hs (with_node h.node q) in
    omega arith

above : (a b n : ℕ) → a < b → AllByRecursion (λ z. nat_eq a z ≡ false) (range_with_len b n)
above a b zero low = tt
above a b (suc n) low = (apart, above a (b + 1) n (omega arith))
  where
    apart : nat_eq a b ≡ false
    apart = go (nat_eq a b) refl
      where
        go : (c : Bool) → nat_eq a b ≡ c → nat_eq a b ≡ false
        go true e = let is : a ≡ b = eqb-true a b e in absurd (omega arith)
        go false e = e

range_unique : (a n : ℕ) → IsUnique nat_eq eqb-true (range_with_len a n)
range_unique a zero = tt
range_unique a (suc n) = (above a (a + 1) n (omega arith), range_unique (a + 1) n)

in_range : (ws : List ℕ) (a n : ℕ) → ((v : ℕ) → a ≤ v → v < a + n → has_number ws v ≡ true) → AllByRecursion (λ v. has_number ws v ≡ true) (range_with_len a n)
in_range ws a zero h = tt
in_range ws a (suc n) h = (h a (omega arith) (omega arith), in_range ws (a + 1) n (λ v low high. h v (omega arith) (omega arith)))

-- ---- together

module _ (ns : List (Option Name)) (ms : List Name) (path : Path) (firsts : HasFirsts ns (path_names path)) where
  abbrev begun : Pattern
  begun = of_names ns ms

  abbrev whole : Pattern
  whole = with_path 0 path begun

  abbrev start : ℕ
  start = variable_of begun path.first

  abbrev noded : Pattern
  noded = with_node path.first begun

  abbrev hopped : Pattern
  hopped = with_hops 0 start path.hops noded

  begun_shaped : IsShapedBut (length ns) begun
  begun_shaped = record {
    shape = record { joins = tt; within = tt; every_node = λ v f h. absurd (omega arith); every_rel = refl; fewer = omega arith; there = tt };
    starts = tt;
  }

  shaped : IsShapedBut (length ns) whole
  shaped = path_shaped (length ns) 0 path begun begun_shaped

  abbrev passes : List ℕ
  passes = flat_map (walk (all_ends hopped)) ([] ++ run start 0 (length path.hops) ∷ [])

  paths_are : [] ≡ hopped.paths
  paths_are = sym (hops_paths 0 start path.hops noded ∙ node_paths path.first begun)

  opened : IsOpen (length ns) noded [] start 0 0 start
  opened = record {
    shape = node_shape (length ns) path.first begun ([] ++ run start 0 0 ∷ []) (shape_path start (length ns) (length ns) 0 [] [] [] begun_shaped.shape 0) (first_passed start 0 [] []);
    next = subst (λ rs. 0 + 0 ≡ length (map ends_of rs)) (sym (node_rels path.first begun)) refl;
    ends = refl;
  }

  names_passed : AllByRecursion (IsPassed ns passes) (path_names path)
  names_passed =
      let none : 0 + length path.hops ≡ length path.hops = omega arith in
      subst (λ k. AllByRecursion (IsPassed ns (flat_map (walk (all_ends hopped)) ([] ++ run start 0 k ∷ []))) (path_names path)) none
      (hops_passed ns (length ns) 0 start path.hops noded start 0 (named path.first.name []) opened (node_stay ns path.first begun (λ n v e. e))
      (one_passed ns path.first begun (walked ns noded start 0) [] (λ n v e. e) (first_passed start 0 (all_ends noded) []) tt))

  every : (v : ℕ) → v < length whole.names → has_number passes v ≡ true
  every v low = elim (cases_lt v (length ns)) as (λ _. has_number passes v ≡ true) [
    | inl less ↦ picked ns passes v (path_names path) names_passed (firsts v less)
    | inr not_less ↦ subst (λ ps. has_number (flat_map (walk (all_ends hopped)) (ps ++ run start 0 (length path.hops) ∷ [])) v ≡ true) (sym paths_are) (shaped.shape.every_node v (omega arith) low)
  ]

  few : length whole.names ≤ length whole.nodes
  few =
      let n : ℕ = length whole.names in
      let first : length noded.nodes ≡ 0 + 1 = node_more path.first begun in
      let nodes : length whole.nodes ≡ length noded.nodes + length path.hops = hops_nodes 0 start path.hops noded in
      let among : length (range_with_len 0 n) ≤ length passes =
      among_fewer nat_eq eqb-true (range_with_len 0 n) passes (range_unique 0 n) (in_range passes 0 n (λ v low high. every v (omega arith))) in
      let long : length (range_with_len 0 n) ≡ n = range_length 0 n in
      let short : length passes ≤ suc (length path.hops) = walk_short (all_ends hopped) start (length path.hops) in
      omega arith

  pub names_shaped : IsShaped whole
  names_shaped = record {
    shape = record {
      joins = shaped.shape.joins;
      within = shaped.shape.within;
      every_node = λ v f low. subst (λ ps. has_number (flat_map (walk (all_ends hopped)) (ps ++ run start 0 (length path.hops) ∷ [])) v ≡ true) paths_are (every v low);
      every_rel = shaped.shape.every_rel;
      fewer = omega (arith, few);
      there = shaped.shape.there;
    };
    starts = shaped.starts;
  }

pub path_pattern_shaped : (path : Path) → IsShaped (path_pattern path)
unfolding path_pattern
path_pattern_shaped path =
    subst (λ p. IsShaped (with_path 0 path p)) (sym (path_bare path))
    (names_shaped (named_first path).names (named_first path).node_names path (path_firsts path))

-- ---- how many patterns there are

hops_rels : (clause at : ℕ) (hs : List Hop) (p : Pattern) → length (with_hops clause at hs p).rels ≡ length p.rels + length hs
hops_rels clause at [] p = omega arith
hops_rels clause at (h ∷ hs) p =
    let w : ℕ = variable_of p h.node in
    let q : Pattern = with_rel clause at w h.rel p in
    let more : length q.rels ≡ length p.rels + 1 = length_push p.rels (record { clause = clause; left = at; right = w; part = h.rel }) in
    let same : length (with_node h.node q).rels ≡ length q.rels = ap length (node_rels h.node q) in
    let rest = hops_rels clause w hs (with_node h.node q) in
    omega arith

pub record IsCounted (path : Path) (p : Pattern) : Type 0 where
  pub nodes : length p.nodes ≡ suc (length path.hops)
  pub rels : length p.rels ≡ length path.hops

names_counted : (ns : List (Option Name)) (ms : List Name) (path : Path) → IsCounted path (with_path 0 path (of_names ns ms))
names_counted ns ms path =
    let begun : Pattern = of_names ns ms in
    let at : ℕ = variable_of begun path.first in
    let first : length (with_node path.first begun).nodes ≡ 0 + 1 = node_more path.first begun in
    let nodes = hops_nodes 0 at path.hops (with_node path.first begun) in
    let none : length (with_node path.first begun).rels ≡ 0 = ap length (node_rels path.first begun) in
    let rels = hops_rels 0 at path.hops (with_node path.first begun) in
    record { nodes = omega arith; rels = omega arith }

pub path_pattern_counted : (path : Path) → IsCounted path (path_pattern path)
unfolding path_pattern
path_pattern_counted path = subst (λ p. IsCounted path (with_path 0 path p)) (sym (path_bare path)) (names_counted (named_first path).names (named_first path).node_names path)

-- ---- how many variables there are

one_name : (name : Option Name) (p : Pattern) → length p.node_names ≡ length p.names → length (with_name name p).node_names ≡ length (with_name name p).names
one_name None p h = h
one_name (Some n) p h = go (list_any (is_called n) p.names)
  where
    names : length (p.names ++ Some n ∷ []) ≡ length p.names + 1
    names = length_push p.names (Some n)

    node_names : length (p.node_names ++ n ∷ []) ≡ length p.node_names + 1
    node_names = length_push p.node_names n

    go : (b : Bool) → length (cond b p (record p { names = p.names ++ Some n ∷ []; node_names = p.node_names ++ n ∷ [] })).node_names
        ≡ length (cond b p (record p { names = p.names ++ Some n ∷ []; node_names = p.node_names ++ n ∷ [] })).names
    go true = h
    go false = omega (arith, names, node_names, h)

all_names : (hs : List Hop) (p : Pattern) → length p.node_names ≡ length p.names → length (with_names hs p).node_names ≡ length (with_names hs p).names
all_names [] p h = h
all_names (x ∷ hs) p h = all_names hs (with_name x.node.name p) (one_name x.node.name p h)

some_name : (path : Path) (p : Pattern) → 0 < length (with_path 0 path p).names
some_name path p =
    let at : ℕ = variable_of p path.first in
    let first : 0 < length (with_node path.first p).names = node_cases (λ r. 0 < length r.names) path.first p (λ v low is. omega arith) (λ is. let e : length (p.names ++ path.first.name ∷ []) ≡ length p.names + 1 = length_push p.names path.first.name in omega arith) in
    let grown : length (with_node path.first p).names ≤ length (with_hops 0 at path.hops (with_node path.first p)).names = (hops_grow 0 at path.hops (with_node path.first p)).names in
    omega arith

-- one at least, and those that the path names
pub record HasVariables (path : Path) (p : Pattern) : Type 0 where
  pub one : 0 < length p.names
  pub shared : length (shared_names path) ≤ length p.names

pub path_pattern_named : (path : Path) → HasVariables path (path_pattern path)
unfolding path_pattern
path_pattern_named path =
    let names : length (named_first path).node_names ≡ length (named_first path).names = all_names path.hops (with_name path.first.name no_pattern) (one_name path.first.name no_pattern refl) in
    let grown : length (named_first path).names ≤ length (with_path 0 path (named_first path)).names = (path_grows 0 path (named_first path)).names in
    record { one = some_name path (named_first path); shared = omega (arith, names, grown) }

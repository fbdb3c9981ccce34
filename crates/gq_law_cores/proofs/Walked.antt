-- The rows by which trails continue the core's matches: what they keep of a match, and that they make what the matches of the query make.
use Rattle.std.proofs.Common.{◌≡◌, ℕ, zero, suc, ◌+◌, ◌<◌, ◌≤◌, Bool, true, false, cond, nat_eq, nat_lt, Option, Some, None, Result, List, [], ◌∷◌, map, flat_map, length, slice_get, IsPermutation, refl, sym, ap, ◌∙◌, subst, arith, zero-add}
use Rattle.std.specs.List.{AllByRecursion, range_with_len}
use Rattle.std.proofs.lemmas.Bool.{eq-eqb, lt-ltb, ne_eqb, or_parts}
use Rattle.std.proofs.lemmas.Bool.Decides.{nat_tests}
use Rattle.std.proofs.lemmas.List.Folds.{flat_map-map}
use Rattle.std.proofs.lemmas.Option.{slice_get_past}
use Rattle.gq_base.specs.Plain.{Graph}
use Rattle.gq_base.specs.declared.NodeId.{NodeId}
use Rattle.gq_base.specs.declared.RelId.{RelId}
use Rattle.gq_expr.specs.Reading as reading
use Rattle.gq_expr.specs.declared.Fault.{Fault}
use Rattle.gq_alternatives.specs.Matches.{pattern_matches}
use Rattle.gq_alternatives.proofs.Searches.{flat_map_flat_map}
use Rattle.gq_law_answers.proofs.Matched.{flat_map_same_on}
use Rattle.gq_law_plans.specs.Bindings.{bound}
use Rattle.gq_law_plans.proofs.Lookups.{eqb_swap, read_at, read_length}
use Rattle.gq_law_plans.proofs.Reordered.{permuted_flat_map}
use Rattle.gq_law_reaches.specs.Bags.{reach_of}
use Rattle.gq_law_reaches.specs.Core.{begin_of, continued, core_nodes, core_pattern, numbered, patterns_of, trail_parts}
use Rattle.gq_law_reaches.specs.Cores.{IsCored}
use Rattle.gq_law_reaches.specs.Reaches.{Reach, Trailed, reaches}
use Rattle.gq_law_reaches.specs.Turned.{IsBinding}
use Rattle.gq_law_reaches.proofs.Bags.{IsMade, continued_are_reaches, each_made}
use Rattle.gq_law_reaches.proofs.Orders.{binding_from}
use Rattle.gq_law_trails.specs.Trails.{Trailing, after_trails, arrivals, arrive_at, fits_end, walks_from, with_list}
use Rattle.gq_law_trails.specs.Walks.{end_of}
use Rattle.gq_plan.specs.declared.TrailPart.{TrailPart}
use Rattle.gq_plan.proofs.Each.{each_flat_map, each_map, each_of, each_then}
use Rattle.gq_plan.proofs.Values.{values_agree}
use Rattle.gq_plan.specs.Allowed.{at_same}
use Rattle.gq_plan.specs.Assignments.{Assignment, row_of}
use Rattle.gq_plan.specs.Marked.{Marked, made_of, marked}
use Rattle.gq_plan.specs.Meaning.{Partial, found, keep_if, look, row, with_node}
use Rattle.gq_plan.specs.Outcomes.{Row}
use Rattle.gq_plan.specs.declared.NamedExpr.{NamedExpr}
use Rattle.gq_scopes.specs.Patterns.{MapEntry, Pattern}
use Rattle.gq_law_cores.specs.Made.{Agrees, TrailsContinue, TrailsMakeMatches, made_by, trail_rows}
use Rattle.gq_law_cuts.specs.Typing.{stays_in}

-- ---- items with their numbers are looked up as they are read

module _ {X : Type 0} where
  look_numbered : (i : ℕ) (xs : List X) (j : ℕ) → look (numbered i xs) (i + j) ≡ slice_get xs j
  look_numbered i [] j = refl
  look_numbered i (x ∷ xs) zero = ap (λ b. cond b (Some x) (look (numbered (i + 1) xs) (i + 0))) (eq-eqb i (i + 0) (omega arith))
  look_numbered i (x ∷ xs) (suc j) =
      let next : i + suc j ≡ i + 1 + j = omega arith in
      ap (λ b. cond b (Some x) (look (numbered (i + 1) xs) (i + suc j))) (ne_eqb i (i + suc j) (λ e. omega (arith, e)))
      ∙ ap (look (numbered (i + 1) xs)) next ∙ look_numbered (i + 1) xs j

  pub look_first : (xs : List X) (v : ℕ) → look (numbered 0 xs) v ≡ slice_get xs v
  look_first xs v = ap (look (numbered 0 xs)) (sym (zero-add v)) ∙ look_numbered 0 xs v

  look_unbound : (bs : List (ℕ × X)) (v : ℕ) → bound bs v ≡ false → look bs v ≡ None
  look_unbound [] v e = refl
  look_unbound (b ∷ bs) v e =
      let parts = or_parts (nat_eq v b.0) (bound bs v) e in
      ap (λ c. cond c (Some b.1) (look bs v)) (eqb_swap b.0 v ∙ parts.0) ∙ look_unbound bs v parts.1

  -- all that is bound, read in a row, is read as it is looked up
  read_so : (bs : List (ℕ × X)) (n : ℕ) → ((v : ℕ) → bound bs v ≡ nat_lt v n) → (v : ℕ) → look bs v ≡ slice_get (flat_map (λ w. found (look bs w)) (range_with_len 0 n)) v
  read_so bs n all v = go (nat_lt v n) refl
    where
      each : (w : ℕ) → 0 ≤ w → w < 0 + n → bound bs w ≡ true
      each w least low = all w ∙ lt-ltb w n (omega (arith, low))

      go : (b : Bool) → nat_lt v n ≡ b → look bs v ≡ slice_get (flat_map (λ w. found (look bs w)) (range_with_len 0 n)) v
      go true e =
          let low : v < n = grind (arith, nat_tests, e) in
          sym (read_at bs 0 n each v low ∙ ap (look bs) (zero-add v))
      go false e =
          let high : n ≤ v = grind (arith, nat_tests, e) in
          look_unbound bs v (all v ∙ e)
          ∙ sym (slice_get_past (flat_map (λ w. found (look bs w)) (range_with_len 0 n)) v (let many : length (flat_map (λ w. found (look bs w)) (range_with_len 0 n)) ≡ n = read_length bs 0 n each in omega (arith, many, high)))

-- ---- what trails keep of a match

-- the nodes of the first k variables and all relationships are those of a match
record Keeps (k : ℕ) (f : ℕ → Option NodeId) (rels : List (ℕ × RelId)) (a : Partial) : Type 0 where
  nodes : (v : ℕ) → nat_lt v k ≡ true → look a.nodes v ≡ f v
  rels_are : a.rels ≡ rels

module _ (g : Graph) (patterns : ℕ → List RelId) (k : ℕ) (f : ℕ → Option NodeId) (rels : List (ℕ × RelId)) where
  abbrev BindsOutside : TrailPart → Type 0
  BindsOutside p = p.both ≡ false → nat_lt p.to k ≡ false

  kept : (b : Bool) (a : Partial) → Keeps k f rels a → AllByRecursion (Keeps k f rels) (keep_if b a)
  kept true a h = (h, tt)
  kept false a h = tt

  one_more : (v : ℕ) (n : NodeId) (a : Partial) → nat_lt v k ≡ false → Keeps k f rels a → Keeps k f rels (with_node v n a)
  one_more v n a out h = record {
    nodes = λ w low. ap (λ c. cond c (Some n) (look a.nodes w)) (ne_eqb v w (λ e. absurd (cc (out, low, e)))) ∙ h.nodes w low;
    rels_are = h.rels_are;
  }

  arrived : (p : TrailPart) (a : Partial) → BindsOutside p → Keeps k f rels a → (o : Option NodeId) → AllByRecursion (Keeps k f rels) (arrivals g p a o)
  arrived p a out h None = tt
  arrived p a out h (Some n) = go p.both out
    where
      go : (c : Bool) → (c ≡ false → nat_lt p.to k ≡ false) → AllByRecursion (Keeps k f rels) (arrive_at c g p a n)
      go true out = kept (at_same (look a.nodes p.to) (Some n)) a h
      go false out = kept (fits_end g p n) (with_node p.to n a) (one_more p.to n a (out refl) h)

  each_keeps : (ps : List TrailPart) (a : Partial) (ws : List (ℕ × List RelId)) → AllByRecursion BindsOutside ps → Keeps k f rels a
      → AllByRecursion (λ (m : Trailing). Keeps k f rels m.row) (after_trails g patterns ps a ws)
  unfolding after_trails
  each_keeps [] a ws out h = (h, tt)
  each_keeps (p ∷ ps) a ws out h =
      each_flat_map (λ (l : List RelId). Unit {0}) (λ (m : Trailing). Keeps k f rels m.row)
      (λ l. flat_map (λ b. map (with_list l) (after_trails g patterns ps b ((p.clause, l) ∷ ws))) (arrivals g p a (end_of g p.way (look a.nodes p.from) l)))
      (λ l _. each_flat_map (Keeps k f rels) (λ (m : Trailing). Keeps k f rels m.row) (λ b. map (with_list l) (after_trails g patterns ps b ((p.clause, l) ∷ ws)))
      (λ b here. each_map (λ (m : Trailing). Keeps k f rels m.row) (λ (m : Trailing). Keeps k f rels m.row) (with_list l) (λ m rest. rest)
      (after_trails g patterns ps b ((p.clause, l) ∷ ws)) (each_keeps ps b ((p.clause, l) ∷ ws) out.1 here))
      (arrivals g p a (end_of g p.way (look a.nodes p.from) l)) (arrived p a out.0 h (end_of g p.way (look a.nodes p.from) l)))
      (walks_from g patterns p a ws) (each_of (λ (l : List RelId). Unit {0}) (λ l. tt) (walks_from g patterns p a ws))

pub trails_continue : TrailsContinue
trails_continue g test k q cored t =
    let parts : List TrailPart = trail_parts test q in
    each_map (λ (m : Trailing). Keeps k (slice_get t.nodes) (begin_of t).rels m.row) (Agrees g (stays_in k) t) (λ (m : Trailing). row m.row)
    (λ m keeps e stays. values_agree g (row m.row) (row_of t) (record { nodes = λ v. nat_lt v k; rels = λ x. true }) keeps.nodes
    (λ x _. ap (λ bs. look bs x) keeps.rels_are ∙ look_first t.rels x) e.expr stays)
    (after_trails g (patterns_of q.pattern (begin_of t)) parts (begin_of t) [])
    (each_keeps g (patterns_of q.pattern (begin_of t)) k (slice_get t.nodes) (begin_of t).rels parts (begin_of t) []
    (each_then (IsBinding test k q.pattern) (λ (p : TrailPart). p.both ≡ false → nat_lt p.to k ≡ false) (λ p binding one. (binding one).0) parts
    (binding_from test q.pattern q.trails (core_nodes q) k (λ v e. sym (cored.core v) ∙ e)))
    (record { nodes = λ v low. look_first t.nodes v; rels_are = refl }))

-- ---- what is made of the rows

module _ (g : Graph) (test : MapEntry → NamedExpr) (k : ℕ) (q : Trailed) (cored : IsCored k q) (conjuncts : List NamedExpr) (later : Marked → List (Result Row Fault)) where
  abbrev p : Pattern
  p = q.pattern

  abbrev parts : List TrailPart
  parts = trail_parts test q

  abbrev cores : List Assignment
  cores = pattern_matches g (core_pattern k p)

  abbrev of_row : reading.Assignment → List (Result Row Fault)
  of_row r = flat_map later (marked g conjuncts r)

  abbrev of_trailing : Trailing → List (Result Row Fault)
  of_trailing m = of_row (row m.row)

  abbrev of_reach : Reach → List (Result Row Fault)
  of_reach r = of_row (row_of r.base)

  abbrev after : Partial → List Trailing
  after a = after_trails g (patterns_of p a) parts a []

  -- a row whose variables are all bound is that of the assignment
  same_row : (m : Trailing) → IsMade g test k q cored m → of_trailing m ≡ of_reach (reach_of test q m)
  same_row m made = λ i. of_row (record {
    nodes = λ v. read_so m.row.nodes (length p.names) made.0.nodes v i;
    rels = λ x. read_so m.row.rels (length p.rels) made.0.rels x i;
  })

  walked : made_by g conjuncts (trail_rows g p parts) later cores ≡ flat_map of_reach (map (reach_of test q) (continued g k p parts))
  walked =
      flat_map_same_on (λ (t : Assignment). Unit {0}) (λ t. flat_map of_row (map (λ (m : Trailing). row m.row) (after (begin_of t)))) (λ t. flat_map of_trailing (after (begin_of t)))
      (λ t _. flat_map-map of_row (λ (m : Trailing). row m.row) (after (begin_of t))) cores (each_of (λ (t : Assignment). Unit {0}) (λ t. tt) cores)
      ∙ sym (flat_map-map (λ a. flat_map of_trailing (after a)) begin_of cores)
      ∙ sym (flat_map_flat_map of_trailing after (map begin_of cores))
      ∙ flat_map_same_on (IsMade g test k q cored) of_trailing (λ m. of_reach (reach_of test q m)) same_row (continued g k p parts) (each_made g test k q cored)
      ∙ sym (flat_map-map of_reach (reach_of test q) (continued g k p parts))

pub trails_make_matches : TrailsMakeMatches
trails_make_matches g test k q conjuncts later valid tests cored short =
    subst (λ l. IsPermutation l (made_of g conjuncts later (map (λ (r : Reach). r.base) (reaches g q)))) (sym (walked g test k q cored conjuncts later))
    (subst (IsPermutation (flat_map (of_reach g test k q cored conjuncts later) (map (reach_of test q) (continued g k q.pattern (trail_parts test q)))))
    (sym (flat_map-map (λ t. flat_map later (marked g conjuncts (row_of t))) (λ (r : Reach). r.base) (reaches g q)))
    (permuted_flat_map (of_reach g test k q cored conjuncts later) (map (reach_of test q) (continued g k q.pattern (trail_parts test q))) (reaches g q)
    (continued_are_reaches g test k q valid tests cored short)))

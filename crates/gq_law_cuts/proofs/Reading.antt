-- What is true of patterns that are read with their paths cut at trails: the pieces are paths of joined relationships which have all
-- variables, and the one variable of a piece without a relationship is that of a whole path, or an end of a trail.
use Rattle.std.proofs.Common.{◌≡◌, ℕ, suc, ◌+◌, ◌<◌, ◌≤◌, Bool, true, false, ◌||◌, nat_eq, Option, Some, None, List, [], ◌∷◌, ◌++◌, map, length, refl, sym, ap, ◌∙◌, subst, arith, append-nil, zero}
use Rattle.std.specs.List.{AllByRecursion, list_any, range_with_len}
use Rattle.std.proofs.lemmas.Bool.{eq-eqb, or_left, or_right}
use Rattle.std.proofs.lemmas.List.{length-map, length_push}
use Rattle.std.proofs.lemmas.List.Folds.{list_any-append}
use Rattle.gq_alternatives.proofs.Shapes.{end_of, first_passed, path_ends, run, shape_path}
use Rattle.gq_alternatives.proofs.ShapesOfPatterns.{HasShape, IsOpen, all_ends, ends_of, node_cases, node_open, node_paths, node_rels, node_shape, rel_open, rel_passed}
use Rattle.gq_plan.proofs.Each.{each_append, each_then}
use Rattle.gq_plan.specs.Soundness.{has_number}
use Rattle.gq_plan.specs.declared.PathPart.{PathPart}
use Rattle.gq_scopes.proofs.RangeLemmas.{range_more}
use Rattle.gq_scopes.specs.Patterns.{NodePattern, Pattern, RelPattern, no_pattern, variable_of, with_node, with_part, with_rel}
use Rattle.gq_ast.specs.declared.Clause.{Clause}
use Rattle.gq_ast.specs.declared.Hop.{Hop}
use Rattle.gq_ast.specs.declared.NodePart.{NodePart}
use Rattle.gq_ast.specs.declared.Path.{Path}
use Rattle.gq_ast.specs.declared.Range.{Range}
use Rattle.gq_law_reaches.specs.Cores.{is_end}
use Rattle.gq_law_reaches.specs.Reaches.{TrailPattern, Trailed, without_trails}
use Rattle.gq_law_cuts.specs.Cuts.{alone_in, in_pattern, piece_behind, trail_of, trailed_of, with_clauses, with_hop, with_hops, with_path, with_paths, with_trail}

-- ---- what holds

abbrev pub has_items : {X : Type 0} → List X → Bool
has_items [] = false
has_items (x ∷ xs) = true

-- a piece has a relationship, or its variable is that of a whole path or an end of a trail
abbrev pub is_met : List ℕ → List TrailPattern → PathPart → Bool
is_met vs ws x = has_items x.rels || (has_number vs x.first || list_any (is_end x.first) ws)

-- the variables of patterns, pieces and trails are below a number
pub record HoldsIn (n : ℕ) (ns : List NodePattern) (rs : List RelPattern) (xs : List PathPart) (ws : List TrailPattern) (vs : List ℕ) : Type 0 where
  pub nodes : AllByRecursion (λ (m : NodePattern). m.variable < n) ns
  pub rels : AllByRecursion (λ (r : RelPattern). (r.left < n) × (r.right < n)) rs
  pub starts : AllByRecursion (λ (x : PathPart). x.first < n) xs
  pub ends : AllByRecursion (λ (w : TrailPattern). (w.left < n) × (w.right < n)) ws
  pub alone : AllByRecursion (λ v. v < n) vs
  pub met : AllByRecursion (λ (x : PathPart). is_met vs ws x ≡ true) xs

abbrev pub Holds : Trailed → Type 0
Holds q = HoldsIn (length q.pattern.names) q.pattern.nodes q.pattern.rels q.pattern.paths q.trails q.alone

pub record IsRead (q : Trailed) : Type 0 where
  pub shape : HasShape 0 q.pattern q.pattern.paths
  pub holds : Holds q

-- ---- more of them

met_more : (vs us : List ℕ) (ws zs : List TrailPattern) (x : PathPart) → is_met vs ws x ≡ true → is_met (vs ++ us) (ws ++ zs) x ≡ true
met_more vs us ws zs x h =
    widen (has_items x.rels) (has_number vs x.first) (list_any (is_end x.first) ws) (has_number (vs ++ us) x.first) (list_any (is_end x.first) (ws ++ zs)) h
    (λ e. list_any-append _ vs us ∙ or_left (has_number vs x.first) (has_number us x.first) e)
    (λ e. list_any-append (is_end x.first) ws zs ∙ or_left (list_any (is_end x.first) ws) (list_any (is_end x.first) zs) e)
  where
    widen : (r a b c d : Bool) → (r || (a || b)) ≡ true → (a ≡ true → c ≡ true) → (b ≡ true → d ≡ true) → (r || (c || d)) ≡ true
    widen true a b c d h f k = refl
    widen false true b c d h f k = or_left c d (f refl)
    widen false false b c d h f k = or_right c d (k h)

all_met : (vs us : List ℕ) (ws zs : List TrailPattern) (xs : List PathPart) → AllByRecursion (λ (x : PathPart). is_met vs ws x ≡ true) xs → AllByRecursion (λ (x : PathPart). is_met (vs ++ us) (ws ++ zs) x ≡ true) xs
all_met vs us ws zs xs h = each_then (λ (x : PathPart). is_met vs ws x ≡ true) (λ (x : PathPart). is_met (vs ++ us) (ws ++ zs) x ≡ true) (met_more vs us ws zs) xs h

wider : (n k : ℕ) (ns : List NodePattern) (rs : List RelPattern) (xs : List PathPart) (ws : List TrailPattern) (vs : List ℕ) → n ≤ k → HoldsIn n ns rs xs ws vs → HoldsIn k ns rs xs ws vs
wider n k ns rs xs ws vs more h = record {
  nodes = each_then (λ (m : NodePattern). m.variable < n) (λ (m : NodePattern). m.variable < k) (λ m low. omega (arith, low, more)) ns h.nodes;
  rels =
      each_then (λ (r : RelPattern). (r.left < n) × (r.right < n)) (λ (r : RelPattern). (r.left < k) × (r.right < k))
      (λ r low. let a : r.left < n = low.0 in let b : r.right < n = low.1 in (omega (arith, a, more), omega (arith, b, more))) rs h.rels;
  starts = each_then (λ (x : PathPart). x.first < n) (λ (x : PathPart). x.first < k) (λ x low. omega (arith, low, more)) xs h.starts;
  ends =
      each_then (λ (w : TrailPattern). (w.left < n) × (w.right < n)) (λ (w : TrailPattern). (w.left < k) × (w.right < k))
      (λ w low. let a : w.left < n = low.0 in let b : w.right < n = low.1 in (omega (arith, a, more), omega (arith, b, more))) ws h.ends;
  alone = each_then (λ v. v < n) (λ v. v < k) (λ v low. omega (arith, low, more)) vs h.alone;
  met = h.met;
}

-- a node pattern is of a variable that stands already, or of a new one: what holds with its variable holds with it
held_by : (part : NodePart) (p : Pattern) (rs : List RelPattern) (xs : List PathPart) (ws : List TrailPattern) (vs : List ℕ)
    → ((k : ℕ) → length p.names ≤ k → variable_of p part < k → HoldsIn k p.nodes rs xs ws vs)
    → HoldsIn (length (with_node part p).names) (with_node part p).nodes rs xs ws vs
held_by part p rs xs ws vs h =
    node_cases (λ r. HoldsIn (length r.names) r.nodes rs xs ws vs) part p
    (λ v low is. with_more (length p.names) v (h (length p.names) (omega arith) (subst (λ z. z < length p.names) (sym is) low)) low)
    (λ is.
    let longer : length (p.names ++ part.name ∷ []) ≡ length p.names + 1 = length_push p.names part.name in
    let low : length p.names < length (p.names ++ part.name ∷ []) = omega (arith, longer) in
    with_more (length (p.names ++ part.name ∷ [])) (length p.names)
    (h (length (p.names ++ part.name ∷ [])) (omega (arith, longer)) (subst (λ z. z < length (p.names ++ part.name ∷ [])) (sym is) low)) low)
  where
    with_more : (k v : ℕ) → HoldsIn k p.nodes rs xs ws vs → v < k → HoldsIn k (p.nodes ++ record { variable = v; part = part } ∷ []) rs xs ws vs
    with_more k v held low = record {
      nodes = each_append (λ (m : NodePattern). m.variable < k) p.nodes (record { variable = v; part = part } ∷ []) held.nodes (low, tt);
      rels = held.rels;
      starts = held.starts;
      ends = held.ends;
      alone = held.alone;
      met = held.met;
    }

-- the variable of a node pattern stands among those behind it
stands_behind : (part : NodePart) (p : Pattern) → (length p.names ≤ length (with_node part p).names) × (variable_of p part < length (with_node part p).names)
stands_behind part p =
    node_cases (λ r. (length p.names ≤ length r.names) × (variable_of p part < length r.names)) part p
    (λ v low is. (omega arith, subst (λ z. z < length p.names) (sym is) low))
    (λ is.
    let longer : length (p.names ++ part.name ∷ []) ≡ length p.names + 1 = length_push p.names part.name in
    let low : length p.names < length (p.names ++ part.name ∷ []) = omega (arith, longer) in
    (omega (arith, longer), subst (λ z. z < length (p.names ++ part.name ∷ [])) (sym is) low))

-- ---- a path

-- the last piece is a run that ends at a variable
record IsHeld (q : Trailed) (first start count at : ℕ) : Type 0 where
  opened : IsOpen 0 q.pattern q.pattern.paths first start count at
  holds : Holds q
  begins : first < length q.pattern.names
  stands : at < length q.pattern.names

end_left : (clause left right : ℕ) (h : Hop) (range : Range) → is_end left (trail_of clause left right h.rel range) ≡ true
end_left clause left right h range = or_left (nat_eq left left) (nat_eq right left) (eq-eqb left left refl)

end_right : (clause left right : ℕ) (h : Hop) (range : Range) → is_end right (trail_of clause left right h.rel range) ≡ true
end_right clause left right h range = or_right (nat_eq left right) (nat_eq right right) (eq-eqb right right refl)

last_has : (ws : List TrailPattern) (w : TrailPattern) (v : ℕ) → is_end v w ≡ true → list_any (is_end v) (ws ++ w ∷ []) ≡ true
last_has ws w v e = list_any-append (is_end v) ws (w ∷ []) ∙ or_right (list_any (is_end v) ws) (is_end v w || false) (or_left (is_end v w) false e)

module _ (clause at : ℕ) (h : Hop) (q : Trailed) (first start count : ℕ) (held : IsHeld q first start count at) where
  abbrev p : Pattern
  p = q.pattern

  abbrev w : ℕ
  w = variable_of p h.node

  counted : start + count ≡ length p.rels
  counted = held.opened.next ∙ length-map p.rels ends_of

  -- a relationship and a node
  abbrev p1 : Pattern
  p1 = with_rel clause at w h.rel p

  abbrev joined : Trailed
  joined = in_pattern (λ p. with_node h.node (with_rel clause at (variable_of p h.node) h.rel p)) q

  joined_held : IsHeld joined first start (count + 1) w
  joined_held =
      let behind = stands_behind h.node p1 in record {
        opened =
            subst (λ xs. IsOpen 0 (with_node h.node p1) xs first start (count + 1) w) (sym (node_paths h.node p1))
            (node_open 0 h.node p1 p.paths first start (count + 1) w (rel_passed 0 clause at w h.rel p p.paths first start count held.opened) (rel_open 0 clause at w h.rel p p.paths first start count held.opened));
        holds =
            subst (λ rs. HoldsIn (length (with_node h.node p1).names) (with_node h.node p1).nodes rs (with_node h.node p1).paths q.trails q.alone) (sym (node_rels h.node p1))
            (subst (λ xs. HoldsIn (length (with_node h.node p1).names) (with_node h.node p1).nodes p1.rels xs q.trails q.alone) (sym (node_paths h.node p1))
            (held_by h.node p1 p1.rels p.paths q.trails q.alone
            (λ k more low.
            let old = wider (length p.names) k p.nodes p.rels p.paths q.trails q.alone more held.holds in
            let left : at < k = let stands : at < length p.names = held.stands in omega (arith, stands, more) in record {
              nodes = old.nodes;
              rels = each_append (λ (r : RelPattern). (r.left < k) × (r.right < k)) p.rels (record { clause = clause; left = at; right = w; part = h.rel } ∷ []) old.rels ((left, low), tt);
              starts = old.starts;
              ends = old.ends;
              alone = old.alone;
              met = old.met;
            })));
        begins = let begins : first < length p.names = held.begins in let more : length p.names ≤ length (with_node h.node p1).names = behind.0 in omega (arith, begins, more);
        stands = behind.1;
      }

  -- a trail and a node: the piece before it has a relationship, or its variable is the trail's left end
  module _ (range : Range) where
    abbrev t : TrailPattern
    t = trail_of clause at w h.rel range

    abbrev piece : PathPart
    piece = run first start count

    abbrev p2 : Pattern
    p2 = record (with_part piece p) { unnamed = suc p.unnamed }

    abbrev cut : Trailed
    cut = in_pattern (with_node h.node) (with_trail t (in_pattern (with_part piece) q))

    piece_met : is_met q.alone (q.trails ++ t ∷ []) piece ≡ true
    piece_met = go count refl
      where
        go : (c : ℕ) → count ≡ c → is_met q.alone (q.trails ++ t ∷ []) piece ≡ true
        go zero e =
            let here : first ≡ at = sym (ap (λ c. end_of first (path_ends (all_ends p) (run first start c))) e) ∙ held.opened.ends in
            or_right (has_items piece.rels) _ (or_right (has_number q.alone first) _ (last_has q.trails t first (subst (λ z. is_end z t ≡ true) (sym here) (end_left clause at w h range))))
        go (suc c) e = ap (λ z. is_met q.alone (q.trails ++ t ∷ []) (run first start z)) e

    cut_held : IsHeld cut w (length p.rels) 0 w
    cut_held =
        let behind = stands_behind h.node p2 in record {
          opened = record {
            shape =
                subst (λ xs. HasShape 0 (with_node h.node p2) (xs ++ run w (length p.rels) 0 ∷ [])) (sym (node_paths h.node p2))
                (node_shape 0 h.node p2 (p2.paths ++ run w (length p.rels) 0 ∷ [])
                (shape_path w 0 (length p.names) (length p.nodes) (all_ends p) p2.paths p.entries held.opened.shape (length p.rels)) (first_passed w (length p.rels) (all_ends p) p2.paths));
            next = subst (λ rs. length p.rels + 0 ≡ length (map ends_of rs)) (sym (node_rels h.node p2)) (let many : length (map ends_of p.rels) ≡ length p.rels = length-map p.rels ends_of in omega (arith, many));
            ends = refl;
          };
          holds =
              subst (λ rs. HoldsIn (length (with_node h.node p2).names) (with_node h.node p2).nodes rs (with_node h.node p2).paths (q.trails ++ t ∷ []) q.alone) (sym (node_rels h.node p2))
              (subst (λ xs. HoldsIn (length (with_node h.node p2).names) (with_node h.node p2).nodes p.rels xs (q.trails ++ t ∷ []) q.alone) (sym (node_paths h.node p2))
              (held_by h.node p2 p.rels p2.paths (q.trails ++ t ∷ []) q.alone
              (λ k more low.
              let old = wider (length p.names) k p.nodes p.rels p.paths q.trails q.alone more held.holds in
              let left : at < k = let stands : at < length p.names = held.stands in omega (arith, stands, more) in
              let begins : first < k = let begins : first < length p.names = held.begins in omega (arith, begins, more) in record {
                nodes = old.nodes;
                rels = old.rels;
                starts = each_append (λ (x : PathPart). x.first < k) p.paths (piece ∷ []) old.starts (begins, tt);
                ends = each_append (λ (w : TrailPattern). (w.left < k) × (w.right < k)) q.trails (t ∷ []) old.ends ((left, low), tt);
                alone = old.alone;
                met =
                    each_append (λ (x : PathPart). is_met q.alone (q.trails ++ t ∷ []) x ≡ true) p.paths (piece ∷ [])
                    (subst (λ vs. AllByRecursion (λ (x : PathPart). is_met vs (q.trails ++ t ∷ []) x ≡ true) p.paths) (append-nil q.alone) (all_met q.alone [] q.trails (t ∷ []) p.paths old.met))
                    (piece_met, tt);
              })));
          begins = behind.1;
          stands = behind.1;
        }

hops_read : (clause : ℕ) (hs : List Hop) (q : Trailed) (first start count at : ℕ) → IsHeld q first start count at
    → (has_items hs || is_met q.alone q.trails (run first start count)) ≡ true → IsRead (with_hops clause (run first start count) at hs q)
hops_read clause [] q first start count at held met = record {
  shape = held.opened.shape;
  holds = record {
    nodes = held.holds.nodes;
    rels = held.holds.rels;
    starts = each_append (λ (x : PathPart). x.first < length q.pattern.names) q.pattern.paths (run first start count ∷ []) held.holds.starts (held.begins, tt);
    ends = held.holds.ends;
    alone = held.holds.alone;
    met = each_append (λ (x : PathPart). is_met q.alone q.trails x ≡ true) q.pattern.paths (run first start count ∷ []) held.holds.met (met, tt);
  };
}
hops_read clause (h ∷ hs) q first start count at held met =
    go h.rel.trail
    (hops_read clause hs (joined clause at h q first start count held) first start (count + 1) (variable_of q.pattern h.node) (joined_held clause at h q first start count held))
    (λ range. hops_read clause hs (cut clause at h q first start count held range) (variable_of q.pattern h.node) (length q.pattern.rels) 0 (variable_of q.pattern h.node) (cut_held clause at h q first start count held range))
  where
    one_more : piece_behind None (run first start count) (length q.pattern.rels) (variable_of q.pattern h.node) ≡ run first start (count + 1)
    one_more = ap (λ l. record { first = first; rels = l }) (ap (λ x. range_with_len start count ++ x ∷ []) (sym (counted clause at h q first start count held)) ∙ sym (range_more start count))

    some : (c : ℕ) → has_items (range_with_len start (c + 1)) ≡ true
    some c = let next : c + 1 ≡ suc c = omega arith in ap (λ n. has_items (range_with_len start n)) next

    go : (o : Option Range)
        → ((has_items hs || is_met q.alone q.trails (run first start (count + 1))) ≡ true → IsRead (with_hops clause (run first start (count + 1)) (variable_of q.pattern h.node) hs (joined clause at h q first start count held)))
        → ((range : Range) → (has_items hs || is_met q.alone (q.trails ++ trail_of clause at (variable_of q.pattern h.node) h.rel range ∷ []) (run (variable_of q.pattern h.node) (length q.pattern.rels) 0)) ≡ true
        → IsRead (with_hops clause (run (variable_of q.pattern h.node) (length q.pattern.rels) 0) (variable_of q.pattern h.node) hs (cut clause at h q first start count held range)))
        → IsRead (with_hops clause (piece_behind o (run first start count) (length q.pattern.rels) (variable_of q.pattern h.node)) (variable_of q.pattern h.node) hs
        (with_hop o clause (run first start count) at (variable_of q.pattern h.node) h q))
    go None more cuts =
        subst (λ x. IsRead (with_hops clause x (variable_of q.pattern h.node) hs (joined clause at h q first start count held))) (sym one_more)
        (more (or_right (has_items hs) _ (ap (λ b. b || (has_number q.alone first || list_any (is_end first) q.trails)) (some count))))
    go (Some range) more cuts =
        cuts range
        (or_right (has_items hs) _
        (or_right (has_number q.alone (variable_of q.pattern h.node)) _
        (last_has q.trails (trail_of clause at (variable_of q.pattern h.node) h.rel range) (variable_of q.pattern h.node) (end_right clause at (variable_of q.pattern h.node) h range))))

path_read : (clause : ℕ) (path : Path) (q : Trailed) → IsRead q → IsRead (with_path clause path q)
path_read clause path q read = hops_read clause path.hops begun v (length p.rels) 0 v held (met path.hops)
  where
    p : Pattern
    p = q.pattern

    v : ℕ
    v = variable_of q.pattern path.first

    begun : Trailed
    begun = record (in_pattern (with_node path.first) q) { alone = q.alone ++ alone_in path.hops (variable_of q.pattern path.first) }

    met : (hs : List Hop) → (has_items hs || is_met (q.alone ++ alone_in hs (variable_of q.pattern path.first)) q.trails (run (variable_of q.pattern path.first) (length q.pattern.rels) 0)) ≡ true
    met [] =
        or_left _ _
        (list_any-append _ q.alone (variable_of q.pattern path.first ∷ [])
        ∙ or_right (has_number q.alone (variable_of q.pattern path.first)) _ (or_left _ _ (eq-eqb (variable_of q.pattern path.first) (variable_of q.pattern path.first) refl)))
    met (h ∷ hs) = refl

    alone_low : (k : ℕ) (hs : List Hop) → variable_of q.pattern path.first < k → AllByRecursion (λ u. u < k) (alone_in hs (variable_of q.pattern path.first))
    alone_low k [] low = (low, tt)
    alone_low k (h ∷ hs) low = tt

    held : IsHeld begun v (length q.pattern.rels) 0 v
    held =
        let behind = stands_behind path.first q.pattern in record {
          opened = record {
            shape =
                subst (λ xs. HasShape 0 (with_node path.first q.pattern) (xs ++ run (variable_of q.pattern path.first) (length q.pattern.rels) 0 ∷ [])) (sym (node_paths path.first q.pattern))
                (node_shape 0 path.first q.pattern (q.pattern.paths ++ run (variable_of q.pattern path.first) (length q.pattern.rels) 0 ∷ [])
                (shape_path (variable_of q.pattern path.first) 0 (length q.pattern.names) (length q.pattern.nodes) (all_ends q.pattern) q.pattern.paths q.pattern.entries read.shape (length q.pattern.rels))
                (first_passed (variable_of q.pattern path.first) (length q.pattern.rels) (all_ends q.pattern) q.pattern.paths));
            next =
                subst (λ rs. length q.pattern.rels + 0 ≡ length (map ends_of rs)) (sym (node_rels path.first q.pattern))
                (let many : length (map ends_of q.pattern.rels) ≡ length q.pattern.rels = length-map q.pattern.rels ends_of in omega (arith, many));
            ends = refl;
          };
          holds =
              subst (λ rs. HoldsIn (length (with_node path.first q.pattern).names) (with_node path.first q.pattern).nodes rs (with_node path.first q.pattern).paths q.trails begun.alone) (sym (node_rels path.first q.pattern))
              (subst (λ xs. HoldsIn (length (with_node path.first q.pattern).names) (with_node path.first q.pattern).nodes q.pattern.rels xs q.trails begun.alone) (sym (node_paths path.first q.pattern))
              (held_by path.first q.pattern q.pattern.rels q.pattern.paths q.trails begun.alone
              (λ k more low.
              let old = wider (length q.pattern.names) k q.pattern.nodes q.pattern.rels q.pattern.paths q.trails q.alone more read.holds in record {
                nodes = old.nodes;
                rels = old.rels;
                starts = old.starts;
                ends = old.ends;
                alone = each_append (λ u. u < k) q.alone (alone_in path.hops (variable_of q.pattern path.first)) old.alone (alone_low k path.hops low);
                met =
                    subst (λ ws. AllByRecursion (λ (x : PathPart). is_met begun.alone ws x ≡ true) q.pattern.paths) (append-nil q.trails)
                    (all_met q.alone (alone_in path.hops (variable_of q.pattern path.first)) q.trails [] q.pattern.paths old.met);
              })));
          begins = behind.1;
          stands = behind.1;
        }

paths_read : (clause : ℕ) (paths : List Path) (q : Trailed) → IsRead q → IsRead (with_paths clause paths q)
paths_read clause [] q read = read
paths_read clause (path ∷ paths) q read = paths_read clause paths (with_path clause path q) (path_read clause path q read)

clauses_read : (number : ℕ) (cs : List Clause) (q : Trailed) → IsRead q → IsRead (with_clauses number cs q)
clauses_read number [] q read = read
clauses_read number (c ∷ cs) q read = clauses_read (suc number) cs (with_paths number c.paths q) (paths_read number c.paths q read)

pub trailed_read : (clauses : List Clause) → IsRead (trailed_of clauses)
unfolding trailed_of
trailed_read clauses =
    clauses_read 0 clauses (without_trails no_pattern)
    (record {
      shape = record { joins = tt; within = tt; every_node = λ v f h. absurd (omega arith); every_rel = refl; fewer = omega arith; there = tt };
      holds = record { nodes = tt; rels = tt; starts = tt; ends = tt; alone = tt; met = tt };
    })

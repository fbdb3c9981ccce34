-- The parts of a sound alternative are pieces: they have variables of the alternative, and with a relationship both its ends.
use Rattle.std.proofs.Common.{◌≡◌, ℕ, zero, suc, ◌<◌, Bool, true, false, ◌&&◌, nat_eq, Option, Some, None, List, [], ◌∷◌, ◌++◌, map, length, drop, slice_get, IsTrue, inl, inr, refl, sym, ap, ◌∙◌, subst, true≢false, arith}
use Rattle.std.specs.Prelude.{nat_lt, if◌then◌else◌}
use Rattle.std.specs.List.{AllByRecursion, range_with_len}
use Rattle.std.specs.Option.{option_map}
use Rattle.std.proofs.lemmas.Bool.{eqb-true, eq-eqb, lt-ltb, ltb-true, and_parts, and_from, or_cases, or_left, or_right}
use Rattle.std.proofs.lemmas.List.Elements.{recursion_from_All}
use Rattle.std.proofs.lemmas.Option.{slice_get_within}
use Rattle.gq_base.specs.Catalogs.{Tables}
use Rattle.gq_plan.specs.Known.{Known, none, with_both}
use Rattle.gq_plan.specs.Meaning.{holds}
use Rattle.gq_plan.specs.Parts.{Part, IsPiece, ends_inside, pieces, path_known, marks, connected, component, given_parts, greedy_parts}
use Rattle.gq_plan.specs.Soundness.{IsSound, EndsFit, has_number, joined, left_of, right_of, rights, path_rels, path_nodes}
use Rattle.gq_plan.specs.declared.typed.PathPart.{PathPart}
use Rattle.gq_plan.specs.declared.typed.Typed.{Typed}
use Rattle.gq_plan.specs.declared.typed.TypedRel.{TypedRel}

-- an item that passes a test is there
pub holds_some : {X : Type 0} (p : X → Bool) (o : Option X) → holds p o ≡ true → (x : X) × (o ≡ Some x) × (p x ≡ true)
holds_some p None h = absurd (true≢false (sym h))
holds_some p (Some x) h = (x, refl, h)

-- a list has an item at each of its places
pub some_at : {X : Type 0} (xs : List X) (i : ℕ) → i < length xs → (x : X) × (slice_get xs i ≡ Some x)
some_at [] i h = absurd (omega arith)
some_at (x ∷ xs) zero h = (x, refl)
some_at (x ∷ xs) (suc i) h = some_at xs i (omega arith)

-- ---- marks

-- equal marks stay equal
pub marks_same : (rs : List TypedRel) (mark : ℕ → ℕ) (a b : ℕ) → mark a ≡ mark b → marks rs mark a ≡ marks rs mark b
marks_same [] mark a b e = e
marks_same (r ∷ rs) mark a b e = marks_same rs _ a b (ap (λ m. if nat_eq m (mark r.target) then mark r.source else m) e)

one_mark : (m n : ℕ) (b : Bool) → nat_eq m n ≡ b → (if nat_eq m n then m else m) ≡ (if nat_eq n n then m else n)
one_mark m n true e = ap (λ c. if c then m else m) e ∙ sym (ap (λ c. if c then m else n) (eq-eqb n n refl))
one_mark m n false e = ap (λ c. if c then m else m) e ∙ sym (ap (λ c. if c then m else n) (eq-eqb n n refl))

-- the ends of a relationship have one mark
pub ends_marked : (rs : List TypedRel) (mark : ℕ → ℕ) (x : ℕ) (r : TypedRel) → slice_get rs x ≡ Some r → marks rs mark r.source ≡ marks rs mark r.target
ends_marked [] mark x r e = absurd (cc e)
ends_marked (q ∷ rs) mark zero r e =
    let same : q ≡ r = cc in
    subst (λ z. marks (q ∷ rs) mark z.source ≡ marks (q ∷ rs) mark z.target) same (marks_same rs _ q.source q.target (one_mark (mark q.source) (mark q.target) (nat_eq (mark q.source) (mark q.target)) refl))
ends_marked (q ∷ rs) mark (suc x) r e = ends_marked rs _ x r e

-- ---- paths

module _ (catalog : Tables) (y : Typed) (sound : IsSound catalog y) where
  ends : AllByRecursion (EndsFit catalog y) y.rels
  ends = recursion_from_All (EndsFit catalog y) y.rels sound.ends

  -- the ends of a relationship are node variables
  ends_low : (r : TypedRel) → EndsFit catalog y r → (r.source < length y.nodes) × (r.target < length y.nodes)
  ends_low r fit =
      let k = some_at catalog.rels r.table fit.table in
      (slice_get_within y.nodes r.source _ (fit.source ∙ ap (option_map (λ z. z.from)) k.1), slice_get_within y.nodes r.target _ (fit.target ∙ ap (option_map (λ z. z.to)) k.1))

  at_ends : (rs : List TypedRel) → AllByRecursion (EndsFit catalog y) rs → (x : ℕ) (r : TypedRel) → slice_get rs x ≡ Some r → EndsFit catalog y r
  at_ends [] all x r e = absurd (cc e)
  at_ends (q ∷ rs) all zero r e = let same : q ≡ r = cc in subst (EndsFit catalog y) same all.0
  at_ends (q ∷ rs) all (suc x) r e = at_ends rs all.1 x r e

  left_low : (r : TypedRel) → EndsFit catalog y r → (b : Bool) → (if b then r.target else r.source) < length y.nodes
  left_low r fit true = (ends_low r fit).1
  left_low r fit false = (ends_low r fit).0

  right_low : (r : TypedRel) → EndsFit catalog y r → (b : Bool) → (if b then r.source else r.target) < length y.nodes
  right_low r fit true = (ends_low r fit).0
  right_low r fit false = (ends_low r fit).1

  -- along a path: its node variables are low
  nodes_low : (at : ℕ) (xs : List ℕ) → at < length y.nodes → joined at (map (slice_get y.rels) xs) ≡ true → (v : ℕ) → has_number (at ∷ rights (map (slice_get y.rels) xs)) v ≡ true → v < length y.nodes
  nodes_low at [] low h v e = elim (or_cases (nat_eq v at) false e) [ inl same ↦ subst (λ w. w < length y.nodes) (sym (eqb-true v at same)) low | inr never ↦ absurd (true≢false (sym never)) ]
  nodes_low at (x ∷ xs) low h v e = go (slice_get y.rels x) refl (λ next low k f. nodes_low next xs low k v f) h e
    where
      go : (o : Option TypedRel) → slice_get y.rels x ≡ o
          → ((next : ℕ) → next < length y.nodes → joined next (map (slice_get y.rels) xs) ≡ true → has_number (next ∷ rights (map (slice_get y.rels) xs)) v ≡ true → v < length y.nodes)
          → joined at (o ∷ map (slice_get y.rels) xs) ≡ true → has_number (at ∷ rights (o ∷ map (slice_get y.rels) xs)) v ≡ true → v < length y.nodes
      go None is more h e = absurd (true≢false (sym h))
      go (Some r) is more h e =
          let parts = and_parts (nat_eq (left_of r) at) (joined (right_of r) (map (slice_get y.rels) xs)) h in
          let later = more (right_of r) (right_low r (at_ends y.rels ends x r is) r.reversed) parts.1 in
          elim (or_cases (nat_eq v at) (has_number (right_of r ∷ rights (map (slice_get y.rels) xs)) v) e) [
            | inl same ↦ subst (λ w. w < length y.nodes) (sym (eqb-true v at same)) low
            | inr rest ↦ later rest
          ]

  -- and each relationship has its ends among them
  abbrev HasEnds : List ℕ → ℕ → Type 0
  HasEnds ns x = (r : TypedRel) × (slice_get y.rels x ≡ Some r) × (has_number ns (left_of r) ≡ true) × (has_number ns (right_of r) ≡ true)

  ends_among : (at : ℕ) (xs : List ℕ) → joined at (map (slice_get y.rels) xs) ≡ true → (x : ℕ) → has_number xs x ≡ true → HasEnds (at ∷ rights (map (slice_get y.rels) xs)) x
  ends_among at [] h x e = absurd (true≢false (sym e))
  ends_among at (z ∷ xs) h x e = go (slice_get y.rels z) refl (λ next k f. ends_among next xs k x f) h
    where
      go : (o : Option TypedRel) → slice_get y.rels z ≡ o
          → ((next : ℕ) → joined next (map (slice_get y.rels) xs) ≡ true → has_number xs x ≡ true → HasEnds (next ∷ rights (map (slice_get y.rels) xs)) x)
          → joined at (o ∷ map (slice_get y.rels) xs) ≡ true → HasEnds (at ∷ rights (o ∷ map (slice_get y.rels) xs)) x
      go None is more h = absurd (true≢false (sym h))
      go (Some q) is more h =
          let parts = and_parts (nat_eq (left_of q) at) (joined (right_of q) (map (slice_get y.rels) xs)) h in
          let rest = rights (map (slice_get y.rels) xs) in
          let later = more (right_of q) parts.1 in
          elim (or_cases (nat_eq x z) (has_number xs x) e) [
            | inl same ↦ (
              q,
              ap (slice_get y.rels) (eqb-true x z same) ∙ is,
              or_left (nat_eq (left_of q) at) (has_number (right_of q ∷ rest) (left_of q)) parts.0,
              or_right (nat_eq (right_of q) at) (has_number (right_of q ∷ rest) (right_of q)) (or_left (nat_eq (right_of q) (right_of q)) (has_number rest (right_of q)) (eq-eqb _ _ refl)),
            )
            | inr other ↦
                let found = later other in
                (found.0, found.1, or_right (nat_eq (left_of found.0) at) (has_number (right_of q ∷ rest) (left_of found.0)) found.2, or_right (nat_eq (right_of found.0) at) (has_number (right_of q ∷ rest) (right_of found.0)) found.3)
          ]

  both_ends : (ns : List ℕ) (r : TypedRel) (b : Bool) → has_number ns (if b then r.target else r.source) ≡ true → has_number ns (if b then r.source else r.target) ≡ true → (has_number ns r.source && has_number ns r.target) ≡ true
  both_ends ns r true e f = and_from (has_number ns r.source) (has_number ns r.target) f e
  both_ends ns r false e f = and_from (has_number ns r.source) (has_number ns r.target) e f

  -- a path is a piece
  pub path_piece : (p : PathPart) (seen : Known) → p.first < length y.nodes → joined p.first (path_rels y p) ≡ true → IsPiece y (record { inside = path_known y p; earlier = seen })
  path_piece p seen low h = record {
    nodes = λ v e. nodes_low p.first p.rels low h v e;
    rels = λ x e. let found = ends_among p.first p.rels h x e in
        ap (holds (ends_inside (record { inside = path_known y p; earlier = seen }))) found.1 ∙ both_ends (path_nodes y p) found.0 found.0.reversed found.2 found.3;
  }

  pieces_are : (ps : List PathPart) (seen : Known) → AllByRecursion (λ p. p.first < length y.nodes) ps → AllByRecursion (λ p. IsTrue (joined p.first (path_rels y p))) ps
      → AllByRecursion (IsPiece y) (pieces (λ p. p.first) (path_known y) seen ps)
  pieces_are [] seen low h = tt
  pieces_are (p ∷ ps) seen low h = go (seen.nodes p.first) (pieces_are ps (with_both (path_known y p) seen) low.1 h.1)
    where
      go : (b : Bool) → AllByRecursion (IsPiece y) (pieces (λ p. p.first) (path_known y) (with_both (path_known y p) seen) ps)
          → AllByRecursion (IsPiece y) ((if b then [] else record { inside = path_known y p; earlier = seen } ∷ []) ++ pieces (λ p. p.first) (path_known y) (with_both (path_known y p) seen) ps)
      go true more = more
      go false more = (path_piece p seen low.0 h.0, more)

  each_but_first : (ps : List Part) → AllByRecursion (IsPiece y) ps → AllByRecursion (IsPiece y) (drop 1 ps)
  each_but_first [] all = tt
  each_but_first (p ∷ ps) all = all.1

  -- so are the parts of the plan that takes the paths in text order
  pub given_pieces : AllByRecursion (IsPiece y) (given_parts y)
  given_pieces = each_but_first _ (pieces_are y.paths none (recursion_from_All _ y.paths sound.starts) (recursion_from_All _ y.paths sound.joins))

  -- ---- components

  -- a component is a piece
  pub component_piece : (v : ℕ) (seen : Known) → IsPiece y (record { inside = component y v; earlier = seen })
  component_piece v seen = record {
    nodes = λ w e. ltb-true w (length y.nodes) (and_parts (nat_lt w (length y.nodes)) (connected y w v) e).0;
    rels = λ x e.
        let found = holds_some (λ r. connected y r.source v) (slice_get y.rels x) e in
        let low = ends_low found.0 (at_ends y.rels ends x found.0 found.1) in
        let same : connected y found.0.target v ≡ true = ap (λ m. nat_eq m (marks y.rels (λ u. u) v)) (sym (ends_marked y.rels (λ u. u) x found.0 found.1)) ∙ found.2 in
        ap (holds (ends_inside (record { inside = component y v; earlier = seen }))) found.1
        ∙ and_from (nat_lt found.0.source (length y.nodes) && connected y found.0.source v) (nat_lt found.0.target (length y.nodes) && connected y found.0.target v)
        (and_from (nat_lt found.0.source (length y.nodes)) (connected y found.0.source v) (lt-ltb found.0.source (length y.nodes) low.0) found.2)
        (and_from (nat_lt found.0.target (length y.nodes)) (connected y found.0.target v) (lt-ltb found.0.target (length y.nodes) low.1) same);
  }

  components_are : (vs : List ℕ) (seen : Known) → AllByRecursion (IsPiece y) (pieces (λ v. v) (component y) seen vs)
  components_are [] seen = tt
  components_are (v ∷ vs) seen = go (seen.nodes v) (components_are vs (with_both (component y v) seen))
    where
      go : (b : Bool) → AllByRecursion (IsPiece y) (pieces (λ v. v) (component y) (with_both (component y v) seen) vs)
          → AllByRecursion (IsPiece y) ((if b then [] else record { inside = component y v; earlier = seen } ∷ []) ++ pieces (λ v. v) (component y) (with_both (component y v) seen) vs)
      go true more = more
      go false more = (component_piece v seen, more)

  -- so are the parts of the plan that takes the components by weights
  pub greedy_pieces : AllByRecursion (IsPiece y) (greedy_parts y)
  greedy_pieces = each_but_first _ (components_are (range_with_len 0 (length y.nodes)) none)

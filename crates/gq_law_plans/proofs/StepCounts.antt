-- What one step makes of a partial assignment, counted against an assignment that extends it.
use Rattle.std.proofs.Common.{◌≡◌, ℕ, ◌+◌, Bool, true, false, not, ◌&&◌, cond, nat_eq, nat_lt, Option, Some, None, List, [], ◌∷◌, filter, length, slice_get, option_map, IsTrue, refl, sym, ap, ap₂, ◌∙◌, subst, true≢false}
use Rattle.std.specs.List.{list_all}
use Rattle.std.proofs.Math.Bool.{and_assoc, and_comm, and-false}
use Rattle.std.proofs.lemmas.Bool.{eqb-true, eq-eqb, ltb-true, and_parts, and_from}
use Rattle.std.proofs.lemmas.Option.{slice_get_within, get_or_from_slice_get}
use Rattle.std.specs.List.{All}
use Rattle.gq_base.specs.Plain.{Graph}
use Rattle.gq_base.specs.Valid.{is_valid}
use Rattle.gq_base.specs.declared.NodeId.{NodeId}
use Rattle.gq_base.specs.declared.RelId.{RelId}
use Rattle.gq_base.specs.declared.direction.Direction.{Direction}
use Rattle.gq_base.specs.declared.direction.Direction.TheVariants.{Forward, Backward}
use Rattle.gq_plan.specs.Allowed.{at_same, leads}
use Rattle.gq_plan.specs.Assignments.{Assignment, row_of, nodes_of, rels_of, source, target, source_in, target_in, is_node, is_rel}
use Rattle.gq_plan.specs.Conditions.{passes, differs, no_loop}
use Rattle.gq_plan.specs.Covers.{start_of, end_of, goes, fits_step, test_bound, pair_bound, loop_bound}
use Rattle.gq_plan.specs.Meaning.{Partial, with_node, with_rel, look, row, near, far, nodes_for, arrive, holds, keep_if, step, rels_from}
use Rattle.gq_plan.specs.Soundness.{EndsFit, IsSound}
use Rattle.gq_plan.specs.Plans.{Scan, Extend, Close, Keep, Differ, NoLoop}
use Rattle.gq_plan.specs.declared.bound.NamedExpr.{NamedExpr}
use Rattle.gq_plan.specs.declared.demand.Demand.TheVariants.{InTable, Joins, Passes, Differs, IsNoLoop}
use Rattle.gq_plan.specs.declared.typed.RelPair.{RelPair}
use Rattle.gq_plan.specs.declared.typed.Typed.{Typed}
use Rattle.gq_plan.specs.declared.typed.TypedRel.{TypedRel}
use Rattle.gq_plan.specs.Counts.{bit, hits, total}
use Rattle.gq_plan.proofs.Counts.{total_map, total_flat_map, total_filter, total_same, hits_and_const}
use Rattle.gq_law_plans.specs.Bindings.{is_rel_at, extends, bound}
use Rattle.gq_law_plans.proofs.Counting.{is_in, passes_in, joins, met, known_by, hits_nodes_of, hits_rels_at, extends_with_node, extends_with_rel, at_same_is, node_look, rel_look}
use Rattle.gq_law_plans.proofs.Ends.{HasEnds, ends_of}
use Rattle.gq_plan.proofs.Pieces.{some_at, holds_some}
use Rattle.gq_plan.proofs.Values.{values_agree}

-- ---- truth tables

kept_bit : (x b c : Bool) → (x ≡ true → b ≡ c) → cond b (bit x + 0) 0 ≡ bit (x && (c && true))
kept_bit true true true same = refl
kept_bit true true false same = absurd (true≢false (same refl))
kept_bit true false true same = absurd (true≢false (sym (same refl)))
kept_bit true false false same = refl
kept_bit false true c same = refl
kept_bit false false c same = refl

extend_bit : (p q b d c : Bool) → (c ≡ true → p ≡ q) → cond p (bit (b && (d && c))) 0 ≡ bit (d && ((q && b) && c))
extend_bit p q b true true same = rw (same refl) (go q b)
  where
    go : (q b : Bool) → cond q (bit (b && true)) 0 ≡ bit ((q && b) && true)
    go true b = refl
    go false b = refl
extend_bit true q b true false same = ap bit (and-false b ∙ sym (and-false (q && b)))
extend_bit false q b true false same = ap bit (sym (and-false (q && b)))
extend_bit true q true false c same = refl
extend_bit true q false false c same = refl
extend_bit false q b false c same = refl

close_bit : (p p' q q' d c : Bool) → (c ≡ true → p ≡ q) → (c ≡ true → p' ≡ q') → cond p (cond p' (bit (d && c)) 0) 0 ≡ bit (d && ((q && q') && c))
close_bit p p' q q' true true same same' = rw (same refl, same' refl) (go q q')
  where
    go : (q r : Bool) → cond q (cond r 1 0) 0 ≡ bit ((q && r) && true)
    go true true = refl
    go true false = refl
    go false r = refl
close_bit p p' q q' true false same same' = none p p' ∙ ap bit (sym (and-false (q && q')))
  where
    none : (a b : Bool) → cond a (cond b (bit false) 0) 0 ≡ bit false
    none true true = refl
    none true false = refl
    none false b = refl
close_bit true true q q' false c same same' = refl
close_bit true false q q' false c same same' = refl
close_bit false p' q q' false c same same' = refl

more_bit : (c j i : Bool) → (j ≡ true → i ≡ true) → bit (c && j) ≡ bit (c && (j && (i && true)))
more_bit true true i h = rw (h refl) refl
more_bit true false i h = refl
more_bit false j i h = refl

one_bit : (c j : Bool) → bit (c && j) ≡ bit (c && (j && true))
one_bit true true = refl
one_bit true false = refl
one_bit false j = refl

scan_bit : (b c : Bool) → cond c (bit b) 0 ≡ bit (c && (b && true))
scan_bit true true = refl
scan_bit false true = refl
scan_bit true false = refl
scan_bit false false = refl

-- ---- lists of a table

nodes_listed : (g : Graph) (y : Typed) (v k : ℕ) → slice_get y.nodes v ≡ Some k → nodes_for g y v ≡ nodes_of g k
nodes_listed g y v k e = rw e refl

rels_listed : (g : Graph) (y : Typed) (x : ℕ) (way : Direction) (n : Option NodeId) (k : TypedRel) → slice_get y.rels x ≡ Some k
    → rels_from g y x way n ≡ filter (λ r. at_same n (near g way r)) (rels_of g k.table)
rels_listed g y x way n k e = rw e refl

pub all_at : {X : Type 0} (P : X → Type 0) (xs : List X) → All P xs → (i : ℕ) (x : X) → slice_get xs i ≡ Some x → P x
all_at P xs h i x e = subst P (get_or_from_slice_get xs i x x e) (h i x (slice_get_within xs i x e))

-- what fits, taken apart
record Goes (y : Typed) (x from to : ℕ) (way : Direction) : Type 0 where
  rel : TypedRel
  is : slice_get y.rels x ≡ Some rel
  starts : from ≡ start_of way rel
  ends : to ≡ end_of way rel

module _ (g : Graph) (y : Typed) (real : IsTrue (is_valid g)) (sound : IsSound g.catalog y) (t : Assignment) where
  going : (column : Bool) (x from to : ℕ) (way : Direction) → holds (goes g.catalog column from to way) (slice_get y.rels x) ≡ true → Goes y x from to way
  going column x from to way h =
      let r = holds_some (goes g.catalog column from to way) (slice_get y.rels x) h in
      let ends = and_parts (nat_eq from (start_of way r.0)) (nat_eq to (end_of way r.0)) (and_parts (nat_eq from (start_of way r.0) && nat_eq to (end_of way r.0)) _ r.2).0 in
      record { rel = r.0; is = r.1; starts = eqb-true from _ ends.0; ends = eqb-true to _ ends.1 }

  -- ---- conditions

  kept : (a : Partial) (b c : Bool) → (extends a t ≡ true → b ≡ c) → hits (λ e. extends e t) (keep_if b a) ≡ bit (extends a t && (c && true))
  kept a b c same = go b ∙ kept_bit (extends a t) b c same
    where
      go : (b : Bool) → hits (λ e. extends e t) (keep_if b a) ≡ cond b (bit (extends a t) + 0) 0
      go true = refl
      go false = refl

  pub tested : (a : Partial) (i : ℕ) → fits_step g.catalog y (Keep i) (known_by a) ≡ true → hits (λ e. extends e t) (step g y (Keep i) a) ≡ bit (extends a t && list_all (met g y t) (Passes i ∷ []))
  unfolding step fits_step
  tested a i fits = kept a (holds (passes g (row a)) (slice_get y.tests i)) (met g y t (Passes i)) (λ e. go (slice_get y.tests i) fits e)
    where
      go : (o : Option NamedExpr) → holds (test_bound (known_by a)) o ≡ true → extends a t ≡ true → holds (passes g (row a)) o ≡ holds (passes g (row_of t)) o
      go None h e = refl
      go (Some test) h e = rw (values_agree g (row a) (row_of t) (known_by a) (node_look a t e) (rel_look a t e) test.expr h) refl

  pub different : (a : Partial) (p : ℕ) → fits_step g.catalog y (Differ p) (known_by a) ≡ true → hits (λ e. extends e t) (step g y (Differ p) a) ≡ bit (extends a t && list_all (met g y t) (Differs p ∷ []))
  unfolding step fits_step
  different a p fits = kept a (holds (differs (row a)) (slice_get y.pairs p)) (met g y t (Differs p)) (λ e. go (slice_get y.pairs p) fits e)
    where
      go : (o : Option RelPair) → holds (pair_bound (known_by a)) o ≡ true → extends a t ≡ true → holds (differs (row a)) o ≡ holds (differs (row_of t)) o
      go None h e = refl
      go (Some q) h e =
          let parts = and_parts (bound a.rels q.first) (bound a.rels q.second) h in
          rw (rel_look a t e q.first parts.0, rel_look a t e q.second parts.1) refl

  pub unlooped : (a : Partial) (x : ℕ) → fits_step g.catalog y (NoLoop x) (known_by a) ≡ true → hits (λ e. extends e t) (step g y (NoLoop x) a) ≡ bit (extends a t && list_all (met g y t) (IsNoLoop x ∷ []))
  unfolding step fits_step
  unlooped a x fits = kept a (holds (no_loop (row a)) (slice_get y.rels x)) (met g y t (IsNoLoop x)) (λ e. go (slice_get y.rels x) fits e)
    where
      go : (o : Option TypedRel) → holds (loop_bound (known_by a) x) o ≡ true → extends a t ≡ true → holds (no_loop (row a)) o ≡ holds (no_loop (row_of t)) o
      go None h e = refl
      go (Some k) h e =
          let parts = and_parts (bound a.nodes k.source) (bound a.nodes k.target) (and_parts (bound a.rels x) _ (and_parts k.no_loop _ h).1).1 in
          ap₂ (λ m n. not (at_same m n)) (node_look a t e k.source parts.0) (node_look a t e k.target parts.1)

  -- ---- a scan

  pub scanned : (a : Partial) (v : ℕ) → fits_step g.catalog y (Scan v) (known_by a) ≡ true → hits (λ e. extends e t) (step g y (Scan v) a) ≡ bit (extends a t && list_all (met g y t) (InTable v ∷ []))
  unfolding step fits_step
  scanned a v fits =
      let k = some_at y.nodes v (ltb-true v _ (and_parts (nat_lt v (length y.nodes)) (not (bound a.nodes v)) fits).0) in
      total_map (λ e. bit (extends e t)) (λ n. with_node v n a) (nodes_for g y v)
      ∙ total_same _ _ (λ n. ap bit (extends_with_node v n a t)) (nodes_for g y v)
      ∙ hits_and_const (λ n. at_same (slice_get t.nodes v) (Some n)) (extends a t) (nodes_for g y v)
      ∙ ap (λ n. cond (extends a t) n 0) (ap (hits (λ n. at_same (slice_get t.nodes v) (Some n))) (nodes_listed g y v k.0 k.1) ∙ hits_nodes_of g k.0 (slice_get t.nodes v))
      ∙ scan_bit (is_in g k.0 (slice_get t.nodes v)) (extends a t)
      ∙ ap (λ o. bit (extends a t && (holds (λ k. is_in g k (slice_get t.nodes v)) o && true))) (sym k.1)

  -- ---- a relationship

  -- it stands between the nodes at the start and at the end of a way
  abbrev between : ℕ → ℕ → Direction → RelId → Bool
  between from to way r = at_same (slice_get t.nodes from) (near g way r) && at_same (slice_get t.nodes to) (far g way r)

  between_joins : (k : TypedRel) (way : Direction) (o : Option RelId) → passes_in g k.table (between (start_of way k) (end_of way k) way) o ≡ joins g k (slice_get t.nodes k.source) (slice_get t.nodes k.target) o
  between_joins k Forward None = refl
  between_joins k Forward (Some r) = refl
  between_joins k Backward None = refl
  between_joins k Backward (Some r) =
      ap (λ b. (nat_eq r.table k.table && is_rel g r) && b)
      (and_comm (at_same (slice_get t.nodes k.target) (target g r)) (at_same (slice_get t.nodes k.source) (source g r)))

  passes_and : (table : ℕ) (test : RelId → Bool) (c : Bool) (o : Option RelId) → passes_in g table (λ r. test r && c) o ≡ (c && passes_in g table test o)
  passes_and table test c None = go c
    where
      go : (c : Bool) → false ≡ (c && false)
      go true = refl
      go false = refl
  passes_and table test c (Some r) = sym (and_assoc (nat_eq r.table table && is_rel g r) (test r) c) ∙ and_comm (passes_in g table test (Some r)) c

  -- the relationships that a step goes by are those that the assignment demands
  gone : (x from to : ℕ) (way : Direction) (c : Bool) (k : Goes y x from to way)
      → hits (λ r. is_rel_at (slice_get t.rels x) r && (between from to way r && c)) (rels_of g k.rel.table) ≡ bit (c && met g y t (Joins x))
  gone x from to way c k =
      hits_rels_at g k.rel.table (λ r. between from to way r && c) (slice_get t.rels x)
      ∙ ap bit
      (passes_and k.rel.table (between from to way) c (slice_get t.rels x)
      ∙ ap (λ b. c && b)
      ((λ i. passes_in g k.rel.table (between (k.starts i) (k.ends i) way) (slice_get t.rels x))
      ∙ between_joins k.rel way (slice_get t.rels x)
      ∙ ap (holds (λ k. joins g k (slice_get t.nodes k.source) (slice_get t.nodes k.target) (slice_get t.rels x))) (sym k.is)))

  in_from : (v k row : ℕ) (o : Option NodeId) → slice_get y.nodes v ≡ Some k → at_same (slice_get t.nodes v) o ≡ true → o ≡ Some (record { table = k; row = row })
      → is_node g (record { table = k; row = row }) ≡ true → met g y t (InTable v) ≡ true
  in_from v k row o table at is node =
      ap (holds (λ k. is_in g k (slice_get t.nodes v))) table
      ∙ ap (is_in g k) (at_same_is (slice_get t.nodes v) o at ∙ is)
      ∙ and_from (nat_eq k k) (is_node g (record { table = k; row = row })) (eq-eqb k k refl) node

  -- the node to which it leads is of its variable's table
  comes_out : (x from to : ℕ) (way : Direction) → Goes y x from to way → met g y t (Joins x) ≡ true → met g y t (InTable to) ≡ true
  unfolding source target
  comes_out x from to way k h =
      ap (λ v. met g y t (InTable v)) k.ends
      ∙ go way (slice_get t.rels x) (ap (holds (λ k. joins g k (slice_get t.nodes k.source) (slice_get t.nodes k.target) (slice_get t.rels x))) (sym k.is) ∙ h)
    where
      fit : EndsFit g.catalog y k.rel
      fit = all_at (EndsFit g.catalog y) y.rels sound.ends x k.rel k.is

      go : (way : Direction) (o : Option RelId) → joins g k.rel (slice_get t.nodes k.rel.source) (slice_get t.nodes k.rel.target) o ≡ true → met g y t (InTable (end_of way k.rel)) ≡ true
      go way None h = absurd (true≢false (sym h))
      go Forward (Some r) h =
          let parts = and_parts (nat_eq r.table k.rel.table && is_rel g r) (leads g (slice_get t.nodes k.rel.source) (slice_get t.nodes k.rel.target) r) h in
          let kind = and_parts (nat_eq r.table k.rel.table) (is_rel g r) parts.0 in
          let ends = and_parts (at_same (slice_get t.nodes k.rel.source) (source g r)) (at_same (slice_get t.nodes k.rel.target) (target g r)) parts.1 in
          let has : HasEnds g r = ends_of g real r kind.1 in
          let same : r.table ≡ k.rel.table = eqb-true _ _ kind.0 in
          in_from k.rel.target has.table.to has.rel.target (target g r)
          (fit.target ∙ ap (λ j. option_map (λ k. k.to) (slice_get g.catalog.rels j)) (sym same) ∙ ap (option_map (λ k. k.to)) has.table_is) ends.1
          (ap₂ target_in has.table_is has.rel_is) has.target
      go Backward (Some r) h =
          let parts = and_parts (nat_eq r.table k.rel.table && is_rel g r) (leads g (slice_get t.nodes k.rel.source) (slice_get t.nodes k.rel.target) r) h in
          let kind = and_parts (nat_eq r.table k.rel.table) (is_rel g r) parts.0 in
          let ends = and_parts (at_same (slice_get t.nodes k.rel.source) (source g r)) (at_same (slice_get t.nodes k.rel.target) (target g r)) parts.1 in
          let has : HasEnds g r = ends_of g real r kind.1 in
          let same : r.table ≡ k.rel.table = eqb-true _ _ kind.0 in
          in_from k.rel.source has.table.from has.rel.source (source g r)
          (fit.source ∙ ap (λ j. option_map (λ k. k.from) (slice_get g.catalog.rels j)) (sym same) ∙ ap (option_map (λ k. k.from)) has.table_is) ends.0
          (ap₂ source_in has.table_is has.rel_is) has.source

  arrives : (to : ℕ) (o : Option NodeId) (b : Partial) → hits (λ e. extends e t) (arrive to o b) ≡ bit (at_same (slice_get t.nodes to) o && extends b t)
  arrives to None b = ap bit (sym (go (slice_get t.nodes to)))
    where
      go : (o : Option NodeId) → (at_same o None && extends b t) ≡ false
      go None = refl
      go (Some n) = refl
  arrives to (Some n) b = ap (λ c. bit c + 0) (extends_with_node to n b t) ∙ go (at_same (slice_get t.nodes to) (Some n) && extends b t)
    where
      go : (c : Bool) → bit c + 0 ≡ bit c
      go true = refl
      go false = refl

  pub extended : (a : Partial) (column : Bool) (x from to : ℕ) (way : Direction) → fits_step g.catalog y (Extend column x from to way) (known_by a) ≡ true
      → hits (λ e. extends e t) (step g y (Extend column x from to way) a) ≡ bit (extends a t && list_all (met g y t) (Joins x ∷ InTable to ∷ []))
  unfolding step fits_step
  extended a column x from to way fits =
      let parts = and_parts (holds (goes g.catalog column from to way) (slice_get y.rels x)) _ fits in
      let k : Goes y x from to way = going column x from to way parts.0 in
      let known = and_parts (bound a.nodes from) _ (and_parts (not (bound a.rels x)) _ parts.1).1 in
      let rels = rels_of g k.rel.table in
      let leaves : RelId → Bool = λ r. at_same (look a.nodes from) (near g way r) in
      total_flat_map (λ e. bit (extends e t)) (λ r. arrive to (far g way r) (with_rel x r a)) (rels_from g y x way (look a.nodes from))
      ∙ ap (total (λ r. hits (λ e. extends e t) (arrive to (far g way r) (with_rel x r a)))) (rels_listed g y x way (look a.nodes from) k.rel k.is)
      ∙ total_filter _ leaves rels
      ∙ total_same _ _ (each known.0) rels
      ∙ gone x from to way (extends a t) k
      ∙ more_bit (extends a t) (met g y t (Joins x)) (met g y t (InTable to)) (comes_out x from to way k)
    where
      each : bound a.nodes from ≡ true → (r : RelId) → cond (at_same (look a.nodes from) (near g way r)) (hits (λ e. extends e t) (arrive to (far g way r) (with_rel x r a))) 0
          ≡ bit (is_rel_at (slice_get t.rels x) r && (between from to way r && extends a t))
      each known r =
          ap (λ n. cond (at_same (look a.nodes from) (near g way r)) n 0)
          (arrives to (far g way r) (with_rel x r a) ∙ ap (λ b. bit (at_same (slice_get t.nodes to) (far g way r) && b)) (extends_with_rel x r a t))
          ∙ extend_bit (at_same (look a.nodes from) (near g way r)) (at_same (slice_get t.nodes from) (near g way r)) (at_same (slice_get t.nodes to) (far g way r)) (is_rel_at (slice_get t.rels x) r) (extends a t)
          (λ e. ap (λ o. at_same o (near g way r)) (node_look a t e from known))

  pub closed : (a : Partial) (column : Bool) (x from to : ℕ) (way : Direction) → fits_step g.catalog y (Close column x from to way) (known_by a) ≡ true
      → hits (λ e. extends e t) (step g y (Close column x from to way) a) ≡ bit (extends a t && list_all (met g y t) (Joins x ∷ []))
  unfolding step fits_step
  closed a column x from to way fits =
      let parts = and_parts (holds (goes g.catalog column from to way) (slice_get y.rels x)) _ fits in
      let k : Goes y x from to way = going column x from to way parts.0 in
      let known = and_parts (bound a.nodes from) (bound a.nodes to) (and_parts (not (bound a.rels x)) _ parts.1).1 in
      let rels = rels_of g k.rel.table in
      let comes : RelId → Bool = λ r. at_same (look a.nodes to) (far g way r) in
      let leaves : RelId → Bool = λ r. at_same (look a.nodes from) (near g way r) in
      total_map (λ e. bit (extends e t)) (λ r. with_rel x r a) (filter comes (rels_from g y x way (look a.nodes from)))
      ∙ ap (λ l. total (λ r. bit (extends (with_rel x r a) t)) (filter comes l)) (rels_listed g y x way (look a.nodes from) k.rel k.is)
      ∙ total_filter _ comes (filter leaves rels)
      ∙ total_filter _ leaves rels
      ∙ total_same _ _ (each known.0 known.1) rels
      ∙ gone x from to way (extends a t) k
      ∙ one_bit (extends a t) (met g y t (Joins x))
    where
      each : bound a.nodes from ≡ true → bound a.nodes to ≡ true → (r : RelId)
          → cond (at_same (look a.nodes from) (near g way r)) (cond (at_same (look a.nodes to) (far g way r)) (bit (extends (with_rel x r a) t)) 0) 0
          ≡ bit (is_rel_at (slice_get t.rels x) r && (between from to way r && extends a t))
      each known known' r =
          ap (λ b. cond (at_same (look a.nodes from) (near g way r)) (cond (at_same (look a.nodes to) (far g way r)) (bit b) 0) 0) (extends_with_rel x r a t)
          ∙ close_bit (at_same (look a.nodes from) (near g way r)) (at_same (look a.nodes to) (far g way r)) (at_same (slice_get t.nodes from) (near g way r)) (at_same (slice_get t.nodes to) (far g way r))
          (is_rel_at (slice_get t.rels x) r) (extends a t)
          (λ e. ap (λ o. at_same o (near g way r)) (node_look a t e from known)) (λ e. ap (λ o. at_same o (far g way r)) (node_look a t e to known'))

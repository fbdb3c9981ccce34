-- What tests of rows keep of a list stays so while the rows stand that they read, and is remembered for these.
use Rattle.std.proofs.Common.{◌≡◌, ◌≢◌, ◌⊎◌, inl, inr, ℕ, ◌+◌, ◌*◌, ◌<◌, ◌≤◌, ◌==◌, Bool, true, false, ◌&&◌, not, nat_lt, Option, Some, None, List, [], length, get_or, refl, sym, ap, ap₂, ◌∙◌, subst, arith}
use Rattle.std.specs.Coded.{Coded-set, coded_bool}
use Rattle.std.specs.Prelude.{slice_get, slice_index, slice_set}
use Rattle.std.proofs.Math.Logic.{∥∥₁_elim, ∥∥₁_map}
use Rattle.std.proofs.lemmas.Bool.{and_parts, cases_eq, cases_lt, false≢true}
use Rattle.std.proofs.lemmas.List.{get_or-set_other, get_or-set_same, length-set}
use Rattle.std.proofs.lemmas.Option.{slice_get-get_or, slice_get_past}
use Rattle.gq_base.specs.declared.direction.Direction.{Direction}
use Rattle.gq_bits.specs.Places.{is_marked}
use Rattle.gq_bits.specs.declared.TheConstants.{VECTOR}
use Rattle.gq_plan.specs.Conditions.{passes}
use Rattle.gq_plan.specs.Covers.{test_bound}
use Rattle.gq_plan.specs.Known.{Known, known_of, set_of}
use Rattle.gq_plan.specs.Meaning.{holds}
use Rattle.gq_plan.specs.Plans.{Extend}
use Rattle.gq_plan.specs.Rows.{as_read, rel_table}
use Rattle.gq_plan.specs.declared.assignment.Assignment.{Assignment}
use Rattle.gq_plan.specs.declared.bound.NamedExpr.{NamedExpr}
use Rattle.gq_plan.specs.steps.Rows.{node_in}
use Rattle.gq_plan.proofs.Rows.{node_read}
use Rattle.gq_plan.proofs.Values.{values_agree}
use Rattle.gq_sift.specs.Remembered.{AreAlikeBeside, HasMarks, IsRemembered, StandsAt, TakesPiece, TestsRead}
use Rattle.gq_sift.specs.declared.remembered.KeptPiece.{KeptPiece}
use Rattle.gq_sift.specs.declared.remembered.Remembered.{Remembered}
use Rattle.gq_sift.specs.steps.Filters.{FiltersList, is_listed_step}
use Rattle.gq_sift.specs.Tested.{IsTested, far_row, rows_keep}
use Rattle.gq_chains.proofs.Acted.{differ_of, keep_of}
use Rattle.gq_sift.proofs.Judged.{apart, can_follow, no_loop_of}
use Rattle.gq_steps.specs.Keeps.{IsRange}
use Rattle.gq_steps.specs.Levels.{Run, known, step_at}
use Rattle.gq_steps.specs.Moves.{IsRun, IsHeld}
use Rattle.gq_steps.specs.declared.group_steps.GroupSteps.{GroupSteps}
use Rattle.gq_plan.specs.declared.follow.Follow.{Follow}
use Rattle.gq_steps.specs.steps.Outcomes.{passes_at, with_row}
use Rattle.gq_store.specs.Neighbours.{neighbours}

-- ---- the rows that are read

-- a list with the same item at a place
set_there : (old new : List ℕ) (to r v : ℕ) → length old ≡ length new → (v < length old → v ≢ to → slice_index old v ≡ slice_index new v) → slice_get (slice_set old to r) v ≡ slice_get (slice_set new to r) v
set_there old new to r v long same = go (cases_lt v (length old)) (cases_eq v to)
  where
    go : (v < length old) ⊎ (length old ≤ v) → (v ≡ to) ⊎ (v ≢ to) → slice_get (slice_set old to r) v ≡ slice_get (slice_set new to r) v
    go (inr past) other =
        slice_get_past (slice_set old to r) v (omega (arith, past, length-set old to r)) ∙ sym (slice_get_past (slice_set new to r) v (omega (arith, past, long, length-set new to r)))
    go (inl low) (inl is) =
        slice_get-get_or (slice_set old to r) v 0 (omega (arith, low, length-set old to r))
        ∙ ap Some (ap (λ w. get_or (slice_set old to r) w 0) is ∙ get_or-set_same old to r 0 (omega (arith, low, is)) ∙ sym (get_or-set_same new to r 0 (omega (arith, low, is, long))) ∙ ap (λ w. get_or (slice_set new to r) w 0) (sym is))
        ∙ sym (slice_get-get_or (slice_set new to r) v 0 (omega (arith, low, long, length-set new to r)))
    go (inl low) (inr other) =
        slice_get-get_or (slice_set old to r) v 0 (omega (arith, low, length-set old to r))
        ∙ ap Some (get_or-set_other old to v r 0 other ∙ same low other ∙ sym (get_or-set_other new to v r 0 other))
        ∙ sym (slice_get-get_or (slice_set new to r) v 0 (omega (arith, low, long, length-set new to r)))

module _ (c : Run) (run : IsRun c) (group : GroupSteps) (range : IsRange c group) (f : Follow) (filters : FiltersList c group f) (reads : Known) (tests : TestsRead c group reads) (from_read : reads.nodes f.from ≡ true) (no_rels : (x : ℕ) → reads.rels x ≡ false)
    (old new : Assignment) (held : IsHeld c old (known c group.first)) (again : IsHeld c new (known c group.first)) (alike : AreAlikeBeside f.to reads.nodes old.nodes new.nodes) where
  from_same : slice_index old.nodes f.from ≡ slice_index new.nodes f.from
  from_same = let can = can_follow c run group range 0 old held f filters.reads.extends in alike f.from (omega (arith, can.from, held.node_count)) from_read (apart c run group range 0 old held f filters.reads.extends)

  row_same : (place : ℕ) → far_row c f old place ≡ far_row c f new place
  row_same place = ap (λ r. slice_index (neighbours c.graph (rel_table c.typed f.rel) f.direction r) place) from_same

  put_same : (r v : ℕ) → reads.nodes v ≡ true → (as_read c.typed (with_row f.to r old)).nodes v ≡ (as_read c.typed (with_row f.to r new)).nodes v
  put_same r v read =
      node_read c.typed (with_row f.to r old) v
      ∙ ap (node_in (slice_get c.typed.nodes v)) (set_there old.nodes new.nodes f.to r v (held.node_count ∙ sym again.node_count) (λ low other. alike v low read other))
      ∙ sym (node_read c.typed (with_row f.to r new) v)

  passes_alike : (r : ℕ) (o : Option NamedExpr) → holds (test_bound reads) o ≡ true → holds (passes c.graph (as_read c.typed (with_row f.to r old))) o ≡ holds (passes c.graph (as_read c.typed (with_row f.to r new))) o
  passes_alike r None fit = refl
  passes_alike r (Some test) fit =
      rw (values_agree c.graph (as_read c.typed (with_row f.to r old)) (as_read c.typed (with_row f.to r new)) reads (put_same r) (λ x read. absurd (false≢true (sym (no_rels x) ∙ read))) test.expr fit) refl

  keeps_same : (d place : ℕ) → group.first < d → d < group.end → rows_keep c f old place (step_at c d) ≡ rows_keep c f new place (step_at c d)
  keeps_same d place above low = elim (filters.reads.tests d above low) [
    | inl test ↦
        (let keep = keep_of (step_at c d) test.test test.is in
        ap (rows_keep c f old place) keep
        ∙ passes_alike (far_row c f old place) (slice_get c.typed.tests test.test) (tests d test.test above low test.is)
        ∙ ap (λ r. passes_at c.graph c.typed (with_row f.to r new) test.test) (row_same place)
        ∙ sym (ap (rows_keep c f new place) keep))
    | inr (inr test) ↦
        (let loop = no_loop_of (step_at c d) f.rel test.is in
        ap (rows_keep c f old place) loop ∙ ap₂ (λ a b. not (a == b)) (row_same place) from_same ∙ sym (ap (rows_keep c f new place) loop))
    | inr (inl test) ↦
        (let differ = differ_of (step_at c d) test.number test.is in
        ap (rows_keep c f old place) differ ∙ sym (ap (rows_keep c f new place) differ))
  ]

  -- what they keep for one assignment, they keep for the other
  pub tested_alike : (first count : ℕ) (marks : List Bool) → IsTested c group f first count old marks → IsTested c group f first count new marks
  tested_alike first count marks t = record {
    whole = t.whole;
    kept = record {
      on = λ j m. ((t.kept.on j m).0, λ d above low. sym (keeps_same d (first + j) above low) ∙ (t.kept.on j m).1 d above low);
      off = λ j s all. t.kept.off j s (λ d above low. keeps_same d (first + j) above low ∙ all d above low);
    };
  }

-- ---- the list that is followed

column_is : (column : Bool) (x from to : ℕ) (w : Direction) → is_listed_step (Extend column x from to w) ≡ true → column ≡ false
column_is false x from to w is = refl
column_is true x from to w is = cc

pub list_step : (c : Run) (group : GroupSteps) (f : Follow) → FiltersList c group f → step_at c group.first ≡ Extend false f.rel f.from f.to f.direction
list_step c group f filters =
    let column = column_is filters.reads.extends.0 f.rel f.from f.to f.direction (sym (ap is_listed_step filters.reads.extends.1) ∙ filters.listed) in
    filters.reads.extends.1 ∙ ap (λ b. Extend b f.rel f.from f.to f.direction) column

same_follow : (f g : Follow) → Extend false f.rel f.from f.to f.direction ≡ Extend false g.rel g.from g.to g.direction → f ≡ g
same_follow f g is =
    let rel : f.rel ≡ g.rel = cc in
    let from : f.from ≡ g.from = cc in
    let to : f.to ≡ g.to = cc in
    let direction : f.direction ≡ g.direction = cc in
    ap₂ (λ (a b : ℕ). record { rel = a; from = b; to = f.to; direction = f.direction }) rel from
    ∙ ap₂ (λ (a : ℕ) (w : Direction). record { rel = g.rel; from = g.from; to = a; direction = w }) to direction

-- ---- what is remembered

module _ (c : Run) (group : GroupSteps) (m : Remembered) (r : ∥ IsRemembered c group m ∥₁) (f : Follow) (filters : FiltersList c group f) where
  own : IsRemembered c group m → m.follow ≡ f
  own x = same_follow m.follow f (sym x.follows ∙ list_step c group f filters)

  -- what is given of a piece
  pub given : (row : Assignment) → IsHeld c row (known c group.first) → StandsAt m row → (piece count : ℕ) (k : KeptPiece) → slice_get m.pieces.items piece ≡ Some k → k.count ≡ count
      → (marks : List Bool) → length marks ≡ VECTOR → ((j : ℕ) → is_marked marks j ≡ (nat_lt j count && is_marked k.marks j)) → IsTested c group f (piece * VECTOR) count row marks
  given row held stands piece count k there many marks whole each = record {
    whole = whole;
    kept = record {
      on = λ j on.
          (let parts = and_parts (nat_lt j count) (is_marked k.marks j) (sym (each j) ∙ on) in
          (parts.0, λ d above low. ∥∥₁_elim r (Coded-set coded_bool _ _) (λ x. ((exact x).kept.on j parts.1).1 d above low)));
      off = λ j s all. each j ∙ ap₂ ◌&&◌ s (∥∥₁_elim r (Coded-set coded_bool _ _) (λ x. (exact x).kept.off j s all));
    };
  }
    where
      exact : IsRemembered c group m → IsTested c group f (piece * VECTOR) count row k.marks
      exact x =
          subst (λ n. IsTested c group f (piece * VECTOR) n row k.marks) many
          (subst (λ (g : Follow). IsTested c group g (piece * VECTOR) k.count row k.marks) (own x) (x.each piece k there row held stands))

-- the same rows stand where the same ones are read
stands_again : (m new : Remembered) → new.follow ≡ m.follow → new.reads ≡ m.reads → new.rows.items ≡ m.rows.items → (row : Assignment) → StandsAt new row → StandsAt m row
stands_again m new follow reads rows row at =
    subst (λ ns. AreAlikeBeside m.follow.to (set_of m.reads.nodes) ns row.nodes) rows
    (subst (λ k. AreAlikeBeside m.follow.to (set_of k.nodes) new.rows.items row.nodes) reads
    (subst (λ (g : Follow). AreAlikeBeside g.to (set_of new.reads.nodes) new.rows.items row.nodes) follow at))

-- where other rows stand, nothing is remembered
pub turned : (c : Run) (group : GroupSteps) (m new : Remembered) → ∥ IsRemembered c group m ∥₁ → new.follow ≡ m.follow → new.reads ≡ m.reads → length new.rows.items ≡ length m.rows.items → (new.pieces.items ≢ [] → (new.rows.items ≡ m.rows.items) × (new.pieces.items ≡ m.pieces.items))
    → ∥ IsRemembered c group new ∥₁
turned c group m new r follow reads long kept = ∥∥₁_map r (λ x.
    record {
      follows = subst (λ (f : Follow). step_at c group.first ≡ Extend false f.rel f.from f.to f.direction) (sym follow) x.follows;
      from = ap₂ (λ k (f : Follow). set_of k.nodes f.from) reads follow ∙ x.from;
      no_rels = λ v. ap (λ k. set_of k.rels v) reads ∙ x.no_rels v;
      tests = subst (λ k. TestsRead c group (known_of k)) (sym reads) x.tests;
      long = long ∙ x.long;
      each = λ p k there row held stands.
          (let same = kept (λ none. absurd (cc (sym there ∙ ap (λ ks. slice_get ks p) none))) in
          subst (λ (g : Follow). IsTested c group g (p * VECTOR) k.count row k.marks) (sym follow)
          (x.each p k (ap (λ ks. slice_get ks p) (sym same.1) ∙ there) row held (stands_again m new follow reads same.0 row stands)));
    })

-- one more piece is remembered
pub taken : (c : Run) (run : IsRun c) (group : GroupSteps) (range : IsRange c group) (f : Follow) (filters : FiltersList c group f) (m new : Remembered) → ∥ IsRemembered c group m ∥₁ → new.follow ≡ m.follow → new.reads ≡ m.reads → new.rows.items ≡ m.rows.items
    → (row : Assignment) → IsHeld c row (known c group.first) → StandsAt m row → (piece count : ℕ) (marks : List Bool) → IsTested c group f (piece * VECTOR) count row marks → TakesPiece m piece count marks new → ∥ IsRemembered c group new ∥₁
taken c run group range f filters m new r follow reads rows row held stands piece count marks t takes = ∥∥₁_map r (λ x.
    record {
      follows = subst (λ (f : Follow). step_at c group.first ≡ Extend false f.rel f.from f.to f.direction) (sym follow) x.follows;
      from = ap₂ (λ k (f : Follow). set_of k.nodes f.from) reads follow ∙ x.from;
      no_rels = λ v. ap (λ k. set_of k.rels v) reads ∙ x.no_rels v;
      tests = subst (λ k. TestsRead c group (known_of k)) (sym reads) x.tests;
      long = ap length rows ∙ x.long;
      each = λ p k there other again at.
          subst (λ (g : Follow). IsTested c group g (p * VECTOR) k.count other k.marks) (sym follow) (each x p k other again (stands_again m new follow reads rows other at) (takes p k there));
    })
  where
    -- the marks that are remembered
    copied : (k : KeptPiece) → HasMarks count marks k → IsTested c group f (piece * VECTOR) k.count row k.marks
    copied k h = subst (λ n. IsTested c group f (piece * VECTOR) n row k.marks) (sym h.many) (record {
      whole = h.whole;
      kept = record {
        on = λ j on. (let parts = and_parts (nat_lt j count) (is_marked marks j) (sym (h.each j) ∙ on) in t.kept.on j parts.1);
        off = λ j s all. h.each j ∙ ap₂ ◌&&◌ s (t.kept.off j s all);
      };
    })

    each : (x : IsRemembered c group m) (p : ℕ) (k : KeptPiece) (other : Assignment) → IsHeld c other (known c group.first) → StandsAt m other
        → (slice_get m.pieces.items p ≡ Some k) ⊎ ((p ≡ piece) × HasMarks count marks k) → IsTested c group m.follow (p * VECTOR) k.count other k.marks
    each x p k other again at (inl was) = x.each p k was other again at
    each x p k other again at (inr next) =
        let same : m.follow ≡ f = same_follow m.follow f (sym x.follows ∙ list_step c group f filters) in
        let alike : AreAlikeBeside f.to (set_of m.reads.nodes) row.nodes other.nodes =
        λ v low read apart_of.
        (let old = stands v (omega (arith, low, held.node_count, x.long)) read (λ e. apart_of (e ∙ ap (λ (g : Follow). g.to) same)) in
        let new_at = at v (omega (arith, low, held.node_count, x.long)) read (λ e. apart_of (e ∙ ap (λ (g : Follow). g.to) same)) in
        sym old ∙ new_at) in
        subst (λ (g : Follow). IsTested c group g (p * VECTOR) k.count other k.marks) (sym same)
        (subst (λ n. IsTested c group f (n * VECTOR) k.count other k.marks) (sym next.0)
        (tested_alike c run group range f filters (known_of m.reads) x.tests (sym (ap (λ (g : Follow). set_of m.reads.nodes g.from) same) ∙ x.from) x.no_rels row other held again alike (piece * VECTOR) k.count k.marks (copied k next.1)))

-- What a try of a step of each kind makes is what is said of the step at its depth.
use Rattle.std.proofs.Common.{◌≡◌, ◌≢◌, inl, inr, ℕ, zero, suc, ◌<◌, ◌≤◌, Bool, true, false, cond, Some, None, List, [], ◌∷◌, map, length, get_or, slice_get, refl, sym, ap, ◌∙◌, subst, arith}
use Rattle.std.proofs.lemmas.Bool.{and_parts}
use Rattle.std.proofs.lemmas.List.{length-map}
use Rattle.std.specs.Prelude.{slice_index}
use Rattle.std.specs.List.{list_any, range_with_len}
use Rattle.std.proofs.lemmas.List.FromFn.{length-range_with_len}
use Rattle.std.proofs.lemmas.Option.{slice_get_within}
use Rattle.gq_base.specs.Valid.{row_count}
use Rattle.gq_plan.specs.Allowed.{at_same}
use Rattle.gq_store.specs.Neighbours.{neighbours, numbers}
use Rattle.gq_steps.specs.Tries.{tries}
use Rattle.gq_steps.proofs.Followed.{rel, as_many}
use Rattle.gq_base.specs.declared.direction.Direction.{Direction}
use Rattle.gq_plan.specs.Covers.{after_step, fits_step, goes}
use Rattle.gq_plan.specs.Halves.{runs_step}
use Rattle.gq_plan.specs.Known.{Known}
use Rattle.gq_plan.specs.Meaning.{Partial, look, holds, far, arrive, with_rel, keep_if, rels_from, step}
use Rattle.gq_plan.specs.Plans.{Step, Scan, Extend, Close, Keep, Single, Meet, step_of}
use Rattle.gq_plan.specs.declared.plan.Step as code
use Rattle.gq_steps.specs.Actions.{action_of, step_by}
use Rattle.gq_steps.specs.Levels.{Run, step_at, built_at, known, before}
use Rattle.gq_steps.specs.Moves.{run_step, run_steps, run_of, steps_in, IsRun, IsHeld, IsTried}
use Rattle.gq_steps.specs.steps.Outcomes.{IsScanned, IsExtended, IsClosed, IsTaken, IsMet, tested}
use Rattle.gq_steps.specs.Follows.{IsSized, CanFollow}
use Rattle.gq_plan.specs.Rows.{node_at, node_table, rel_table}
use Rattle.gq_plan.specs.declared.assignment.Assignment.{Assignment}
use Rattle.gq_steps.specs.declared.action.Action.{Action}
use Rattle.gq_steps.specs.declared.plan_run.PlanRun.{PlanRun}
use Rattle.gq_steps.specs.declared.plan_run.RunStep.{RunStep}
use Rattle.gq_plan.specs.declared.follow.Follow.{Follow}
use Rattle.gq_steps.specs.declared.plan_run.Tried.{Tried}
use Rattle.gq_steps.specs.declared.plan_run.Tried.TheVariants.{Past, Missed, Made}
use Rattle.gq_law_groups.proofs.Single.{from_small}
use Rattle.gq_steps.proofs.Acting.{acts_by}
use Rattle.gq_steps.proofs.Binding.{looks, fits_at}
use Rattle.gq_steps.proofs.Testing.{test_tried}
use Rattle.gq_steps.proofs.Stepping.{not_true, Makes, is_made, is_missed, is_past, scan_parts, scan_makes, scan_makes_none, Follows, follows, near_rows_are, scans, lists, met_is, extend_makes, extend_past, close_makes, close_misses, close_past, single_makes, single_past, meets_none, meets_one}

-- the step at a depth of a run, by what is referred to there
pub get_mapped : (rs : List RunStep) (d : ℕ) (r : RunStep) → d < length rs → get_or (run_steps rs) d (Keep 0) ≡ run_step (get_or rs d r)
get_mapped [] d r low = absurd (omega arith)
get_mapped (q ∷ rs) zero r low = refl
get_mapped (q ∷ rs) (suc d) r low = get_mapped rs d r (omega arith)

-- it is the one that does what is done there, and has the side plan and the keys of the planned one
parts_mapped : (rs : List RunStep) (d : ℕ) (x : code.Step) → d < length rs
    → get_or (run_steps rs) d (Keep 0) ≡ step_by (action_of (get_or (run_steps rs) d (Keep 0))) (step_of (get_or (map (λ (r : RunStep). r.step.now) rs) d x))
parts_mapped [] d x low = absurd (omega arith)
parts_mapped (q ∷ rs) zero x low = ap (λ (a : Action). step_by a (step_of q.step.now)) (sym (acts_by q.action (step_of q.step.now)))
parts_mapped (q ∷ rs) (suc d) x low = parts_mapped rs d x (omega arith)

pub as_many_steps : (k : PlanRun) → length (run_of k).steps ≡ length (steps_in k)
as_many_steps k = length-map k.steps.items run_step ∙ sym (length-map k.steps.items (λ (r : RunStep). r.step.now))

pub step_below : (k : PlanRun) (d n : ℕ) → n ≡ length k.steps.items → d < n → d < length (run_of k).steps
step_below k d n is low = omega (arith, low, is, length-map k.steps.items run_step)

module _ (k : PlanRun) (d : ℕ) (low : d < length (steps_in k)) where
  pub step_is : (x s : code.Step) (a : Action) → get_or (steps_in k) d x ≡ s → a ≡ action_of (step_at (run_of k) d) → step_at (run_of k) d ≡ step_by a (step_of s)
  step_is x s a is does =
      parts_mapped k.steps.items d x (omega (arith, low, length-map k.steps.items (λ (r : RunStep). r.step.now)))
      ∙ ap (λ z. step_by (action_of (step_at (run_of k) d)) (step_of z)) is ∙ ap (λ (b : Action). step_by b (step_of s)) (sym does)

  pub low_step : d < length (run_of k).steps
  low_step = omega (arith, low, as_many_steps k)

-- a test is looked at at its one place only
pub tested_past : (place : ℕ) (b p : Bool) → place ≢ 0 → tested place b ≡ tested place p
tested_past zero b p other = absurd (other refl)
tested_past (suc place) b p other = refl

module _ (c : Run) (run : IsRun c) (d : ℕ) (low : d < length c.steps) (old : Assignment) (held : IsHeld c old (known c d)) where
  abbrev k : Known
  k = known c d

  abbrev a : Partial
  a = before c old d

  pub fit : (s : Step) → step_at c d ≡ s → runs_step c.graph.catalog c.typed s k ≡ true
  fit s is = ap (λ t. runs_step c.graph.catalog c.typed t k) (sym is) ∙ fits_at c run d low

  pub sized : IsSized c.typed old
  sized = record { nodes = held.node_count; rels = held.rel_count }

  -- ---- scans

  pub scan_low : (v : ℕ) → step_at c d ≡ Scan v → v < length c.typed.nodes
  scan_low v is = (scan_parts c run old k held a v 0 (fit (Scan v) is)).0

  pub scan_tried : (v place : ℕ) (new : Assignment) (told : Tried) → step_at c d ≡ Scan v → IsScanned c.graph c.typed v place old new told → IsTried c d place old new told
  scan_tried v place new Past is h = is_past c d (Scan v) is place old new h.0 (scan_makes_none c run old k held a v place (fit (Scan v) is) (built_at c d) h.1)
  scan_tried v place new Missed is h = absurd h
  scan_tried v place new Made is h =
      is_made c d (Scan v) is place old new
      (subst (λ row. Makes c (built_at c d) (Scan v) k a place old row) (sym h.0) (scan_makes c run old k held a v place (fit (Scan v) is) (built_at c d) h.1)) h.2

  pub scan_count : (v : ℕ) → step_at c d ≡ Scan v → length (tries c.graph c.typed (built_at c d) (step_at c d) a) ≡ row_count c.graph.nodes (node_table c.typed v)
  scan_count v is =
      ap (λ s. length (tries c.graph c.typed (built_at c d) s a)) is
      ∙ ap length (scans c.graph c.typed v (scan_low v is) a (built_at c d))
      ∙ length-map (range_with_len 0 (row_count c.graph.nodes (node_table c.typed v))) (lists c.graph c.typed v (scan_low v is) a)
      ∙ length-range_with_len 0 (row_count c.graph.nodes (node_table c.typed v))

  -- ---- relationships

  rels_count : (x from to : ℕ) (way : Direction) (f : Follows c x from to way) → look a.nodes from ≡ Some (node_at c.typed old from)
      → length (rels_from c.graph c.typed x way (look a.nodes from)) ≡ length (neighbours c.graph (rel_table c.typed x) way (slice_index old.nodes from))
  rels_count x from to way f looked =
      ap length (met_is c run x from to way f old a looked)
      ∙ length-map (numbers c.graph (rel_table c.typed x) way (slice_index old.nodes from)) (rel (rel_table c.typed x))
      ∙ as_many c.graph (rel_table c.typed x) f.table f.table_is way (slice_index old.nodes from)

  pub found : (v : ℕ) → k.nodes v ≡ true → look a.nodes v ≡ Some (node_at c.typed old v)
  found v known = (looks c run old d).nodes v ∙ ap (λ b. cond b (Some (node_at c.typed old v)) None) known

  abbrev at : ℕ → ℕ → ℕ → Direction → Follow
  at x from to way = record { rel = x; from = from; to = to; direction = way }

  can : (x from to : ℕ) (way : Direction) → Follows c x from to way → k.nodes from ≡ true → CanFollow c.graph c.typed old (at x from to way)
  can x from to way f known = record {
    sized = sized;
    rel = slice_get_within c.typed.rels x _ f.rel_is;
    from = slice_get_within c.typed.nodes from _ f.near;
    to = slice_get_within c.typed.nodes to _ f.far;
    table = slice_get_within c.graph.catalog.rels _ _ f.table_is;
    row = rw (near_rows_are c run x from to way f) (held.rows from known);
  }

  -- a step that binds a node variable

  module _ (column : Bool) (x from to : ℕ) (way : Direction) (is : step_at c d ≡ Extend column x from to way) where
    pub extend_goes : holds (goes c.graph.catalog column from to way) (slice_get c.typed.rels x) ≡ true
    unfolding fits_step
    extend_goes = (and_parts _ _ (fit (Extend column x from to way) is)).0

    pub extend_parts : (k.rels x ≡ false) × (k.nodes from ≡ true) × (k.nodes to ≡ false)
    unfolding fits_step
    extend_parts =
        let more = and_parts _ _ (and_parts _ _ (fit (Extend column x from to way) is)).1 in
        let ends = and_parts _ _ more.1 in
        (not_true _ more.0, ends.0, not_true _ (and_parts _ _ ends.1).1)

    abbrev extends : Follows c x from to way
    extends = follows c run column x from to way extend_goes

    pub extend_can : CanFollow c.graph c.typed old (at x from to way)
    extend_can = can x from to way extends extend_parts.1

    pub extend_count : length (tries c.graph c.typed (built_at c d) (step_at c d) a) ≡ length (neighbours c.graph (rel_table c.typed x) way (slice_index old.nodes from))
    unfolding tries
    extend_count =
        ap (λ s. length (tries c.graph c.typed (built_at c d) s a)) is
        ∙ length-map (rels_from c.graph c.typed x way (look a.nodes from)) (λ r. arrive to (far c.graph way r) (with_rel x r a))
        ∙ rels_count x from to way extends (found from extend_parts.1)

    pub extend_tried : (place : ℕ) (new : Assignment) (told : Tried) → IsExtended c.graph c.typed (at x from to way) place old new told → IsTried c d place old new told
    extend_tried place new Past h =
        is_past c d (Extend column x from to way) is place old new h.0
        (extend_past c run x from to way extends old a (found from extend_parts.1) (built_at c d) column place h.1)
    extend_tried place new Missed h = absurd h
    extend_tried place new Made h =
        is_made c d (Extend column x from to way) is place old new
        (subst (λ row. Makes c (built_at c d) (Extend column x from to way) k a place old row) (sym h.2)
        (extend_makes c run x from to way extends old a (found from extend_parts.1) (built_at c d) column k held extend_parts.0 extend_parts.2 place h.0 h.1)) h.1.few

  -- a step between bound node variables

  module _ (column : Bool) (x from to : ℕ) (way : Direction) (is : step_at c d ≡ Close column x from to way) where
    pub close_goes : holds (goes c.graph.catalog column from to way) (slice_get c.typed.rels x) ≡ true
    unfolding fits_step
    close_goes = (and_parts _ _ (fit (Close column x from to way) is)).0

    pub close_parts : (k.rels x ≡ false) × (k.nodes from ≡ true) × (k.nodes to ≡ true)
    unfolding fits_step
    close_parts =
        let more = and_parts _ _ (and_parts _ _ (fit (Close column x from to way) is)).1 in
        let ends = and_parts _ _ more.1 in
        (not_true _ more.0, ends.0, ends.1)

    abbrev closes : Follows c x from to way
    closes = follows c run column x from to way close_goes

    pub close_can : CanFollow c.graph c.typed old (at x from to way)
    close_can = can x from to way closes close_parts.1

    pub close_count : length (tries c.graph c.typed (built_at c d) (step_at c d) a) ≡ length (neighbours c.graph (rel_table c.typed x) way (slice_index old.nodes from))
    unfolding tries
    close_count =
        ap (λ s. length (tries c.graph c.typed (built_at c d) s a)) is
        ∙ length-map (rels_from c.graph c.typed x way (look a.nodes from)) (λ r. keep_if (at_same (look a.nodes to) (far c.graph way r)) (with_rel x r a))
        ∙ rels_count x from to way closes (found from close_parts.1)

    pub close_tried : (place : ℕ) (new : Assignment) (told : Tried) → IsClosed c.graph c.typed (at x from to way) place old new told → IsTried c d place old new told
    close_tried place new Past h =
        is_past c d (Close column x from to way) is place old new h.0
        (close_past c run x from to way closes old a (found from close_parts.1) (built_at c d) column place h.1)
    close_tried place new Missed h =
        is_missed c d (Close column x from to way) is place old new h.3
        (close_misses c run x from to way closes old a (found from close_parts.1) (found to close_parts.2) (built_at c d) column place h.0 h.1 h.2) h.1.few
    close_tried place new Made h =
        is_made c d (Close column x from to way) is place old new
        (subst (λ row. Makes c (built_at c d) (Close column x from to way) k a place old row) (sym h.3)
        (close_makes c run x from to way closes old a (found from close_parts.1) (found to close_parts.2) (built_at c d) column k held close_parts.0 place h.0 h.1 h.2)) h.1.few

  -- the halves of a step between bound node variables

  module _ (x from to : ℕ) (way : Direction) (is : step_at c d ≡ Single x from to way) where
    pub single_goes : holds (goes c.graph.catalog true from to way) (slice_get c.typed.rels x) ≡ true
    single_goes = (and_parts _ _ (fit (Single x from to way) is)).0

    single_parts : (k.rels x ≡ false) × (k.nodes from ≡ true)
    single_parts =
        let more = and_parts _ _ (and_parts _ _ (fit (Single x from to way) is)).1 in
        (not_true _ more.0, more.1)

    abbrev takes : Follows c x from to way
    takes = follows c run true x from to way single_goes

    pub single_can : CanFollow c.graph c.typed old (at x from to way)
    single_can = can x from to way takes single_parts.1

    pub single_tried : (place : ℕ) (new : Assignment) (told : Tried) → IsTaken c.graph c.typed (at x from to way) place old new told → IsTried c d place old new told
    single_tried place new Past h =
        is_past c d (Single x from to way) is place old new h.0
        (single_past c run x from to way takes old a (found from single_parts.1) (built_at c d) place h.1)
    single_tried place new Missed h = absurd h
    single_tried place new Made h =
        is_made c d (Single x from to way) is place old new
        (subst (λ row. Makes c (built_at c d) (Single x from to way) k a place old row) (sym h.2)
        (single_makes c run x from to way takes old a (found from single_parts.1) (built_at c d) k held single_parts.0 place h.0 h.1)) h.1.few

    pub single_count : length (tries c.graph c.typed (built_at c d) (step_at c d) a) ≡ length (neighbours c.graph (rel_table c.typed x) way (slice_index old.nodes from))
    unfolding tries
    single_count =
        ap (λ s. length (tries c.graph c.typed (built_at c d) s a)) is
        ∙ length-map (rels_from c.graph c.typed x way (look a.nodes from)) (λ r. with_rel x r a ∷ [])
        ∙ rels_count x from to way takes (found from single_parts.1)

  module _ (x from to : ℕ) (way : Direction) (is : step_at c d ≡ Meet x from to way) where
    pub meet_goes : holds (goes c.graph.catalog true from to way) (slice_get c.typed.rels x) ≡ true
    meet_goes = (and_parts _ _ (fit (Meet x from to way) is)).0

    meet_parts : (k.nodes from ≡ true) × (k.nodes to ≡ true)
    meet_parts = and_parts _ _ (and_parts _ _ (fit (Meet x from to way) is)).1

    abbrev meets : Follows c x from to way
    meets = follows c run true x from to way meet_goes

    pub meet_can : CanFollow c.graph c.typed old (at x from to way)
    meet_can = can x from to way meets meet_parts.0

    few : length (rels_from c.graph c.typed x way (look a.nodes from)) ≤ 1
    few = from_small c.graph c.typed run.valid x from to way meet_goes (look a.nodes from)

    told_is : (met : Bool) → IsMet c.graph c.typed (at x from to way) old met → list_any (λ r. at_same (look a.nodes to) (far c.graph way r)) (rels_from c.graph c.typed x way (look a.nodes from)) ≡ met
    told_is met (inl n) = meets_none c run x from to way meets old a (found from meet_parts.0) (found to meet_parts.1) few n.0 ∙ sym n.1
    told_is met (inr h) = meets_one c run x from to way meets old a (found from meet_parts.0) (found to meet_parts.1) few h.0 h.1 ∙ sym h.2

    pub meet_tried : (place : ℕ) (met : Bool) → IsMet c.graph c.typed (at x from to way) old met → IsTried c d place old old (tested place met)
    unfolding tries step after_step
    meet_tried place met h = test_tried c d (Meet x from to way) is old held met refl refl (ap (λ b. keep_if b a ∷ []) (told_is met h)) place

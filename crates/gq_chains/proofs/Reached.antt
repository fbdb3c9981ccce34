-- The steps of a chain make something of a place with load numbers that nobody looked for.
use Rattle.std.proofs.Common.{◌≡◌, ◌≢◌, inl, inr, ℕ, suc, ◌+◌, ◌<◌, ◌≤◌, Bool, true, false, Option, Some, None, List, length, refl, sym, ap, ◌∙◌, subst, arith}
use Rattle.std.specs.Prelude.{IfSome, slice_get, slice_index}
use Rattle.gq_base.specs.Valid.{row_count}
use Rattle.gq_plan.specs.Plans.{Step, Scan, Extend, Close, Join, Keep, Differ, NoLoop, Single, Meet}
use Rattle.gq_plan.specs.Rows.{node_table, rel_table}
use Rattle.gq_plan.specs.declared.assignment.Assignment.{Assignment}
use Rattle.gq_chains.specs.steps.Ends.{HasEnds, HaveEnds, ends_differ}
use Rattle.gq_steps.specs.Tests.{GoesOn, IsEndsTest, IsRowTest, follow_of, pair_of, test_of}
use Rattle.gq_chains.specs.steps.Chains.{Begins, BeginsBy, CanBegin, HasBegun, ScansNone, ScansRow}
use Rattle.gq_chains.specs.declared.chain.Beginning.{Beginning}
use Rattle.gq_chains.specs.declared.chain.Beginning.TheVariants as begin
use Rattle.gq_chains.specs.steps.Judged.{IsJudged}
use Rattle.gq_chains.specs.steps.Extends.{Extends}
use Rattle.gq_chains.proofs.Ended.{ends_same, ends_there}
use Rattle.gq_chains.proofs.Extending.{extend_of, extends_as}
use Rattle.gq_chains.proofs.Acted.{differ_of, extends_by, keep_of}
use Rattle.gq_chains.proofs.Sifting.{judged}
use Rattle.gq_steps.specs.Follows.{CanFollow}
use Rattle.gq_steps.specs.Keeps.{IsRange, IsTriedAt}
use Rattle.gq_steps.specs.Actions.{action_of}
use Rattle.gq_steps.specs.Levels.{Run, known, step_at}
use Rattle.gq_steps.specs.Moves.{IsHeld, IsMade, IsMissed, IsRun, IsTried, run_of}
use Rattle.gq_steps.specs.Reaching.{Reaches, ReachesNone, ReachesRow}
use Rattle.gq_steps.specs.declared.follow.Hop.{Hop}
use Rattle.gq_steps.specs.declared.action.Action.{Action}
use Rattle.gq_steps.specs.declared.action.Action.TheVariants as act
use Rattle.gq_steps.specs.declared.group_steps.GroupSteps.{GroupSteps}
use Rattle.gq_plan.specs.declared.follow.Follow.{Follow}
use Rattle.gq_steps.specs.declared.plan_run.PlanRun.{PlanRun}
use Rattle.gq_steps.specs.declared.plan_run.Tried.TheVariants.{Made, Past}
use Rattle.gq_steps.specs.steps.Hops.{IsHop}
use Rattle.gq_steps.specs.steps.Outcomes.{passes_at, tested, with_number, with_row}
use Rattle.gq_steps.proofs.Acting.{acts}
use Rattle.gq_steps.proofs.Going.{IsGoing, begins, ends, made_first, made_next, missed_next, past_first, past_next}
use Rattle.gq_steps.proofs.Hopping.{hop_there}
use Rattle.gq_steps.proofs.Stepping.{follows}
use Rattle.gq_steps.proofs.Testing.{differ_tried, keep_tried}
use Rattle.gq_steps.proofs.Trying.{extend_can, extend_goes, extend_tried, scan_low, scan_tried}

-- what follows a relationship is no test
pub follows_none : (s : Step) (f : Follow) (i : ℕ) → follow_of s ≡ Some f → test_of s ≡ Some i → ⊥
follows_none (Keep j) f i follow is = cc follow
follows_none (Scan v) f i follow is = cc follow
follows_none (Extend column x from to way) f i follow is = cc is
follows_none (Close column x from to way) f i follow is = cc follow
follows_none (Join side keys) f i follow is = cc follow
follows_none (Differ p) f i follow is = cc follow
follows_none (NoLoop x) f i follow is = cc follow
follows_none (Single x from to way) f i follow is = cc follow
follows_none (Meet x from to way) f i follow is = cc follow

-- nor a pair, and a test is none
pub follows_no_pair : (s : Step) (f : Follow) (p : ℕ) → follow_of s ≡ Some f → pair_of s ≡ Some p → ⊥
follows_no_pair s f p follow is = let e = extend_of s f follow in let none : pair_of s ≡ None = ap pair_of e.1 in cc (none, is)

pub tests_no_pair : (s : Step) (i p : ℕ) → test_of s ≡ Some i → pair_of s ≡ Some p → ⊥
tests_no_pair s i p test is = let none : pair_of s ≡ None = ap pair_of (keep_of s i test) in cc (none, is)

-- a step that does another thing follows none so
pub no_follow : (s : Step) → ((f : Follow) → action_of s ≡ act.List f → ⊥) → ((f : Follow) → action_of s ≡ act.Column f → ⊥) → follow_of s ≡ None
no_follow s list column = go (follow_of s) refl
  where
    by_column : (f : Follow) (b : Bool) → s ≡ Extend b f.rel f.from f.to f.direction → ⊥
    by_column f false is = list f (ap action_of is)
    by_column f true is = column f (ap action_of is)

    go : (o : Option Follow) → follow_of s ≡ o → follow_of s ≡ None
    go None is = is
    go (Some f) is = let e = extend_of s f is in absurd (by_column f e.0 e.1)

-- a chain begins so, where it is told what the step does
pub begins_by : (k : PlanRun) (d : ℕ) (a : Action) (b : Beginning) → a ≡ action_of (step_at (run_of k) d) → BeginsBy a b → Begins (run_of k) d b
begins_by k d a (begin.Rows v) is by = acts k d a (act.Scan v) is by
begins_by k d a (begin.List f) is by = extends_by k d a f is by

-- an assignment with other load numbers
abbrev pub numbered : List ℕ → Assignment → Assignment
numbered rels row = record { nodes = row.nodes; rels = rels }

-- a relationship that is followed to a row has a load number
abbrev hop_of : Run → Follow → ℕ → Assignment → ℕ → Type 0
hop_of c f place row r = (n : ℕ) × IsHop c.graph (rel_table c.typed f.rel) f.direction (slice_index row.nodes f.from) place (record { number = n; row = r })

-- with some load numbers the steps before one make something of the place
pub record IsReached (c : Run) (group : GroupSteps) (place : ℕ) (old : Assignment) (d : ℕ) (row : Assignment) : Type 0 where
  pub rels : List ℕ
  pub going : IsGoing c group place old d (numbered rels row)
  pub same : row.rels ≡ old.rels

module _ (c : Run) (run : IsRun c) (group : GroupSteps) (range : IsRange c group) (place : ℕ) (old : Assignment) (held : IsHeld c old (known c group.first)) where
  first_low : group.first < length c.steps
  first_low = let some = range.some in let inside = range.inside in omega arith

  -- the load number of a relationship that the step at a depth follows
  found : (d : ℕ) → d < length c.steps → (row : Assignment) → IsHeld c row (known c d) → (f : Follow) → Extends c d f → (at : ℕ) (new : Assignment) → (r : ReachesRow c.graph c.typed f at row new) → hop_of c f at row r.row
  found d low row row_held f ext at new r =
      let follow = follows c run ext.0 f.rel f.from f.to f.direction (extend_goes c run d low row row_held ext.0 f.rel f.from f.to f.direction ext.1) in
      hop_there c.graph (rel_table c.typed f.rel) follow.table follow.table_is f.direction (slice_index row.nodes f.from) at r.row r.leads r.inside r.few

  abbrev Reached : ℕ → Assignment → Type 0
  Reached d row = IsReached c group place old d row

  next_first : suc group.first ≡ group.first + 1
  next_first = omega arith

  -- what was told where the load numbers were others
  told_of : (told : Bool) (exact row : Assignment) → exact.nodes ≡ row.nodes → row.rels ≡ old.rels → IsTriedAt c group place old told exact → IsJudged c group place old told row
  told_of told exact row nodes rels t =
      let j = judged c group place old told exact t in
      record {
        held = record {
          node_count = ap length (sym nodes) ∙ j.held.node_count;
          rel_count = ap length rels ∙ held.rel_count;
          nodes = j.held.nodes;
          rels = j.held.rels;
          rows = λ v known. subst (λ (ns : List ℕ). slice_index ns v < row_count c.graph.nodes (node_table c.typed v)) nodes (j.held.rows v known);
        };
        alike = record {
          nodes = λ v known. ap (λ (ns : List ℕ). slice_index ns v) (sym nodes) ∙ j.alike.nodes v known;
          rels = λ x known. ap (λ (ns : List ℕ). slice_index ns x) rels;
        };
        answer = j.answer;
      }

  -- ---- the step with which the chain begins

  pub list_reached : (f : Follow) → Extends c group.first f → (new : Assignment) → ReachesRow c.graph c.typed f place old new → Reached (group.first + 1) new
  list_reached f ext new r =
      let hop = found group.first first_low old held f ext place new r in
      let h : Hop = record { number = hop.0; row = r.row } in
      let exact : Assignment = with_number f.rel hop.0 (with_row f.to r.row old) in
      let made = extend_tried c run group.first first_low old held ext.0 f.rel f.from f.to f.direction ext.1 place exact Made (h, hop.1, refl) in
      let going : IsGoing c group place old (group.first + 1) exact = subst (λ d. IsGoing c group place old d exact) next_first (made_first c group range place old group.first old exact (begins c group range place old held) refl made) in
      record {
        rels = exact.rels;
        going = subst (λ (a : Assignment). IsGoing c group place old (group.first + 1) (numbered exact.rels a)) (sym r.written) going;
        same = ap (λ (a : Assignment). a.rels) r.written;
      }

  pub list_past : (f : Follow) → Extends c group.first f → (new : Assignment) → ReachesNone c.graph c.typed f place old new → IsJudged c group place old false new
  list_past f ext new r =
      judged c group place old false new
      (past_first c group range place old group.first old new (begins c group range place old held) refl
      (extend_tried c run group.first first_low old held ext.0 f.rel f.from f.to f.direction ext.1 place new Past (r.same, r.past)))

  pub scan_reached : (v : ℕ) → step_at c group.first ≡ Scan v → (new : Assignment) → ScansRow c v place old new → Reached (group.first + 1) new
  scan_reached v is new r =
      let made = scan_tried c run group.first first_low old held v place new Made is (r.written, r.low, r.few) in
      record {
        rels = new.rels;
        going = subst (λ d. IsGoing c group place old d new) next_first (made_first c group range place old group.first old new (begins c group range place old held) refl made);
        same = ap (λ (a : Assignment). a.rels) r.written;
      }

  pub scan_past : (v : ℕ) → step_at c group.first ≡ Scan v → (new : Assignment) → ScansNone c v place old new → IsJudged c group place old false new
  scan_past v is new r =
      judged c group place old false new
      (past_first c group range place old group.first old new (begins c group range place old held) refl (scan_tried c run group.first first_low old held v place new Past is (r.same, r.past)))

  pub can_begin : (b : Beginning) → Begins c group.first b → CanBegin c old b
  can_begin (begin.Rows v) is = record { node = scan_low c run group.first first_low old held v is; count = held.node_count }
  can_begin (begin.List f) ext = extend_can c run group.first first_low old held ext.0 f.rel f.from f.to f.direction ext.1

  pub begun : (b : Beginning) → Begins c group.first b → (told : Bool) (new : Assignment) → HasBegun c b place old told new → told ≡ true → Reached (group.first + 1) new
  begun (begin.Rows v) is told new has e = scan_reached v is new (subst (λ t. HasBegun c (begin.Rows v) place old t new) e has)
  begun (begin.List f) ext told new has e = list_reached f ext new (subst (λ t. HasBegun c (begin.List f) place old t new) e has)

  pub not_begun : (b : Beginning) → Begins c group.first b → (told : Bool) (new : Assignment) → HasBegun c b place old told new → told ≡ false → IsJudged c group place old false new
  not_begun (begin.Rows v) is told new has e = scan_past v is new (subst (λ t. HasBegun c (begin.Rows v) place old t new) e has)
  not_begun (begin.List f) ext told new has e = list_past f ext new (subst (λ t. HasBegun c (begin.List f) place old t new) e has)

  -- ---- the others

  module _ (d : ℕ) (row : Assignment) (r : Reached d row) (above : group.first < d) (below : d < group.end) where
    abbrev exact : Assignment
    exact = numbered r.rels row

    low : d < length c.steps
    low = let inside = range.inside in omega arith

    far : d ≢ group.first
    far = λ e. omega (arith, e, above)

    next : suc d ≡ d + 1
    next = omega arith

    pub can_reach : (f : Follow) → Extends c d f → CanFollow c.graph c.typed row f
    can_reach f ext =
        let can : CanFollow c.graph c.typed exact f = extend_can c run d low exact r.going.held ext.0 f.rel f.from f.to f.direction ext.1 in
        record {
          sized = record { nodes = can.sized.nodes; rels = ap length r.same ∙ held.rel_count };
          rel = can.rel;
          from = can.from;
          to = can.to;
          table = can.table;
          row = can.row;
        }

    pub column_reached : (f : Follow) → Extends c d f → (new : Assignment) → ReachesRow c.graph c.typed f 0 row new → Reached (d + 1) new
    column_reached f ext new reach =
        let hop = found d low exact r.going.held f ext 0 _ (record { row = reach.row; leads = reach.leads; inside = reach.inside; few = reach.few; written = refl }) in
        let h : Hop = record { number = hop.0; row = reach.row } in
        let made_row : Assignment = with_number f.rel hop.0 (with_row f.to reach.row exact) in
        let made = extend_tried c run d low exact r.going.held ext.0 f.rel f.from f.to f.direction ext.1 0 made_row Made (h, hop.1, refl) in
        let going : IsGoing c group place old (d + 1) made_row = subst (λ n. IsGoing c group place old n made_row) next (made_next c group range place old d exact made_row r.going far below made) in
        record {
          rels = made_row.rels;
          going = subst (λ (a : Assignment). IsGoing c group place old (d + 1) (numbered made_row.rels a)) (sym reach.written) going;
          same = ap (λ (a : Assignment). a.rels) reach.written ∙ r.same;
        }

    pub column_past : (f : Follow) → Extends c d f → (new : Assignment) → ReachesNone c.graph c.typed f 0 row new → IsJudged c group place old false new
    column_past f ext new reach =
        told_of false exact new (sym (ap (λ (a : Assignment). a.nodes) reach.same)) (ap (λ (a : Assignment). a.rels) reach.same ∙ r.same)
        (past_next c group range place old d exact exact r.going far below (extend_tried c run d low exact r.going.held ext.0 f.rel f.from f.to f.direction ext.1 0 exact Past (refl, reach.past)))

    -- a test that rows alone decide
    tested_as : (test : IsRowTest c d) (told : Bool) → told ≡ passes_at c.graph c.typed row test.test → IsTried c d 0 exact exact (tested 0 told)
    tested_as test told is =
        let same : passes_at c.graph c.typed exact test.test ≡ told = test.reads exact row refl ∙ sym is in
        subst (λ b. IsTried c d 0 exact exact (tested 0 b)) same (keep_tried c run d low exact r.going.held test.test (keep_of (step_at c d) test.test test.is) 0)

    pub test_kept : (test : IsRowTest c d) → true ≡ passes_at c.graph c.typed row test.test → (new : Assignment) → new ≡ row → Reached (d + 1) new
    test_kept test is new same =
        let made : IsMade c d 0 exact exact = tested_as test true is in
        subst (Reached (d + 1)) (sym same) (record {
          rels = r.rels;
          going = subst (λ n. IsGoing c group place old n exact) next (made_next c group range place old d exact exact r.going far below made);
          same = r.same;
        })

    pub test_missed : (test : IsRowTest c d) → false ≡ passes_at c.graph c.typed row test.test → (new : Assignment) → new ≡ row → IsJudged c group place old false new
    test_missed test is new same =
        let missed : IsMissed c d 0 exact exact = tested_as test false is in
        told_of false exact new (sym (ap (λ (a : Assignment). a.nodes) same)) (ap (λ (a : Assignment). a.rels) same ∙ r.same) (missed_next c group range place old d exact exact r.going far below missed)

    -- a pair of relationships whose ends decide whether they differ
    apart_as : (test : IsEndsTest c group.first d) (told : Bool) → told ≡ ends_differ c.typed row test.number → IsTried c d 0 exact exact (tested 0 told)
    apart_as test told is =
        subst (λ b. IsTried c d 0 exact exact (tested 0 b)) (ends_same c run exact group.first d low r.going.held r.going.others_made test ∙ sym is)
        (differ_tried c run d low exact r.going.held test.number (differ_of (step_at c d) test.number test.is) 0)

    pub apart_kept : (test : IsEndsTest c group.first d) → true ≡ ends_differ c.typed row test.number → (new : Assignment) → new ≡ row → Reached (d + 1) new
    apart_kept test is new same =
        let made : IsMade c d 0 exact exact = apart_as test true is in
        subst (Reached (d + 1)) (sym same) (record {
          rels = r.rels;
          going = subst (λ n. IsGoing c group place old n exact) next (made_next c group range place old d exact exact r.going far below made);
          same = r.same;
        })

    pub apart_missed : (test : IsEndsTest c group.first d) → false ≡ ends_differ c.typed row test.number → (new : Assignment) → new ≡ row → IsJudged c group place old false new
    apart_missed test is new same =
        let missed : IsMissed c d 0 exact exact = apart_as test false is in
        told_of false exact new (sym (ap (λ (a : Assignment). a.nodes) same)) (ap (λ (a : Assignment). a.rels) same ∙ r.same) (missed_next c group range place old d exact exact r.going far below missed)

    -- load numbers have no part in it
    as_held : (x : ℕ) → HasEnds c.typed exact x → HasEnds c.typed row x
    as_held x h = record { rel = h.rel; source = h.source; target = h.target }

    pub apart_there : GoesOn c group.first d → (p : ℕ) → pair_of (step_at c d) ≡ Some p → IfSome (slice_get c.typed.pairs p) (HaveEnds c.typed row)
    apart_there (inl f) p is = absurd (follows_no_pair (step_at c d) f.0 p f.1 is)
    apart_there (inr (inl test)) p is = absurd (tests_no_pair (step_at c d) test.test p test.is is)
    apart_there (inr (inr test)) p is =
        let same : test.number ≡ p = cc (test.is, is) in
        subst (λ n. IfSome (slice_get c.typed.pairs n) (HaveEnds c.typed row)) same
        (subst (λ o. IfSome o (HaveEnds c.typed row)) (sym test.there) (let both = ends_there c run exact group.first d low r.going.held r.going.others_made test in record { one = as_held test.pair.first both.one; other = as_held test.pair.second both.other }))

    -- what a step of a chain says, by its kind
    abbrev Follows : Bool → Assignment → Type 0
    Follows told new = (f : Follow) → follow_of (step_at c d) ≡ Some f → Reaches c.graph c.typed f 0 row told new

    abbrev Tests : Bool → Assignment → Type 0
    Tests told new = (i : ℕ) → test_of (step_at c d) ≡ Some i → (new ≡ row) × (told ≡ passes_at c.graph c.typed row i)

    abbrev Pairs : Bool → Assignment → Type 0
    Pairs told new = (p : ℕ) → pair_of (step_at c d) ≡ Some p → (new ≡ row) × (told ≡ ends_differ c.typed row p)

    pub gone_on : GoesOn c group.first d → (told : Bool) (new : Assignment) → Follows told new → Tests told new → Pairs told new → told ≡ true → Reached (d + 1) new
    gone_on (inl f) told new follows tests pairs e = column_reached f.0 (extends_as c d f.0 f.1) new (subst (λ t. Reaches c.graph c.typed f.0 0 row t new) e (follows f.0 f.1))
    gone_on (inr (inl test)) told new follows tests pairs e = let t = tests test.test test.is in test_kept test (sym e ∙ t.1) new t.0
    gone_on (inr (inr test)) told new follows tests pairs e = let t = pairs test.number test.is in apart_kept test (sym e ∙ t.1) new t.0

    pub not_gone : GoesOn c group.first d → (told : Bool) (new : Assignment) → Follows told new → Tests told new → Pairs told new → told ≡ false → IsJudged c group place old false new
    not_gone (inl f) told new follows tests pairs e = column_past f.0 (extends_as c d f.0 f.1) new (subst (λ t. Reaches c.graph c.typed f.0 0 row t new) e (follows f.0 f.1))
    not_gone (inr (inl test)) told new follows tests pairs e = let t = tests test.test test.is in test_missed test (sym e ∙ t.1) new t.0
    not_gone (inr (inr test)) told new follows tests pairs e = let t = pairs test.number test.is in apart_missed test (sym e ∙ t.1) new t.0

  pub all_reached : (d : ℕ) (row : Assignment) → Reached d row → group.end ≤ d → IsJudged c group place old true row
  all_reached d row r high = told_of true (numbered r.rels row) row refl r.same (ends c group range place old (numbered r.rels row) d r.going high)

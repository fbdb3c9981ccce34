-- A group that makes something of a place makes it with the load number there, where rows or that number alone decide its tests.
use Rattle.std.proofs.Common.{◌≡◌, ◌≢◌, inr, ℕ, suc, ◌+◌, ◌^◌, ◌<◌, ◌≤◌, ◌==◌, Bool, true, false, not, Option, Some, None, length, refl, sym, ap, ◌∙◌, subst, arith}
use Rattle.std.proofs.lemmas.Bool.{true≢false}
use Rattle.std.specs.Prelude.{slice_get, slice_index}
use Rattle.gq_base.specs.Directions.{opposite}
use Rattle.gq_plan.specs.Conditions.{differs}
use Rattle.gq_plan.specs.Meaning.{holds}
use Rattle.gq_plan.specs.Plans.{Step, Scan, Extend, Close, Join, Keep, Differ, NoLoop, Single, Meet}
use Rattle.gq_plan.specs.Rows.{as_read, rel_table}
use Rattle.gq_plan.specs.declared.assignment.Assignment.{Assignment}
use Rattle.gq_store.specs.Neighbours.{near_rows, neighbours, numbers}
use Rattle.gq_steps.specs.Tests.{IsLoopTest, IsPairTest, IsRowTest, loop_of, other_of}
use Rattle.gq_steps.specs.Keeps.{IsRange, IsTriedAt}
use Rattle.gq_steps.specs.Actions.{action_of}
use Rattle.gq_steps.specs.Levels.{Run, step_at, known}
use Rattle.gq_steps.specs.Moves.{IsRun, IsHeld, IsTried}
use Rattle.gq_steps.specs.steps.Hops.{IsHop}
use Rattle.gq_steps.specs.steps.Outcomes.{differs_at, no_loop_at, passes_at, tested, with_number, with_row}
use Rattle.gq_steps.specs.Follows.{CanFollow}
use Rattle.gq_chains.specs.steps.Extends.{Extends}
use Rattle.gq_steps.specs.declared.follow.Hop.{Hop}
use Rattle.gq_steps.specs.declared.action.Action.TheVariants as act
use Rattle.gq_steps.specs.declared.group_steps.GroupSteps.{GroupSteps}
use Rattle.gq_plan.specs.declared.follow.Follow.{Follow}
use Rattle.gq_steps.specs.declared.plan_run.Tried.TheVariants.{Made}
use Rattle.gq_chains.proofs.Acted.{differ_of, keep_of}
use Rattle.gq_sift.proofs.Apart.{differs_by}
use Rattle.gq_steps.proofs.Going.{IsGoing, begins, ends, made_first, tried_made, tried_missed}
use Rattle.gq_steps.proofs.Hopping.{hop_there}
use Rattle.gq_steps.proofs.Stepping.{follows}
use Rattle.gq_steps.proofs.Testing.{differ_tried, keep_tried, no_loop_tried}
use Rattle.gq_steps.proofs.Trying.{extend_can, extend_goes, extend_parts, extend_tried}
use Rattle.gq_sift.proofs.Unlooped.{no_loop_by}

pub no_loop_of : (s : Step) (i : ℕ) → loop_of s ≡ Some i → s ≡ NoLoop i
no_loop_of (NoLoop j) i is = let same : j ≡ i = cc in ap NoLoop same
no_loop_of (Scan v) i is = cc
no_loop_of (Extend column x from to way) i is = cc
no_loop_of (Close column x from to way) i is = cc
no_loop_of (Join side keys) i is = cc
no_loop_of (Keep t) i is = cc
no_loop_of (Differ p) i is = cc
no_loop_of (Single x from to way) i is = cc
no_loop_of (Meet x from to way) i is = cc

-- a step that does another thing asks for none
pub no_loop : (s : Step) → ((i : ℕ) → action_of s ≡ act.NoLoop i → ⊥) → loop_of s ≡ None
no_loop s none = go (loop_of s) refl
  where
    go : (o : Option ℕ) → loop_of s ≡ o → loop_of s ≡ None
    go None is = is
    go (Some i) is = absurd (none i (ap action_of (no_loop_of s i is)))

-- with the load number of the relationship at a place, the steps of a group up to one make something of it
pub record IsGoingBy (c : Run) (group : GroupSteps) (place : ℕ) (old : Assignment) (f : Follow) (d : ℕ) (row : Assignment) : Type 0 where
  pub number : ℕ
  pub numbered : slice_get (numbers c.graph (rel_table c.typed f.rel) f.direction (slice_index old.nodes f.from)) place ≡ Some number
  pub going : IsGoing c group place old d (with_number f.rel number row)

module _ (c : Run) (run : IsRun c) (group : GroupSteps) (range : IsRange c group) (place : ℕ) (old : Assignment) (held : IsHeld c old (known c group.first)) (f : Follow) (ext : Extends c group.first f) where
  first_low : group.first < length c.steps
  first_low = let some = range.some in let inside = range.inside in omega arith

  pub can_follow : CanFollow c.graph c.typed old f
  can_follow = extend_can c run group.first first_low old held ext.0 f.rel f.from f.to f.direction ext.1

  new_rel : (known c group.first).rels f.rel ≡ false
  new_rel = (extend_parts c run group.first first_low old held ext.0 f.rel f.from f.to f.direction ext.1).0

  pub apart : f.from ≢ f.to
  apart e =
      let parts = extend_parts c run group.first first_low old held ext.0 f.rel f.from f.to f.direction ext.1 in
      true≢false (sym parts.1 ∙ ap (known c group.first).nodes e ∙ parts.2)

  pub hop_going : (h : Hop) → IsHop c.graph (rel_table c.typed f.rel) f.direction (slice_index old.nodes f.from) place h → IsGoingBy c group place old f (group.first + 1) (with_row f.to h.row old)
  hop_going h is =
      let exact : Assignment = with_number f.rel h.number (with_row f.to h.row old) in
      let made = extend_tried c run group.first first_low old held ext.0 f.rel f.from f.to f.direction ext.1 place exact Made (h, is, refl) in
      let next : suc group.first ≡ group.first + 1 = omega arith in
      record {
        number = h.number;
        numbered = is.number;
        going = subst (λ d. IsGoing c group place old d exact) next (made_first c group range place old group.first old exact (begins c group range place old held) refl made);
      }

  pub first_going : (r : ℕ) → slice_get (neighbours c.graph (rel_table c.typed f.rel) f.direction (slice_index old.nodes f.from)) place ≡ Some r
      → r < near_rows c.graph (rel_table c.typed f.rel) (opposite f.direction) → length (neighbours c.graph (rel_table c.typed f.rel) f.direction (slice_index old.nodes f.from)) < 2 ^ 32
      → IsGoingBy c group place old f (group.first + 1) (with_row f.to r old)
  first_going r at inside few =
      let follow = follows c run ext.0 f.rel f.from f.to f.direction (extend_goes c run group.first first_low old held ext.0 f.rel f.from f.to f.direction ext.1) in
      let hop = hop_there c.graph (rel_table c.typed f.rel) follow.table follow.table_is f.direction (slice_index old.nodes f.from) place r at inside few in
      hop_going (record { number = hop.0; row = r }) hop.1

  module _ (d : ℕ) (row : Assignment) (g : IsGoingBy c group place old f d row) (above : group.first < d) (below : d < group.end) where
    abbrev exact : Assignment
    exact = with_number f.rel g.number row

    low : d < length c.steps
    low = let inside = range.inside in omega arith

    -- a test that rows alone decide
    pub row_tried : (test : IsRowTest c d) (told : Bool) → passes_at c.graph c.typed row test.test ≡ told → IsTried c d 0 exact exact (tested 0 told)
    row_tried test told is =
        let same : passes_at c.graph c.typed exact test.test ≡ told = test.reads exact row refl ∙ is in
        subst (λ b. IsTried c d 0 exact exact (tested 0 b)) same (keep_tried c run d low exact g.going.held test.test (keep_of (step_at c d) test.test test.is) 0)

    -- a relationship that has to differ from another one
    pub pair_tried : (test : IsPairTest c d f.rel) (told : Bool) → not (g.number == slice_index row.rels (other_of f.rel test.pair)) ≡ told → IsTried c d 0 exact exact (tested 0 told)
    pair_tried test told is =
        let same : differs_at c.typed exact test.number ≡ told = ap (holds (differs (as_read c.typed exact))) test.there ∙ differs_by c.typed f.rel test.pair test.with row g.number g.going.held.rel_count can_follow.rel ∙ is in
        subst (λ b. IsTried c d 0 exact exact (tested 0 b)) same (differ_tried c run d low exact g.going.held test.number (differ_of (step_at c d) test.number test.is) 0)

    -- a relationship that has to be no loop
    pub loop_tried : (test : IsLoopTest c d f) (told : Bool) → not (slice_index row.nodes f.to == slice_index row.nodes f.from) ≡ told → IsTried c d 0 exact exact (tested 0 told)
    loop_tried test told is =
        let same : no_loop_at c.typed exact f.rel ≡ told = no_loop_by c.typed f test.within exact g.going.held.node_count can_follow.from can_follow.to ∙ is in
        subst (λ b. IsTried c d 0 exact exact (tested 0 b)) same (no_loop_tried c run d low exact g.going.held f.rel (no_loop_of (step_at c d) f.rel test.is) 0)

    far : d ≢ group.first
    far = λ e. omega (arith, e, above)

    pub next_going : IsTried c d 0 exact exact (tested 0 true) → IsGoingBy c group place old f (d + 1) row
    next_going tried =
        let next : suc d ≡ d + 1 = omega arith in
        record {
          number = g.number;
          numbered = g.numbered;
          going = subst (λ n. IsGoing c group place old n exact) next
              (tried_made c group range place old d 0 exact exact g.going below (λ e. absurd (far e)) (λ e. refl) (inr far) tried);
        }

    pub next_missed : IsTried c d 0 exact exact (tested 0 false) → IsTriedAt c group place old false exact
    next_missed tried = tried_missed c group range place old d 0 exact exact g.going below (λ e. absurd (far e)) (λ e. refl) (inr far) tried

  pub all_going : (d : ℕ) (row : Assignment) (g : IsGoingBy c group place old f d row) → group.end ≤ d → IsTriedAt c group place old true (with_number f.rel g.number row)
  all_going d row g high = ends c group range place old (with_number f.rel g.number row) d g.going high

-- Tests read rows and load numbers as they read the partial assignment.
use Rattle.std.proofs.Common.{◌≡◌, ℕ, zero, suc, ◌<◌, Bool, true, false, not, cond, Option, Some, None, List, [], ◌∷◌, length, drop, slice_get, refl, sym, ap, ap₂, ◌∙◌, arith}
use Rattle.std.specs.Prelude.{slice_index}
use Rattle.std.proofs.lemmas.Bool.{and_parts}
use Rattle.std.proofs.lemmas.Option.{slice_get-get_or}
use Rattle.gq_plan.specs.Allowed.{at_same}
use Rattle.gq_plan.specs.Conditions.{passes, differs, no_loop}
use Rattle.gq_plan.specs.Covers.{after_step, fits_step, test_bound, pair_bound, loop_bound}
use Rattle.gq_plan.specs.Halves.{runs_step}
use Rattle.gq_plan.specs.Known.{Known}
use Rattle.gq_plan.specs.Meaning.{Partial, look, row, holds, keep_if, step}
use Rattle.gq_plan.specs.Plans.{Step, Keep, Differ, NoLoop}
use Rattle.gq_plan.specs.declared.bound.NamedExpr.{NamedExpr}
use Rattle.gq_plan.specs.declared.typed.RelPair.{RelPair}
use Rattle.gq_plan.specs.declared.typed.TypedRel.{TypedRel}
use Rattle.gq_steps.specs.Levels.{Run, step_at, built_at, taken, known, before}
use Rattle.gq_steps.specs.Moves.{IsRun, IsHeld, IsTried}
use Rattle.gq_steps.specs.steps.Outcomes.{tested}
use Rattle.gq_plan.specs.Rows.{table_of, node_at, rel_at, as_read}
use Rattle.gq_plan.specs.steps.Rows.{node_in, rel_in}
use Rattle.gq_steps.specs.Tries.{tries}
use Rattle.gq_plan.specs.declared.assignment.Assignment.{Assignment}
use Rattle.gq_steps.proofs.Binding.{Looks, looks, fits_at}
use Rattle.gq_steps.proofs.Followed.{get_some}
use Rattle.gq_steps.proofs.Stepping.{is_made, is_missed, is_past}
use Rattle.gq_plan.proofs.Rows.{node_read, rel_read}
use Rattle.gq_plan.proofs.Values.{values_agree}

module _ (c : Run) (old : Assignment) (k : Known) (held : IsHeld c old k) (a : Partial) (h : Looks c.typed old k a) where
  pub read_node : (v : ℕ) → k.nodes v ≡ true → (as_read c.typed old).nodes v ≡ look a.nodes v
  read_node v known =
      let low : v < length c.typed.nodes = held.nodes v known in
      let many : length old.nodes ≡ length c.typed.nodes = held.node_count in
      node_read c.typed old v
      ∙ ap₂ node_in (slice_get-get_or c.typed.nodes v 0 low) (slice_get-get_or old.nodes v 0 (omega arith))
      ∙ sym (h.nodes v ∙ ap (λ b. cond b (Some (node_at c.typed old v)) None) known)

  pub read_rel : (x : ℕ) → k.rels x ≡ true → (as_read c.typed old).rels x ≡ look a.rels x
  read_rel x known =
      let low : x < length c.typed.rels = held.rels x known in
      let many : length old.rels ≡ length c.typed.rels = held.rel_count in
      let r = get_some c.typed.rels x low in
      rel_read c.typed old x
      ∙ ap₂ rel_in r.1 (slice_get-get_or old.rels x 0 (omega arith))
      ∙ ap (λ o. Some (record { table = table_of o; row = slice_index old.rels x })) (sym r.1)
      ∙ sym (h.rels x ∙ ap (λ b. cond b (Some (rel_at c.typed old x)) None) known)

  pub passes_same : (o : Option NamedExpr) → holds (test_bound k) o ≡ true → holds (passes c.graph (as_read c.typed old)) o ≡ holds (passes c.graph (row a)) o
  passes_same None fit = refl
  passes_same (Some test) fit = rw (values_agree c.graph (as_read c.typed old) (row a) k read_node read_rel test.expr fit) refl

  pub differs_same : (o : Option RelPair) → holds (pair_bound k) o ≡ true → holds (differs (as_read c.typed old)) o ≡ holds (differs (row a)) o
  differs_same None fit = refl
  differs_same (Some p) fit =
      let parts = and_parts (k.rels p.first) (k.rels p.second) fit in
      rw (read_rel p.first parts.0, read_rel p.second parts.1) refl

  pub no_loop_same : (x : ℕ) (o : Option TypedRel) → holds (loop_bound k x) o ≡ true → holds (no_loop (as_read c.typed old)) o ≡ holds (no_loop (row a)) o
  no_loop_same x None fit = refl
  no_loop_same x (Some r) fit =
      let parts = and_parts (k.nodes r.source) (k.nodes r.target) (and_parts (k.rels x) _ (and_parts r.no_loop _ fit).1).1 in
      ap₂ (λ m n. not (at_same m n)) (read_node r.source parts.0) (read_node r.target parts.1)

-- a test has one place, at which it keeps the assignment or makes nothing
module _ (c : Run) (d : ℕ) (s : Step) (is : step_at c d ≡ s) (old : Assignment) (held : IsHeld c old (known c d)) where
  nothing_left : (n : ℕ) → drop {A = List Partial} n [] ≡ []
  nothing_left zero = refl
  nothing_left (suc n) = refl

  pub test_tried : (passes : Bool) → after_step s (known c d) ≡ known c d → taken c.typed old s (before c old d) ≡ before c old d
      → tries c.graph c.typed (built_at c d) s (before c old d) ≡ keep_if passes (before c old d) ∷ [] → (place : ℕ) → IsTried c d place old old (tested place passes)
  test_tried true keeps same one zero =
      is_made c d s is 0 old old
      (record {
        held = rw keeps held;
        alike = record { nodes = λ v e. refl; rels = λ x e. refl };
        made = rw (one, same) refl;
      })
      (omega arith)
  test_tried false keeps same one zero = is_missed c d s is 0 old old refl (rw one refl) (omega arith)
  test_tried passes keeps same one (suc n) = is_past c d s is (suc n) old old refl (rw one (nothing_left n))

module _ (c : Run) (run : IsRun c) (d : ℕ) (low : d < length c.steps) (old : Assignment) (held : IsHeld c old (known c d)) where
  pub keep_tried : (i : ℕ) → step_at c d ≡ Keep i → (place : ℕ) → IsTried c d place old old (tested place (holds (passes c.graph (as_read c.typed old)) (slice_get c.typed.tests i)))
  unfolding tries step after_step fits_step
  keep_tried i is place =
      let fit : runs_step c.graph.catalog c.typed (Keep i) (known c d) ≡ true = ap (λ s. runs_step c.graph.catalog c.typed s (known c d)) (sym is) ∙ fits_at c run d low in
      let same = passes_same c old (known c d) held (before c old d) (looks c run old d) (slice_get c.typed.tests i) fit in
      test_tried c d (Keep i) is old held _ refl refl (ap (λ b. keep_if b (before c old d) ∷ []) (sym same)) place

  pub differ_tried : (p : ℕ) → step_at c d ≡ Differ p → (place : ℕ) → IsTried c d place old old (tested place (holds (differs (as_read c.typed old)) (slice_get c.typed.pairs p)))
  unfolding tries step after_step fits_step
  differ_tried p is place =
      let fit : runs_step c.graph.catalog c.typed (Differ p) (known c d) ≡ true = ap (λ s. runs_step c.graph.catalog c.typed s (known c d)) (sym is) ∙ fits_at c run d low in
      let same = differs_same c old (known c d) held (before c old d) (looks c run old d) (slice_get c.typed.pairs p) fit in
      test_tried c d (Differ p) is old held _ refl refl (ap (λ b. keep_if b (before c old d) ∷ []) (sym same)) place

  pub no_loop_tried : (x : ℕ) → step_at c d ≡ NoLoop x → (place : ℕ) → IsTried c d place old old (tested place (holds (no_loop (as_read c.typed old)) (slice_get c.typed.rels x)))
  unfolding tries step after_step fits_step
  no_loop_tried x is place =
      let fit : runs_step c.graph.catalog c.typed (NoLoop x) (known c d) ≡ true = ap (λ s. runs_step c.graph.catalog c.typed s (known c d)) (sym is) ∙ fits_at c run d low in
      let same = no_loop_same c old (known c d) held (before c old d) (looks c run old d) x (slice_get c.typed.rels x) fit in
      test_tried c d (NoLoop x) is old held _ refl refl (ap (λ b. keep_if b (before c old d) ∷ []) (sym same)) place

-- What is known of a group's tests by how its places are found.
use Rattle.std.proofs.Common.{◌≡◌, ◌⊎◌, inl, inr, ◌<◌, ◌+◌, ◌∙◌, ℕ, false, Option, Some, None, sym, ap, subst}
use Rattle.std.specs.Prelude.{IfSome}
use Rattle.gq_plan.specs.declared.follow.Follow.{Follow}
use Rattle.gq_sift.specs.steps.Filters.{Filters, FiltersList, is_listed_step}
use Rattle.gq_steps.specs.Keeps.{IsRange, IsTold}
use Rattle.gq_steps.specs.Actions.{action_of}
use Rattle.gq_steps.specs.Levels.{Run, step_at}
use Rattle.gq_steps.specs.Moves.{run_of}
use Rattle.gq_steps.specs.Tests.{IsCut, IsListTest, RowsDecide}
use Rattle.gq_steps.specs.declared.action.Action.TheVariants as act
use Rattle.gq_steps.specs.declared.cut.Cut.TheVariants as cut
use Rattle.gq_steps.specs.declared.group_steps.GroupSteps.{GroupSteps}
use Rattle.gq_steps.specs.declared.plan_run.PlanRun.{PlanRun}
use Rattle.gq_steps.proofs.Acting.{acts}

-- what is true in any case is true of what is there
pub beside : {X A : Type 0} (P : X → Type 0) (o : Option X) → A → IfSome o P → IfSome o (λ x. A × P x)
beside P None a h = h
beside P (Some x) a h = (a, h)

pub range_told : (c : Run) (group : GroupSteps) → IsRange c group → IsTold c group
range_told c group r = record { some = r.some; inside = r.inside; action = r.action; cut = r.cut }

module _ (k : PlanRun) (group : GroupSteps) (t : IsTold (run_of k) group) where
  pub filters_by : (v : ℕ) → group.cut ≡ cut.Rows → group.action ≡ act.Scan v → Filters (run_of k) group v
  filters_by v is scan = record {
    scans = acts k group.first group.action (act.Scan v) t.action scan;
    tests = subst (IsCut (run_of k) group.first group.end) is t.cut;
  }

  -- rows alone decide the tests of a list, but those that ask relationships to differ
  list_tests : (f : Follow) → (group.cut ≡ cut.List) ⊎ (group.cut ≡ cut.Pairs) → action_of (step_at (run_of k) group.first) ≡ act.List f → (d : ℕ) → group.first < d → d < group.end → IsListTest (run_of k) d f
  list_tests f (inl is) list d above below = either (subst (IsCut (run_of k) group.first group.end) is t.cut f list d above below)
    where
      either : RowsDecide (run_of k) d f → IsListTest (run_of k) d f
      either (inl test) = inl test
      either (inr test) = inr (inr test)
  list_tests f (inr is) list d above below = subst (IsCut (run_of k) group.first group.end) is t.cut f list d above below

  pub filters_list_by : (f : Follow) → (group.cut ≡ cut.List) ⊎ (group.cut ≡ cut.Pairs) → group.action ≡ act.List f → FiltersList (run_of k) group f
  filters_list_by f is list =
      let step = acts k group.first group.action (act.List f) t.action list in
      record {
        reads = record { extends = (false, step); tests = list_tests f is (sym t.action ∙ list) };
        listed = ap is_listed_step step;
      }

  pub some_told : group.cut ≡ cut.Told → group.first + 1 < group.end
  some_told is = subst (IsCut (run_of k) group.first group.end) is t.cut

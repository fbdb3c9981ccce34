-- A plan without groups: it has no step but tests that read nothing, which keep nothing or all.
use Rattle.std.proofs.Common.{◌≡◌, ◌∙◌, ◌&&◌, ap, sym, refl, Bool, true, false, cond, Option, Some, None, List, [], ◌∷◌, map, flat_map, slice_get, append-nil, true≢false}
use Rattle.std.specs.Prelude.{length}
use Rattle.std.specs.List.{list_all, range_with_len}
use Rattle.gq_arrange.proofs.Led.{AreIdle, idle_after, idle_all, idle_small, leading_all, steps_checked}
use Rattle.gq_arrange.specs.Law.{leading, led_number, led_order}
use Rattle.gq_base.specs.Catalogs.{Tables}
use Rattle.gq_base.specs.Plain.{Graph}
use Rattle.gq_join.specs.Kept.{Held}
use Rattle.gq_law_groups.specs.Groups.{checked}
use Rattle.gq_plan.proofs.Values.{values_agree}
use Rattle.gq_plan.specs.Arranged.{flags_of, homes, numbers_at}
use Rattle.gq_plan.specs.Columns.{steps_of}
use Rattle.gq_plan.specs.Conditions.{passes}
use Rattle.gq_plan.specs.Covers.{Fits, after, test_bound}
use Rattle.gq_plan.specs.Halves.{halved}
use Rattle.gq_plan.specs.Known.{Known, none}
use Rattle.gq_plan.specs.Meaning.{Partial, holds, keep_if, mean, nothing, row, step}
use Rattle.gq_plan.specs.Plans.{Plan, Done, Step}
use Rattle.gq_plan.specs.Rows.{as_read}
use Rattle.gq_plan.specs.Shapes.{is_flat_group, places}
use Rattle.gq_plan.specs.declared.assignment.Assignment.{Assignment}
use Rattle.gq_plan.specs.declared.bound.NamedExpr.{NamedExpr}
use Rattle.gq_plan.specs.declared.typed.Typed.{Typed}
use Rattle.gq_steps.specs.Given.{given, given_step}
use Rattle.gq_steps.specs.steps.Outcomes.{passes_at}
use Rattle.gq_pipe.specs.Keys.{makers_of}
use Rattle.gq_pipe.specs.steps.Alone.{is_kept}

-- ---- tests that read nothing

after_alone : (y : Typed) (ts : List Step) (k : Known) → AreIdle y ts → after (checked ts Done) k ≡ k
unfolding after
after_alone y [] k h = refl
after_alone y (t ∷ ts) k h = ap (after (checked ts Done)) (idle_after y t h.0 k) ∙ after_alone y ts k h.1

makers_alone : (y : Typed) (ts : List Step) (os : List (Option Held)) → AreIdle y ts → makers_of ts os ≡ []
makers_alone y [] os h = refl
makers_alone y (t ∷ ts) [] h = refl
makers_alone y (t ∷ ts) (o ∷ os) h =
    ap (λ b. cond b (record { step = t; build = o } ∷ makers_of ts os) (makers_of ts os)) (idle_small y t h.0) ∙ makers_alone y ts os h.1

given_alone : (y : Typed) (r : Assignment) (ts : List Step) (a : Partial) → AreIdle y ts → given y r (checked ts Done) a ≡ a
unfolding given given_step
given_alone y r [] a h = refl
given_alone y r (t ∷ ts) a h = ap (λ s. given y r (checked ts Done) (given_step y r s a)) h.0.is ∙ given_alone y r ts a h.1

module _ (g : Graph) (y : Typed) (r : Assignment) where
  -- its value is the same whatever is bound
  same_test : (o : Option NamedExpr) → holds (test_bound none) o ≡ true → holds (passes g (as_read y r)) o ≡ holds (passes g (row nothing)) o
  same_test None fit = refl
  same_test (Some test) fit =
      rw (values_agree g (as_read y r) (row nothing) none (λ v e. absurd (true≢false (sym e))) (λ x e. absurd (true≢false (sym e))) test.expr fit) refl

  mean_alone : (ts : List Step) → AreIdle y ts → mean g y (checked ts Done) nothing ≡ keep_if (list_all (is_kept (passes_at g y r)) ts) nothing
  unfolding mean step
  mean_alone [] h = refl
  mean_alone (t ∷ ts) h =
      let one = ap (is_kept (passes_at g y r)) h.0.is ∙ same_test (slice_get y.tests h.0.number) h.0.reads in
      ap (λ s. flat_map (mean g y (checked ts Done)) (step g y s nothing)) h.0.is
      ∙ ap (λ b. flat_map (mean g y (checked ts Done)) (keep_if b nothing)) (sym one)
      ∙ go (is_kept (passes_at g y r) t) (mean_alone ts h.1)
    where
      go : (b : Bool) → mean g y (checked ts Done) nothing ≡ keep_if (list_all (is_kept (passes_at g y r)) ts) nothing
          → flat_map (mean g y (checked ts Done)) (keep_if b nothing) ≡ keep_if (b && list_all (is_kept (passes_at g y r)) ts) nothing
      go true on = append-nil (mean g y (checked ts Done) nothing) ∙ on
      go false on = refl

-- ---- a plan without groups

pub none_order : (y : Typed) (p : Plan) → (places p).count ≡ 0 → led_order y p ≡ []
none_order y p e = ap (λ n. map (led_number (length (leading p))) (flat_map (λ h. numbers_at h 0 (homes y (places p) 0 (halved p))) (range_with_len 0 n))) e

pub none_flat : (y : Typed) (p : Plan) → (places p).count ≡ 0 → flags_of y p ≡ []
none_flat y p e = ap (λ n. map (is_flat_group y p) (range_with_len 0 n)) e

module _ (catalog : Tables) (y : Typed) (p : Plan) (fit : Fits catalog y p) (bare : (places p).count ≡ 0) where
  is : checked (leading p) Done ≡ p
  is = leading_all catalog y p fit bare

  idles : AreIdle y (leading p)
  idles = idle_all catalog y p fit bare

  steps_are : steps_of p ≡ leading p
  steps_are = ap steps_of (sym is) ∙ steps_checked (leading p) Done ∙ append-nil (leading p)

  pub none_bound : after p none ≡ none
  none_bound = ap (λ q. after q none) (sym is) ∙ after_alone y (leading p) none idles

  pub none_makers : (os : List (Option Held)) → makers_of (steps_of p) os ≡ []
  none_makers os = ap (λ ss. makers_of ss os) steps_are ∙ makers_alone y (leading p) os idles

  pub none_given : (r : Assignment) → given y r p nothing ≡ nothing
  none_given r = ap (λ q. given y r q nothing) (sym is) ∙ given_alone y r (leading p) nothing idles

  pub none_mean : (g : Graph) (r : Assignment) → mean g y p nothing ≡ keep_if (list_all (is_kept (passes_at g y r)) (steps_of p)) nothing
  none_mean g r =
      ap (λ q. mean g y q nothing) (sym is) ∙ mean_alone g y r (leading p) idles
      ∙ ap (λ ss. keep_if (list_all (is_kept (passes_at g y r)) ss) nothing) (sym steps_are)

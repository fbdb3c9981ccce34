-- A plan that is started: its steps run in the order of its groups, and what is owed is what the plan means.
use Rattle.std.proofs.Common.{◌≡◌, ◌∙◌, ℕ, zero, suc, ◌+◌, ◌<◌, ◌≤◌, ◌⊎◌, inl, inr, Bool, true, false, cond, nat_eq, Option, None, List, [], ◌∷◌, flat_map, map, length, take, get_or, refl, sym, ap, ap₂, subst, arith}
use Rattle.std.specs.Prelude.{slice_index_or, IsPermutation}
use Rattle.std.specs.List.{AllByRecursion, list_all, range_with_len, sum_by}
use Rattle.std.proofs.lemmas.Bool.{eq-eqb, ne_eqb}
use Rattle.std.proofs.lemmas.List.{length-map, take_all}
use Rattle.std.proofs.lemmas.List.Elements.{recursion_from_All}
use Rattle.std.proofs.lemmas.List.FromFn.{length-map-range_with_len}
use Rattle.std.proofs.lemmas.List.Sorted.{IsPermutation-map, IsPermutation-refl, IsPermutation-sym, IsPermutation-trans}
use Rattle.gq_arrange.specs.Keys.{led, plan_key}
use Rattle.gq_arrange.specs.Law.{IsArranged, led_order}
use Rattle.gq_base.specs.Catalogs.{Tables}
use Rattle.gq_base.specs.Plain.{Graph}
use Rattle.gq_group.specs.declared.home.Homes.{Homes}
use Rattle.gq_join.specs.Kept.{Held}
use Rattle.gq_law_groups.proofs.Moved.{same_plans}
use Rattle.gq_law_groups.specs.Groups.{decode, makes_group}
use Rattle.gq_law_groups.specs.Law.{HasStepsOf, read_all}
use Rattle.gq_law_groups.specs.Layout.{AreFlatEnough}
use Rattle.gq_plan.proofs.FirstSteps.{steps_back}
use Rattle.gq_plan.proofs.StepEquations.{plan_is}
use Rattle.gq_plan.specs.Arranged.{at_numbers, flags_of, in_order}
use Rattle.gq_plan.specs.Columns.{columns_of, own_columns, steps_of}
use Rattle.gq_plan.specs.Covers.{Fits, after}
use Rattle.gq_plan.specs.Halves.{Runs, half_in, halves, numbered_halves, runs}
use Rattle.gq_plan.specs.Known.{none}
use Rattle.gq_plan.specs.Meaning.{Partial, keep_if, mean, nothing}
use Rattle.gq_plan.specs.Plans.{Plan, Done, Step, plan_of, steps, step_of}
use Rattle.gq_plan.specs.Shapes.{places}
use Rattle.gq_plan.specs.declared.assignment.Assignment.{Assignment}
use Rattle.gq_plan.specs.declared.halves.StepHalf.{StepHalf}
use Rattle.gq_plan.specs.declared.plan.Plan as code_plan
use Rattle.gq_plan.specs.declared.typed.Typed.{Typed}
use Rattle.gq_search.specs.Different.{AreKeysOf}
use Rattle.gq_search.specs.Layouts.{owed_walks, walks}
use Rattle.gq_search.specs.Running.{spot_of}
use Rattle.gq_search.specs.declared.walker.Cursor.{Cursor}
use Rattle.gq_search.specs.declared.walker.State.{State}
use Rattle.gq_steps.specs.Built.{AreBuilds}
use Rattle.gq_pipe.specs.Keys.{assignment_key, key_count, makers_of}
use Rattle.gq_pipe.specs.Keys.{rows_of as brought_rows}
use Rattle.gq_steps.specs.Given.{given}
use Rattle.gq_homes.specs.Cuts.{begins, flag, groups_of, IsCutTo}
use Rattle.gq_pipe.specs.steps.Alone.{first_state, is_kept}
use Rattle.gq_pipe.specs.steps.Given.{RunsPlan, bound_by, given_plan, numbers_of, rows_of}
use Rattle.gq_homes.specs.Homes.{AreHomes}
use Rattle.gq_steps.specs.Levels.{Run, step_at}
use Rattle.gq_steps.specs.steps.Lists.{IsGrouped, layout_in, rows_in}
use Rattle.gq_steps.specs.Groups.{group_in, groups_in}
use Rattle.gq_steps.specs.steps.Outcomes.{passes_at}
use Rattle.gq_steps.specs.Moves.{IsRun, run_of}
use Rattle.gq_homes.specs.declared.homes.Filling.{Filling}
use Rattle.gq_steps.specs.declared.group_steps.GroupSteps.{GroupSteps}
use Rattle.gq_steps.specs.declared.plan_run.PlanRun.{PlanRun}
use Rattle.gq_pipe.specs.steps.Search.{AreGiven, maker_in, source_in}
use Rattle.gq_pipe.specs.steps.Started.{IsStarted}
use Rattle.gq_pipe.proofs.Groupless.{none_bound, none_flat, none_given, none_makers, none_mean, none_order}
use Rattle.gq_pipe.proofs.InOrder.{builds_halves, columns_halved, halves_run, ordered_sum}
use Rattle.gq_steps.proofs.Joined.{builds_many}
use Rattle.gq_pipe.proofs.Keyed.{counted_keys, keyed}
use Rattle.gq_pipe.proofs.Makers.{makers_ordered, makers_run}
use Rattle.gq_pipe.proofs.Rebinding.{bound_self}
use Rattle.gq_pipe.proofs.Resting.{flats_are, grouped, groups_are, owed_mean, some_step}

map_map : {X Y Z : Type 0} (f : Y → Z) (h : X → Y) (xs : List X) → map f (map h xs) ≡ map (λ x. f (h x)) xs
map_map f h [] = refl
map_map f h (x ∷ xs) = ap (λ l. f (h x) ∷ l) (map_map f h xs)

map_self : {X : Type 0} (f : X → X) (xs : List X) → AllByRecursion (λ x. f x ≡ x) xs → map f xs ≡ xs
map_self f [] h = refl
map_self f (x ∷ xs) h = ap₂ ◌∷◌ h.0 (map_self f xs h.1)

-- a list is its items, one after another
pub all_got : {X : Type 0} (d : X) (xs : List X) → map (λ i. get_or xs i d) (range_with_len 0 (length xs)) ≡ xs
all_got {X = X} d xs = from xs 0 (λ i. get_or xs i d) (λ i low. let e : 0 + i ≡ i = omega arith in ap (λ j. get_or xs j d) e)
  where
    from : (ys : List X) (a : ℕ) (f : ℕ → X) → ((i : ℕ) → i < length ys → f (a + i) ≡ get_or ys i d) → map f (range_with_len a (length ys)) ≡ ys
    from [] a f h = refl
    from (y ∷ ys) a f h =
        let here : a + 0 ≡ a = omega arith in
        ap₂ ◌∷◌ (ap f (sym here) ∙ h 0 (omega arith)) (from ys (a + 1) f (λ i low. (let next : a + 1 + i ≡ a + suc i = omega arith in ap f next ∙ h (suc i) (omega (arith, low)))))

-- what the steps of a plan in an order are, its column closes in halves, with flat groups: they begin with the step of a group, or are none
pub record IsRunnable (catalog : Tables) (y : Typed) (p : Plan) (os : List (Option Held)) (order : List ℕ) (flat : List Bool) : Type 0 where
  pub runs : Runs catalog y (in_order p order)
  pub bound : after p none ≡ after (in_order p order) none
  pub begins : (in_order p order ≡ Done) ⊎ (begins (in_order p order) ≡ true)
  pub enough : AreFlatEnough catalog y (flag flat) 0 (groups_of (in_order p order)) none
  pub count : length (groups_of (in_order p order)) ≡ length flat
  pub columns : sum_by (own_columns y) (at_numbers (flat_map halves (steps_of p)) order) ≤ sum_by (own_columns y) (steps_of p)
  pub makers : makers_of (map (half_in (steps_of p)) (at_numbers (numbered_halves 0 (steps_of p)) order)) (map (λ (q : StepHalf). slice_index_or os q.step None) (at_numbers (numbered_halves 0 (steps_of p)) order)) ≡ makers_of (steps_of p) os

module _ (catalog : Tables) (y : Typed) (p : Plan) (os : List (Option Held)) (fit : Fits catalog y p) where
  of_groups : (flat : List Bool) → 0 < (places p).count → IsArranged catalog y p (led_order y p) flat → length os ≡ length (steps_of p) → IsRunnable catalog y p os (led_order y p) flat
  of_groups flat some a many = record {
    runs = a.runs;
    bound = sym a.bound;
    begins = inr a.begins;
    enough = a.enough;
    count = a.count;
    columns =
        (let same = ordered_sum (own_columns y) (flat_map halves (steps_of p)) (led_order y p)
        (subst (λ ss. IsPermutation (led_order y p) (range_with_len 0 (length ss))) (steps_back (flat_map halves (steps_of p))) a.each) in
        let halved = columns_halved y (steps_of p) in
        omega (arith, same, halved));
    makers = makers_ordered catalog y p os fit some many;
  }

  of_none : (places p).count ≡ 0 → IsRunnable catalog y p os [] []
  unfolding runs after
  of_none bare = record {
    runs = refl;
    bound = none_bound catalog y p fit bare;
    begins = inl refl;
    enough = tt;
    count = refl;
    columns = (let nothing_summed : sum_by (own_columns y) (at_numbers (flat_map halves (steps_of p)) []) ≡ 0 = refl in omega (arith, nothing_summed));
    makers = sym (none_makers catalog y p fit bare os);
  }

  pub runnable : (flat : List Bool) → (0 < (places p).count → IsArranged catalog y p (led_order y p) flat) → flat ≡ flags_of y p → length os ≡ length (steps_of p) → IsRunnable catalog y p os (led_order y p) flat
  runnable flat a told many = go (places p).count refl
    where
      go : (n : ℕ) → (places p).count ≡ n → IsRunnable catalog y p os (led_order y p) flat
      go zero e =
          subst (λ ns. IsRunnable catalog y p os ns flat) (sym (none_order y p e))
          (subst (IsRunnable catalog y p os []) (sym (told ∙ none_flat y p e)) (of_none e))
      go (suc n) e = of_groups flat (omega (arith, e)) (a (omega (arith, e))) many

steps_none : (ss : List Step) → steps ss ≡ Done → 0 < length ss → ⊥
steps_none [] e some = omega (arith, some)
steps_none (s ∷ ss) e some = cc e

module _ (k : PlanRun) (p : code_plan.Plan) (os : List (Option Held)) (order : List StepHalf) (flat : List Bool) (s : IsStarted k p os order flat) where
  abbrev c : Run
  c = run_of k

  abbrev g : Graph
  g = k.graph.now

  abbrev y : Typed
  y = k.typed.now

  pub plan_same : plan_of p ≡ given_plan k
  plan_same = plan_is p ∙ ap (λ ss. steps (map step_of ss)) (sym s.plan)

  steps_same : steps_of (plan_of p) ≡ map step_of p.steps
  steps_same = ap steps_of (plan_is p) ∙ steps_back (map step_of p.steps)

  abbrev ns : List ℕ
  ns = led_order y (plan_of p)

  -- the plan that runs
  list_is : c.steps ≡ at_numbers (flat_map halves (steps_of (plan_of p))) ns
  list_is =
      s.steps_are ∙ ap (λ ss. map (half_in ss) order) (sym steps_same) ∙ ap (map (half_in (steps_of (plan_of p)))) s.order_is
      ∙ halves_run (steps_of (plan_of p)) ns

  runs_are : steps c.steps ≡ led y (plan_of p)
  runs_are = ap steps (list_is ∙ ap (λ ss. at_numbers ss ns) (sym (steps_back (flat_map halves (steps_of (plan_of p))))))

  many_builds : length os ≡ length (steps_of (plan_of p))
  many_builds = builds_many g y (map step_of p.steps) os (subst (λ q. AreBuilds g y q os) (plan_is p) s.builds) ∙ sym (ap length steps_same)

  runs_all : IsRunnable g.catalog y (plan_of p) os ns flat
  runs_all = runnable g.catalog y (plan_of p) os s.fits flat s.arranged s.flat_is many_builds

  fits_run : Runs g.catalog y (steps c.steps)
  fits_run = subst (Runs g.catalog y) (sym runs_are) runs_all.runs

  halves_low : AllByRecursion (λ (q : StepHalf). q.step < length (map step_of p.steps)) order
  halves_low = subst (λ n. AllByRecursion (λ (q : StepHalf). q.step < n) order) (sym (length-map p.steps step_of)) (recursion_from_All (λ (q : StepHalf). q.step < length p.steps) order s.within)

  pub run : IsRun c
  run = record {
    valid = s.valid;
    sound = s.sound;
    fits = fits_run;
    builds = subst (AreBuilds g y (steps c.steps)) (sym s.builds_are)
        (subst (λ ss. AreBuilds g y (steps ss) (map (λ (q : StepHalf). slice_index_or os q.step None) order)) (sym s.steps_are)
        (builds_halves g y (map step_of p.steps) os order (subst (λ q. AreBuilds g y q os) (plan_is p) s.builds) halves_low));
    tests = s.tests_are;
  }

  pub runs_plan : RunsPlan k
  runs_plan = record {
    order = runs_are ∙ ap (led y) plan_same;
    bound = ap (λ q. after q none) (sym plan_same) ∙ runs_all.bound ∙ ap (λ q. after q none) (sym runs_are);
  }

  pub first_run : 0 < length c.steps → makes_group (step_at c 0) ≡ true
  first_run = λ some. elim runs_all.begins [
    | inl none_left ↦ absurd (steps_none c.steps (runs_are ∙ none_left) some)
    | inr first ↦ (some_step c.steps (ap begins runs_are ∙ first)).1
  ]

  pub enough_run : AreFlatEnough g.catalog y (flag flat) 0 (groups_of (steps c.steps)) none
  enough_run = subst (λ q. AreFlatEnough g.catalog y (flag flat) 0 (groups_of q) none) (sym runs_are) runs_all.enough

  many_groups : length (groups_of (steps c.steps)) ≡ length flat
  many_groups = ap (λ q. length (groups_of q)) runs_are ∙ runs_all.count

  -- there are no more columns than the plan counts
  pub columns_held : (ss : List GroupSteps) (n : ℕ) (fs : List Filling) (h : Homes) (held : ℕ) → held ≡ columns_of y (plan_of p) → AreHomes c ss n (length c.steps) fs h → length fs ≤ held
  columns_held ss n fs h held is homes =
      let few = homes.few in
      let whole : sum_by (own_columns y) (take (length c.steps) c.steps) ≡ sum_by (own_columns y) (at_numbers (flat_map halves (steps_of (plan_of p))) ns) =
      ap (sum_by (own_columns y)) (take_all (length c.steps) c.steps (omega arith) ∙ list_is) in
      omega (arith, few, whole, runs_all.columns, is)

  -- the keys that are owed are as many as the plan has with these builds
  pub count_given : (lent : List (Option Held)) (ks : List (List ℕ)) (owed : List Partial) → IsPermutation owed (mean g y (plan_of p) nothing) → AreKeysOf ks (map (assignment_key (source_in k lent)) owed)
      → length ks ≡ key_count g y (brought_rows y (plan_of p) lent) (plan_of p)
  count_given lent ks owed bag are =
      counted_keys g y (plan_of p) (brought_rows y (plan_of p) lent) ks owed bag
      (subst (λ q. AreKeysOf ks (map (plan_key g y (brought_rows y q lent) q) owed)) (sym plan_same) are)

  module _ (ss : List GroupSteps) (cut : IsCutTo c flat ss (length c.steps)) where
    pub grouped_run : IsGrouped c ss
    grouped_run = grouped c run flat ss cut enough_run

    -- what is owed, as the plan binds it
    owed_given : HasStepsOf (led y (plan_of p)) (plan_of p)
        → IsPermutation (map (λ w. bound_by y (given_plan k) (decode g y (rows_in c ss) 0 (groups_in c ss) nothing w)) (walks (layout_in c ss) (length ss) [])) (mean g y (plan_of p) nothing)
    owed_given same =
        let all = mean g y (plan_of p) nothing in
        let own = mean g y (steps c.steps) nothing in
        let there : bound_by y (given_plan k) ≡ bound_by y (plan_of p) = ap (bound_by y) (sym plan_same) in
        let asked : Rattle.gq_plan.specs.Assignments.Assignment → Partial = λ t. given y (numbers_of t) (plan_of p) nothing in
        subst (λ (f : Partial → Partial). IsPermutation (map (λ w. f (decode g y (rows_in c ss) 0 (groups_in c ss) nothing w)) (walks (layout_in c ss) (length ss) [])) all) (sym there)
        (subst (λ es. IsPermutation es all) (map_map (bound_by y (plan_of p)) (decode g y (rows_in c ss) 0 (groups_in c ss) nothing) (walks (layout_in c ss) (length ss) []))
        (IsPermutation-trans _ _ _ (IsPermutation-map (bound_by y (plan_of p)) _ _ (owed_mean c run flat ss cut enough_run))
        (subst (λ es. IsPermutation es all) (map_map asked (read_all y) own)
        (subst (IsPermutation (map asked (map (read_all y) own))) (map_map asked (read_all y) all ∙ map_self (bound_by y (plan_of p)) all (bound_self g y (plan_of p) s.valid s.sound s.fits))
        (IsPermutation-map asked _ _ (IsPermutation-sym _ _ (same_plans g y (plan_of p) (steps c.steps) s.valid s.sound s.fits fits_run (subst (λ q. HasStepsOf q (plan_of p)) (sym runs_are) same))))))))

    -- as many groups run as the plan has
    many_run : length ss ≡ (places (plan_of p)).count
    many_run =
        sym (length-map ss (group_in c.steps)) ∙ ap length (sym (groups_are c run flat ss cut enough_run)) ∙ many_groups ∙ ap length s.flat_is ∙ length-map-range_with_len _ 0 _

    -- without groups what is owed is nothing, or what is bound at the start
    alone : (ts : List GroupSteps) (cs : List Cursor) → length ts ≡ 0 → (b : Bool) → bound_by y (given_plan k) nothing ≡ nothing → mean g y (plan_of p) nothing ≡ keep_if b nothing
        → IsPermutation (map (λ w. bound_by y (given_plan k) (decode g y (rows_in c ts) 0 (groups_in c ts) nothing w)) (owed_walks (layout_in c ts) (length ts) (spot_of (first_state b) cs))) (mean g y (plan_of p) nothing)
    alone [] cs e true bound all = subst (IsPermutation (bound_by y (given_plan k) nothing ∷ [])) (ap (λ a. a ∷ []) bound ∙ sym all) (IsPermutation-refl (bound_by y (given_plan k) nothing ∷ []))
    alone [] cs e false bound all = subst (IsPermutation []) (sym all) (IsPermutation-refl [])
    alone (t ∷ ts) cs e b bound all = absurd (omega (arith, e))

    -- what is owed as the pipeline starts, which owes all, or without groups what its tests tell
    owed_first : (owes : Bool) (row : Assignment) (cs : List Cursor) → owes ≡ cond (nat_eq (length ss) 0) (list_all (is_kept (passes_at g y row)) (map step_of k.plan.now)) true
        → IsPermutation (map (λ w. bound_by y (given_plan k) (decode g y (rows_in c ss) 0 (groups_in c ss) nothing w)) (owed_walks (layout_in c ss) (length ss) (spot_of (first_state owes) cs))) (mean g y (plan_of p) nothing)
    owed_first owes row cs is = go (places (plan_of p)).count refl
      where
        go : (n : ℕ) → (places (plan_of p)).count ≡ n
            → IsPermutation (map (λ w. bound_by y (given_plan k) (decode g y (rows_in c ss) 0 (groups_in c ss) nothing w)) (owed_walks (layout_in c ss) (length ss) (spot_of (first_state owes) cs))) (mean g y (plan_of p) nothing)
        go zero e =
            let told : owes ≡ list_all (is_kept (passes_at g y row)) (steps_of (plan_of p)) =
            is ∙ ap (λ b. cond b (list_all (is_kept (passes_at g y row)) (map step_of k.plan.now)) true) (eq-eqb (length ss) 0 (many_run ∙ e))
            ∙ ap (list_all (is_kept (passes_at g y row))) (ap (map step_of) s.plan ∙ sym steps_same) in
            alone ss cs (many_run ∙ e) owes
            (ap (λ q. bound_by y q nothing) (sym plan_same) ∙ none_given g.catalog y (plan_of p) s.fits e (rows_of y nothing))
            (none_mean g.catalog y (plan_of p) s.fits e g row ∙ ap (λ b. keep_if b nothing) (sym told))
        go (suc n) e =
            let on : owes ≡ true =
            is ∙ ap (λ b. cond b (list_all (is_kept (passes_at g y row)) (map step_of k.plan.now)) true) (ne_eqb (length ss) 0 (λ none_left. (let many = many_run ∙ e in omega (arith, many, none_left)))) in
            subst (λ b. IsPermutation (map (λ w. bound_by y (given_plan k) (decode g y (rows_in c ss) 0 (groups_in c ss) nothing w)) (owed_walks (layout_in c ss) (length ss) (spot_of (first_state b) cs))) (mean g y (plan_of p) nothing)) (sym on)
            (owed_given (s.arranged (omega (arith, e))).has)

    pub owed_start : (owes : Bool) (row : Assignment) (cs : List Cursor) (state : State) (many : ℕ) → state ≡ first_state owes → many ≡ length ss
        → owes ≡ cond (nat_eq many 0) (list_all (is_kept (passes_at g y row)) (map step_of k.plan.now)) true
        → IsPermutation (map (λ w. bound_by y (given_plan k) (decode g y (rows_in c ss) 0 (groups_in c ss) nothing w)) (owed_walks (layout_in c ss) (length ss) (spot_of state cs))) (mean g y (plan_of p) nothing)
    owed_start owes row cs state many st long is =
        subst (λ t. IsPermutation (map (λ w. bound_by y (given_plan k) (decode g y (rows_in c ss) 0 (groups_in c ss) nothing w)) (owed_walks (layout_in c ss) (length ss) (spot_of t cs))) (mean g y (plan_of p) nothing)) (sym st)
        (owed_first owes row cs (is ∙ ap (λ n. cond (nat_eq n 0) (list_all (is_kept (passes_at g y row)) (map step_of k.plan.now)) true) long))

    told : flat ≡ flags_of y (given_plan k)
    told = s.flat_is ∙ ap (flags_of y) plan_same

    pub flats_given : map (λ (t : GroupSteps). t.flat) ss ≡ flags_of y (plan_of p)
    flats_given =
        flats_are c run flat ss cut enough_run
        ∙ ap (λ n. map (flag flat) (range_with_len 0 n)) many_groups ∙ all_got false flat ∙ s.flat_is

    -- the groups that run are those of the plan as it was given
    pub given_run : AreGiven k ss os
    given_run =
        let made : makers_of (steps_of (given_plan k)) os ≡ map (maker_in c) ss =
        ap (λ q. makers_of (steps_of q) os) (sym plan_same)
        ∙ sym runs_all.makers
        ∙ ap (λ qs. makers_of (map (half_in (steps_of (plan_of p))) qs) (map (λ (q : StepHalf). slice_index_or os q.step None) qs)) (sym s.order_is)
        ∙ ap₂ makers_of (ap (λ ss. map (half_in ss) order) steps_same ∙ sym s.steps_are) (sym s.builds_are)
        ∙ makers_run c (builds_many g y c.steps c.builds run.builds) ss grouped_run.tiles grouped_run.cut in
        let each : length os ≡ length (steps_of (given_plan k)) = many_builds ∙ ap (λ q. length (steps_of q)) plan_same in
        record {
          many = each;
          makers = made;
          flats = flats_given ∙ ap (flags_of y) plan_same;
          keys = keyed c run flat ss cut enough_run (given_plan k) runs_plan.bound os made each told;
        }

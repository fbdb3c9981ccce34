-- Whatever is made of the rows by which assignments are continued: of an alternative's own assignments, by its late conjuncts alone, as of
-- the matches that lie in it; and of all alternatives together as of all matches.
use Rattle.std.proofs.Common.{◌≡◌, ℕ, ◌+◌, Bool, true, false, ◌&&◌, cond, Result, List, [], ◌∷◌, ◌++◌, map, filter, flat_map, length, slice_get, IsTrue, IsPermutation, All, refl, sym, ap, ◌∙◌, subst, arith}
use Rattle.std.specs.List.{AllByRecursion, list_all, list_any}
use Rattle.std.proofs.lemmas.Bool.{and_parts}
use Rattle.std.proofs.lemmas.List.Elements.{recursion_from_All, All-from_recursion}
use Rattle.std.proofs.lemmas.List.Folds.{flat_map-map, list_all-append}
use Rattle.gq_base.specs.Plain.{Graph}
use Rattle.gq_base.specs.Valid as valid
use Rattle.gq_expr.specs.Reading as reading
use Rattle.gq_expr.specs.declared.Fault.{Fault}
use Rattle.gq_expr.specs.declared.Kinds.{Kinds}
use Rattle.gq_alternatives.specs.Alternatives.{Choice, agrees, pattern_alternatives, typed_of, typed_rels}
use Rattle.gq_alternatives.specs.Matches.{entry_holds, is_match, node_holds, pair_holds, pairs_from, pattern_matches, rels_hold}
use Rattle.gq_alternatives.proofs.Partition.{lies_once}
use Rattle.gq_alternatives.proofs.Searches.{flat_map_flat_map}
use Rattle.gq_alternatives.proofs.SoundPatterns.{each_alternative}
use Rattle.gq_alternatives.specs.Choices.{IsChoice}
use Rattle.gq_core.specs.Entries.{entry_test}
use Rattle.gq_law_answers.specs.Answered.{allowed}
use Rattle.gq_law_answers.proofs.Alone.{allows_passing, some_drops}
use Rattle.gq_law_answers.proofs.Early as safe
use Rattle.gq_law_answers.proofs.Entries.{tests_entries}
use Rattle.gq_law_answers.proofs.Matched.{both_then, flat_map_same_on, has_tables}
use Rattle.gq_law_plans.proofs.Fields.{lying_fits}
use Rattle.gq_law_plans.proofs.Made.{plans_make}
use Rattle.gq_law_plans.proofs.Reordered.{permuted_flat_map}
use Rattle.gq_law_plans.proofs.Wholes.{plans_mean}
use Rattle.gq_law_plans.specs.Safe.{IsMade}
use Rattle.gq_plan.proofs.Bags.{parts_of_list}
use Rattle.gq_plan.specs.Counts.{hits}
use Rattle.gq_plan.proofs.Each.{each_kept, each_map, each_of, each_then}
use Rattle.gq_plan.proofs.Products.{IsSized, each_sized, same_assignment, same_assignment_is, same_assignment_refl}
use Rattle.gq_plan.specs.Allowed.{lies_in}
use Rattle.gq_plan.specs.Assignments.{Assignment, assignments, row_of}
use Rattle.gq_plan.specs.Conditions.{passes}
use Rattle.gq_plan.specs.Marked.{Marked, marked}
use Rattle.gq_plan.specs.Meaning as plan
use Rattle.gq_plan.specs.Outcomes.{Row, late_conjuncts, drops, meanings_of}
use Rattle.gq_plan.specs.Soundness.{IsSound, kinds_for}
use Rattle.gq_plan.specs.declared.Bound.{Bound}
use Rattle.gq_plan.specs.declared.NamedExpr.{NamedExpr}
use Rattle.gq_plan.specs.declared.Typed.{Typed}
use Rattle.gq_scopes.specs.Patterns.{Pattern}
use Rattle.gq_law_cores.specs.Made.{Agrees, AlternativesPartContinued, Continues, EachPlanMakesContinued, MakesContinued, made_by}
use Rattle.gq_law_cores.specs.Typing.{HasCores}
use Rattle.gq_law_cuts.specs.Typing.{core_typed, is_early}
use Rattle.gq_law_cores.proofs.Judging.{judged_others, nothing_left, numbered, others, passes_too}

-- ---- lists

abbrev nothing : {A B : Type 0} → A → List B
nothing x = []

flat_none : {A B : Type 0} (xs : List A) → flat_map {X = A} {A = B} nothing xs ≡ []
flat_none [] = refl
flat_none (x ∷ xs) = flat_none xs

-- what gives nothing may be left out first
without_on : {A B : Type 0} (P : A → Type 0) (f : A → List B) (p q : A → Bool) → ((x : A) → P x → p x ≡ true → q x ≡ false → f x ≡ [])
    → (xs : List A) → AllByRecursion P xs → flat_map f (filter (λ x. p x && q x) xs) ≡ flat_map f (filter p xs)
without_on P f p q none [] all = refl
without_on {A} {B} P f p q none (x ∷ xs) all = go (p x) refl (q x) refl (without_on P f p q none xs all.1)
  where
    go : (b : Bool) → p x ≡ b → (c : Bool) → q x ≡ c → flat_map f (filter (λ z. p z && q z) xs) ≡ flat_map f (filter p xs)
        → flat_map f (cond (b && c) (x ∷ filter (λ z. p z && q z) xs) (filter (λ z. p z && q z) xs)) ≡ flat_map f (cond b (x ∷ filter p xs) (filter p xs))
    go true d true e more = ap (λ l. f x ++ l) more
    go true d false e more = more ∙ ap (λ l. l ++ flat_map f (filter p xs)) (sym (none x all.0 d e))
    go false d c e more = more

and_false_right : (a b : Bool) → (a && b) ≡ false → a ≡ true → b ≡ false
and_false_right true b e h = e
and_false_right false b e h = absurd (cc h)

-- ---- one alternative

module _ (g : Graph) (p : Pattern) (stays : NamedExpr → Bool) (entries conjuncts : List NamedExpr)
    (tested : (t : Assignment) → list_all (passes g (row_of t)) entries ≡ list_all (entry_holds g t) p.entries)
    (continue : Assignment → List reading.Assignment) (later : Marked → List (Result Row Fault)) where
  abbrev typed : Choice → Typed
  typed c = core_typed g.catalog p stays entries conjuncts c

  abbrev kinds : Choice → Kinds
  kinds c = kinds_for g.catalog c.tables (typed_rels p.rels c.readings)

  abbrev Chosen : Choice → Type 0
  Chosen c = IsChoice g.catalog (length p.names) (length p.rels) c × (agrees g.catalog p c ≡ true)

  -- what is made of one assignment
  abbrev given : List NamedExpr → Assignment → List (Result Row Fault)
  given cs t = flat_map (λ r. flat_map later (marked g cs r)) (continue t)

  abbrev tests : Choice → List NamedExpr
  tests c = entries ++ safe.early (kinds c) (filter stays conjuncts)

  module _ (goes : Continues g stays continue) where
    -- nothing, where a conjunct that stays drops it
    given_none : (t : Assignment) → list_any drops (meanings_of g (row_of t) (filter stays conjuncts)) ≡ true → given conjuncts t ≡ []
    given_none t h =
        flat_map_same_on (Agrees g stays t) (λ r. flat_map later (marked g conjuncts r)) nothing
        (λ r same. ap (flat_map later) (nothing_left g stays t r same conjuncts h)) (continue t) (goes t)
        ∙ flat_none (continue t)

    -- of what it allows is made what is made of the matches that lie in it
    allows_made : IsTrue (valid.is_valid g) → (c : Choice) → Chosen c
        → made_by g conjuncts continue later (allowed g (typed c)) ≡ made_by g conjuncts continue later (filter (lies_in g (typed c)) (pattern_matches g p))
    unfolding typed_of core_typed pattern_matches
    allows_made real c h =
        let all : List Assignment = assignments (length p.names) (length p.rels) g in
        let lies : Assignment → Bool = lies_in g (typed c) in
        ap (flat_map (given conjuncts)) (allows_passing g p entries (filter stays conjuncts) tested c h)
        ∙ without_on (λ t. Unit {0} × (is_match g p t ≡ true)) (given conjuncts) lies (λ t. list_all (passes g (row_of t)) (tests c))
        (λ t match in_it fails.
        let held = and_parts (list_all (entry_holds g t) p.entries) (list_all (pair_holds t) (pairs_from 0 p.rels))
        (and_parts (list_all (node_holds g t) p.nodes && rels_hold g t p.rels t.rels) (list_all (entry_holds g t) p.entries && list_all (pair_holds t) (pairs_from 0 p.rels)) match.1).1 in
        given_none t
        (some_drops g t (kinds c) (lying_fits g (typed_of g.catalog p entries (filter stays conjuncts) c) t real in_it) (filter stays conjuncts)
        (and_false_right (list_all (passes g (row_of t)) entries) (list_all (passes g (row_of t)) (safe.early (kinds c) (filter stays conjuncts)))
        (sym (list_all-append (passes g (row_of t)) entries (safe.early (kinds c) (filter stays conjuncts))) ∙ fails) (tested t ∙ held.0))))
        (filter (is_match g p) all) (each_kept (λ t. Unit {0}) (is_match g p) all (each_of (λ (t : Assignment). Unit {0}) (λ t. tt) all))

    -- where its tests are true, the late conjuncts alone judge
    late_given : (bound : Bound) → bound.conjuncts ≡ conjuncts → (c : Choice) (t : Assignment) → list_all (passes g (row_of t)) (typed c).tests ≡ true
        → given (late_conjuncts bound (typed c)) t ≡ given bound.conjuncts t
    unfolding typed_of core_typed
    late_given bound same c t h =
        let early : NamedExpr → Bool = is_early stays (kinds c) in
        let firsts = (and_parts (list_all (passes g (row_of t)) entries) (list_all (passes g (row_of t)) (safe.early (kinds c) (filter stays conjuncts)))
        (sym (list_all-append (passes g (row_of t)) entries (safe.early (kinds c) (filter stays conjuncts))) ∙ h)).1 in
        let numbers : late_conjuncts bound (typed c) ≡ others early conjuncts =
        numbered early (slice_get bound.conjuncts) 0 conjuncts (λ k. let zeroed : 0 + k ≡ k = omega arith in ap (slice_get bound.conjuncts) zeroed ∙ ap (λ cs. slice_get cs k) same) in
        ap (λ cs. given cs t) numbers
        ∙ flat_map_same_on (Agrees g stays t) (λ r. flat_map later (marked g (others early conjuncts) r)) (λ r. flat_map later (marked g conjuncts r))
        (λ r agree. ap (flat_map later) (judged_others early g r conjuncts (passes_too g stays t r agree (kinds c) conjuncts firsts))) (continue t) (goes t)
        ∙ ap (λ cs. given cs t) (sym same)

-- ---- all alternatives

module _ (g : Graph) (text : List ℕ) (p : Pattern) (stays : NamedExpr → Bool) (bound : Bound)
    (continue : Assignment → List reading.Assignment) (later : Marked → List (Result Row Fault))
    (real : IsTrue (valid.is_valid g)) (has : HasCores text g.catalog p stays bound) where
  abbrev entry_tests : List NamedExpr
  entry_tests = map (entry_test text) p.entries

  abbrev typed_in : Choice → Typed
  typed_in c = core_typed g.catalog p stays entry_tests bound.conjuncts c

  abbrev given_by : List NamedExpr → Assignment → List (Result Row Fault)
  given_by cs t = flat_map (λ r. flat_map later (marked g cs r)) (continue t)

  abbrev lying : Typed → List Assignment
  lying y = filter (lies_in g y) (pattern_matches g p)

  each_typed : (P : Typed → Type 0) → ((c : Choice) → IsChoice g.catalog (length p.names) (length p.rels) c × (agrees g.catalog p c ≡ true) → P (typed_in c)) → AllByRecursion P bound.alternatives
  each_typed P h =
      subst (AllByRecursion P) (sym has.alternatives)
      (each_map (λ c. IsChoice g.catalog (length p.names) (length p.rels) c × (agrees g.catalog p c ≡ true)) P typed_in h (pattern_alternatives g.catalog p) (each_alternative g.catalog p))

  module _ (goes : Continues g stays continue) where
    abbrev IsSame : Typed → Type 0
    IsSame y = made_by g bound.conjuncts continue later (allowed g y) ≡ made_by g bound.conjuncts continue later (lying y)

    abbrev LateJudge : Typed → Type 0
    LateJudge y = (t : Assignment) → list_all (passes g (row_of t)) y.tests ≡ true → given_by (late_conjuncts bound y) t ≡ given_by bound.conjuncts t

    plan_makes : (y : Typed) → IsSound g.catalog y → LateJudge y × IsSame y → MakesContinued g p bound continue later y
    plan_makes y sound h q covers =
        subst (λ l. IsPermutation l (made_by g bound.conjuncts continue later (lying y)))
        (sym
        (flat_map_same_on (IsMade g y) (given_by (late_conjuncts bound y)) (given_by bound.conjuncts) (λ t made. h.0 t made.tests) (plan.meaning g y q)
        (recursion_from_All (IsMade g y) (plan.meaning g y q) (plans_make g y q real sound covers))))
        (subst (IsPermutation (made_by g bound.conjuncts continue later (plan.meaning g y q))) h.1
        (permuted_flat_map (given_by bound.conjuncts) (plan.meaning g y q) (allowed g y) (plans_mean g y q real sound covers)))

    pub each_plan_makes : All (MakesContinued g p bound continue later) bound.alternatives
    each_plan_makes =
        let ys = bound.alternatives in
        All-from_recursion (MakesContinued g p bound continue later) ys
        (both_then (IsSound g.catalog) (λ y. LateJudge y × IsSame y) (MakesContinued g p bound continue later) plan_makes ys (recursion_from_All _ ys has.sound)
        (each_typed (λ y. LateJudge y × IsSame y)
        (λ c h. (
          late_given g p stays entry_tests bound.conjuncts (tests_entries g p text) continue later goes bound refl c,
          allows_made g p stays entry_tests bound.conjuncts (tests_entries g p text) continue later goes real c h,
        ))))

  -- the matches that lie in the alternatives are the matches
  matches_parted : IsPermutation (flat_map (λ c. lying (typed_in c)) (pattern_alternatives g.catalog p)) (pattern_matches g p)
  unfolding pattern_matches typed_of core_typed
  matches_parted =
      let one : Assignment → Type 0 = λ t. hits (λ c. lies_in g (typed_in c) t) (pattern_alternatives g.catalog p) ≡ 1 in
      parts_of_list same_assignment same_assignment_refl same_assignment_is (λ t c. lies_in g (typed_in c) t) (pattern_alternatives g.catalog p) (pattern_matches g p)
      (each_then (λ t. IsSized g (length p.names) (length p.rels) t × (is_match g p t ≡ true)) one (lies_once g p entry_tests (filter stays bound.conjuncts) (has_tables g real)) (pattern_matches g p)
      (each_kept (IsSized g (length p.names) (length p.rels)) (is_match g p) (assignments (length p.names) (length p.rels) g) (each_sized (length p.names) (length p.rels) g)))

  pub rows_parted : IsPermutation (flat_map (λ y. made_by g bound.conjuncts continue later (lying y)) bound.alternatives) (made_by g bound.conjuncts continue later (pattern_matches g p))
  rows_parted =
      subst (λ l. IsPermutation l (made_by g bound.conjuncts continue later (pattern_matches g p)))
      (flat_map_flat_map (given_by bound.conjuncts) (λ c. lying (typed_in c)) (pattern_alternatives g.catalog p)
      ∙ sym (flat_map-map (λ y. made_by g bound.conjuncts continue later (lying y)) typed_in (pattern_alternatives g.catalog p))
      ∙ ap (flat_map (λ y. made_by g bound.conjuncts continue later (lying y))) (sym has.alternatives))
      (permuted_flat_map (given_by bound.conjuncts) (flat_map (λ c. lying (typed_in c)) (pattern_alternatives g.catalog p)) (pattern_matches g p) matches_parted)

pub each_plan_makes_continued : EachPlanMakesContinued
each_plan_makes_continued g text p stays bound continue later real has goes = each_plan_makes g text p stays bound continue later real has goes

pub alternatives_part_continued : AlternativesPartContinued
alternatives_part_continued g text p stays bound continue later real has = rows_parted g text p stays bound continue later real has

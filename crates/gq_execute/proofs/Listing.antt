-- The matches of optional clauses that were listed by plans: they are what the plans make, none is too many, or some are.
use Rattle.std.proofs.Common.{◌≡◌, ℕ, ◌<◌, ◌≤◌, true, false, ◌||◌, ap₂, refl, subst, arith, List, [], ◌∷◌, length, map, IsTrue, inl, inr}
use Rattle.std.specs.Prelude.{nat_lt}
use Rattle.std.specs.List.{AllByRecursion, AllZip, list_any}
use Rattle.std.proofs.lemmas.Bool.{or_from, or_left, or_right}
use Rattle.std.proofs.lemmas.Bool.Decides.{nat_tests}
use Rattle.std.proofs.lemmas.List.Elements.{recursion_from_All}
use Rattle.std.proofs.lemmas.List.Sorted.{length_permutation}
use Rattle.gq_base.specs.Plain.{Graph}
use Rattle.gq_base.specs.Valid.{is_valid}
use Rattle.gq_join.specs.declared.build.JoinRefusal.{JoinRefusal}
use Rattle.gq_join.specs.declared.build.JoinRefusal.TheVariants as join
use Rattle.gq_law_answers.specs.Answered.{allowed}
use Rattle.gq_law_clauses.specs.Laws.{AreCovered, AreSameBags, lists_made}
use Rattle.gq_law_plans.proofs.Wholes.{plans_mean}
use Rattle.gq_optional.specs.Made.{AreFew, AreListed, IsFew, IsPast, IsRefusal, SomeClausePast, SomePast}
use Rattle.gq_optional.specs.Spending.{HasListed, HasSpentListed, HaveListed, Listing}
use Rattle.gq_pipe.specs.Spending.{HasSpentAll}
use Rattle.gq_homes.specs.declared.spent.Spent.{Spent}
use Rattle.gq_plan.specs.Assignments.{Assignment}
use Rattle.gq_plan.specs.Covers.{Covers}
use Rattle.gq_plan.specs.Meaning.{meaning}
use Rattle.gq_plan.specs.Plans.{Plan, plan_of}
use Rattle.gq_plan.specs.Soundness.{IsSound}
use Rattle.gq_plan.specs.declared.bound.OptionalPart.{OptionalPart}
use Rattle.gq_plan.specs.declared.plan.Plan as code
use Rattle.gq_plan.specs.declared.typed.Typed.{Typed}
use Rattle.gq_outer.specs.Placed.{IsPlaced}
use Rattle.gq_execute.specs.Refusals.{of_join}
use Rattle.gq_execute.specs.Replies.{has_large_part, is_heavy_clause, is_heavy_in}
use Rattle.gq_execute.specs.Spending.{IsSpentOnClause, IsSpentOnListing}
use Rattle.gq_order.specs.declared.named.Order.{Order}
use Rattle.gq_execute.specs.steps.Clauses.{AreOfPlans, AreSpentOn, IsPlanned, IsPlannedClause, RefusesClauses, some_heavy_clause}
use Rattle.gq_execute.proofs.Parting.{sides_heavy, sides_light}
use Rattle.gq_execute.proofs.Turning.{runs_sides}

-- plain plans
abbrev pub plain : List (List code.Plan) → List (List Plan)
plain pss = map (map plan_of) pss

module _ (g : Graph) (order : Order) where
  -- ---- plans

  each_covers : (ys : List Typed) (ps : List Plan) → AllZip (IsPlanned order g) ys ps → AllZip (Covers g.catalog) ys ps
  each_covers [] [] are = tt
  each_covers [] (p ∷ ps) are = absurd are
  each_covers (y ∷ ys) [] are = absurd are
  each_covers (y ∷ ys) (p ∷ ps) are = (are.0.covers, each_covers ys ps are.1)

  pub all_covered : (parts : List OptionalPart) (pss : List (List code.Plan)) → AllZip (IsPlannedClause order g) parts pss → AllZip (AreCovered g) parts (plain pss)
  all_covered [] [] are = tt
  all_covered [] (ps ∷ pss) are = absurd are
  all_covered (part ∷ parts) [] are = absurd are
  all_covered (part ∷ parts) (ps ∷ pss) are = (each_covers part.alternatives (map plan_of ps) are.0.each, all_covered parts pss are.1)

  -- ---- what was listed

  bags_of : (parts : List OptionalPart) (pss : List (List Plan)) (lists : List (List Assignment)) → AreListed g parts pss lists → AreSameBags lists (lists_made g parts pss)
  bags_of [] [] [] are = tt
  bags_of [] [] (l ∷ lists) are = absurd are
  bags_of [] (ps ∷ pss) lists are = absurd are
  bags_of (part ∷ parts) [] lists are = absurd are
  bags_of (part ∷ parts) (ps ∷ pss) [] are = absurd are
  bags_of (part ∷ parts) (ps ∷ pss) (l ∷ lists) are = (are.0, bags_of parts pss lists are.1)

  pub of_plans : (parts : List OptionalPart) (pss : List (List code.Plan)) (lists : List (List Assignment)) → AllZip (IsPlannedClause order g) parts pss → AreListed g parts (plain pss) lists → AreOfPlans g parts lists
  of_plans parts pss lists are listed = record { plans = plain pss; covers = all_covered parts pss are; same = bags_of parts (plain pss) lists listed }

  -- ---- what was spent

  each_spent : (ys : List Typed) (ps : List Plan) (ls : List Listing) → AllZip (IsPlanned order g) ys ps → HasListed g ys ps ls → AllZip (IsSpentOnListing g order) ys ls
  each_spent [] [] [] are listed = tt
  each_spent [] [] (l ∷ ls) are listed = absurd listed
  each_spent [] (p ∷ ps) ls are listed = absurd are
  each_spent (y ∷ ys) [] ls are listed = absurd are
  each_spent (y ∷ ys) (p ∷ ps) [] are listed = absurd listed
  each_spent (y ∷ ys) (p ∷ ps) (l ∷ ls) are listed = (
    record {
      plan = p;
      costs = are.0.costs;
      planned = are.0.planned;
      covers = are.0.covers;
      means = are.0.means;
      sides = subst (λ rs. AllZip (HasSpentAll g y) rs l.sides) (runs_sides p are.0.alone) listed.0.sides;
      own = listed.0.own;
    },
    each_spent ys ps ls are.1 listed.1,
  )

  all_spent : (parts : List OptionalPart) (pss : List (List code.Plan)) (lss : List (List Listing)) → AllZip (IsPlannedClause order g) parts pss → HaveListed g parts (plain pss) lss → AllZip (IsSpentOnClause g order) parts lss
  all_spent [] [] [] are listed = tt
  all_spent [] [] (ls ∷ lss) are listed = absurd listed
  all_spent [] (ps ∷ pss) lss are listed = absurd are
  all_spent (part ∷ parts) [] lss are listed = absurd are
  all_spent (part ∷ parts) (ps ∷ pss) [] are listed = absurd listed
  all_spent (part ∷ parts) (ps ∷ pss) (ls ∷ lss) are listed = (each_spent part.alternatives (map plan_of ps) ls are.0.each listed.0, all_spent parts pss lss are.1 listed.1)

  pub clauses_spent : (parts : List OptionalPart) (pss : List (List code.Plan)) (spent : List Spent) → AllZip (IsPlannedClause order g) parts pss → HasSpentListed g parts (plain pss) spent → AreSpentOn g order parts spent
  clauses_spent parts pss spent are has = record { listed = has.listed; each = all_spent parts pss has.listed are has.each; all = has.all }

  -- ---- what is too much

  module _ (most : ℕ) (real : IsTrue (is_valid g)) where
    few_lie : (n : ℕ) → n ≤ most → nat_lt most n ≡ false
    few_lie n h = grind (arith, nat_tests, h)

    many_lie : (n : ℕ) → most < n → nat_lt most n ≡ true
    many_lie n h = grind (arith, nat_tests, h)

    -- a plan makes as many matches as lie in its alternative
    counts : (y : Typed) → IsSound g.catalog y → (p : Plan) → Covers g.catalog y p → length (allowed g y) ≡ length (meaning g y p)
    counts y sound p covers = length_permutation _ _ (plans_mean g y p real sound covers)

    one_light : (y : Typed) → IsSound g.catalog y → (p : Plan) → IsPlanned order g y p → IsFew g most y p → is_heavy_in g order most y ≡ false
    one_light y sound p is few =
        or_from (nat_lt most (length (allowed g y))) (has_large_part g order most y)
        (few_lie (length (allowed g y)) (let same = counts y sound p is.covers in omega (arith, same, few.own)))
        (sides_light g order y most p real sound is.parts is.alone few.sides)

    one_heavy : (y : Typed) → IsSound g.catalog y → (p : Plan) → IsPlanned order g y p → IsPast g most y p → is_heavy_in g order most y ≡ true
    one_heavy y sound p is (inl many) =
        or_left (nat_lt most (length (allowed g y))) (has_large_part g order most y)
        (many_lie (length (allowed g y)) (let same = counts y sound p is.covers in omega (arith, same, many)))
    one_heavy y sound p is (inr large) =
        or_right (nat_lt most (length (allowed g y))) (has_large_part g order most y) (sides_heavy g order y most p real sound is.parts is.alone large)

    -- alternatives
    each_light : (ys : List Typed) (ps : List Plan) → AllByRecursion (IsSound g.catalog) ys → AllZip (IsPlanned order g) ys ps → AllZip (IsFew g most) ys ps → list_any (is_heavy_in g order most) ys ≡ false
    each_light [] ps sound are few = refl
    each_light (y ∷ ys) [] sound are few = absurd are
    each_light (y ∷ ys) (p ∷ ps) sound are few = ap₂ ◌||◌ (one_light y sound.0 p are.0 few.0) (each_light ys ps sound.1 are.1 few.1)

    some_heavy_in : (ys : List Typed) (ps : List Plan) → AllByRecursion (IsSound g.catalog) ys → AllZip (IsPlanned order g) ys ps → SomePast g most ys ps → list_any (is_heavy_in g order most) ys ≡ true
    some_heavy_in [] ps sound are past = absurd past
    some_heavy_in (y ∷ ys) [] sound are past = absurd past
    some_heavy_in (y ∷ ys) (p ∷ ps) sound are (inl past) = or_left _ (list_any (is_heavy_in g order most) ys) (one_heavy y sound.0 p are.0 past)
    some_heavy_in (y ∷ ys) (p ∷ ps) sound are (inr past) = or_right (is_heavy_in g order most y) _ (some_heavy_in ys ps sound.1 are.1 past)

    -- clauses
    module _ (n m : ℕ) where
      pub clauses_light : (parts : List OptionalPart) (pss : List (List code.Plan)) → AllByRecursion (IsPlaced n m g.catalog) parts → AllZip (IsPlannedClause order g) parts pss → AreFew g most parts (plain pss)
          → some_heavy_clause g order most parts ≡ false
      unfolding is_heavy_clause
      clauses_light [] pss placed are few = refl
      clauses_light (part ∷ parts) [] placed are few = absurd are
      clauses_light (part ∷ parts) (ps ∷ pss) placed are few =
          ap₂ ◌||◌ (each_light part.alternatives (map plan_of ps) (recursion_from_All _ part.alternatives placed.0.sound) are.0.each few.0) (clauses_light parts pss placed.1 are.1 few.1)

      clauses_heavy : (parts : List OptionalPart) (pss : List (List code.Plan)) → AllByRecursion (IsPlaced n m g.catalog) parts → AllZip (IsPlannedClause order g) parts pss → SomeClausePast g most parts (plain pss)
          → some_heavy_clause g order most parts ≡ true
      unfolding is_heavy_clause
      clauses_heavy [] pss placed are past = absurd past
      clauses_heavy (part ∷ parts) [] placed are past = absurd past
      clauses_heavy (part ∷ parts) (ps ∷ pss) placed are (inl past) =
          or_left _ (some_heavy_clause g order most parts) (some_heavy_in part.alternatives (map plan_of ps) (recursion_from_All _ part.alternatives placed.0.sound) are.0.each past)
      clauses_heavy (part ∷ parts) (ps ∷ pss) placed are (inr past) = or_right (is_heavy_clause g order most part) _ (clauses_heavy parts pss placed.1 are.1 past)

      pub clauses_refused : (parts : List OptionalPart) (pss : List (List code.Plan)) → AllByRecursion (IsPlaced n m g.catalog) parts → AllZip (IsPlannedClause order g) parts pss
          → (e : JoinRefusal) → IsRefusal g most parts (plain pss) e → RefusesClauses g order most parts (of_join e)
      clauses_refused parts pss placed are (join.TooManyRows l) h = (h.0, clauses_heavy parts pss placed are h.1)
      clauses_refused parts pss placed are (join.Memory why) h = tt

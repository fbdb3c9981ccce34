-- How a query ends: no turn comes, a test or an optional clause is refused, or all is made and turns are taken.
use Rattle.std.proofs.Common.{◌≡◌, ◌∙◌, ap, ap₂, append_assoc, refl, sym, subst, ℕ, suc, ◌≤◌, Bool, true, false, cond, ◌&&◌, ◌||◌, IsTrue, Some, slice_get, List, [], ◌∷◌, ◌++◌, flat_map, length, arith, Err, inl, inr, true≢false}
use Rattle.std.specs.Prelude.{◌⊎◌, ◌↔◌, nat_eq}
use Rattle.std.specs.List.{AllZip}
use Rattle.std.proofs.lemmas.Bool.{and_right, eqb-true, or_left, or_right}
use Rattle.std.proofs.lemmas.Bool.Decides.{nat_tests}
use Rattle.gq_base.specs.Lists.{is_empty}
use Rattle.gq_base.specs.Plain.{Graph}
use Rattle.gq_base.specs.Valid.{is_valid}
use Rattle.gq_bound.specs.Binding.{IsBound}
use Rattle.gq_homes.specs.declared.spent.Spent.{Spent}
use Rattle.gq_plan.specs.declared.Bound.{Bound}
use Rattle.gq_plan.specs.declared.ExistsPart.{ExistsPart}
use Rattle.gq_kept.specs.Answers.{cut_of}
use Rattle.gq_kept.specs.Tables.{Table, is_full, is_full_table}
use Rattle.gq_ast.specs.declared.Query.{Query}
use Rattle.gq_execute.specs.Answering.{RepliesToEach, question}
use Rattle.gq_execute.specs.Replies.{Question, has_heavy_clause, has_heavy_test, has_turns, some_many_keys, tests_of}
use Rattle.gq_execute.specs.Spending.{IsSpentOn, IsSpentOnClause}
use Rattle.gq_execute.specs.declared.refusal.AnswerRefusal.{AnswerRefusal}
use Rattle.gq_execute.specs.declared.refusal.AnswerRefusal.TheVariants as refusal
use Rattle.gq_execute.specs.declared.settings.Settings.{Settings}
use Rattle.gq_execute.specs.steps.Answering.{AnswersWith, FillsWith, IsFresh}
use Rattle.gq_drain.specs.declared.prepared.Prepared.{Prepared}
use Rattle.gq_execute.specs.steps.Clauses.{AreSpentOn, some_heavy_clause}
use Rattle.gq_execute.specs.steps.Prepared.{AreSpentOnTests, IsPrepared, RefusesBefore}
use Rattle.gq_execute.specs.steps.Testing.{RefusesTest, RefusesTests, SomeHasMany, spent_on}
use Rattle.gq_execute.proofs.Going.{came_start, spends_none}
use Rattle.gq_execute.proofs.Parted.{bound_parted, heavy_tests, light_tests}
use Rattle.gq_execute.proofs.Replying.{before_permitted, none_full, none_there, turns_come}

module _ (g : Graph) (b : Bound) (settings : Settings) (t : Table) (real : IsTrue (is_valid g)) (fresh : IsFresh b settings t) where
  -- a query that is bound so
  abbrev asked : Query → Question
  asked query = question g query b settings

  full_here : (v : Bool) → is_full_table t ≡ v → is_full (cut_of b) t.held ≡ v
  full_here v h = ap (λ q. is_full (cut_of q) t.held) (sym fresh.bound) ∙ h

  -- ---- no turn comes

  module _ (over : (is_empty b.alternatives ≡ true) ⊎ (is_full_table t ≡ true)) where
    no_turns : (query : Query) (text : List ℕ) → IsBound query text g.catalog b → has_turns (asked query) ≡ false
    no_turns query text is = go over
      where
        go : (is_empty b.alternatives ≡ true) ⊎ (is_full_table t ≡ true) → has_turns (asked query) ≡ false
        go (inl none) = none_there (asked query) none
        go (inr full) = none_full (asked query) (bound_parted (asked query) text real is) t.held fresh.none (full_here true full)

    ends : (is_full_table t ≡ true) ⊎ (length b.alternatives ≤ 0)
    ends = go over
      where
        go : (is_empty b.alternatives ≡ true) ⊎ (is_full_table t ≡ true) → (is_full_table t ≡ true) ⊎ (length b.alternatives ≤ 0)
        go (inl none) = (let long : length b.alternatives ≡ 0 = eqb-true (length b.alternatives) 0 none in inr (omega (arith, long)))
        go (inr full) = inl full

    pub nothing_done : AnswersWith g b settings t []
    nothing_done = record {
      tested = [];
      on_tests = λ query text is. subst (λ v. AllZip (IsSpentOn g settings.order) (cond v b.patterns []) []) (sym (no_turns query text is)) tt;
      listed = [];
      on_clauses = λ query text is. subst (λ v. AllZip (IsSpentOnClause g settings.order) (cond v b.optionals []) []) (sym (no_turns query text is)) tt;
      own = [];
      fills = record {
        turns = 0;
        spends = spends_none g b settings t fresh;
        filled = λ query text is. record { came = came_start (asked query) t fresh.bound fresh.most fresh.none; done = ends };
      };
      all = refl;
      light = λ query text is. ap (λ v. v && some_many_keys g settings.rows (tests_of query) b.patterns) (no_turns query text is);
      light_clauses = λ query text is. ap (λ v. v && some_heavy_clause g settings.order settings.rows b.optionals) (no_turns query text is);
    }

  -- ---- a turn comes

  module _ (some : is_empty b.alternatives ≡ false) (room : is_full_table t ≡ false) where
    has_come : (query : Query) (text : List ℕ) → IsBound query text g.catalog b → has_turns (asked query) ≡ true
    has_come query text is = turns_come (asked query) (bound_parted (asked query) text real is) t.held fresh.none (full_here false room) some

    heavy_before : (query : Query) (text : List ℕ) → IsBound query text g.catalog b
        → SomeHasMany g settings.rows b.patterns ⊎ (some_heavy_clause g settings.order settings.rows b.optionals ≡ true)
        → (has_heavy_test (asked query) || has_heavy_clause (asked query)) ≡ true
    heavy_before query text is (inl many) = or_left (has_heavy_test (asked query)) (has_heavy_clause (asked query)) (heavy_tests (asked query) text real is (has_come query text is) many)
    heavy_before query text is (inr heavy) = or_right (has_heavy_test (asked query)) (has_heavy_clause (asked query)) (ap₂ ◌&&◌ (has_come query text is) heavy)

    -- a test or an optional clause is refused
    pub before_refused : (e : AnswerRefusal) → RefusesBefore g settings b e → RepliesToEach g b settings (Err e)
    before_refused (refusal.TooManyRows most) h query text is = (h.0, before_permitted (asked query) (heavy_before query text is h.1))
    before_refused (refusal.Fault f) h query text is = absurd h
    before_refused (refusal.Memory why) h query text is = tt

    -- all was made, and turns were taken
    pub all_done : (new : Table) (p : Prepared) (own spent : List Spent) → IsPrepared g settings.rows b p → some_heavy_clause g settings.order settings.rows b.optionals ≡ false
        → AreSpentOnTests g settings.order b.patterns p.tests.all → AreSpentOn g settings.order b.optionals p.optionals.spent
        → FillsWith g b settings new own → spent ≡ (flat_map (λ s. s) (spent_on p.tests.all) ++ p.optionals.spent) ++ own → AnswersWith g b settings new spent
    all_done new p own spent is_ready light on on_clauses fills all = record {
      tested = spent_on p.tests.all;
      on_tests = λ query text is. subst (λ v. AllZip (IsSpentOn g settings.order) (cond v b.patterns []) (spent_on p.tests.all)) (sym (has_come query text is)) on;
      listed = on_clauses.listed;
      on_clauses = λ query text is. subst (λ v. AllZip (IsSpentOnClause g settings.order) (cond v b.optionals []) on_clauses.listed) (sym (has_come query text is)) on_clauses.each;
      own = own;
      fills = fills;
      all = all ∙ append_assoc (flat_map (λ s. s) (spent_on p.tests.all)) p.optionals.spent own
          ∙ ap (λ l. flat_map (λ s. s) (spent_on p.tests.all) ++ (l ++ own)) on_clauses.all;
      light = λ query text is. light_tests (asked query) text real is p.tests.all is_ready.tests;
      light_clauses = λ query text is. ap (λ v. has_turns (asked query) && v) light ∙ and_right (has_turns (asked query)) false refl;
    }

-- a refusal of a part's test is one of the tests
pub one_refuses : (g : Graph) (most : ℕ) (parts : List ExistsPart) (k : ℕ) (part : ExistsPart) (e : AnswerRefusal) → slice_get parts k ≡ Some part → RefusesTest g most part e → RefusesTests g most parts e
one_refuses g most parts k part (refusal.TooManyRows limit) there h = (h.0, record { number = k; part = part; there = there; has = h.1 })
one_refuses g most parts k part (refusal.Fault f) there h = h
one_refuses g most parts k part (refusal.Memory why) there h = tt

-- whether a list is empty, as its test tells it
pub empty_tells : {X : Type 0} (xs : List X) (r : Bool) → (IsTrue r ↔ (xs ≡ [])) → is_empty xs ≡ r
empty_tells [] true h = refl
empty_tells [] false h = absurd (true≢false (sym (h.1 refl)))
empty_tells (x ∷ xs) true h = absurd (omega (arith, ap length (h.0 refl)))
empty_tells (x ∷ xs) false h = not_zero (length xs)
  where
    not_zero : (n : ℕ) → nat_eq (suc n) 0 ≡ false
    not_zero n = grind (arith, nat_tests)

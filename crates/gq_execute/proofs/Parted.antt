-- The alternatives of a bound query part its outcomes, where its tests admit their rows.
use Rattle.std.proofs.Common.{◌≡◌, ◌∙◌, ap, ap₂, refl, sym, subst, ℕ, zero, suc, Bool, true, false, cond, ◌&&◌, ◌||◌, not, Option, Some, None, List, [], ◌∷◌, ◌++◌, flat_map, map, slice_get, IsTrue}
use Rattle.std.specs.Prelude.{IsPermutation, filter_map}
use Rattle.std.specs.List.{AllZip, cons_option}
use Rattle.std.specs.Option.{option_map}
use Rattle.std.proofs.Math.Bool.{or-true}
use Rattle.std.proofs.lemmas.Bool.{and_right}
use Rattle.std.proofs.lemmas.List.{map-append}
use Rattle.std.proofs.lemmas.Simd.{map-map}
use Rattle.gq_alternatives.specs.Tested.{exists_value}
use Rattle.gq_base.specs.Plain.{Graph}
use Rattle.gq_base.specs.Valid.{is_valid}
use Rattle.gq_bound.specs.Binding.{IsBound}
use Rattle.gq_bound.specs.Columns.{Scoped, conditions}
use Rattle.gq_bound.specs.Tested as named
use Rattle.gq_bound.specs.Tested.{IsTested, ScopedTest, all_met, is_met, scoped_tests, tests}
use Rattle.gq_exists.proofs.Asked.{exists_by_keys, few_counted, many_counted, matched_few, matched_many}
use Rattle.gq_exists.specs.Made.{some_stand_on}
use Rattle.gq_expr.specs.Reading as reading
use Rattle.gq_law_cores.proofs.Whole.{alternatives_part_trails}
use Rattle.gq_law_cores.specs.Made.{made_by, trail_rows}
use Rattle.gq_law_cuts.specs.Cuts.{cored_of}
use Rattle.gq_ast.specs.Sources.{source_text}
use Rattle.gq_plan.specs.declared.ExistsPart.{ExistsPart}
use Rattle.gq_ast.specs.declared.Path.{Path}
use Rattle.gq_ast.specs.declared.Query.{Query}
use Rattle.gq_resolve.specs.Conjuncts.{NamedTest, named_test}
use Rattle.gq_resolve.specs.Conjuncts as trees
use Rattle.gq_resolve.specs.PathTests.{PathTest}
use Rattle.gq_resolve.specs.Resolving.{Conjunct, functions, split}
use Rattle.gq_execute.specs.Replies.{Question, all_outcomes, cores_in, has_heavy_test, has_many_keys, has_turns, later_of, shared_nodes, some_many_keys, tests_of}
use Rattle.gq_drain.specs.declared.testing.Test.{Test}
use Rattle.gq_execute.specs.steps.Answering.{AreParted}
use Rattle.gq_execute.specs.steps.Testing.{AreTestsOf, HasManyKeys, IsTestOf, SomeHasMany}
use Rattle.gq_drain.specs.Testing.{admitted_by, passes_test}

pub bound_parted : (a : Question) (text : List ℕ) → IsTrue (is_valid a.graph) → IsBound a.query text a.graph.catalog a.bound → AreParted a
bound_parted a text real is =
    subst (λ parts. IsPermutation
    (flat_map (λ y. made_by a.graph a.bound.conjuncts (trail_rows a.graph (cored_of a.query.clauses).pattern parts) (later_of a) (cores_in a y)) a.bound.alternatives)
    (all_outcomes a)) (sym is.trails)
    (alternatives_part_trails a.graph text a.query.clauses a.bound (later_of a) real is.lengths (record { alternatives = is.alternatives; sound = is.sound }))

-- ---- the tests of a query

-- a test by what it asks alone
abbrev unnamed : PathTest → ScopedTest
unnamed t = record { names = []; name = []; test = t }

abbrev asks : List ScopedTest → List PathTest
asks ts = map (λ (t : ScopedTest). t.test) ts

module _ (g : Graph) where
  abbrev met_by : List PathTest → List ExistsPart → reading.Assignment → Bool
  met_by [] parts row = true
  met_by (t ∷ ts) [] row = true
  met_by (t ∷ ts) (part ∷ parts) row = is_met g (unnamed t) part.nodes row && met_by ts parts row

  met_asks : (ts : List ScopedTest) (parts : List ExistsPart) (row : reading.Assignment) → all_met g ts parts row ≡ met_by (asks ts) parts row
  met_asks [] parts row = refl
  met_asks (t ∷ ts) [] row = refl
  met_asks (t ∷ ts) (part ∷ parts) row = ap (λ b. is_met g t part.nodes row && b) (met_asks ts parts row)

  abbrev many_by : ℕ → List PathTest → List ExistsPart → Bool
  many_by most [] parts = false
  many_by most (t ∷ ts) [] = false
  many_by most (t ∷ ts) (part ∷ parts) = has_many_keys g most (unnamed t) part || many_by most ts parts

  many_asks : (most : ℕ) (ts : List ScopedTest) (parts : List ExistsPart) → some_many_keys g most ts parts ≡ many_by most (asks ts) parts
  unfolding has_many_keys
  many_asks most [] parts = refl
  many_asks most (t ∷ ts) [] = refl
  many_asks most (t ∷ ts) (part ∷ parts) = ap (λ b. has_many_keys g most t part || b) (many_asks most ts parts)

abbrev called : List ℕ → Conjunct → PathTest → NamedTest
called text c t = record { name = source_text text c.span; test = t }

-- what they are called plays no part
named_alike : (text : List ℕ) (cs : List Conjunct)
    → map (λ (t : NamedTest). t.test) (filter_map (named_test text) cs) ≡ map (λ (t : NamedTest). t.test) (filter_map (named_test []) cs)
named_alike text [] = refl
named_alike text (c ∷ cs) = go c.test (named_alike text cs)
  where
    go : (o : Option PathTest) → map (λ (t : NamedTest). t.test) (filter_map (named_test text) cs) ≡ map (λ (t : NamedTest). t.test) (filter_map (named_test []) cs)
        → map (λ (t : NamedTest). t.test) (cons_option (option_map (called text c) o) (filter_map (named_test text) cs))
        ≡ map (λ (t : NamedTest). t.test) (cons_option (option_map (called [] c) o) (filter_map (named_test []) cs))
    go None more = more
    go (Some t) more = ap (λ l. t ∷ l) more

asks_scoped : (text : List ℕ) (c : Scoped) → asks (scoped_tests text c) ≡ map (λ (t : NamedTest). t.test) (trees.tests_of text (split functions c.scope c.tree).conjuncts)
asks_scoped text c = map-map _ _ _

asks_from : (text : List ℕ) (cs : List Scoped) → asks (flat_map (scoped_tests text) cs) ≡ asks (flat_map (scoped_tests []) cs)
asks_from text [] = refl
asks_from text (c ∷ cs) =
    map-append (λ (t : ScopedTest). t.test) (scoped_tests text c) (flat_map (scoped_tests text) cs)
    ∙ ap₂ (λ k l. k ++ l) (asks_scoped text c ∙ named_alike text (split functions c.scope c.tree).conjuncts ∙ sym (asks_scoped [] c)) (asks_from text cs)
    ∙ sym (map-append (λ (t : ScopedTest). t.test) (scoped_tests [] c) (flat_map (scoped_tests []) cs))

asks_same : (text : List ℕ) (query : Query) → asks (tests text query) ≡ asks (tests_of query)
unfolding tests
asks_same text query = asks_from text (conditions query)

-- ---- tests by keys

wanted_met : (g : Graph) (path : Path) (w : Bool) (nodes : List ℕ) (row : reading.Assignment)
    → cond w (exists_value g path nodes row) (not (exists_value g path nodes row)) ≡ is_met g (unnamed (record { path = path; wanted = w })) nodes row
wanted_met g path true nodes row = refl
wanted_met g path false nodes row = refl

module _ (g : Graph) (most : ℕ) (text : List ℕ) (real : IsTrue (is_valid g)) where
  one_met : (t : ScopedTest) (part : ExistsPart) (test : Test) → IsTested text g.catalog t part → IsTestOf g most part test → (row : reading.Assignment) → passes_test test row ≡ is_met g t part.nodes row
  one_met t part test is h row =
      ap (λ (q : ExistsPart). cond q.wanted (some_stand_on q.nodes row test.keys.keys) (not (some_stand_on q.nodes row test.keys.keys))) h.part_is
      ∙ ap (λ b. cond part.wanted b (not b)) (exists_by_keys g text t part h.plans real is h.covers row test.keys.keys h.keys)
      ∙ ap (λ w. cond w (exists_value g t.test.path part.nodes row) (not (exists_value g t.test.path part.nodes row))) is.wanted
      ∙ wanted_met g t.test.path t.test.wanted part.nodes row

  all_passed : (ts : List ScopedTest) (parts : List ExistsPart) (tests : List Test) → AllZip (IsTested text g.catalog) ts parts → AreTestsOf g most parts tests → (row : reading.Assignment)
      → admitted_by tests row ≡ all_met g ts parts row
  all_passed [] [] [] is are row = refl
  all_passed [] [] (x ∷ xs) is are row = absurd are
  all_passed [] (p ∷ ps) xs is are row = absurd is
  all_passed (t ∷ ts) [] xs is are row = absurd is
  all_passed (t ∷ ts) (p ∷ ps) [] is are row = absurd are
  all_passed (t ∷ ts) (p ∷ ps) (x ∷ xs) is are row = ap₂ ◌&&◌ (one_met t p x is.0 are.0 row) (all_passed ts ps xs is.1 are.1 row)

  few_keys : (t : ScopedTest) (part : ExistsPart) (test : Test) → IsTested text g.catalog t part → IsTestOf g most part test → has_many_keys g most t part ≡ false
  unfolding has_many_keys
  few_keys t part test is h = few_counted most (shared_nodes g t part) (matched_few g text t part h.plans real is h.covers most h.few)

  many_keys : (t : ScopedTest) (part : ExistsPart) → IsTested text g.catalog t part → HasManyKeys g most part → has_many_keys g most t part ≡ true
  unfolding has_many_keys
  many_keys t part is h = many_counted most (shared_nodes g t part) (matched_many g text t part h.plans real is h.covers most h.many)

  none_many : (ts : List ScopedTest) (parts : List ExistsPart) (tests : List Test) → AllZip (IsTested text g.catalog) ts parts → AreTestsOf g most parts tests → some_many_keys g most ts parts ≡ false
  none_many [] parts xs is are = refl
  none_many (t ∷ ts) [] xs is are = refl
  none_many (t ∷ ts) (p ∷ ps) [] is are = absurd are
  none_many (t ∷ ts) (p ∷ ps) (x ∷ xs) is are = ap₂ (λ b c. b || c) (few_keys t p x is.0 are.0) (none_many ts ps xs is.1 are.1)

  some_many : (ts : List ScopedTest) (parts : List ExistsPart) → AllZip (IsTested text g.catalog) ts parts → (k : ℕ) (part : ExistsPart) → slice_get parts k ≡ Some part → HasManyKeys g most part
      → some_many_keys g most ts parts ≡ true
  some_many ts [] is k part e h = absurd (cc e)
  some_many [] (p ∷ ps) is k part e h = absurd is
  some_many (t ∷ ts) (p ∷ ps) is zero part e h =
      let same : p ≡ part = cc in
      ap (λ b. b || some_many_keys g most ts ps) (many_keys t p is.0 (subst (HasManyKeys g most) (sym same) h))
  some_many (t ∷ ts) (p ∷ ps) is (suc k) part e h = ap (λ b. has_many_keys g most t p || b) (some_many ts ps is.1 k part e h) ∙ or-true (has_many_keys g most t p)

-- ---- told of a question

module _ (a : Question) (text : List ℕ) (real : IsTrue (is_valid a.graph)) (is : IsBound a.query text a.graph.catalog a.bound) where
  -- tests by keys admit the rows of which the query's tests are true
  pub admitted_means : (tests : List Test) → AreTestsOf a.graph a.most a.bound.patterns tests → (row : reading.Assignment) → admitted_by tests row ≡ all_met a.graph (tests_of a.query) a.bound.patterns row
  admitted_means tests are row =
      all_passed a.graph a.most text real (named.tests text a.query) a.bound.patterns tests is.tested are row
      ∙ met_asks a.graph (named.tests text a.query) a.bound.patterns row ∙ ap (λ ts. met_by a.graph ts a.bound.patterns row) (asks_same text a.query)
      ∙ sym (met_asks a.graph (tests_of a.query) a.bound.patterns row)

  many_asked : some_many_keys a.graph a.most (tests_of a.query) a.bound.patterns ≡ some_many_keys a.graph a.most (named.tests text a.query) a.bound.patterns
  many_asked =
      many_asks a.graph a.most (tests_of a.query) a.bound.patterns ∙ sym (ap (λ ts. many_by a.graph a.most ts a.bound.patterns) (asks_same text a.query))
      ∙ sym (many_asks a.graph a.most (named.tests text a.query) a.bound.patterns)

  -- none of them has too many keys, or one has
  pub light_tests : (tests : List Test) → AreTestsOf a.graph a.most a.bound.patterns tests → has_heavy_test a ≡ false
  light_tests tests are =
      and_right (has_turns a) (some_many_keys a.graph a.most (tests_of a.query) a.bound.patterns)
      (many_asked ∙ none_many a.graph a.most text real (named.tests text a.query) a.bound.patterns tests is.tested are)

  pub heavy_tests : has_turns a ≡ true → SomeHasMany a.graph a.most a.bound.patterns → has_heavy_test a ≡ true
  heavy_tests turns has =
      ap (λ b. b && some_many_keys a.graph a.most (tests_of a.query) a.bound.patterns) turns
      ∙ many_asked ∙ some_many a.graph a.most text real (named.tests text a.query) a.bound.patterns is.tested has.number has.part has.there has.has

-- What a plan makes, behind the matches that are listed of the optional clauses or continued by the trails, are the outcomes of a
-- query's matches.
use Rattle.std.proofs.Common.{◌≡◌, ℕ, ◌≤◌, Bool, true, false, cond, Some, Result, List, [], ◌∷◌, map, flat_map, length, slice_get, IsTrue, ap, refl, sym, subst, ◌∙◌, arith}
use Rattle.std.specs.Prelude.{All, IsPermutation}
use Rattle.std.specs.List.{range_with_len}
use Rattle.std.proofs.lemmas.List.Sorted.{IsPermutation-map, IsPermutation-refl, IsPermutation-trans}
use Rattle.std.proofs.lemmas.Option.{get_or_from_slice_get, slice_get_within}
use Rattle.gq_base.specs.Catalogs.{Tables}
use Rattle.gq_base.specs.Plain.{Graph}
use Rattle.gq_base.specs.Valid.{is_valid}
use Rattle.gq_bound.specs.Binding.{IsBound}
use Rattle.gq_bound.specs.Optionals.{AreOptional, clause_matches, known_first}
use Rattle.gq_bound.specs.Tested.{all_met}
use Rattle.gq_expr.specs.Reading as reading
use Rattle.gq_expr.specs.declared.Fault.{Fault}
use Rattle.gq_law_answers.proofs.Plainly.{size_is}
use Rattle.gq_law_clauses.proofs.Listed.{clauses_planned}
use Rattle.gq_law_clauses.proofs.Permuting.{clauses_permuted, permuted_each}
use Rattle.gq_law_clauses.specs.Laws.{AreSameBags}
use Rattle.gq_law_cores.proofs.Whole.{cored, each_plan_makes_trails}
use Rattle.gq_law_cores.specs.Made.{MakesContinued, made_by, trail_rows}
use Rattle.gq_law_cuts.proofs.Plain.{plain_cuts}
use Rattle.gq_law_cuts.specs.Cuts.{HaveLengths, core_size, cored_of}
use Rattle.gq_law_cuts.specs.Plain.{HaveNoTrail}
use Rattle.gq_law_cuts.specs.Shaped.{core_pattern_of}
use Rattle.gq_plan.specs.Assignments.{Assignment}
use Rattle.gq_plan.specs.Marked.{Marked, ending, marked}
use Rattle.gq_plan.specs.Meaning.{meaning}
use Rattle.gq_plan.specs.Outcomes.{Row, late_conjuncts}
use Rattle.gq_plan.specs.declared.Bound.{Bound}
use Rattle.gq_plan.specs.declared.Typed.{Typed}
use Rattle.gq_plan.specs.declared.bound.OptionalPart.{OptionalPart}
use Rattle.gq_scopes.specs.Patterns.{Pattern, pattern_of}
use Rattle.gq_ast.specs.declared.Clause.{Clause}
use Rattle.gq_ast.specs.declared.Query.{Query}
use Rattle.gq_outer.specs.Clauses.{after_clauses}
use Rattle.gq_execute.specs.Answering.{question}
use Rattle.gq_execute.specs.Replies.{Question, behind_optionals, later_of, rows_of, tests_of}
use Rattle.gq_drain.specs.Becoming.{given_on, if_admitted_behind, outcomes_behind, outcomes_by, outcomes_on}
use Rattle.gq_drain.specs.declared.prepared.Prepared.{Prepared}
use Rattle.gq_execute.specs.declared.settings.Settings.{Settings}
use Rattle.gq_execute.specs.steps.Answering.{MakeOutcomes}
use Rattle.gq_execute.specs.steps.Prepared.{IsPrepared, first_nodes}
use Rattle.gq_drain.specs.Prepared.{known_by, later_by}
use Rattle.gq_drain.specs.Testing.{Admission, admitted_by}
use Rattle.gq_execute.proofs.Continuing.{rows_are}
use Rattle.gq_execute.proofs.Parted.{admitted_means}

bags_trans : (xss yss zss : List (List Assignment)) → AreSameBags xss yss → AreSameBags yss zss → AreSameBags xss zss
bags_trans [] [] [] a b = tt
bags_trans [] [] (zs ∷ zss) a b = absurd b
bags_trans [] (ys ∷ yss) zss a b = absurd a
bags_trans (xs ∷ xss) [] zss a b = absurd a
bags_trans (xs ∷ xss) (ys ∷ yss) [] a b = absurd b
bags_trans (xs ∷ xss) (ys ∷ yss) (zs ∷ zss) a b = (IsPermutation-trans xs ys zs a.0 b.0, bags_trans xss yss zss a.1 b.1)

where_bag : (v : Bool) (xs ys : List (Result Row Fault)) → IsPermutation xs ys → IsPermutation (cond v xs []) (cond v ys [])
where_bag true xs ys h = h
where_bag false xs ys h = IsPermutation-refl []

-- ---- the variables that stood before the optional clauses

-- without such clauses they play no part
known_alike : (g : Graph) (known other : List ℕ) (parts : List OptionalPart) (mss : List (List Assignment)) (m : Marked) → ((parts ≡ [] → ⊥) → known ≡ other)
    → after_clauses g known parts mss m ≡ after_clauses g other parts mss m
unfolding after_clauses
known_alike g known other [] mss m same = refl
known_alike g known other (p ∷ ps) mss m same = ap (λ k. after_clauses g k (p ∷ ps) mss m) (same (λ e. absurd (cc e)))

none_optional : (text : List ℕ) (catalog : Tables) (number : ℕ) (before : Pattern) (cs : List Clause) (parts : List OptionalPart) → AreOptional text catalog number before cs parts → cs ≡ []
    → parts ≡ []
none_optional text catalog number before [] [] are e = refl
none_optional text catalog number before [] (p ∷ ps) are e = absurd are
none_optional text catalog number before (c ∷ cs) parts are e = absurd (cc e)

-- without trails the core's variables are all
size_same : (clauses : List Clause) → HaveLengths clauses → HaveNoTrail clauses → core_size clauses ≡ length (pattern_of clauses).names
size_same clauses lengths none =
    let within : core_size clauses ≤ length (cored_of clauses).pattern.names = (cored clauses lengths).within in
    let same : length (cored_of clauses).pattern.names ≡ length (pattern_of clauses).names = ap (λ (p : Pattern). length p.names) (plain_cuts clauses none).0 in
    omega (arith, within, same, size_is clauses none)

-- so they are those of the alternatives, where there are optional clauses
known_same : (g : Graph) (b : Bound) (query : Query) (text : List ℕ) (p : Prepared) {most : ℕ} → IsBound query text g.catalog b → IsPrepared g most b p
    → (k : ℕ) (y : Typed) → slice_get b.alternatives k ≡ Some y → (b.optionals ≡ [] → ⊥) → known_by p ≡ known_first query
known_same g b query text p is h k y e some =
    let none : HaveNoTrail query.clauses = is.apart (λ c. some (none_optional text g.catalog (length query.clauses) (pattern_of query.clauses) query.optionals b.optionals is.optionals c)) in
    ap (range_with_len 0) (h.first ∙ go b.alternatives refl k e ∙ size_same query.clauses is.lengths none)
  where
    go : (ys : List Typed) → b.alternatives ≡ ys → (i : ℕ) → slice_get ys i ≡ Some y → first_nodes ys ≡ core_size query.clauses
    go [] same i at = absurd (cc at)
    go (z ∷ zs) same i at = (subst (All (λ (x : Typed). length x.nodes ≡ core_size query.clauses)) same is.node_counts) 0 z (omega arith)

-- ---- rows

module _ (a : Question) (known : List ℕ) (same : (a.bound.optionals ≡ [] → ⊥) → known ≡ known_first a.query) (admitted : Admission)
    (means : (row : reading.Assignment) → admitted row ≡ all_met a.graph (tests_of a.query) a.bound.patterns row) (mss : List (List Assignment))
    (bags : AreSameBags mss (map (clause_matches a.graph) a.query.optionals)) where
  -- a row that is admitted goes on behind these matches as behind those of the clauses
  row_bag : (m : Marked) → IsPermutation (if_admitted_behind admitted a.graph known mss a.bound m) (later_of a m)
  row_bag m =
      let nss : List (List Assignment) = map (clause_matches a.graph) a.query.optionals in
      subst (λ v. IsPermutation (if_admitted_behind admitted a.graph known mss a.bound m) (cond v (behind_optionals a m) [])) (means m.row)
      (where_bag (admitted m.row) (outcomes_behind a.graph a.bound known mss m) (behind_optionals a m)
      (IsPermutation-map (ending a.graph a.bound) _ _
      (subst (λ l. IsPermutation l (after_clauses a.graph (known_first a.query) a.bound.optionals nss m)) (sym (known_alike a.graph known (known_first a.query) a.bound.optionals mss m same))
      (clauses_permuted a.graph (known_first a.query) a.bound.optionals mss nss m bags))))

  module _ (text : List ℕ) (real : IsTrue (is_valid a.graph)) (is : IsBound a.query text a.graph.catalog a.bound) where
    module _ (k : ℕ) (y : Typed) (here : slice_get a.bound.alternatives k ≡ Some y) where
      -- what becomes of an assignment, row by row
      given_bag : (t : Assignment)
          → IsPermutation (given_on (if_admitted_behind admitted a.graph known mss) a.graph a.bound y t) (flat_map (λ r. flat_map (later_of a) (marked a.graph (late_conjuncts a.bound y) r)) (rows_of a t))
      given_bag t =
          subst (λ rs. IsPermutation (flat_map (outcomes_on (if_admitted_behind admitted a.graph known mss) a.graph a.bound y) rs) (flat_map (λ r. flat_map (later_of a) (marked a.graph (late_conjuncts a.bound y) r)) (rows_of a t)))
          (sym (rows_are a text is k y here t))
          (permuted_each (outcomes_on (if_admitted_behind admitted a.graph known mss) a.graph a.bound y) (λ r. flat_map (later_of a) (marked a.graph (late_conjuncts a.bound y) r))
          (λ r. permuted_each (if_admitted_behind admitted a.graph known mss a.bound) (later_of a) row_bag (marked a.graph (late_conjuncts a.bound y) r)) (rows_of a t))

      made_bag : (ts : List Assignment)
          → IsPermutation (outcomes_by (given_on (if_admitted_behind admitted a.graph known mss)) a.graph a.bound y ts) (made_by a.graph (late_conjuncts a.bound y) (rows_of a) (later_of a) ts)
      made_bag ts = permuted_each (given_on (if_admitted_behind admitted a.graph known mss) a.graph a.bound y) (λ t. flat_map (λ r. flat_map (later_of a) (marked a.graph (late_conjuncts a.bound y) r)) (rows_of a t)) given_bag ts

      makes : MakesContinued a.graph (core_pattern_of a.query.clauses) a.bound (rows_of a) (later_of a) y
      makes =
          subst (λ parts. MakesContinued a.graph (core_pattern_of a.query.clauses) a.bound (trail_rows a.graph (cored_of a.query.clauses).pattern parts) (later_of a) y) (sym is.trails)
          (subst (MakesContinued a.graph (core_pattern_of a.query.clauses) a.bound _ (later_of a)) (get_or_from_slice_get a.bound.alternatives k y y here)
          (each_plan_makes_trails a.graph text a.query.clauses a.bound (later_of a) real is.lengths (record { alternatives = is.alternatives; sound = is.sound }) k y (slice_get_within a.bound.alternatives k y here)))

    outcomes_made : MakeOutcomes a (given_on (if_admitted_behind admitted a.graph known mss))
    outcomes_made k y here p covers = IsPermutation-trans _ _ _ (made_bag k y here (meaning a.graph y p)) (makes k y here p covers)

-- so plans make the outcomes of such a question
pub made_here : (g : Graph) (query : Query) (b : Bound) (settings : Settings) (text : List ℕ) (p : Prepared) → IsTrue (is_valid g) → IsBound query text g.catalog b → IsPrepared g settings.rows b p
    → MakeOutcomes (question g query b settings) (given_on (later_by g p))
made_here g query b settings text p real is h k y e plan covers =
    let a : Question = question g query b settings in
    outcomes_made a (known_by p) (known_same g b query text p is h k y e) (admitted_by p.tests.all) (admitted_means a text real is p.tests.all h.tests) p.optionals.held.lists
    (bags_trans p.optionals.held.lists _ _ h.listed.same (clauses_planned g text (length query.clauses) (pattern_of query.clauses) query.optionals b.optionals h.listed.plans real is.optionals h.listed.covers))
    text real is k y e plan covers

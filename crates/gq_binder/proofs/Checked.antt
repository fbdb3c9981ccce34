-- What the checks find in the parts of a query is its first refusal; a query that they pass is bound by its parts.
use Rattle.std.proofs.Common.{◌≡◌, ◌∙◌, sym, refl, ap, subst, ℕ, ◌+◌, length, List, [], ◌∷◌, ◌++◌, map, All, Option, Some, None, Err}
use Rattle.std.specs.Prelude.{flat_map}
use Rattle.std.specs.Option.{option_map, option_or}
use Rattle.gq_alternatives.specs.Alternatives.{Choice, pattern_alternatives}
use Rattle.gq_base.specs.Catalogs.{Tables}
use Rattle.gq_bound.proofs.Accepted.{IsNamed, known_expressions, conjuncts_there, optional_there, tests_there}
use Rattle.gq_bound.proofs.Clauses.{own_are}
use Rattle.gq_bound.proofs.TestLemmas.{IsWholeTest, tests_whole}
use Rattle.gq_bound.proofs.NameLemmas.{first_again, first_other_form, first_variable, first_function, first_arguments, none_in_paths, sorts_same}
use Rattle.gq_bound.proofs.RefusalLemmas.{first_append, same_behind}
use Rattle.gq_bound.proofs.OwnBound.{bound_by_core, counted_core}
use Rattle.gq_bound.proofs.SoundAlternatives.{each_none, reads_listed}
use Rattle.gq_binder.proofs.Unnamed.{all_unnamed}
use Rattle.gq_bound.specs.Binding.{Answers, IsBound}
use Rattle.gq_bound.specs.Checks.{IsOfQuery}
use Rattle.gq_bound.specs.Columns.{conditions, columns, optional_conditions, sort_scope, whole_pattern}
use Rattle.gq_bound.specs.steps.Names.{query_names}
use Rattle.gq_bound.specs.Names.{FirstNames}
use Rattle.gq_bound.specs.Tested.{SharedTest, seen_elsewhere}
use Rattle.gq_bound.specs.steps.Parts.{bound_by, clause_reads, clauses_parts, counted_in, last_checks_in, known_conjuncts, known_seen, own_patterns, parts_of, ambiguous_in, reads_in, checks_in}
use Rattle.gq_bound.specs.Refusals.{first_of_all, trail_length, trail_with_optional, unknown_variable, variable_conflict, relationship_repeated, column_repeated, nothing_to_return, order_out_of_scope, ambiguous_order_name, function_unknown, argument_count, over_limit, max_columns, max_alternatives, alternatives_in, alternatives_of, each_alone, others, paths_of, too_many_patterns, too_many_reads, all_reads, first_refusal, checks_of, too_many_alternatives, exists_place, expressions, conflicting, first_in, seen}
use Rattle.gq_bound.specs.declared.optionals.ClauseParts.{ClauseParts}
use Rattle.gq_bound.specs.declared.parts.QueryParts.{QueryParts}
use Rattle.gq_bound.specs.declared.refusal.BindRefusal.{BindRefusal}
use Rattle.gq_bound.specs.declared.refusal.BindRefusal.TheVariants as refusal
use Rattle.gq_plan.specs.Reads.{Read, property}
use Rattle.gq_scopes.specs.Patterns.{Name, Pattern, pattern_of}
use Rattle.gq_resolve.specs.Renames.{ambiguous_name}
use Rattle.gq_resolve.specs.Resolving.{functions}
use Rattle.gq_scopes.specs.Scopes.{scope_of}
use Rattle.gq_resolve.specs.Uses.{of_other_form, unknown_name, unknown_function, wrong_count}
use Rattle.gq_core.specs.Cored.{HasCore}
use Rattle.gq_core.specs.declared.cored.Core.{Core}
use Rattle.gq_law_cuts.specs.Shaped.{core_pattern_of}
use Rattle.gq_syntax.proofs.Whole.{spelled_stands}
use Rattle.gq_syntax.specs.Spans.{SpelledQuery}
use Rattle.gq_ast.specs.steps.Spans.{StandsIn}
use Rattle.gq_ast.specs.declared.Query.{Query}

none_of : (f : Name → BindRefusal) (o : Option Name) → option_map f o ≡ None → o ≡ None
none_of f None e = refl
none_of f (Some n) e = cc e

module _ (query : Query) (text : List ℕ) where
  abbrev p : Pattern
  p = whole_pattern query

  abbrev names : FirstNames
  names = query_names text query

  named_by : option_map refusal.UnknownVariable names.variable ≡ None → option_map refusal.VariableConflict names.other_form ≡ None → option_map refusal.UnknownFunction names.function ≡ None
      → option_map refusal.ArgumentCount names.arguments ≡ None → IsNamed query text
  named_by v o f n = record {
    variables = sym (first_variable text query) ∙ none_of refusal.UnknownVariable names.variable v;
    forms = none_in_paths conflicting of_other_form text query (sym (first_other_form text query) ∙ none_of refusal.VariableConflict names.other_form o);
    functions = sym (first_function text query) ∙ none_of refusal.UnknownFunction names.function f;
    counts = sym (first_arguments text query) ∙ none_of refusal.ArgumentCount names.arguments n;
  }

  -- the checks before those of numbers
  abbrev early : List (Option BindRefusal)
  early =
      option_map refusal.UnknownVariable names.variable
      ∷ option_map refusal.VariableConflict names.other_form
      ∷ option_map refusal.RelationshipRepeated names.again
      ∷ column_repeated (columns functions text query)
      ∷ nothing_to_return query p
      ∷ order_out_of_scope text query
      ∷ ambiguous_in query p
      ∷ option_map refusal.UnknownFunction names.function
      ∷ option_map refusal.ArgumentCount names.arguments ∷ []

  abbrev numbers : List Read → List SharedTest → List Pattern → List (Option BindRefusal)
  numbers reads ts ps =
      too_many_patterns p (paths_of ts)
      ∷ too_many_reads reads p ts ps
      ∷ over_limit max_columns (length (columns functions text query)) refusal.TooManyColumns ∷ []

  abbrev clauses : List ClauseParts
  clauses = clauses_parts text (length query.clauses) (pattern_of query.clauses) query.optionals

  abbrev listed_reads : List Read
  listed_reads = map (λ e. property e.variable e.entry.key) p.entries ++ (reads_in (known_conjuncts text (conditions query)) ++ clause_reads clauses)

  abbrev listed_tests : List SharedTest
  listed_tests = known_seen text (conditions query) ++ flat_map seen_elsewhere (others text query)

  abbrev all_tests : List SharedTest
  all_tests = seen text query

  abbrev all_numbers : List (Option BindRefusal)
  all_numbers = numbers (all_reads query) all_tests (each_alone query)

  own : own_patterns clauses ≡ each_alone query
  own = own_are text (length query.clauses) (pattern_of query.clauses) query.optionals

  -- where all names and calls are known, the conjuncts read what the conditions read, and the tests are those of the conditions
  same_reads : first_of_all (early ++ numbers listed_reads listed_tests (own_patterns clauses)) ≡ first_of_all (early ++ all_numbers)
  same_reads =
      same_behind early (numbers listed_reads listed_tests (own_patterns clauses)) all_numbers (λ passed.
      let named : IsNamed query text = named_by passed.0 passed.1.0 passed.1.1.1.1.1.1.1.0 passed.1.1.1.1.1.1.1.1.0 in
      let reads : listed_reads ≡ all_reads query = reads_listed query text (known_conjuncts text (conditions query)) (known_conjuncts text (optional_conditions query)) (conjuncts_there query text named) (optional_there query text named) refl in
      let ts : listed_tests ≡ all_tests = tests_there query text named in
      λ i. first_of_all (numbers (reads i) (ts i) (own i)))

  -- the expressions that are gone through are those of the definition
  same_expressions : known_expressions query text ≡ expressions text query
  unfolding expressions
  same_expressions = refl

  same_checks : first_of_all (early ++ all_numbers) ≡ first_of_all (checks_of query text)
  same_checks =
      let unknown : option_map refusal.UnknownVariable names.variable ≡ unknown_variable text query =
      ap (option_map refusal.UnknownVariable) (first_variable text query ∙ ap (first_in unknown_name) same_expressions) in
      let form : option_map refusal.VariableConflict names.other_form ≡ variable_conflict text query = ap (option_map refusal.VariableConflict) (first_other_form text query) in
      let again : option_map refusal.RelationshipRepeated names.again ≡ relationship_repeated text query = ap (option_map refusal.RelationshipRepeated) (first_again text query) in
      let ambiguous : ambiguous_in query p ≡ ambiguous_order_name text query =
      ap (option_map refusal.AmbiguousOrderName) (sorts_same (λ _. ambiguous_name (scope_of p) query.items) (scope_of p) (sort_scope functions text query) (λ u. refl) query.order) in
      let function : option_map refusal.UnknownFunction names.function ≡ function_unknown text query =
      ap (option_map refusal.UnknownFunction) (first_function text query ∙ ap (first_in (λ _. unknown_function)) same_expressions) in
      let count : option_map refusal.ArgumentCount names.arguments ≡ argument_count text query =
      ap (option_map refusal.ArgumentCount) (first_arguments text query ∙ ap (first_in (λ _. wrong_count)) same_expressions) in
      λ i.
      first_of_all
      (unknown i
      ∷ form i
      ∷ again i
      ∷ column_repeated (columns functions text query)
      ∷ nothing_to_return query p
      ∷ order_out_of_scope text query
      ∷ ambiguous i
      ∷ function i
      ∷ count i
      ∷ all_numbers)

  abbrev found : Option BindRefusal
  found = first_of_all (checks_in text query (parts_of text query))

  checked : found ≡ first_of_all (checks_of query text)
  unfolding parts_of
  checked = same_reads ∙ same_checks

  named_parts : found ≡ None → IsNamed query text
  unfolding parts_of
  named_parts e =
      let passed = each_none (early ++ numbers listed_reads listed_tests (own_patterns clauses)) e in
      named_by passed.0 passed.1.0 passed.1.1.1.1.1.1.1.0 passed.1.1.1.1.1.1.1.1.0

  matched_is : (parts_of text query).matched ≡ pattern_of query.clauses
  unfolding parts_of
  matched_is = refl

  own_is : own_patterns (parts_of text query).optionals ≡ each_alone query
  unfolding parts_of
  own_is = own

  tests_are : (parts_of text query).exists ≡ listed_tests
  unfolding parts_of
  tests_are = refl

  pattern_is : (parts_of text query).pattern ≡ whole_pattern query
  unfolding parts_of
  pattern_is = refl

  module _ (catalog : Tables) where
    -- the checks behind the others
    abbrev lasts : List (Option BindRefusal)
    lasts = too_many_alternatives text query catalog ∷ trail_length (whole_pattern query) ∷ trail_with_optional query (whole_pattern query) ∷ exists_place (seen text query) ∷ []

    abbrev last : Option BindRefusal
    last = first_of_all lasts

    refusal_is : first_refusal query text catalog ≡ option_or found last
    unfolding first_refusal
    refusal_is = first_append (checks_of query text) lasts ∙ ap (λ o. option_or o last) (sym checked)

    answered : (e : BindRefusal) → (IsOfQuery e → first_refusal query text catalog ≡ Some e) → Answers query text catalog (Err e)
    answered (refusal.Memory why) h = tt
    answered e h = h tt

    -- a check refuses the query
    pub refused_early : (parts : QueryParts) (e : BindRefusal) → parts ≡ parts_of text query → (IsOfQuery e → first_of_all (checks_in text query parts) ≡ Some e)
        → Answers query text catalog (Err e)
    refused_early parts e is h =
        answered e (λ q. refusal_is ∙ ap (λ o. option_or o last) (sym (ap (λ ps. first_of_all (checks_in text query ps)) is) ∙ h q))

    module _ (parts : QueryParts) (is : parts ≡ parts_of text query) (passed : first_of_all (checks_in text query parts) ≡ None) (core : Option Core) (has : HasCore query.clauses core) where
      passes : found ≡ None
      passes = sym (ap (λ ps. first_of_all (checks_in text query ps)) is) ∙ passed

      matched_so : parts.matched ≡ pattern_of query.clauses
      matched_so = ap (λ (ps : QueryParts). ps.matched) is ∙ matched_is

      pattern_so : parts.pattern ≡ whole_pattern query
      pattern_so = ap (λ (ps : QueryParts). ps.pattern) is ∙ pattern_is

      own_so : own_patterns parts.optionals ≡ each_alone query
      own_so = ap (λ (ps : QueryParts). own_patterns ps.optionals) is ∙ own_is

      tests_so : parts.exists ≡ seen text query
      tests_so = ap (λ (ps : QueryParts). ps.exists) is ∙ tests_are ∙ tests_there query text (named_parts passes)

      core_so : counted_in core parts.matched ≡ core_pattern_of query.clauses
      core_so = ap (counted_in core) matched_so ∙ counted_core query core has

      lasts_so : last_checks_in catalog query parts (counted_in core parts.matched) ≡ lasts
      lasts_so i =
          over_limit max_alternatives (length (pattern_alternatives catalog (core_so i)) + (alternatives_of catalog (own_so i) + alternatives_in catalog (paths_of (tests_so i)))) refusal.TooManyAlternatives
          ∷ trail_length (pattern_so i)
          ∷ trail_with_optional query (pattern_so i)
          ∷ exists_place (tests_so i) ∷ []

      rest : first_refusal query text catalog ≡ first_of_all (last_checks_in catalog query parts (counted_in core parts.matched))
      rest = refusal_is ∙ ap (λ o. option_or o last) passes ∙ sym (ap first_of_all lasts_so)

      -- one of the last checks refuses it
      pub refused_last : (e : BindRefusal) → (IsOfQuery e → first_of_all (last_checks_in catalog query parts (counted_in core parts.matched)) ≡ Some e) → Answers query text catalog (Err e)
      refused_last e h = answered e (λ q. rest ∙ h q)

      -- no check refuses it
      pub accepted : (choices : List Choice) → SpelledQuery text query → first_of_all (last_checks_in catalog query parts (counted_in core parts.matched)) ≡ None
          → choices ≡ pattern_alternatives catalog (counted_in core parts.matched) → IsBound query text catalog (bound_by text catalog query parts core choices)
      accepted choices spelled placed all =
          subst (λ ps. IsBound query text catalog (bound_by text catalog query ps core choices)) (sym is)
          (subst (λ cs. IsBound query text catalog (bound_by text catalog query (parts_of text query) core cs)) (sym (all ∙ ap (pattern_alternatives catalog) core_so))
          (bound_by_core query text catalog (rest ∙ placed) (all_unnamed text query spelled) (spelled_stands text query spelled) (named_parts passes) core has))

    -- a refusal that is no want of memory
    pub refused_so : (e : BindRefusal) → IsOfQuery e → Answers query text catalog (Err e) → Some e ≡ first_refusal query text catalog
    refused_so (refusal.Memory why) of h = absurd of
    refused_so e of h = sym h

-- each path that the parts of a query test begins and ends between characters
pub parts_whole : (text : List ℕ) (query : Query) → StandsIn text query → All (IsWholeTest text) (parts_of text query).exists
unfolding parts_of
parts_whole text query stands = tests_whole text query (others text query) stands

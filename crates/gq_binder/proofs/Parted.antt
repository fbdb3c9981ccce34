-- The alternatives of a bound query part the matches of its core, and each allows those that lie in it and make its tests true.
use Rattle.std.proofs.Common.{◌≡◌, ℕ, ◌+◌, Bool, true, false, cond, Result, Ok, Err, List, [], ◌∷◌, map, filter, length, IsTrue, refl, sym, ap, ◌∙◌, subst, arith}
use Rattle.std.specs.Prelude.{IfOk}
use Rattle.std.specs.List.{AllByRecursion}
use Rattle.std.proofs.lemmas.List.Elements.{All-from_recursion}
use Rattle.gq_base.specs.Catalogs.{Tables}
use Rattle.gq_base.specs.Plain.{Graph}
use Rattle.gq_base.specs.Valid.{is_valid}
use Rattle.gq_alternatives.proofs.Partition.{lies_once}
use Rattle.gq_alternatives.proofs.SoundPatterns.{each_alternative}
use Rattle.gq_alternatives.specs.Choices.{IsChoice}
use Rattle.gq_alternatives.specs.Alternatives.{Choice, agrees, pattern_alternatives, typed_of}
use Rattle.gq_alternatives.specs.Matches.{is_match, pattern_matches}
use Rattle.gq_ast.specs.declared.Query.{Query}
use Rattle.gq_bound.specs.Binding.{Answers, IsBound}
use Rattle.gq_bound.specs.declared.refusal.BindRefusal.{BindRefusal}
use Rattle.gq_core.specs.Entries.{entry_test}
use Rattle.gq_law_answers.proofs.Alone.{allows_passing}
use Rattle.gq_law_answers.proofs.Entries.{tests_entries}
use Rattle.gq_law_answers.proofs.Matched.{has_tables}
use Rattle.gq_law_answers.specs.Answered.{allowed}
use Rattle.gq_law_cuts.proofs.Plain.{plain_cuts}
use Rattle.gq_law_cuts.specs.Cuts.{core_size}
use Rattle.gq_law_cuts.specs.Shaped.{core_pattern_of}
use Rattle.gq_law_cuts.specs.Typing.{core_typed, stays_in}
use Rattle.gq_plan.specs.Counts.{bit, hits}
use Rattle.gq_plan.proofs.Counts.{total_map}
use Rattle.gq_plan.proofs.Each.{each_kept, each_map, each_then}
use Rattle.gq_plan.proofs.Products.{IsSized, each_sized}
use Rattle.gq_plan.specs.Allowed.{lies_in}
use Rattle.gq_plan.specs.Assignments.{Assignment, assignments}
use Rattle.gq_plan.specs.declared.Bound.{Bound}
use Rattle.gq_plan.specs.declared.NamedExpr.{NamedExpr}
use Rattle.gq_plan.specs.declared.Typed.{Typed}
use Rattle.gq_scopes.specs.Patterns.{Pattern}
use Rattle.gq_binder.specs.Parted.{PartMatches, PartMatchesIn, core_passing}

-- as many items are kept as pass
many : {X : Type 0} (p : X → Bool) (xs : List X) → length (filter p xs) ≡ hits p xs
many p [] = refl
many p (x ∷ xs) = go (p x) (many p xs)
  where
    go : (b : Bool) → length (filter p xs) ≡ hits p xs → length (cond b (x ∷ filter p xs) (filter p xs)) ≡ bit b + hits p xs
    go true e = omega (arith, e)
    go false e = omega (arith, e)

module _ (g : Graph) (query : Query) (text : List ℕ) (bound : Bound) (real : IsTrue (is_valid g)) (is : IsBound query text g.catalog bound) where
  abbrev p : Pattern
  p = core_pattern_of query.clauses

  abbrev entries : List NamedExpr
  entries = map (entry_test text) p.entries

  abbrev staying : List NamedExpr
  staying = filter (stays_in (core_size query.clauses)) bound.conjuncts

  abbrev typed : Choice → Typed
  typed c = core_typed g.catalog p (stays_in (core_size query.clauses)) entries bound.conjuncts c

  abbrev Once : Assignment → Type 0
  Once t = length (filter (λ y. lies_in g y t) bound.alternatives) ≡ 1

  abbrev Passing : Typed → Type 0
  Passing y = allowed g y ≡ core_passing query g y

  typed_are : bound.alternatives ≡ map typed (pattern_alternatives g.catalog p)
  typed_are = is.alternatives

  -- a match lies in one alternative
  once : (t : Assignment) → IsSized g (length p.names) (length p.rels) t × (is_match g p t ≡ true) → Once t
  unfolding typed_of core_typed
  once t h =
      many (λ y. lies_in g y t) bound.alternatives
      ∙ ap (hits (λ y. lies_in g y t)) typed_are
      ∙ total_map (λ y. bit (lies_in g y t)) typed (pattern_alternatives g.catalog p)
      ∙ lies_once g p entries staying (has_tables g real) t h

  each_once : AllByRecursion Once (pattern_matches g p)
  unfolding pattern_matches
  each_once =
      each_then (λ t. IsSized g (length p.names) (length p.rels) t × (is_match g p t ≡ true)) Once once (pattern_matches g p)
      (each_kept (IsSized g (length p.names) (length p.rels)) (is_match g p) (assignments (length p.names) (length p.rels) g) (each_sized (length p.names) (length p.rels) g))

  -- an alternative allows the matches that lie in it and make its tests true
  passing : (c : Choice) → IsChoice g.catalog (length p.names) (length p.rels) c × (agrees g.catalog p c ≡ true) → Passing (typed c)
  unfolding typed_of core_typed
  passing c h = allows_passing g p entries staying (tests_entries g p text) c h

  each_passing : AllByRecursion Passing bound.alternatives
  each_passing =
      subst (AllByRecursion Passing) (sym typed_are)
      (each_map (λ c. IsChoice g.catalog (length p.names) (length p.rels) c × (agrees g.catalog p c ≡ true)) Passing typed passing (pattern_alternatives g.catalog p) (each_alternative g.catalog p))

  parted : PartMatchesIn g query bound
  parted = record {
    once = All-from_recursion Once (pattern_matches g p) each_once;
    passing = All-from_recursion Passing bound.alternatives each_passing;
    plain = λ none. ap (pattern_matches g) (plain_cuts query.clauses none).2;
  }

-- what binding answers parts its matches
pub part_matches : (query : Query) (text : List ℕ) (catalog : Tables) (result : Result Bound BindRefusal) → Answers query text catalog result → IfOk result (PartMatches query catalog)
part_matches query text catalog (Ok bound) is = λ g same real. parted g query text bound real (subst (λ tables. IsBound query text tables bound) (sym same) is)
part_matches query text catalog (Err refused) is = tt

-- The trails of a bound query can be walked behind its alternatives.
use Rattle.std.proofs.Common.{◌≡◌, ℕ, Bool, true, false, List, [], ◌∷◌, length, nat_lt, refl, sym, ap, ◌∙◌, subst, arith}
use Rattle.std.specs.List.{AllByRecursion}
use Rattle.std.proofs.lemmas.List.{length-map}
use Rattle.std.proofs.lemmas.List.Elements.{All-from_recursion}
use Rattle.std.specs.Prelude.{◌+◌, ◌<◌, ◌≤◌, All, if◌then◌else◌}
use Rattle.gq_base.specs.Catalogs.{Tables}
use Rattle.gq_bound.specs.Binding.{IsBound}
use Rattle.gq_bound.specs.Columns.{whole_pattern}
use Rattle.gq_bound.specs.Optionals.{AreOptional}
use Rattle.gq_core.proofs.Plain.{no_trail}
use Rattle.gq_core.specs.Cored.{has_trail}
use Rattle.gq_core.specs.Entries.{entry_test}
use Rattle.gq_law_cores.proofs.Starting.{cores_are_in_turn, parts_have_ends, parts_have_length}
use Rattle.gq_law_cuts.proofs.Coring.{cuts_are_cored}
use Rattle.gq_law_cuts.proofs.Plain.{plain_cuts}
use Rattle.gq_law_cuts.specs.Cuts.{HaveLengths, core_first, core_size, cored_of, trailed_of}
use Rattle.gq_scopes.specs.Renumbering.{placed_in}
use Rattle.gq_law_cuts.specs.Plain.{HaveNoTrail}
use Rattle.gq_law_reaches.specs.Core.{core_nodes, parts_from}
use Rattle.gq_law_reaches.specs.Cores.{IsCored}
use Rattle.gq_law_reaches.specs.Reaches.{TrailPattern}
use Rattle.gq_plan.proofs.Each.{each_map, each_then}
use Rattle.gq_plan.specs.declared.Bound.{Bound}
use Rattle.gq_plan.specs.declared.OptionalPart.{OptionalPart}
use Rattle.gq_plan.specs.declared.TrailPart.{TrailPart}
use Rattle.gq_plan.specs.declared.Typed.{Typed}
use Rattle.gq_scopes.specs.Patterns.{Pattern, pattern_of}
use Rattle.gq_ast.specs.declared.Clause.{Clause}
use Rattle.gq_ast.specs.declared.Query.{Query}
use Rattle.gq_trails.specs.Trekking.{AreInTurn, HasLength}

abbrev IsLong : TrailPattern → Type 0
IsLong w = (1 ≤ w.low) × (w.low ≤ w.high) × (w.high ≤ 16)

-- numbered anew, trails have their lengths
long_cored : (clauses : List Clause) → HaveLengths clauses → AllByRecursion IsLong (cored_of clauses).trails
unfolding cored_of
long_cored clauses h =
    each_map IsLong IsLong
    (λ (t : TrailPattern). record t { left = placed_in (core_first (trailed_of clauses)) t.left; right = placed_in (core_first (trailed_of clauses)) t.right })
    (λ t is. is) (trailed_of clauses).trails h

is_cored : (clauses : List Clause) → HaveLengths clauses → IsCored (core_size clauses) (cored_of clauses)
is_cored clauses h = cuts_are_cored clauses (each_then IsLong (λ (w : TrailPattern). 1 ≤ w.low) (λ w is. is.0) (trailed_of clauses).trails h)

-- each variable has a name
names_long : (clauses : List Clause) → length (cored_of clauses).pattern.names ≡ length (cored_of clauses).pattern.node_names
unfolding cored_of
names_long clauses = length-map (core_first (trailed_of clauses)) _ ∙ sym (length-map (core_first (trailed_of clauses)) _)

none_bound : (text : List ℕ) (catalog : Tables) (number : ℕ) (p : Pattern) (parts : List OptionalPart) → AreOptional text catalog number p [] parts → parts ≡ []
none_bound text catalog number p [] are = refl
none_bound text catalog number p (part ∷ parts) are = absurd are

module _ (query : Query) (text : List ℕ) (catalog : Tables) (bound : Bound) (is : IsBound query text catalog bound) where
  -- trails have a length
  pub trail_lengths : All HasLength bound.trails
  trail_lengths = subst (All HasLength) (sym is.trails) (parts_have_length (entry_test text) (cored_of query.clauses) (long_cored query.clauses is.lengths))

  no_parts : HaveNoTrail query.clauses → bound.trails ≡ []
  no_parts none =
      is.trails ∙ ap (parts_from (entry_test text) (cored_of query.clauses).pattern (core_nodes (cored_of query.clauses))) (plain_cuts query.clauses none).1

  ends_cored : All (λ (p : TrailPart). p.to < length (cored_of query.clauses).pattern.node_names) bound.trails
  ends_cored =
      let q = cored_of query.clauses in
      subst (λ n. All (λ (p : TrailPart). p.to < n) bound.trails) (names_long query.clauses)
      (subst (All (λ (p : TrailPart). p.to < length q.pattern.names)) (sym is.trails)
      (parts_have_ends (entry_test text) (core_size query.clauses) q (is_cored query.clauses is.lengths)))

  -- they end at variables of the query
  pub trail_ends : All (λ (p : TrailPart). p.to < length bound.node_names) bound.trails
  trail_ends = go (has_trail query.clauses) refl
    where
      go : (b : Bool) → has_trail query.clauses ≡ b → All (λ (p : TrailPart). p.to < length bound.node_names) bound.trails
      go true e =
          let named : bound.node_names ≡ (cored_of query.clauses).pattern.node_names =
          is.resolves.node_names ∙ ap (λ b. (if b then (cored_of query.clauses).pattern else whole_pattern query).node_names) e in
          subst (λ ns. All (λ (p : TrailPart). p.to < length ns) bound.trails) (sym named) ends_cored
      go false e = subst (All (λ (p : TrailPart). p.to < length bound.node_names)) (sym (no_parts (no_trail query.clauses e))) (All-from_recursion (λ (p : TrailPart). p.to < length bound.node_names) [] tt)

  -- each begins where its turn comes at a variable that is known then
  pub trail_turns : All (λ (y : Typed). AreInTurn bound.trails (λ v. nat_lt v (length y.nodes))) bound.alternatives
  trail_turns = λ i d low.
      subst (λ n. AreInTurn bound.trails (λ v. nat_lt v n)) (sym (is.node_counts i d low))
      (subst (λ ps. AreInTurn ps (λ v. nat_lt v (core_size query.clauses))) (sym is.trails)
      (cores_are_in_turn (entry_test text) (core_size query.clauses) (cored_of query.clauses) (is_cored query.clauses is.lengths)))

  -- there are few of them
  pub trail_count : All (λ (y : Typed). length bound.trails + length y.rels ≤ 24) bound.alternatives
  trail_count = λ i d low. omega (arith, is.trail_width, is.rel_counts i d low)

  -- and none beside optional clauses
  pub trails_apart : (bound.optionals ≡ [] → ⊥) → bound.trails ≡ []
  trails_apart some = go query.optionals refl
    where
      go : (cs : List Clause) → query.optionals ≡ cs → bound.trails ≡ []
      go [] e = absurd (some (none_bound text catalog (length query.clauses) (pattern_of query.clauses) bound.optionals
          (subst (λ cs. AreOptional text catalog (length query.clauses) (pattern_of query.clauses) cs bound.optionals) e is.optionals)))
      go (c ∷ cs) e = no_parts (is.apart (λ none. let clash : ◌≡◌ {A = List Clause} (c ∷ cs) [] = sym e ∙ none in cc clash))

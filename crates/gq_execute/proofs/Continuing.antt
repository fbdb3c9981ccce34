-- The rows by which trails continue an assignment, as they are walked, are those by which they continue it in a query's meaning.
use Rattle.std.proofs.Common.{◌≡◌, ◌∙◌, ℕ, true, Some, List, length, map, slice_get, refl, sym, ap, subst}
use Rattle.std.specs.List.{AllByRecursion}
use Rattle.std.proofs.lemmas.List.Elements.{All-from_recursion}
use Rattle.std.proofs.lemmas.Option.{get_or_from_slice_get, slice_get_within}
use Rattle.gq_alternatives.proofs.SoundPatterns.{each_alternative}
use Rattle.gq_alternatives.specs.Choices.{IsChoice}
use Rattle.gq_alternatives.specs.Alternatives.{Choice, Reading, agrees, pattern_alternatives, typed_of, typed_rels}
use Rattle.gq_bound.specs.Binding.{IsBound}
use Rattle.gq_core.specs.Entries.{entry_test}
use Rattle.gq_drain.proofs.Continuing.{own_row}
use Rattle.gq_drain.specs.Becoming.{reached_in, rows_by, wide_of}
use Rattle.gq_law_cores.proofs.Starting.{owed_are_trail_rows}
use Rattle.gq_law_cores.specs.Made.{trail_rows}
use Rattle.gq_law_cuts.specs.Cuts.{core_size, cored_of}
use Rattle.gq_law_cuts.specs.Shaped.{core_pattern_of}
use Rattle.gq_law_cuts.specs.Typing.{core_typed, stays_in}
use Rattle.gq_law_reaches.specs.Core.{trail_parts}
use Rattle.gq_law_reaches.specs.Reaches.{Trailed}
use Rattle.gq_plan.proofs.Each.{each_map}
use Rattle.gq_plan.specs.Assignments.{Assignment}
use Rattle.gq_plan.specs.declared.TrailPart.{TrailPart}
use Rattle.gq_plan.specs.declared.Typed.{Typed}
use Rattle.gq_scopes.specs.Patterns.{Pattern}
use Rattle.gq_trails.specs.Trekking.{continuations}
use Rattle.gq_execute.specs.Replies.{Question, rows_of}

-- ---- rows in the query's meaning

-- the relationships of an alternative are those of patterns, each in a reading
record HasReadings (p : Pattern) (y : Typed) : Type 0 where
  readings : List Reading
  counted : length readings ≡ length p.rels
  rels : y.rels ≡ typed_rels p.rels readings

module _ (a : Question) (text : List ℕ) (is : IsBound a.query text a.graph.catalog a.bound) where
  abbrev q : Trailed
  q = cored_of a.query.clauses

  abbrev core : Pattern
  core = core_pattern_of a.query.clauses

  all_read : AllByRecursion (HasReadings q.pattern) a.bound.alternatives
  unfolding core_typed typed_of
  all_read =
      subst (AllByRecursion (HasReadings q.pattern)) (sym is.alternatives)
      (each_map (λ c. IsChoice a.graph.catalog (length core.names) (length core.rels) c × (agrees a.graph.catalog core c ≡ true)) (HasReadings q.pattern)
      (core_typed a.graph.catalog core (stays_in (core_size a.query.clauses)) (map (entry_test text) core.entries) a.bound.conjuncts)
      (λ (c : Choice) h. record { readings = c.readings; counted = h.0.reading_count; rels = refl }) (pattern_alternatives a.graph.catalog core) (each_alternative a.graph.catalog core))

  has_readings : (k : ℕ) (y : Typed) → slice_get a.bound.alternatives k ≡ Some y → HasReadings q.pattern y
  has_readings k y e =
      subst (HasReadings q.pattern) (get_or_from_slice_get a.bound.alternatives k y y e)
      (All-from_recursion (HasReadings q.pattern) a.bound.alternatives all_read k y (slice_get_within a.bound.alternatives k y e))

  -- they are the rows that are walked
  pub rows_are : (k : ℕ) (y : Typed) → slice_get a.bound.alternatives k ≡ Some y → (t : Assignment) → rows_by a.graph a.bound.trails y t ≡ rows_of a t
  rows_are k y e t =
      let has = has_readings k y e in
      let parts : List TrailPart = trail_parts (entry_test text) q in
      ap (λ ps. rows_by a.graph ps y t) is.trails
      ∙ ap (λ rs. reached_in (continuations a.graph parts rs (wide_of t))) has.rels
      ∙ owed_are_trail_rows a.graph (entry_test text) q has.readings t (wide_of t) has.counted (own_row t)
      ∙ ap (λ ps. trail_rows a.graph q.pattern ps t) (sym is.trails)

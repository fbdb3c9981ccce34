-- Plans of the alternatives of a query's core, continued by trails, make what the matches of the query make.
use Rattle.std.proofs.Common.{◌≡◌, ℕ, ◌≤◌, List, [], map, IsPermutation, refl, sym, ap₂, ◌∙◌, subst}
use Rattle.std.proofs.lemmas.List.Sorted.{IsPermutation-trans}
use Rattle.gq_base.specs.Plain.{Graph}
use Rattle.gq_alternatives.specs.Matches.{pattern_matches}
use Rattle.gq_core.specs.Entries.{entry_test}
use Rattle.gq_law_reaches.specs.Bags.{AreShort}
use Rattle.gq_law_reaches.specs.Core.{core_pattern}
use Rattle.gq_law_reaches.specs.Cores.{IsCored}
use Rattle.gq_law_reaches.specs.Reaches.{Reach, TrailPattern, reach_choices, reaches, without_trails}
use Rattle.gq_law_reaches.proofs.Untrailed.{plain_reaches}
use Rattle.gq_plan.proofs.Each.{each_map, each_then}
use Rattle.gq_plan.specs.Marked.{made_of}
use Rattle.gq_scopes.specs.Patterns.{Pattern, pattern_of}
use Rattle.gq_ast.specs.declared.Clause.{Clause}
use Rattle.gq_law_cuts.specs.Cuts.{HaveLengths, core_first, core_of, core_size, cored_of, trailed_of}
use Rattle.gq_scopes.specs.Renumbering.{placed_in}
use Rattle.gq_law_cores.specs.Made.{made_by}
use Rattle.gq_law_cuts.specs.Shaped.{core_pattern_of}
use Rattle.gq_law_cuts.specs.Typing.{stays_in}
use Rattle.gq_law_cores.specs.Whole.{AlternativesPartTrails, EachPlanMakesTrails, PlainTrailMatches, core_rows, trail_matches}
use Rattle.gq_law_cuts.proofs.Coring.{cuts_are_cored}
use Rattle.gq_law_cores.proofs.Entries.{entry_tests_are_tests}
use Rattle.gq_law_cores.proofs.Making.{alternatives_part_continued, each_plan_makes_continued}
use Rattle.gq_law_cuts.proofs.Plain.{plain_cuts}
use Rattle.gq_law_cores.proofs.Walked.{trails_continue, trails_make_matches}

pub cored : (clauses : List Clause) → HaveLengths clauses → IsCored (core_size clauses) (cored_of clauses)
cored clauses lengths =
    cuts_are_cored clauses
    (each_then (λ (w : TrailPattern). (1 ≤ w.low) × (w.low ≤ w.high) × (w.high ≤ 16)) (λ (w : TrailPattern). 1 ≤ w.low) (λ w h. h.0) (trailed_of clauses).trails lengths)

short : (clauses : List Clause) → HaveLengths clauses → AreShort (cored_of clauses).trails
unfolding cored_of
short clauses lengths =
    let order : List ℕ = core_first (trailed_of clauses) in
    each_map (λ (w : TrailPattern). (1 ≤ w.low) × (w.low ≤ w.high) × (w.high ≤ 16)) (λ (w : TrailPattern). w.high ≤ 16)
    (λ (w : TrailPattern). record w { left = placed_in order w.left; right = placed_in order w.right }) (λ w h. h.2) (trailed_of clauses).trails lengths

pub each_plan_makes_trails : EachPlanMakesTrails
each_plan_makes_trails g text clauses bound later real lengths has =
    each_plan_makes_continued g text (core_pattern_of clauses) (stays_in (core_size clauses)) bound (core_rows g text clauses) later real has
    (trails_continue g (entry_test text) (core_size clauses) (cored_of clauses) (cored clauses lengths))

-- the paths of a pattern do not tell its matches
same_matches : (g : Graph) (k : ℕ) (p : Pattern) → pattern_matches g (core_of k p) ≡ pattern_matches g (core_pattern k p)
unfolding pattern_matches
same_matches g k p = refl

pub alternatives_part_trails : AlternativesPartTrails
alternatives_part_trails g text clauses bound later real lengths has =
    IsPermutation-trans _ _ _
    (alternatives_part_continued g text (core_pattern_of clauses) (stays_in (core_size clauses)) bound (core_rows g text clauses) later real has)
    (subst (λ ts. IsPermutation (made_by g bound.conjuncts (core_rows g text clauses) later ts) (made_of g bound.conjuncts later (trail_matches g clauses))) (sym (same_matches g (core_size clauses) (cored_of clauses).pattern))
    (trails_make_matches g (entry_test text) (core_size clauses) (cored_of clauses) bound.conjuncts later real (entry_tests_are_tests text) (cored clauses lengths) (short clauses lengths)))

-- nor do the variables of whole paths
same_reaches : (g : Graph) (p : Pattern) (vs : List ℕ) → map (λ (r : Reach). r.base) (reaches g (record { pattern = p; trails = []; alone = vs })) ≡ map (λ (r : Reach). r.base) (reaches g (without_trails p))
unfolding reaches reach_choices
same_reaches g p vs = refl

pub plain_trail_matches : PlainTrailMatches
plain_trail_matches g clauses none =
    let plainly = plain_cuts clauses none in
    ap₂ (λ p ws. map (λ (r : Reach). r.base) (reaches g (record { pattern = p; trails = ws; alone = (cored_of clauses).alone }))) plainly.0 plainly.1
    ∙ same_reaches g (pattern_of clauses) (cored_of clauses).alone
    ∙ plain_reaches g (pattern_of clauses)

-- Without trails the matches of a query with trails are its matches.
use Rattle.std.proofs.Common.{◌≡◌, Bool, true, false, ◌&&◌, cond, List, [], ◌∷◌, map, filter, flat_map, length, refl, ap}
use Rattle.gq_base.specs.Plain.{Graph}
use Rattle.gq_alternatives.specs.Matches.{is_match, pattern_matches}
use Rattle.gq_plan.specs.Assignments.{Assignment, assignments, tuples}
use Rattle.gq_scopes.specs.Patterns.{Pattern}
use Rattle.gq_law_reaches.specs.Continued.{PlainReaches}
use Rattle.gq_law_reaches.specs.Reaches.{Reach, is_reach, reach_choices, reaches, without_trails}

abbrev bare : Assignment → Reach
bare t = record { base = t; trails = [] }

bases : (g : Graph) (p : Pattern) (ts : List Assignment)
    → map (λ (r : Reach). r.base) (filter (is_reach g (without_trails p)) (flat_map (λ t. bare t ∷ []) ts)) ≡ filter (is_match g p) ts
bases g p [] = refl
bases g p (t ∷ ts) = go (is_match g p t) (bases g p ts)
  where
    rest : List Reach
    rest = filter (is_reach g (without_trails p)) (flat_map (λ s. bare s ∷ []) ts)

    go : (b : Bool) → map (λ (r : Reach). r.base) rest ≡ filter (is_match g p) ts
        → map (λ (r : Reach). r.base) (cond (b && (true && true)) (bare t ∷ rest) rest) ≡ cond b (t ∷ filter (is_match g p) ts) (filter (is_match g p) ts)
    go true more = ap (λ l. t ∷ l) more
    go false more = more

pub plain_reaches : PlainReaches
unfolding reaches reach_choices pattern_matches tuples
plain_reaches g p = bases g p (assignments (length p.names) (length p.rels) g)

-- The law that trails are met exactly where each is as it is meant, and all relationships of a clause are different.
use Rattle.std.specs.Prelude.{◌≡◌, ℕ, nat_le, Bool, true, false, ◌&&◌, List, [], ◌∷◌, ◌++◌, length, slice_get}
use Rattle.std.specs.List.{list_all}
use Rattle.gq_base.specs.Lists.{all_distinct}
use Rattle.gq_base.specs.Plain.{Graph}
use Rattle.gq_base.specs.declared.RelId.{RelId}
use Rattle.gq_plan.specs.Assignments.{Assignment, is_rel, same_rel}
use Rattle.gq_law_trails.specs.Walks.{chained, is_of_type}
use Rattle.gq_plan.specs.declared.TrailPart.{TrailPart}
use Rattle.gq_law_trails.specs.Apart.{lists_for}
use Rattle.gq_law_trails.specs.Met.{begun_at, end_fits, ended_at, trails_met, turned}

-- the relationships of a trail are of the graph and of its type, as many as they may be, and lead along the arrow from one end to the
-- other; and its other end is as asked where the trail binds it
abbrev pub trail_asked : Graph → TrailPart → Assignment → List RelId → Bool
trail_asked g p t l =
    (list_all (is_rel g) l
    && ((nat_le p.low (length l) && nat_le (length l) p.high)
    && (list_all (is_of_type g p.kind) l
    && chained g (begun_at p.way (slice_get t.nodes p.from) (slice_get t.nodes p.to)) (turned p.way l) (ended_at p.way (slice_get t.nodes p.from) (slice_get t.nodes p.to)))))
    && end_fits g p (slice_get t.nodes p.to)

abbrev pub trails_asked : Graph → List TrailPart → Assignment → List (List RelId) → Bool
trails_asked g [] t [] = true
trails_asked g [] t (l ∷ ls) = false
trails_asked g (p ∷ ps) t [] = false
trails_asked g (p ∷ ps) t (l ∷ ls) = trail_asked g p t l && trails_asked g ps t ls

-- where the relationships of patterns are different in each clause
abbrev pub TrailsMetAsMeant : Type 0
TrailsMetAsMeant =
    (g : Graph) (patterns : ℕ → List RelId) (ps : List TrailPart) (t : Assignment) (ls : List (List RelId))
    → length ps ≡ length ls → ((clause : ℕ) → all_distinct same_rel (patterns clause) ≡ true)
    → trails_met g patterns ps t [] ls
    ≡ (trails_asked g ps t ls && list_all (λ (p : TrailPart). all_distinct same_rel (patterns p.clause ++ lists_for p.clause ps ls)) ps)

-- What trails that are walked have taken.
use Rattle.std.specs.Prelude.{ℕ, List, [], ◌∷◌}
use Rattle.gq_base.specs.declared.RelId.{RelId}
use Rattle.gq_plan.specs.declared.TrailPart.{TrailPart}
use Rattle.gq_trails.specs.Trekking.{Trekking}

-- the walks of trails with the numbers of their clauses, the latest first, in front of others
abbrev pub walks_with : List TrailPart → List (List RelId) → List (ℕ × List RelId) → List (ℕ × List RelId)
walks_with [] ls ws = ws
walks_with (q ∷ qs) [] ws = ws
walks_with (q ∷ qs) (l ∷ ls) ws = walks_with qs ls ((q.clause, l) ∷ ws)

-- those of the continuation that was reached last
abbrev pub walked_of : Trekking → List (ℕ × List RelId)
walked_of t = walks_with t.parts t.reached.lists []

-- What trails that were walked have taken: the walks of what was reached last.
use Rattle.std.proofs.Common.{◌≡◌, ◌∙◌, ℕ, zero, suc, ◌≤◌, true, List, [], ◌∷◌, drop, length, refl, sym, ap, arith}
use Rattle.std.proofs.lemmas.List.{drop_all}
use Rattle.gq_hops.specs.Walking.{Walking}
use Rattle.gq_law_trails.specs.Trails.{Trailing, with_list}
use Rattle.gq_plan.specs.declared.TrailPart.{TrailPart}
use Rattle.gq_trails.specs.Trekking.{Trekking}
use Rattle.gq_trails.specs.steps.Journeys.{Journey, frames_at, journey_of, row_at, walk_at, walked_at}
use Rattle.gq_trails.specs.steps.Standing.{IsOpen, IsTrekking, trekking_of}
use Rattle.gq_trails.specs.steps.Treks.{wrapped}
use Rattle.gq_trails.specs.steps.Walked.{walked_of, walks_with}
use Rattle.gq_trails.specs.declared.trails.Trails.TheInside.{Inside}
use Rattle.gq_trails.proofs.Beginning.{standing_open}
use Rattle.gq_trails.proofs.Fitting.{split_parts}

walks_at : (j : Journey) (ws : List Walking) (n : ℕ) (m : Trailing) → n ≤ length j.parts
    → walks_with j.parts (wrapped (frames_at j ws n) m).lists [] ≡ walks_with (drop n j.parts) m.lists (walked_at j.parts ws n)
unfolding frames_at walked_at wrapped
walks_at j ws zero m low = refl
walks_at j ws (suc n) m low =
    walks_at j ws n (with_list (walk_at ws n).rels m) (omega (arith, low))
    ∙ ap (λ (qs : List TrailPart). walks_with qs ((walk_at ws n).rels ∷ m.lists) (walked_at j.parts ws n)) (split_parts j.parts n (omega (arith, low)))

module _ (t : Inside) (m : Trekking) (view : trekking_of t ≡ m) where
  pub open_there : IsTrekking t → m.standing ≡ true → IsOpen t.route t.trek (length t.route.parts.now)
  open_there ready stands = standing_open t.state t.route t.trek ready.state (ap (λ (k : Trekking). k.standing) view ∙ stands)

  pub walked_there : walked_at t.route.parts.now t.trek.walkers.items (length t.route.parts.now) ≡ walked_of m
  walked_there =
      let n = length t.route.parts.now in
      let j = journey_of t.route t.trek.row in
      let ws = t.trek.walkers.items in
      sym (walks_at j ws n (record { row = row_at j ws n; lists = [] }) (omega arith)
      ∙ ap (λ (qs : List TrailPart). walks_with qs [] (walked_at t.route.parts.now ws n)) (drop_all n t.route.parts.now (omega arith)))
      ∙ ap walked_of view

-- A step of the search, by what its calls say: the walker at a depth is read, goes on, and stands in its place again.
use Rattle.std.proofs.Common.{◌≡◌, ◌≢◌, ℕ, suc, ◌+◌, ◌-◌, ◌<◌, Bool, true, false, Option, Some, List, [], ◌∷◌, get_or, length, set, refl, sym, ap, ◌∙◌, subst, arith}
use Rattle.std.proofs.lemmas.List.{get_or_read}
use Rattle.gq_base.specs.declared.NodeId.{NodeId}
use Rattle.gq_law_trails.specs.Trails.{Trailing}
use Rattle.gq_law_trails.specs.Walks.{end_of}
use Rattle.gq_hops.specs.Walking.{Walking}
use Rattle.gq_outer.specs.Rows.{Wide}
use Rattle.gq_trails.specs.steps.Ends.{may_end, settled}
use Rattle.gq_trails.specs.steps.Journeys.{AreWalkers, HaveWalks, IsAt, IsDone, IsStarted, IsTried, IsWalkerFor, Journey, journey_of, no_walk, part_at, walk_at}
use Rattle.gq_trails.specs.declared.trek.Route.{Route}
use Rattle.gq_trails.specs.declared.trek.Trek.{Trek}
use Rattle.gq_trails.proofs.Costs.{cost_at}
use Rattle.gq_trails.proofs.Journeying.{put_here, stays_for}
use Rattle.gq_trails.proofs.Searched.{IsGoing, carried, cost_back, cost_still, done, going_back, going_still, mid_walkers, same_journey, started_on, there_at, there_walkers, walks_there}

module _ (r : Route) (first : Wide) {owed : List Trailing} {ws : List Walking} {row : Wide} {n : ℕ} (going : IsGoing (journey_of r first) owed ws row n)
    {was : Walking} (read : was ≡ get_or ws n was) (w : Walking) (course : w.course ≡ was.course) (bounds : w.bounds ≡ was.bounds) where
  abbrev j : Journey
  j = journey_of r first

  inside : n < length ws
  inside = omega (arith, going.low, going.walkers.count)

  is_here : was ≡ walk_at ws n
  is_here = get_or_read ws n was inside read no_walk

  goes : IsWalkerFor j.graph (part_at j.parts n) w
  goes =
      stays_for j.graph (part_at j.parts n) (walk_at ws n) w (course ∙ ap (λ (v : Walking). v.course) is_here) (bounds ∙ ap (λ (v : Walking). v.bounds) is_here)
      (going.walkers.courses n going.low)

  -- ---- nothing is left there

  module _ (empty : was.owed ≡ []) where
    none : (walk_at ws n).owed ≡ []
    none = ap (λ (v : Walking). v.owed) (sym is_here) ∙ empty

    pub all_done : n ≡ 0 → IsDone j owed (set ws n w) row
    all_done lowest = record { walkers = mid_walkers j owed ws row n going w goes; none = done j owed ws row n going w goes none lowest }

    pub goes_back : n ≢ 0 → IsGoing j owed (set ws n w) row (n - 1)
    goes_back some = going_back j owed ws row n going w goes none some

    pub less_back : n ≢ 0 → cost_at j (set ws n w) (n - 1) < cost_at j ws n
    less_back some = cost_back j owed ws row n going w goes none some

  -- ---- it goes on, and where it ends is tried

  module _ (next : was.owed ≡ w.rels ∷ w.owed) (stands : w.standing ≡ true) {mid new : Trek} {may : Bool} (tried : IsTried r n mid new may) (put : mid.walkers.items ≡ set ws n w)
      (same : mid.row ≡ row) where
    next_here : (walk_at ws n).owed ≡ w.rels ∷ w.owed
    next_here = ap (λ (v : Walking). v.owed) (sym is_here) ∙ next

    ends : (at : Option NodeId) → end_of j.graph (part_at j.parts n).way at w.rels ≡ Some tried.end
    ends at =
        ap (λ (v : Walking). end_of j.graph (part_at j.parts n).way at v.rels) (sym (put_here ws n w inside))
        ∙ ap (λ us. end_of j.graph (part_at j.parts n).way at (walk_at us n).rels) (sym put) ∙ tried.ends at

    told : may ≡ may_end j.graph (part_at j.parts n) row tried.end
    told = tried.told ∙ ap (λ q. may_end j.graph (part_at j.parts n) q tried.end) same

    walkers_are : new.walkers.items ≡ set ws n w
    walkers_are = tried.walkers ∙ put

    row_is : new.row ≡ settled (part_at j.parts n) row tried.end
    row_is = tried.row ∙ ap (λ q. settled (part_at j.parts n) q tried.end) same

    -- it may not
    pub goes_still : may ≡ false → IsGoing j owed new.walkers.items new.row n
    goes_still off = carried (IsGoing j owed) (going_still j owed ws row n going w goes next_here stands tried.end ends tried.there (sym off ∙ told)) walkers_are row_is refl

    pub less_still : cost_at j new.walkers.items n < cost_at j ws n
    less_still = subst (λ us. cost_at j us n < cost_at j ws n) (sym walkers_are) (cost_still j owed ws row n going w goes next_here stands tried.end ends tried.there)

    -- or it may, and was the last
    module _ (on : may ≡ true) where
      pub all_walk : suc n ≡ length j.parts → HaveWalks j owed new.walkers.items new.row
      all_walk last =
          carried (λ us q i. HaveWalks j owed us q) {n = 0} {m = 0}
          (walks_there j owed ws row n going w goes next_here stands tried.end ends tried.there (sym on ∙ told) last) walkers_are row_is refl

      one : n + 1 ≡ suc n
      one = omega arith

      are : AreWalkers j new.walkers.items new.row
      are =
          carried (λ us q i. AreWalkers j us q) {n = 0} {m = 0}
          (there_walkers j owed ws row n going w goes next_here stands tried.end ends tried.there (sym on ∙ told)) walkers_are row_is refl

      same_way : journey_of r new.row ≡ j
      same_way = same_journey r first new.row new.walkers.items are

      -- or the next begins
      pub starts_at : IsAt (journey_of r new.row) new.walkers.items new.row (n + 1)
      starts_at =
          subst (λ k. IsAt k new.walkers.items new.row (n + 1)) (sym same_way)
          (carried (IsAt j) (there_at j owed ws row n going w goes next_here stands tried.end ends tried.there (sym on ∙ told)) walkers_are row_is one)

      pub starts_among : AreWalkers (journey_of r new.row) new.walkers.items new.row
      starts_among = subst (λ k. AreWalkers k new.walkers.items new.row) (sym same_way) are

      pub goes_up : suc n < length j.parts → (last : Trek) → IsStarted (journey_of r new.row) (n + 1) new last
          → IsGoing j owed last.walkers.items last.row (n + 1) × (cost_at j last.walkers.items (n + 1) < cost_at j ws n)
      goes_up more last started =
          started_on j owed ws row n going w goes next_here stands tried.end ends tried.there (sym on ∙ told) more new last (n + 1) (journey_of r new.row) walkers_are row_is one same_way started

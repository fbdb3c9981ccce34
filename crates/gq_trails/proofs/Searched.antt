-- The steps of the search for ways to walk all trails.
use Rattle.std.proofs.Common.{◌≡◌, ◌≢◌, ℕ, suc, ◌+◌, ◌-◌, ◌<◌, ◌≤◌, nat_eq, Bool, true, false, Option, Some, None, List, [], ◌∷◌, drop, filter, flat_map, length, set, refl, sym, ap, ap₂, ◌∙◌, subst, arith}
use Rattle.std.proofs.lemmas.List.{drop_all, length-set}
use Rattle.gq_base.specs.Valid.{is_valid}
use Rattle.gq_base.specs.declared.NodeId.{NodeId}
use Rattle.gq_base.specs.declared.RelId.{RelId}
use Rattle.gq_law_trails.specs.Bounds.{comes, may_end_at}
use Rattle.gq_law_trails.specs.Trails.{Trailing, after_trails, arrivals}
use Rattle.gq_law_trails.specs.Walks.{end_of}
use Rattle.gq_plan.specs.Assignments.{is_node}
use Rattle.gq_plan.specs.declared.TrailPart.{TrailPart}
use Rattle.gq_plan.specs.Meaning.{Partial, keep_if, look}
use Rattle.gq_outer.specs.Rows.{Wide, item_at}
use Rattle.gq_law_plans.specs.Bindings.{bound}
use Rattle.gq_law_plans.proofs.Lookups.{look_some}
use Rattle.gq_trails.specs.Trekking.{AreInTurn}
use Rattle.gq_hops.specs.Walking.{Walking}
use Rattle.gq_trails.specs.steps.Ends.{may_end, settled}
use Rattle.gq_trails.specs.steps.Journeys.{AreWalkers, DropsMissed, HaveWalks, IsAt, IsDone, IsFound, IsStarted, IsWalkerFor, Journey, frames_at, journey_of, owed_at, owed_behind, part_at, patterns_of, reached_at, row_at, turn_at, walk_at, walked_at, walks_on}
use Rattle.gq_trails.specs.steps.Treks.{around, met_by, ways_by}
use Rattle.gq_trails.specs.steps.Standing.{IsCome, IsOut, IsOver}
use Rattle.gq_trails.specs.declared.trek.Route.{Route}
use Rattle.gq_trails.specs.declared.trek.Trek.{Trek}
use Rattle.gq_trails.proofs.Costs.{cost_at, less_back, less_missed, less_next}
use Rattle.gq_trails.proofs.Fitting.{look_node, met_is, not_bound, split_parts}
use Rattle.gq_trails.proofs.Going.{at_back, at_next, at_still, met_here, walkers_settled}
use Rattle.gq_trails.proofs.Inside.{end_inside}
use Rattle.gq_trails.proofs.Journeying.{AreSameWalks, at_put, frames_alike, owed_arrived, owed_back, owed_first, owed_missed, owed_none, owed_reached, owed_started, put_below, turn_alike, walkers_put}

-- the search has come to a depth: what was owed at first is owed there
pub record IsGoing (j : Journey) (owed : List Trailing) (ws : List Walking) (row : Wide) (n : ℕ) : Type 0 where
  pub low : n < length j.parts
  pub here : IsAt j ws row n
  pub walkers : AreWalkers j ws row
  pub owed_is : owed ≡ owed_at j ws n

pub same_journey : (r : Route) (row0 row : Wide) (ws : List Walking) → AreWalkers (journey_of r row0) ws row → journey_of r row ≡ journey_of r row0
same_journey r row0 row ws are =
    ap₂ (λ (n : ℕ) (j : Journey). record j { size = n }) are.size
    (ap₂ (λ rs (b : Partial). record { graph = r.graph.now; parts = r.parts.now; types = r.rels.now; rels = rs; base = b; size = length row.nodes }) are.rels are.base)

-- what stays true where walkers, a row and a depth are known by other names
pub carried : (P : List Walking → Wide → ℕ → Type 0) {ws vs : List Walking} {row r : Wide} {n m : ℕ} → P ws row n → vs ≡ ws → r ≡ row → m ≡ n → P vs r m
carried P {ws} {vs} {row} {r} {n} {m} h a b c = subst (λ us. P us r m) (sym a) (subst (λ q. P ws q m) (sym b) (subst (P ws row) (sym c) h))

owed_alike : (j : Journey) (vs ws : List Walking) (n : ℕ) → AreSameWalks vs ws (suc n) → owed_at j vs n ≡ owed_at j ws n
owed_alike j vs ws n same =
    let below : AreSameWalks vs ws n = λ i low. same i (omega arith) in
    ap₂ (λ fs t. around j.graph (patterns_of j) fs (flat_map (ways_by j.graph (patterns_of j) t) (walk_at vs n).owed)) (frames_alike j vs ws n below) (turn_alike j vs ws n below)
    ∙ ap (λ (w : Walking). around j.graph (patterns_of j) (frames_at j ws n) (flat_map (ways_by j.graph (patterns_of j) (turn_at j ws n)) w.owed)) (same n (omega arith))

module _ (j : Journey) (owed : List Trailing) (ws : List Walking) (row : Wide) (n : ℕ) (going : IsGoing j owed ws row n) (w : Walking) (goes : IsWalkerFor j.graph (part_at j.parts n) w) where
  abbrev vs : List Walking
  vs = set ws n w

  pub inside : n < length ws
  inside = omega (arith, going.low, going.walkers.count)

  pub mid_at : IsAt j (set ws n w) row n
  mid_at = at_put ws n w inside j row going.here

  pub mid_walkers : AreWalkers j (set ws n w) row
  mid_walkers = walkers_put ws n w inside j row goes going.walkers

  -- ---- its walker owes nothing

  module _ (none : (walk_at ws n).owed ≡ []) where
    behind : owed ≡ owed_behind j ws n
    behind = going.owed_is ∙ owed_none j ws n none

    pub done : n ≡ 0 → owed ≡ []
    done first = behind ∙ ap (owed_behind j ws) first ∙ owed_first j ws

    module _ (some : n ≢ 0) where
      one_back : n ≡ suc (n - 1)
      one_back = omega (arith, some)

      alike : AreSameWalks (set ws n w) ws (suc (n - 1))
      alike i low = put_below ws n w inside i (omega (arith, low, some))

      pub going_back : IsGoing j owed (set ws n w) row (n - 1)
      going_back = record {
        low = omega (arith, going.low);
        here = at_back j (set ws n w) row (n - 1) (omega (arith, going.low)) (subst (IsAt j (set ws n w) row) one_back mid_at);
        walkers = mid_walkers;
        owed_is = behind ∙ ap (owed_behind j ws) one_back ∙ owed_back j ws (n - 1) ∙ sym (owed_alike j (set ws n w) ws (n - 1) alike);
      }

      pub cost_back : cost_at j (set ws n w) (n - 1) < cost_at j ws n
      cost_back = subst (λ m. cost_at j (set ws n w) (n - 1) < cost_at j ws m) (sym one_back) (less_back j ws (set ws n w) (n - 1) alike)

  -- ---- its walker goes on, and the walk ends at a node

  module _ (next : (walk_at ws n).owed ≡ w.rels ∷ w.owed) (stands : w.standing ≡ true) (end : NodeId)
      (ends : (at : Option NodeId) → end_of j.graph (part_at j.parts n).way at w.rels ≡ Some end) (there : is_node j.graph end ≡ true) where
    abbrev after : Wide
    after = settled (part_at j.parts n) row end

    met : (may : Bool) → may ≡ may_end j.graph (part_at j.parts n) row end → met_by j.graph (patterns_of j) (turn_at j ws n) w.rels ≡ keep_if may (row_at j (set ws n w) (suc n))
    met may told = met_here j ws row n w inside going.low going.here next end (ends (look (row_at j ws n).nodes (part_at j.parts n).from)) may told

    pub going_still : false ≡ may_end j.graph (part_at j.parts n) row end → IsGoing j owed (set ws n w) (settled (part_at j.parts n) row end) n
    going_still told = record {
      low = going.low;
      here = at_still j ws row n w inside going.low going.here next end (ends (look (row_at j ws n).nodes (part_at j.parts n).from)) mid_at;
      walkers = walkers_settled j (set ws n w) row n end going.low mid_walkers;
      owed_is = going.owed_is ∙ owed_missed j ws n w inside next (met false told);
    }

    pub cost_still : cost_at j (set ws n w) n < cost_at j ws n
    cost_still = less_missed j ws n w inside next

    module _ (told : true ≡ may_end j.graph (part_at j.parts n) row end) where
      pub there_at : IsAt j (set ws n w) (settled (part_at j.parts n) row end) (suc n)
      there_at = at_next j ws row n w inside going.low going.here next end (ends (look (row_at j ws n).nodes (part_at j.parts n).from)) stands there (going.walkers.ends n going.low)

      pub there_walkers : AreWalkers j (set ws n w) (settled (part_at j.parts n) row end)
      there_walkers = walkers_settled j (set ws n w) row n end going.low mid_walkers

      owed_there : owed ≡ around j.graph (patterns_of j) (frames_at j (set ws n w) (suc n)) (after_trails j.graph (patterns_of j) (drop (suc n) j.parts) (row_at j (set ws n w) (suc n)) (walked_at j.parts (set ws n w) (suc n)))
      owed_there = going.owed_is ∙ owed_arrived j ws n w inside next (met true told)

      pub walks_there : suc n ≡ length j.parts → HaveWalks j owed (set ws n w) (settled (part_at j.parts n) row end)
      walks_there last = record {
        here = subst (IsAt j (set ws n w) after) last there_at;
        walkers = there_walkers;
        next = owed_there ∙ owed_reached j (set ws n w) (suc n) (drop_all (suc n) j.parts (omega (arith, last))) ∙ ap (λ m. reached_at j (set ws n w) m ∷ owed_behind j (set ws n w) m) last;
      }

      -- and the next trail begins
      module _ (more : suc n < length j.parts) where
        module _ (u : Walking) (test : List RelId → Bool) (begins : u.owed ≡ filter test (walks_on j (set ws n w) (suc n))) (missed : DropsMissed j (set ws n w) (suc n) test)
            (begun : IsWalkerFor j.graph (part_at j.parts (suc n)) u) where
          room : suc n < length (set ws n w)
          room = omega (arith, more, there_walkers.count)

          pub going_on : IsGoing j owed (set (set ws n w) (suc n) u) (settled (part_at j.parts n) row end) (suc n)
          going_on = record {
            low = more;
            here = at_put (set ws n w) (suc n) u room j after there_at;
            walkers = walkers_put (set ws n w) (suc n) u room j after begun there_walkers;
            owed_is = owed_there ∙ owed_started j (set ws n w) (suc n) u test room more begins missed;
          }

          pub cost_on : cost_at j (set (set ws n w) (suc n) u) (suc n) < cost_at j ws n
          cost_on = less_next j ws n w inside next (met true told) more (omega (arith, room, length-set ws n w)) u test begins

        -- where the next trail has begun
        pub started_on : (mid new : Trek) (m : ℕ) (k : Journey) → mid.walkers.items ≡ set ws n w → mid.row ≡ settled (part_at j.parts n) row end → m ≡ suc n → k ≡ j → IsStarted k m mid new
            → IsGoing j owed new.walkers.items new.row m × (cost_at j new.walkers.items m < cost_at j ws n)
        started_on mid new m k walkers same_row at same st =
            let begins : st.walk.owed ≡ filter st.test (walks_on j (set ws n w) (suc n)) = st.owed ∙ ap (filter st.test) (ap (λ (i : Journey). walks_on i mid.walkers.items m) same ∙ ap₂ (walks_on j) walkers at) in
            let missed : DropsMissed j (set ws n w) (suc n) st.test =
            subst (λ i. DropsMissed j (set ws n w) i st.test) at (subst (λ us. DropsMissed j us m st.test) walkers (subst (λ (i : Journey). DropsMissed i mid.walkers.items m st.test) same st.missed)) in
            let begun : IsWalkerFor j.graph (part_at j.parts (suc n)) st.walk =
            subst (λ i. IsWalkerFor j.graph (part_at j.parts i) st.walk) at (subst (λ (i : Journey). IsWalkerFor i.graph (part_at i.parts m) st.walk) same st.goes) in
            let items : new.walkers.items ≡ set (set ws n w) (suc n) st.walk = st.is ∙ ap₂ (λ us i. set us i st.walk) walkers at in (
              carried (IsGoing j owed) (going_on st.walk st.test begins missed begun) items (st.row ∙ same_row) at,
              carried (λ us r i. cost_at j us i < cost_at j ws n) (cost_on st.walk st.test begins missed begun) items (st.row ∙ same_row) at,
            )

-- ---- what it has come to, in the words of the row that there is now

pub come : (r : Route) (old new : Trek) (owed : List Trailing) → length r.parts.now + length r.rels.now ≤ 24
    → HaveWalks (journey_of r old.row) owed new.walkers.items new.row → IsCome r owed old new
come r old new owed few h =
    let same : journey_of r new.row ≡ journey_of r old.row = same_journey r old.row new.row new.walkers.items h.walkers in
    record {
      opens = record { few = few; ends = h.walkers.ends; here = subst (λ k. IsAt k new.walkers.items new.row (length r.parts.now)) (sym same) h.here };
      kept = record { count = h.walkers.count; courses = h.walkers.courses; nodes_are = h.walkers.size; rels_are = ap length h.walkers.rels };
      next = h.next ∙ ap (λ k. reached_at k new.walkers.items (length r.parts.now) ∷ owed_behind k new.walkers.items (length r.parts.now)) (sym same);
    }

pub out : (r : Route) (old new : Trek) (owed : List Trailing) → IsDone (journey_of r old.row) owed new.walkers.items new.row → IsOut r owed old new
out r old new owed d = record {
  kept = record { count = d.walkers.count; courses = d.walkers.courses; nodes_are = d.walkers.size; rels_are = ap length d.walkers.rels };
  none = d.none;
}

pub over : (r : Route) (old new : Trek) (owed : List Trailing) (found : Bool) → length r.parts.now + length r.rels.now ≤ 24
    → IsFound (journey_of r old.row) owed found new.walkers.items new.row → IsOver r owed old found new
over r old new owed true few h = come r old new owed few h
over r old new owed false few h = out r old new owed h

-- ---- from the base, and from where each trail has a walk

owed_whole : (j : Journey) (ws : List Walking) → after_trails j.graph (patterns_of j) j.parts j.base []
    ≡ around j.graph (patterns_of j) (frames_at j ws 0) (after_trails j.graph (patterns_of j) (drop 0 j.parts) (row_at j ws 0) (walked_at j.parts ws 0))
unfolding row_at walked_at frames_at around
owed_whole j ws = refl

pub none_to_walk : (r : Route) (t : Trek) → length r.parts.now + length r.rels.now ≤ 24 → length r.parts.now ≡ 0
    → IsAt (journey_of r t.row) t.walkers.items t.row 0 → AreWalkers (journey_of r t.row) t.walkers.items t.row
    → IsCome r (after_trails r.graph.now (patterns_of (journey_of r t.row)) r.parts.now (journey_of r t.row).base []) t t
none_to_walk r t few none at are =
    let j : Journey = journey_of r t.row in
    come r t t _ few (record {
      here = subst (IsAt j t.walkers.items t.row) (sym none) at;
      walkers = are;
      next = owed_whole j t.walkers.items ∙ owed_reached j t.walkers.items 0 (drop_all 0 r.parts.now (omega (arith, none)))
          ∙ ap (λ m. reached_at j t.walkers.items m ∷ owed_behind j t.walkers.items m) (sym none);
    })

pub first_over : (r : Route) (old mid new : Trek) (found : Bool) → length r.parts.now + length r.rels.now ≤ 24 → 0 < length r.parts.now
    → AreWalkers (journey_of r old.row) old.walkers.items old.row → IsStarted (journey_of r old.row) 0 old mid
    → IsFound (journey_of r mid.row) (owed_at (journey_of r mid.row) mid.walkers.items 0) found new.walkers.items new.row
    → IsOver r (after_trails r.graph.now (patterns_of (journey_of r old.row)) r.parts.now (journey_of r old.row).base []) old found new
first_over r old mid new found few some are started h =
    let j : Journey = journey_of r old.row in
    let whole : after_trails j.graph (patterns_of j) j.parts j.base [] ≡ owed_at j mid.walkers.items 0 =
    owed_whole j old.walkers.items ∙ owed_started j old.walkers.items 0 started.walk started.test (omega (arith, some, are.count)) some started.owed started.missed ∙ ap (λ ws. owed_at j ws 0) (sym started.is) in
    over r old new _ found few
    (subst (λ o. IsFound j o found new.walkers.items new.row) (sym whole)
    (subst (λ (row : Wide). IsFound (journey_of r row) (owed_at (journey_of r row) mid.walkers.items 0) found new.walkers.items new.row) started.row h))

pub next_over : (r : Route) (old new : Trek) (last : ℕ) (found : Bool) → length r.parts.now + length r.rels.now ≤ 24 → suc last ≡ length r.parts.now
    → IsFound (journey_of r old.row) (owed_at (journey_of r old.row) old.walkers.items last) found new.walkers.items new.row
    → IsOver r (owed_behind (journey_of r old.row) old.walkers.items (length r.parts.now)) old found new
next_over r old new last found few is h =
    let j : Journey = journey_of r old.row in
    over r old new _ found few
    (subst (λ o. IsFound j o found new.walkers.items new.row) (sym (owed_back j old.walkers.items last) ∙ ap (owed_behind j old.walkers.items) is) h)

pub none_left : (r : Route) (t : Trek) → length r.parts.now ≡ 0 → AreWalkers (journey_of r t.row) t.walkers.items t.row
    → IsOut r (owed_behind (journey_of r t.row) t.walkers.items (length r.parts.now)) t t
none_left r t none are =
    let j : Journey = journey_of r t.row in
    out r t t _ (record { walkers = are; none = ap (owed_behind j t.walkers.items) none ∙ owed_first j t.walkers.items })

pub first_at : (r : Route) (old mid : Trek) → 0 < length old.walkers.items → IsStarted (journey_of r old.row) 0 old mid
    → IsAt (journey_of r old.row) old.walkers.items old.row 0 → IsAt (journey_of r mid.row) mid.walkers.items mid.row 0
first_at r old mid some st at =
    subst (λ (row : Wide). IsAt (journey_of r row) mid.walkers.items row 0) (sym st.row)
    (subst (λ us. IsAt (journey_of r old.row) us old.row 0) (sym st.is) (at_put old.walkers.items 0 st.walk some (journey_of r old.row) old.row at))

pub first_walkers : (r : Route) (old mid : Trek) → 0 < length old.walkers.items → IsStarted (journey_of r old.row) 0 old mid
    → AreWalkers (journey_of r old.row) old.walkers.items old.row → AreWalkers (journey_of r mid.row) mid.walkers.items mid.row
first_walkers r old mid some st are =
    subst (λ (row : Wide). AreWalkers (journey_of r row) mid.walkers.items row) (sym st.row)
    (subst (λ us. AreWalkers (journey_of r old.row) us old.row) (sym st.is) (walkers_put old.walkers.items 0 st.walk some (journey_of r old.row) old.row st.goes are))

-- ---- the trail whose turn has come begins at a node

module _ (j : Journey) (ws : List Walking) (row : Wide) (n : ℕ) (low : n < length j.parts) (at : IsAt j ws row n) where
  turns : AreInTurn (part_at j.parts n ∷ drop (suc n) j.parts) (bound (row_at j ws n).nodes)
  turns = subst (λ l. AreInTurn l (bound (row_at j ws n).nodes)) (split_parts j.parts n low) (at.fits n (omega arith)).turns

  pub from_is : item_at row.nodes (part_at j.parts n).from ≡ look (row_at j ws n).nodes (part_at j.parts n).from
  from_is = at.agrees (part_at j.parts n).from (not_bound (drop n j.parts) (bound (row_at j ws n).nodes) (part_at j.parts n).from (at.fits n (omega arith)).turns turns.0)

  pub from_there : item_at row.nodes (part_at j.parts n).from ≡ None → ⊥
  from_there none =
      let some = look_some (row_at j ws n).nodes (part_at j.parts n).from turns.0 in
      let lost : None ≡ Some some.0 = sym none ∙ from_is ∙ some.1 in
      absurd (cc lost)

  -- where its other end is known, that is a node too
  pub to_node : (part_at j.parts n).both ≡ true → (end : NodeId) → item_at row.nodes (part_at j.parts n).to ≡ Some end → is_node j.graph end ≡ true
  to_node both end is =
      let known : bound (row_at j ws n).nodes (part_at j.parts n).to ≡ true = turns.1 ∙ both in
      let same = at.agrees (part_at j.parts n).to (not_bound (drop n j.parts) (bound (row_at j ws n).nodes) (part_at j.parts n).to (at.fits n (omega arith)).turns known) in
      look_node j.graph (row_at j ws n).nodes (part_at j.parts n).to end (at.fits n (omega arith)).nodes (sym same ∙ is)

  -- a walk that ends where none may, meets nothing
  pub met_not : is_valid j.graph ≡ true → (l : List RelId) (d : NodeId → ℕ) → ((end : NodeId) → is_node j.graph end ≡ true → may_end j.graph (part_at j.parts n) row end ≡ true → d end ≡ 0)
      → comes j.graph (part_at j.parts n).way d (look (row_at j ws n).nodes (part_at j.parts n).from) l ≡ false → met_by j.graph (patterns_of j) (turn_at j ws n) l ≡ []
  met_not valid l d zeros drops = go (end_of j.graph p.way (look (row_at j ws n).nodes p.from) l) refl drops
    where
      p : TrailPart
      p = part_at j.parts n

      known_there : p.both ≡ true → item_at row.nodes p.to ≡ look (row_at j ws n).nodes p.to
      known_there both = at.agrees p.to (not_bound (drop n j.parts) (bound (row_at j ws n).nodes) p.to (at.fits n (omega arith)).turns (turns.1 ∙ both))

      go : (o : Option NodeId) → end_of j.graph p.way (look (row_at j ws n).nodes p.from) l ≡ o → may_end_at d o ≡ false → met_by j.graph (patterns_of j) (turn_at j ws n) l ≡ []
      go None ends dropped = ap (arrivals j.graph p (row_at j ws n)) ends
      go (Some end) ends dropped = may (may_end j.graph p row end) refl
        where
          there : is_node j.graph end ≡ true
          there = end_inside j.graph valid p.way (look (row_at j ws n).nodes p.from) (λ m is. look_node j.graph (row_at j ws n).nodes p.from m (at.fits n (omega arith)).nodes is) l end ends

          may : (b : Bool) → may_end j.graph p row end ≡ b → met_by j.graph (patterns_of j) (turn_at j ws n) l ≡ []
          may false told = met_is j.graph p (row_at j ws n) l end ends false row known_there (sym told)
          may true told = absurd (let lost : true ≡ false = sym (ap (λ k. nat_eq k 0) (zeros end there told)) ∙ dropped in cc lost)

  pub from_node : (start : NodeId) → item_at row.nodes (part_at j.parts n).from ≡ Some start → is_node j.graph start ≡ true
  from_node start is = look_node j.graph (row_at j ws n).nodes (part_at j.parts n).from start (at.fits n (omega arith)).nodes (sym from_is ∙ is)

-- What the fields of `Trails` stand for, and what is true of them.
use Rattle.std.specs.Prelude.{◌≡◌, ℕ, ◌+◌, ◌<◌, ◌≤◌, Bool, MatchBool, List, [], ◌∷◌, length}
use Rattle.gq_law_trails.specs.Trails.{Trailing, after_trails}
use Rattle.gq_trails.specs.Trekking.{Trekking}
use Rattle.gq_trails.specs.steps.Ends.{AreEndsOf}
use Rattle.gq_hops.specs.States.{is_standing}
use Rattle.gq_trails.specs.steps.Journeys.{HaveCourses, IsAt, Journey, journey_of, owed_behind, part_at, patterns_of, reached_at}
use Rattle.gq_hops.specs.declared.state.State.{State}
use Rattle.gq_hops.specs.declared.state.State.TheVariants.{Fresh, Standing, Over}
use Rattle.gq_trails.specs.declared.trek.Route.{Route}
use Rattle.gq_trails.specs.declared.trek.Trek.{Trek}
use Rattle.gq_trails.specs.declared.trails.Trails.TheInside.{Inside}

abbrev pub rest_in : State → Journey → Trek → List Trailing
rest_in Fresh j t = after_trails j.graph (patterns_of j) j.parts j.base []
rest_in Standing j t = owed_behind j t.walkers.items (length j.parts)
rest_in Over j t = []

abbrev pub trekking_of : Inside → Trekking
trekking_of t = record {
  graph = t.route.graph.now;
  parts = t.route.parts.now;
  nodes = length t.trek.row.nodes;
  rels = length t.trek.row.rels;
  owed = rest_in t.state (journey_of t.route t.trek.row) t.trek;
  reached = reached_at (journey_of t.route t.trek.row) t.trek.walkers.items (length t.route.parts.now);
  standing = is_standing t.state;
}

-- the first trails, so many of them, have walks
pub record IsOpen (r : Route) (t : Trek) (n : ℕ) : Type 0 where
  pub few : length r.parts.now + length r.rels.now ≤ 24
  pub ends : (i : ℕ) → i < length r.parts.now → (part_at r.parts.now i).to < length t.row.nodes
  pub here : IsAt (journey_of r t.row) t.walkers.items t.row n

abbrev pub IsIn : State → Route → Trek → Type 0
IsIn Fresh r t = IsOpen r t 0
IsIn Standing r t = IsOpen r t (length r.parts.now)
IsIn Over r t = Unit {0}

pub record IsTrekking (t : Inside) : Type 0 where
  pub count : length t.trek.walkers.items ≡ length t.route.parts.now
  pub courses : HaveCourses t.route.graph.now t.route.parts.now t.trek.walkers.items (length t.route.parts.now)
  pub ends : AreEndsOf t.route.graph.now t.route.parts.now t.ends.items
  pub state : IsIn t.state t.route t.trek

-- ---- moves

-- the walkers and the sizes of the row are as they were
pub record IsKept (r : Route) (old new : Trek) : Type 0 where
  pub count : length new.walkers.items ≡ length r.parts.now
  pub courses : HaveCourses r.graph.now r.parts.now new.walkers.items (length r.parts.now)
  pub nodes_are : length new.row.nodes ≡ length old.row.nodes
  pub rels_are : length new.row.rels ≡ length old.row.rels

-- each trail has a walk: the first of what was owed is reached, and the rest is owed
pub record IsCome (r : Route) (owed : List Trailing) (old new : Trek) : Type 0 where
  pub opens : IsOpen r new (length r.parts.now)
  pub kept : IsKept r old new
  pub next : owed ≡ reached_at (journey_of r new.row) new.walkers.items (length r.parts.now) ∷ owed_behind (journey_of r new.row) new.walkers.items (length r.parts.now)

-- nothing was owed
pub record IsOut (r : Route) (owed : List Trailing) (old new : Trek) : Type 0 where
  pub kept : IsKept r old new
  pub none : owed ≡ []

abbrev pub IsOver : Route → List Trailing → Trek → Bool → Trek → Type 0
IsOver r owed old found new = MatchBool found (IsCome r owed old new) (IsOut r owed old new)

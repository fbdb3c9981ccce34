-- The search for ways to walk all trails: where it is, what is owed, and its moves.
use Rattle.std.specs.Prelude.{◌≡◌, ℕ, zero, suc, ◌<◌, ◌≤◌, nat_eq, not, ◌&&◌, Bool, true, false, Option, Some, None, MatchBool, List, [], ◌∷◌, drop, filter, flat_map, get_or, length, slice_set, if◌then◌else◌}
use Rattle.std.specs.List.{list_any}
use Rattle.gq_base.specs.Plain.{Graph}
use Rattle.gq_base.specs.declared.NodeId.{NodeId}
use Rattle.gq_base.specs.declared.RelId.{RelId}
use Rattle.gq_base.specs.declared.direction.Direction.TheVariants.{Forward}
use Rattle.gq_law_plans.specs.Bindings.{bound}
use Rattle.gq_law_trails.specs.Trails.{Trailing, fits_end, walks_from}
use Rattle.gq_law_trails.specs.Walks.{end_of}
use Rattle.gq_plan.specs.declared.TrailPart.{TrailPart}
use Rattle.gq_plan.specs.Assignments.{is_node}
use Rattle.gq_plan.specs.Meaning.{Partial, look, with_node}
use Rattle.gq_plan.specs.declared.TypedRel.{TypedRel}
use Rattle.gq_outer.specs.Rows.{Wide, item_at}
use Rattle.gq_trails.specs.Trekking.{AreInTurn, AreNodes, patterns_in, placed_from}
use Rattle.gq_hops.specs.Walking.{Walking, course_of}
use Rattle.gq_marks.specs.Marking.{Marking, bound_of}
use Rattle.gq_trails.specs.steps.Ends.{may_end, settled}
use Rattle.gq_trails.specs.steps.Treks.{Frame, Turn, around, met_by, ways_by, wrapped}
use Rattle.gq_trails.specs.declared.trek.Route.{Route}
use Rattle.gq_trails.specs.declared.trek.Trek.{Trek}

-- ---- what is walked

-- the trails over a graph; the relationships of an alternative, and what a row has there; and what is bound before any trail
pub record Journey : Type 0 where
  pub graph : Graph
  pub parts : List TrailPart
  pub types : List TypedRel
  pub rels : List (Option RelId)
  pub base : Partial
  -- how many node variables there are
  pub size : ℕ

abbrev pub patterns_of : Journey → ℕ → List RelId
patterns_of j = patterns_in j.types j.rels

-- a row without what trails bind
abbrev pub cleared : List TrailPart → List (Option NodeId) → List (Option NodeId)
cleared [] os = os
cleared (p ∷ ps) os = cleared ps (if p.both then os else slice_set os p.to None)

abbrev pub base_of : List TrailPart → Wide → Partial
base_of parts row = record { nodes = placed_from 0 (cleared parts row.nodes); rels = placed_from 0 row.rels }

abbrev pub journey_of : Route → Wide → Journey
journey_of r row = record { graph = r.graph.now; parts = r.parts.now; types = r.rels.now; rels = row.rels; base = base_of r.parts.now row; size = length row.nodes }

abbrev pub no_part : TrailPart
no_part = record { kind = []; low = 0; high = 0; from = 0; to = 0; clause = 0; way = Forward; both = false; labels = []; tests = [] }

abbrev pub no_walk : Walking
no_walk = record {
  course = course_of (record { catalog = record { nodes = []; rels = [] }; nodes = []; rels = [] }) no_part;
  bounds = record { sheets = []; rest = 0; reached = [] };
  owed = [];
  rels = [];
  standing = false;
}

-- the trail and its walker at a depth
abbrev pub part_at : List TrailPart → ℕ → TrailPart
part_at parts n = get_or parts n no_part

abbrev pub walk_at : List Walking → ℕ → Walking
walk_at ws n = get_or ws n no_walk

-- ---- where the search is

-- what is bound behind a walk of a trail
abbrev pub bound_at : ℕ → Option NodeId → Partial → Partial
bound_at v None a = a
bound_at v (Some n) a = with_node v n a

abbrev pub bound_by : Graph → TrailPart → Partial → List RelId → Partial
bound_by g p a l = if p.both then a else bound_at p.to (end_of g p.way (look a.nodes p.from) l) a

-- what is bound behind the first trails, so many of them, and what they have walked, the latest first
unfoldable pub row_at : Journey → List Walking → ℕ → Partial
row_at j ws zero = j.base
row_at j ws (suc n) = bound_by j.graph (part_at j.parts n) (row_at j ws n) (walk_at ws n).rels

unfoldable pub walked_at : List TrailPart → List Walking → ℕ → List (ℕ × List RelId)
walked_at parts ws zero = []
walked_at parts ws (suc n) = ((part_at parts n).clause, (walk_at ws n).rels) ∷ walked_at parts ws n

abbrev pub turn_at : Journey → List Walking → ℕ → Turn
turn_at j ws n = record { part = part_at j.parts n; later = drop (suc n) j.parts; row = row_at j ws n; walked = walked_at j.parts ws n }

abbrev pub frame_of : Turn → Walking → Frame
frame_of t w = record { turn = t; rels = w.rels; owed = w.owed }

unfoldable pub frames_at : Journey → List Walking → ℕ → List Frame
frames_at j ws zero = []
frames_at j ws (suc n) = frame_of (turn_at j ws n) (walk_at ws n) ∷ frames_at j ws n

-- what is owed where it is the turn of the trail at a depth; where each of the first trails has a walk; and what these reach
abbrev pub owed_at : Journey → List Walking → ℕ → List Trailing
owed_at j ws n = around j.graph (patterns_of j) (frames_at j ws n) (flat_map (ways_by j.graph (patterns_of j) (turn_at j ws n)) (walk_at ws n).owed)

abbrev pub owed_behind : Journey → List Walking → ℕ → List Trailing
owed_behind j ws n = around j.graph (patterns_of j) (frames_at j ws n) []

abbrev pub reached_at : Journey → List Walking → ℕ → Trailing
reached_at j ws n = wrapped (frames_at j ws n) (record { row = row_at j ws n; lists = [] })

-- ---- what is true of it

-- a trail binds a variable
abbrev pub binds : ℕ → TrailPart → Bool
binds v p = not p.both && nat_eq p.to v

-- where it is the turn of these trails, they can be walked
pub record IsFit (g : Graph) (ps : List TrailPart) (a : Partial) : Type 0 where
  pub turns : AreInTurn ps (bound a.nodes)
  pub nodes : AreNodes g a.nodes

-- the first trails, so many of them, have walks, and the row has what is bound but for what the others bind
pub record IsAt (j : Journey) (ws : List Walking) (row : Wide) (n : ℕ) : Type 0 where
  pub standing : (i : ℕ) → i < n → (walk_at ws i).standing ≡ true
  pub fits : (i : ℕ) → i ≤ n → IsFit j.graph (drop i j.parts) (row_at j ws i)
  pub agrees : (v : ℕ) → list_any (binds v) (drop n j.parts) ≡ false → item_at row.nodes v ≡ look (row_at j ws n).nodes v

-- where a trail binds its other end, a walk may end at each node that is as the trail asks
abbrev pub GoesToFits : Graph → TrailPart → Marking → Type 0
GoesToFits g p m = p.both ≡ false → (n : NodeId) → is_node g n ≡ true → fits_end g p n ≡ true → bound_of m n ≡ 0

-- a walker goes over a trail
pub record IsWalkerFor (g : Graph) (p : TrailPart) (w : Walking) : Type 0 where
  pub course : w.course ≡ course_of g p
  pub fits : GoesToFits g p w.bounds

-- the first walkers, so many of them, go over the trails
abbrev pub HaveCourses : Graph → List TrailPart → List Walking → ℕ → Type 0
HaveCourses g parts ws n = (i : ℕ) → i < n → IsWalkerFor g (part_at parts i) (walk_at ws i)

-- there is a walker for each trail, and the row has their variables and the base
pub record AreWalkers (j : Journey) (ws : List Walking) (row : Wide) : Type 0 where
  pub count : length ws ≡ length j.parts
  pub courses : HaveCourses j.graph j.parts ws (length j.parts)
  pub ends : (i : ℕ) → i < length j.parts → (part_at j.parts i).to < length row.nodes
  pub base : base_of j.parts row ≡ j.base
  pub rels : row.rels ≡ j.rels
  pub size : length row.nodes ≡ j.size

-- ---- moves

-- the walkers of trails, and a row of so many variables
pub record IsMade (g : Graph) (parts : List TrailPart) (nodes rels : ℕ) (t : Trek) : Type 0 where
  pub count : length t.walkers.items ≡ length parts
  pub courses : HaveCourses g parts t.walkers.items (length parts)
  pub nodes_are : length t.row.nodes ≡ nodes
  pub rels_are : length t.row.rels ≡ rels

-- the walk at a depth ends at a node, and may do so or not
pub record IsTried (r : Route) (n : ℕ) (old new : Trek) (may : Bool) : Type 0 where
  pub end : NodeId
  pub ends : (at : Option NodeId) → end_of r.graph.now (part_at r.parts.now n).way at (walk_at old.walkers.items n).rels ≡ Some end
  pub there : is_node r.graph.now end ≡ true
  pub told : may ≡ may_end r.graph.now (part_at r.parts.now n) old.row end
  pub row : new.row ≡ settled (part_at r.parts.now n) old.row end
  pub walkers : new.walkers.items ≡ old.walkers.items

-- of all walks of the trail at a depth, those that a test drops end where none may
abbrev pub walks_on : Journey → List Walking → ℕ → List (List RelId)
walks_on j ws n = walks_from j.graph (patterns_of j) (part_at j.parts n) (row_at j ws n) (walked_at j.parts ws n)

abbrev pub DropsMissed : Journey → List Walking → ℕ → (List RelId → Bool) → Type 0
DropsMissed j ws n test = (l : List RelId) → test l ≡ false → met_by j.graph (patterns_of j) (turn_at j ws n) l ≡ []

-- the walker at a depth begins
pub record IsStarted (j : Journey) (n : ℕ) (old new : Trek) : Type 0 where
  pub walk : Walking
  pub is : new.walkers.items ≡ slice_set old.walkers.items n walk
  pub test : List RelId → Bool
  pub owed : walk.owed ≡ filter test (walks_on j old.walkers.items n)
  pub missed : DropsMissed j old.walkers.items n test
  pub goes : IsWalkerFor j.graph (part_at j.parts n) walk
  pub row : new.row ≡ old.row

-- each trail has a walk: the first of what was owed is reached, and the rest is owed
pub record HaveWalks (j : Journey) (owed : List Trailing) (ws : List Walking) (row : Wide) : Type 0 where
  pub here : IsAt j ws row (length j.parts)
  pub walkers : AreWalkers j ws row
  pub next : owed ≡ reached_at j ws (length j.parts) ∷ owed_behind j ws (length j.parts)

-- nothing was owed
pub record IsDone (j : Journey) (owed : List Trailing) (ws : List Walking) (row : Wide) : Type 0 where
  pub walkers : AreWalkers j ws row
  pub none : owed ≡ []

abbrev pub IsFound : Journey → List Trailing → Bool → List Walking → Wide → Type 0
IsFound j owed found ws row = MatchBool found (HaveWalks j owed ws row) (IsDone j owed ws row)

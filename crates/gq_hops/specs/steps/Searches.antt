-- The search for walks: what is owed, and its moves.
use Rattle.std.specs.Prelude.{◌≡◌, ◌⊎◌, ℕ, zero, suc, ◌+◌, ◌-◌, ◌<◌, ◌≤◌, Bool, true, not, if◌then◌else◌, nat_lt, Option, Some, None, MatchBool, MatchOption, List, [], ◌∷◌, ◌++◌, map, filter, flat_map, get_or, length}
use Rattle.std.specs.List.{list_any}
use Rattle.std.specs.Vec.{with_item}
use Rattle.gq_base.specs.declared.NodeId.{NodeId}
use Rattle.gq_base.specs.declared.RelId.{RelId}
use Rattle.gq_plan.specs.Assignments.{is_node, same_rel}
use Rattle.gq_plan.specs.Meaning.{far}
use Rattle.gq_law_trails.specs.Bounds.{comes}
use Rattle.gq_law_trails.specs.Walks.{end_of, pred, walks}
use Rattle.gq_hops.specs.Walking.{Course}
use Rattle.gq_marks.specs.Marking.{bound_of}
use Rattle.gq_hops.specs.steps.Hops.{IsFirst, IsHop, IsLevel, IsLevelIn, IsSite, IsSiteIn, IsStart, left_at, left_of, rel_of, tables_in}
use Rattle.gq_hops.specs.declared.follow.Hop.{Hop}
use Rattle.gq_hops.specs.declared.follow.Frame.{Frame}
use Rattle.gq_hops.specs.declared.follow.Met.{Met}
use Rattle.gq_hops.specs.declared.hop.Near.TheVariants.{One}
use Rattle.gq_hops.specs.declared.search.Run as declared
use Rattle.gq_hops.specs.declared.search.Search.{Search}

-- a course, the relationships from which walks are kept, and the bounds of the nodes where they may end
pub record Run : Type 0 where
  pub course : Course
  pub used : List RelId
  pub bounds : NodeId → ℕ

abbrev pub run_of : declared.Run → Run
run_of r = record {
  course = record { graph = r.follow.graph.now; kind = r.follow.kind.now; way = r.follow.way; low = r.low; high = r.high };
  used = r.used;
  bounds = bound_of r.bounds;
}

abbrev pub no_node : NodeId
no_node = record { table = 0; row = 0 }

abbrev pub no_met : Met
no_met = record { table = 0; near = 0; place = 0; node = no_node }

abbrev pub no_level : Frame
no_level = record { at = no_node; table = 0; near = One None; place = 0 }

-- the relationship and the level at a depth, and where the relationship stands
abbrev pub rel_at : List RelId → ℕ → RelId
rel_at rels n = get_or rels n (record { table = 0; row = 0 })

abbrev pub met_at : List Met → ℕ → Met
met_at mets n = get_or mets n no_met

abbrev pub level_at : List Frame → ℕ → Frame
level_at levels n = get_or levels n no_level

-- ---- what is owed

-- the first relationships of a walk in front of others
unfoldable pub onto : List RelId → ℕ → List RelId → List RelId
onto rels zero l = l
onto rels (suc n) l = onto rels n (rel_at rels n ∷ l)

-- they are used too
unfoldable pub taken : List RelId → List RelId → ℕ → List RelId
taken used rels zero = used
taken used rels (suc n) = rel_at rels n ∷ taken used rels n

-- the walks that begin with one of these relationships
unfoldable pub after : Course → ℕ → ℕ → List RelId → List RelId → List (List RelId)
after c low zero used rs = []
after c low (suc high) used rs =
    flat_map (λ r. map (λ l. r ∷ l) (walks c.graph c.kind c.way (pred low) high (far c.graph c.way r) (r ∷ used)))
    (filter (λ r. not (list_any (same_rel r) used)) rs)

abbrev pub left_in : Course → Frame → List RelId
left_in c l = left_at c.graph c.kind c.way l.at l.table l.place

-- what is owed by the level at a depth, and by all levels above it
abbrev pub ahead : Run → List RelId → List Frame → ℕ → List (List RelId)
ahead c rels levels n =
    map (onto rels n) (after c.course (c.course.low - n) (c.course.high - n) (taken c.used rels n) (left_in c.course (level_at levels n)))

unfoldable pub behind : Run → List RelId → List Frame → ℕ → List (List RelId)
behind c rels levels zero = []
behind c rels levels (suc n) = ahead c rels levels n ++ behind c rels levels n

-- the relationships of a walk
abbrev pub rels_in : Run → Search → List RelId
rels_in c s = map (rel_of c.course.graph c.course.way) s.mets.items

abbrev pub owed_by : Run → Search → List (List RelId)
owed_by c s = behind c (rels_in c s) s.levels.items (suc s.depth)

-- of these, the walks that end where they may
abbrev pub kept_by : Run → Search → List (List RelId)
kept_by c s = filter (comes c.course.graph c.course.way c.bounds None) (owed_by c s)

-- ---- moves

pub record IsRoomy (s : Search) : Type 0 where
  pub levels : length s.levels.items ≡ 16
  pub mets : length s.mets.items ≡ 16

-- where a relationship stands that is met on the way, and so the one at a depth
abbrev pub IsSiteOf : Run → Met → Type 0
IsSiteOf c m = IsSiteIn c.course.graph (tables_in c.course.graph c.course.kind c.course.way) c.course.way m

abbrev pub IsSiteAt : Run → Search → ℕ → Type 0
IsSiteAt c s i = IsSiteOf c (met_at s.mets.items i)

-- the walk is no longer than it may be, and each level is at a node of the graph
pub record IsOpen (c : Run) (s : Search) : Type 0 where
  pub room : IsRoomy s
  pub high : c.course.high ≤ 16
  pub depth : s.depth ≤ c.course.high
  pub levels : (i : ℕ) → i ≤ s.depth → i < c.course.high → IsLevelIn c.course.graph c.course.kind c.course.way (level_at s.levels.items i)
  pub sites : (i : ℕ) → i < s.depth → IsSiteAt c s i

abbrev pub with_level : Search → ℕ → Frame → Search
with_level s n l = record s { levels = with_item s.levels n l }

-- the walk is longer by a relationship, and may have a level at its end
abbrev pub with_step : ℕ → Search → Met → Frame → Search
with_step high s m l =
    let longer : Search = record s { mets = with_item s.mets s.depth m; depth = s.depth + 1; last = m.node } in
    if nat_lt (s.depth + 1) high then with_level longer (s.depth + 1) l else longer

-- nothing is walked yet from a node
pub record IsBegun (r : declared.Run) (at : NodeId) (old new : Search) : Type 0 where
  pub level : Frame
  pub is : new ≡ with_level (record old { depth = 0 }) 0 level
  pub fits : IsLevel r.follow level
  pub start : IsStart at 0 level

-- nothing was tried yet at the end of the longer walk
pub record IsLonger (r : declared.Run) (old new : Search) (m : Met) : Type 0 where
  pub level : Frame
  pub is : new ≡ with_step r.high old m level
  pub fits : old.depth + 1 < r.high → IsLevel r.follow level
  pub start : old.depth + 1 < r.high → IsStart m.node 0 level

-- nothing is left at the end of the walk, or it may not be longer
pub record IsSpent (r : declared.Run) (old new : Search) : Type 0 where
  pub same : new ≡ old
  pub none : r.high ≤ old.depth ⊎ (left_of r.follow (level_at old.levels.items old.depth) ≡ [])

-- of what is left at the end of the walk, some was passed over: no walk that begins with it ends where it may
pub record IsPassedTo (r : declared.Run) (s : Search) (level : Frame) : Type 0 where
  pub fits : IsLevel r.follow level
  pub over : List RelId
  pub left : left_of r.follow (level_at s.levels.items s.depth) ≡ over ++ left_of r.follow level
  pub kept : kept_by (run_of r) s ≡ kept_by (run_of r) (with_level s s.depth level)

pub record IsPassed (r : declared.Run) (old new : Search) : Type 0 where
  pub level : Frame
  pub is : new ≡ with_level old old.depth level
  pub told : IsPassedTo r old level

-- the next relationship there
pub record IsTaken (r : declared.Run) (old new : Search) (h : Hop) : Type 0 where
  pub low : old.depth < r.high
  pub level : Frame
  pub is : new ≡ with_level old old.depth level
  pub first : IsFirst r.follow (level_at old.levels.items old.depth) level h

-- the same, where it is not yet known which one it is
pub record IsSeen (r : declared.Run) (old new : Search) (m : Met) : Type 0 where
  pub hop : Hop
  pub is : IsHop r.follow m hop
  pub site : IsSite r.follow m
  pub taken : IsTaken r old new hop

abbrev pub IsTried : declared.Run → Search → Search → Option Met → Type 0
IsTried r old new found = MatchOption found (IsSpent r old new) (IsSeen r old new)

-- the first of what was owed is the walk, and the rest is owed
pub record IsNext (owed : Search → List (List RelId)) (c : Run) (old new : Search) : Type 0 where
  pub open_at : IsOpen c new
  pub next : owed old ≡ onto (rels_in c new) new.depth [] ∷ owed new
  pub ends : (at : Option NodeId) → end_of c.course.graph c.course.way at (onto (rels_in c new) new.depth []) ≡ Some new.last
  pub there : is_node c.course.graph new.last ≡ true

-- nothing was owed
pub record IsEnd (owed : Search → List (List RelId)) (c : Run) (old new : Search) : Type 0 where
  pub open_at : IsOpen c new
  pub none : owed old ≡ []

-- what is owed are the walks that end where they may
abbrev pub IsSearched : Run → Search → Bool → Search → Type 0
IsSearched c old found new = MatchBool found (IsNext (kept_by c) c old new) (IsEnd (kept_by c) c old new)

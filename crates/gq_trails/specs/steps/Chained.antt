-- Trails that are gone through by their ends, one after another: which rows are owed, and what is true of them.
use Rattle.std.specs.Prelude.{◌≡◌, ℕ, ◌+◌, ◌<◌, ◌≤◌, Bool, true, false, ◌&&◌, List, [], ◌∷◌, ◌++◌, Option, drop, flat_map, length, map, slice_set, take, if◌then◌else◌}
use Rattle.std.specs.List.{AllByRecursion, list_all}
use Rattle.gq_base.specs.Plain.{Graph}
use Rattle.gq_base.specs.declared.RelId.{RelId}
use Rattle.gq_law_ends.specs.Reaching.{rows_in}
use Rattle.gq_law_trails.specs.Trails.{Trailing, used_in}
use Rattle.gq_plan.specs.Meaning.{Partial, look}
use Rattle.gq_plan.specs.declared.TrailPart.{TrailPart}
use Rattle.gq_plan.specs.declared.TypedRel.{TypedRel}
use Rattle.gq_outer.specs.Rows.{Wide, item_at}
use Rattle.gq_trails.specs.Continued.{Continuing, rows_at_ends, rows_by_ends, walked_count}
use Rattle.gq_trails.specs.Trekking.{CanTrek, Trekking, patterns_from, patterns_in}
use Rattle.gq_trails.specs.steps.Journeys.{IsFit}
use Rattle.gq_trails.specs.steps.Reached.{AreEnds, AreSameEnds, GoesToEnd, IsSeen, IsSeenBefore, before_end, behind_end, left_from}
use Rattle.gq_trails.specs.steps.Walked.{walked_of, walks_with}
use Rattle.gq_trails.specs.declared.chain.Chain.{Chain}
use Rattle.gq_trails.specs.declared.reached.Ends.{Ends}
use Rattle.gq_trails.specs.declared.rows.TrailRows.TheInside.{Inside}
use Rattle.gq_trails.specs.declared.rows.Ways.{Ways}
use Rattle.gq_trails.specs.declared.rows.Ways.TheVariants.{Walked, Reached}

-- ---- what is owed

abbrev pub parts_in : List Ends → List TrailPart
parts_in es = map (λ (e : Ends). e.part.now) es

-- the rows that are owed from what is bound: behind each end that was reached last the trails that follow go on from there
abbrev pub owed_by : Graph → (ℕ → List RelId) → Partial → List Ends → List Partial
owed_by g patterns a [] = []
owed_by g patterns a (e ∷ es) =
    (if e.stands then owed_by g patterns (behind_end e.part.now e.row a) es else []) ++ flat_map (rows_by_ends g patterns (parts_in es)) (left_from e a)

-- where they are begun
abbrev pub owed_once : Graph → (ℕ → List RelId) → Partial → Bool → List Ends → List Partial
owed_once g patterns a begun es = if begun then owed_by g patterns a es else []

-- what is bound behind all of them
abbrev pub reached_by : Partial → List Ends → Partial
reached_by a [] = a
reached_by a (e ∷ es) = reached_by (behind_end e.part.now e.row a) es

abbrev pub all_stand : List Ends → Bool
all_stand es = list_all (λ (e : Ends). e.stands) es

-- ---- what is true of it

-- each is searched over the graph, for rows of so many variables
pub record IsOneOf (g : Graph) (n m : ℕ) (e : Ends) : Type 0 where
  pub ends : AreEnds e
  pub graph : e.graph.now ≡ g
  pub nodes : length e.row.nodes ≡ n
  pub rels : length e.row.rels ≡ m

abbrev pub AreOfOne : Graph → ℕ → ℕ → List Ends → Type 0
AreOfOne g nodes rels es = AllByRecursion (IsOneOf g nodes rels) es

-- from the row before a trail it and those that follow can be walked; where an end was reached, those that follow go on from there
pub record CanGoOn (g : Graph) (os : List (Option RelId)) (e : Ends) (later : List TrailPart) (More : Type 0) : Type 0 where
  pub walks : CanTrek g (e.part.now ∷ later) (before_end e.part.now e.row)
  pub rels : e.row.rels ≡ os
  pub more : e.stands ≡ true → More

abbrev pub AllGoOn : Graph → List (Option RelId) → List Ends → Type 0
AllGoOn g os [] = Unit {0}
AllGoOn g os (e ∷ es) = CanGoOn g os e (parts_in es) (AllGoOn g os es)

-- the rows have what is bound
pub record HasSeen (a : Partial) (e : Ends) (More : Type 0) : Type 0 where
  pub before : IsSeenBefore e.part.now e.row a
  pub behind : e.stands ≡ true → IsSeen e.row (behind_end e.part.now e.row a)
  pub more : e.stands ≡ true → More

abbrev pub AllSeen : Partial → List Ends → Type 0
AllSeen a [] = Unit {0}
AllSeen a (e ∷ es) = HasSeen a e (AllSeen (behind_end e.part.now e.row a) es)

-- ---- moves

-- what stays where trails go on, the first of which has these ends
pub record AreKept (g : Graph) (nodes rels : ℕ) (e : Ends) (es : List Ends) (new : Ends) (news : List Ends) : Type 0 where
  pub all : AreOfOne g nodes rels (new ∷ news)
  pub parts : parts_in (new ∷ news) ≡ parts_in (e ∷ es)
  pub before : before_end e.part.now new.row ≡ before_end e.part.now e.row

-- as much is owed as was
pub record OwesAsMuch (g : Graph) (patterns : ℕ → List RelId) (a : Partial) (es news : List Ends) : Type 0 where
  pub seen : AllSeen a news
  pub same : owed_by g patterns a es ≡ owed_by g patterns a news

pub record AreUnderWay (g : Graph) (barred : List (Option RelId) → ℕ → List RelId) (nodes rels : ℕ) (e : Ends) (es : List Ends) (new : Ends) (news : List Ends) : Type 0 where
  pub kept : AreKept g nodes rels e es new news
  pub goes : (os : List (Option RelId)) → AllGoOn g os (e ∷ es) → AllGoOn g os (new ∷ news)
  pub owed : (os : List (Option RelId)) (a : Partial) → AllGoOn g os (e ∷ es) → AllSeen a (e ∷ es) → OwesAsMuch g (barred os) a (e ∷ es) (new ∷ news)

-- the first row that is owed is reached, or none is owed
pub record TakesNext (g : Graph) (patterns : ℕ → List RelId) (a : Partial) (begun : Bool) (es news : List Ends) (found : Bool) : Type 0 where
  pub seen : begun ≡ true → AllSeen a news
  pub next : found ≡ true → owed_once g patterns a begun es ≡ reached_by a news ∷ owed_once g patterns a begun news
  pub none : found ≡ false → owed_once g patterns a begun es ≡ []
  pub over : found ≡ false → owed_once g patterns a begun news ≡ []

pub record HaveGoneOn (g : Graph) (barred : List (Option RelId) → ℕ → List RelId) (nodes rels : ℕ) (begun : Bool) (e : Ends) (es : List Ends) (new : Ends) (news : List Ends) (found : Bool) : Type 0 where
  pub kept : AreKept g nodes rels e es new news
  pub goes : (os : List (Option RelId)) → (begun ≡ true → AllGoOn g os (e ∷ es)) → begun ≡ true → AllGoOn g os (new ∷ news)
  pub begins : found ≡ true → begun ≡ true
  pub stand : found ≡ true → all_stand (new ∷ news) ≡ true
  pub owed : (os : List (Option RelId)) (a : Partial) → (begun ≡ true → AllGoOn g os (e ∷ es)) → (begun ≡ true → AllSeen a (e ∷ es))
      → TakesNext g (barred os) a begun (e ∷ es) (new ∷ news) found

-- ---- by places

-- where they are gone through, the trail at a place and those that follow are
abbrev pub GoFrom : Graph → List Ends → ℕ → Type 0
GoFrom g es at = (e : Ends) (rest : List Ends) → drop at es ≡ e ∷ rest → AllGoOn g e.row.rels (e ∷ rest)

pub record HasGone (g : Graph) (barred : List (Option RelId) → ℕ → List RelId) (nodes rels : ℕ) (begun : Bool) (e : Ends) (es now : List Ends) (found : Bool) : Type 0 where
  pub head : Ends
  pub tail : List Ends
  pub is : now ≡ head ∷ tail
  pub gone : HaveGoneOn g barred nodes rels begun e es head tail found

-- those before it stay
pub record HaveGoneFrom (g : Graph) (barred : List (Option RelId) → ℕ → List RelId) (nodes rels : ℕ) (begun : Bool) (at : ℕ) (es hs : List Ends) (found : Bool) : Type 0 where
  pub front : take at hs ≡ take at es
  pub gone : (e : Ends) (rest : List Ends) → drop at es ≡ e ∷ rest → HasGone g barred nodes rels begun e rest (drop at hs) found

-- of the trail at a place: whether it stands, its row, and what is true of it
abbrev pub StandsAt : ℕ → List Ends → Bool → Type 0
StandsAt at es stands = (e : Ends) (rest : List Ends) → drop at es ≡ e ∷ rest → stands ≡ e.stands

abbrev pub IsRowAt : ℕ → List Ends → Wide → Type 0
IsRowAt at es row = (e : Ends) (rest : List Ends) → drop at es ≡ e ∷ rest → row ≡ e.row

abbrev pub AreEndsAt : ℕ → List Ends → Type 0
AreEndsAt at es = (e : Ends) (rest : List Ends) → drop at es ≡ e ∷ rest → AreEnds e

abbrev pub IsAsLongAt : ℕ → List Ends → Wide → Type 0
IsAsLongAt at es row = (e : Ends) (rest : List Ends) → drop at es ≡ e ∷ rest → (length row.nodes ≡ length e.row.nodes) × (length row.rels ≡ length e.row.rels)

pub record HasAdvanced (old new : Ends) (found : Bool) : Type 0 where
  pub goes : GoesToEnd old new found
  pub stands : new.stands ≡ found
  pub ends : AreEnds new
  pub same : AreSameEnds old new

pub record IsAdvanced (at : ℕ) (es hs : List Ends) (found : Bool) : Type 0 where
  pub new : Ends
  pub is : hs ≡ slice_set es at new
  pub one : (e : Ends) (rest : List Ends) → drop at es ≡ e ∷ rest → HasAdvanced e new found

pub record CanBegin (e : Ends) (base : Wide) : Type 0 where
  pub ends : AreEnds e
  pub walks : CanTrek e.graph.now (e.part.now ∷ []) base
  pub nodes : length e.row.nodes ≡ length base.nodes
  pub rels : length e.row.rels ≡ length base.rels

abbrev pub CanBeginAt : ℕ → List Ends → Wide → Type 0
CanBeginAt at es base = (e : Ends) (rest : List Ends) → drop at es ≡ e ∷ rest → CanBegin e base

pub record HasBegun (old new : Ends) (base : Wide) (used : ℕ → List RelId) : Type 0 where
  pub owed : (a : Partial) → IsSeen base a → left_from new a ≡ rows_at_ends old.graph.now used old.part.now a
  pub row : new.row ≡ base
  pub stands : new.stands ≡ false
  pub ends : AreEnds new
  pub same : AreSameEnds old new

pub record IsSetOut (at : ℕ) (es hs : List Ends) (base : Wide) (used : ℕ → List RelId) : Type 0 where
  pub new : Ends
  pub is : hs ≡ slice_set es at new
  pub one : (e : Ends) (rest : List Ends) → drop at es ≡ e ∷ rest → HasBegun e new base used

pub record HasWay (g : Graph) (barred : List (Option RelId) → ℕ → List RelId) (nodes rels : ℕ) (e : Ends) (es now : List Ends) : Type 0 where
  pub head : Ends
  pub next : Ends
  pub tail : List Ends
  pub is : now ≡ head ∷ next ∷ tail
  pub way : AreUnderWay g barred nodes rels e es head (next ∷ tail)

-- on the way to the next row
pub record AreUnderWayFrom (g : Graph) (barred : List (Option RelId) → ℕ → List RelId) (nodes rels at : ℕ) (es hs : List Ends) : Type 0 where
  pub front : take at hs ≡ take at es
  pub way : (e : Ends) (rest : List Ends) → drop at es ≡ e ∷ rest → HasWay g barred nodes rels e rest (drop at hs)

-- ---- behind trails that are walked

-- what a clause may not use: what walks and its patterns have, where a row has these relationships
abbrev pub barred_behind : List TypedRel → List (ℕ × List RelId) → List (Option RelId) → ℕ → List RelId
barred_behind ys ws os = used_in (patterns_in ys os) ws

-- the rows by which trails continue what others were walked to
abbrev pub rows_from_walks : Graph → List TypedRel → List TrailPart → List TrailPart → Trailing → List Partial
rows_from_walks g ys qs ps m = rows_by_ends g (used_in (patterns_from 0 ys (look m.row.rels)) (walks_with qs m.lists [])) ps m.row

-- the relationships of the row of the first
abbrev pub rels_first : List Ends → List (Option RelId)
rels_first [] = []
rels_first (e ∷ es) = e.row.rels

-- the rows that are owed: from what was reached last, and from all that is still to be walked to
abbrev pub owed_behind : List TypedRel → Bool → Trekking → List Ends → List Partial
owed_behind ys begun t es =
    owed_once t.graph (barred_behind ys (walked_of t) (rels_first es)) t.reached.row begun es ++ flat_map (rows_from_walks t.graph ys t.parts (parts_in es)) t.owed

-- trails can be gone through from what others are walked to
pub record CanGoFrom (g : Graph) (nodes : ℕ) (ys : List TypedRel) (qs ps : List TrailPart) (m : Trailing) : Type 0 where
  pub few : length qs + length ys ≤ 24
  pub ends : AllByRecursion (λ (p : TrailPart). p.to < nodes) ps
  pub fit : IsFit g ps m.row

-- they are gone through from what was reached last
pub record IsBegun (ys : List TypedRel) (t : Trekking) (es : List Ends) : Type 0 where
  pub few : length t.parts + length ys ≤ 24
  pub stands : t.standing ≡ true
  pub rels : (x : ℕ) → item_at (rels_first es) x ≡ look t.reached.row.rels x
  pub goes : AllGoOn t.graph (rels_first es) es
  pub seen : AllSeen t.reached.row es

pub record IsChainOf (ys : List TypedRel) (begun : Bool) (t : Trekking) (es : List Ends) : Type 0 where
  pub some : 1 ≤ length es
  pub all : AreOfOne t.graph t.nodes t.rels es
  pub left : AllByRecursion (CanGoFrom t.graph t.nodes ys t.parts (parts_in es)) t.owed
  pub state : begun ≡ true → IsBegun ys t es

-- all trails stay
pub record AreSameWays (t : Trekking) (es : List Ends) (u : Trekking) (hs : List Ends) : Type 0 where
  pub graph : u.graph ≡ t.graph
  pub walked : u.parts ≡ t.parts
  pub ends : parts_in hs ≡ parts_in es
  pub nodes : u.nodes ≡ t.nodes
  pub rels : u.rels ≡ t.rels

-- on the way to the next row as much is owed as was
pub record AreOnWay (ys : List TypedRel) (begun : Bool) (t : Trekking) (es : List Ends) (on : Bool) (u : Trekking) (hs : List Ends) : Type 0 where
  pub chain : IsChainOf ys on u hs
  pub same : AreSameWays t es u hs
  pub owed : owed_behind ys begun t es ≡ owed_behind ys on u hs

-- the first row that is owed is reached, or none is owed
pub record HaveGoneBehind (ys : List TypedRel) (begun : Bool) (t : Trekking) (es : List Ends) (u : Trekking) (hs : List Ends) (found : Bool) : Type 0 where
  pub chain : IsChainOf ys found u hs
  pub same : AreSameWays t es u hs
  pub stand : found ≡ true → all_stand hs ≡ true
  pub next : found ≡ true → owed_behind ys begun t es ≡ reached_by u.reached.row hs ∷ owed_behind ys found u hs
  pub none : found ≡ false → owed_behind ys begun t es ≡ []
  pub over : found ≡ false → owed_behind ys found u hs ≡ []

-- ---- all trails of a query

abbrev pub ends_in : Chain → List Ends
ends_in c = c.ends.items

abbrev pub all_parts : Chain → List TrailPart
all_parts c = c.trails.parts ++ parts_in (ends_in c)

abbrev pub rows_owed : Chain → List Partial
rows_owed c = owed_behind c.rels.now c.begun c.trails (ends_in c)

-- there is room for a row
pub record IsChain (c : Chain) : Type 0 where
  pub graph : c.graph.now ≡ c.trails.graph
  pub chain : IsChainOf c.rels.now c.begun c.trails (ends_in c)
  pub nodes : length c.row.nodes ≡ c.trails.nodes
  pub rels : length c.row.rels ≡ c.trails.rels

abbrev pub IsSameChain : Chain → Chain → Type 0
IsSameChain old new = AreSameWays old.trails (ends_in old) new.trails (ends_in new)

abbrev pub stands_in : Chain → Bool
stands_in c = c.begun && all_stand (ends_in c)

-- ---- in either way

abbrev pub continuing_by : Bool → Ways → Continuing
continuing_by once (Walked t) = record {
  graph = t.graph;
  parts = t.parts;
  once = once;
  nodes = t.nodes;
  rels = t.rels;
  owed = rows_in t.owed;
  reached = t.reached.row;
  standing = t.standing;
}
continuing_by once (Reached c) = record {
  graph = c.trails.graph;
  parts = all_parts c;
  once = once;
  nodes = c.trails.nodes;
  rels = c.trails.rels;
  owed = rows_owed c;
  reached = reached_by c.trails.reached.row (ends_in c);
  standing = stands_in c;
}

abbrev pub continuing_of : Inside → Continuing
continuing_of r = continuing_by r.once r.ways

abbrev pub IsWay : Bool → Ways → Type 0
IsWay once (Walked t) = walked_count once t.parts ≡ length t.parts
IsWay once (Reached c) = IsChain c × (walked_count once (all_parts c) ≡ length c.trails.parts)

abbrev pub IsContinuing : Inside → Type 0
IsContinuing r = IsWay r.once r.ways

-- The law that trails which are walked one after another give each assignment with its lists once.
use Rattle.std.specs.Prelude.{◌≡◌, ℕ, nat_eq, nat_le, Bool, true, false, ◌&&◌, ◌||◌, Option, Some, None, List, [], ◌∷◌, flat_map, length, reverse, slice_get}
use Rattle.std.specs.List.{AllByRecursion, list_all}
use Rattle.gq_base.specs.Plain.{Graph}
use Rattle.gq_base.specs.declared.NodeId.{NodeId}
use Rattle.gq_base.specs.declared.RelId.{RelId}
use Rattle.gq_base.specs.declared.direction.Direction.{Direction}
use Rattle.gq_base.specs.declared.direction.Direction.TheVariants.{Forward, Backward}
use Rattle.gq_plan.specs.Counts.{hits, bit}
use Rattle.std.specs.Cmp.Lexicographic.{pointwise}
use Rattle.gq_plan.specs.Allowed.{at_same}
use Rattle.gq_plan.specs.Assignments.{Assignment, is_rel, same_rel}
use Rattle.gq_plan.specs.Meaning.{Partial}
use Rattle.gq_law_plans.specs.Bindings.{extends, bound}
use Rattle.gq_law_trails.specs.Trails.{Trailing, after_trails, fits_end, used_in}
use Rattle.gq_law_trails.specs.Walks.{are_free, chained, end_of, is_of_type, is_walk}
use Rattle.gq_plan.specs.declared.TrailPart.{TrailPart}

-- ---- what trails ask of an assignment and their lists

abbrev pub end_met : Graph → TrailPart → Assignment → Option NodeId → Bool
end_met g p t None = false
end_met g p t (Some n) = at_same (slice_get t.nodes p.to) (Some n) && (p.both || fits_end g p n)

-- the list is a walk from the node at one end, without what was used, and ends at the node of the other end, which is as asked
abbrev pub trail_met : Graph → (ℕ → List RelId) → TrailPart → Assignment → List (ℕ × List RelId) → List RelId → Bool
trail_met g patterns p t ws l =
    is_walk g p.kind p.way p.low p.high (slice_get t.nodes p.from) (used_in patterns ws p.clause) l
    && end_met g p t (end_of g p.way (slice_get t.nodes p.from) l)

abbrev pub trails_met : Graph → (ℕ → List RelId) → List TrailPart → Assignment → List (ℕ × List RelId) → List (List RelId) → Bool
trails_met g patterns [] t ws [] = true
trails_met g patterns [] t ws (l ∷ ls) = false
trails_met g patterns (p ∷ ps) t ws [] = false
trails_met g patterns (p ∷ ps) t ws (l ∷ ls) = trail_met g patterns p t ws l && trails_met g patterns ps t ((p.clause, l) ∷ ws) ls

-- ---- the order of trails

-- each trail begins at a node variable that is bound, and meets one that is bound, or binds it
abbrev pub knows_more : Bool → ℕ → (ℕ → Bool) → ℕ → Bool
knows_more true to k v = k v
knows_more false to k v = nat_eq v to || k v

abbrev pub EndBound : Bool → Bool → Type 0
EndBound true there = there ≡ true
EndBound false there = Unit {0}

abbrev pub AreOrdered : List TrailPart → (ℕ → Bool) → Type 0
AreOrdered [] k = Unit {0}
AreOrdered (p ∷ ps) k = (k p.from ≡ true) × EndBound p.both (k p.to) × AreOrdered ps (knows_more p.both p.to k)

-- ---- the law

-- an assignment has what is bound, and these are its lists
abbrev pub is_trailed : Assignment → List (List RelId) → Trailing → Bool
is_trailed t ls m = extends m.row t && pointwise (pointwise same_rel) ls m.lists

-- how often an assignment stands with its lists among what is walked from something bound: once, where it has what is bound and
-- its lists are as the trails ask, and else not at all
abbrev pub TrailsWalkedOnce : Type 0
TrailsWalkedOnce =
    (g : Graph) (patterns : ℕ → List RelId) (ps : List TrailPart) (a : Partial) (ws : List (ℕ × List RelId)) (t : Assignment) (ls : List (List RelId))
    → AreOrdered ps (bound a.nodes)
    → hits (is_trailed t ls) (after_trails g patterns ps a ws) ≡ bit (extends a t && trails_met g patterns ps t ws ls)

-- so from several beginnings: where each assignment has just one of them if it passes a test, and else none, it stands with its
-- lists once where it passes the test and the lists are as the trails ask
abbrev pub TrailsWalkedFromEach : Type 0
TrailsWalkedFromEach =
    (g : Graph) (patterns : Partial → ℕ → List RelId) (ps : List TrailPart) (begins : List Partial) (t : Assignment) (ls : List (List RelId)) (of_t : ℕ → List RelId) (passes : Bool)
    → AllByRecursion (λ a. AreOrdered ps (bound a.nodes) × (extends a t ≡ true → patterns a ≡ of_t)) begins
    → hits (λ a. extends a t) begins ≡ bit passes
    → hits (is_trailed t ls) (flat_map (λ a. after_trails g (patterns a) ps a []) begins) ≡ bit (passes && trails_met g of_t ps t [] ls)

-- ---- what a trail asks, as it is meant

-- the list along the relationships, and the nodes where it starts and where it ends
abbrev pub turned : Direction → List RelId → List RelId
turned Forward l = l
turned Backward l = reverse l

abbrev pub begun_at : Direction → Option NodeId → Option NodeId → Option NodeId
begun_at Forward from to = from
begun_at Backward from to = to

abbrev pub ended_at : Direction → Option NodeId → Option NodeId → Option NodeId
ended_at Forward from to = to
ended_at Backward from to = from

-- the other end is as asked, where the trail binds it
abbrev pub end_fits : Graph → TrailPart → Option NodeId → Bool
end_fits g p None = false
end_fits g p (Some n) = p.both || fits_end g p n

-- a trail is met exactly where its relationships are of the graph and of its type, are as many as they may be, lead along the arrow
-- from one end to the other, are free of those that are used, and its other end is as asked
abbrev pub TrailMetAsMeant : Type 0
TrailMetAsMeant =
    (g : Graph) (patterns : ℕ → List RelId) (p : TrailPart) (t : Assignment) (ws : List (ℕ × List RelId)) (l : List RelId)
    → trail_met g patterns p t ws l
    ≡ ((list_all (is_rel g) l
    && (((nat_le p.low (length l) && nat_le (length l) p.high)
    && (list_all (is_of_type g p.kind) l
    && chained g (begun_at p.way (slice_get t.nodes p.from) (slice_get t.nodes p.to)) (turned p.way l) (ended_at p.way (slice_get t.nodes p.from) (slice_get t.nodes p.to))))
    && are_free (used_in patterns ws p.clause) l))
    && end_fits g p (slice_get t.nodes p.to))

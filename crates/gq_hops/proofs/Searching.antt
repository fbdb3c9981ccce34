-- The moves of a search: what stays true of it, and what is owed.
use Rattle.std.proofs.Common.{◌≡◌, ◌≢◌, ℕ, suc, ◌+◌, ◌-◌, ◌<◌, ◌≤◌, nat_eq, nat_le, nat_lt, Bool, true, false, ◌&&◌, cond, Option, Some, None, List, [], ◌∷◌, ◌++◌, filter, length, map, set, take, ◌||◌, refl, sym, ap, ap₂, ◌∙◌, subst, arith, inl, inr, ◌⊎◌}
use Rattle.std.specs.List.{list_any}
use Rattle.std.proofs.lemmas.Bool.{cases_lt}
use Rattle.std.proofs.lemmas.Bool.Decides.{nat_tests}
use Rattle.std.proofs.lemmas.List.{get_or-set_same, get_or-set_other, append_assoc, length-map, length-set, map-set, set-get_or, set-set}
use Rattle.gq_base.specs.declared.NodeId.{NodeId}
use Rattle.gq_base.specs.declared.RelId.{RelId}
use Rattle.gq_plan.specs.Assignments.{is_node, same_rel}
use Rattle.gq_plan.specs.Meaning.{far}
use Rattle.gq_law_trails.specs.Bounds.{AreBounds, comes, may_end_at}
use Rattle.gq_law_trails.specs.Walks.{end_of}
use Rattle.gq_hops.specs.Walking.{Course}
use Rattle.gq_marks.specs.Marking.{bound_of}
use Rattle.gq_hops.specs.steps.Hops.{AreTables, IsFirst, IsHop, IsLevel, IsLevelIn, IsSiteIn, IsStart, left_at, left_of, rel_of, same_site, tables_in}
use Rattle.gq_hops.specs.steps.Searches.{IsEnd, IsLonger, IsNext, IsOpen, IsPassed, IsPassedTo, IsRoomy, IsSeen, IsSiteAt, IsSiteOf, IsSpent, IsTaken, Run, behind, kept_by, left_in, level_at, met_at, no_level, no_met, onto, owed_by, rel_at, rels_in, run_of, taken, with_level, with_step}
use Rattle.gq_hops.specs.declared.follow.Hop.{Hop}
use Rattle.gq_hops.specs.declared.follow.Frame.{Frame}
use Rattle.gq_hops.specs.declared.follow.Met.{Met}
use Rattle.gq_hops.specs.declared.search.Run as declared
use Rattle.gq_hops.specs.declared.search.Search.{Search}
use Rattle.gq_hops.proofs.Owing.{AreSame, AreSameLevels, far_off, fresh_left, back, down, ends_at, skipped, stop, taken_has}
use Rattle.gq_hops.proofs.Sites.{rel_is, stands_by}
use Rattle.gq_hops.proofs.Weights.{back_less, down_less, pass_less, skip_less, weight}

pub set_level : (levels : List Frame) (n : ℕ) (l : Frame) → n < length levels → level_at (set levels n l) n ≡ l
set_level levels n l low = get_or-set_same levels n l no_level low

other_levels : (levels : List Frame) (n : ℕ) (l : Frame) → AreSameLevels (set levels n l) levels n
other_levels levels n l i low = let other : i ≢ n = omega arith in get_or-set_other levels n i l no_level other

other_rels : (rels : List RelId) (n : ℕ) (r : RelId) → AreSame (set rels n r) rels n
other_rels rels n r i low = let other : i ≢ n = omega arith in get_or-set_other rels n i r (record { table = 0; row = 0 }) other

set_met : (mets : List Met) (n : ℕ) (m : Met) → n < length mets → met_at (set mets n m) n ≡ m
set_met mets n m low = get_or-set_same mets n m no_met low

other_mets : (mets : List Met) (n : ℕ) (m : Met) (i : ℕ) → i < n → met_at (set mets n m) i ≡ met_at mets i
other_mets mets n m i low = let other : i ≢ n = omega arith in get_or-set_other mets n i m no_met other

-- where nothing was tried yet, all is left
pub started : (k : Course) (l : Frame) (at : NodeId) → IsStart at 0 l → left_in k l ≡ fresh_left k at
started k l at start =
    ap (λ (n : NodeId). left_at k.graph k.kind k.way n l.table l.place) start.at_is ∙ ap₂ (left_at k.graph k.kind k.way at) start.table_is start.place_is

-- a walk that is reached ends where it may, or not
module _ (c : Run) (old new : Search) (n : IsNext (owed_by c) c old new) where
  abbrev walk : List RelId
  walk = onto (rels_in c new) new.depth []

  kept_walk : (b : Bool) → nat_eq (c.bounds new.last) 0 ≡ b → kept_by c old ≡ cond b (walk ∷ kept_by c new) (kept_by c new)
  kept_walk b ends =
      ap (filter (comes c.course.graph c.course.way c.bounds None)) n.next
      ∙ ap (λ e. cond e (walk ∷ kept_by c new) (kept_by c new)) (ap (may_end_at c.bounds) (n.ends None) ∙ ends)

  pub kept_first : nat_eq (c.bounds new.last) 0 ≡ true → kept_by c old ≡ onto (rels_in c new) new.depth [] ∷ kept_by c new
  kept_first ends = kept_walk true ends

  pub kept_other : nat_eq (c.bounds new.last) 0 ≡ false → kept_by c old ≡ kept_by c new
  kept_other ends = kept_walk false ends

pub kept_same : (c : Run) (old new : Search) → owed_by c old ≡ owed_by c new → kept_by c old ≡ kept_by c new
kept_same c old new same = ap (filter (comes c.course.graph c.course.way c.bounds None)) same

pub kept_none : (c : Run) (old : Search) → owed_by c old ≡ [] → kept_by c old ≡ []
kept_none c old none = ap (filter (comes c.course.graph c.course.way c.bounds None)) none

-- a search that went on by what is met
pub record IsStepped (high : ℕ) (old new : Search) (m : Met) (level : Frame) : Type 0 where
  pub mets : new.mets.items ≡ set old.mets.items old.depth m
  pub depth : new.depth ≡ suc old.depth
  pub last : new.last ≡ m.node
  pub many : length new.levels.items ≡ length old.levels.items
  pub same : AreSameLevels new.levels.items old.levels.items (suc old.depth)
  pub next : suc old.depth < high → level_at new.levels.items (suc old.depth) ≡ level

pub stepped : (high : ℕ) (s : Search) (m : Met) (l : Frame) → IsRoomy s → high ≤ 16 → IsStepped high s (with_step high s m l) m l
stepped high s m l room few = go (cases_lt (s.depth + 1) high)
  where
    one : s.depth + 1 ≡ suc s.depth
    one = omega arith

    go : (s.depth + 1 < high) ⊎ (high ≤ s.depth + 1) → IsStepped high s (with_step high s m l) m l
    go (inl low) =
        let is : nat_lt (s.depth + 1) high ≡ true = grind (arith, nat_tests, low) in
        rw is (record {
          mets = refl;
          depth = one;
          last = refl;
          many = length-set s.levels.items (s.depth + 1) l;
          same = λ i less. other_levels s.levels.items (s.depth + 1) l i (omega (arith, less));
          next = λ more. ap (level_at (set s.levels.items (s.depth + 1) l)) (sym one) ∙ set_level s.levels.items (s.depth + 1) l (omega (arith, low, few, room.levels));
        })
    go (inr past) =
        let is : nat_lt (s.depth + 1) high ≡ false = grind (arith, nat_tests, past) in
        rw is (record {
          mets = refl;
          depth = one;
          last = refl;
          many = refl;
          same = λ i less. refl;
          next = λ more. absurd (omega (arith, more, past));
        })

module _ (r : declared.Run) (s : Search) (open_at : IsOpen (run_of r) s) where
  abbrev c : Run
  c = run_of r

  -- ---- back

  module _ (spent : IsSpent r s s) where
    pub at_end : s.depth ≡ 0 → IsEnd (owed_by (run_of r)) (run_of r) s s
    unfolding behind
    at_end first = record {
      open_at = open_at;
      none = back (run_of r) (rels_in (run_of r) s) s.levels.items s.depth spent.none ∙ ap (behind (run_of r) (rels_in (run_of r) s) s.levels.items) first;
    }

    module _ (some : s.depth ≢ 0) where
      abbrev up : Search
      up = record s { depth = s.depth - 1 }

      one_up : suc (s.depth - 1) ≡ s.depth
      one_up = omega (arith, some)

      pub open_up : IsOpen (run_of r) (record s { depth = s.depth - 1 })
      open_up = record {
        room = record { levels = open_at.room.levels; mets = open_at.room.mets };
        high = open_at.high;
        depth = omega (arith, open_at.depth);
        levels = λ i low high. open_at.levels i (omega (arith, low)) high;
        sites = λ i low. open_at.sites i (omega (arith, low));
      }

      pub owed_up : owed_by (run_of r) s ≡ owed_by (run_of r) (record s { depth = s.depth - 1 })
      owed_up = back (run_of r) (rels_in (run_of r) s) s.levels.items s.depth spent.none ∙ ap (behind (run_of r) (rels_in (run_of r) s) s.levels.items) (sym one_up)

      pub less_up : weight (run_of r) s.levels.items (suc (s.depth - 1)) < weight (run_of r) s.levels.items (suc s.depth)
      less_up = subst (λ n. weight (run_of r) s.levels.items n < weight (run_of r) s.levels.items (suc s.depth)) (sym one_up) (back_less (run_of r) s.levels.items s.depth)

  -- ---- another level at the end of the walk

  module _ (low : s.depth < r.high) (level : Frame) (fits : IsLevelIn r.follow.graph.now r.follow.kind.now r.follow.way level) where
    abbrev put : Search
    put = with_level s s.depth level

    inside : s.depth < length s.levels.items
    inside = omega (arith, low, open_at.high, open_at.room.levels)

    pub level_is : level_at (with_level s s.depth level).levels.items s.depth ≡ level
    level_is = set_level s.levels.items s.depth level inside

    pub below : AreSameLevels (with_level s s.depth level).levels.items s.levels.items s.depth
    below = other_levels s.levels.items s.depth level

    pub node_mid : (i : ℕ) → i ≤ s.depth → i < r.high → IsLevelIn c.course.graph c.course.kind c.course.way (level_at put.levels.items i)
    node_mid i most high = go (cases_lt i s.depth)
      where
        go : (i < s.depth) ⊎ (s.depth ≤ i) → IsLevelIn c.course.graph c.course.kind c.course.way (level_at put.levels.items i)
        go (inl less) = subst (IsLevelIn c.course.graph c.course.kind c.course.way) (sym (below i less)) (open_at.levels i most high)
        go (inr more) =
            let here : s.depth ≡ i = omega arith in
            subst (λ n. IsLevelIn c.course.graph c.course.kind c.course.way (level_at put.levels.items n)) here (subst (IsLevelIn c.course.graph c.course.kind c.course.way) (sym level_is) fits)

    pub room_mid : IsRoomy (with_level s s.depth level)
    room_mid = record { levels = length-set s.levels.items s.depth level ∙ open_at.room.levels; mets = open_at.room.mets }

    pub open_level : IsOpen (run_of r) (with_level s s.depth level)
    open_level = record { room = room_mid; high = open_at.high; depth = open_at.depth; levels = node_mid; sites = open_at.sites }

  -- ---- a relationship is tried

  module _ (low : s.depth < r.high) (level : Frame) (h : Hop) (first : IsFirst r.follow (level_at s.levels.items s.depth) level h) where
    abbrev mid : Search
    mid = with_level s s.depth level

    at_mid : level_at mid.levels.items s.depth ≡ level
    at_mid = level_is low level first.level

    under : AreSameLevels mid.levels.items s.levels.items s.depth
    under = below low level first.level

    left_is : left_in c.course (level_at s.levels.items s.depth) ≡ h.rel ∷ left_in c.course (level_at mid.levels.items s.depth)
    left_is = first.left ∙ ap (λ l. h.rel ∷ left_in c.course l) (sym at_mid)

    pub roomy_mid : IsRoomy (with_level s s.depth level)
    roomy_mid = room_mid low level first.level

    pub open_mid : IsOpen (run_of r) (with_level s s.depth level)
    open_mid = open_level low level first.level

    module _ (stands : list_any (same_rel h.rel) (taken r.used (rels_in (run_of r) s) s.depth) ≡ true) where
      pub owed_mid : owed_by (run_of r) s ≡ owed_by (run_of r) (with_level s s.depth level)
      owed_mid = skipped (run_of r) (rels_in (run_of r) s) s.levels.items mid.levels.items s.depth h.rel left_is stands under

    module _ (are : AreBounds (run_of r).course.graph (run_of r).course.kind (run_of r).course.way (run_of r).bounds) (short : nat_lt ((run_of r).bounds h.node + s.depth) r.high ≡ false) where
      -- whether it is used or not
      pub owed_far : kept_by (run_of r) s ≡ kept_by (run_of r) (with_level s s.depth level)
      owed_far = go (list_any (same_rel h.rel) (taken r.used (rels_in (run_of r) s) s.depth)) refl
        where
          go : (b : Bool) → list_any (same_rel h.rel) (taken r.used (rels_in (run_of r) s) s.depth) ≡ b → kept_by (run_of r) s ≡ kept_by (run_of r) (with_level s s.depth level)
          go true stands = kept_same (run_of r) s (with_level s s.depth level) (owed_mid stands)
          go false free = far_off (run_of r) are (rels_in (run_of r) s) s.levels.items mid.levels.items s.depth h.rel h.node low left_is free first.leads under (grind (arith, nat_tests, short))

    pub less_mid : weight (run_of r) (with_level s s.depth level).levels.items (suc s.depth) < weight (run_of r) s.levels.items (suc s.depth)
    less_mid = skip_less (run_of r) s.levels.items mid.levels.items s.depth h.rel low left_is under

    module _ (free : list_any (same_rel h.rel) (taken r.used (rels_in (run_of r) s) s.depth) ≡ false) (m : Met) (at : IsHop r.follow m h) (site : IsSiteOf (run_of r) m) (new : Search) (l : Frame)
        (is : IsStepped r.high (with_level s s.depth level) new m l) (fits : suc s.depth < r.high → IsLevelIn c.course.graph c.course.kind c.course.way l) (start : suc s.depth < r.high → IsStart m.node 0 l) where
      leads : far c.course.graph c.course.way h.rel ≡ Some m.node
      leads = first.leads ∙ ap Some at.node

      inside_mets : s.depth < length s.mets.items
      inside_mets = omega (arith, low, open_at.high, open_at.room.mets)

      rels_are : rels_in (run_of r) new ≡ set (rels_in (run_of r) s) s.depth h.rel
      rels_are =
          ap (map (rel_of c.course.graph c.course.way)) is.mets
          ∙ map-set (rel_of c.course.graph c.course.way) s.mets.items s.depth m
          ∙ ap (set (rels_in (run_of r) s) s.depth) (rel_is r.follow m h at)

      same_new : AreSameLevels new.levels.items s.levels.items s.depth
      same_new i less = is.same i (omega (arith, less)) ∙ under i less

      at_new : level_at new.levels.items s.depth ≡ level
      at_new = is.same s.depth (omega arith) ∙ at_mid

      left_new : left_in c.course (level_at s.levels.items s.depth) ≡ h.rel ∷ left_in c.course (level_at new.levels.items s.depth)
      left_new = first.left ∙ ap (λ l. h.rel ∷ left_in c.course l) (sym at_new)

      rel_new : rel_at (rels_in (run_of r) new) s.depth ≡ h.rel
      rel_new = ap (λ l. rel_at l s.depth) rels_are
          ∙ get_or-set_same (rels_in (run_of r) s) s.depth h.rel (record { table = 0; row = 0 }) (omega (arith, inside_mets, length-map s.mets.items (rel_of c.course.graph c.course.way)))

      rels_new : AreSame (rels_in (run_of r) new) (rels_in (run_of r) s) s.depth
      rels_new i less = ap (λ l. rel_at l i) rels_are ∙ other_rels (rels_in (run_of r) s) s.depth h.rel i less

      sites_new : (i : ℕ) → i < new.depth → IsSiteAt (run_of r) new i
      sites_new i less = go (cases_lt i s.depth)
        where
          go : (i < s.depth) ⊎ (s.depth ≤ i) → IsSiteAt (run_of r) new i
          go (inl before) = subst (IsSiteOf (run_of r)) (sym (ap (λ ms. met_at ms i) is.mets ∙ other_mets s.mets.items s.depth m i before)) (open_at.sites i before)
          go (inr there) =
              let here : i ≡ s.depth = omega (arith, less, there, is.depth) in
              subst (IsSiteOf (run_of r)) (sym (ap (met_at new.mets.items) here ∙ ap (λ ms. met_at ms s.depth) is.mets ∙ set_met s.mets.items s.depth m inside_mets)) site

      pub open_new : IsOpen (run_of r) new
      open_new = record {
        room = record {
          levels = is.many ∙ roomy_mid.levels;
          mets = ap length is.mets ∙ length-set s.mets.items s.depth m ∙ open_at.room.mets;
        };
        high = open_at.high;
        depth = omega (arith, is.depth, low);
        levels = λ i most high. nodes_new i (omega (arith, most, is.depth)) high;
        sites = sites_new;
      }
        where
          nodes_new : (i : ℕ) → i ≤ suc s.depth → i < r.high → IsLevelIn c.course.graph c.course.kind c.course.way (level_at new.levels.items i)
          nodes_new i most high = go (cases_lt i (suc s.depth))
            where
              go : (i < suc s.depth) ⊎ (suc s.depth ≤ i) → IsLevelIn c.course.graph c.course.kind c.course.way (level_at new.levels.items i)
              go (inl less) = subst (IsLevelIn c.course.graph c.course.kind c.course.way) (sym (is.same i less)) (node_mid low level first.level i (omega arith) high)
              go (inr more) =
                  let here : i ≡ suc s.depth = omega arith in
                  let low_here : suc s.depth < r.high = subst (λ n. n < r.high) here high in
                  subst (λ n. IsLevelIn c.course.graph c.course.kind c.course.way (level_at new.levels.items n)) (sym here) (subst (IsLevelIn c.course.graph c.course.kind c.course.way) (sym (is.next low_here)) (fits low_here))

      next_left : suc s.depth < r.high → left_in c.course (level_at new.levels.items (suc s.depth)) ≡ fresh_left c.course m.node
      next_left more = ap (left_in c.course) (is.next more) ∙ started c.course l m.node (start more)

      owed_down : owed_by (run_of r) s ≡ stop (r.low - suc s.depth) (onto (rels_in (run_of r) new) (suc s.depth) []) ++ behind (run_of r) (rels_in (run_of r) new) new.levels.items (suc (suc s.depth))
      owed_down = down (run_of r) (rels_in (run_of r) s) (rels_in (run_of r) new) s.levels.items new.levels.items s.depth h.rel m.node low left_new free leads rel_new rels_new same_new next_left

      owed_is : behind (run_of r) (rels_in (run_of r) new) new.levels.items (suc (suc s.depth)) ≡ owed_by (run_of r) new
      owed_is = ap (λ n. behind (run_of r) (rels_in (run_of r) new) new.levels.items (suc n)) (sym is.depth)

      pub at_next : r.low ≤ new.depth → IsNext (owed_by (run_of r)) (run_of r) s new
      at_next far_enough =
          let stops : nat_eq (r.low - suc s.depth) 0 ≡ true = (let none : r.low - suc s.depth ≡ 0 = omega (arith, far_enough, is.depth) in ap (λ n. nat_eq n 0) none) in
          record {
            open_at = open_new;
            next = owed_down
                ∙ ap (λ b. cond b (onto (rels_in (run_of r) new) (suc s.depth) [] ∷ []) [] ++ behind (run_of r) (rels_in (run_of r) new) new.levels.items (suc (suc s.depth))) stops
                ∙ ap₂ (λ n l. onto (rels_in (run_of r) new) n [] ∷ l) (sym is.depth) owed_is;
            ends = λ start. ap (λ n. end_at start (onto (rels_in (run_of r) new) n [])) is.depth ∙ ends_at c.course (rels_in (run_of r) new) s.depth start ∙ ap (far c.course.graph c.course.way) rel_new ∙ leads ∙ ap Some (sym is.last);
            there = ap (is_node c.course.graph) (is.last ∙ sym at.node) ∙ first.there;
          }
        where
          end_at : Option NodeId → List RelId → Option NodeId
          end_at start l = end_of c.course.graph c.course.way start l

      pub owed_new : new.depth < r.low → owed_by (run_of r) s ≡ owed_by (run_of r) new
      owed_new short =
          let goes : nat_eq (r.low - suc s.depth) 0 ≡ false = (let some : r.low - suc s.depth ≢ 0 = omega (arith, short, is.depth) in grind (arith, nat_tests, some)) in
          owed_down
          ∙ ap (λ b. cond b (onto (rels_in (run_of r) new) (suc s.depth) [] ∷ []) [] ++ behind (run_of r) (rels_in (run_of r) new) new.levels.items (suc (suc s.depth))) goes
          ∙ owed_is

      pub kept_on : (nat_le r.low new.depth && nat_eq ((run_of r).bounds new.last) 0) ≡ false → kept_by (run_of r) s ≡ kept_by (run_of r) new
      kept_on told = go (nat_le r.low new.depth) refl told
        where
          go : (b : Bool) → nat_le r.low new.depth ≡ b → (b && nat_eq ((run_of r).bounds new.last) 0) ≡ false → kept_by (run_of r) s ≡ kept_by (run_of r) new
          go true enough ends = kept_other (run_of r) s new (at_next (grind (arith, nat_tests, enough))) ends
          go false short ends = kept_same (run_of r) s new (owed_new (grind (arith, nat_tests, short)))

      pub less_new : weight (run_of r) new.levels.items (suc new.depth) < weight (run_of r) s.levels.items (suc s.depth)
      less_new = subst (λ n. weight (run_of r) new.levels.items (suc n) < weight (run_of r) s.levels.items (suc s.depth)) (sym is.depth)
          (down_less (run_of r) s.levels.items new.levels.items s.depth h.rel low left_new same_new m.node leads next_left)

-- of what is left at the end of the walk some is passed over
module _ (r : declared.Run) (s : Search) (open_at : IsOpen (run_of r) s) (low : s.depth < r.high) where
  abbrev kept_at : List Frame → List (List RelId)
  kept_at levels = filter (comes r.follow.graph.now r.follow.way (bound_of r.bounds) None) (behind (run_of r) (rels_in (run_of r) s) levels (suc s.depth))

  pub none_over : IsLevelIn r.follow.graph.now r.follow.kind.now r.follow.way (level_at s.levels.items s.depth) → IsPassedTo r s (level_at s.levels.items s.depth)
  none_over fits = record {
    fits = fits;
    over = [];
    left = refl;
    kept = ap kept_at (sym (set-get_or s.levels.items s.depth no_level));
  }

  module _ (level next : Frame) (h : Hop) (first : IsFirst r.follow level next h) (are : AreBounds r.follow.graph.now r.follow.kind.now r.follow.way (bound_of r.bounds))
      (short : nat_lt (bound_of r.bounds h.node + s.depth) r.high ≡ false) (told : IsPassedTo r s level) where
    mid_open : IsOpen (run_of r) (with_level s s.depth level)
    mid_open = open_level r s open_at low level told.fits

    first_mid : IsFirst r.follow (level_at (with_level s s.depth level).levels.items s.depth) next h
    first_mid = subst (λ (l : Frame). IsFirst r.follow l next h) (sym (level_is r s open_at low level told.fits)) first

    pub one_over : IsPassedTo r s next
    one_over = record {
      fits = first.level;
      over = told.over ++ h.rel ∷ [];
      left = told.left ∙ ap (λ l. told.over ++ l) first.left ∙ sym (append_assoc told.over (h.rel ∷ []) (left_of r.follow next));
      kept = told.kept ∙ owed_far r (with_level s s.depth level) mid_open low next h first_mid are short ∙ ap kept_at (set-set s.levels.items s.depth level next);
    }

  module _ (new : Search) (p : IsPassed r s new) where
    pub open_passed : IsOpen (run_of r) new
    open_passed = subst (IsOpen (run_of r)) (sym p.is) (open_level r s open_at low p.level p.told.fits)

    pub kept_passed : kept_by (run_of r) s ≡ kept_by (run_of r) new
    kept_passed = p.told.kept ∙ ap (kept_by (run_of r)) (sym p.is)

    pub less_passed : weight (run_of r) new.levels.items (suc new.depth) ≤ weight (run_of r) s.levels.items (suc s.depth)
    less_passed =
        let left = p.told.left ∙ ap (λ (l : Frame). p.told.over ++ left_of r.follow l) (sym (level_is r s open_at low p.level p.told.fits)) in
        subst (λ (n : Search). weight (run_of r) n.levels.items (suc n.depth) ≤ weight (run_of r) s.levels.items (suc s.depth)) (sym p.is)
        (pass_less (run_of r) s.levels.items (with_level s s.depth p.level).levels.items s.depth p.told.over left (below r s open_at low p.level p.told.fits))

-- what the test of what is met and a step say of the search before
module _ (r : declared.Run) (s mid : Search) (m : Met) (open_at : IsOpen (run_of r) s) (seen : IsSeen r s mid m) (tables : AreTables r.follow) where
  abbrev t : IsTaken r s mid seen.hop
  t = seen.taken

  pub site_is : IsSiteOf (run_of r) m
  site_is = subst (λ es. IsSiteIn r.follow.graph.now es r.follow.way m) tables seen.site

  pub stands_is : (b : Bool) → b ≡ (list_any (same_site m) (take mid.depth mid.mets.items) || list_any (same_rel seen.hop.rel) r.used) → list_any (same_rel seen.hop.rel) (taken r.used (rels_in (run_of r) s) s.depth) ≡ b
  stands_is b told =
      let g = r.follow.graph.now in
      let way = r.follow.way in
      let rels = rels_in (run_of r) s in
      let inside : s.depth ≤ length s.mets.items = omega (arith, t.low, open_at.high, open_at.room.mets) in
      taken_has r.used rels s.depth (omega (arith, inside, length-map s.mets.items (rel_of g way))) seen.hop.rel
      ∙ ap (λ (x : RelId). list_any (same_rel x) (take s.depth rels) || list_any (same_rel seen.hop.rel) r.used) (sym (rel_is r.follow m seen.hop seen.is))
      ∙ ap (λ b. b || list_any (same_rel seen.hop.rel) r.used)
      (stands_by g (tables_in g r.follow.kind.now way) way m site_is s.mets.items s.depth inside open_at.sites)
      ∙ sym (told ∙ ap (λ (n : Search). list_any (same_site m) (take n.depth n.mets.items) || list_any (same_rel seen.hop.rel) r.used) t.is)

  pub stepped_new : (new : Search) (l : Frame) → new ≡ with_step r.high mid m l → IsStepped r.high (with_level s s.depth t.level) new m l
  stepped_new new l is =
      subst (λ n. IsStepped r.high (with_level s s.depth t.level) n m l) (sym (is ∙ ap (λ (n : Search). with_step r.high n m l) t.is))
      (stepped r.high (with_level s s.depth t.level) m l (roomy_mid r s open_at t.low t.level seen.hop t.first) open_at.high)

  -- one that is not used makes the walk longer
  module _ (unused : false ≡ (list_any (same_site m) (take mid.depth mid.mets.items) || list_any (same_rel seen.hop.rel) r.used)) (new : Search) (longer : IsLonger r mid new m) where
    free : list_any (same_rel seen.hop.rel) (taken r.used (rels_in (run_of r) s) s.depth) ≡ false
    free = stands_is false unused

    is_longer : IsStepped r.high (with_level s s.depth t.level) new m longer.level
    is_longer = stepped_new new longer.level longer.is

    same_depth : mid.depth ≡ s.depth
    same_depth = ap (λ (n : Search). n.depth) t.is

    fits : suc s.depth < r.high → IsLevel r.follow longer.level
    fits more = longer.fits (omega (arith, more, same_depth))

    start : suc s.depth < r.high → IsStart m.node 0 longer.level
    start more = longer.start (omega (arith, more, same_depth))

    pub open_longer : IsOpen (run_of r) new
    open_longer = open_new r s open_at t.low t.level seen.hop t.first free m seen.is site_is new longer.level is_longer fits start

    pub less_longer : weight (run_of r) new.levels.items (suc new.depth) < weight (run_of r) s.levels.items (suc s.depth)
    less_longer = less_new r s open_at t.low t.level seen.hop t.first free m seen.is site_is new longer.level is_longer fits start

    pub kept_longer : (nat_le r.low new.depth && nat_eq ((run_of r).bounds new.last) 0) ≡ false → kept_by (run_of r) s ≡ kept_by (run_of r) new
    kept_longer ends = kept_on r s open_at t.low t.level seen.hop t.first free m seen.is site_is new longer.level is_longer fits start ends

    pub next_longer : r.low ≤ new.depth → IsNext (owed_by (run_of r)) (run_of r) s new
    next_longer enough = at_next r s open_at t.low t.level seen.hop t.first free m seen.is site_is new longer.level is_longer fits start enough

-- The moves of the search for ways to walk all trails: what stays true of it, and what is owed.
use Rattle.std.proofs.Common.{◌≡◌, ◌≢◌, ℕ, zero, suc, ◌+◌, ◌<◌, Bool, true, false, cond, List, [], ◌∷◌, ◌++◌, drop, filter, flat_map, map, length, set, refl, sym, ap, ap₂, ◌∙◌, subst, arith, inl, inr, ◌⊎◌}
use Rattle.std.proofs.lemmas.Bool.{cases_eq, cases_lt}
use Rattle.std.proofs.lemmas.List.{get_or_append_left, get_or_push, get_or-set_same, get_or-set_other, length-set}
use Rattle.gq_base.specs.Plain.{Graph}
use Rattle.gq_base.specs.declared.RelId.{RelId}
use Rattle.gq_law_trails.specs.Trails.{Trailing, after_trails, with_list}
use Rattle.gq_plan.specs.declared.TrailPart.{TrailPart}
use Rattle.gq_plan.specs.Meaning.{Partial, look}
use Rattle.gq_outer.specs.Rows.{Wide}
use Rattle.gq_hops.specs.Walking.{Walking}
use Rattle.gq_marks.specs.Marking.{Marking, bound_of}
use Rattle.gq_trails.specs.steps.Journeys.{AreWalkers, DropsMissed, HaveCourses, IsAt, IsFit, IsWalkerFor, Journey, bound_by, frame_of, frames_at, no_walk, owed_at, owed_behind, part_at, patterns_of, reached_at, row_at, turn_at, walk_at, walked_at, walks_on}
use Rattle.gq_trails.specs.steps.Treks.{Frame, Turn, around, met_by, ways_by}
use Rattle.gq_trails.proofs.Fitting.{split_parts}
use Rattle.gq_trails.proofs.Moves.{arrives, first_of, goes_back, misses, starts}

-- ---- what hangs on the first walkers alone

abbrev pub AreSameWalks : List Walking → List Walking → ℕ → Type 0
AreSameWalks vs ws n = (i : ℕ) → i < n → walk_at vs i ≡ walk_at ws i

pub row_alike : (j : Journey) (vs ws : List Walking) (n : ℕ) → AreSameWalks vs ws n → row_at j vs n ≡ row_at j ws n
unfolding row_at
row_alike j vs ws zero same = refl
row_alike j vs ws (suc n) same =
    ap₂ (λ (a : Partial) (w : Walking). bound_by j.graph (part_at j.parts n) a w.rels) (row_alike j vs ws n (λ i low. same i (omega arith))) (same n (omega arith))

pub walked_alike : (parts : List TrailPart) (vs ws : List Walking) (n : ℕ) → AreSameWalks vs ws n → walked_at parts vs n ≡ walked_at parts ws n
unfolding walked_at
walked_alike parts vs ws zero same = refl
walked_alike parts vs ws (suc n) same =
    ap₂ (λ (w : Walking) (l : List (ℕ × List RelId)). ((part_at parts n).clause, w.rels) ∷ l) (same n (omega arith)) (walked_alike parts vs ws n (λ i low. same i (omega arith)))

turn_with : Journey → ℕ → Partial → List (ℕ × List RelId) → Turn
turn_with j n a l = record { part = part_at j.parts n; later = drop (suc n) j.parts; row = a; walked = l }

pub turn_alike : (j : Journey) (vs ws : List Walking) (n : ℕ) → AreSameWalks vs ws n → turn_at j vs n ≡ turn_at j ws n
unfolding turn_with
turn_alike j vs ws n same = ap₂ (turn_with j n) (row_alike j vs ws n same) (walked_alike j.parts vs ws n same)

pub frames_alike : (j : Journey) (vs ws : List Walking) (n : ℕ) → AreSameWalks vs ws n → frames_at j vs n ≡ frames_at j ws n
unfolding frames_at
frames_alike j vs ws zero same = refl
frames_alike j vs ws (suc n) same =
    let below : AreSameWalks vs ws n = λ i low. same i (omega arith) in
    ap₂ ◌∷◌ (ap₂ frame_of (turn_alike j vs ws n below) (same n (omega arith))) (frames_alike j vs ws n below)

-- ---- a walker is put in the place of another

module _ (ws : List Walking) (n : ℕ) (w : Walking) (low : n < length ws) where
  pub put_here : walk_at (set ws n w) n ≡ w
  put_here = get_or-set_same ws n w no_walk low

  pub put_other : (i : ℕ) → i ≢ n → walk_at (set ws n w) i ≡ walk_at ws i
  put_other i other = get_or-set_other ws n i w no_walk other

  pub put_below : AreSameWalks (set ws n w) ws n
  put_below i less = let other : i ≢ n = omega arith in put_other i other

  pub courses_put : (g : Graph) (parts : List TrailPart) (m : ℕ) → IsWalkerFor g (part_at parts n) w → HaveCourses g parts ws m → HaveCourses g parts (set ws n w) m
  courses_put g parts m goes have i less = go (cases_eq i n)
    where
      go : (i ≡ n) ⊎ (i ≡ n → ⊥) → IsWalkerFor g (part_at parts i) (walk_at (set ws n w) i)
      go (inl here) =
          subst (λ k. IsWalkerFor g (part_at parts k) (walk_at (set ws n w) k)) (sym here) (subst (IsWalkerFor g (part_at parts n)) (sym put_here) goes)
      go (inr other) = subst (IsWalkerFor g (part_at parts i)) (sym (put_other i other)) (have i less)

  pub at_put : (j : Journey) (row : Wide) → IsAt j ws row n → IsAt j (set ws n w) row n
  at_put j row at = record {
    standing = λ i less. ap (λ (v : Walking). v.standing) (put_below i less) ∙ at.standing i less;
    fits = λ i most. subst (λ a. IsFit j.graph (drop i j.parts) a) (sym (row_alike j (set ws n w) ws i (λ k less. put_below k (omega arith)))) (at.fits i most);
    agrees = λ v free. at.agrees v free ∙ ap (λ (a : Partial). look a.nodes v) (sym (row_alike j (set ws n w) ws n put_below));
  }

  pub walkers_put : (j : Journey) (row : Wide) → IsWalkerFor j.graph (part_at j.parts n) w → AreWalkers j ws row → AreWalkers j (set ws n w) row
  walkers_put j row goes are = record {
    count = length-set ws n w ∙ are.count;
    courses = courses_put j.graph j.parts (length j.parts) goes are.courses;
    ends = are.ends;
    base = are.base;
    rels = are.rels;
    size = are.size;
  }

-- one more walker
pub courses_push : (g : Graph) (parts : List TrailPart) (ws : List Walking) (w : Walking) (n : ℕ) → length ws ≡ n → HaveCourses g parts ws n → IsWalkerFor g (part_at parts n) w
    → HaveCourses g parts (ws ++ w ∷ []) (n + 1)
courses_push g parts ws w n many have goes i less = elim (cases_lt i n) [
  | inl low ↦ subst (IsWalkerFor g (part_at parts i)) (sym (get_or_append_left ws (w ∷ []) no_walk i (omega (arith, low, many)))) (have i low)
  | inr high ↦
      let at : n ≡ i = omega (arith, less, high) in
      subst (λ k. IsWalkerFor g (part_at parts k) (walk_at (ws ++ w ∷ []) k)) at (subst (IsWalkerFor g (part_at parts n)) (sym (get_or_push ws w no_walk n many)) goes)
]

-- a walker that stays on its course and keeps its bounds
pub stays_for : (g : Graph) (p : TrailPart) (old new : Walking) → new.course ≡ old.course → new.bounds ≡ old.bounds → IsWalkerFor g p old → IsWalkerFor g p new
stays_for g p old new course bounds goes = record {
  course = course ∙ goes.course;
  fits = λ other n node fits. ap (λ (m : Marking). bound_of m n) bounds ∙ goes.fits other n node fits;
}

-- ---- what is owed

module _ (j : Journey) where
  abbrev g : Graph
  g = j.graph

  abbrev ps : ℕ → List RelId
  ps = patterns_of j

  abbrev owing : List Frame → Turn → List (List RelId) → List Trailing
  owing fs t ls = around g ps fs (flat_map (ways_by g ps t) ls)

  -- what a test drops gives nothing
  ways_kept : (t : Turn) (test : List RelId → Bool) → ((l : List RelId) → test l ≡ false → met_by g ps t l ≡ []) → (ls : List (List RelId)) → flat_map (ways_by g ps t) (filter test ls) ≡ flat_map (ways_by g ps t) ls
  ways_kept t test missed [] = refl
  ways_kept t test missed (l ∷ ls) = go (test l) refl (ways_kept t test missed ls)
    where
      go : (b : Bool) → test l ≡ b → flat_map (ways_by g ps t) (filter test ls) ≡ flat_map (ways_by g ps t) ls
          → flat_map (ways_by g ps t) (cond b (l ∷ filter test ls) (filter test ls)) ≡ ways_by g ps t l ++ flat_map (ways_by g ps t) ls
      go true e rest = ap (λ ms. ways_by g ps t l ++ ms) rest
      go false e rest =
          rest
          ∙ ap (λ bs. flat_map (λ b. map (with_list l) (after_trails g ps t.later b ((t.part.clause, l) ∷ t.walked))) bs ++ flat_map (ways_by g ps t) ls) (sym (missed l e))

  -- a trail begins
  pub owed_started : (ws : List Walking) (n : ℕ) (w : Walking) (test : List RelId → Bool) → n < length ws → n < length j.parts
      → w.owed ≡ filter test (walks_on j ws n) → DropsMissed j ws n test
      → around g ps (frames_at j ws n) (after_trails g ps (drop n j.parts) (row_at j ws n) (walked_at j.parts ws n)) ≡ owed_at j (set ws n w) n
  owed_started ws n w test low within owed missed =
      ap (λ l. around g ps (frames_at j ws n) (after_trails g ps l (row_at j ws n) (walked_at j.parts ws n))) (split_parts j.parts n within)
      ∙ ap (around g ps (frames_at j ws n)) (starts g ps (part_at j.parts n) (drop (suc n) j.parts) (row_at j ws n) (walked_at j.parts ws n))
      ∙ ap (around g ps (frames_at j ws n)) (sym (ways_kept (turn_at j ws n) test missed (walks_on j ws n)))
      ∙ ap (owing (frames_at j ws n) (turn_at j ws n)) (sym owed ∙ ap (λ (v : Walking). v.owed) (sym (put_here ws n w low)))
      ∙ ap₂ (λ fs t. owing fs t (walk_at (set ws n w) n).owed) (sym (frames_alike j (set ws n w) ws n (put_below ws n w low))) (sym (turn_alike j (set ws n w) ws n (put_below ws n w low)))

  -- its walker goes on
  module _ (ws : List Walking) (n : ℕ) (w : Walking) (low : n < length ws) (next : (walk_at ws n).owed ≡ w.rels ∷ w.owed) where
    abbrev vs : List Walking
    vs = set ws n w

    row_now : row_at j (set ws n w) n ≡ row_at j ws n
    row_now = row_alike j (set ws n w) ws n (put_below ws n w low)

    pub row_new : row_at j (set ws n w) (suc n) ≡ bound_by j.graph (part_at j.parts n) (row_at j ws n) w.rels
    unfolding row_at
    row_new = ap₂ (λ (a : Partial) (v : Walking). bound_by j.graph (part_at j.parts n) a v.rels) row_now (put_here ws n w low)

    pub owed_missed : met_by j.graph (patterns_of j) (turn_at j ws n) w.rels ≡ [] → owed_at j ws n ≡ owed_at j (set ws n w) n
    owed_missed none =
        ap (owing (frames_at j ws n) (turn_at j ws n)) next
        ∙ misses g ps (frames_at j ws n) (turn_at j ws n) w.rels w.owed none
        ∙ ap (owing (frames_at j ws n) (turn_at j ws n)) (ap (λ (v : Walking). v.owed) (sym (put_here ws n w low)))
        ∙ ap₂ (λ fs t. owing fs t (walk_at vs n).owed) (sym (frames_alike j vs ws n (put_below ws n w low))) (sym (turn_alike j vs ws n (put_below ws n w low)))

    onward : List Frame → Turn → Walking → List Trailing
    onward fs t v = around g ps (frame_of t v ∷ fs) (after_trails g ps t.later (row_at j vs (suc n)) ((t.part.clause, v.rels) ∷ t.walked))

    pub owed_arrived : met_by j.graph (patterns_of j) (turn_at j ws n) w.rels ≡ row_at j (set ws n w) (suc n) ∷ []
        → owed_at j ws n
        ≡ around j.graph (patterns_of j) (frames_at j (set ws n w) (suc n)) (after_trails j.graph (patterns_of j) (drop (suc n) j.parts) (row_at j (set ws n w) (suc n)) (walked_at j.parts (set ws n w) (suc n)))
    unfolding frames_at walked_at onward
    owed_arrived one =
        ap (owing (frames_at j ws n) (turn_at j ws n)) next
        ∙ arrives g ps (frames_at j ws n) (turn_at j ws n) w.rels w.owed (row_at j vs (suc n)) one
        ∙ ap (onward (frames_at j ws n) (turn_at j ws n)) (sym (put_here ws n w low))
        ∙ ap₂ (λ fs t. onward fs t (walk_at vs n)) (sym (frames_alike j vs ws n (put_below ws n w low))) (sym (turn_alike j vs ws n (put_below ws n w low)))

  -- its walker owes nothing
  pub owed_none : (ws : List Walking) (n : ℕ) → (walk_at ws n).owed ≡ [] → owed_at j ws n ≡ owed_behind j ws n
  owed_none ws n none = ap (owing (frames_at j ws n) (turn_at j ws n)) none

  pub owed_back : (ws : List Walking) (n : ℕ) → owed_behind j ws (suc n) ≡ owed_at j ws n
  unfolding frames_at
  owed_back ws n = goes_back g ps (frame_of (turn_at j ws n) (walk_at ws n)) (frames_at j ws n)

  pub owed_first : (ws : List Walking) → owed_behind j ws zero ≡ []
  unfolding frames_at around
  owed_first ws = refl

  -- all trails have walks
  pub owed_reached : (ws : List Walking) (n : ℕ) → drop n j.parts ≡ []
      → around j.graph (patterns_of j) (frames_at j ws n) (after_trails j.graph (patterns_of j) (drop n j.parts) (row_at j ws n) (walked_at j.parts ws n))
      ≡ reached_at j ws n ∷ owed_behind j ws n
  unfolding after_trails
  owed_reached ws n all =
      ap (λ l. around g ps (frames_at j ws n) (after_trails g ps l (row_at j ws n) (walked_at j.parts ws n))) all
      ∙ first_of g ps (frames_at j ws n) (record { row = row_at j ws n; lists = [] }) []

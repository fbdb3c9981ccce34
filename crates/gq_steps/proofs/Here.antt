-- The next group where the first ones stand: what it reads, and what a try of a place of it makes.
use Rattle.std.proofs.Common.{◌≡◌, ℕ, zero, suc, ◌+◌, ◌-◌, ◌*◌, ◌<◌, ◌≤◌, ◌⊎◌, inl, inr, Bool, true, false, ◌&&◌, nat_lt, cond, List, [], ◌∷◌, ◌++◌, length, take, drop, get_or, refl, sym, ap, ◌∙◌, subst, arith, true≢false}
use Rattle.std.specs.Prelude.{IsPermutation, Option, None, min, slice_get, slice_index_or}
use Rattle.std.proofs.lemmas.Bool.{and_parts, cases_lt, lt-ltb, le-ltb, ltb-true}
use Rattle.std.proofs.lemmas.List.{length-map, get_or_default}
use Rattle.gq_bits.specs.declared.TheConstants.{VECTOR}
use Rattle.gq_plan.specs.Covers.{fits_step, goes, after_step}
use Rattle.gq_plan.specs.Halves.{runs_step}
use Rattle.gq_plan.specs.Known.{Known, none}
use Rattle.gq_plan.specs.Meaning.{Partial, nothing, look, far, arrive, with_rel, keep_if, rels_from, holds, mean}
use Rattle.gq_plan.specs.Allowed.{at_same}
use Rattle.gq_plan.specs.Plans.{Step, Scan, Extend, Close, Join, Keep, Differ, NoLoop, Single, Meet}
use Rattle.gq_plan.specs.declared.assignment.Assignment.{Assignment}
use Rattle.gq_search.specs.Layouts.{number_of, has_one}
use Rattle.gq_search.specs.Marked.{IsMarkedAt}
use Rattle.gq_law_groups.specs.Groups.{Group, makes_group, HasRows, MakesGroup, raw, own, kept, passes, raw_at, first, place}
use Rattle.gq_law_groups.specs.Layout.{with_group, known_with, size_from, keeps_from, ArePlaced, AreFlatEnough}
use Rattle.gq_law_groups.specs.Order.{NoGroups, AreCut}
use Rattle.gq_law_groups.proofs.Alike.{AreAlike}
use Rattle.gq_law_groups.proofs.Single.{from_small}
use Rattle.gq_law_groups.proofs.Standing.{as_long, same_passes, next_group}
use Rattle.gq_steps.specs.Keeps.{made_at, makes_one, IsSifted, IsRange, IsPlaceMade, IsTold, IsTriedAt}
use Rattle.gq_steps.specs.Tests.{IsCut}
use Rattle.gq_steps.specs.Actions.{action_of}
use Rattle.gq_steps.specs.Levels.{Run, step_at, built_at, built_of, known, before}
use Rattle.gq_steps.specs.steps.Lists.{flat_in, rows_in, layout_in, AreBound, IsAtStep, Chain, IsGrouped, Stands, IsUntested}
use Rattle.gq_steps.specs.Groups.{no_group, group_at, group_in, groups_in, Tiles}
use Rattle.gq_steps.specs.Moves.{run_of, IsRun, IsHeld, IsAlike, steps_in}
use Rattle.gq_steps.specs.Tries.{tries}
use Rattle.gq_join.specs.Kept.{Held}
use Rattle.gq_steps.specs.Built.{FitsBuild}
use Rattle.gq_steps.proofs.Joined.{build_at}
use Rattle.gq_steps.specs.declared.group_steps.GroupSteps.{GroupSteps}
use Rattle.gq_steps.proofs.Binding.{before_alike, fits_at}
use Rattle.gq_steps.proofs.Going.{less_held, less_alike}
use Rattle.gq_steps.proofs.Standings.{tile_at}
use Rattle.gq_steps.specs.declared.plan_run.PlanRun.{PlanRun}
use Rattle.gq_steps.proofs.Trying.{as_many_steps}
use Rattle.gq_steps.proofs.Whole.{raw_long, made_is}

-- rows and load numbers that changed behind a step
pub record Moved (c : Run) (row new : Assignment) (d : ℕ) : Type 0 where
  pub held : IsHeld c new (known c d)
  pub alike : IsAlike (known c d) row new

to_alike : (k : Known) (a b : Partial) → AreBound k a b → AreAlike k a b
to_alike k a b h = record { nodes = h.nodes; rels = h.rels }

from_alike : (k : Known) (a b : Partial) → AreAlike k a b → AreBound k a b
from_alike k a b h = record { nodes = h.nodes; rels = h.rels }

moved_step : (c : Run) (row new : Assignment) (d f : ℕ) (k : Known) (a : Partial) → d ≤ f → Moved c row new f → IsAtStep c row d k a → IsAtStep c new d k a
moved_step c row new d f k a low m h = record {
  held = less_held c d f new low m.held;
  bound = subst (AreBound k a) (sym (before_alike c row new d (less_alike c d f row new low m.alike))) h.bound;
}

module _ (c : Run) (rows : ℕ → List Partial) (flat : ℕ → Bool) (row : Assignment) where
  pub record IsHere (i d : ℕ) (ss : List GroupSteps) (k : Known) (a : Partial) (pre : List ℕ) : Type 0 where
    pub s : GroupSteps
    pub is : group_at ss (length pre) ≡ s
    pub set : Known
    pub bound : Partial
    pub low : d ≤ s.first
    pub some : s.first < s.end
    pub inside : s.end ≤ length c.steps
    pub makes : makes_group (step_at c s.first) ≡ true
    pub no_groups : NoGroups (group_in c.steps s).checks
    pub fit : runs_step c.graph.catalog c.typed (step_at c s.first) set ≡ true
    pub placed : ArePlaced c.graph.catalog c.typed (group_in c.steps s).checks (after_step (step_at c s.first) set)
    pub standing : IsAtStep c row s.first set bound
    pub size : size_from c.graph c.typed rows flat i (groups_in c ss) a pre ≡ length (raw c.graph c.typed (rows (i + length pre)) (step_at c s.first) bound)
    pub keeps : (j : ℕ) → keeps_from c.graph c.typed rows flat i (groups_in c ss) a pre j ≡ passes c.graph c.typed (group_in c.steps s) (raw_at c.graph c.typed (rows (i + length pre)) (group_in c.steps s) bound j)
    pub stays : (new : Assignment) → Moved c row new s.first → Chain c rows flat new i d ss k a pre
    pub next : (new : Assignment) (n : ℕ) → Moved c row new s.first
        → IsAtStep c new s.end (known_with (flat (i + length pre)) (group_in c.steps s) set) (with_group c.graph c.typed rows flat (i + length pre) (group_in c.steps s) bound n)
        → Chain c rows flat new i d ss k a (pre ++ n ∷ [])

  here : (ss : List GroupSteps) (i d : ℕ) (k : Known) (a : Partial) (pre : List ℕ) → Tiles c d ss → AreCut (groups_in c ss) → AreFlatEnough c.graph.catalog c.typed flat i (groups_in c ss) k → length pre < length ss
      → Chain c rows flat row i d ss k a pre → IsHere i d ss k a pre
  unfolding Chain size_from keeps_from
  here [] i d k a pre tiles cut enough low h = absurd (omega (arith, low))
  here (s ∷ ss) i d k a [] tiles cut enough low h =
      let at : s.first ≡ d = tiles.0 in
      record {
        s = s;
        is = refl;
        set = k;
        bound = a;
        low = omega (arith, at);
        some = tiles.1;
        inside = tiles.2;
        makes = cut.0;
        no_groups = cut.1;
        fit = enough.0;
        placed = enough.1;
        standing = subst (λ n. IsAtStep c row n k a) (sym at) h;
        size = (let same : i ≡ i + 0 = omega arith in ap (λ n. length (raw c.graph c.typed (rows n) (step_at c s.first) a)) same);
        keeps = λ j. (let same : i ≡ i + 0 = omega arith in ap (λ n. passes c.graph c.typed (group_in c.steps s) (raw_at c.graph c.typed (rows n) (group_in c.steps s) a j)) same);
        stays = λ new m. moved_step c row new d s.first k a (omega (arith, at)) m h;
        next = λ new n m at_next. (let same : i + 0 ≡ i = omega arith in
            (moved_step c row new d s.first k a (omega (arith, at)) m h, subst (λ j. IsAtStep c new s.end (known_with (flat j) (group_in c.steps s) k) (with_group c.graph c.typed rows flat j (group_in c.steps s) a n)) same at_next));
      }
  here (s ∷ ss) i d k a (m ∷ pre) tiles cut enough low h =
      let r = here ss (i + 1) s.end (known_with (flat i) (group_in c.steps s) k) (with_group c.graph c.typed rows flat i (group_in c.steps s) a m) pre tiles.3 cut.2 enough.2 (omega (arith, low)) h.1 in
      let at : s.first ≡ d = tiles.0 in
      let before_end : s.first < s.end = tiles.1 in
      let later : s.end ≤ r.s.first = r.low in
      let same : i + suc (length pre) ≡ i + 1 + length pre = omega arith in
      record {
        s = r.s;
        is = r.is;
        set = r.set;
        bound = r.bound;
        low = omega (arith, at, before_end, later);
        some = r.some;
        inside = r.inside;
        makes = r.makes;
        no_groups = r.no_groups;
        fit = r.fit;
        placed = r.placed;
        standing = r.standing;
        size = r.size ∙ ap (λ n. length (raw c.graph c.typed (rows n) (step_at c r.s.first) r.bound)) (sym same);
        keeps = λ j. r.keeps j ∙ ap (λ n. passes c.graph c.typed (group_in c.steps r.s) (raw_at c.graph c.typed (rows n) (group_in c.steps r.s) r.bound j)) (sym same);
        stays = λ new moved. (moved_step c row new d r.s.first k a (omega (arith, at, before_end, later)) moved h.0, r.stays new moved);
        next = λ new n moved at_next. (
          moved_step c row new d r.s.first k a (omega (arith, at, before_end, later)) moved h.0,
          r.next new n moved (subst (λ j. IsAtStep c new r.s.end (known_with (flat j) (group_in c.steps r.s) r.set) (with_group c.graph c.typed rows flat j (group_in c.steps r.s) r.bound n)) same at_next),
        );
      }

-- ---- the steps that are placed at a group make at most one assignment each

pub none_at : (ss : List Step) (m n i : ℕ) → NoGroups (take n (drop m ss)) → i < n → m + i < length ss → makes_group (get_or ss (m + i) (Keep 0)) ≡ false
none_at [] m n i h low inside = absurd (omega arith)
none_at (s ∷ ss) zero zero i h low inside = absurd (omega arith)
none_at (s ∷ ss) zero (suc n) zero h low inside = h.0
none_at (s ∷ ss) zero (suc n) (suc i) h low inside =
    let e : 0 + suc i ≡ suc (0 + i) = omega arith in
    ap (λ p. makes_group (get_or (s ∷ ss) p (Keep 0))) e ∙ none_at ss zero n i h.1 (omega arith) (omega (arith, inside))
none_at (s ∷ ss) (suc m) n i h low inside =
    let e : suc m + i ≡ suc (m + i) = omega arith in
    ap (λ p. makes_group (get_or (s ∷ ss) p (Keep 0))) e ∙ none_at ss m n i h low (omega (arith, inside))

module _ (c : Run) (run : IsRun c) where
  one_try : (built : List Partial) (s : Step) (k : Known) (a : Partial) → makes_group s ≡ false → runs_step c.graph.catalog c.typed s k ≡ true → length (tries c.graph c.typed built s a) ≤ 1
  unfolding tries fits_step
  one_try built (Scan v) k a not_one fit = absurd (true≢false not_one)
  one_try built (Extend true x from to way) k a not_one fit =
      let small = from_small c.graph c.typed run.valid x from to way (and_parts (holds (goes c.graph.catalog true from to way) (slice_get c.typed.rels x)) _ fit).0 (look a.nodes from) in
      omega (arith, small, length-map (rels_from c.graph c.typed x way (look a.nodes from)) (λ r. arrive to (far c.graph way r) (with_rel x r a)))
  one_try built (Extend false x from to way) k a not_one fit = absurd (true≢false not_one)
  one_try built (Close true x from to way) k a not_one fit =
      let small = from_small c.graph c.typed run.valid x from to way (and_parts (holds (goes c.graph.catalog true from to way) (slice_get c.typed.rels x)) _ fit).0 (look a.nodes from) in
      omega (arith, small, length-map (rels_from c.graph c.typed x way (look a.nodes from)) (λ r. keep_if (at_same (look a.nodes to) (far c.graph way r)) (with_rel x r a)))
  one_try built (Close false x from to way) k a not_one fit = absurd (true≢false not_one)
  one_try built (Join side keys) k a not_one fit = absurd (true≢false not_one)
  one_try built (Keep i) k a not_one fit = omega arith
  one_try built (Differ p) k a not_one fit = omega arith
  one_try built (NoLoop x) k a not_one fit = omega arith
  one_try built (Single x from to way) k a not_one fit =
      let small = from_small c.graph c.typed run.valid x from to way (and_parts (holds (goes c.graph.catalog true from to way) (slice_get c.typed.rels x)) _ fit).0 (look a.nodes from) in
      omega (arith, small, length-map (rels_from c.graph c.typed x way (look a.nodes from)) (λ r. with_rel x r a ∷ []))
  one_try built (Meet x from to way) k a not_one fit = omega arith

  has_rows : (s : Step) (o : Option Held) → FitsBuild c.graph c.typed s o → HasRows c.graph c.typed (built_of c.typed s o) s
  has_rows (Scan v) o h = tt
  has_rows (Extend column x from to way) o h = tt
  has_rows (Close column x from to way) o h = tt
  has_rows (Join side keys) o h = subst (λ o. IsPermutation (built_of c.typed (Join side keys) o) (mean c.graph c.typed side nothing)) (sym h.there) h.is.made
  has_rows (Keep i) o h = tt
  has_rows (Differ p) o h = tt
  has_rows (NoLoop x) o h = tt
  has_rows (Single x from to way) o h = tt
  has_rows (Meet x from to way) o h = tt

  pub rows_fit : (d : ℕ) → d < length c.steps → HasRows c.graph c.typed (built_at c d) (step_at c d)
  rows_fit d low = has_rows (step_at c d) (slice_index_or c.builds d None) (build_at c.graph c.typed c.steps c.builds d run.builds low)

-- ---- each group is told what it does and how its places are found

pub told_at : (c : Run) (ss : List GroupSteps) → IsGrouped c ss → (i : ℕ) → i < length ss → IsTold c (group_at ss i)
told_at c ss grouped i low =
    let within = tile_at c 0 ss grouped.tiles i low in
    record { some = within.some; inside = within.inside; action = grouped.actions i low; cut = grouped.cuts i low }

-- ---- the next group

module _ (c : Run) (ss : List GroupSteps) (row : Assignment) (pre : List ℕ) (st : Stands c ss row pre) (low : length pre < length ss) where
  pub at : IsHere c (rows_in c ss) (flat_in ss) row 0 0 ss none nothing pre
  at = here c (rows_in c ss) (flat_in ss) row ss 0 0 none nothing pre st.grouped.tiles st.grouped.cut st.grouped.enough low st.chain

  pub range : IsRange c at.s
  range = record {
    some = at.some;
    inside = at.inside;
    action = subst (λ (s : GroupSteps). s.action ≡ action_of (step_at c s.first)) at.is (st.grouped.actions (length pre) low);
    cut = subst (λ (s : GroupSteps). IsCut c s.first s.end s.cut) at.is (st.grouped.cuts (length pre) low);
    tests = no_group_at;
    small = λ d after_it before_end a.
        (let inside = at.inside in
        one_try c st.runs (built_at c d) (step_at c d) (known c d) a (no_group_at d after_it before_end) (fits_at c st.runs d (omega (arith, before_end, inside))));
  }
    where
      step_makes : ℕ → Bool
      step_makes d = makes_group (step_at c d)

      no_group_at : (d : ℕ) → at.s.first < d → d < at.s.end → makes_group (step_at c d) ≡ false
      no_group_at d after_it before_end =
          let inside = at.inside in
          let there : at.s.first + 1 + (d - (at.s.first + 1)) ≡ d = omega (arith, after_it) in
          ap (step_makes) (sym there) ∙ none_at c.steps (at.s.first + 1) (at.s.end - (at.s.first + 1)) (d - (at.s.first + 1)) at.no_groups (omega (arith, after_it, before_end)) (omega (arith, after_it, before_end, inside))

  -- the rows of its build
  built : rows_in c ss (length pre) ≡ built_at c at.s.first
  built = ap (λ (s : GroupSteps). built_at c s.first) at.is

  built_here : rows_in c ss (0 + length pre) ≡ built_at c at.s.first
  built_here = let same : 0 + length pre ≡ length pre = omega arith in ap (rows_in c ss) same ∙ built

  e : Partial
  e = before c row at.s.first

  b : Group
  b = group_in c.steps at.s

  m : MakesGroup c.graph c.typed (built_at c at.s.first) (step_at c at.s.first)
  m = (at.makes, rows_fit c st.runs at.s.first (let some = at.some in let inside = at.inside in omega (arith, some, inside)))

  size_here : (layout_in c ss).size pre ≡ length (raw c.graph c.typed (built_at c at.s.first) (step_at c at.s.first) at.bound)
  size_here = at.size ∙ ap (λ (r : List Partial). length (raw c.graph c.typed r (step_at c at.s.first) at.bound)) built_here

  pub keeps_here : (j : ℕ) → (layout_in c ss).keeps pre j ≡ passes c.graph c.typed (group_in c.steps at.s) (raw_at c.graph c.typed (built_at c at.s.first) (group_in c.steps at.s) at.bound j)
  keeps_here j = at.keeps j ∙ ap (λ (r : List Partial). passes c.graph c.typed (group_in c.steps at.s) (raw_at c.graph c.typed r (group_in c.steps at.s) at.bound j)) built_here

  alike : AreAlike at.set at.bound (before c row at.s.first)
  alike = to_alike at.set at.bound (before c row at.s.first) at.standing.bound

  -- its whole list has as many places as its step
  pub size_is : (layout_in c ss).size pre ≡ length (tries c.graph c.typed (built_at c at.s.first) (step_at c at.s.first) (before c row at.s.first))
  size_is =
      size_here ∙ sym (as_long c.graph c.typed (built_at c at.s.first) (group_in c.steps at.s) at.set at.bound (before c row at.s.first) m at.fit at.placed alike)
      ∙ sym (raw_long c st.runs (built_at c at.s.first) (step_at c at.s.first) at.set (before c row at.s.first) at.makes at.fit)

  module _ (j : ℕ) (inside : j < (layout_in c ss).size pre) where
    abbrev z : Partial
    z = raw_at c.graph c.typed (built_at c at.s.first) (group_in c.steps at.s) (before c row at.s.first) j

    in_list : j < length (raw c.graph c.typed (built_at c at.s.first) (step_at c at.s.first) at.bound)
    in_list = omega (arith, inside, size_here)

    in_row : j < length (raw c.graph c.typed (built_at c at.s.first) (step_at c at.s.first) (before c row at.s.first))
    in_row = omega (arith, in_list, as_long c.graph c.typed (built_at c at.s.first) (group_in c.steps at.s) at.set at.bound (before c row at.s.first) m at.fit at.placed alike)

    made : made_at c at.s j row ≡ kept c.graph c.typed (group_in c.steps at.s) z
    made = made_is c st.runs at.s at.set row j at.makes at.fit in_row

    keeps_row : (layout_in c ss).keeps pre j ≡ passes c.graph c.typed (group_in c.steps at.s) z
    keeps_row = keeps_here j ∙ same_passes c.graph c.typed (built_at c at.s.first) (group_in c.steps at.s) at.set at.bound (before c row at.s.first) m at.fit at.placed alike j in_list

    -- it is kept exactly where the steps make something
    pub keeps_made : makes_one c at.s j row ≡ (layout_in c ss).keeps pre j
    keeps_made = ap has_one made ∙ sym keeps_row

    module _ (told : Bool) (new : Assignment) (tried : IsTriedAt c at.s j row told new) where
      moved : Moved c row new at.s.first
      moved = record { held = tried.held; alike = tried.alike }

      -- the first groups stand as they stood
      pub still : Stands c ss new pre
      still = record { runs = st.runs; grouped = st.grouped; chain = at.stays new moved }

      -- it is kept exactly where the layout keeps it
      pub told_is : told ≡ (layout_in c ss).keeps pre j
      told_is = go told tried.answer ∙ sym keeps_row
        where
          go : (t : Bool) → Rattle.std.specs.Prelude.MatchBool t (IsPlaceMade c at.s j row new) (made_at c at.s j row ≡ []) → t ≡ passes c.graph c.typed (group_in c.steps at.s) z
          go true h = ap has_one (sym h.made) ∙ ap has_one made
          go false h = ap has_one (sym h) ∙ ap has_one made

      module _ (n : ℕ) (is_kept : (layout_in c ss).keeps pre j ≡ true) (number_is : number_of ((layout_in c ss).flat pre) j ≡ n) where
        here_made : IsPlaceMade c at.s j row new
        here_made = subst (λ t. Rattle.std.specs.Prelude.MatchBool t (IsPlaceMade c at.s j row new) (made_at c at.s j row ≡ [])) (told_is ∙ is_kept) tried.answer

        pub place_is : place c.graph c.typed (built_at c at.s.first) (group_in c.steps at.s) (before c row at.s.first) j ≡ before c new at.s.end
        place_is = ap first (sym made) ∙ ap first here_made.made

        bound_next : AreAlike (known_with (flat_in ss (length pre)) (group_in c.steps at.s) at.set) (with_group c.graph c.typed (rows_in c ss) (flat_in ss) (length pre) (group_in c.steps at.s) at.bound n) (before c new at.s.end)
        bound_next =
            subst (λ (r : List Partial). AreAlike (known_with (flat_in ss (length pre)) (group_in c.steps at.s) at.set) (cond (flat_in ss (length pre)) (place c.graph c.typed r (group_in c.steps at.s) at.bound n) at.bound) (before c new at.s.end)) (sym built)
            (subst (AreAlike (known_with (flat_in ss (length pre)) (group_in c.steps at.s) at.set) (cond (flat_in ss (length pre)) (place c.graph c.typed (built_at c at.s.first) (group_in c.steps at.s) at.bound n) at.bound)) place_is
            (next_group c.graph c.typed (built_at c at.s.first) (group_in c.steps at.s) at.set at.bound (before c row at.s.first) m at.fit at.placed alike j in_list (sym keeps_row ∙ is_kept) (flat_in ss (length pre)) n number_is))

        at_end : IsAtStep c new at.s.end (known_with (flat_in ss (0 + length pre)) (group_in c.steps at.s) at.set) (with_group c.graph c.typed (rows_in c ss) (flat_in ss) (0 + length pre) (group_in c.steps at.s) at.bound n)
        at_end =
            let same : length pre ≡ 0 + length pre = omega arith in
            subst (λ i. IsAtStep c new at.s.end (known_with (flat_in ss i) (group_in c.steps at.s) at.set) (with_group c.graph c.typed (rows_in c ss) (flat_in ss) i (group_in c.steps at.s) at.bound n)) same
            (record {
              held = here_made.held;
              bound = from_alike (known_with (flat_in ss (length pre)) (group_in c.steps at.s) at.set) (with_group c.graph c.typed (rows_in c ss) (flat_in ss) (length pre) (group_in c.steps at.s) at.bound n) (before c new at.s.end) bound_next;
            })

        -- where it is kept, the group stands at its number
        pub next : Stands c ss new (pre ++ n ∷ [])
        next = record { runs = st.runs; grouped = st.grouped; chain = at.next new n moved at_end }

-- ---- the same by the group that the program has

module _ (c : Run) (ss : List GroupSteps) (row : Assignment) (depth : ℕ) (inside : depth < length ss) (x : GroupSteps) (found : x ≡ slice_index_or ss depth x) (pre : List ℕ) (long : length pre ≡ depth) (st : Stands c ss row pre) where
  low : length pre < length ss
  low = omega (arith, long, inside)

  group_is : (at c ss row pre st low).s ≡ x
  group_is = sym (at c ss row pre st low).is ∙ ap (group_at ss) long ∙ get_or_default ss depth no_group x inside ∙ sym found

  pub group_range : IsRange c x
  group_range = subst (IsRange c) group_is (range c ss row pre st low)

  -- its steps behind the first one make no group
  pub group_others : (d : ℕ) → x.first < d → d < x.end → makes_group (step_at c d) ≡ false
  group_others d above below =
      let s : GroupSteps = (at c ss row pre st low).s in
      let inside = (at c ss row pre st low).inside in
      let first_is : s.first ≡ x.first = ap (λ (t : GroupSteps). t.first) group_is in
      let end_is : s.end ≡ x.end = ap (λ (t : GroupSteps). t.end) group_is in
      let there : s.first + 1 + (d - (s.first + 1)) ≡ d = omega (arith, above, first_is) in
      ap (λ n. makes_group (step_at c n)) (sym there)
      ∙ none_at c.steps (s.first + 1) (s.end - (s.first + 1)) (d - (s.first + 1)) (at c ss row pre st low).no_groups (omega (arith, above, below, first_is, end_is)) (omega (arith, above, below, first_is, end_is, inside))

  pub group_held : IsHeld c row (known c x.first)
  group_held = subst (λ (s : GroupSteps). IsHeld c row (known c s.first)) group_is (at c ss row pre st low).standing.held

  pub group_makes : makes_group (step_at c x.first) ≡ true
  group_makes = ap (λ (s : GroupSteps). makes_group (step_at c s.first)) (sym group_is) ∙ (at c ss row pre st low).makes

  pub group_size : (layout_in c ss).size pre ≡ length (tries c.graph c.typed (built_at c x.first) (step_at c x.first) (before c row x.first))
  group_size = size_is c ss row pre st low ∙ ap (λ (s : GroupSteps). length (tries c.graph c.typed (built_at c s.first) (step_at c s.first) (before c row s.first))) group_is

  -- after a part of its list was tried, the first groups stand as they stood
  pub group_stays : (new : Assignment) → IsHeld c new (known c x.first) → IsAlike (known c x.first) row new → Stands c ss new pre
  group_stays new held same = record {
    runs = st.runs;
    grouped = st.grouped;
    chain = (at c ss row pre st low).stays new (subst (λ (s : GroupSteps). Moved c row new s.first) (sym group_is) (record { held = held; alike = same }));
  }

  -- the marks of a piece
  module _ (piece count : ℕ) (much : count ≡ min ((layout_in c ss).size pre - VECTOR * piece) VECTOR) (marks : List Bool) (len : length marks ≡ VECTOR) where
    in_piece : (i : ℕ) → i < VECTOR → nat_lt i count ≡ nat_lt (VECTOR * piece + i) ((layout_in c ss).size pre)
    in_piece i high = go (cases_lt i count)
      where
        go : (i < count) ⊎ (count ≤ i) → nat_lt i count ≡ nat_lt (VECTOR * piece + i) ((layout_in c ss).size pre)
        go (inl h) = lt-ltb i count h ∙ sym (lt-ltb (VECTOR * piece + i) ((layout_in c ss).size pre) (omega (arith, h, much)))
        go (inr h) = le-ltb i count h ∙ sym (le-ltb (VECTOR * piece + i) ((layout_in c ss).size pre) (omega (arith, h, high, much)))

    pub sifted_marks : (new : Assignment) → IsSifted c x (VECTOR * piece) count row new marks → IsMarkedAt (layout_in c ss) pre piece marks
    sifted_marks new s = record { len = len; each = λ i high. s.each i high ∙ go i (nat_lt i count) refl ∙ ap (λ b. b && (layout_in c ss).keeps pre (VECTOR * piece + i)) (in_piece i high) }
      where
        go : (i : ℕ) (b : Bool) → nat_lt i count ≡ b → (b && makes_one c x (VECTOR * piece + i) row) ≡ (b && (layout_in c ss).keeps pre (VECTOR * piece + i))
        go i true e =
            let h : i < count = ltb-true i count e in
            ap (λ (s : GroupSteps). makes_one c s (VECTOR * piece + i) row) (sym group_is) ∙ keeps_made c ss row pre st low (VECTOR * piece + i) (omega (arith, h, much))
        go i false e = refl

    pub whole_marks : ((i : ℕ) → slice_index_or marks i false ≡ nat_lt i count) → IsUntested c x → IsMarkedAt (layout_in c ss) pre piece marks
    whole_marks each all = record { len = len; each = λ i high. each i ∙ in_piece i high ∙ and_true (nat_lt (VECTOR * piece + i) ((layout_in c ss).size pre)) ∙ ap (λ b. nat_lt (VECTOR * piece + i) ((layout_in c ss).size pre) && b) (sym (keeps_all (VECTOR * piece + i))) }
      where
        and_true : (b : Bool) → b ≡ (b && true)
        and_true true = refl
        and_true false = refl

        keeps_all : (j : ℕ) → (layout_in c ss).keeps pre j ≡ true
        keeps_all j = keeps_here c ss row pre st low j ∙ subst (IsUntested c) (sym group_is) all (raw_at c.graph c.typed (built_at c (at c ss row pre st low).s.first) (group_in c.steps (at c ss row pre st low).s) (at c ss row pre st low).bound j)

  module _ (j : ℕ) (there : j < (layout_in c ss).size pre) (told : Bool) (new : Assignment) (tried : IsTriedAt c x j row told new) where
    tried_here : IsTriedAt c (at c ss row pre st low).s j row told new
    tried_here = subst (λ s. IsTriedAt c s j row told new) (sym group_is) tried

    pub group_still : Stands c ss new pre
    group_still = still c ss row pre st low j there told new tried_here

    pub group_told : told ≡ (layout_in c ss).keeps pre j
    group_told = told_is c ss row pre st low j there told new tried_here

    -- what the group binds there
    pub group_place : (n : ℕ) → (layout_in c ss).keeps pre j ≡ true → number_of ((layout_in c ss).flat pre) j ≡ n
        → place c.graph c.typed (built_at c x.first) (group_in c.steps x) (before c row x.first) j ≡ before c new x.end
    group_place n is_kept number_is =
        subst (λ (s : GroupSteps). place c.graph c.typed (built_at c s.first) (group_in c.steps s) (before c row s.first) j ≡ before c new s.end) group_is
        (place_is c ss row pre st low j there told new tried_here n is_kept number_is)

    pub group_next : (n : ℕ) → (layout_in c ss).keeps pre j ≡ true → number_of ((layout_in c ss).flat pre) j ≡ n → Stands c ss new (pre ++ n ∷ [])
    group_next n = next c ss row pre st low j there told new tried_here n

pub group_low : (p : PlanRun) (ss : List GroupSteps) (row : Assignment) (depth : ℕ) (inside : depth < length ss) (x : GroupSteps) (found : x ≡ slice_index_or ss depth x) (pre : List ℕ) (long : length pre ≡ depth) (st : Stands (run_of p) ss row pre) → x.first < length (steps_in p)
group_low p ss row depth inside x found pre long st =
    let r : IsRange (run_of p) x = group_range (run_of p) ss row depth inside x found pre long st in
    let some = r.some in
    let within = r.inside in
    let same : length (run_of p).steps ≡ length (steps_in p) = as_many_steps p in
    omega (arith, some, within, same)

-- ---- groups of one step

untested : (c : Run) (s : GroupSteps) → s.end ≤ s.first + 1 → ((e : Partial) → own c.graph c.typed (step_at c s.first) e ≡ true) → IsUntested c s
unfolding mean
untested c s short all e =
    let none : s.end - (s.first + 1) ≡ 0 = omega (arith, short) in
    rw (all e, none) refl

pub untested_at : (p : PlanRun) (s : GroupSteps) (u : Step) → step_at (run_of p) s.first ≡ u → s.end ≤ s.first + 1 → ((e : Partial) → own (run_of p).graph (run_of p).typed u e ≡ true) → IsUntested (run_of p) s
untested_at p s u is short all = untested (run_of p) s short (λ e. ap (λ v. own (run_of p).graph (run_of p).typed v e) is ∙ all e)

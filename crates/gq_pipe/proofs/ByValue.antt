-- Matches of a join at which another value stands than the one that is asked for: the group's steps make nothing of them.
use Rattle.std.proofs.Common.{◌≡◌, ◌≢◌, ℕ, ℤ, zero, suc, ◌+◌, ◌-◌, ◌*◌, ◌^◌, ◌<◌, ◌≤◌, ◌⊎◌, inl, inr, Bool, true, false, ◌||◌, cond, nat_eq, Option, Some, None, List, [], ◌∷◌, length, map, get_or, slice_get, refl, sym, ap, ◌∙◌, subst, arith, true≢false, ◌++◌}
use Rattle.std.specs.Borrow.{Bor}
use Rattle.std.specs.Option.{option_copied}
use Rattle.std.specs.Prelude.{All, IfSome, min, slice_index, slice_index_or}
use Rattle.std.proofs.lemmas.Bool.{cases_lt, eq-eqb, eqb-true}
use Rattle.std.specs.List.{range_with_len}
use Rattle.std.specs.List.Sorted.{IsStrictlyIncreasing}
use Rattle.std.proofs.lemmas.List.{get_or_past}
use Rattle.std.proofs.lemmas.List.FromFn.{get_or-map-range_with_len, get_or-range_with_len, length-map-range_with_len, length-range_with_len, map-range_with_len_more}
use Rattle.std.proofs.lemmas.List.Kept.{IsStrictlyIncreasing-filter}
use Rattle.std.proofs.lemmas.List.Elements.{All-filter, All-get_or}
use Rattle.std.proofs.lemmas.Option.{slice_get-get_or, slice_get_past}
use Rattle.gq_bits.specs.Places.{is_marked}
use Rattle.gq_bits.specs.declared.TheConstants.{VECTOR}
use Rattle.gq_base.specs.Plain.{Graph}
use Rattle.gq_filter.specs.Equal.{AreOne, HaveOne, cell_if, node_cell, row_cell}
use Rattle.gq_filter.specs.RowTests.{RowCondition, condition_over, is_true_of}
use Rattle.gq_filter.specs.declared.equalities.EqualColumns.{EqualColumns}
use Rattle.gq_filter.specs.declared.equalities.NodeColumn.{NodeColumn}
use Rattle.gq_index.specs.Integers.{number_of}
use Rattle.gq_index.specs.Numbered.{AreKeys, IsRising}
use Rattle.gq_join.specs.Kept.{Held, columns, has_key, matches, matches_of, node_in, place_of, values_of}
use Rattle.gq_plan.specs.Conditions.{differs, no_loop, passes}
use Rattle.gq_plan.specs.Meaning.{holds}
use Rattle.gq_plan.specs.Plans.{Plan, Step, Scan, Extend, Close, Join, Keep, Differ, NoLoop, Single, Meet}
use Rattle.gq_plan.specs.Rows.{as_read}
use Rattle.gq_plan.specs.declared.assignment.Assignment.{Assignment}
use Rattle.gq_plan.specs.declared.bound.NamedExpr.{NamedExpr}
use Rattle.gq_plan.specs.declared.typed.Typed.{Typed}
use Rattle.gq_same_texts.specs.Same.{Dicts, HaveOneText}
use Rattle.gq_same_texts.specs.declared.asked.EqualTexts.{EqualTexts}
use Rattle.gq_chains.proofs.Sifting.{judged}
use Rattle.gq_steps.specs.Keeps.{makes_one, IsRange}
use Rattle.gq_steps.specs.Levels.{Run, step_at, built_at, known, before}
use Rattle.gq_steps.specs.Matches.{AreMatches}
use Rattle.gq_steps.specs.Moves.{IsRun, IsHeld, IsTried}
use Rattle.gq_steps.specs.Pieces.{matches_in}
use Rattle.gq_steps.specs.Tries.{tries}
use Rattle.gq_steps.specs.declared.group_steps.GroupSteps.{GroupSteps}
use Rattle.gq_steps.specs.declared.plan_run.Tried.TheVariants.{Made}
use Rattle.gq_steps.specs.steps.Outcomes.{passes_at, tested, with_kept}
use Rattle.gq_steps.proofs.Going.{IsGoing, begins, made_first, tried_made, tried_missed}
use Rattle.gq_steps.proofs.Joined.{build, can_join, h, join_count, join_tried}
use Rattle.gq_steps.proofs.Joining.{get_set_all, has, length-set_all}
use Rattle.gq_steps.proofs.Testing.{differ_tried, keep_tried, no_loop_tried}
use Rattle.gq_pipe.specs.declared.valued.ValueIndex.{ValueIndex}
use Rattle.gq_pipe.specs.steps.Valued.{HaveOneBy, IsAsked, IsFoundIn, IsBuildOf, IsIndexed, IsValueJoin, finds, is_test, number_at, number_in, numbers_in}

-- ---- values

-- two cells with one value
one_found : (left right : Option ℤ) → AreOne left right → finds (number_in right) (number_in left) ≡ true
one_found left right one =
    ap (λ o. finds (number_in o) (number_in left)) one.right_is ∙ ap (λ o. finds (Some (number_of one.value)) (number_in o)) one.left_is
    ∙ eq-eqb (number_of one.value) (number_of one.value) refl

-- two cells with one number or one text, of which the other is asked for
one_asked : (texts : Option Dicts) (own asked value : Option ℤ) → HaveOneBy texts own asked → IsAsked texts asked value → finds (number_in value) (number_in own) ≡ true
one_asked None own asked value one is = ap (λ v. finds (number_in v) (number_in own)) is ∙ one_found own asked one
one_asked (Some d) own asked value one is =
    let cell = one.1 in
    let same : value ≡ own = is one.0 own one.2 cell in
    ap (λ v. finds (number_in v) (number_in own)) same ∙ one_found own own (record { value = cell.value; left_is = cell.known; right_is = cell.known })

-- ---- what a program's steps ask

-- the build of a join
pub build_there : (c : Run) → IsRun c → (d : ℕ) → d < length c.steps → (side : Plan) (keys : List ℕ) → (o : Option (Bor Held)) → step_at c d ≡ Join side keys → option_copied o ≡ slice_index_or c.builds d None → IfSome o (λ h. IsBuildOf c d h.now)
build_there c run d low side keys None is e = tt
build_there c run d low side keys (Some b) is e = record { side = side; keys = keys; join = is; build = sym e; inside = low }

test_asks : (g : Graph) (y : Typed) (row : Assignment) (ts : List NamedExpr) (i : ℕ) (t : RowCondition) → slice_get (map (condition_over g y) ts) i ≡ Some t → holds (passes g (as_read y row)) (slice_get ts i) ≡ is_true_of t row
test_asks g y row [] i t e = absurd (cc e)
test_asks g y row (n ∷ ts) zero t e = (let same : condition_over g y n ≡ t = cc e in ap (λ c. is_true_of c row) same)
test_asks g y row (n ∷ ts) (suc i) t e = test_asks g y row ts i t e

-- properties that a test asks to be equal
pub asked_by : (c : Run) → IsRun c → (i : ℕ) (t : RowCondition) → slice_get c.tests i ≡ Some t → (o : Option EqualColumns) → IfSome o (λ e. (row : Assignment) → is_true_of t row ≡ true → HaveOne e row)
    → IfSome o (λ e. (row : Assignment) → passes_at c.graph c.typed row i ≡ true → HaveOne e row)
asked_by c run i t there None h = tt
asked_by c run i t there (Some e) h = λ row is. h row (sym (test_asks c.graph c.typed row c.typed.tests i t (ap (λ ts. slice_get ts i) (sym run.tests) ∙ there)) ∙ is)

-- texts that a test asks to be equal
pub text_by : (c : Run) (i : ℕ) (t : NamedExpr) → slice_get c.typed.tests i ≡ Some t → (o : Option EqualTexts) → IfSome o (λ e. (row : Assignment) → passes c.graph (as_read c.typed row) t ≡ true → HaveOneText e row)
    → IfSome o (λ e. (row : Assignment) → passes_at c.graph c.typed row i ≡ true → HaveOneText e row)
text_by c i t there None h = tt
text_by c i t there (Some e) h = λ row is. h row (sym (ap (holds (passes c.graph (as_read c.typed row))) there) ∙ is)

-- ---- variables that a build keeps

place_there : (vs : List ℕ) (v : ℕ) → place_of vs v < length vs → get_or vs (place_of vs v) 0 ≡ v
place_there [] v low = absurd (omega (arith, low))
place_there (w ∷ vs) v low = go (nat_eq w v) refl (place_there vs v) low
  where
    go : (b : Bool) → nat_eq w v ≡ b → (place_of vs v < length vs → get_or vs (place_of vs v) 0 ≡ v) → cond b 0 (suc (place_of vs v)) < length (w ∷ vs) → get_or (w ∷ vs) (cond b 0 (suc (place_of vs v))) 0 ≡ v
    go true e rest h = eqb-true w v e
    go false e rest h = rest (omega (arith, h))

has_place : (vs : List ℕ) (v : ℕ) → place_of vs v < length vs → has vs v ≡ true
has_place [] v low = absurd (omega (arith, low))
has_place (w ∷ vs) v low = go (nat_eq w v) (has_place vs v) low
  where
    go : (b : Bool) → (place_of vs v < length vs → has vs v ≡ true) → cond b 0 (suc (place_of vs v)) < suc (length vs) → (b || has vs v) ≡ true
    go true rest h = refl
    go false rest h = rest (omega (arith, h))

has_none : (vs : List ℕ) (v : ℕ) → length vs ≤ place_of vs v → has vs v ≡ false
has_none [] v high = refl
has_none (w ∷ vs) v high = go (nat_eq w v) (has_none vs v) high
  where
    go : (b : Bool) → (length vs ≤ place_of vs v → has vs v ≡ false) → suc (length vs) ≤ cond b 0 (suc (place_of vs v)) → (b || has vs v) ≡ false
    go true rest h = absurd (omega (arith, h))
    go false rest h = rest (omega (arith, h))

-- ---- the rows that match

range_rises : (n : ℕ) → IsStrictlyIncreasing (range_with_len 0 n)
range_rises n k low =
    let many = length-range_with_len 0 n in
    omega (arith, get_or-range_with_len 0 n k 0 (omega (arith, low, many)), get_or-range_with_len 0 n (k + 1) 0 (omega (arith, low, many)))

rises : (rows : List ℕ) → IsStrictlyIncreasing rows → IsRising rows
rises rows up i j order low = (let e : i + (j - i) ≡ j = omega (arith, order) in subst (λ m. get_or rows i 0 + m ≤ get_or rows m 0 + i) e (go (j - i) (omega (arith, order, low))))
  where
    go : (n : ℕ) → i + n < length rows → get_or rows i 0 + (i + n) ≤ get_or rows (i + n) 0 + i
    go zero h = (let e : i + 0 ≡ i = omega arith in subst (λ m. get_or rows i 0 + m ≤ get_or rows m 0 + i) (sym e) (omega arith))
    go (suc n) h =
        let before = go n (omega (arith, h)) in
        let step = up (i + n) (omega (arith, h)) in
        let e : i + n + 1 ≡ i + suc n = omega arith in
        subst (λ m. get_or rows i 0 + m ≤ get_or rows m 0 + i) e (omega (arith, before, step))

matches_rise : (b : Held) (key : List ℕ) → IsRising (matches b key)
matches_rise b key = rises (matches b key) (IsStrictlyIncreasing-filter (has_key (columns b) key) (range_with_len 0 (length b.rows)) (range_rises (length b.rows)))

range_low : (n : ℕ) → All (λ i. i < n) (range_with_len 0 n)
range_low n i d low =
    let many = length-range_with_len 0 n in
    let at = get_or-range_with_len 0 n i d (omega (arith, low, many)) in
    omega (arith, low, many, at)

matched_low : (b : Held) (row : Assignment) (place : ℕ) → place < length (matches_of b row) → slice_index (matches_of b row) place < length b.rows
matched_low b row place low = All-get_or (λ i. i < length b.rows) (matches_of b row) place 0 low (All-filter (has_key (columns b) (values_of b.keys row.nodes)) (λ i. i < length b.rows) (range_with_len 0 (length b.rows)) (range_low (length b.rows)))

-- ---- the rows of a build beside their numbers

-- one row more
pub filled_more : (b : Held) (own : NodeColumn) (row : ℕ) (cell : Option ℕ) (old new : List ℕ) → cell ≡ number_in (row_cell own (node_in b own.node row))
    → ((cells : List (Option ℕ)) → length cells ≡ row → AreKeys cells old → AreKeys (cells ++ cell ∷ []) new)
    → AreKeys (map (λ i. number_in (row_cell own (node_in b own.node i))) (range_with_len 0 row)) old → AreKeys (map (λ i. number_in (row_cell own (node_in b own.node i))) (range_with_len 0 (row + 1))) new
filled_more b own row cell old new is push keys =
    let e : 0 + row ≡ row = omega arith in
    let more = map-range_with_len_more (λ i. number_in (row_cell own (node_in b own.node i))) 0 row row e in
    subst (λ ns. AreKeys ns new) (ap (λ x. map (λ i. number_in (row_cell own (node_in b own.node i))) (range_with_len 0 row) ++ x ∷ []) is ∙ sym more)
    (push (map (λ i. number_in (row_cell own (node_in b own.node i))) (range_with_len 0 row)) (length-map-range_with_len (λ i. number_in (row_cell own (node_in b own.node i))) 0 row) keys)

-- ---- one match

module _ (c : Run) (run : IsRun c) (group : GroupSteps) (range : IsRange c group) (b : Held) (own asked : NodeColumn) (texts : Option Dicts) (j : IsValueJoin c group b own asked texts) (old : Assignment) (held : IsHeld c old (known c group.first)) where
  same_build : h c run group.first j.join.inside old held j.join.side j.join.keys j.join.join ≡ b
  same_build = (let both : Some (h c run group.first j.join.inside old held j.join.side j.join.keys j.join.join) ≡ Some b = sym (build c run group.first j.join.inside old held j.join.side j.join.keys j.join.join).there ∙ j.join.build in cc both)

  all_match : matches_of (h c run group.first j.join.inside old held j.join.side j.join.keys j.join.join) old ≡ matches_of b old
  all_match = ap (λ t. matches_of t old) same_build

  -- each match is a place
  pub place_count : length (tries c.graph c.typed (built_at c group.first) (step_at c group.first) (before c old group.first)) ≡ length (matches_of b old)
  place_count = join_count c run group.first j.join.inside old held j.join.side j.join.keys j.join.join ∙ ap length all_match

  module _ (place : ℕ) (inside : place < length (matches_of b old)) (few : place + 1 < 2 ^ 32) where
    abbrev row : ℕ
    row = slice_index (matches_of b old) place

    -- the match is written
    abbrev new : Assignment
    new = with_kept b row old

    joined : IsTried c group.first place old new Made
    joined = join_tried c run group.first j.join.inside old held j.join.side j.join.keys j.join.join place new Made (record {
      row = row;
      is = ap (λ ms. slice_get ms place) all_match ∙ slice_get-get_or (matches_of b old) place 0 inside;
      written = ap (λ t. with_kept t row old) (sym same_build);
      few = few;
    })

    first_going : IsGoing c group place old (group.first + 1) new
    first_going = let next : suc group.first ≡ group.first + 1 = omega arith in subst (λ d. IsGoing c group place old d new) next (made_first c group range place old group.first old new (begins c group range place old held) refl joined)

    tried_at : (d : ℕ) → d < length c.steps → (s : Step) → step_at c d ≡ s → is_test s ≡ true → IsHeld c new (known c d) → (told : Bool) × IsTried c d 0 new new (tested 0 told)
    tried_at d low (Keep i) is t known_held = (holds (passes c.graph (as_read c.typed new)) (slice_get c.typed.tests i), keep_tried c run d low new known_held i is 0)
    tried_at d low (Differ p) is t known_held = (holds (differs (as_read c.typed new)) (slice_get c.typed.pairs p), differ_tried c run d low new known_held p is 0)
    tried_at d low (NoLoop x) is t known_held = (holds (no_loop (as_read c.typed new)) (slice_get c.typed.rels x), no_loop_tried c run d low new known_held x is 0)
    tried_at d low (Scan v) is t known_held = absurd (true≢false (sym t))
    tried_at d low (Extend column x from to way) is t known_held = absurd (true≢false (sym t))
    tried_at d low (Close column x from to way) is t known_held = absurd (true≢false (sym t))
    tried_at d low (Join side keys) is t known_held = absurd (true≢false (sym t))
    tried_at d low (Single x from to way) is t known_held = absurd (true≢false (sym t))
    tried_at d low (Meet x from to way) is t known_held = absurd (true≢false (sym t))

    missed : (d : ℕ) → group.first < d → d < group.end → IsGoing c group place old d new → IsTried c d 0 new new (tested 0 false) → makes_one c group place old ≡ false
    missed d above below g t =
        let far : d ≢ group.first = λ e. omega (arith, e, above) in
        sym (judged c group place old false new (tried_missed c group range place old d 0 new new g below (λ e. absurd (far e)) (λ e. refl) (inr far) t)).answer

    passed : (d : ℕ) → group.first < d → d < group.end → IsGoing c group place old d new → IsTried c d 0 new new (tested 0 true) → IsGoing c group place old (d + 1) new
    passed d above below g t =
        let far : d ≢ group.first = λ e. omega (arith, e, above) in
        let next : suc d ≡ d + 1 = omega arith in
        subst (λ n. IsGoing c group place old n new) next (tried_made c group range place old d 0 new new g below (λ e. absurd (far e)) (λ e. refl) (inr far) t)

    -- one test more is passed, or nothing is made
    next_test : (d : ℕ) → group.first < d → d < group.end → IsGoing c group place old d new → (told : Bool) → IsTried c d 0 new new (tested 0 told) → IsGoing c group place old (d + 1) new ⊎ (makes_one c group place old ≡ false)
    next_test d above below g true t = inl (passed d above below g t)
    next_test d above below g false t = inr (missed d above below g t)

    reaches : (n : ℕ) → group.first + 1 + n ≤ j.depth → IsGoing c group place old (group.first + 1 + n) new ⊎ (makes_one c group place old ≡ false)
    reaches zero high = inl (let same : group.first + 1 ≡ group.first + 1 + 0 = omega arith in subst (λ d. IsGoing c group place old d new) same first_going)
    reaches (suc n) high = go (reaches n (omega (arith, high)))
      where
        go : IsGoing c group place old (group.first + 1 + n) new ⊎ (makes_one c group place old ≡ false) → IsGoing c group place old (group.first + 1 + suc n) new ⊎ (makes_one c group place old ≡ false)
        go (inr none) = inr none
        go (inl g) =
            let at : group.first + 1 + n + 1 ≡ group.first + 1 + suc n = omega arith in
            let below = j.below in
            let end = range.inside in
            let t = tried_at (group.first + 1 + n) (omega (arith, high, below, end)) (step_at c (group.first + 1 + n)) refl (j.before (group.first + 1 + n) (omega arith) (omega (arith, high))) g.held in
            subst (λ d. IsGoing c group place old d new ⊎ (makes_one c group place old ≡ false)) at (next_test (group.first + 1 + n) (omega arith) (omega (arith, high, below)) g t.0 t.1)

    -- ---- what stands there

    all_low : All (λ v. v < length old.nodes) b.nodes
    all_low = subst (λ (t : Held). All (λ v. v < length old.nodes) t.nodes) same_build (can_join c run group.first j.join.inside old held j.join.side j.join.keys j.join.join).nodes

    own_low : own.node < length old.nodes
    own_low = subst (λ v. v < length old.nodes) (place_there b.nodes own.node j.asks.kept) (All-get_or (λ v. v < length old.nodes) b.nodes (place_of b.nodes own.node) 0 j.asks.kept all_low)

    as_long : length new.nodes ≡ length old.nodes
    as_long = length-set_all b.nodes (λ v. node_in b v row) old.nodes

    node_there : (v : ℕ) (kept : Bool) → has b.nodes v ≡ kept → v < length old.nodes → slice_get new.nodes v ≡ Some (cond kept (node_in b v row) (get_or old.nodes v 0))
    node_there v kept is low =
        slice_get-get_or new.nodes v 0 (omega (arith, as_long, low))
        ∙ ap Some (get_set_all b.nodes (λ w. node_in b w row) old.nodes v low ∙ ap (λ t. cond t (node_in b v row) (get_or old.nodes v 0)) is)

    own_there : node_cell own new ≡ row_cell own (node_in b own.node row)
    own_there = ap (cell_if own) (node_there own.node true (has_place b.nodes own.node j.asks.kept) own_low)

    asked_there : node_cell asked new ≡ node_cell asked old
    asked_there = ap (cell_if asked) (elim (cases_lt asked.node (length old.nodes)) [
      | inl low ↦ node_there asked.node false (has_none b.nodes asked.node j.asks.apart) low ∙ sym (slice_get-get_or old.nodes asked.node 0 low)
      | inr past ↦ slice_get_past new.nodes asked.node (omega (arith, as_long, past)) ∙ sym (slice_get_past old.nodes asked.node past)
    ])

    number_there : slice_index_or (numbers_in b own) row None ≡ number_in (row_cell own (node_in b own.node row))
    number_there = get_or-map-range_with_len (λ i. number_in (row_cell own (node_in b own.node i))) 0 (length b.rows) row row None (matched_low b old place inside) (let e : 0 + row ≡ row = omega arith in e)

    one_there : HaveOneBy texts (node_cell own new) (node_cell asked new) → HaveOneBy texts (row_cell own (node_in b own.node row)) (node_cell asked old)
    one_there one = subst (λ cell. HaveOneBy texts cell (node_cell asked old)) own_there (subst (HaveOneBy texts (node_cell own new)) asked_there one)

    -- where another value stands, the test is not passed
    module _ (value : Option ℤ) (at : IsAsked texts (node_cell asked old) value) (off : finds (number_in value) (slice_index_or (numbers_in b own) row None) ≡ false) where
      fails : (t : Bool) → passes_at c.graph c.typed new j.asks.test ≡ t → passes_at c.graph c.typed new j.asks.test ≡ false
      fails false is = is
      fails true is =
          absurd (true≢false (sym (ap (finds (number_in value)) number_there
          ∙ one_asked texts (row_cell own (node_in b own.node row)) (node_cell asked old) value (one_there (j.asks.equal new is)) at) ∙ off))

      pub none_made : makes_one c group place old ≡ false
      none_made = go (reaches (j.depth - (group.first + 1)) (let above = j.above in omega (arith, above)))
        where
          go : IsGoing c group place old (group.first + 1 + (j.depth - (group.first + 1))) new ⊎ (makes_one c group place old ≡ false) → makes_one c group place old ≡ false
          go (inr none) = none
          go (inl g) =
              let above = j.above in
              let below = j.below in
              let end = range.inside in
              let at : group.first + 1 + (j.depth - (group.first + 1)) ≡ j.depth = omega (arith, above) in
              let here : IsGoing c group place old j.depth new = subst (λ d. IsGoing c group place old d new) at g in
              missed j.depth above below here
              (subst (λ t. IsTried c j.depth 0 new new (tested 0 t)) (fails (passes_at c.graph c.typed new j.asks.test) refl)
              (keep_tried c run j.depth (omega (arith, below, end)) new here.held j.asks.test j.asks.keeps 0))

-- ---- the places of a piece

module _ (c : Run) (run : IsRun c) (group : GroupSteps) (range : IsRange c group) (t : ValueIndex) (x : IsIndexed c group t) (on : t.stands ≡ true) (row : Assignment) (held : IsHeld c row (known c group.first))
    (rows : List ℕ) (are : AreMatches c group.first row rows) where
  abbrev places : ℕ
  places = length (tries c.graph c.typed (built_at c group.first) (step_at c group.first) (before c row group.first))

  rows_are : rows ≡ matches_of t.build.now row
  rows_are = are.are x.join.join.side x.join.join.keys x.join.join.join ∙ ap (λ o. matches_in o row) x.join.join.build

  pub rising : IsRising rows
  rising = subst IsRising (sym rows_are) (matches_rise t.build.now (values_of t.build.now.keys row.nodes))

  pub many : places ≡ length rows
  many = place_count c run group range t.build.now t.own t.asked t.texts x.join row held ∙ ap length (sym rows_are)

  module _ (value : Option ℤ) (at : IsAsked t.texts (node_cell t.asked row) value) where
    pub none_found : (place : ℕ) → place < places → place + 1 < 2 ^ 32 → finds (number_in value) (number_at (numbers_in t.build.now t.own) rows place) ≡ false → makes_one c group place row ≡ false
    none_found place inside few off =
        let count = place_count c run group range t.build.now t.own t.asked t.texts x.join row held in
        none_made c run group range t.build.now t.own t.asked t.texts x.join row held place (omega (arith, inside, count)) few value at
        (ap (λ ns. finds (number_in value) (number_at (numbers_in t.build.now t.own) ns place)) (sym rows_are) ∙ off)

  module _ (piece first count : ℕ) (from : first ≡ VECTOR * piece) (much : count ≡ min (places - VECTOR * piece) VECTOR) (few : first + count < 2 ^ 32) (marks : List Bool) (f : IsFoundIn t rows piece row marks) where
    not_past : (k : ℕ) → count ≤ k → is_marked marks k ≡ true → ⊥
    not_past k past on = elim (cases_lt k VECTOR) [
      | inl low ↦ true≢false (sym on ∙ f.by.past k (omega (arith, past, low, much, many)))
      | inr high ↦ (let whole = f.by.whole in true≢false (sym on ∙ get_or_past marks k false (omega (arith, high, whole))))
    ]

    pub below : (k : ℕ) → is_marked marks k ≡ true → k < count
    below k on = elim (cases_lt k count) [ inl low ↦ low | inr past ↦ absurd (not_past k past on) ]

    pub others : (k : ℕ) → k < count → is_marked marks k ≡ false → makes_one c group (first + k) row ≡ false
    others k low off =
        let at : first + k ≡ VECTOR * piece + k = omega (arith, from) in
        none_found f.value f.asked (first + k) (omega (arith, low, much, from)) (omega (arith, low, few))
        (ap (λ n. finds (number_in f.value) (number_at (numbers_in t.build.now t.own) rows n)) at
        ∙ sym (f.by.each (numbers_in t.build.now t.own) k (x.places on) rising (omega (arith, low, much)) (omega (arith, low, much, many))) ∙ off)

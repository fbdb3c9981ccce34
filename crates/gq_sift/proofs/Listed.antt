-- Places of a list that a group keeps, one test after another, where rows or the load number there alone decide them.
use Rattle.std.proofs.Common.{◌≡◌, ◌⊎◌, inl, inr, ℕ, zero, suc, ◌+◌, ◌-◌, ◌^◌, ◌<◌, ◌≤◌, Bool, true, false, ◌==◌, ◌&&◌, not, nat_lt, Option, Some, None, List, length, drop, get_or, refl, sym, ap, ap₂, ◌∙◌, subst, arith}
use Rattle.std.specs.Prelude.{All, IfSome, slice_get, slice_index, slice_range}
use Rattle.std.proofs.Math.Bool.{and-true}
use Rattle.std.proofs.lemmas.Bool.{and_parts, cases_lt, le-ltb, lt-ltb, ltb-true, false≢true}
use Rattle.std.proofs.lemmas.List.{get_or-set_other, get_or-set_same, get_or-take, get_or-drop, length-take, length-drop}
use Rattle.std.proofs.lemmas.Option.{slice_get-get_or}
use Rattle.gq_base.specs.Directions.{opposite}
use Rattle.gq_bits.specs.Places.{is_marked}
use Rattle.gq_bits.specs.declared.TheConstants.{VECTOR}
use Rattle.gq_plan.specs.Meaning.{holds}
use Rattle.gq_plan.specs.Plans.{Extend}
use Rattle.gq_plan.specs.Rows.{rel_table}
use Rattle.gq_plan.specs.declared.typed.RelPair.{RelPair}
use Rattle.gq_plan.specs.declared.assignment.Assignment.{Assignment}
use Rattle.gq_store.specs.Neighbours.{near_rows, neighbours, numbers}
use Rattle.gq_sift.specs.steps.Candidates.{is_row, leads_to}
use Rattle.gq_steps.specs.Tests.{IsPairTest, RowsDecide, loop_of, other_of, pair_of, test_of}
use Rattle.gq_sift.specs.steps.Filters.{FiltersList, is_listed_step}
use Rattle.gq_sift.specs.steps.Numbers.{by_numbers, numbers_keep}
use Rattle.gq_sift.specs.Tested.{AreKept, IsTested, by_rows, far_row, rows_keep}
use Rattle.gq_steps.specs.Keeps.{makes_one, IsRange, IsSifted}
use Rattle.gq_steps.specs.Actions.{action_of}
use Rattle.gq_steps.specs.Levels.{Run, step_at, built_at, before, known}
use Rattle.gq_steps.specs.Moves.{IsRun, IsHeld, IsTried}
use Rattle.gq_steps.specs.steps.Outcomes.{passes_at, tested, with_number, with_row}
use Rattle.gq_steps.specs.Follows.{CanList}
use Rattle.gq_steps.specs.Tries.{tries}
use Rattle.gq_steps.specs.declared.action.Action.TheVariants as act
use Rattle.gq_steps.specs.declared.group_steps.GroupSteps.{GroupSteps}
use Rattle.gq_plan.specs.declared.follow.Follow.{Follow}
use Rattle.gq_chains.proofs.Acted.{differ_of, keep_of}
use Rattle.gq_chains.proofs.Sifting.{judged}
use Rattle.gq_sift.proofs.Judged.{IsGoingBy, all_going, apart, can_follow, first_going, loop_tried, next_going, next_missed, no_loop_of, pair_tried, row_tried}
use Rattle.gq_steps.proofs.Piecing.{listed_is}
use Rattle.gq_steps.proofs.Trying.{extend_count, extend_goes}

-- a part of a list
pub part_long : (list ids : List ℕ) (first count : ℕ) → ids ≡ slice_range list first (first + count) → first + count ≤ length list → length ids ≡ count
part_long list ids first count is inside =
    ap length is ∙ omega (arith, length-take (first + count - first) (drop first list), length-drop first list, inside)

pub part_item : (list ids : List ℕ) (first count j : ℕ) → ids ≡ slice_range list first (first + count) → j < count → slice_index ids j ≡ get_or list (first + j) 0
part_item list ids first count j is low =
    ap (λ xs. slice_index xs j) is ∙ get_or-take (first + count - first) (drop first list) j 0 (omega (arith, low)) ∙ get_or-drop first list j 0

column_is : (column : Bool) (x from to : ℕ) (w : _) → is_listed_step (Extend column x from to w) ≡ true → column ≡ false
column_is false x from to w is = refl
column_is true x from to w is = cc

module _ (c : Run) (run : IsRun c) (group : GroupSteps) (range : IsRange c group) (f : Follow) (filters : FiltersList c group f) (old : Assignment) (held : IsHeld c old (known c group.first)) where
  depth : group.first < length c.steps
  depth = let some = range.some in let end = range.inside in omega arith

  column : filters.reads.extends.0 ≡ false
  column = column_is filters.reads.extends.0 f.rel f.from f.to f.direction (sym (ap is_listed_step filters.reads.extends.1) ∙ filters.listed)

  is : step_at c group.first ≡ Extend false f.rel f.from f.to f.direction
  is = filters.reads.extends.1 ∙ ap (λ b. Extend b f.rel f.from f.to f.direction) column

  pub listed_action : action_of (step_at c group.first) ≡ act.List f
  listed_action = ap action_of is

  pub can_list : CanList c.graph c.typed old f
  can_list = record {
    follow = can_follow c run group range 0 old held f filters.reads.extends;
    listed = listed_is c f.from f.to f.rel f.direction (extend_goes c run group.first depth old held false f.rel f.from f.to f.direction is);
  }

  pub list_count : length (tries c.graph c.typed (built_at c group.first) (step_at c group.first) (before c old group.first)) ≡ length (neighbours c.graph (rel_table c.typed f.rel) f.direction (slice_index old.nodes f.from))
  list_count = extend_count c run group.first depth old held false f.rel f.from f.to f.direction is

  pub listing_node : f.to < length old.nodes
  listing_node = let can = can_list.follow in omega (arith, can.to, can.sized.nodes)

  pub other_low : (d : ℕ) → group.first < d → d < group.end → (number : ℕ) → pair_of (step_at c d) ≡ Some number → IfSome (slice_get c.typed.pairs number) (λ pair. other_of f.rel pair < length old.rels)
  other_low d above low number is = elim (filters.reads.tests d above low) [
    | inl test ↦ (let none : pair_of (step_at c d) ≡ None = ap pair_of (keep_of (step_at c d) test.test test.is) in cc)
    | inr (inr test) ↦ (let none : pair_of (step_at c d) ≡ None = ap pair_of (no_loop_of (step_at c d) f.rel test.is) in cc)
    | inr (inl test) ↦
        (let same : test.number ≡ number = cc in
        let there : slice_get c.typed.pairs number ≡ Some test.pair = ap (λ n. slice_get c.typed.pairs n) (sym same) ∙ test.there in
        let inside : other_of f.rel test.pair < length c.typed.rels = test.with.low in
        let many : length old.rels ≡ length c.typed.rels = held.rel_count in
        let within : other_of f.rel test.pair < length old.rels = omega (arith, inside, many) in
        subst (λ (o : Option RelPair). IfSome o (λ pair. other_of f.rel pair < length old.rels)) (sym there) within)
  ]

  abbrev list : List ℕ
  list = neighbours c.graph (rel_table c.typed f.rel) f.direction (slice_index old.nodes f.from)

  abbrev list_numbers : List ℕ
  list_numbers = numbers c.graph (rel_table c.typed f.rel) f.direction (slice_index old.nodes f.from)

  -- a pair keeps a place by the load number there
  pair_keeps : (first d j : ℕ) (test : IsPairTest c d f.rel) → by_numbers c f first old d j ≡ not (leads_to list_numbers (first + j) (slice_index old.rels (other_of f.rel test.pair)))
  pair_keeps first d j test =
      ap (numbers_keep c f old (first + j)) (differ_of (step_at c d) test.number test.is)
      ∙ ap (holds (λ pair. not (leads_to list_numbers (first + j) (slice_index old.rels (other_of f.rel pair))))) test.there

  -- ---- what the steps keep, one after another

  module _ (first : ℕ) (d : ℕ) (above : group.first < d) (low : d < group.end) (before after : List Bool) where
    -- by the rows of a part of the list
    pub rows_each : (ids : List ℕ) (count : ℕ) → length ids ≡ count → ((j : ℕ) → j < count → slice_index ids j ≡ far_row c f old (first + j)) → ((j : ℕ) → count ≤ j → is_marked before j ≡ false)
        → ((i : ℕ) → test_of (step_at c d) ≡ Some i → (j : ℕ) → is_marked after j ≡ (is_marked before j && passes_at c.graph c.typed (with_row f.to (slice_index ids j) old) i))
        → ((number : ℕ) → pair_of (step_at c d) ≡ Some number → after ≡ before)
        → (loop_of (step_at c d) ≡ Some f.rel → (j : ℕ) → is_marked after j ≡ (is_marked before j && not (slice_index ids j == slice_index old.nodes f.from)))
        → (j : ℕ) → is_marked after j ≡ (is_marked before j && by_rows c f first old d j)
    rows_each ids count many items within tests pairs loops j = elim (filters.reads.tests d above low) [
      | inl test ↦ tests test.test test.is j ∙ inside_of (λ r. passes_at c.graph c.typed (with_row f.to r old) test.test) (by_rows c f first old d j) (sym (ap (rows_keep c f old (first + j)) (keep_of (step_at c d) test.test test.is))) (cases_lt j count)
      | inr (inr test) ↦ loops test.is j ∙ inside_of (λ r. not (r == slice_index old.nodes f.from)) (by_rows c f first old d j) (sym (ap (rows_keep c f old (first + j)) (no_loop_of (step_at c d) f.rel test.is))) (cases_lt j count)
      | inr (inl test) ↦
          ap (λ ms. is_marked ms j) (pairs test.number test.is) ∙ sym (and-true (is_marked before j))
          ∙ ap (λ b. is_marked before j && b) (sym (ap (rows_keep c f old (first + j)) (differ_of (step_at c d) test.number test.is)))
    ]
      where
        -- a row of the part is the one at its place
        inside_of : (verdict : ℕ → Bool) (told : Bool) → verdict (far_row c f old (first + j)) ≡ told → (j < count) ⊎ (count ≤ j) → (is_marked before j && verdict (slice_index ids j)) ≡ (is_marked before j && told)
        inside_of verdict told same (inl under) = ap (λ b. is_marked before j && b) (ap verdict (items j under) ∙ same)
        inside_of verdict told same (inr past) = ap (λ b. b && verdict (slice_index ids j)) (within j past) ∙ sym (ap (λ b. b && told) (within j past))

    -- by load numbers
    pub numbers_each : ((number : ℕ) → pair_of (step_at c d) ≡ Some number → (pair : RelPair) → slice_get c.typed.pairs number ≡ Some pair
        → (j : ℕ) → is_marked after j ≡ (is_marked before j && not (leads_to list_numbers (first + j) (slice_index old.rels (other_of f.rel pair)))))
        → (pair_of (step_at c d) ≡ None → after ≡ before) → (j : ℕ) → is_marked after j ≡ (is_marked before j && by_numbers c f first old d j)
    numbers_each pairs others j = elim (filters.reads.tests d above low) [
      | inl test ↦ left (ap pair_of (keep_of (step_at c d) test.test test.is)) (ap (numbers_keep c f old (first + j)) (keep_of (step_at c d) test.test test.is))
      | inr (inr test) ↦ left (ap pair_of (no_loop_of (step_at c d) f.rel test.is)) (ap (numbers_keep c f old (first + j)) (no_loop_of (step_at c d) f.rel test.is))
      | inr (inl test) ↦ pairs test.number test.is test.pair test.there j ∙ ap (λ b. is_marked before j && b) (sym (pair_keeps first d j test))
    ]
      where
        left : pair_of (step_at c d) ≡ None → by_numbers c f first old d j ≡ true → is_marked after j ≡ (is_marked before j && by_numbers c f first old d j)
        left none keeps = ap (λ ms. is_marked ms j) (others none) ∙ sym (and-true (is_marked before j)) ∙ ap (λ b. is_marked before j && b) (sym keeps)

  -- where rows alone decide all tests, load numbers keep each place
  pub no_numbers : ((d : ℕ) → group.first < d → d < group.end → RowsDecide c d f) → (first : ℕ) (marks : List Bool) → AreKept (is_marked marks) (by_numbers c f first old) group.first group.end marks
  no_numbers decide first marks = record { on = λ j m. (m, λ d above below. keeps d j (decide d above below)); off = λ j s all. s }
    where
      keeps : (d j : ℕ) → RowsDecide c d f → by_numbers c f first old d j ≡ true
      keeps d j (inl test) = ap (numbers_keep c f old (first + j)) (keep_of (step_at c d) test.test test.is)
      keeps d j (inr test) = ap (numbers_keep c f old (first + j)) (no_loop_of (step_at c d) f.rel test.is)

  -- ---- a place at which each step was tried

  module _ (rows : All (λ other. other < near_rows c.graph (rel_table c.typed f.rel) (opposite f.direction)) list) (few : length list < 2 ^ 32) (place : ℕ) (there : place < length list) where
    abbrev put : Assignment
    put = with_row f.to (far_row c f old place) old

    abbrev Going : ℕ → Type 0
    Going d = IsGoingBy c group place old f d put

    -- whether the step at a depth keeps it
    abbrev told_at : ℕ → Bool
    told_at d = rows_keep c f old place (step_at c d) && numbers_keep c f old place (step_at c d)

    first_listed : Going (group.first + 1)
    first_listed = first_going c run group range place old held f filters.reads.extends (far_row c f old place) (slice_get-get_or list place 0 there) (rows place 0 there) few

    tried_as : (d : ℕ) (above : group.first < d) (low : d < group.end) (g : Going d) (told : Bool) → told_at d ≡ told → IsTried c d 0 (with_number f.rel g.number put) (with_number f.rel g.number put) (tested 0 told)
    tried_as d above low g told is = elim (filters.reads.tests d above low) [
      | inl test ↦
          (let keep = keep_of (step_at c d) test.test test.is in
          let verdict : told_at d ≡ passes_at c.graph c.typed put test.test = ap (λ s. rows_keep c f old place s && numbers_keep c f old place s) keep ∙ and-true (passes_at c.graph c.typed put test.test) in
          row_tried c run group range place old held f filters.reads.extends d put g above low test told (sym verdict ∙ is))
      | inr (inr test) ↦
          (let loop = no_loop_of (step_at c d) f.rel test.is in
          let far : Bool = not (far_row c f old place == slice_index old.nodes f.from) in
          let verdict : told_at d ≡ far = ap (λ s. rows_keep c f old place s && numbers_keep c f old place s) loop ∙ and-true far in
          let ends : not (slice_index put.nodes f.to == slice_index put.nodes f.from) ≡ far =
          ap₂ (λ a b. not (a == b)) (get_or-set_same old.nodes f.to (far_row c f old place) 0 listing_node) (get_or-set_other old.nodes f.to f.from (far_row c f old place) 0 (apart c run group range place old held f filters.reads.extends)) in
          loop_tried c run group range place old held f filters.reads.extends d put g above low test told (ends ∙ sym verdict ∙ is))
      | inr (inl test) ↦
          (let other : ℕ = slice_index old.rels (other_of f.rel test.pair) in
          let differ = differ_of (step_at c d) test.number test.is in
          let verdict : told_at d ≡ not (leads_to list_numbers place other) =
          ap (λ s. rows_keep c f old place s && numbers_keep c f old place s) differ
          ∙ ap (holds (λ pair. not (leads_to list_numbers place (slice_index old.rels (other_of f.rel pair))))) test.there in
          pair_tried c run group range place old held f filters.reads.extends d put g above low test told (ap (λ o. not (is_row other o)) (sym g.numbered) ∙ sym verdict ∙ is))
    ]

    abbrev All_told : ℕ → Type 0
    All_told high = (d : ℕ) → group.first < d → d < high → told_at d ≡ true

    -- each step keeps it, and they make something of it; or one does not, and they do not
    abbrev Decided : Type 0
    Decided = (All_told group.end × (makes_one c group place old ≡ true)) ⊎ (((d : ℕ) × (group.first < d) × (d < group.end) × (told_at d ≡ false)) × (makes_one c group place old ≡ false))

    -- by one more step
    decide_at : (d : ℕ) → group.first < d → d < group.end → Going d → All_told d → (Going (d + 1) → All_told (d + 1) → Decided) → Decided
    decide_at d above low g told further = by_told (told_at d) refl
      where
        next : told_at d ≡ true → (e : ℕ) → group.first < e → e < d + 1 → (e < d) ⊎ (d ≤ e) → told_at e ≡ true
        next is e over under (inl earlier) = told e over earlier
        next is e over under (inr later) = let same : d ≡ e = omega (arith, under, later) in subst (λ x. told_at x ≡ true) same is

        by_told : (b : Bool) → told_at d ≡ b → Decided
        by_told true is =
            further (next_going c run group range place old held f filters.reads.extends d put g above low (tried_as d above low g true is)) (λ e over under. next is e over under (cases_lt e d))
        by_told false is =
            inr ((d, above, low, is), sym (judged c group place old false _ (next_missed c run group range place old held f filters.reads.extends d put g above low (tried_as d above low g false is))).answer)

    decide : (n d : ℕ) → d + n ≡ group.end → group.first < d → Going d → All_told d → Decided
    decide zero d all above g told =
        let end : d ≡ group.end = omega (arith, all) in
        inl (subst All_told end told, sym (judged c group place old true _ (all_going c run group range place old held f filters.reads.extends d put g (omega (arith, all)))).answer)
    decide (suc n) d all above g told = decide_at d above (omega (arith, all)) g told (decide n (d + 1) (omega (arith, all)) (omega (arith, above)))

    pub decided : Decided
    decided =
        let some = range.some in
        decide (group.end - (group.first + 1)) (group.first + 1) (omega (arith, some)) (omega arith) first_listed (λ d over under. absurd (omega (arith, over, under)))

  -- ---- the marks of a part

  module _ (rows : All (λ other. other < near_rows c.graph (rel_table c.typed f.rel) (opposite f.direction)) list) (few : length list < 2 ^ 32) (first count : ℕ) (inside : first + count ≤ length list) where
    -- what the steps keep by rows, and of that by load numbers, is what they make something of
    pub listed : (tested marks : List Bool) → IsTested c group f first count old tested → length marks ≡ VECTOR → AreKept (is_marked tested) (by_numbers c f first old) group.first group.end marks → IsSifted c group first count old old marks
    listed tested marks t long k = record {
      held = held;
      alike = record { nodes = λ x e. refl; rels = λ x e. refl };
      len = long;
      each = λ j top. at_place j (cases_lt j count);
    }
      where
        makes : ℕ → Bool
        makes j = makes_one c group (first + j) old

        off_false : (j : ℕ) (b : Bool) → is_marked marks j ≡ b → (is_marked marks j ≡ true → ⊥) → is_marked marks j ≡ false
        off_false j true is none = absurd (none is)
        off_false j false is none = is

        low_at : (j : ℕ) → is_marked marks j ≡ true → j < count
        low_at j on = ltb-true j count (t.kept.on j (k.on j on).0).0

        at_place : (j : ℕ) → (j < count) ⊎ (count ≤ j) → is_marked marks j ≡ (nat_lt j count && makes j)
        at_place j (inr past) = off_false j (is_marked marks j) refl (λ on. let low = low_at j on in absurd (omega (arith, low, past))) ∙ sym (ap (λ x. x && makes j) (le-ltb j count past))
        at_place j (inl low) = by_decided (decided rows few (first + j) (omega (arith, low, inside)))
          where
            told : ℕ → Bool
            told d = rows_keep c f old (first + j) (step_at c d) && numbers_keep c f old (first + j) (step_at c d)

            within : (nat_lt j count && makes j) ≡ makes j
            within = ap (λ x. x && makes j) (lt-ltb j count low)

            parts : ((d : ℕ) → group.first < d → d < group.end → told d ≡ true) → (d : ℕ) → group.first < d → d < group.end
                → (by_rows c f first old d j ≡ true) × (by_numbers c f first old d j ≡ true)
            parts all d over under = and_parts (by_rows c f first old d j) (by_numbers c f first old d j) (all d over under)

            by_decided : Decided rows few (first + j) (omega (arith, low, inside)) → is_marked marks j ≡ (nat_lt j count && makes j)
            by_decided (inl r) =
                k.off j (t.kept.off j (lt-ltb j count low) (λ d over under. (parts r.0 d over under).0)) (λ d over under. (parts r.0 d over under).1) ∙ sym (within ∙ r.1)
            by_decided (inr r) =
                off_false j (is_marked marks j) refl (λ on. absurd (false≢true (sym r.0.3 ∙ ap₂ ◌&&◌ ((t.kept.on j (k.on j on).0).1 r.0.0 r.0.1 r.0.2) ((k.on j on).1 r.0.0 r.0.1 r.0.2)))) ∙ sym (within ∙ r.1)

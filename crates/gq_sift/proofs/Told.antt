-- A group makes one of a place whose relationship all its conditions are true of.
use Rattle.std.proofs.Common.{◌≡◌, ◌⊎◌, inl, inr, ℕ, zero, suc, ◌+◌, ◌-◌, ◌^◌, ◌<◌, ◌≤◌, ◌&&◌, nat_lt, Bool, true, false, Some, List, length, refl, sym, ap, ◌∙◌, subst, arith}
use Rattle.std.specs.Prelude.{slice_index, slice_set}
use Rattle.std.proofs.lemmas.Bool.{cases_eq, cases_lt, le-ltb, lt-ltb, true≢false}
use Rattle.std.proofs.lemmas.List.{get_or-set_other, get_or-set_same}
use Rattle.std.proofs.lemmas.Option.{slice_get-get_or}
use Rattle.gq_bits.specs.Places.{is_marked}
use Rattle.gq_plan.specs.Rows.{rel_table}
use Rattle.gq_plan.specs.declared.assignment.Assignment.{Assignment}
use Rattle.gq_store.specs.Neighbours.{neighbours}
use Rattle.gq_store.proofs.Reading.{neighbours_below}
use Rattle.gq_chains.specs.Among.{IsAmong}
use Rattle.gq_steps.specs.Tests.{test_of}
use Rattle.gq_sift.specs.steps.EdgeTests.{IsTestedAs}
use Rattle.gq_sift.specs.steps.Parts.{part_from}
use Rattle.gq_chains.specs.steps.Extends.{Extends}
use Rattle.gq_chains.proofs.Acted.{keep_of}
use Rattle.gq_chains.proofs.Sifting.{judged}
use Rattle.gq_sift.proofs.Judged.{IsGoingBy, all_going, can_follow, hop_going, next_going}
use Rattle.gq_sift.proofs.Refused.{put_number}
use Rattle.gq_steps.specs.Keeps.{IsRange, IsSifted, makes_one}
use Rattle.gq_steps.specs.Levels.{Run, known, step_at}
use Rattle.gq_steps.specs.Moves.{IsHeld, IsRun, IsTried}
use Rattle.gq_steps.specs.declared.follow.Hop.{Hop}
use Rattle.gq_steps.specs.declared.group_steps.GroupSteps.{GroupSteps}
use Rattle.gq_plan.specs.declared.follow.Follow.{Follow}
use Rattle.gq_steps.specs.steps.Outcomes.{passes_at, tested, with_number, with_row}
use Rattle.gq_steps.proofs.Testing.{keep_tried}

-- ---- marked places

-- something is true of the marked places before one
abbrev pub AllMarked : (ℕ → Type 0) → ℕ → List Bool → Type 0
AllMarked is n marks = (j : ℕ) → j < n → is_marked marks j ≡ true → is j

module _ (is : ℕ → Type 0) where
  pub marked_from : (marks : List Bool) → AllMarked is 0 marks
  marked_from marks j low on = absurd (omega (arith, low))

  -- those up to another one are not marked
  pub marked_up : (n m : ℕ) (marks : List Bool) → AllMarked is n marks → ((j : ℕ) → n ≤ j → j < m → is_marked marks j ≡ false) → AllMarked is m marks
  marked_up n m marks are off j low on = elim (cases_lt j n) [
    | inl under ↦ are j under on
    | inr over ↦ absurd (true≢false (sym on ∙ off j over low))
  ]

  pub marked_one : (n : ℕ) (marks : List Bool) → AllMarked is n marks → is n → AllMarked is (n + 1) marks
  marked_one n marks are one j low on = elim (cases_eq j n) [
    | inl same ↦ subst is (sym same) one
    | inr other ↦ are j (omega (arith, low, other)) on
  ]

  pub marked_less : (n : ℕ) (marks : List Bool) → n < length marks → AllMarked is n marks → AllMarked is (n + 1) (slice_set marks n false)
  marked_less n marks long are j low on = elim (cases_eq j n) [
    | inl same ↦ absurd (true≢false (sym on ∙ ap (is_marked (slice_set marks n false)) same ∙ get_or-set_same marks n false false long))
    | inr other ↦ are j (omega (arith, low, other)) (sym (get_or-set_other marks n j false false other) ∙ on)
  ]

-- ---- a place of which all tests are true

module _ (c : Run) (run : IsRun c) (group : GroupSteps) (range : IsRange c group) (place : ℕ) (old : Assignment) (held : IsHeld c old (known c group.first)) (f : Follow) (ext : Extends c group.first f) (first count : ℕ) where
  abbrev list : List ℕ
  list = neighbours c.graph (rel_table c.typed f.rel) f.direction (slice_index old.nodes f.from)

  -- the step at a depth is a test that is true there
  abbrev pub PassesAt : ℕ → Type 0
  PassesAt d = (i : ℕ) × (test_of (step_at c d) ≡ Some i) × IsTestedAs c f.rel (part_from c f old first count) i true place

  module _ (row : Assignment) (low : f.rel < length row.rels) where
    passes_on : (d : ℕ) → group.first < d → d < group.end → PassesAt d → IsGoingBy c group place old f d row → IsGoingBy c group place old f (d + 1) row
    passes_on d above below t g =
        let end = range.inside in
        let same : g.number ≡ t.2.number = cc (t.2.there, g.numbered) in
        let verdict : passes_at c.graph c.typed (with_number f.rel g.number row) t.0 ≡ true = t.2.says (with_number f.rel g.number row) (put_number f.rel g.number row low ∙ ap Some same) in
        let tried : IsTried c d 0 (with_number f.rel g.number row) (with_number f.rel g.number row) (tested 0 true) =
        subst (λ b. IsTried c d 0 (with_number f.rel g.number row) (with_number f.rel g.number row) (tested 0 b)) verdict
        (keep_tried c run d (omega (arith, below, end)) (with_number f.rel g.number row) g.going.held t.0 (keep_of (step_at c d) t.0 t.1) 0) in
        next_going c run group range place old held f ext d row g above below tried

    all_pass : ((d : ℕ) → group.first < d → d < group.end → PassesAt d) → (n d : ℕ) → d + n ≡ group.end → group.first < d → IsGoingBy c group place old f d row → makes_one c group place old ≡ true
    all_pass tests zero d all above g =
        sym (judged c group place old true _ (all_going c run group range place old held f ext d row g (omega (arith, all)))).answer
    all_pass tests (suc n) d all above g =
        let below : d < group.end = omega (arith, all) in
        all_pass tests n (d + 1) (omega (arith, all)) (omega (arith, above)) (passes_on d above below (tests d above below) g)

  pub one_made : place < length list → place + 1 < 2 ^ 32 → group.first + 1 < group.end → ((d : ℕ) → group.first < d → d < group.end → PassesAt d) → makes_one c group place old ≡ true
  one_made there few some tests =
      let can = can_follow c run group range place old held f ext in
      let ends = neighbours_below c.graph (rel_table c.typed f.rel) (slice_index old.nodes f.from) f.direction run.valid can.table in
      let far : ℕ = slice_index list place in
      let t = tests (group.first + 1) (omega arith) some in
      let h : Hop = record { number = t.2.number; row = far } in
      let g = hop_going c run group range place old held f ext h (record { number = t.2.there; leads = slice_get-get_or list place 0 there; inside = ends place 0 there; few = few }) in
      let put : Assignment = with_row f.to far old in
      let low : f.rel < length old.rels = omega (arith, can.rel, held.rel_count) in
      all_pass put low tests (group.end - (group.first + 1)) (group.first + 1) (omega (arith, some)) (omega arith) g

-- ---- marks of places of which all tests are true

-- the steps before one are tests, which are true at the marked places, if that is told
abbrev pub AreTold : Run → GroupSteps → Follow → ℕ → ℕ → Assignment → ℕ → Bool → List Bool → Type 0
AreTold c group f first count row depth told marks =
    (d : ℕ) → group.first < d → d < depth → (i : ℕ) × (test_of (step_at c d) ≡ Some i) × (told ≡ true → (j : ℕ) → is_marked marks j ≡ true → IsTestedAs c f.rel (part_from c f row first count) i true (first + j))

pub told_next : (c : Run) (group : GroupSteps) (f : Follow) (first count : ℕ) (row : Assignment) (depth : ℕ) (told : Bool) (marks : List Bool) → AreTold c group f first count row depth told marks → (i : ℕ) → test_of (step_at c depth) ≡ Some i → (now : Bool) → (now ≡ true → told ≡ true) → (new : List Bool)
    → ((j : ℕ) → is_marked new j ≡ true → is_marked marks j ≡ true) → (now ≡ true → (j : ℕ) → is_marked new j ≡ true → IsTestedAs c f.rel (part_from c f row first count) i true (first + j)) → AreTold c group f first count row (depth + 1) now new
told_next c group f first count row depth told marks are i is now was new kept passed d above below = elim (cases_eq d depth) [
  | inl same ↦ (i, ap (λ n. test_of (step_at c n)) same ∙ is, passed)
  | inr other ↦ (let t = are d above (omega (arith, below, other)) in (t.0, t.1, λ yes j on. t.2 (was yes) j (kept j on)))
]

module _ (c : Run) (run : IsRun c) (group : GroupSteps) (range : IsRange c group) (old : Assignment) (held : IsHeld c old (known c group.first)) (f : Follow) (ext : Extends c group.first f)
    (first count : ℕ) (fits : first + count < 2 ^ 32) (inside : first + count ≤ length (neighbours c.graph (rel_table c.typed f.rel) f.direction (slice_index old.nodes f.from))) (some : group.first + 1 < group.end) where
  pub told_sifted : (marks : List Bool) → IsAmong c group first count old marks → (depth : ℕ) → group.end ≤ depth → AreTold c group f first count old depth true marks → IsSifted c group first count old old marks
  told_sifted marks among depth all told = record {
    held = held;
    alike = record { nodes = λ v e. refl; rels = λ x e. refl };
    len = among.len;
    each = λ j high. at j (is_marked marks j) refl (cases_lt j count);
  }
    where
      made : (j : ℕ) → j < count → is_marked marks j ≡ true → makes_one c group (first + j) old ≡ true
      made j low on = one_made c run group range (first + j) old held f ext first count (omega (arith, low, inside)) (omega (arith, low, fits)) some
          (λ d above below. (let t = told d above (omega (arith, below, all)) in (t.0, t.1, t.2 refl j on)))

      at : (j : ℕ) (b : Bool) → is_marked marks j ≡ b → (j < count) ⊎ (count ≤ j) → is_marked marks j ≡ (nat_lt j count && makes_one c group (first + j) old)
      at j true on (inl low) = on ∙ sym (ap (λ x. x && makes_one c group (first + j) old) (lt-ltb j count low) ∙ made j low on)
      at j true on (inr high) = (let low = among.below j on in absurd (omega (arith, low, high)))
      at j false off (inl low) = off ∙ sym (ap (λ x. x && makes_one c group (first + j) old) (lt-ltb j count low) ∙ among.others j low off)
      at j false off (inr high) = off ∙ sym (ap (λ x. x && makes_one c group (first + j) old) (le-ltb j count high))

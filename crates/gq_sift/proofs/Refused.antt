-- A group makes nothing of a place whose relationship a condition refuses that comes before all that is no condition.
use Rattle.std.proofs.Common.{◌≡◌, ◌≢◌, ◌⊎◌, inl, inr, ℕ, zero, suc, ◌+◌, ◌-◌, ◌^◌, ◌<◌, ◌≤◌, Bool, true, false, Option, Some, None, List, length, refl, sym, ap, ◌∙◌, subst, arith}
use Rattle.std.specs.Prelude.{slice_get, slice_index, slice_set}
use Rattle.std.specs.Option.{option_map}
use Rattle.std.proofs.lemmas.Bool.{cases_eq, true≢false}
use Rattle.std.proofs.lemmas.List.{get_or-set_other, get_or-set_same, length-set}
use Rattle.std.proofs.lemmas.Option.{slice_get-get_or, slice_get-map}
use Rattle.gq_base.specs.Plain.{Graph}
use Rattle.gq_bits.specs.Places.{is_marked}
use Rattle.gq_bits.specs.declared.TheConstants.{VECTOR}
use Rattle.gq_filter.specs.RowTests.{RowCondition, condition_over, is_true_of}
use Rattle.gq_plan.specs.Rows.{rel_table}
use Rattle.gq_plan.specs.declared.assignment.Assignment.{Assignment}
use Rattle.gq_plan.specs.declared.bound.NamedExpr.{NamedExpr}
use Rattle.gq_store.specs.Neighbours.{neighbours}
use Rattle.gq_store.specs.Places.{number_at}
use Rattle.gq_store.proofs.Reading.{neighbours_below}
use Rattle.gq_chains.specs.Among.{IsAmong}
use Rattle.gq_steps.specs.Tests.{test_of}
use Rattle.gq_sift.specs.declared.finding.ListPart.{ListPart}
use Rattle.gq_sift.specs.steps.EdgeTests.{IsTestedAs, StandsWhere}
use Rattle.gq_sift.specs.steps.Parts.{AreIn, Drops, numbers_of, part_from}
use Rattle.gq_chains.specs.steps.Extends.{Extends}
use Rattle.gq_chains.proofs.Acted.{keep_of}
use Rattle.gq_chains.proofs.Sifting.{judged}
use Rattle.gq_sift.proofs.Judged.{IsGoingBy, can_follow, hop_going, next_going, next_missed}
use Rattle.gq_steps.specs.Keeps.{IsRange, makes_one}
use Rattle.gq_steps.specs.Levels.{Run, before, built_at, known, step_at}
use Rattle.gq_steps.specs.Moves.{IsHeld, IsRun, IsTried}
use Rattle.gq_steps.specs.Tries.{tries}
use Rattle.gq_steps.specs.declared.follow.Hop.{Hop}
use Rattle.gq_steps.specs.declared.group_steps.GroupSteps.{GroupSteps}
use Rattle.gq_plan.specs.declared.follow.Follow.{Follow}
use Rattle.gq_steps.specs.steps.Outcomes.{passes_at, tested, with_number, with_row}
use Rattle.gq_steps.proofs.Testing.{keep_tried}
use Rattle.gq_steps.proofs.Trying.{extend_count}

-- ---- a test of the run

pub true_of : (c : Run) → IsRun c → (i : ℕ) (t : RowCondition) → slice_get c.tests i ≡ Some t → (a : Assignment) → is_true_of t a ≡ passes_at c.graph c.typed a i
true_of c run i t there a = at (slice_get c.typed.tests i) refl
  where
    found : option_map (condition_over c.graph c.typed) (slice_get c.typed.tests i) ≡ Some t
    found = sym (slice_get-map (condition_over c.graph c.typed) c.typed.tests i) ∙ ap (λ ts. slice_get ts i) (sym run.tests) ∙ there

    at : (o : Option NamedExpr) → slice_get c.typed.tests i ≡ o → is_true_of t a ≡ passes_at c.graph c.typed a i
    at None is = let none : None ≡ Some t = ap (option_map (condition_over c.graph c.typed)) (sym is) ∙ found in cc none
    at (Some condition) is =
        let same : condition_over c.graph c.typed condition ≡ t = cc (ap (option_map (condition_over c.graph c.typed)) (sym is) ∙ found) in
        ap (λ s. is_true_of s a) (sym same) ∙ rw is refl

pub of_run : (c : Run) → IsRun c → (i : ℕ) (t : RowCondition) → slice_get c.tests i ≡ Some t → (t.graph ≡ c.graph) × (t.typed ≡ c.typed)
of_run c run i t there = at (slice_get c.typed.tests i) refl
  where
    found : option_map (condition_over c.graph c.typed) (slice_get c.typed.tests i) ≡ Some t
    found = sym (slice_get-map (condition_over c.graph c.typed) c.typed.tests i) ∙ ap (λ ts. slice_get ts i) (sym run.tests) ∙ there

    at : (o : Option NamedExpr) → slice_get c.typed.tests i ≡ o → (t.graph ≡ c.graph) × (t.typed ≡ c.typed)
    at None is = let none : None ≡ Some t = ap (option_map (condition_over c.graph c.typed)) (sym is) ∙ found in cc none
    at (Some condition) is =
        let same : condition_over c.graph c.typed condition ≡ t = cc (ap (option_map (condition_over c.graph c.typed)) (sym is) ∙ found) in
        (sym (ap (λ (s : RowCondition). s.graph) same), sym (ap (λ (s : RowCondition). s.typed) same))

-- what places tell of a test is so with the load numbers of the relationships there
pub tested_as : (c : Run) → IsRun c → (x : ℕ) (p : ListPart) → rel_table c.typed x ≡ p.table → (i : ℕ) (t : RowCondition) → slice_get c.tests i ≡ Some t → (is : ℕ → Type 0) (told : Bool)
    → ((edge number : ℕ) (row : Assignment) → number_at t.graph (rel_table t.typed x) edge ≡ Some number → slice_get row.rels x ≡ Some number → is edge → is_true_of t row ≡ told)
    → (place : ℕ) → StandsWhere c.graph p is place → IsTestedAs c x p i told place
tested_as c run x p table i t there is told tells place r =
    let of = of_run c run i t there in
    let stands : number_at t.graph (rel_table t.typed x) r.edge ≡ Some r.number = rw (of.0, of.1, table) r.stands in
    record {
      number = r.number;
      there = r.there;
      says = λ a has. sym (true_of c run i t there a) ∙ tells r.edge r.number a stands has r.holds;
    }

-- the load number that is put in
pub put_number : (x number : ℕ) (row : Assignment) → x < length row.rels → slice_get (with_number x number row).rels x ≡ Some number
put_number x number row low =
    let long : x < length (slice_set row.rels x number) = (let same = length-set row.rels x number in omega (arith, low, same)) in
    slice_get-get_or (slice_set row.rels x number) x 0 long ∙ ap Some (get_or-set_same row.rels x number 0 low)

-- ---- a place at which a test is not true

module _ (c : Run) (run : IsRun c) (group : GroupSteps) (range : IsRange c group) (place : ℕ) (old : Assignment) (held : IsHeld c old (known c group.first)) (f : Follow) (ext : Extends c group.first f) (first count : ℕ) where
  abbrev list : List ℕ
  list = neighbours c.graph (rel_table c.typed f.rel) f.direction (slice_index old.nodes f.from)

  module _ (row : Assignment) (low : f.rel < length row.rels) (last test : ℕ) (inside : last < group.end) (is : test_of (step_at c last) ≡ Some test)
      (tests : (e : ℕ) → group.first < e → e < last → (i : ℕ) × (test_of (step_at c e) ≡ Some i)) (r : IsTestedAs c f.rel (part_from c f old first count) test false place) where
    -- a test is tried
    tried_as : (d : ℕ) (above : group.first < d) (below : d < group.end) (g : IsGoingBy c group place old f d row) (i : ℕ) → test_of (step_at c d) ≡ Some i → (told : Bool) → passes_at c.graph c.typed (with_number f.rel g.number row) i ≡ told
        → IsTried c d 0 (with_number f.rel g.number row) (with_number f.rel g.number row) (tested 0 told)
    tried_as d above below g i at told verdict =
        let end = range.inside in
        subst (λ b. IsTried c d 0 (with_number f.rel g.number row) (with_number f.rel g.number row) (tested 0 b)) verdict
        (keep_tried c run d (omega (arith, below, end)) (with_number f.rel g.number row) g.going.held i (keep_of (step_at c d) i at) 0)

    missed : (d : ℕ) (above : group.first < d) (below : d < group.end) (g : IsGoingBy c group place old f d row) (i : ℕ) → test_of (step_at c d) ≡ Some i → passes_at c.graph c.typed (with_number f.rel g.number row) i ≡ false → makes_one c group place old ≡ false
    missed d above below g i at verdict =
        sym (judged c group place old false _ (next_missed c run group range place old held f ext d row g above below (tried_as d above below g i at false verdict))).answer

    -- the last one is not true
    fails : (d : ℕ) (g : IsGoingBy c group place old f d row) → passes_at c.graph c.typed (with_number f.rel g.number row) test ≡ false
    fails d g = let same : g.number ≡ r.number = cc (r.there, g.numbered) in r.says (with_number f.rel g.number row) (put_number f.rel g.number row low ∙ ap Some same)

    -- by one more test
    from_at : (d : ℕ) (above : group.first < d) (below : d < group.end) (g : IsGoingBy c group place old f d row) (i : ℕ) → test_of (step_at c d) ≡ Some i → (told : Bool) → passes_at c.graph c.typed (with_number f.rel g.number row) i ≡ told
        → (IsGoingBy c group place old f (d + 1) row → makes_one c group place old ≡ false) → makes_one c group place old ≡ false
    from_at d above below g i at true verdict further = further (next_going c run group range place old held f ext d row g above below (tried_as d above below g i at true verdict))
    from_at d above below g i at false verdict further = missed d above below g i at verdict

    from : (n d : ℕ) → d + n ≡ last → group.first < d → (g : IsGoingBy c group place old f d row) → makes_one c group place old ≡ false
    from zero d all above g =
        let same : last ≡ d = omega (arith, all) in
        missed d above (omega (arith, all, inside)) g test (subst (λ n. test_of (step_at c n) ≡ Some test) same is) (fails d g)
    from (suc n) d all above g =
        let t = tests d above (omega (arith, all)) in
        from_at d above (omega (arith, all, inside)) g t.0 t.1 (passes_at c.graph c.typed (with_number f.rel g.number row) t.0) refl (from n (d + 1) (omega (arith, all)) (omega (arith, above)))

  pub none_made : place < length list → place + 1 < 2 ^ 32 → (last test : ℕ) → group.first < last → last < group.end → test_of (step_at c last) ≡ Some test
      → ((e : ℕ) → group.first < e → e < last → (i : ℕ) × (test_of (step_at c e) ≡ Some i)) → IsTestedAs c f.rel (part_from c f old first count) test false place → makes_one c group place old ≡ false
  none_made there few last test above inside is tests r =
      let can = can_follow c run group range place old held f ext in
      let ends = neighbours_below c.graph (rel_table c.typed f.rel) (slice_index old.nodes f.from) f.direction run.valid can.table in
      let far : ℕ = slice_index list place in
      let h : Hop = record { number = r.number; row = far } in
      let g = hop_going c run group range place old held f ext h (record { number = r.there; leads = slice_get-get_or list place 0 there; inside = ends place 0 there; few = few }) in
      let put : Assignment = with_row f.to far old in
      let low : f.rel < length old.rels = omega (arith, can.rel, held.rel_count) in
      from put low last test inside is tests r (last - (group.first + 1)) (group.first + 1) (omega (arith, above)) (omega arith) g

-- where the list is followed, it has as many places as the step
pub extends_count : (c : Run) → IsRun c → (group : GroupSteps) → IsRange c group → (old : Assignment) → IsHeld c old (known c group.first) → (f : Follow) → Extends c group.first f
    → length (tries c.graph c.typed (built_at c group.first) (step_at c group.first) (before c old group.first)) ≡ length (neighbours c.graph (rel_table c.typed f.rel) f.direction (slice_index old.nodes f.from))
extends_count c run group range old held f ext = let some = range.some in let end = range.inside in extend_count c run group.first (omega (arith, some, end)) old held ext.0 f.rel f.from f.to f.direction ext.1

-- ---- marks of places among which are all that the steps keep

module _ (c : Run) (run : IsRun c) (group : GroupSteps) (range : IsRange c group) (old : Assignment) (held : IsHeld c old (known c group.first)) (f : Follow) (ext : Extends c group.first f)
    (first count : ℕ) (fits : first + count < 2 ^ 32) (inside : first + count ≤ length (neighbours c.graph (rel_table c.typed f.rel) f.direction (slice_index old.nodes f.from))) (d test : ℕ) (above : group.first < d) (below : d < group.end)
    (is : test_of (step_at c d) ≡ Some test) (tests : (e : ℕ) → group.first < e → e < d → (i : ℕ) × (test_of (step_at c e) ≡ Some i)) where
  pub among_left : (marks : List Bool) → IsAmong c group first count old marks → (new : List Bool) → Drops (λ j. IsTestedAs c f.rel (part_from c f old first count) test false (first + j)) marks new → IsAmong c group first count old new
  among_left marks among new drops = record {
    len = drops.long;
    below = λ j on. among.below j (drops.kept j on);
    others = λ j low off. at j low off (is_marked marks j) refl;
  }
    where
      at : (j : ℕ) → j < count → is_marked new j ≡ false → (b : Bool) → is_marked marks j ≡ b → makes_one c group (first + j) old ≡ false
      at j low off false was = among.others j low was
      at j low off true was =
          let r = drops.dropped j was off in
          none_made c run group range (first + j) old held f ext first count (omega (arith, low, inside)) (omega (arith, low, fits)) d test above below is tests r

-- marked places among so many from one on are places of the part
pub in_part : (c : Run) (group : GroupSteps) (f : Follow) (row : Assignment) (first count : ℕ) → count ≤ VECTOR → (marks : List Bool) → IsAmong c group first count row marks → AreIn (part_from c f row first count) marks
in_part c group f row first count few marks among = record {
  long = among.len;
  below = λ j on. (let low = among.below j on in (omega (arith, low, few), omega (arith, low)));
}

-- places that are dropped one after another
module _ (is : ℕ → Type 0) (before : List Bool) where
  pub drops_from : length before ≡ VECTOR → Drops is before before
  drops_from long = record { long = long; kept = λ j on. on; dropped = λ j on off. absurd (true≢false (sym on ∙ off)) }

  pub drops_one : (n : ℕ) (marks : List Bool) → Drops is before marks → n < VECTOR → is n → Drops is before (slice_set marks n false)
  drops_one n marks s low r = record {
    long = length-set marks n false ∙ s.long;
    kept = λ j on. kept_at j on (cases_eq j n);
    dropped = λ j on off. dropped_at j on off (cases_eq j n);
  }
    where
      here : is_marked (slice_set marks n false) n ≡ false
      here = let long = s.long in get_or-set_same marks n false false (omega (arith, low, long))

      kept_at : (j : ℕ) → is_marked (slice_set marks n false) j ≡ true → (j ≡ n) ⊎ (j ≡ n → ⊥) → is_marked before j ≡ true
      kept_at j on (inl same) = absurd (true≢false (sym on ∙ ap (is_marked (slice_set marks n false)) same ∙ here))
      kept_at j on (inr other) = s.kept j (sym (get_or-set_other marks n j false false other) ∙ on)

      dropped_at : (j : ℕ) → is_marked before j ≡ true → is_marked (slice_set marks n false) j ≡ false → (j ≡ n) ⊎ (j ≡ n → ⊥) → is j
      dropped_at j on off (inl same) = subst is (sym same) r
      dropped_at j on off (inr other) = s.dropped j on (sym (get_or-set_other marks n j false false other) ∙ off)

-- the relationship at a place has a load number
pub stands_where : (g : Graph) (p : ListPart) (is : ℕ → Type 0) (place edge : ℕ) → number_at g p.table edge ≢ None → number_at g p.table edge ≡ slice_get (numbers_of g p) place → is edge → StandsWhere g p is place
stands_where g p is place edge there number so = at (number_at g p.table edge) refl
  where
    at : (o : Option ℕ) → number_at g p.table edge ≡ o → StandsWhere g p is place
    at None none = absurd (there none)
    at (Some n) some = record { number = n; there = sym number ∙ some; edge = edge; stands = some; holds = so }

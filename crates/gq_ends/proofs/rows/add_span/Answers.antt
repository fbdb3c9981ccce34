use Rattle.std.proofs.Common.{◌≡◌, ◌∙◌, ◌+◌, ◌-◌, ◌≤◌, ◌<◌, ◌++◌, ◌∷◌, [], ℕ, Bool, List, true, false, sym, subst, arith, true≢false, inl, inr}
use Rattle.std.specs.Prelude.{MatchOption}
use Rattle.std.proofs.lemmas.Bool.{cases_lt}
use Rattle.gq_base.specs.declared.NodeId.{NodeId}
use Rattle.gq_bits.specs.Places.{is_marked}
use Rattle.gq_ends.specs.declared.end_test.EndTest.{EndTest}
use Rattle.gq_ends.specs.steps.Adding.{HasRows}
use Rattle.gq_ends.specs.steps.Tests.{HoldAll}
use Rattle.gq_ends.proofs.Adding.{none_added, one_added, some_passed}
use Rattle.gq_ends.proofs.rows.add_span.Goals as goal
use Rattle.gq_ends.proofs.rows.add_span.Goals.{In-Some}

-- rows without a mark are passed
passed : (ts : List EndTest) (table low high : ℕ) (old mid : List NodeId) (marks : List Bool) (from next : ℕ) → from ≤ next → next ≤ high - low
    → ((k : ℕ) → k < high - low → HoldAll ts (low + k) → is_marked marks k ≡ true) → ((k : ℕ) → from ≤ k → k < next → is_marked marks k ≡ false)
    → HasRows ts table low (low + from) old mid → HasRows ts table low (low + next) old mid
passed ts table low high old mid marks from next ordered within kept blank h =
    some_passed ts table low (low + from) old mid h (low + next) (omega (arith, ordered))
    (λ row least less all.
    let k : ℕ = row - low in
    let at : row ≡ low + k = omega (arith, least) in
    let above : from ≤ k = omega (arith, least) in
    let below : k < next = omega (arith, least, less) in
    let inside : k < high - low = omega (arith, below, within) in
    true≢false (sym (kept k inside (subst (HoldAll ts) at all)) ∙ blank k above below))

-- the next marked place is one of the rows
inside : (c : In-Some) → c.in-Some.place < c.args.high - c.args.low
inside c = elim (cases_lt c.in-Some.place (c.args.high - c.args.low)) [
  | inl low ↦ low
  | inr past ↦ absurd (true≢false (sym c.in-Some.ensures.found.1 ∙ c.kept_rows-marks.ensures.within c.in-Some.place past))
]

pub places-init : goal.places-init
places-init c =
    let ns : List NodeId = c.args.ends.now.items in
    let same : c.args.low ≡ c.args.low + 0 = omega arith in
    record {
      most = omega arith;
      added = subst (λ at. HasRows c.args.tests.now c.args.table c.args.low at ns ns) same (none_added c.args.tests.now c.args.table c.args.low ns);
    }

pub places-preserved : goal.places-preserved
places-preserved c =
    let w = (goal.at.places-preserved c).In-Some in
    let old : List NodeId = c.args.ends.now.items in
    let mid : List NodeId = c.places.ends.items in
    let place : ℕ = c.in-Some.place in
    let less = inside w in
    let next : (c.args.low + place) + 1 ≡ c.args.low + (place + 1) = omega arith in
    let here : HasRows c.args.tests.now c.args.table c.args.low (c.args.low + place) old mid =
    passed c.args.tests.now c.args.table c.args.low c.args.high old mid c.kept_rows-marks.result c.places.from place c.in-Some.ensures.found.0 (omega (arith, less))
    c.kept_rows-marks.ensures.kept c.in-Some.ensures.least c.places.invariant.added in
    record {
      most = omega (arith, less);
      added = subst (λ (new : List NodeId). HasRows c.args.tests.now c.args.table c.args.low (c.args.low + (place + 1)) old new) (sym c.in_ok-push.ensures.items)
          (subst (λ at. HasRows c.args.tests.now c.args.table c.args.low at old (mid ++ record { table = c.args.table; row = c.args.low + place } ∷ [])) next
          (one_added c.args.tests.now c.args.table c.args.low (c.args.low + place) old mid here));
    }

pub places-smaller : goal.places-smaller
places-smaller c =
    let less = inside ((goal.at.places-smaller c).In-Some) in
    omega (arith, less, c.in-Some.ensures.found.0)

pub returns : goal.returns
returns c told =
    let old : List NodeId = c.args.ends.now.items in
    let mid : List NodeId = c.places.ends.items in
    let none : (k : ℕ) → c.places.from ≤ k → is_marked c.kept_rows-marks.result k ≡ false =
    subst (λ o. MatchOption o ((k : ℕ) → c.places.from ≤ k → is_marked c.kept_rows-marks.result k ≡ false) (λ p. (c.places.from ≤ p) × (is_marked c.kept_rows-marks.result p ≡ true))) c.in_default.is c.next_from.ensures.found in
    let all : c.args.low + (c.args.high - c.args.low) ≡ c.args.high = omega (arith, c.requires.ordered) in
    subst (λ at. HasRows c.args.tests.now c.args.table c.args.low at old mid) all
    (passed c.args.tests.now c.args.table c.args.low c.args.high old mid c.kept_rows-marks.result c.places.from (c.args.high - c.args.low) c.places.invariant.most (omega arith)
    c.kept_rows-marks.ensures.kept (λ k above below. none k above) c.places.invariant.added)

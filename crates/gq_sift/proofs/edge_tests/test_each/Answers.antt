use Rattle.std.proofs.Common.{◌≡◌, ◌+◌, ◌<◌, ◌≤◌, ◌∙◌, ℕ, true, false, inl, inr, sym, subst, arith}
use Rattle.std.specs.Prelude.{MatchOption}
use Rattle.std.proofs.lemmas.Bool.{cases_lt, true≢false}
use Rattle.gq_bits.specs.Places.{is_marked}
use Rattle.gq_bits.specs.declared.TheConstants.{VECTOR}
use Rattle.gq_filter.specs.Placed.{Passes, Refuses}
use Rattle.gq_sift.specs.steps.EdgeTests.{StandsWhere}
use Rattle.gq_sift.specs.steps.Parts.{Drops}
use Rattle.gq_sift.proofs.Refused.{drops_from, drops_one, stands_where}
use Rattle.gq_sift.proofs.Told.{AllMarked, marked_from, marked_less, marked_one, marked_up}
use Rattle.gq_sift.proofs.edge_tests.test_each.Goals as goal
use Rattle.gq_sift.proofs.edge_tests.test_each.Goals.{In-Some, else-not-may_pass, else-not-tells, then-not-may_pass, then-not-tells}

pub places-init : goal.places-init
places-init c = (drops_from _ c.args.marks.now c.requires.marks.long, λ on. marked_from _ c.args.marks.now, λ on. on)

inside : (c : In-Some) → (c.in-Some.offset < VECTOR) × (c.args.part.low + c.in-Some.offset < c.args.part.high)
inside c = c.requires.marks.below c.in-Some.offset (c.places.invariant.0.kept c.in-Some.offset c.in-Some.ensures.found.1)

-- the marked places before the next one pass, where all is told
here : (c : In-Some) → c.places.all ≡ true → AllMarked (λ j. StandsWhere c.args.graph.now c.args.part (Passes c.args.test) (c.args.part.low + j)) c.in-Some.offset c.places.marks
here c on = marked_up _ c.places.place c.in-Some.offset c.places.marks (c.places.invariant.1 on) (λ j above below. c.in-Some.ensures.least j above below)

pub edge_place-edge-requires-clause-position : goal.edge_place-edge-requires-clause-position
edge_place-edge-requires-clause-position c = let low = (inside (goal.at.edge_place-edge-requires-clause-position c).In-Some).1 in omega (arith, low, c.requires.part.inside)

pub set-requires : goal.set-requires
set-requires c = (inside (goal.at.set-requires c).In-Some).0

pub places-preserved : goal.places-preserved
places-preserved c =
    let g = c.args.graph.now in
    let p = c.args.part in
    let a = (goal.at.places-preserved c).In-Some in
    let low = (inside a).0 in
    let refuses : ℕ → Type 0 = λ j. StandsWhere g p (Refuses c.args.test) (p.low + j) in
    let passes : ℕ → Type 0 = λ j. StandsWhere g p (Passes c.args.test) (p.low + j) in
    let told : c.if-not-tells.all ≡ true → (c.places.all ≡ true) × (c.tells.result ≡ true) = λ on. elim c.if-not-tells.branch [
      | then-not-tells w ↦ absurd (true≢false (sym on ∙ w.all-is))
      | else-not-tells w ↦ (sym w.all-is ∙ on, w.if-not-tells.false)
    ] in
    elim c.if-not-may_pass.branch [
      | then-not-may_pass w ↦
          (let refused = stands_where g p (Refuses c.args.test) (p.low + c.in-Some.offset) c.edge_place-edge.result c.edge_place-edge.ensures.there c.edge_place-edge.ensures.number (c.may_pass.ensures.refused w.if-not-may_pass.true) in
          let long = c.places.invariant.0.long in
          let marks = sym (w.marks-is ∙ w.set.ensures.written) in (
            subst (Drops refuses c.args.marks.now) marks (drops_one refuses c.args.marks.now c.in-Some.offset c.places.marks c.places.invariant.0 low refused),
            λ on. subst (AllMarked passes (c.in-Some.offset + 1)) marks (marked_less passes c.in-Some.offset c.places.marks (omega (arith, long, low)) (here a (told on).0)),
            λ on. c.places.invariant.2 (told on).0,
          ))
      | else-not-may_pass w ↦ (
        subst (Drops refuses c.args.marks.now) (sym w.marks-is) c.places.invariant.0,
        λ on.
            let passed = stands_where g p (Passes c.args.test) (p.low + c.in-Some.offset) c.edge_place-edge.result c.edge_place-edge.ensures.there c.edge_place-edge.ensures.number (c.may_pass.ensures.passes w.if-not-may_pass.false (c.tells.ensures (told on).1)) in
            subst (AllMarked passes (c.in-Some.offset + 1)) (sym w.marks-is) (marked_one passes c.in-Some.offset c.places.marks (here a (told on).0) passed),
        λ on. c.places.invariant.2 (told on).0,
      )
    ]

pub places-smaller : goal.places-smaller
places-smaller c = let w = (goal.at.places-smaller c).In-Some in let low = (inside w).0 in omega (arith, low, w.in-Some.ensures.found.0)

pub returns-clause-drops : goal.returns-clause-drops
returns-clause-drops c = c.places.invariant.0

pub returns-clause-passed : goal.returns-clause-passed
returns-clause-passed c = λ told j on.
    let none : (j : ℕ) → c.places.place ≤ j → is_marked c.places.marks j ≡ false =
    subst (λ o. MatchOption o ((j : ℕ) → c.places.place ≤ j → is_marked c.places.marks j ≡ false) (λ p. (c.places.place ≤ p) × (is_marked c.places.marks p ≡ true))) c.in_default.is c.next_from.ensures.found in
    elim (cases_lt j c.places.place) [
      | inl low ↦ c.places.invariant.1 told j low on
      | inr high ↦ absurd (true≢false (sym on ∙ none j high))
    ]

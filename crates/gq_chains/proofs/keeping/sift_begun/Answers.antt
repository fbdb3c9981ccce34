use Rattle.std.proofs.Common.{◌≡◌, ◌+◌, ◌<◌, ◌≤◌, ℕ, true, false, sym, ◌∙◌, subst, arith}
use Rattle.std.specs.Prelude.{slice_set, MatchOption}
use Rattle.gq_bits.specs.Places.{is_marked}
use Rattle.gq_chains.specs.Among.{IsAmong}
use Rattle.gq_chains.specs.steps.Judged.{IsJudged}
use Rattle.gq_steps.specs.Moves.{run_of}
use Rattle.gq_chains.proofs.Sifting.{IsSifting, sifting_from, sifting_kept, sifting_dropped, sifting_passed, sifted}
use Rattle.gq_chains.proofs.keeping.sift_begun.Goals as goal
use Rattle.gq_chains.proofs.keeping.sift_begun.Goals.{In-Some, then-not-reach_place, else-not-reach_place}

pub returns-then-sift_together : goal.returns-then-sift_together
returns-then-sift_together c = c.sift_together.ensures.told c.if-sift_together.true

pub places-init : goal.places-init
places-init c =
    sifting_from (run_of c.args.plan_run.now) c.args.group c.args.first c.args.count c.args.row.now c.sift_together.new.marks c.requires.held
    (subst (IsAmong (run_of c.args.plan_run.now) c.args.group c.args.first c.args.count c.args.row.now) (sym (c.sift_together.ensures.same c.if-sift_together.false)) c.requires.among)

-- what is told of the next marked place
found : (c : In-Some) → (c.places.place ≤ c.in-Some.offset) × (is_marked c.places.marks c.in-Some.offset ≡ true)
found c = c.in-Some.ensures.found

inside : (c : In-Some) → c.in-Some.offset < c.args.count
inside c = c.places.invariant.below c.in-Some.offset (found c).0 (found c).1

-- the places before it are tried
here : (c : In-Some) → IsSifting (run_of c.args.plan_run.now) c.args.group c.args.first c.args.count c.args.row.now c.in-Some.offset c.places.row c.places.marks
here c = sifting_passed (run_of c.args.plan_run.now) c.args.group c.args.first c.args.count c.args.row.now c.places.place c.in-Some.offset c.places.row c.places.marks c.places.invariant (found c).0 (λ j above below. c.in-Some.ensures.least j above below)

pub reach_place-requires-clause-held : goal.reach_place-requires-clause-held
reach_place-requires-clause-held c = c.places.invariant.held

pub places-preserved : goal.places-preserved
places-preserved c =
    let w = (goal.at.places-preserved c).In-Some in
    elim c.if-not-reach_place.branch [
      | then-not-reach_place b ↦
          (let told : c.reach_place.result ≡ false = b.if-not-reach_place.true in
          let marks : c.if-not-reach_place.marks ≡ slice_set c.places.marks c.in-Some.offset false = b.marks-is ∙ b.set.ensures.written in
          subst (IsSifting (run_of c.args.plan_run.now) c.args.group c.args.first c.args.count c.args.row.now (c.in-Some.offset + 1) c.reach_place.new.row) (sym marks)
          (sifting_dropped (run_of c.args.plan_run.now) c.args.group c.args.first c.args.count c.args.row.now c.in-Some.offset c.places.row c.places.marks (here w) (inside w) c.requires.count c.reach_place.new.row
          (subst (λ t. IsJudged (run_of c.args.plan_run.now) c.args.group (c.args.first + c.in-Some.offset) c.places.row t c.reach_place.new.row) told c.reach_place.ensures)))
      | else-not-reach_place b ↦
          (let told : c.reach_place.result ≡ true = b.if-not-reach_place.false in
          subst (IsSifting (run_of c.args.plan_run.now) c.args.group c.args.first c.args.count c.args.row.now (c.in-Some.offset + 1) c.reach_place.new.row) (sym b.marks-is)
          (sifting_kept (run_of c.args.plan_run.now) c.args.group c.args.first c.args.count c.args.row.now c.in-Some.offset c.places.row c.places.marks (here w) (inside w) c.requires.count (found w).1 c.reach_place.new.row
          (subst (λ t. IsJudged (run_of c.args.plan_run.now) c.args.group (c.args.first + c.in-Some.offset) c.places.row t c.reach_place.new.row) told c.reach_place.ensures)))
    ]

pub places-smaller : goal.places-smaller
places-smaller c = let w = (goal.at.places-smaller c).In-Some in omega (arith, inside w, (found w).0)

pub returns : goal.returns
returns c =
    let k = run_of c.args.plan_run.now in
    let none : (j : ℕ) → c.places.place ≤ j → is_marked c.places.marks j ≡ false =
    subst (λ o. MatchOption o ((j : ℕ) → c.places.place ≤ j → is_marked c.places.marks j ≡ false) (λ p. (c.places.place ≤ p) × (is_marked c.places.marks p ≡ true))) c.in_default.is c.next_from.ensures.found in
    let m : ℕ = c.places.place + c.args.count in
    sifted k c.args.group c.args.first c.args.count c.args.row.now m c.places.row c.places.marks
    (sifting_passed k c.args.group c.args.first c.args.count c.args.row.now c.places.place m c.places.row c.places.marks c.places.invariant (omega arith) (λ j above below. none j above)) (omega arith)

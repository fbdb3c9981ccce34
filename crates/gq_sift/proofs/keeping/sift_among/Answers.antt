use Rattle.std.proofs.Common.{◌≡◌, ◌+◌, ◌<◌, ◌≤◌, ℕ, true, false, sym, ◌∙◌, subst, arith}
use Rattle.std.specs.Prelude.{slice_set, MatchOption}
use Rattle.gq_bits.specs.Places.{is_marked}
use Rattle.gq_plan.specs.declared.assignment.Assignment.{Assignment}
use Rattle.gq_chains.specs.Among.{IsAmong}
use Rattle.gq_chains.specs.steps.Judged.{IsJudged}
use Rattle.gq_steps.specs.Moves.{run_of}
use Rattle.gq_sift.proofs.Matching.{same_matches}
use Rattle.gq_chains.proofs.Sifting.{IsSifting, judged, sifting_from, sifting_kept, sifting_dropped, sifting_passed, sifted}
use Rattle.gq_sift.proofs.keeping.sift_among.Goals as goal
use Rattle.gq_sift.proofs.keeping.sift_among.Goals.{In-Some, then-not-keep_place, else-not-keep_place}

pub returns-then-sift_chain : goal.returns-then-sift_chain
returns-then-sift_chain c = c.sift_chain.ensures.sifted c.if-sift_chain.true

pub places-init : goal.places-init
places-init c =
    subst (λ (a : Assignment). IsSifting (run_of c.args.plan_run.now) c.args.group c.args.first c.args.count c.args.row.now 0 a c.sift_chain.new.marks) (sym (c.sift_chain.ensures.row c.if-sift_chain.false))
    (sifting_from (run_of c.args.plan_run.now) c.args.group c.args.first c.args.count c.args.row.now c.sift_chain.new.marks c.requires.held
    (subst (IsAmong (run_of c.args.plan_run.now) c.args.group c.args.first c.args.count c.args.row.now) (sym (c.sift_chain.ensures.marks c.if-sift_chain.false)) c.requires.among))

-- what is told of the next marked place
found : (c : In-Some) → (c.places.place ≤ c.in-Some.offset) × (is_marked c.places.marks c.in-Some.offset ≡ true)
found c = c.in-Some.ensures.found

inside : (c : In-Some) → c.in-Some.offset < c.args.count
inside c = c.places.invariant.below c.in-Some.offset (found c).0 (found c).1

-- the places before it are tried
here : (c : In-Some) → IsSifting (run_of c.args.plan_run.now) c.args.group c.args.first c.args.count c.args.row.now c.in-Some.offset c.places.row c.places.marks
here c = sifting_passed (run_of c.args.plan_run.now) c.args.group c.args.first c.args.count c.args.row.now c.places.place c.in-Some.offset c.places.row c.places.marks c.places.invariant (found c).0 (λ j above below. c.in-Some.ensures.least j above below)

pub keep_place-requires-clause-held : goal.keep_place-requires-clause-held
keep_place-requires-clause-held c = c.places.invariant.held

pub keep_place-requires-clause-matches : goal.keep_place-requires-clause-matches
keep_place-requires-clause-matches c =
    let range = c.requires.steps in
    let some = range.some in
    let end = range.inside in
    same_matches (run_of c.args.plan_run.now) c.requires.run c.args.group.first (omega (arith, some, end)) c.args.row.now c.places.row c.requires.held c.places.invariant.alike c.args.matches.now c.requires.matches

pub places-preserved : goal.places-preserved
places-preserved c =
    let w = (goal.at.places-preserved c).In-Some in
    elim c.if-not-keep_place.branch [
      | then-not-keep_place b ↦
          (let told : c.keep_place.result ≡ false = b.if-not-keep_place.true in
          let marks : c.if-not-keep_place.marks ≡ slice_set c.places.marks c.in-Some.offset false = b.marks-is ∙ b.set.ensures.written in
          subst (IsSifting (run_of c.args.plan_run.now) c.args.group c.args.first c.args.count c.args.row.now (c.in-Some.offset + 1) c.keep_place.new.row) (sym marks)
          (sifting_dropped (run_of c.args.plan_run.now) c.args.group c.args.first c.args.count c.args.row.now c.in-Some.offset c.places.row c.places.marks (here w) (inside w) c.requires.count c.keep_place.new.row
          (subst (λ t. IsJudged (run_of c.args.plan_run.now) c.args.group (c.args.first + c.in-Some.offset) c.places.row t c.keep_place.new.row) told (judged (run_of c.args.plan_run.now) c.args.group (c.args.first + c.in-Some.offset) c.places.row c.keep_place.result c.keep_place.new.row c.keep_place.ensures))))
      | else-not-keep_place b ↦
          (let told : c.keep_place.result ≡ true = b.if-not-keep_place.false in
          subst (IsSifting (run_of c.args.plan_run.now) c.args.group c.args.first c.args.count c.args.row.now (c.in-Some.offset + 1) c.keep_place.new.row) (sym b.marks-is)
          (sifting_kept (run_of c.args.plan_run.now) c.args.group c.args.first c.args.count c.args.row.now c.in-Some.offset c.places.row c.places.marks (here w) (inside w) c.requires.count (found w).1 c.keep_place.new.row
          (subst (λ t. IsJudged (run_of c.args.plan_run.now) c.args.group (c.args.first + c.in-Some.offset) c.places.row t c.keep_place.new.row) told (judged (run_of c.args.plan_run.now) c.args.group (c.args.first + c.in-Some.offset) c.places.row c.keep_place.result c.keep_place.new.row c.keep_place.ensures))))
    ]

pub places-smaller : goal.places-smaller
places-smaller c = let w = (goal.at.places-smaller c).In-Some in omega (arith, inside w, (found w).0)

pub returns : goal.returns
returns c =
    let k = run_of c.args.plan_run.now in
    let none : (j : ℕ) → c.places.place ≤ j → is_marked c.places.marks j ≡ false =
    subst (λ o. MatchOption o ((j : ℕ) → c.places.place ≤ j → is_marked c.places.marks j ≡ false) (λ p. (c.places.place ≤ p) × (is_marked c.places.marks p ≡ true))) c.in_default.is c.next_from.ensures.found in
    let m : ℕ = c.places.place + c.args.count in
    sifted k c.args.group c.args.first c.args.count c.args.row.now m c.places.row c.places.marks
    (sifting_passed k c.args.group c.args.first c.args.count c.args.row.now c.places.place m c.places.row c.places.marks c.places.invariant (omega arith) (λ j above below. none j above)) (omega arith)

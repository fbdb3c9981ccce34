use Rattle.std.proofs.Common.{◌≡◌, ◌+◌, ◌<◌, ◌≤◌, ℕ, Option, None, Some, length, sym, subst, arith}
use Rattle.std.specs.Prelude.{slice_get, IfSome}
use Rattle.gq_base.specs.Plain.{Graph}
use Rattle.gq_base.specs.declared.direction.Direction.TheVariants.{Forward}
use Rattle.gq_store.specs.Neighbours.{near_rows, neighbours, numbers}
use Rattle.gq_store.specs.Places.{number_at}
use Rattle.gq_filter.specs.declared.placed.PlacedTest.{PlacedTest}
use Rattle.gq_sift.specs.declared.finding.ListPart.{ListPart}
use Rattle.gq_sift.specs.steps.EdgeTests.{IsSpanEnd}
use Rattle.gq_sift.specs.steps.Parts.{numbers_of}
use Rattle.gq_sift.proofs.edge_tests.span_end.Goals as goal

pub first_place-requires-clause-row : goal.first_place-requires-clause-row
first_place-requires-clause-row c = subst (λ way. c.args.part.row < near_rows c.args.graph.now c.args.part.table way) c.in-Forward.is c.requires.part.row

-- what the end of the places says, with the first of them
ended : (g : Graph) (p : ListPart) (t : PlacedTest) (first : ℕ) → ((k : ℕ) → k < p.high → number_at g p.table (first + k) ≡ slice_get (numbers_of g p) k) →
    (o : Option ℕ) → IfSome o (λ high. (high ≡ first + p.high) × (high ≤ t.places)) → IfSome o (IsSpanEnd g p t)
ended g p t first stand None is = tt
ended g p t first stand (Some high) is = record { first = first; ends = is.0; stand = stand; inside = is.1 }

pub returns-in-Some : goal.returns-in-Some
returns-in-Some c =
    let g = c.args.graph.now in
    let p = c.args.part in
    let whole : p.high ≤ length (neighbours g p.table Forward p.row) = subst (λ way. p.high ≤ length (neighbours g p.table way p.row)) c.in-Forward.is c.requires.part.inside in
    ended g p c.args.test c.in-Some.first
    (λ k low. subst (λ way. number_at g p.table (c.in-Some.first + k) ≡ slice_get (numbers g p.table way p.row) k) (sym c.in-Forward.is) (c.in-Some.ensures k (omega (arith, low, whole))))
    c.end_of.result c.end_of.ensures

use Rattle.std.proofs.Common.{◌≡◌, ◌∙◌, ℕ, Some, List, length, slice_get, refl, sym, ap, ap₂, arith}
use Rattle.std.proofs.lemmas.Option.{slice_get_read}
use Rattle.gq_join.specs.Kept.{matches_of}
use Rattle.gq_plan.specs.declared.assignment.Assignment.{Assignment}
use Rattle.gq_steps.proofs.Matched.{match_low}
use Rattle.gq_steps.proofs.plan_run.join.Goals as goal
use Rattle.gq_steps.proofs.plan_run.join.Goals.{In-Some}

-- the match at the place
there : (c : In-Some) → slice_get (matches_of c.args.build.now c.args.row.now) c.args.place ≡ Some c.in-Some.found.now
there c =
    ap (λ l. slice_get l c.args.place) (sym c.requires.matches)
    ∙ slice_get_read c.args.matches.now (length c.args.matches.now) c.args.place c.in-Some.found.now refl c.in-Some.ensures.lookup.3.0 c.in-Some.ensures.lookup.1

pub take_nodes-requires-clause-found : goal.take_nodes-requires-clause-found
take_nodes-requires-clause-found c = match_low c.args.build.now c.args.row.now c.args.place c.in-Some.found.now (there (goal.at.take_nodes-requires-clause-found c).In-Some)

pub take_rels-requires-clause-found : goal.take_rels-requires-clause-found
take_rels-requires-clause-found c = match_low c.args.build.now c.args.row.now c.args.place c.in-Some.found.now (there (goal.at.take_rels-requires-clause-found c).In-Some)

pub returns-in-Some : goal.returns-in-Some
returns-in-Some c = record {
  row = c.in-Some.found.now;
  is = there (goal.at.returns-in-Some c).In-Some;
  written = ap₂ (λ (ns xs : List ℕ). let row : Assignment = record { nodes = ns; rels = xs } in row) c.take_nodes.ensures c.take_rels.ensures;
  few = omega (arith, c.in-Some.ensures.lookup.3.0, c.requires.few);
}

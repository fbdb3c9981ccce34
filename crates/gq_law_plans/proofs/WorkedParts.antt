-- A part of an alternative and the plan that makes it, by computation, on the graph of the worked plan: the second path of
-- the pattern stands apart from the first, its two relationships differ, and one of them is no loop. What is found is worked
-- out by hand.
use Rattle.std.proofs.Common.{◌≡◌, refl, ℕ, ◌<◌, true, false, [], ◌∷◌, map, length, nat_eq, ◌||◌, IsTrue, arith, lit<, codes, pos}
use Rattle.std.proofs.lemmas.List.Elements.{All-from_recursion, All-nil}
use Rattle.std.proofs.lemmas.List.Sorted.{IsPermutation-refl}
use Rattle.gq_base.specs.declared.CompareOp.TheVariants as compare
use Rattle.gq_base.specs.declared.Literal.TheVariants as literal
use Rattle.gq_base.specs.declared.direction.Direction.TheVariants.{Backward}
use Rattle.gq_expr.specs.declared.Expr.TheVariants as expr
use Rattle.gq_expr.proofs.Equations.{meaning_Compare, meaning_Literal, meaning_NodeProperty}
use Rattle.gq_plan.specs.Assignments.{nodes_of, rels_of, source, target}
use Rattle.gq_plan.specs.Covers.{fits, fits_step, after, after_step, placed, placed_step}
use Rattle.gq_plan.specs.Known.{none, with_both}
use Rattle.gq_plan.specs.Meaning.{mean, step, nothing}
use Rattle.gq_plan.specs.Parts.{Part, component, given_parts, greedy_parts, part_assignments, part_demands, IsSide}
use Rattle.gq_plan.specs.Soundness.{IsSound, IsPair, EndsFit, path_rels, joined}
use Rattle.gq_plan.specs.Plans.{Plan, Done, Then, Scan, Extend, Differ, NoLoop}
use Rattle.gq_plan.specs.declared.bound.NamedExpr.{NamedExpr}
use Rattle.gq_plan.specs.declared.demand.Demand.TheVariants.{InTable, Joins, Passes, Differs, IsNoLoop}
use Rattle.gq_plan.specs.declared.typed.PathPart.{PathPart}
use Rattle.gq_plan.specs.declared.typed.Typed.{Typed}
use Rattle.gq_plan.proofs.BoundReads.{bound_Compare, bound_Literal, bound_NodeProperty}
use Rattle.gq_law_plans.proofs.Sides.{given_counts, greedy_counts}
use Rattle.gq_law_plans.proofs.Worked.{g, valid, below}

-- (a), (b)-[:KNOWS]-(c)<-[:KNOWS]-(d), of persons, with the first relationship read from right to left
abbrev y : Typed
y = record {
  nodes = 0 ∷ 0 ∷ 0 ∷ 0 ∷ [];
  rels =
      record { table = 0; source = 2; target = 1; clause = 0; reversed = true; no_loop = true }
      ∷ record { table = 0; source = 3; target = 2; clause = 0; reversed = true; no_loop = false } ∷ [];
  paths = record { first = 0; rels = [] } ∷ record { first = 1; rels = 0 ∷ 1 ∷ [] } ∷ [];
  tests = [];
  late = [];
  pairs = record { first = 0; second = 1 } ∷ [];
}

-- all persons, who knows them but is not they, and who knows these by another relationship
abbrev side : Plan
side = Then (Scan 1) (Then (Extend false 0 1 2 Backward) (Then (NoLoop 0) (Then (Extend false 1 2 3 Backward) (Then (Differ 0) Done))))

sound : IsSound g.catalog y
sound = record {
  tables = All-from_recursion (λ t. t < length g.catalog.nodes) y.nodes (lit< tt, (lit< tt, (lit< tt, (lit< tt, tt))));
  ends = All-from_recursion (EndsFit g.catalog y) y.rels (record { table = lit< tt; source = refl; target = refl }, (record { table = lit< tt; source = refl; target = refl }, tt));
  pairs = All-from_recursion (IsPair y) y.pairs (record { ascends = lit< tt; within = lit< tt }, tt);
  starts = All-from_recursion (λ (q : PathPart). q.first < length y.nodes) y.paths (lit< tt, (lit< tt, tt));
  joins = All-from_recursion (λ (q : PathPart). IsTrue (joined q.first (path_rels y q))) y.paths (refl, (refl, tt));
  every_node = below 4 _ (refl, (refl, (refl, (refl, tt))));
  every_rel = IsPermutation-refl (0 ∷ 1 ∷ []);
  nodes_fit = omega arith;
  rels_fit = omega arith;
  names = All-nil _;
  reads_fit = omega arith;
  never_fault = All-nil _;
}

-- in the order of the text
abbrev second_path : Part
second_path = record {
  inside = record { nodes = λ v. nat_eq v 1 || (nat_eq v 2 || (nat_eq v 3 || false)); rels = λ x. nat_eq x 0 || (nat_eq x 1 || false) };
  earlier = record { nodes = λ v. (nat_eq v 0 || false) || false; rels = λ x. false || false };
}

one_part : given_parts y ≡ second_path ∷ []
one_part = refl

made : IsSide g.catalog y second_path side
unfolding fits fits_step after after_step placed placed_step part_demands
made = record {
  fits = refl;
  once = record { moves = (5, 6) ∷ (3, 5) ∷ (2, 5) ∷ (1, 2) ∷ []; below = (lit< tt, lit< tt, (lit< tt, lit< tt, (lit< tt, lit< tt, (lit< tt, lit< tt, tt)))); is = refl };
}

-- in the order of weights: the component of b has the same variables
abbrev component_of_b : Part
component_of_b = record { inside = component y 1; earlier = with_both (component y 0) none }

one_component : greedy_parts y ≡ component_of_b ∷ []
one_component = refl

made_too : IsSide g.catalog y component_of_b side
unfolding fits fits_step after after_step placed placed_step part_demands
made_too = record { fits = refl; once = made.once }

-- d knows c, and c knows b: 0, 1, 0 and 1, 1, 0 and 1, 0, 1
counted_part : map (λ p. length (part_assignments g y p)) (given_parts y) ≡ 3 ∷ []
unfolding part_assignments nodes_of rels_of source target
counted_part = refl

counted_component : map (λ p. length (part_assignments g y p)) (greedy_parts y) ≡ 3 ∷ []
unfolding part_assignments nodes_of rels_of source target
counted_component = refl

counted_side : length (mean g y side nothing) ≡ 3
unfolding mean step nodes_of rels_of source target
counted_side = refl

-- so the law's premises are met, and it says this of them
lawful : map (λ s. length (mean g y s nothing)) (side ∷ []) ≡ map (λ p. length (part_assignments g y p)) (given_parts y)
lawful = given_counts g y valid sound (side ∷ []) (made, tt)

lawful_too : map (λ s. length (mean g y s nothing)) (side ∷ []) ≡ map (λ p. length (part_assignments g y p)) (greedy_parts y)
lawful_too = greedy_counts g y valid sound (side ∷ []) (made_too, tt)

-- ---- tests

abbrev id_is_one : ℕ → NamedExpr
id_is_one v = record { name = []; expr = expr.Compare (expr.NodeProperty v (codes "id")) (record { op = compare.Equal; expr = expr.Literal (literal.Int (pos 1)) } ∷ []) }

-- WHERE b.id = 1 AND a.id = 1, of which the part has the first alone
abbrev tested : Typed
tested = record y { tests = id_is_one 1 ∷ id_is_one 0 ∷ [] }

one_test : part_demands tested second_path ≡ InTable 1 ∷ InTable 2 ∷ InTable 3 ∷ Joins 0 ∷ Joins 1 ∷ Passes 0 ∷ Differs 0 ∷ IsNoLoop 0 ∷ []
unfolding part_demands
one_test = simp (bound_Compare, bound_NodeProperty, bound_Literal)

counted_tested : map (λ p. length (part_assignments g tested p)) (given_parts tested) ≡ 2 ∷ []
unfolding part_assignments nodes_of rels_of source target
counted_tested = simp (bound_Compare, bound_NodeProperty, bound_Literal, meaning_Compare, meaning_NodeProperty, meaning_Literal)

-- A query with a trail by computation: (a:Person)-[:KNOWS*1..2]->(b) over two persons, of whom the first knows the second, and the second
-- knows himself and the first. What its plan and its trail make is worked out by hand, and the premises of the laws are met.
use Rattle.std.proofs.Common.{◌≡◌, refl, ℕ, Some, None, false, Result, List, [], ◌∷◌, filter, flat_map, map, codes, length, ◌<◌, IsTrue, IsPermutation, lit<, arith}
use Rattle.std.proofs.lemmas.List.Elements.{All-from_recursion, All-nil}
use Rattle.std.proofs.lemmas.List.Sorted.{IsPermutation-refl}
use Rattle.gq_base.specs.declared.NodeId.{NodeId}
use Rattle.gq_base.specs.declared.direction.Direction.TheVariants.{Forward}
use Rattle.gq_alternatives.specs.Alternatives.{choices, pattern_alternatives, typed_of}
use Rattle.gq_alternatives.specs.Matches.{pattern_matches}
use Rattle.gq_core.specs.Entries.{entry_test}
use Rattle.gq_expr.specs.declared.Fault.{Fault}
use Rattle.gq_law_plans.proofs.Worked.{below, g, valid}
use Rattle.gq_law_reaches.specs.Core.{trail_parts}
use Rattle.gq_law_trails.specs.Trails.{after_trails, fits_end}
use Rattle.gq_law_trails.specs.Walks.{walks}
use Rattle.gq_plan.specs.Allowed.{lies_in}
use Rattle.gq_plan.specs.Assignments.{all_rels, nodes_of, rels_of, source, target, tuples}
use Rattle.gq_plan.specs.Covers.{Covers, after, after_step, demands, fits, fits_step, placed, placed_step}
use Rattle.gq_plan.specs.Marked.{Marked}
use Rattle.gq_plan.specs.Meaning.{mean, meaning, step}
use Rattle.gq_plan.specs.Outcomes.{Row, late_conjuncts}
use Rattle.gq_plan.specs.Plans.{Done, Plan, Scan, Then}
use Rattle.gq_plan.specs.Soundness.{IsSound, joined, path_rels}
use Rattle.gq_plan.specs.declared.Bound.{Bound}
use Rattle.gq_plan.specs.declared.PathPart.{PathPart}
use Rattle.gq_plan.specs.declared.Typed.{Typed}
use Rattle.gq_ast.specs.declared.Arrow.TheVariants as arrow
use Rattle.gq_ast.specs.declared.Clause.{Clause}
use Rattle.gq_law_cuts.specs.Cuts.{HaveLengths, core_size, cored_of, trailed_of}
use Rattle.gq_law_cuts.specs.Shaped.{core_pattern_of}
use Rattle.gq_law_cuts.specs.Typing.{core_typed}
use Rattle.gq_law_cores.specs.Made.{made_by}
use Rattle.gq_law_cores.specs.Whole.{IsCoreBound, core_rows}
use Rattle.gq_law_cores.proofs.Whole.{each_plan_makes_trails}

abbrev clauses : List Clause
clauses =
    record {
      paths =
          record {
            first = record { name = Some (codes "a"); labels = codes "Person" ∷ []; map = []; at = 0 };
            hops =
                record {
                  rel = record { name = None; kinds = codes "KNOWS" ∷ []; map = []; arrow = arrow.Right; trail = Some (record { low = 1; high = 2 }); at = 0 };
                  node = record { name = Some (codes "b"); labels = []; map = []; at = 0 };
                } ∷ [];
          } ∷ [];
      filter = None;
    } ∷ []

-- a alone is the core, and it is a person
abbrev y : Typed
y = record { nodes = 0 ∷ []; rels = []; paths = record { first = 0; rels = [] } ∷ []; tests = []; late = []; pairs = [] }

abbrev bound : Bound
bound = record {
  node_names = codes "a" ∷ codes "b" ∷ [];
  rel_names = [];
  columns = [];
  conjuncts = [];
  patterns = [];
  optionals = [];
  trails = record { kind = codes "KNOWS"; low = 1; high = 2; from = 0; to = 1; clause = 0; way = Forward; both = false; labels = []; tests = [] } ∷ [];
  trail_names = codes "#1" ∷ [];
  keys = [];
  distinct = false;
  skip = 0;
  limit = None;
  alternatives = y ∷ [];
}

-- its trail is walked from a
trails_so : bound.trails ≡ trail_parts (entry_test []) (cored_of clauses)
unfolding trailed_of cored_of
trails_so = refl

lengths : HaveLengths clauses
unfolding trailed_of
lengths = ((omega arith, omega arith, omega arith), tt)

sound : IsSound g.catalog y
sound = record {
  tables = All-from_recursion (λ t. t < length g.catalog.nodes) y.nodes (lit< tt, tt);
  ends = All-nil _;
  pairs = All-nil _;
  starts = All-from_recursion (λ (x : PathPart). x.first < length y.nodes) y.paths (lit< tt, tt);
  joins = All-from_recursion (λ (x : PathPart). IsTrue (joined x.first (path_rels y x))) y.paths (refl, tt);
  every_node = below 1 _ (refl, tt);
  every_rel = IsPermutation-refl [];
  nodes_fit = omega arith;
  rels_fit = omega arith;
  names = All-nil _;
  reads_fit = omega arith;
  never_fault = All-nil _;
}

is_bound : IsCoreBound [] g.catalog clauses bound
unfolding trailed_of cored_of core_size core_typed typed_of pattern_alternatives choices tuples
is_bound = record { alternatives = refl; sound = All-from_recursion (IsSound g.catalog) bound.alternatives (sound, tt) }

abbrev p : Plan
p = Then (Scan 0) Done

covered : Covers g.catalog y p
unfolding fits fits_step after after_step placed placed_step demands
covered = record { fits = refl; once = IsPermutation-refl _ }

abbrev person : ℕ → NodeId
person n = record { table = 0; row = n }

-- the ends of the trail, from the first person and from the second
ends : map (λ r. r.nodes 1) (flat_map (core_rows g [] clauses) (meaning g y p))
    ≡ Some (person 1) ∷ Some (person 1) ∷ Some (person 0) ∷ Some (person 1) ∷ Some (person 0) ∷ Some (person 0) ∷ Some (person 1) ∷ []
unfolding meaning mean step nodes_of rels_of all_rels source target trailed_of cored_of after_trails walks fits_end
ends = refl

-- so the law's premises are met, and it says this of them
lawful : (later : Marked → List (Result Row Fault))
    → IsPermutation (made_by g (late_conjuncts bound y) (core_rows g [] clauses) later (meaning g y p))
    (made_by g [] (core_rows g [] clauses) later (filter (lies_in g y) (pattern_matches g (core_pattern_of clauses))))
lawful later = each_plan_makes_trails g [] clauses bound later valid lengths is_bound 0 y (lit< tt) p covered

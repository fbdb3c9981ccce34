-- Shapes and keys of plans, by computation: three persons and five relationships KNOWS. What stands on the right is worked out by hand.
use Rattle.std.proofs.Common.{◌≡◌, refl, ℕ, true, false, Option, Some, List, [], ◌∷◌, codes, pos}
use Rattle.gq_base.specs.Plain.{Graph}
use Rattle.gq_base.specs.declared.Cell.{Cell}
use Rattle.gq_base.specs.declared.Cell.TheVariants as cell
use Rattle.gq_base.specs.declared.Kind.TheVariants as kind
use Rattle.gq_base.specs.declared.Mult.TheVariants as mult
use Rattle.gq_base.specs.declared.PlainRel.{PlainRel}
use Rattle.gq_base.specs.declared.direction.Direction.TheVariants.{Forward, Backward}
use Rattle.gq_plan.specs.Assignments.{nodes_of, rels_of, source, target}
use Rattle.gq_plan.specs.Covers.{after, after_step, fits, fits_step}
use Rattle.gq_plan.specs.Known.{none}
use Rattle.gq_plan.specs.Reads.{reads}
use Rattle.gq_plan.specs.Meaning.{Partial, nothing, mean, step}
use Rattle.gq_plan.specs.Plans.{Plan, Done, Then, Scan, Extend, Join, Differ}
use Rattle.gq_plan.specs.declared.shaping.Form.TheVariants as form
use Rattle.gq_plan.specs.declared.typed.Typed.{Typed}
use Rattle.gq_search.specs.Layouts.{keys}
use Rattle.gq_law_groups.specs.Groups.{Group, plan_of}
use Rattle.gq_law_groups.specs.Layout.{layout_of, size_from, keeps_from, AreFlatEnough}
use Rattle.gq_law_groups.specs.Order.{InOrder}
use Rattle.gq_plan.specs.Shapes.{places, shape, shape_from, all_flat, places_after, place_step, is_flat_group}

abbrev link : ℕ → ℕ → PlainRel
link from to = record { source = from; target = to; cells = [] }

abbrev person : List (Option Cell)
person = Some (cell.Int (pos 1)) ∷ []

abbrev g : Graph
g = record {
  catalog = record {
    nodes = record { word = codes "Person"; labels = codes "Person" ∷ []; file = []; fields = record { name = codes "id"; kind = kind.Int } ∷ [] } ∷ [];
    rels = record { name = codes "KNOWS"; from = 0; to = 0; mult = mult.ManyMany; file = []; fields = [] } ∷ [];
  };
  nodes = (person ∷ person ∷ person ∷ []) ∷ [];
  rels = (link 0 1 ∷ link 1 0 ∷ link 0 2 ∷ link 2 2 ∷ link 0 1 ∷ []) ∷ [];
}

-- (b)<-[0]-(a)-[1]->(c): the node variables in the order b, a, c
abbrev fork : Typed
fork = record {
  nodes = 0 ∷ 0 ∷ 0 ∷ [];
  rels =
      record { table = 0; source = 1; target = 0; clause = 0; reversed = true; no_loop = false }
      ∷ record { table = 0; source = 1; target = 2; clause = 0; reversed = false; no_loop = false } ∷ [];
  paths = record { first = 0; rels = 0 ∷ 1 ∷ [] } ∷ [];
  tests = [];
  late = [];
  pairs = record { first = 0; second = 1 } ∷ [];
}

abbrev fork_groups : List Group
fork_groups =
    record { binds = Scan 0; checks = [] }
    ∷ record { binds = Extend false 0 0 1 Backward; checks = [] }
    ∷ record { binds = Extend false 1 1 2 Forward; checks = Differ 0 ∷ [] } ∷ []

fork_shape : shape fork (plan_of fork_groups) ≡ record { form = form.Span; flat = true } ∷ record { form = form.List; flat = true } ∷ record { form = form.List; flat = false } ∷ []
unfolding shape_from all_flat places_after place_step after after_step
fork_shape = refl

abbrev no_builds : ℕ → List Partial
no_builds i = []

-- of person 1 nothing is left, since a relationship is not its own other one
fork_keys : keys (layout_of g fork no_builds (is_flat_group fork (plan_of fork_groups)) fork_groups) 3 [] ≡ (1 ∷ 0 ∷ 0 ∷ []) ∷ (1 ∷ 1 ∷ 0 ∷ []) ∷ (2 ∷ 0 ∷ 0 ∷ []) ∷ []
unfolding all_flat places_after place_step after after_step mean step nodes_of rels_of source target size_from keeps_from
fork_keys = refl

-- (a)-[0]->(b), (c)-[1]->(b), in text order: the second path is joined on b
abbrev meet : Typed
meet = record {
  nodes = 0 ∷ 0 ∷ 0 ∷ [];
  rels =
      record { table = 0; source = 0; target = 1; clause = 0; reversed = false; no_loop = false }
      ∷ record { table = 0; source = 2; target = 1; clause = 0; reversed = false; no_loop = false } ∷ [];
  paths = record { first = 0; rels = 0 ∷ [] } ∷ record { first = 2; rels = 1 ∷ [] } ∷ [];
  tests = [];
  late = [];
  pairs = record { first = 0; second = 1 } ∷ [];
}

abbrev side : Plan
side = Then (Scan 2) (Then (Extend false 1 2 1 Forward) Done)

abbrev meet_groups : List Group
meet_groups =
    record { binds = Scan 0; checks = [] }
    ∷ record { binds = Extend false 0 0 1 Forward; checks = [] }
    ∷ record { binds = Join side (1 ∷ []); checks = Differ 0 ∷ [] } ∷ []

meet_shape : shape meet (plan_of meet_groups) ≡ record { form = form.Span; flat = true } ∷ record { form = form.List; flat = true } ∷ record { form = form.Matches; flat = false } ∷ []
unfolding shape_from all_flat places_after place_step after after_step
meet_shape = refl

side_shape : shape meet side ≡ record { form = form.Span; flat = true } ∷ record { form = form.List; flat = false } ∷ []
unfolding shape_from all_flat places_after place_step after after_step
side_shape = refl

abbrev builds : ℕ → List Partial
builds i = mean g meet side nothing

meet_keys : keys (layout_of g meet builds (is_flat_group meet (plan_of meet_groups)) meet_groups) 3 [] ≡ (0 ∷ 0 ∷ 0 ∷ []) ∷ (0 ∷ 1 ∷ 0 ∷ []) ∷ (0 ∷ 2 ∷ 0 ∷ []) ∷ (2 ∷ 0 ∷ 0 ∷ []) ∷ []
unfolding all_flat places_after place_step after after_step mean step nodes_of rels_of source target size_from keeps_from
meet_keys = refl

-- the flat groups of both shapes are enough, and the steps stand in the order of their groups
fork_enough : AreFlatEnough g.catalog fork (is_flat_group fork (plan_of fork_groups)) 0 fork_groups none
unfolding all_flat places_after place_step after after_step fits fits_step reads
fork_enough = (refl, tt, (refl, tt, (refl, (refl, refl, tt), tt)))

meet_enough : AreFlatEnough g.catalog meet (is_flat_group meet (plan_of meet_groups)) 0 meet_groups none
unfolding all_flat places_after place_step after after_step fits fits_step reads
meet_enough = (refl, tt, (refl, tt, (refl, (refl, refl, tt), tt)))

fork_order : InOrder fork (places (plan_of fork_groups)) 0 fork_groups
unfolding places_after place_step after after_step
fork_order = (refl, tt, ((refl, refl), tt, ((refl, refl), (tt, refl, tt), tt)))

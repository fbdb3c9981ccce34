-- Orders and flat groups of plans, by computation. What stands on the right is worked out by hand: (p)-[0:KNOWS]->(d), (p)-[1:BOSS]->(d),
-- (p)<-[2:BOSS]-(r), where a person has at most one boss, so that 1 is a column of the group of p and is tested where d stands.
use Rattle.std.proofs.Common.{◌≡◌, refl, true, false, [], ◌∷◌}
use Rattle.gq_base.specs.declared.direction.Direction.TheVariants.{Forward, Backward}
use Rattle.gq_plan.specs.Arranged.{homes, order_of, flags_of}
use Rattle.gq_plan.specs.Plans.{Plan, Scan, Extend, Close, Keep, Differ, NoLoop, steps}
use Rattle.gq_plan.specs.Shapes.{all_flat, place_step, places_after}
use Rattle.gq_plan.specs.declared.typed.Typed.{Typed}
use Rattle.gq_arrange.specs.Law.{led_order}

abbrev boss : Typed
boss = record {
  nodes = 0 ∷ 0 ∷ 0 ∷ [];
  rels =
      record { table = 0; source = 0; target = 1; clause = 0; reversed = false; no_loop = true }
      ∷ record { table = 1; source = 0; target = 1; clause = 0; reversed = false; no_loop = false }
      ∷ record { table = 1; source = 2; target = 0; clause = 0; reversed = true; no_loop = false } ∷ [];
  paths = record { first = 0; rels = 0 ∷ [] } ∷ record { first = 0; rels = 1 ∷ [] } ∷ record { first = 0; rels = 2 ∷ [] } ∷ [];
  tests = [];
  late = [];
  pairs = record { first = 1; second = 2 } ∷ [];
}

-- d before r: 1 is taken at p and tested at d; the pair is tested at r, where p is flat
abbrev d_first : Plan
d_first = steps (Scan 0 ∷ Extend false 0 0 1 Forward ∷ Close true 1 0 1 Forward ∷ Extend false 2 0 2 Backward ∷ Differ 0 ∷ [])

d_first_order : order_of boss d_first ≡ 0 ∷ 2 ∷ 1 ∷ 3 ∷ 4 ∷ 5 ∷ []
unfolding homes places_after place_step
d_first_order = refl

d_first_flat : flags_of boss d_first ≡ true ∷ false ∷ false ∷ []
unfolding places_after place_step all_flat
d_first_flat = refl

-- r before d: the pair is tested at r, before it is known where 1 leads; so r is not flat
abbrev r_first : Plan
r_first = steps (Scan 0 ∷ Extend false 2 0 2 Backward ∷ Extend false 0 0 1 Forward ∷ Close true 1 0 1 Forward ∷ Differ 0 ∷ [])

r_first_order : order_of boss r_first ≡ 0 ∷ 3 ∷ 1 ∷ 5 ∷ 2 ∷ 4 ∷ []
unfolding homes places_after place_step
r_first_order = refl

r_first_flat : flags_of boss r_first ≡ true ∷ false ∷ false ∷ []
unfolding places_after place_step all_flat
r_first_flat = refl

-- steps that stand behind later groups: the test of the close and the loop exclusion of d go before r
abbrev r_between : Plan
r_between = steps (Scan 0 ∷ Extend false 0 0 1 Forward ∷ Extend false 2 0 2 Backward ∷ NoLoop 0 ∷ Close true 1 0 1 Forward ∷ Differ 0 ∷ [])

r_between_order : order_of boss r_between ≡ 0 ∷ 4 ∷ 1 ∷ 3 ∷ 5 ∷ 2 ∷ 6 ∷ []
unfolding homes places_after place_step
r_between_order = refl

r_between_flat : flags_of boss r_between ≡ true ∷ false ∷ false ∷ []
unfolding places_after place_step all_flat
r_between_flat = refl

-- tests in front of the first group: the step that makes it goes in front of them
abbrev tests_first : Plan
tests_first = steps (Keep 0 ∷ Keep 1 ∷ Scan 0 ∷ Extend false 0 0 1 Forward ∷ [])

tests_first_order : led_order boss tests_first ≡ 2 ∷ 0 ∷ 1 ∷ 3 ∷ []
unfolding homes places_after place_step
tests_first_order = refl

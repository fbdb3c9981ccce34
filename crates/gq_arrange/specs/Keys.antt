-- The key of an assignment of a plan: the places of its groups, in the order in which the plan makes them.
use Rattle.std.specs.Prelude.{◌<◌, ℕ, IsTrue, List, [], filter, length, map}
use Rattle.std.specs.List.{AllByRecursion}
use Rattle.gq_base.specs.Plain.{Graph}
use Rattle.gq_base.specs.Valid.{is_valid}
use Rattle.gq_law_groups.specs.Groups.{makes_group, decode}
use Rattle.gq_law_groups.specs.Keys.{IsAs, key_in}
use Rattle.gq_law_groups.specs.Law.{HaveRows}
use Rattle.gq_law_groups.specs.Layout.{layout_of}
use Rattle.gq_plan.specs.Arranged.{flags_of, in_order}
use Rattle.gq_plan.specs.Columns.{steps_of}
use Rattle.gq_plan.specs.Covers.{Fits, after}
use Rattle.gq_plan.specs.Known.{none}
use Rattle.gq_plan.specs.Meaning.{Partial, nothing}
use Rattle.gq_plan.specs.Plans.{Plan}
use Rattle.gq_plan.specs.Soundness.{IsSound}
use Rattle.gq_plan.specs.declared.typed.Typed.{Typed}
use Rattle.gq_search.specs.Different.{AreKeysOf}
use Rattle.gq_search.specs.Layouts.{Spot, walks, owed_walks, owed_keys}
use Rattle.gq_plan.specs.Shapes.{places}
use Rattle.gq_arrange.specs.Law.{flag, groups_of, led_order}

-- the plan in the order of its groups
abbrev pub led : Typed → Plan → Plan
led y p = in_order p (led_order y p)

-- `rows` are the rows of the build of each group
abbrev pub plan_key : Graph → Typed → (ℕ → List Partial) → Plan → Partial → List ℕ
plan_key g y rows p e = key_in g y rows (flag (flags_of y p)) 0 (filter makes_group (steps_of p)) e

-- wherever a pipeline of a plan is, that runs its steps in the order of their groups, the keys that are owed are the different keys of the
-- assignments that are owed, in order
abbrev pub KeysOfPlans : Type 0
KeysOfPlans =
    (g : Graph) (y : Typed) (p : Plan) (rows : ℕ → List Partial) (means : List ℕ → Partial) (spot : Spot)
    → IsTrue (is_valid g) → IsSound g.catalog y → Fits g.catalog y p → 0 < (places p).count → HaveRows g y rows 0 (groups_of (led y p))
    → AllByRecursion (λ w. IsAs (after (led y p) none) (decode g y rows 0 (groups_of (led y p)) nothing w) (means w))
    (walks (layout_of g y rows (flag (flags_of y p)) (groups_of (led y p))) (length (groups_of (led y p))) [])
    → AreKeysOf (owed_keys (layout_of g y rows (flag (flags_of y p)) (groups_of (led y p))) (length (groups_of (led y p))) spot)
    (map (plan_key g y rows p) (map means (owed_walks (layout_of g y rows (flag (flags_of y p)) (groups_of (led y p))) (length (groups_of (led y p))) spot)))

-- The laws of groups: the walks of a layout that follows a plan's groups mean what the plan means, and so do all plans with its steps.
use Rattle.std.specs.Prelude.{◌+◌, ℕ, IsTrue, IsPermutation, List, [], ◌∷◌, map, length}
use Rattle.std.specs.List.{range_with_len}
use Rattle.std.specs.Option.{unwrap_or}
use Rattle.gq_base.specs.Plain.{Graph}
use Rattle.gq_base.specs.Valid.{is_valid}
use Rattle.gq_base.specs.declared.NodeId.{NodeId}
use Rattle.gq_base.specs.declared.RelId.{RelId}
use Rattle.gq_plan.specs.Assignments.{Assignment}
use Rattle.gq_plan.specs.Columns.{steps_of}
use Rattle.gq_plan.specs.Covers.{Fits}
use Rattle.gq_plan.specs.Halves.{halved, Runs}
use Rattle.gq_plan.specs.Meaning.{Partial, nothing, look, mean}
use Rattle.gq_plan.specs.Plans.{Plan}
use Rattle.gq_plan.specs.Soundness.{IsSound}
use Rattle.gq_plan.specs.declared.typed.Typed.{Typed}
use Rattle.gq_search.specs.Layouts.{Layout, walks}
use Rattle.gq_law_groups.specs.Groups.{Group, plan_of, HasRows, AreGroups, Follows, decode}

abbrev no_node : NodeId
no_node = record { table = 0; row = 0 }

abbrev no_rel : RelId
no_rel = record { table = 0; row = 0 }

-- what all variables of an alternative are bound to; what is not bound reads as row 0 of table 0
abbrev pub read_all : Typed → Partial → Assignment
read_all y a = record {
  nodes = map (λ v. unwrap_or (look a.nodes v) no_node) (range_with_len 0 (length y.nodes));
  rels = map (λ x. unwrap_or (look a.rels x) no_rel) (range_with_len 0 (length y.rels));
}

-- walks mean the plan that the groups are, also with the order of its bindings
abbrev pub WalksMean : Type 0
WalksMean =
    (g : Graph) (y : Typed) (rows : ℕ → List Partial) (l : Layout) (gs : List Group)
    → AreGroups g y rows 0 gs → Follows g y rows l [] 0 gs nothing
    → IsPermutation (map (decode g y rows 0 gs nothing) (walks l (length gs) [])) (mean g y (plan_of gs) nothing)

-- steps are those of a plan, its column closes in halves, in whatever order
abbrev pub HasStepsOf : Plan → Plan → Type 0
HasStepsOf q p = IsPermutation (steps_of q) (steps_of (halved p))

-- what fits as it runs, with the steps of a plan that fits, means what the plan means
abbrev pub SamePlansMean : Type 0
SamePlansMean =
    (g : Graph) (y : Typed) (p q : Plan) → IsTrue (is_valid g) → IsSound g.catalog y
    → Fits g.catalog y p → Runs g.catalog y q → HasStepsOf q p
    → IsPermutation (map (read_all y) (mean g y p nothing)) (map (read_all y) (mean g y q nothing))

-- each group that joins, from a number on, has rows that stand for what its side plan means
abbrev pub HaveRows : Graph → Typed → (ℕ → List Partial) → ℕ → List Group → Type 0
HaveRows g y rows i [] = Unit {0}
HaveRows g y rows i (b ∷ gs) = HasRows g y (rows i) b.binds × HaveRows g y rows (i + 1) gs

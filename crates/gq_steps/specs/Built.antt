-- What the builds of a plan hold.
use Rattle.std.specs.Prelude.{◌≡◌, ℕ, ◌<◌, true, Option, Some, List, [], ◌∷◌, map, filter, length, IsPermutation}
use Rattle.std.specs.List.{range_with_len}
use Rattle.gq_base.specs.Plain.{Graph}
use Rattle.gq_base.specs.Valid.{row_count}
use Rattle.gq_join.specs.Kept.{Held, node_in, rel_in}
use Rattle.gq_plan.specs.declared.assignment.Assignment.{Assignment}
use Rattle.gq_plan.specs.Covers.{after}
use Rattle.gq_plan.specs.Known.{none}
use Rattle.gq_plan.specs.Meaning.{nothing, mean}
use Rattle.gq_plan.specs.Plans.{Plan, Done, Then, Step, Join}
use Rattle.gq_plan.specs.declared.typed.Typed.{Typed}
use Rattle.gq_steps.specs.Given.{given}
use Rattle.gq_plan.specs.Rows.{node_table}

-- a row of a build as rows and load numbers of all variables
abbrev pub whole_row : Typed → Held → ℕ → Assignment
whole_row y h i = record {
  nodes = map (λ v. node_in h v i) (range_with_len 0 (length y.nodes));
  rels = map (λ x. rel_in h x i) (range_with_len 0 (length y.rels));
}

-- the variables that a build keeps, all that the side plan binds
abbrev pub kept_nodes : Typed → Plan → List ℕ
kept_nodes y side = filter (after side none).nodes (range_with_len 0 (length y.nodes))

abbrev pub kept_rels : Typed → Plan → List ℕ
kept_rels y side = filter (after side none).rels (range_with_len 0 (length y.rels))

-- a build holds what a side plan makes from nothing, in the order in which it came
pub record IsBuildOf (g : Graph) (y : Typed) (side : Plan) (keys : List ℕ) (h : Held) : Type 0 where
  pub key_list : h.keys ≡ keys
  pub nodes : h.nodes ≡ kept_nodes y side
  pub rels : h.rels ≡ kept_rels y side
  pub made : IsPermutation (map (λ i. given y (whole_row y h i) side nothing) (range_with_len 0 (length h.rows))) (mean g y side nothing)
  pub inside : (i v : ℕ) → i < length h.rows → (after side none).nodes v ≡ true → node_in h v i < row_count g.nodes (node_table y v)

pub record HasBuild (g : Graph) (y : Typed) (side : Plan) (keys : List ℕ) (o : Option Held) : Type 0 where
  pub build : Held
  pub there : o ≡ Some build
  pub is : IsBuildOf g y side keys build

abbrev pub FitsBuild : Graph → Typed → Step → Option Held → Type 0
FitsBuild g y (Join side keys) o = HasBuild g y side keys o
FitsBuild g y s o = Unit

-- each join among the steps has its build
abbrev pub AreBuilds : Graph → Typed → Plan → List (Option Held) → Type 0
AreBuilds g y Done [] = Unit
AreBuilds g y Done (o ∷ os) = ⊥
AreBuilds g y (Then s p) [] = ⊥
AreBuilds g y (Then s p) (o ∷ os) = FitsBuild g y s o × AreBuilds g y p os

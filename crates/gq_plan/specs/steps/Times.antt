-- How often a plan meets a demand.
use Rattle.std.specs.Prelude.{ℕ, nat_eq, Bool, true, false, ◌+◌, List, [], ◌∷◌}
use Rattle.gq_plan.specs.Covers.{placed}
use Rattle.gq_plan.specs.Plans.{Plan}
use Rattle.gq_plan.specs.declared.demand.Demand.{Demand}
use Rattle.gq_plan.specs.declared.demand.Demand.TheVariants.{InTable, Joins, Passes, Differs, IsNoLoop}

abbrev pub same_demand : Demand → Demand → Bool
same_demand (InTable v) (InTable w) = nat_eq v w
same_demand (Joins x) (Joins z) = nat_eq x z
same_demand (Passes i) (Passes j) = nat_eq i j
same_demand (Differs p) (Differs q) = nat_eq p q
same_demand (IsNoLoop x) (IsNoLoop z) = nat_eq x z
same_demand d e = false

abbrev pub one : Bool → ℕ
one true = 1
one false = 0

-- how often a demand stands in a list
abbrev pub times : Demand → List Demand → ℕ
times d [] = 0
times d (e ∷ es) = one (same_demand d e) + times d es

-- a plan meets a demand exactly once
abbrev pub is_once : Plan → Demand → Bool
is_once p d = nat_eq (times d (placed p)) 1

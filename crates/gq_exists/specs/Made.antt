-- The keys of a path, and where they are too many.
use Rattle.std.specs.Prelude.{◌≡◌, ℕ, Bool, Some, List, length, map}
use Rattle.std.specs.Cmp.Lexicographic.{pointwise}
use Rattle.std.specs.List.{list_any}
use Rattle.gq_base.specs.Plain.{Graph}
use Rattle.gq_base.specs.declared.NodeId.{NodeId}
use Rattle.gq_expr.specs.Reading as reading
use Rattle.gq_join.specs.declared.build.JoinRefusal.{JoinRefusal}
use Rattle.gq_join.specs.declared.build.JoinRefusal.TheVariants as refusal
use Rattle.gq_law_answers.specs.Answered.{meanings}
use Rattle.gq_homes.specs.declared.spent.Spent.{Spent}
use Rattle.gq_plan.specs.Allowed.{at_same}
use Rattle.gq_plan.specs.Keys.{key_of}
use Rattle.gq_plan.specs.Plans.{Plan}
use Rattle.gq_plan.specs.declared.ExistsPart.{ExistsPart}
use Rattle.gq_exists.specs.Different.{HasMany}

-- the keys that were found, each once, and what each pipeline spent that ran for them
pub record Found : Type 0 where
  pub keys : List (List NodeId)
  pub spent : List Spent

-- the keys of what plans make of the alternatives of a path
abbrev pub keys_of : Graph → ExistsPart → List Plan → List (List NodeId)
keys_of g part plans = map (key_of (length part.nodes)) (meanings g part.alternatives plans)

-- a row has these nodes, and no more, at the variables
abbrev pub stands_on : List ℕ → reading.Assignment → List NodeId → Bool
stands_on nodes row key = pointwise at_same (map row.nodes nodes) (map Some key)

-- it has one of these lists of nodes there
abbrev pub some_stand_on : List ℕ → reading.Assignment → List (List NodeId) → Bool
some_stand_on nodes row keys = list_any (stands_on nodes row) keys

-- TooManyRows only where more keys than the limit differ; want of memory may come at any time
abbrev pub IsRefusal : ℕ → List (List NodeId) → JoinRefusal → Type 0
IsRefusal limit all (refusal.TooManyRows l) = (l ≡ limit) × HasMany limit all
IsRefusal limit all (refusal.Memory why) = Unit {0}

-- Tests of paths by their keys: what they are to a query.
use Rattle.std.specs.Prelude.{◌≡◌, ℕ, Some, List, map, slice_get}
use Rattle.std.specs.List.{AllZip}
use Rattle.gq_base.specs.Plain.{Graph}
use Rattle.gq_base.specs.declared.NodeId.{NodeId}
use Rattle.gq_drain.specs.declared.testing.Test.{Test}
use Rattle.gq_exists.specs.Different.{HasMany, HasNoMore}
use Rattle.gq_exists.specs.Made.{keys_of}
use Rattle.gq_homes.specs.declared.spent.Spent.{Spent}
use Rattle.gq_plan.specs.Covers.{Covers}
use Rattle.gq_plan.specs.Keys.{has_key}
use Rattle.gq_plan.specs.Plans.{Plan}
use Rattle.gq_plan.specs.declared.ExistsPart.{ExistsPart}
use Rattle.gq_execute.specs.declared.refusal.AnswerRefusal.{AnswerRefusal}
use Rattle.gq_execute.specs.declared.refusal.AnswerRefusal.TheVariants as refusal

-- the keys of a test are those of what some covering plans make of the path's alternatives, and not too many
pub record IsTestOf (g : Graph) (most : ℕ) (part : ExistsPart) (t : Test) : Type 0 where
  pub part_is : t.part.now ≡ part
  pub plans : List Plan
  pub covers : AllZip (Covers g.catalog) part.alternatives plans
  pub keys : (key : List NodeId) → has_key key t.keys.keys ≡ has_key key (keys_of g part plans)
  pub few : HasNoMore most (keys_of g part plans)

abbrev pub AreTestsOf : Graph → ℕ → List ExistsPart → List Test → Type 0
AreTestsOf g most parts tests = AllZip (IsTestOf g most) parts tests

-- what was spent on each of them
abbrev pub spent_on : List Test → List (List Spent)
spent_on tests = map (λ (t : Test). t.keys.spent) tests

-- they are too many
pub record HasManyKeys (g : Graph) (most : ℕ) (part : ExistsPart) : Type 0 where
  pub plans : List Plan
  pub covers : AllZip (Covers g.catalog) part.alternatives plans
  pub many : HasMany most (keys_of g part plans)

-- those of some part are
pub record SomeHasMany (g : Graph) (most : ℕ) (parts : List ExistsPart) : Type 0 where
  pub number : ℕ
  pub part : ExistsPart
  pub there : slice_get parts number ≡ Some part
  pub has : HasManyKeys g most part

-- why a test is refused, and why one of some is; want of memory is free
abbrev pub RefusesTest : Graph → ℕ → ExistsPart → AnswerRefusal → Type 0
RefusesTest g most part (refusal.TooManyRows limit) = (limit ≡ most) × HasManyKeys g most part
RefusesTest g most part (refusal.Fault fault) = ⊥
RefusesTest g most part (refusal.Memory why) = Unit {0}

abbrev pub RefusesTests : Graph → ℕ → List ExistsPart → AnswerRefusal → Type 0
RefusesTests g most parts (refusal.TooManyRows limit) = (limit ≡ most) × SomeHasMany g most parts
RefusesTests g most parts (refusal.Fault fault) = ⊥
RefusesTests g most parts (refusal.Memory why) = Unit {0}

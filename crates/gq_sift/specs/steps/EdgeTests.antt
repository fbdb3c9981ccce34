-- Places of a list whose relationships a condition refuses, or is true of.
use Rattle.std.specs.Prelude.{◌≡◌, ◌+◌, ◌<◌, ◌≤◌, ℕ, Bool, Some, slice_get}
use Rattle.gq_base.specs.Plain.{Graph}
use Rattle.gq_filter.specs.declared.placed.PlacedTest.{PlacedTest}
use Rattle.gq_plan.specs.declared.assignment.Assignment.{Assignment}
use Rattle.gq_sift.specs.declared.finding.ListPart.{ListPart}
use Rattle.gq_sift.specs.steps.Parts.{numbers_of}
use Rattle.gq_steps.specs.Levels.{Run}
use Rattle.gq_steps.specs.steps.Outcomes.{passes_at}
use Rattle.gq_store.specs.Places.{number_at}

-- the relationship at a place of the list stands where something is true
pub record StandsWhere (g : Graph) (p : ListPart) (is : ℕ → Type 0) (place : ℕ) : Type 0 where
  pub number : ℕ
  pub there : slice_get (numbers_of g p) place ≡ Some number
  pub edge : ℕ
  pub stands : number_at g p.table edge ≡ Some number
  pub holds : is edge

-- with its load number, which a relationship variable has, a test is true, or it is not
pub record IsTestedAs (c : Run) (x : ℕ) (p : ListPart) (i : ℕ) (told : Bool) (place : ℕ) : Type 0 where
  pub number : ℕ
  pub there : slice_get (numbers_of c.graph p) place ≡ Some number
  pub says : (a : Assignment) → slice_get a.rels x ≡ Some number → passes_at c.graph c.typed a i ≡ told

-- the relationships of a part stand side by side up to a place, and where they stand a test has cells
pub record IsSpanEnd (g : Graph) (p : ListPart) (t : PlacedTest) (high : ℕ) : Type 0 where
  pub first : ℕ
  pub ends : high ≡ first + p.high
  pub stand : (k : ℕ) → k < p.high → number_at g p.table (first + k) ≡ slice_get (numbers_of g p) k
  pub inside : high ≤ t.places

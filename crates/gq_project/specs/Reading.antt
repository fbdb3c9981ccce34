-- What it means that the columns, the keys and the conjuncts of a query are made.
use Rattle.std.specs.Prelude.{◌≡◌, true, ℕ, List, flat_map, map, slice_get}
use Rattle.gq_base.specs.Plain.{Graph}
use Rattle.gq_eval.specs.Asked.{Asked, asked, asked_of}
use Rattle.gq_plan.specs.Meaning.{found}
use Rattle.gq_plan.specs.declared.bound.Bound.{Bound}
use Rattle.gq_plan.specs.declared.bound.SortExpr.{SortExpr}
use Rattle.gq_project.specs.declared.reading.Reading.{Reading}

-- the keys, over a graph
abbrev pub asked_keys : Graph → List SortExpr → List Asked
asked_keys g ks = map (λ (k : SortExpr). asked k.expr g) ks

-- those with these numbers
abbrev pub at_numbers : {X : Type 0} → List X → List ℕ → List X
at_numbers xs is = flat_map (λ i. found (slice_get xs i)) is

-- the columns, the keys and the conjuncts of a query over a graph
pub record IsReading (g : Graph) (b : Bound) (r : Reading) : Type 0 where
  pub columns : r.columns ≡ asked_of g b.columns
  pub keys : r.keys ≡ asked_keys g b.keys
  pub conjuncts : r.conjuncts ≡ asked_of g b.conjuncts

-- where any were made, it was those of this query over this graph
pub record IsReadyFor (g : Graph) (b : Bound) (r : Reading) : Type 0 where
  pub made : r.made ≡ true → IsReading g b r
  pub ready : r.ready ≡ true → IsReading g b r

-- Tests that read one node variable alone.
use Rattle.std.specs.Prelude.{◌≡◌, ◌⊎◌, ℕ, Bool, false, Some, List, [], ◌∷◌, slice_get}
use Rattle.gq_base.specs.Plain.{Graph}
use Rattle.gq_base.specs.declared.NodeId.{NodeId}
use Rattle.gq_plan.specs.Conditions.{passes}
use Rattle.gq_plan.specs.Covers.{test_bound}
use Rattle.gq_plan.specs.Known as known
use Rattle.gq_plan.specs.Meaning.{Partial, nothing, look, holds, row, with_node}
use Rattle.gq_plan.specs.Plans.{Step, Keep}
use Rattle.gq_plan.specs.Rows.{node_table}
use Rattle.gq_plan.specs.declared.typed.Typed.{Typed}

-- a test of the alternative reads a node variable, and nothing else
abbrev pub reads_alone : Typed → ℕ → ℕ → Bool
reads_alone y v test = holds (test_bound (known.with_node v known.none)) (slice_get y.tests test)

-- whether it is true where the variable has a row of its table
abbrev pub passes_alone : Graph → Typed → ℕ → ℕ → ℕ → Bool
passes_alone g y v test q = holds (passes g (row (with_node v (record { table = node_table y v; row = q }) nothing))) (slice_get y.tests test)

-- a test is one of the steps
abbrev pub Asks : ℕ → List Step → Type 0
Asks test [] = ⊥
Asks test (s ∷ ss) = (s ≡ Keep test) ⊎ Asks test ss

-- a test is true of no assignment that has this node there
abbrev pub Refuses : Graph → Typed → ℕ → ℕ → NodeId → Type 0
Refuses g y test v n = (e : Partial) → look e.nodes v ≡ Some n → holds (passes g (row e)) (slice_get y.tests test) ≡ false

-- Nodes of which groups make nothing.
use Rattle.std.specs.Prelude.{◌≡◌, ℕ, ◌+◌, Some, List, []}
use Rattle.std.specs.List.{AllByRecursion}
use Rattle.gq_base.specs.Plain.{Graph}
use Rattle.gq_base.specs.declared.NodeId.{NodeId}
use Rattle.gq_plan.specs.Meaning.{Partial, look}
use Rattle.gq_plan.specs.declared.typed.Typed.{Typed}
use Rattle.gq_law_groups.specs.Groups.{Group, kept, results}

-- the groups from one on make nothing of an assignment that has this node there
abbrev pub MakeNothing : Graph → Typed → (ℕ → List Partial) → ℕ → List Group → ℕ → NodeId → Type 0
MakeNothing g y rows i gs v n = (e : Partial) → look e.nodes v ≡ Some n → results g y rows i gs e ≡ []

-- a group leaves nothing of a place that has this node there, of which those behind it make anything
abbrev pub LeavesNothing : Graph → Typed → (ℕ → List Partial) → ℕ → Group → List Group → ℕ → NodeId → Type 0
LeavesNothing g y rows i b gs v n = (e : Partial) → look e.nodes v ≡ Some n → AllByRecursion (λ d. results g y rows (i + 1) gs d ≡ []) (kept g y b e)

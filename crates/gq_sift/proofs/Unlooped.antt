-- A relationship is no loop where it leads to another row than that from which it is followed.
use Rattle.std.proofs.Common.{◌≡◌, inl, inr, ℕ, ◌<◌, ◌==◌, not, Some, length, refl, sym, ap, ap₂, ◌∙◌, arith}
use Rattle.std.specs.Prelude.{slice_index}
use Rattle.std.proofs.lemmas.Bool.{eq-eqb}
use Rattle.std.proofs.lemmas.Option.{slice_get-get_or}
use Rattle.gq_plan.specs.Allowed.{at_same}
use Rattle.gq_plan.specs.Assignments.{same_node}
use Rattle.gq_plan.specs.Conditions.{no_loop}
use Rattle.gq_plan.specs.Meaning.{holds}
use Rattle.gq_plan.specs.Rows.{as_read, node_at, node_table}
use Rattle.gq_plan.specs.steps.Rows.{node_in}
use Rattle.gq_plan.specs.declared.assignment.Assignment.{Assignment}
use Rattle.gq_plan.specs.declared.typed.Typed.{Typed}
use Rattle.gq_steps.specs.Tests.{IsWithinTable}
use Rattle.gq_steps.specs.steps.Outcomes.{no_loop_at}
use Rattle.gq_plan.specs.declared.follow.Follow.{Follow}
use Rattle.gq_sift.proofs.Apart.{eqb-sym}
use Rattle.gq_plan.proofs.Rows.{node_read}

-- what a node variable has
node_is : (y : Typed) (row : Assignment) (v : ℕ) → length row.nodes ≡ length y.nodes → v < length y.nodes → (as_read y row).nodes v ≡ Some (node_at y row v)
node_is y row v many low = node_read y row v ∙ ap₂ node_in (slice_get-get_or y.nodes v 0 low) (slice_get-get_or row.nodes v 0 (omega (arith, many, low)))

-- nodes of one table differ where their rows do
unlike : (t s m n : ℕ) → t ≡ s → not (same_node (record { table = t; row = m }) (record { table = s; row = n })) ≡ not (m == n)
unlike t s m n same = rw (eq-eqb t s same) refl

module _ (y : Typed) (f : Follow) (w : IsWithinTable y f) (row : Assignment) (many : length row.nodes ≡ length y.nodes) (from : f.from < length y.nodes) (to : f.to < length y.nodes) where
  forward : w.rel.source ≡ f.from → w.rel.target ≡ f.to → no_loop (as_read y row) w.rel ≡ not (slice_index row.nodes f.to == slice_index row.nodes f.from)
  forward s t =
      ap₂ (λ a b. not (at_same a b)) (ap (as_read y row).nodes s ∙ node_is y row f.from many from) (ap (as_read y row).nodes t ∙ node_is y row f.to many to)
      ∙ unlike (node_table y f.from) (node_table y f.to) (slice_index row.nodes f.from) (slice_index row.nodes f.to) w.same
      ∙ ap not (eqb-sym (slice_index row.nodes f.from) (slice_index row.nodes f.to))

  backward : w.rel.source ≡ f.to → w.rel.target ≡ f.from → no_loop (as_read y row) w.rel ≡ not (slice_index row.nodes f.to == slice_index row.nodes f.from)
  backward s t =
      ap₂ (λ a b. not (at_same a b)) (ap (as_read y row).nodes s ∙ node_is y row f.to many to) (ap (as_read y row).nodes t ∙ node_is y row f.from many from)
      ∙ unlike (node_table y f.to) (node_table y f.from) (slice_index row.nodes f.to) (slice_index row.nodes f.from) (sym w.same)

  pub no_loop_by : no_loop_at y row f.rel ≡ not (slice_index row.nodes f.to == slice_index row.nodes f.from)
  no_loop_by = ap (holds (no_loop (as_read y row))) w.there ∙ elim w.ends [ inl e ↦ forward e.0 e.1 | inr e ↦ backward e.0 e.1 ]

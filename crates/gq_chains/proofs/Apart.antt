-- What relationship variables have, and when two of them differ.
use Rattle.std.proofs.Common.{◌≡◌, ℕ, ◌<◌, ◌==◌, not, Some, length, sym, ap, ap₂, ◌∙◌, refl, arith}
use Rattle.std.specs.Prelude.{slice_index}
use Rattle.std.proofs.lemmas.Bool.{eq-eqb}
use Rattle.std.proofs.lemmas.Option.{slice_get-get_or}
use Rattle.gq_plan.specs.Assignments.{same_rel}
use Rattle.gq_plan.specs.Rows.{as_read, rel_at, rel_table, table_of}
use Rattle.gq_plan.specs.steps.Rows.{rel_in}
use Rattle.gq_plan.specs.declared.assignment.Assignment.{Assignment}
use Rattle.gq_plan.specs.declared.typed.Typed.{Typed}
use Rattle.gq_plan.proofs.Rows.{rel_read}
use Rattle.gq_steps.proofs.Followed.{get_some}

-- what a relationship variable has
pub read_at : (y : Typed) (row : Assignment) (x : ℕ) → length row.rels ≡ length y.rels → x < length y.rels → (as_read y row).rels x ≡ Some (rel_at y row x)
read_at y row x many low =
    let r = get_some y.rels x low in
    rel_read y row x
    ∙ ap₂ rel_in r.1 (slice_get-get_or row.rels x 0 (omega (arith, many, low)))
    ∙ ap (λ o. Some (record { table = table_of o; row = slice_index row.rels x })) (sym r.1)

-- relationships of one table differ where their load numbers do
pub apart : (t s m n : ℕ) → t ≡ s → not (same_rel (record { table = t; row = m }) (record { table = s; row = n })) ≡ not (m == n)
apart t s m n same = rw (eq-eqb t s same) refl

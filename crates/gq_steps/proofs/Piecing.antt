-- Which steps follow relationships in a list, and which do not.
use Rattle.std.proofs.Common.{◌≡◌, ℕ, true, false, not, ◌&&◌, nat_eq, slice_get, ap, ◌∙◌}
use Rattle.std.proofs.lemmas.Bool.{and_parts}
use Rattle.gq_base.specs.Valid.{is_single}
use Rattle.gq_base.specs.declared.RelTable.{RelTable}
use Rattle.gq_base.specs.declared.direction.Direction.{Direction}
use Rattle.gq_plan.specs.Covers.{goes, start_of, end_of, agrees}
use Rattle.gq_plan.specs.Meaning.{holds}
use Rattle.gq_plan.specs.Rows.{rel_table, table_of}
use Rattle.gq_store.specs.Neighbours.{is_listed, allows_many, mult_of}
use Rattle.gq_steps.specs.Levels.{Run}
use Rattle.gq_steps.proofs.Stepping.{holds_some}

-- where a step that makes a group follows relationships, these stand in a list
pub listed_is : (c : Run) (from to x : ℕ) (way : Direction) → holds (goes c.graph.catalog false from to way) (slice_get c.typed.rels x) ≡ true → is_listed c.graph (rel_table c.typed x) way ≡ true
listed_is c from to x way h =
    let r = holds_some (goes c.graph.catalog false from to way) (slice_get c.typed.rels x) h in
    let both = and_parts (nat_eq from (start_of way r.0) && nat_eq to (end_of way r.0)) _ r.2 in
    let t = holds_some (λ (table : RelTable). agrees false (is_single table.mult way)) (slice_get c.graph.catalog.rels r.0.table) both.1 in
    ap (λ o. allows_many (mult_of (slice_get c.graph.catalog.rels (table_of o))) way) r.1 ∙ ap (λ o. allows_many (mult_of o) way) t.1 ∙ t.2

-- where a step follows relationships of which a row has one at most, these do not
pub single_is : (c : Run) (from to x : ℕ) (way : Direction) → holds (goes c.graph.catalog true from to way) (slice_get c.typed.rels x) ≡ true → is_listed c.graph (rel_table c.typed x) way ≡ false
single_is c from to x way h =
    let r = holds_some (goes c.graph.catalog true from to way) (slice_get c.typed.rels x) h in
    let both = and_parts (nat_eq from (start_of way r.0) && nat_eq to (end_of way r.0)) _ r.2 in
    let t = holds_some (λ (table : RelTable). agrees true (is_single table.mult way)) (slice_get c.graph.catalog.rels r.0.table) both.1 in
    ap (λ o. allows_many (mult_of (slice_get c.graph.catalog.rels (table_of o))) way) r.1 ∙ ap (λ o. allows_many (mult_of o) way) t.1 ∙ ap not t.2

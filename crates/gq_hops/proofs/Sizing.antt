-- How many rows the tables of a graph have.
use Rattle.std.proofs.Common.{◌≡◌, ℕ, ◌+◌, ◌<◌, true, Option, Some, None, length, get_or, slice_get, refl, sym, ap, ◌∙◌, subst, arith}
use Rattle.std.specs.Prelude.{List, nat_lt, if◌then◌else◌}
use Rattle.gq_hops.specs.declared.follow.Followed.{Followed}
use Rattle.std.proofs.lemmas.Bool.Decides.{nat_tests}
use Rattle.std.proofs.lemmas.List.FromFn.{get_or-map-range_with_len}
use Rattle.std.proofs.lemmas.Option.{slice_get_within}
use Rattle.gq_base.specs.Plain.{Graph, all_of, rows_at, rows_of}
use Rattle.gq_base.specs.Valid.{is_valid, row_count}
use Rattle.gq_store.proofs.Validity.{node_tables_are}
use Rattle.gq_hops.specs.steps.Sizes.{AreSizesIn, size_in, sizes_in}

lt_true : (m n : ℕ) → nat_lt m n ≡ true → m < n
lt_true m n h = grind (arith, nat_tests, h)

pub sizes_hold : (g : Graph) (es : List Followed) → is_valid g ≡ true → AreSizesIn g es (sizes_in g es)
sizes_hold g es valid n there far = go (slice_get g.nodes n.table) refl (lt_true n.row (length (rows_at g n.table)) there)
  where
    same : (k : ℕ) → 0 + k ≡ k
    same k = omega arith

    none : n.row < 0 → ⊥
    none h = omega (arith, h)

    go : (o : Option _) → slice_get g.nodes n.table ≡ o → n.row < length (all_of (slice_get g.nodes n.table)) → n.row < get_or (sizes_in g es) n.table 0
    go None e low = absurd (none (subst (λ k. n.row < length (all_of k)) e low))
    go (Some rows) e low =
        let within : n.table < length g.nodes = slice_get_within g.nodes n.table rows e in
        let low_table : n.table < length g.catalog.nodes = subst (λ k. n.table < k) (sym (node_tables_are g valid)) within in
        subst (λ k. n.row < k)
        (sym (get_or-map-range_with_len (size_in g es) 0 (length g.catalog.nodes) n.table n.table 0 low_table (same n.table) ∙ ap (λ b. if b then row_count g.nodes n.table else 0) far ∙ ap (λ o. length (rows_of o)) e))
        (subst (λ k. n.row < length (all_of k)) e low)

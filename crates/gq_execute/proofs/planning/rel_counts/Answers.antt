use Rattle.std.proofs.Common.{◌≡◌, ℕ, ◌++◌, [], ◌∷◌, length, map, arith, sym, ap, ◌∙◌}
use Rattle.gq_base.specs.Plain.{rels_at}
use Rattle.std.specs.List.{range_with_len}
use Rattle.std.proofs.lemmas.List.FromFn.{map-range_with_len_more}
use Rattle.gq_execute.proofs.planning.rel_counts.Goals as goal

pub tables-preserved : goal.tables-preserved
tables-preserved c =
    let count : ℕ → ℕ = λ table. length (rels_at c.args.graph.now table) in
    let item : c.from.result ≡ count c.tables.table = c.from.ensures ∙ c.rel_count.ensures in
    c.in_ok-push.ensures.pushed
    ∙ ap (λ counts. counts ++ c.from.result ∷ []) c.tables.invariant
    ∙ ap (λ n. map count (range_with_len 0 c.tables.table) ++ n ∷ []) item
    ∙ sym (map-range_with_len_more count 0 c.tables.table c.tables.table (omega arith))

use Rattle.std.proofs.Common.{ℕ, ◌++◌, [], ◌∷◌, map, arith, sym, ap, ◌∙◌}
use Rattle.std.specs.List.{range_with_len}
use Rattle.std.proofs.lemmas.List.FromFn.{map-range_with_len_more}
use Rattle.gq_hops.specs.steps.Sizes.{size_in}
use Rattle.gq_hops.proofs.reacher.sizes_of.Goals as goal

pub tables-preserved : goal.tables-preserved
tables-preserved c =
    let count : ℕ → ℕ = size_in c.args.graph.now c.args.followed.now in
    c.in_ok-push.ensures.items
    ∙ ap (λ counts. counts ++ c.size_of.result ∷ []) c.tables.invariant
    ∙ ap (λ n. map count (range_with_len 0 c.tables.table) ++ n ∷ []) c.size_of.ensures
    ∙ sym (map-range_with_len_more count 0 c.tables.table c.tables.table (omega arith))

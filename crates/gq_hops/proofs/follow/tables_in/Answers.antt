use Rattle.std.proofs.Common.{◌≡◌, ◌∙◌, ◌++◌, ◌+◌, ◌∷◌, [], List, nat_eq, drop, sym, ap, ap₂, arith}
use Rattle.std.specs.Cmp.Lexicographic.{pointwise}
use Rattle.gq_hops.specs.declared.follow.Followed.{Followed}
use Rattle.gq_hops.specs.steps.Hops.{tables_of}
use Rattle.gq_hops.proofs.Hopping.{table_in, table_out}
use Rattle.gq_hops.proofs.follow.tables_in.Goals as goal
use Rattle.gq_hops.proofs.follow.tables_in.Goals.{then-is+in_ok-push, else-is}

pub loop-table-preserved : goal.loop-table-preserved
loop-table-preserved c =
    let kind = c.args.kind.now in
    let rels = c.args.catalog.now.rels in
    let t = c.loop-table.table in
    let k = c.rel_table-found.result.now in
    let test : c.is.result ≡ pointwise nat_eq k.name kind = c.is.ensures.value ∙ ap (pointwise nat_eq k.name) c.as_str.ensures.bytes in
    let rest : List Followed = tables_of kind c.args.way (t + 1) (drop (t + 1) rels) in
    record {
      most = omega (arith, c.loop-table-test.true, c.loop-table.invariant.most);
      tables = elim c.if-is.branch [
        | then-is+in_ok-push w ↦
            ap (λ v. v.items ++ rest) w.tables-is
            ∙ ap (λ l. l ++ rest) (w.in_ok-push.ensures.items ∙ ap₂ (λ n m. c.loop-table.tables.items ++ record { table = t; near = n; far = m } ∷ []) w.near_end.ensures w.far_end.ensures)
            ∙ table_in kind c.args.way rels t k (sym c.rel_table-found.ensures) c.loop-table.tables.items (sym test ∙ w.if-is.true)
            ∙ c.loop-table.invariant.tables
        | else-is w ↦
            ap (λ v. v.items ++ rest) w.tables-is
            ∙ table_out kind c.args.way rels t k (sym c.rel_table-found.ensures) c.loop-table.tables.items (sym test ∙ w.if-is.false)
            ∙ c.loop-table.invariant.tables
      ];
    }

use Rattle.std.proofs.Common.{◌≡◌, ◌∙◌, ◌+◌, List, ℕ, sym, ap, subst, arith}
use Rattle.std.specs.Prelude.{slice_set}
use Rattle.gq_plan.specs.declared.assignment.Assignment.{Assignment}
use Rattle.gq_filter.specs.RowTests.{is_true_of}
use Rattle.gq_filter.specs.Rows.{row_in}
use Rattle.gq_filter.proofs.Rowwise.{IsKeeping, as_long, keeping_dropped, keeping_kept}
use Rattle.gq_filter.proofs.row_test.RowTest.keep_each.Goals as goal
use Rattle.gq_filter.proofs.row_test.RowTest.keep_each.Goals.{then-not-passes, else-not-passes}

pub set-requires : goal.set-requires
set-requires c =
    let long = as_long c.args.self.now c.args.variable c.args.rows c.args.row.now c.args.marks.now c.loop-place.place c.loop-place.row c.loop-place.marks c.loop-place.invariant in
    omega (arith, c.requires.variable, long)

pub set-requires-2 : goal.set-requires-2
set-requires-2 c =
    let long = as_long c.args.self.now c.args.variable c.args.rows c.args.row.now c.args.marks.now c.loop-place.place c.loop-place.row c.loop-place.marks c.loop-place.invariant in
    omega (arith, c.requires.variable, long)

pub loop-place-preserved : goal.loop-place-preserved
loop-place-preserved c =
    let test = c.args.self.now in
    let put : List ℕ → Assignment = λ nodes. record { nodes = nodes; rels = c.loop-place.row.rels } in
    let nodes : c.set.new.self ≡ slice_set c.loop-place.row.nodes c.args.variable (row_in c.args.rows c.loop-place.place) = c.set.ensures ∙ ap (slice_set c.loop-place.row.nodes c.args.variable) c.row.ensures in
    subst (λ ns. IsKeeping test c.args.variable c.args.rows c.args.row.now c.args.marks.now (c.loop-place.place + 1) (record { nodes = ns; rels = c.loop-place.row.rels }) c.if-not-passes.marks) (sym nodes)
    (elim c.if-not-passes.branch [
      | then-not-passes w ↦
          subst (IsKeeping test c.args.variable c.args.rows c.args.row.now c.args.marks.now (c.loop-place.place + 1) _) (sym (w.marks-is ∙ w.set-then-not-passes.ensures.written))
          (keeping_dropped test c.args.variable c.args.rows c.args.row.now c.args.marks.now c.loop-place.place c.loop-place.row c.loop-place.marks c.loop-place.invariant
          (omega (arith, c.get.ensures.whole, c.loop-place-test.true, c.len-place-end.ensures, c.requires.few))
          (sym w.if-not-passes.true ∙ c.passes.ensures ∙ ap (λ ns. is_true_of test (put ns)) nodes))
      | else-not-passes w ↦
          subst (IsKeeping test c.args.variable c.args.rows c.args.row.now c.args.marks.now (c.loop-place.place + 1) _) (sym w.marks-is)
          (keeping_kept test c.args.variable c.args.rows c.args.row.now c.args.marks.now c.loop-place.place c.loop-place.row c.loop-place.marks c.loop-place.invariant
          (sym c.get.ensures.value ∙ c.if-not-get.false)
          (sym w.if-not-passes.false ∙ c.passes.ensures ∙ ap (λ ns. is_true_of test (put ns)) nodes))
    ])

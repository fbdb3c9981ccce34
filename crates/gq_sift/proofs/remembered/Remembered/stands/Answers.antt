use Rattle.std.proofs.Common.{◌≡◌, ◌∙◌, inl, inr, length, sym, ap, subst, arith, true}
use Rattle.std.specs.Prelude.{slice_index}
use Rattle.std.proofs.lemmas.Bool.{cases_eq}
use Rattle.gq_plan.specs.Known.{set_of}
use Rattle.gq_sift.proofs.remembered.Remembered.stands.Goals as goal

pub loop-node-init : goal.loop-node-init
loop-node-init c = λ v low read other. absurd (omega (arith, low))

pub loop-node-preserved : goal.loop-node-preserved
loop-node-preserved c = λ v low read other. elim (cases_eq v c.loop-node.node) [
  | inl same ↦
      (let here = c.is_moved.ensures c.if-is_moved.false (subst (λ n. set_of c.args.self.now.reads.nodes n ≡ true) same read) (λ e. other (same ∙ e)) in
      ap (slice_index c.args.self.now.rows.items) same ∙ here ∙ ap (λ xs. slice_index xs c.loop-node.node) c.as_slice-rows.ensures ∙ ap (slice_index c.args.row.now.nodes) (sym same))
  | inr apart ↦ c.loop-node.invariant v (omega (arith, low, apart)) read other
]

pub returns : goal.returns
returns c = λ yes v low read other. c.loop-node.invariant v (let past = c.loop-node-test.false in omega (arith, low, past, c.requires.long, ap length c.as_slice-rows.ensures)) read other

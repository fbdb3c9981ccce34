use Rattle.std.proofs.Common.{◌≡◌, ◌∙◌, ◌++◌, ap, false, inl, inr, subst, sym, true, arith}
use Rattle.std.specs.Prelude.{◌⊎◌}
use Rattle.gq_base.specs.Lists.{is_empty}
use Rattle.gq_kept.specs.Tables.{is_full_table}
use Rattle.gq_execute.specs.steps.Answering.{AnswersWith}
use Rattle.gq_execute.proofs.Ending.{all_done, before_refused, empty_tells, nothing_done}
use Rattle.gq_execute.proofs.answering.fill.Goals as goal
use Rattle.gq_pipe.proofs.Rooms.{spare_same}
use Rattle.gq_execute.proofs.answering.fill.Goals.{then-is_empty-via-then-is_empty, then-is_empty-via-else-is_empty+then-enough}

pub returns-then-is_empty-clause-answers : goal.returns-then-is_empty-clause-answers
returns-then-is_empty-clause-answers c =
    let g = c.args.graph.now in
    let b = c.args.bound.now in
    let t = c.args.table.now in
    let over : (is_empty b.alternatives ≡ true) ⊎ (is_full_table t ≡ true) =
    elim c.then-is_empty.branch [ then-is_empty-via-then-is_empty w ↦ inl (empty_tells b.alternatives c.is_empty.result c.is_empty.ensures ∙ w.if-is_empty.true) | then-is_empty-via-else-is_empty+then-enough w ↦ inr (sym w.enough.ensures ∙ w.if-enough.true) ] in
    subst (AnswersWith g b c.args.settings.now t) (sym c.new.ensures) (nothing_done g b c.args.settings.now t c.stands_valid.ensures c.requires.fresh over)

pub returns-in-Err-clause-answers : goal.returns-in-Err-clause-answers
returns-in-Err-clause-answers c =
    let g = c.args.graph.now in
    let b = c.args.bound.now in
    let settings = c.args.settings.now in
    let some : is_empty b.alternatives ≡ false = empty_tells b.alternatives c.is_empty.result c.is_empty.ensures ∙ c.if-is_empty.false in
    let room : is_full_table c.args.table.now ≡ false = sym c.enough.ensures ∙ c.if-enough.false in
    before_refused g b settings c.args.table.now c.stands_valid.ensures c.requires.fresh some room c.in-Err.refusal c.in-Err.ensures.refused

pub returns-clause-answers : goal.returns-clause-answers
returns-clause-answers c =
    let g = c.args.graph.now in
    let b = c.args.bound.now in
    let settings = c.args.settings.now in
    let some : is_empty b.alternatives ≡ false = empty_tells b.alternatives c.is_empty.result c.is_empty.ensures ∙ c.if-is_empty.false in
    let room : is_full_table c.args.table.now ≡ false = sym c.enough.ensures ∙ c.if-enough.false in
    let made = c.in-Ok.ensures in
    all_done g b settings c.args.table.now c.stands_valid.ensures c.requires.fresh some room c.take_turns.new.table c.in-Ok.prepared c.in-Ok-take_turns.turns c.append.new.spent
    made.prepared made.light made.tested made.spent c.in-Ok-take_turns.ensures.fills
    (c.in_ok-append.ensures ∙ ap (λ l. l ++ c.in-Ok-take_turns.turns) c.in_ok-spent.ensures)

pub take_turns-requires-clause-slots : goal.take_turns-requires-clause-slots
take_turns-requires-clause-slots c = omega (arith, c.requires.slots, spare_same c.args.pool.now c.prepare.new.pool c.prepare.ensures.slots)

use Rattle.std.proofs.Common.{◌≡◌, ℕ, None, List, sym, subst}
use Rattle.std.specs.Prelude.{slice_get}
use Rattle.gq_ends.specs.declared.answers.TableAnswers.{TableAnswers}
use Rattle.gq_ends.specs.steps.Answers.{in_table}
use Rattle.gq_ends.proofs.Answering.{table_added}
use Rattle.gq_ends.proofs.trail_end.room_for.Goals as goal

pub tables-preserved : goal.tables-preserved
tables-preserved c =
    subst (λ (ts : List TableAnswers). (i row : ℕ) → in_table (slice_get ts i) row ≡ None) (sym c.in_ok-push.ensures.items)
    (table_added c.tables.answers.items c.in_ok-new.field-0 c.in_ok-new.ensures c.tables.invariant)

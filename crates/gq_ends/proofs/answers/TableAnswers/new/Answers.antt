use Rattle.std.proofs.Common.{◌≡◌, ℕ, None, List, sym, subst}
use Rattle.std.specs.Prelude.{slice_get}
use Rattle.gq_ends.specs.declared.answers.PieceAnswers.{PieceAnswers}
use Rattle.gq_ends.specs.steps.Answers.{in_piece}
use Rattle.gq_ends.proofs.Answering.{piece_added}
use Rattle.gq_ends.proofs.answers.TableAnswers.new.Goals as goal

pub pieces-preserved : goal.pieces-preserved
pieces-preserved c =
    subst (λ (ps : List PieceAnswers). (i place : ℕ) → in_piece (slice_get ps i) place ≡ None) (sym c.in_ok-push.ensures.items)
    (piece_added c.pieces.pieces.items c.none.result c.none.ensures c.pieces.invariant)

use Rattle.std.proofs.Common.{◌≡◌, ℕ, None}
use Rattle.std.specs.Prelude.{slice_get}
use Rattle.gq_ends.specs.steps.Answers.{in_piece}
use Rattle.gq_ends.proofs.answers.TableAnswers.new.Given as goal

abbrev pub invariant-pieces : goal.invariant-pieces
invariant-pieces l = (i place : ℕ) → in_piece (slice_get l.pieces.items i) place ≡ None

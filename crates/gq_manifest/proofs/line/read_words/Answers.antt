use Rattle.std.proofs.Common.{arith, sym, ap, ◌∙◌}
use Rattle.std.specs.Str.{bytes_eq}
use borrow.Author.Tests.{ltb-false, ltb-true}
use Rattle.gq_manifest.proofs.WordLists.{not_node, not_rel, other_words}
use Rattle.gq_manifest.proofs.line.read_words.Goals as goal
use Rattle.gq_manifest.proofs.line.read_words.Goals.{in_default-via-then-words-lt3, in_default-via-in-len3+else-eq, in_default-via-else-words-lt3+else-words-lt4+then-words-lt6, in_default-via-in-len6+else-eq-2, in_default-via-else-words-lt3+else-words-lt4+else-words-lt6+else-words-lt7}

pub returns-in_default : goal.returns-in_default
returns-in_default c =
    elim c.in_default.branch [
      | in_default-via-then-words-lt3 w ↦ other_words c.args.words.now (λ h. omega (arith, ltb-true)) (λ h. omega (arith, ltb-true))
      | in_default-via-in-len3+else-eq w ↦ not_node c.args.words.now _ (omega arith) (ap (bytes_eq _) (sym w.as_slice.ensures) ∙ sym w.eq.ensures ∙ w.if-eq.false)
      | in_default-via-else-words-lt3+else-words-lt4+then-words-lt6 w ↦ other_words c.args.words.now (λ h. omega (arith, ltb-false)) (λ h. omega (arith, ltb-true))
      | in_default-via-in-len6+else-eq-2 w ↦
          not_rel c.args.words.now _ (omega arith) (ap (bytes_eq _) (sym w.as_slice-then-words-lt7.ensures) ∙ sym w.eq-then-words-lt7.ensures ∙ w.if-eq-2.false)
      | in_default-via-else-words-lt3+else-words-lt4+else-words-lt6+else-words-lt7 w ↦ other_words c.args.words.now (λ h. omega (arith, ltb-false)) (λ h. omega (arith, ltb-false))
    ]

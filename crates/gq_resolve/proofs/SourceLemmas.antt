-- A span that begins and ends between characters has a text.
use Rattle.std.proofs.Common.{◌≡◌, ℕ, List, Some, None, Ok, Err, Result, IfOk, ◌∙◌, ap}
use Rattle.gq_base.specs.Words.{text_of}
use Rattle.gq_base.proofs.Texts.{text_of-text}
use Rattle.gq_ast.specs.Sources.{IsWhole, source_text}
use Rattle.gq_ast.specs.declared.Span.{Span}

-- what was read is the source text
pub read_there : (text bytes read : List ℕ) (span : Span) → bytes ≡ source_text text span → Some read ≡ text_of bytes → IsWhole text span → read ≡ source_text text span
read_there text bytes read span is found whole = let there = found ∙ ap text_of is ∙ text_of-text (source_text text span) whole.utf8 in cc

-- and something was
pub never_none : {E : Type 0} (r : Result (List ℕ) E) (text : List ℕ) (span : Span) → None ≡ text_of (source_text text span) → IfOk r (λ t. IsWhole text span → t ≡ source_text text span)
never_none (Err e) text span none = tt
never_none (Ok t) text span none = λ whole. let there = none ∙ text_of-text (source_text text span) whole.utf8 in cc

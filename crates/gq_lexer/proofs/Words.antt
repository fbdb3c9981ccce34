-- A word has a character.
use Rattle.std.proofs.Common.{◌≡◌, ℕ, ◌<◌, ◌≤◌, true, cond, ◌||◌, List, [], ◌∷◌, length, Some, None, Ok, Err, Result, IfOk, IfSome, ap, ◌∙◌, arith}
use Rattle.std.specs.List.{slice_get}
use Rattle.std.specs.declared.option.Option.{Option}
use Rattle.gq_base.specs.Words.{is_word_start}
use Rattle.gq_lexer.specs.Lexemes.{word_at}
use Rattle.gq_lexer.specs.Runs.{of_size, piece, run}
use Rattle.gq_lexer.specs.declared.lexeme.Lexeme.{Lexeme}
use Rattle.gq_lexer.specs.declared.run.RunForm.TheVariants as form
use Rattle.gq_lexer.proofs.Pieces.{run_more}
use Rattle.std.specs.Char.{is_ascii_digit}

begun : (c : ℕ) (cs : List ℕ) → true ≡ is_word_start c → Some (record { size = 1; value = c }) ≡ piece form.Word (c ∷ cs)
begun c cs h = ap (λ b. cond (b || is_ascii_digit c) (of_size 1 c) None) h

pub word_some : (cs : List ℕ) (c : ℕ) → Some c ≡ slice_get cs 0 → true ≡ is_word_start c → 0 < (run form.Word cs).size
word_some [] c e h = cc
word_some (d ∷ cs) c e h =
    let same : c ≡ d = cc in
    let size = ap (λ r. r.size) (run_more form.Word (d ∷ cs) (record { size = 1; value = d }) (begun d cs (h ∙ ap is_word_start same)) (omega arith)) in
    omega (arith, size)

pub word_sizes : {E : Type 0} (result : Result (Option Lexeme) E) (cs : List ℕ) → IfOk result (λ r. r ≡ word_at cs) → IfOk result (λ r. IfSome r (λ l. l.size ≤ length cs)) → 0 < (run form.Word cs).size
    → IfOk result (λ r. IfSome r (λ l. (0 < l.size) × (l.size ≤ length cs)))
word_sizes (Err e) cs is most least = tt
word_sizes (Ok None) cs is most least = tt
word_sizes (Ok (Some l)) cs is most least = let size : l.size ≡ (run form.Word cs).size = cc in (omega (arith, size), most)

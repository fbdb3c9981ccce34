-- Runs of characters, piece by piece: words, and what stands in quotes and in comments (this project's profile).
use Rattle.std.specs.Prelude.{ℕ, zero, suc, ◌+◌, ◌-◌, ◌==◌, ◌&&◌, ◌||◌, if◌then◌else◌, List, [], ◌∷◌, take}
use Rattle.std.specs.Str.{all_scalars}
use Rattle.std.specs.declared.option.Option.{Option}
use Rattle.std.specs.declared.option.Option.TheVariants.{Some, None}
use Rattle.gq_base.specs.Words.{code, is_word_part}
use Rattle.gq_lexer.specs.Characters.{begins}
use Rattle.gq_lexer.specs.Numbers.{digits_at, value_in}
use Rattle.gq_lexer.specs.declared.run.RunForm.{RunForm}
use Rattle.gq_lexer.specs.declared.run.RunForm.TheVariants as form
use Rattle.gq_lexer.specs.declared.run.Piece.{Piece}

-- a piece of this many characters that stands for one
abbrev pub of_size : ℕ → ℕ → Option Piece
of_size size value = Some (record { size = size; value = value })

-- what the character behind a backslash stands for: itself if it is a backslash or a quote, or a control character
abbrev pub escape_value : ℕ → Option ℕ
escape_value c =
    if c == code "\\" || c == code "'" || c == code "\"" then Some c
    else if c == code "b" then Some 8
    else if c == code "f" then Some 12
    else if c == code "n" then Some (code "\n")
    else if c == code "r" then Some (code "\r")
    else if c == code "t" then Some (code "\t")
    else None

abbrev pub escape_piece : Option ℕ → Option Piece
escape_piece None = None
escape_piece (Some value) = of_size 2 value

-- an escape by a code: behind the backslash and a letter, so many hexadecimal digits that give a character
abbrev pub code_piece : ℕ → List ℕ → Option Piece
code_piece count cs =
    let value = value_in 16 (take count cs) in
    if digits_at 16 (take count cs) == count && all_scalars (value ∷ []) then of_size (count + 2) value else None

-- an escape, behind its backslash
abbrev pub escape : List ℕ → Option Piece
escape [] = None
escape (c ∷ cs) = if c == code "u" then code_piece 4 cs else if c == code "U" then code_piece 8 cs else escape_piece (escape_value c)

-- the piece that a run of this form goes on with, where it goes on: a character of a word; a character, or a backquote
-- that is doubled; a character but the quote, or an escape; a character of the line; a character before the next `*/`
abbrev pub piece : RunForm → List ℕ → Option Piece
piece f [] = None
piece form.Word (c ∷ cs) = if is_word_part c then of_size 1 c else None
piece form.Quoted (c ∷ cs) = if c == code "`" then (if begins (code "`") cs then of_size 2 c else None) else of_size 1 c
piece (form.Str quote) (c ∷ cs) = if c == quote then None else if c == code "\\" then escape cs else of_size 1 c
piece form.Line (c ∷ cs) = if c == code "\n" || c == code "\r" then None else of_size 1 c
piece form.Block (c ∷ cs) = if c == code "*" && begins (code "/") cs then None else of_size 1 c

-- a run: the characters that its pieces stand for, and how many characters they take
pub record Run : Type 0 where
  pub values : List ℕ
  pub size : ℕ

abbrev pub longer : Piece → Run → Run
longer p r = record { values = p.value ∷ r.values; size = p.size + r.size }

abbrev pub goes_on : Option Piece → (Piece → Run) → Run
goes_on None rest = record { values = []; size = 0 }
goes_on (Some p) rest = longer p (rest p)

-- the run from where so many characters of its last piece are still to come
abbrev pub run_behind : RunForm → ℕ → List ℕ → Run
run_behind f left [] = record { values = []; size = 0 }
run_behind f (suc left) (c ∷ cs) = run_behind f left cs
run_behind f zero (c ∷ cs) = goes_on (piece f (c ∷ cs)) (λ p. run_behind f (p.size - 1) cs)

-- as many pieces as stand one behind another
unfoldable pub run : RunForm → List ℕ → Run
run f cs = run_behind f 0 cs

-- Words and plain names, by the code points of their characters (this project's profile).
use Prim.Native.String.{String}
use Rattle.std.specs.Prelude.{ℕ, Bool, false, nat_le, not, ◌==◌, ◌&&◌, ◌||◌, if◌then◌else◌, List, [], ◌∷◌, codes, get_or}
use Rattle.std.specs.declared.option.Option.{Option}
use Rattle.std.specs.declared.option.Option.TheVariants.{Some, None}
use Rattle.std.specs.Char.{is_ascii_alphabetic, is_ascii_digit, is_whitespace}
use Rattle.std.specs.List.{list_all}
use Rattle.std.specs.Str.{chars, is_utf8}

-- the code point of a text's one character
abbrev pub code : String → ℕ
code text = get_or (codes text) 0 0

-- a word begins with an ASCII letter, `_`, or a character past ASCII that is no white space
abbrev pub is_word_start : ℕ → Bool
is_word_start c = is_ascii_alphabetic c || c == code "_" || (nat_le 128 c && not (is_whitespace c))

-- and goes on with these and digits
abbrev pub is_word_part : ℕ → Bool
is_word_part c = is_word_start c || is_ascii_digit c

-- the characters of a word
abbrev pub is_word : List ℕ → Bool
is_word [] = false
is_word (c ∷ cs) = is_word_start c && list_all is_word_part cs

-- bytes that are UTF-8
abbrev pub text_of : List ℕ → Option (List ℕ)
text_of bytes = if is_utf8 bytes then Some bytes else None

-- a plain name: UTF-8 whose characters are a word
abbrev pub name_of : List ℕ → Option (List ℕ)
name_of bytes = if is_utf8 bytes && is_word (chars bytes) then Some bytes else None

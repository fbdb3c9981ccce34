-- Codes of texts in a dictionary.
use Rattle.std.specs.Prelude.{ℕ, ℤ, pos, negsuc, ◌≡◌, ◌≢◌, ◌<◌, nat_lt, if◌then◌else◌, List, Option, Some, None, length, slice_index_or}
use Rattle.gq_dict.specs.Texts.{text_at}

-- the code that a cell is, below the count of the codes
abbrev pub code_in : ℕ → Option ℤ → Option ℕ
code_in count None = None
code_in count (Some (negsuc n)) = None
code_in count (Some (pos code)) = if nat_lt code count then Some code else None

-- the cell that a code is
abbrev pub cell_in : Option ℕ → Option ℤ
cell_in None = None
cell_in (Some code) = Some (pos code)

-- a dictionary has a text by a code, or it does not have it
abbrev pub IsCodeIn : List (List ℕ) → List ℕ → Option ℕ → Type 0
IsCodeIn dict text None = (code : ℕ) → code < length dict → text_at dict code ≢ text
IsCodeIn dict text (Some code) = (code < length dict) × (text_at dict code ≡ text)

-- the codes of the first texts of one dictionary in another one
abbrev pub AreCodesIn : List (List ℕ) → List (List ℕ) → List (Option ℕ) → Type 0
AreCodesIn from to codes = (code : ℕ) → code < length codes → IsCodeIn to (text_at from code) (slice_index_or codes code None)

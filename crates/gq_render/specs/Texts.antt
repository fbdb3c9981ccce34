-- The texts of replies (this project's profile).
use Rattle.std.specs.Prelude.{ℕ, true, false, List, [], ◌∷◌, ◌++◌, ◌==◌, if◌then◌else◌, codes, flat_map}
use Rattle.std.specs.Fmt.{signed_decimal}
use Rattle.gq_base.specs.Values.{Val, null, flag, int, str}

-- a byte of a name: backslash, LF, CR and tab are written with a backslash, all else is as it is
abbrev pub name_byte : ℕ → List ℕ
name_byte b =
    if b == 92 then codes "\\\\"
    else if b == 10 then codes "\\n"
    else if b == 13 then codes "\\r"
    else if b == 9 then codes "\\t"
    else b ∷ []

-- a byte of a string: the single quote is written with a backslash too
abbrev pub quoted_byte : ℕ → List ℕ
quoted_byte b = if b == 39 then codes "\\'" else name_byte b

-- a name in a header, a plan or a refusal
abbrev pub name_text : List ℕ → List ℕ
name_text name = flat_map name_byte name

-- a string: in single quotes
abbrev pub quoted_text : List ℕ → List ℕ
quoted_text text = codes "'" ++ flat_map quoted_byte text ++ codes "'"

-- the value of a property, which is no node and no relationship
abbrev pub property_text : Val → List ℕ
property_text null = codes "null"
property_text (flag true) = codes "true"
property_text (flag false) = codes "false"
property_text (int z) = signed_decimal z
property_text (str text) = quoted_text text
property_text value = []

-- a line ends with LF
abbrev pub line : List ℕ → List ℕ
line text = text ++ codes "\n"

-- a text behind a tab
abbrev pub after_tab : List ℕ → List ℕ
after_tab text = codes "\t" ++ text

-- texts with one tab between each two
abbrev pub tabbed : List (List ℕ) → List ℕ
tabbed [] = []
tabbed (text ∷ texts) = text ++ flat_map after_tab texts

-- the line of a parameter: its name and its value
abbrev pub param_line : List ℕ → Val → List ℕ
param_line name value = line (codes "param " ++ name_text name ++ codes " " ++ property_text value)

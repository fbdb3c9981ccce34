-- What the bytes of one field spell (this project's profile).
use Rattle.std.specs.Prelude.{ℕ, ◌^◌, Bool, true, false, not, ◌&&◌, ◌==◌, nat_lt, nat_le, if◌then◌else◌, ℤ, pos, neg_ℤ, List, [], drop, codes, option_map}
use Rattle.std.specs.declared.option.Option.{Option}
use Rattle.std.specs.declared.option.Option.TheVariants.{Some, None}
use Rattle.std.specs.List.{before_first, after_first}
use Rattle.std.specs.Str.{all_ascii_digits, byte, bytes_eq, str_eq_ignore_ascii_case}
use Rattle.std.specs.Str.Parse.{digits_value, starts_with_minus}
use Rattle.gq_base.specs.declared.catalog.Field.{Field}
use Rattle.gq_base.specs.declared.catalog.Kind.{Kind}
use Rattle.gq_base.specs.declared.catalog.Kind.TheVariants as kind
use Rattle.gq_base.specs.declared.cell.Cell.{Cell}
use Rattle.gq_base.specs.declared.cell.Cell.TheVariants as cell
use Rattle.gq_base.specs.Lists.{is_empty}
use Rattle.gq_base.specs.Words.{name_of, text_of}

-- ---- values

-- one decimal digit or more
abbrev pub is_numeral : List ℕ → Bool
is_numeral digits = not (is_empty digits) && all_ascii_digits digits

-- the number that digits spell, within 64 signed bits
abbrev positive : List ℕ → Option ℤ
positive digits = if is_numeral digits && nat_lt (digits_value 10 digits) (2 ^ 63) then Some (pos (digits_value 10 digits)) else None

-- the same behind a `-`
abbrev negative : List ℕ → Option ℤ
negative digits = if is_numeral digits && nat_le (digits_value 10 digits) (2 ^ 63) then Some (neg_ℤ (pos (digits_value 10 digits))) else None

-- an integer: an optional `-`, then digits, and a value of 64 signed bits
abbrev pub int_of : List ℕ → Option ℤ
int_of field = if starts_with_minus field then negative (drop 1 field) else positive field

-- a boolean: `true` or `false` in any ASCII case
abbrev pub flag_of : List ℕ → Option Bool
flag_of field = if str_eq_ignore_ascii_case field (codes "true") then Some true else if str_eq_ignore_ascii_case field (codes "false") then Some false else None

-- a cell of a kind: an empty field is null, another spells a value of the kind
abbrev pub cell_of : Kind → List ℕ → Option (Option Cell)
cell_of k [] = Some None
cell_of kind.Int field = option_map (λ z. Some (cell.Int z)) (int_of field)
cell_of kind.Str field = option_map (λ t. Some (cell.Str t)) (text_of field)
cell_of kind.Flag field = option_map (λ b. Some (cell.Flag b)) (flag_of field)

-- ---- properties

-- the word of a kind
abbrev pub kind_of : List ℕ → Option Kind
kind_of word =
    if bytes_eq word (codes "int") then Some kind.Int
    else if bytes_eq word (codes "string") then Some kind.Str
    else if bytes_eq word (codes "bool") then Some kind.Flag
    else None

-- `:`
abbrev pub is_colon : ℕ → Bool
is_colon b = b == byte ":"

-- a property of this name and this kind, where both are there
abbrev pub property : Option (List ℕ) → Option Kind → Option Field
property (Some name) (Some k) = Some (record { name = name; kind = k })
property name k = None

-- the field `name:kind` of a header
abbrev pub field_of : List ℕ → Option Field
field_of text = property (name_of (before_first is_colon text)) (kind_of (after_first is_colon text))

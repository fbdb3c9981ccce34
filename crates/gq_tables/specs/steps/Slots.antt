-- Slots for keys: which slots a key may stand in depends on the key alone.
use Rattle.std.specs.Prelude.{◌≡◌, ℕ, ◌+◌, ◌-◌, ◌*◌, ◌%◌, ◌^◌, Bool, true, false, cond, List, length, bit_xor, option_map, unsigned_abs}
use Rattle.std.specs.List.{find, fold, position, slice_range}
use Rattle.std.specs.Option.{option_map_or}
use Rattle.std.specs.declared.option.Option.{Option}
use Rattle.std.specs.declared.option.Option.TheVariants.{Some, None}
use Rattle.gq_base.specs.Valid.{same_key}
use Rattle.gq_base.specs.Values.{Val, flag, int, str, val}
use Rattle.gq_tables.specs.declared.key_index.TheConstants.{WINDOW}
use Rattle.gq_tables.specs.declared.key_index.Entry.{Entry}

-- FNV-1a of 64 bits
unfoldable pub hash_text : List ℕ → ℕ
hash_text s = fold (λ hash byte. (bit_xor hash byte * 1099511628211) % 2 ^ 64) 14695981039346656037 s

-- a number of a key
abbrev pub hash_of : Val → ℕ
hash_of (int z) = unsigned_abs z
hash_of (str s) = hash_text s
hash_of (flag b) = cond b 1 0
hash_of v = 0

-- the slot of a key, of so many slots
abbrev pub slot_of : ℕ → Val → ℕ
slot_of count v = hash_of v % count

-- the first slot of a key's window, which is early enough for the window to end within the slots
abbrev pub own_slot : List (Option Entry) → Val → ℕ
own_slot slots v = slot_of (length slots - WINDOW + 1) v

-- the slots where a key may stand, in the order in which it takes them
abbrev pub window : List (Option Entry) → Val → List (Option Entry)
window slots v = slice_range slots (own_slot slots v) (own_slot slots v + WINDOW)

-- a slot has this key
abbrev pub has_key : Val → Option Entry → Bool
has_key v None = false
has_key v (Some there) = same_key (val there.key) v

-- a slot is free or has this key
abbrev pub is_open : Val → Option Entry → Bool
is_open v None = true
is_open v (Some there) = same_key (val there.key) v

-- the place of the first slot of its window that is free or has the key
abbrev pub place_of : List (Option Entry) → Val → Option ℕ
place_of slots v = option_map (λ steps. own_slot slots v + steps) (position (is_open v) (window slots v))

-- the row in a slot
abbrev pub row_in : Option Entry → Option ℕ
row_in slot = option_map (λ there. there.row) slot

-- the row that a slot of its window has for a key, or else what stands elsewhere
abbrev pub row_or : List (Option Entry) → Val → Option ℕ → Option ℕ
row_or slots v elsewhere = option_map_or row_in (find (has_key v) (window slots v)) elsewhere

-- a key that comes to a free slot of its window first stands nowhere
abbrev pub IsSpare : List (Option Entry) → (Val → Option ℕ) → Type 0
IsSpare slots elsewhere = (v : Val) → find (is_open v) (window slots v) ≡ Some None → row_or slots v (elsewhere v) ≡ None

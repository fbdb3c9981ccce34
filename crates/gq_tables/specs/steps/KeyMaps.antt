-- Rows by their keys, in one ordered map for each kind of key.
use Rattle.std.specs.Prelude.{ℕ, Bool, false, is_some, cond}
use Rattle.std.specs.BTreeMap.{get_by}
use Rattle.std.specs.Cmp.Lexicographic.{slice_cmp}
use Rattle.std.specs.Ordering.{bool_cmp, int_cmp, nat_cmp}
use Rattle.std.specs.declared.option.Option.{Option}
use Rattle.std.specs.declared.option.Option.TheVariants.{Some, None}
use Rattle.gq_base.specs.Values.{Val, flag, int, str}
use Rattle.gq_base.specs.Valid.{same_key}
use Rattle.gq_tables.specs.declared.key_map.KeyMap.{KeyMap}

-- the row that stands at a key
abbrev pub row_at : KeyMap → Val → Option ℕ
row_at map (int z) = get_by (int_cmp z) map.ints
row_at map (str s) = get_by (λ t. slice_cmp nat_cmp s t.now) map.texts
row_at map (flag b) = get_by (bool_cmp b) map.flags
row_at map v = None

-- what stands at a key once a row was put at its own key, if it has one
abbrev pub with_row : Option Val → ℕ → Val → Option ℕ → Option ℕ
with_row None row v before = before
with_row (Some key) row v before = cond (same_key key v) (Some row) before

-- some row stands at a key, if there is a key
abbrev pub stands : (Val → Option ℕ) → Option Val → Bool
stands there None = false
stands there (Some key) = is_some (there key)

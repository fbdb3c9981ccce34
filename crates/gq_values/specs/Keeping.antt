-- What is held for rows, as values.
use Rattle.std.specs.Prelude.{◌≡◌, ℕ, ◌+◌, ◌-◌, ◌<◌, ◌≤◌, ◌*◌, min, Bool, true, false, Option, Some, None, List, [], ◌∷◌, ◌++◌, length, drop, map, Result, Ok, Err, option_map}
use Rattle.std.specs.Ordering.{is_le}
use Rattle.gq_base.specs.Values.{Val, val}
use Rattle.gq_expr.specs.declared.Fault.{Fault}
use Rattle.gq_plan.specs.Outcomes.{Row}
use Rattle.gq_plan.specs.declared.bound.Bound.{Bound}
use Rattle.gq_kept.specs.Answers.{keys_order}
use Rattle.gq_kept.specs.Forms.{HasFirst, HasClasses, Has, HasFull, IsNoFault, HasMore, HasPast, PushesHeld}
use Rattle.gq_kept.specs.Tables.{Held, HoldsRows}
use Rattle.gq_values.specs.declared.held.Rows.{Rows}
use Rattle.gq_kept.specs.declared.form.Form.{Form}
use Rattle.gq_kept.specs.declared.form.Form.TheVariants as form
use Rattle.gq_kept.specs.declared.refusal.More.{More}
use Rattle.gq_kept.specs.declared.refusal.RowRefusal.{RowRefusal}
use Rattle.gq_kept.specs.declared.refusal.RowRefusal.TheVariants as refusal

-- the last so many of a list
abbrev pub last_of : {X : Type 0} → ℕ → List X → List X
last_of k xs = drop (length xs - k) xs

-- the keys of the bar
abbrev pub bar_of : Rows → Option (List Val)
bar_of v = option_map (λ bar. map val bar.items) v.bar

-- what is held, as values
abbrev pub held_of : Rows → Held
held_of v = record {
  columns = map val v.columns.items;
  keys = map val v.keys.items;
  count = v.count;
  classes = v.seen;
  bar = bar_of v;
}

-- the values that are held are those of these rows
abbrev pub HoldsList : ℕ → ℕ → List Row → Rows → Type 0
HoldsList c k rows v = HoldsRows c k rows (held_of v)

abbrev pub HoldsOf : Bound → List Row → Rows → Type 0
HoldsOf b rows v = HoldsList (length b.columns) (length b.keys) rows v

-- a row was added, for whatever rows were held
pub record Added (c k : ℕ) (o : Option (Result Row Fault)) (old new : Rows) : Type 0 where
  pub row : Row
  pub is : o ≡ Some (Ok row)
  pub holds : (rows : List Row) → HoldsList c k rows old → HoldsList c k (rows ++ row ∷ []) new
  pub count : new.count ≡ old.count + 1
  pub bar : new.bar ≡ old.bar

-- no row was added
pub record Left (c k : ℕ) (o : Option (Result Row Fault)) (old new : Rows) : Type 0 where
  pub is : o ≡ None
  pub holds : (rows : List Row) → HoldsList c k rows old → HoldsList c k rows new
  pub count : new.count ≡ old.count
  pub bar : new.bar ≡ old.bar

-- what a call tells that adds a row, unless the row is dropped
abbrev pub Adds : ℕ → ℕ → Option (Result Row Fault) → Bool → ℕ → Rows → Rows → Result Bool RowRefusal → Type 0
Adds c k o may limit old new (Ok true) = Added c k o old new × (may ≡ true)
Adds c k o may limit old new (Ok false) = Left c k o old new
Adds c k o may limit old new (Err (refusal.Fault f)) = o ≡ Some (Err f)
Adds c k o may limit old new (Err (refusal.TooManyRows l)) = (l ≡ limit) × (may ≡ false) × ((row : Row) × (o ≡ Some (Ok row)))
Adds c k o may limit old new (Err (refusal.Memory why)) = Unit {0}

-- keys that come behind those of the bar, or level with them
abbrev pub IsBehind : Bound → Option (List Val) → List Val → Type 0
IsBehind b None keys = ⊥
IsBehind b (Some bar) keys = is_le (keys_order b.keys bar keys) ≡ true

-- the outcome is a row that comes behind the bar, or level with it
pub record ComesBehind (b : Bound) (o : Option (Result Row Fault)) (v : Rows) : Type 0 where
  pub row : Row
  pub is : o ≡ Some (Ok row)
  pub behind : IsBehind b (bar_of v) row.keys

-- another row may come
abbrev pub IsOpen : Form → ℕ → Rows → Type 0
IsOpen (form.First n) most v = (v.count ≤ most) × (v.count < n)
IsOpen f most v = v.count ≤ 2 * most

-- ---- what is held by the form of a query

abbrev pub KeepsFirst : Bound → ℕ → ℕ → List Row → Rows → Type 0
KeepsFirst b n most rows v = HasFirst b n most rows (held_of v)

abbrev pub KeepsClasses : Bound → ℕ → List Row → Rows → Type 0
KeepsClasses b most rows v = HasClasses b most rows (held_of v)

abbrev pub Keeps : Form → Bound → ℕ → List Row → Rows → Type 0
Keeps f b most rows v = Has f b most rows (held_of v)

abbrev pub IsFull : Form → Rows → Type 0
IsFull f v = HasFull f (held_of v)

abbrev pub KeepsMore : Form → Bound → ℕ → Option (Result Row Fault) → Rows → Rows → Type 0
KeepsMore f b most o old new = HasMore f b most o (held_of old) (held_of new)

abbrev pub IsPast : Form → Bound → ℕ → Row → Rows → Type 0
IsPast f b most row old = HasPast f b most row (held_of old)

abbrev pub PushesBy : Form → Bound → ℕ → Option (Result Row Fault) → Rows → Rows → Result More RowRefusal → Type 0
PushesBy f b most o old new r = PushesHeld f b most o (held_of old) (held_of new) r

-- a row was added to those that come first, for whatever such rows were held
pub record AddedFirst (b : Bound) (n most : ℕ) (o : Option (Result Row Fault)) (old new : Rows) : Type 0 where
  pub row : Row
  pub is : o ≡ Some (Ok row)
  pub holds : (rows : List Row) → HoldsOf b rows old → HoldsOf b (rows ++ row ∷ []) new
  pub count : new.count ≡ old.count + 1
  pub bar : new.bar ≡ old.bar
  pub may : min (old.count + 1) n ≤ most

-- what a call tells that adds a row to those that come first, unless it is dropped or comes behind them
abbrev pub AddsFirst : Bound → ℕ → ℕ → Option (Result Row Fault) → Rows → Rows → Result Bool RowRefusal → Type 0
AddsFirst b n most o old new (Ok true) = AddedFirst b n most o old new
AddsFirst b n most o old new (Ok false) = IsNoFault o × KeepsMore (form.Top n) b most o old new
AddsFirst b n most o old new (Err refused) = PushesBy (form.Top n) b most o old new (Err refused)

-- What is held for rows, by the form of the query.
use Rattle.std.specs.Prelude.{◌≡◌, ℕ, ◌-◌, ◌^◌, ◌<◌, ◌≤◌, min, Bool, true, false, Option, Some, None, List, [], ◌∷◌, ◌++◌, length, Result, Ok, Err}
use Rattle.gq_base.specs.Lists.{is_empty}
use Rattle.gq_expr.specs.declared.Fault.{Fault}
use Rattle.gq_plan.specs.Outcomes.{Row}
use Rattle.gq_plan.specs.declared.bound.Bound.{Bound}
use Rattle.gq_kept.specs.Answers.{classes, most_listed}
use Rattle.gq_kept.specs.Tables.{Held, HoldsClasses, HoldsFirst, HoldsRows}
use Rattle.gq_kept.specs.declared.form.Form.{Form}
use Rattle.gq_kept.specs.declared.form.Form.TheVariants as form
use Rattle.gq_kept.specs.declared.refusal.More.{More}
use Rattle.gq_kept.specs.declared.refusal.More.TheVariants as more
use Rattle.gq_kept.specs.declared.refusal.RowRefusal.{RowRefusal}
use Rattle.gq_kept.specs.declared.refusal.RowRefusal.TheVariants as refusal

-- no LIMIT, or one without keys that no table reaches
abbrev pub IsNeverReached : Bool → Option ℕ → Type 0
IsNeverReached keyless None = Unit {0}
IsNeverReached keyless (Some n) = (keyless ≡ true) × (2 ^ 64 ≤ n)

-- SKIP plus LIMIT, as far as it fits 64 bits
abbrev pub IsMost : Option ℕ → ℕ → Type 0
IsMost None m = ⊥
IsMost (Some n) m = m ≡ min n (2 ^ 64 - 1)

abbrev pub HasForm : Bound → Form → Type 0
HasForm b form.All = (b.distinct ≡ false) × IsNeverReached (is_empty b.keys) (most_listed b)
HasForm b (form.First n) = (b.distinct ≡ false) × (is_empty b.keys ≡ true) × (most_listed b ≡ Some n)
HasForm b (form.Top m) = (b.distinct ≡ false) × (is_empty b.keys ≡ false) × IsMost (most_listed b) m
HasForm b form.Classes = b.distinct ≡ true

-- the kept number of the rows that are looked at
abbrev pub kept_by : Form → List Row → ℕ
kept_by form.All rows = length rows
kept_by (form.First n) rows = length rows
kept_by (form.Top n) rows = min (length rows) n
kept_by form.Classes rows = length (classes rows)

-- those that come first, and not too many rows
pub record HasFirst (b : Bound) (n most : ℕ) (rows : List Row) (h : Held) : Type 0 where
  pub holds : HoldsFirst b n rows h
  pub few : min (length rows) n ≤ most

-- the first row of each class, and not too many classes
pub record HasClasses (b : Bound) (most : ℕ) (rows : List Row) (h : Held) : Type 0 where
  pub holds : HoldsClasses b rows h
  pub few : length (classes rows) ≤ most

-- what is held for the rows that are looked at
abbrev pub Has : Form → Bound → ℕ → List Row → Held → Type 0
Has form.All b most rows h = HoldsRows (length b.columns) (length b.keys) rows h × (length rows ≤ most)
Has (form.First n) b most rows h = HoldsRows (length b.columns) (length b.keys) rows h × (length rows ≤ most) × (length rows ≤ n)
Has (form.Top n) b most rows h = HasFirst b n most rows h
Has form.Classes b most rows h = HasClasses b most rows h

-- as many rows are held as are looked at
abbrev pub HasFull : Form → Held → Type 0
HasFull (form.First n) h = n ≤ h.count
HasFull f h = ⊥

-- the rows with one more outcome
abbrev pub more_rows : List Row → Option (Result Row Fault) → List Row
more_rows rows (Some (Ok row)) = rows ++ row ∷ []
more_rows rows o = rows

abbrev pub IsNoFault : Option (Result Row Fault) → Type 0
IsNoFault (Some (Err f)) = ⊥
IsNoFault o = Unit {0}

-- the answer tells whether the table is full
abbrev pub TellsFull : Form → More → Held → Type 0
TellsFull f more.Go h = HasFull f h → ⊥
TellsFull f more.Enough h = HasFull f h

-- for whatever rows are looked at, what is held for them is held for them with one more outcome
abbrev pub HasMore : Form → Bound → ℕ → Option (Result Row Fault) → Held → Held → Type 0
HasMore f b most o old new = (rows : List Row) → Has f b most rows old → Has f b most (more_rows rows o) new

-- with this row too many are kept
abbrev pub HasPast : Form → Bound → ℕ → Row → Held → Type 0
HasPast f b most row old = (rows : List Row) → Has f b most rows old → most < kept_by f (rows ++ row ∷ [])

-- what a push does to what is held
abbrev pub PushesHeld : Form → Bound → ℕ → Option (Result Row Fault) → Held → Held → Result More RowRefusal → Type 0
PushesHeld f b most o old new (Ok m) = IsNoFault o × HasMore f b most o old new × TellsFull f m new
PushesHeld f b most o old new (Err (refusal.Fault fault)) = o ≡ Some (Err fault)
PushesHeld f b most o old new (Err (refusal.TooManyRows l)) = (l ≡ most) × ((row : Row) × (o ≡ Some (Ok row)) × HasPast f b most row old)
PushesHeld f b most o old new (Err (refusal.Memory why)) = Unit {0}

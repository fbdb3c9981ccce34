-- Records of relationships whose ends are found before it is their turn, and the relationships that
-- they give in their turn.
use Rattle.std.specs.Prelude.{◌≡◌, ℕ, ℤ, ◌+◌, Bool, true, false, List, map, length, get_or, ◌<◌, Ok}
use Rattle.std.specs.Prelude.{Err, option_map}
use Rattle.std.specs.declared.option.Option.{Option}
use Rattle.std.specs.declared.option.Option.TheVariants.{Some, None}
use Rattle.std.specs.declared.result.Result.{Result}
use Rattle.csv.specs.Records.{field_at, fields_of}
use Rattle.gq_base.specs.Plain.{cell_val}
use Rattle.gq_base.specs.Valid.{limits_sources, limits_targets}
use Rattle.gq_base.specs.Values.{Val, int}
use Rattle.gq_base.specs.declared.catalog.Kind.{Kind}
use Rattle.gq_base.specs.declared.cell.PlainRel.{PlainRel}
use Rattle.gq_fields.specs.Fields.{cell_of}
use Rattle.gq_tables.specs.Answers.{seen_end}
use Rattle.gq_tables.specs.Rels.{KeyTable, has_source, has_target, read_end, read_rel, take_rels}
use Rattle.gq_tables.specs.steps.Sides.{Marks}
use Rattle.gq_tables.specs.declared.batch.Ends.{Ends}
use Rattle.gq_tables.specs.declared.batch.FoundEnd.{FoundEnd}
use Rattle.gq_tables.specs.declared.batch.FoundEnd.TheVariants.{Bad, Missing, Row}
use Rattle.gq_tables.specs.declared.batch.PendingRel.{PendingRel}
use Rattle.gq_tables.specs.declared.refusal.TableRefusal.{TableRefusal}
use Rattle.gq_tables.specs.declared.refusal.TableRefusal.TheVariants as refusal
use Rattle.gq_tables.specs.declared.rels.RelForm.{RelForm}
use Rattle.gq_tables.specs.declared.sides.Sides.{Sides}

-- ---- ends

-- the node tables at the ends of a relationship table
abbrev pub sources_of : Ends → KeyTable
sources_of ends = seen_end ends.sources.now.end

abbrev pub targets_of : Ends → KeyTable
targets_of ends = seen_end ends.targets.now.end

-- what a found end means in this column of the record of this number
abbrev pub row_meant : ℕ → ℕ → FoundEnd → Result ℕ TableRefusal
row_meant number column Bad = Err (refusal.BadField number column)
row_meant number column Missing = Err (refusal.NoSuchNode number column)
row_meant number column (Row row) = Ok row

-- the key that a text spells, where it spells one of the kind: null where it is empty
abbrev pub spelled : Kind → List ℕ → Option Val
spelled kind text = option_map cell_val (cell_of kind text)

-- a text spells this integer as its key; where none was read, nothing is said
abbrev pub IsSpelled : Kind → List ℕ → Option ℤ → Type 0
IsSpelled kind text None = Unit {0}
IsSpelled kind text (Some key) = spelled kind text ≡ Some (int key)

-- a found end is what this text gives, in whichever record and column it stands
abbrev pub IsEnd : KeyTable → List ℕ → FoundEnd → Type 0
IsEnd table text end = (number column : ℕ)
    → row_meant number column end ≡ read_end number column table text

-- the ends of a record are those that its first two texts give
pub record HasEnds (sources targets : KeyTable) (pending : PendingRel) : Type 0 where
  pub source : (text : List ℕ) → field_at (fields_of pending.texts) 0 ≡ Some text
      → IsEnd sources text pending.source
  pub target : (text : List ℕ) → field_at (fields_of pending.texts) 1 ≡ Some text
      → IsEnd targets text pending.target

-- the integers that were read of a record are the keys that its first two texts spell
pub record HasKeys (sources targets : Kind) (pending : PendingRel) : Type 0 where
  pub source : (text : List ℕ) → field_at (fields_of pending.texts) 0 ≡ Some text
      → IsSpelled sources text pending.source_key
  pub target : (text : List ℕ) → field_at (fields_of pending.texts) 1 ≡ Some text
      → IsSpelled targets text pending.target_key

-- ---- records

-- the texts of these records
abbrev pub texts_of : List PendingRel → List (List (List ℕ))
texts_of batch = map (λ pending. fields_of pending.texts) batch

-- the relationship that a record gives after so many relationships
abbrev pub rel_by : RelForm → ℕ → List (List ℕ) → Result PlainRel TableRefusal
rel_by form count texts =
    read_rel (sources_of form.ends) (targets_of form.ends) form.limit
    (length form.fields.now + 2) form.fields.now (count + 2) count texts

-- these relationships and those that the records behind them give, up to the first record that is
-- refused
abbrev pub rels_by : RelForm → List PlainRel → List (List (List ℕ))
    → Result (List PlainRel) TableRefusal
rels_by form rels records =
    take_rels (sources_of form.ends) (targets_of form.ends) form.limit
    (length form.fields.now + 2) form.fields.now form.mult (length rels + 2) rels records

-- ---- marks

-- the marks of a side tell of each of its vertices whether it has a relationship
pub record Tells (single : Bool) (count : ℕ) (used : ℕ → Bool) (side : Marks) : Type 0 where
  pub kind : side.is_single ≡ single
  pub size : single ≡ true → length side.marks ≡ count
  pub told : single ≡ true → (row : ℕ) → row < count → get_or side.marks row false ≡ used row

-- the vertices that these relationships have as their ends are marked, on each side where a vertex
-- may have but one
pub record AreMarked (form : RelForm) (rels : List PlainRel) (sides : Sides) : Type 0 where
  pub sources : Tells (limits_sources form.mult) (length (sources_of form.ends).rows)
      (has_source rels) sides.sources
  pub targets : Tells (limits_targets form.mult) (length (targets_of form.ends).rows)
      (has_target rels) sides.targets

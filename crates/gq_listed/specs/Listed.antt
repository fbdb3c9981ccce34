-- Rows that are held as cells, of a query without DISTINCT and without ORDER BY.
use Rattle.std.specs.Prelude.{◌≡◌, ◌+◌, ◌<◌, ◌≤◌, ◌^◌, ◌&&◌, not, Bool, true, false, Option, Some, None, Result, Ok, Err, List, [], ◌++◌, length, if◌then◌else◌}
use Rattle.std.specs.List.{All, AllZip}
use Rattle.gq_base.specs.Lists.{is_empty}
use Rattle.gq_base.specs.Plain.{Graph}
use Rattle.gq_base.specs.Values.{Val}
use Rattle.gq_cells.specs.declared.source.Source.{Source}
use Rattle.gq_eval.specs.Asked.{Asked, asked_of}
use Rattle.gq_expr.specs.Operators.{Outcome}
use Rattle.gq_expr.specs.Reading as reading
use Rattle.gq_expr.specs.declared.Fault.{Fault}
use Rattle.gq_plan.specs.Outcomes.{Row}
use Rattle.gq_plan.specs.declared.bound.Bound.{Bound}
use Rattle.gq_kept.specs.Tables.{Held, Table, outcome_numbered}
use Rattle.gq_listed.specs.Finding.{IsFinder}
use Rattle.gq_project.specs.Judged.{values_after}
use Rattle.gq_kept.specs.Forms.{HasForm}
use Rattle.gq_project.specs.Reading.{IsReading}
use Rattle.gq_listed.specs.declared.finder.Finder.{Finder}
use Rattle.gq_kept.specs.declared.form.Form.{Form}
use Rattle.gq_kept.specs.declared.form.Form.TheVariants as form
use Rattle.gq_listed.specs.declared.listed.Asked as question
use Rattle.gq_listed.specs.declared.listed.Listed.{Listed}
use Rattle.gq_kept.specs.declared.refusal.RowRefusal.{RowRefusal}
use Rattle.gq_kept.specs.declared.refusal.RowRefusal.TheVariants as refusal

-- the rows are listed as they come
abbrev pub is_listing : Bound → Bool
is_listing b = not b.distinct && is_empty b.keys

-- what is held as cells
abbrev pub held_in : Listed → Held
held_in l = record { columns = l.cells.values; keys = []; count = l.count; classes = []; bar = None }

-- a table of what is asked that holds it
abbrev pub table_in : question.Asked → Listed → Table
table_in q l = record { bound = q.bound.now; most = q.limit; alternative = None; graph = q.graph.now; held = held_in l; pushed = 0 }

-- the outcome of what expressions read
abbrev pub outcome_in : question.Asked → reading.Assignment → Option (Result Row Fault)
outcome_in q here = outcome_numbered q.graph.now q.bound.now q.late.now here

-- none, where it is not admitted
abbrev pub outcome_within : (reading.Assignment → Bool) → question.Asked → reading.Assignment → Option (Result Row Fault)
outcome_within admitted q here = if admitted here then outcome_in q here else None

abbrev pub IsPlain : Form → Type 0
IsPlain form.All = Unit {0}
IsPlain (form.First n) = Unit {0}
IsPlain f = ⊥

-- a query whose rows are listed as they come, and its form
pub record IsListing (q : question.Asked) : Type 0 where
  pub keyless : q.bound.now.keys ≡ []
  pub form : HasForm q.bound.now q.form
  pub plain : IsPlain q.form
  pub small : q.limit < 2 ^ 32

-- these expressions over a graph, each with what finds its values
abbrev pub AreFinders : List Source → List Asked → List Finder → Type 0
AreFinders sources asks fs = AllZip (IsFinder sources) asks fs

-- they are over this graph
abbrev pub AreOver : Graph → List Asked → Type 0
AreOver g asks = All (λ (a : Asked). a.graph ≡ g) asks

abbrev pub Finding : question.Asked → List Source → List Finder → Type 0
Finding q sources fs = AreFinders sources (asked_of q.graph.now q.bound.now.columns) fs

-- the columns and the conjuncts are made ready
abbrev pub IsAsked : question.Asked → Type 0
IsAsked q = IsReading q.graph.now q.bound.now q.reading.now

-- what a call tells that appends the values of expressions
abbrev pub PutsRow : List Outcome → List Val → List Val → Result (Unit {0}) RowRefusal → Type 0
PutsRow os old new (Ok _) = values_after old os ≡ Ok new
PutsRow os old new (Err (refusal.Fault f)) = values_after old os ≡ Err f
PutsRow os old new (Err (refusal.TooManyRows limit)) = ⊥
PutsRow os old new (Err (refusal.Memory why)) = Unit {0}

-- a row was added, for whatever rows were held
pub record AddedIn (q : question.Asked) (o : Option (Result Row Fault)) (old new : Listed) : Type 0 where
  pub row : Row
  pub is : o ≡ Some (Ok row)
  pub columns : new.cells.values ≡ old.cells.values ++ row.columns
  pub keys : row.keys ≡ []
  pub wide : length row.columns ≡ length q.bound.now.columns
  pub count : new.count ≡ old.count + 1
  pub room : old.count < q.limit

-- what a call tells that adds a row, unless the row is dropped
abbrev pub AddsIn : question.Asked → Option (Result Row Fault) → Listed → Listed → Result Bool RowRefusal → Type 0
AddsIn q o old new (Ok true) = AddedIn q o old new
AddsIn q o old new (Ok false) = (o ≡ None) × (new ≡ old)
AddsIn q o old new (Err (refusal.Fault f)) = o ≡ Some (Err f)
AddsIn q o old new (Err (refusal.TooManyRows l)) = (l ≡ q.limit) × (q.limit ≤ old.count) × ((row : Row) × (o ≡ Some (Ok row)))
AddsIn q o old new (Err (refusal.Memory why)) = Unit {0}

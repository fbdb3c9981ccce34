-- What it means that the number of a column's variable stands for the column's value.
use Rattle.std.specs.Prelude.{◌≡◌, ℕ, ◌<◌, Some, None, Result, Ok, Err, List, [], ◌∷◌, ◌++◌, slice_get}
use Rattle.gq_base.specs.Plain.{Graph}
use Rattle.gq_base.specs.Values.{Val, null}
use Rattle.gq_base.specs.declared.value.Value.TheVariants as value
use Rattle.gq_store.specs.Places.{number_at}
use Rattle.gq_cells.specs.Numbers.{IsNumber, source_val}
use Rattle.gq_cells.specs.declared.source.Source.{Source}
use Rattle.gq_cells.specs.declared.source.Source.TheVariants as source
use Rattle.gq_eval.specs.Asked.{Asked}
use Rattle.gq_expr.specs.Meaning.{meaning}
use Rattle.gq_expr.specs.Operators.{Outcome}
use Rattle.gq_expr.specs.Reading as reading
use Rattle.gq_expr.specs.declared.expr.Expr.{Expr}
use Rattle.gq_listed.specs.declared.finder.Finder.{Finder}
use Rattle.gq_listed.specs.declared.finder.Found.{Found}
use Rattle.gq_listed.specs.declared.finder.Found.TheVariants as found
use Rattle.gq_listed.specs.declared.finder.Range.{Range}
use Rattle.gq_listed.specs.declared.finder.Way.{Way}
use Rattle.gq_listed.specs.declared.finder.Way.TheVariants as way
use Rattle.gq_kept.specs.declared.refusal.RowRefusal.{RowRefusal}
use Rattle.gq_kept.specs.declared.refusal.RowRefusal.TheVariants as refusal

-- a source that stood at a place stands there still
abbrev pub Extends : List Source → List Source → Type 0
Extends old new = (place : ℕ) (s : Source) → slice_get old place ≡ Some s → slice_get new place ≡ Some s

-- a node variable has this row of the table, below the count
pub record HasRow (r : Range) (here : reading.Assignment) (row : ℕ) : Type 0 where
  pub below : row < r.count
  pub is : here.nodes r.variable ≡ Some (record { table = r.table; row = row })

-- a relationship variable has this load number of the table
abbrev pub HasLoad : Range → reading.Assignment → ℕ → Type 0
HasLoad r here number = here.rels r.variable ≡ Some (record { table = r.table; row = number })

-- its relationship is at this place of the table
pub record IsPlaced (g : Graph) (r : Range) (here : reading.Assignment) (place : ℕ) : Type 0 where
  pub number : ℕ
  pub at : number_at g r.table place ≡ Some number
  pub is : HasLoad r here number

-- and the place is below the count
pub record HasPlace (g : Graph) (r : Range) (here : reading.Assignment) (place : ℕ) : Type 0 where
  pub below : place < r.count
  pub placed : IsPlaced g r here place

abbrev pub HasNumber : Graph → Way → reading.Assignment → ℕ → Type 0
HasNumber g way.Value here n = ⊥
HasNumber g (way.Node r) here n = HasRow r here n
HasNumber g (way.Rel r) here n = HasPlace g r here n

-- a node variable has this row of the table
abbrev pub HasNode : Way → reading.Assignment → ℕ → Type 0
HasNode (way.Node r) here n = here.nodes r.variable ≡ Some (record { table = r.table; row = n })
HasNode w here n = Unit {0}

-- the variable has nothing
abbrev pub HasNothing : Way → reading.Assignment → Type 0
HasNothing way.Value here = ⊥
HasNothing (way.Node r) here = here.nodes r.variable ≡ None
HasNothing (way.Rel r) here = here.rels r.variable ≡ None

abbrev pub IsFound : Graph → Way → reading.Assignment → Found → Type 0
IsFound g w here (found.Number n) = HasNumber g w here n
IsFound g w here found.Null = HasNothing w here
IsFound g w here found.Other = Unit {0}

-- the source at the place has each number that may be found, and it stands for the value of the expression
pub record Finds (g : Graph) (sources : List Source) (place : ℕ) (e : Expr) (Has : reading.Assignment → ℕ → Type 0) : Type 0 where
  pub source : Source
  pub at : slice_get sources place ≡ Some source
  pub number : (here : reading.Assignment) (n : ℕ) → Has here n → IsNumber (Some source) n
  pub means : (here : reading.Assignment) (n : ℕ) → Has here n → meaning g here e ≡ Ok (source_val source n)

abbrev pub FindsBy : Graph → List Source → ℕ → Expr → Way → Type 0
FindsBy g sources place e way.Value = Unit {0}
FindsBy g sources place e (way.Node r) = Finds g sources place e (HasRow r)
FindsBy g sources place e (way.Rel r) = Finds g sources place e (HasPlace g r)

-- the source of null stands at the place
abbrev pub IsNullAt : List Source → ℕ → Type 0
IsNullAt sources place = slice_get sources place ≡ Some (source.Value value.Null)

-- the numbers that are found stand for the value of the expression over the graph, which is null where the variable has nothing
pub record IsFinder (sources : List Source) (a : Asked) (f : Finder) : Type 0 where
  pub finds : FindsBy a.graph sources f.source a.expr f.way
  pub none : IsNullAt sources f.null
  pub nothing : (here : reading.Assignment) → HasNothing f.way here → meaning a.graph here a.expr ≡ Ok null

-- what a call tells that appends the value of an expression
abbrev pub PutsColumn : Outcome → List Val → List Val → Result (Unit {0}) RowRefusal → Type 0
PutsColumn o old new (Ok _) = (v : Val) × (o ≡ Ok v) × (new ≡ old ++ v ∷ [])
PutsColumn o old new (Err (refusal.Fault f)) = o ≡ Err f
PutsColumn o old new (Err (refusal.TooManyRows limit)) = ⊥
PutsColumn o old new (Err (refusal.Memory why)) = Unit {0}

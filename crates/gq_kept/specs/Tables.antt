-- What a table of rows holds, and the listings of outcomes that it stands for.
use Rattle.std.specs.Prelude.{◌≡◌, ℕ, ◌*◌, ◌<◌, ◌≤◌, nat_le, Bool, true, false, Option, Some, None, List, ◌++◌, length, map, flat_map, slice_get, count_by, Result, Ok, Err, if◌then◌else◌}
use Rattle.std.specs.Ordering.{is_le}
use Rattle.std.specs.List.{All, Contains}
use Rattle.gq_base.specs.Lists.{is_empty}
use Rattle.gq_base.specs.Plain.{Graph}
use Rattle.gq_base.specs.Values.{Val}
use Rattle.gq_expr.specs.Reading as reading
use Rattle.gq_expr.specs.declared.Fault.{Fault}
use Rattle.gq_plan.specs.Meaning.{found}
use Rattle.gq_plan.specs.Outcomes.{Row, outcome_by}
use Rattle.gq_plan.specs.declared.bound.Bound.{Bound}
use Rattle.gq_plan.specs.declared.bound.NamedExpr.{NamedExpr}
use Rattle.gq_plan.specs.declared.typed.Typed.{Typed}
use Rattle.gq_kept.specs.Answers.{Answers, by_keys, classes, cut_of, kept, keys_order, looked_at, most_listed, rows_in}
use Rattle.gq_kept.specs.Parts.{Part}
use Rattle.gq_kept.specs.declared.refusal.More.{More}
use Rattle.gq_kept.specs.declared.refusal.More.TheVariants as more
use Rattle.gq_kept.specs.declared.refusal.RowRefusal.{RowRefusal}
use Rattle.gq_kept.specs.declared.refusal.RowRefusal.TheVariants as refusal

-- the values that a table holds: those of columns and those of keys, one row after another, and how many rows they are; with
-- DISTINCT the columns stand among the classes, those of one row each; with ORDER BY and LIMIT, keys that are a bar
pub record Held : Type 0 where
  pub columns : List Val
  pub keys : List Val
  pub count : ℕ
  pub classes : List (List Val)
  pub bar : Option (List Val)

-- a table of rows: the query, the most rows that are kept, the alternative that was started, the graph, what is held, and how many
-- chunks with a row were pushed
pub record Table : Type 0 where
  pub bound : Bound
  pub most : ℕ
  pub alternative : Option Typed
  pub graph : Graph
  pub held : Held
  pub pushed : ℕ

-- ---- which rows are held

-- so many columns and so many keys
abbrev pub IsSized : ℕ → ℕ → Row → Type 0
IsSized c k row = (length row.columns ≡ c) × (length row.keys ≡ k)

-- these rows of so many columns and keys
pub record HoldsRows (c k : ℕ) (rows : List Row) (h : Held) : Type 0 where
  pub columns : h.columns ≡ flat_map (λ (r : Row). r.columns) rows
  pub keys : h.keys ≡ flat_map (λ (r : Row). r.keys) rows
  pub count : h.count ≡ length rows
  pub sized : All (IsSized c k) rows

-- at least n rows do not come after the bar, where there is one
abbrev pub HasBar : Bound → ℕ → List Row → Option (List Val) → Type 0
HasBar b n rows None = Unit {0}
HasBar b n rows (Some bar) = n ≤ count_by (λ (r : Row). is_le (keys_order b.keys r.keys bar)) rows

-- with ORDER BY and LIMIT, at most twice SKIP plus LIMIT of the rows, among them all that come first
pub record HoldsFirst (b : Bound) (n : ℕ) (rows : List Row) (h : Held) : Type 0 where
  pub list : List Row
  pub holds : HoldsRows (length b.columns) (length b.keys) list h
  pub part : Part (by_keys b) n rows list
  pub short : length list ≤ 2 * n
  pub bar : HasBar b n list h.bar

-- with DISTINCT, the first row of each class
pub record HoldsClasses (b : Bound) (rows : List Row) (h : Held) : Type 0 where
  pub columns : h.classes ≡ map (λ (r : Row). r.columns) (classes rows)
  pub keys : h.keys ≡ flat_map (λ (r : Row). r.keys) (classes rows)
  pub count : h.count ≡ length (classes rows)
  pub sized : All (IsSized (length b.columns) (length b.keys)) (classes rows)

-- what is held of rows that are looked at, by whether there is DISTINCT, whether there are no keys, and SKIP plus LIMIT
abbrev pub HoldsAs : Bool → Bool → Option ℕ → Bound → List Row → Held → Type 0
HoldsAs true keyless most b rows h = HoldsClasses b rows h
HoldsAs false false (Some n) b rows h = HoldsFirst b n rows h
HoldsAs false keyless most b rows h = HoldsRows (length b.columns) (length b.keys) rows h

abbrev pub Holds : Bound → List Row → Held → Type 0
Holds b rows h = HoldsAs b.distinct (is_empty b.keys) (most_listed b) b rows h

-- ---- which listings a table stands for

-- no outcome that is looked at is a fault, not too many rows are kept, and what is held is what the query needs of them
pub record StandsFor (b : Bound) (most : ℕ) (outcomes : List (Result Row Fault)) (h : Held) : Type 0 where
  pub rows : List Row
  pub looked : looked_at b outcomes ≡ map Ok rows
  pub few : kept b rows ≤ most
  pub holds : Holds b rows h

abbrev pub StandsForSome : Table → Type 0
StandsForSome t = (outcomes : List (Result Row Fault)) × StandsFor t.bound t.most outcomes t.held

-- as many rows are held as are looked at
abbrev pub is_full : Option ℕ → Held → Bool
is_full None h = false
is_full (Some n) h = nat_le n h.count

abbrev pub is_full_table : Table → Bool
is_full_table t = is_full (cut_of t.bound) t.held

-- the query, the most rows, the alternative and the graph stay
pub record IsSameQuery (old new : Table) : Type 0 where
  pub bound : new.bound ≡ old.bound
  pub most : new.most ≡ old.most
  pub alternative : new.alternative ≡ old.alternative
  pub graph : new.graph ≡ old.graph

-- ---- one more outcome

-- the conjuncts with these numbers
abbrev pub numbered : List NamedExpr → List ℕ → List NamedExpr
numbered conjuncts is = flat_map (λ i. found (slice_get conjuncts i)) is

-- the outcome of what expressions read: of the conjuncts only those with these numbers are looked at
abbrev pub outcome_numbered : Graph → Bound → List ℕ → reading.Assignment → Option (Result Row Fault)
outcome_numbered g b late here = outcome_by g b (numbered b.conjuncts late) here

-- the same of the late ones of an alternative
abbrev pub outcome_read : Graph → Bound → Typed → reading.Assignment → Option (Result Row Fault)
outcome_read g b y here = outcome_numbered g b y.late here

-- none, where it is not admitted
abbrev pub outcome_admitted : (reading.Assignment → Bool) → Graph → Bound → Typed → reading.Assignment → Option (Result Row Fault)
outcome_admitted admitted g b y here = if admitted here then outcome_read g b y here else None

-- a table stands for each listing that it stood for, followed by the outcome
abbrev pub Takes : Option (Result Row Fault) → Table → Table → Type 0
Takes o old new =
    (outcomes : List (Result Row Fault)) → StandsFor old.bound old.most outcomes old.held
    → StandsFor old.bound old.most (outcomes ++ found o) new.held

-- this fault is looked at, with the outcome
abbrev pub IsFaulty : Option (Result Row Fault) → Table → Fault → Type 0
IsFaulty o old fault =
    (outcomes : List (Result Row Fault)) → StandsFor old.bound old.most outcomes old.held
    → Contains (looked_at old.bound (outcomes ++ found o)) (Err fault)

-- too many rows would be kept with the outcome
abbrev pub IsOver : Option (Result Row Fault) → Table → Type 0
IsOver o old =
    (outcomes : List (Result Row Fault)) → StandsFor old.bound old.most outcomes old.held
    → old.most < kept old.bound (rows_in (outcomes ++ found o))

-- what a table answers to an outcome; only want of memory may come at any time
abbrev pub Pushes : Option (Result Row Fault) → Table → Table → Result More RowRefusal → Type 0
Pushes o old new (Ok more.Go) = Takes o old new × (is_full_table new ≡ false)
Pushes o old new (Ok more.Enough) = Takes o old new × (is_full_table new ≡ true)
Pushes o old new (Err (refusal.Fault fault)) = (o ≡ Some (Err fault)) × IsFaulty o old fault
Pushes o old new (Err (refusal.TooManyRows limit)) = (limit ≡ old.most) × IsOver o old
Pushes o old new (Err (refusal.Memory why)) = Unit {0}

-- ---- the answer

-- lines that may answer each listing that a table stands for
abbrev pub AnswersListings : Table → List (List Val) → Type 0
AnswersListings t lines =
    (outcomes : List (Result Row Fault)) → StandsFor t.bound t.most outcomes t.held → Answers t.bound outcomes lines

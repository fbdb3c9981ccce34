-- What a look at an assignment tells, step by step.
use Rattle.std.specs.Prelude.{◌≡◌, ℕ, Bool, true, false, Option, Some, None, Result, Ok, Err, List, [], ◌∷◌, ◌++◌, map, length}
use Rattle.gq_base.specs.Values.{Val, val}
use Rattle.gq_base.specs.declared.Value.{Value}
use Rattle.gq_expr.specs.Operators.{Outcome}
use Rattle.gq_expr.specs.declared.Fault.{Fault}
use Rattle.gq_plan.specs.Outcomes.{Row, meanings_of, then_with}
use Rattle.gq_expr.specs.Reading as reading
use Rattle.gq_kept.specs.Tables.{numbered, outcome_numbered}
use Rattle.gq_project.specs.Reading.{IsReading}
use Rattle.gq_eval.specs.Judged.{judged_after}
use Rattle.gq_eval.specs.declared.judging.Verdict.{Verdict}
use Rattle.gq_eval.specs.declared.judging.Verdict.TheVariants as verdict
use Rattle.gq_project.specs.declared.judging.Question.{Question}
use Rattle.gq_kept.specs.declared.refusal.RowRefusal.{RowRefusal}
use Rattle.gq_kept.specs.declared.refusal.RowRefusal.TheVariants as refusal

-- the outcome of what expressions read
abbrev pub asked_outcome : Question → reading.Assignment → Option (Result Row Fault)
asked_outcome q here = outcome_numbered q.graph.now q.bound.now q.late.now here

-- how many columns and how many keys a query has
abbrev pub column_count : Question → ℕ
column_count q = length q.bound.now.columns

abbrev pub key_count : Question → ℕ
key_count q = length q.bound.now.keys

-- the columns, the keys and the conjuncts are made ready
abbrev pub IsRead : Question → Type 0
IsRead q = IsReading q.graph.now q.bound.now q.reading.now

-- what the conjuncts that are left say of what expressions read
abbrev pub late_checked : Question → reading.Assignment → Verdict
late_checked q here = judged_after verdict.Pass (meanings_of q.graph.now here (numbered q.bound.now.conjuncts q.late.now))

-- values behind others, or the first fault
abbrev pub values_after : List Val → List Outcome → Result (List Val) Fault
values_after acc [] = Ok acc
values_after acc (o ∷ os) = then_with o (λ v. values_after (acc ++ v ∷ []) os)

-- what a call tells that appends the values of expressions
abbrev pub PushesValues : List Outcome → List Value → List Value → Result (Unit {0}) RowRefusal → Type 0
PushesValues os old new (Ok _) = values_after (map val old) os ≡ Ok (map val new)
PushesValues os old new (Err (refusal.Fault f)) = values_after (map val old) os ≡ Err f
PushesValues os old new (Err (refusal.TooManyRows limit)) = ⊥
PushesValues os old new (Err (refusal.Memory why)) = Unit {0}

-- a row whose values were appended
pub record Kept (c k : ℕ) (o : Option (Result Row Fault)) (old new old_keys new_keys : List Value) : Type 0 where
  pub row : Row
  pub is : o ≡ Some (Ok row)
  pub columns : map val new ≡ map val old ++ row.columns
  pub keys : map val new_keys ≡ map val old_keys ++ row.keys
  pub column_count : length row.columns ≡ c
  pub key_count : length row.keys ≡ k

-- what a call tells that appends the values of a row, unless the row is dropped
abbrev pub Judges : ℕ → ℕ → Option (Result Row Fault) → List Value → List Value → List Value → List Value → Result Bool RowRefusal → Type 0
Judges c k o columns columns' keys keys' (Ok true) = Kept c k o columns columns' keys keys'
Judges c k o columns columns' keys keys' (Ok false) = (o ≡ None) × (columns' ≡ columns) × (keys' ≡ keys)
Judges c k o columns columns' keys keys' (Err (refusal.Fault f)) = o ≡ Some (Err f)
Judges c k o columns columns' keys keys' (Err (refusal.TooManyRows limit)) = ⊥
Judges c k o columns columns' keys keys' (Err (refusal.Memory why)) = Unit {0}

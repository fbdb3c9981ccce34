-- A file has no more records than bytes.
use Rattle.std.proofs.Common.{◌≡◌, ℕ, zero, suc, ◌+◌, ◌≤◌, Bool, true, false, List, [], ◌∷◌, length, Some, None, refl, arith}
use Rattle.std.specs.Prelude.{if◌then◌else◌}
use Rattle.std.specs.declared.option.Option.{Option}
use Rattle.csv.specs.Machine.{Read, ends_at_end, next_record}
use Rattle.csv.specs.Reading.{default_config, is_bom, records_from, records_next, strip_bom}
use Rattle.csv.specs.declared.parser.Config.{Config}
use Rattle.csv.specs.declared.parser.State.{State}
use Rattle.csv.specs.declared.parser.State.TheVariants as st
use Rattle.gq_tables.proofs.RecordSteps.{left_by, not_at_end}
use Rattle.gq_tables.specs.Records.{records_of}

few_next : (f : State → List ℕ → List (List (List ℕ))) (o : Option Read) (n : ℕ) → ((p : Read) → o ≡ Some p → length (f p.1 p.2) + 1 ≤ n) → length (records_next f o) ≤ n
few_next f None n h = omega arith
few_next f (Some p) n h = let small = h p refl in omega arith

few_from : (cfg : Config) (n : ℕ) (s : State) (xs : List ℕ) → ends_at_end s ≡ false → length (records_from cfg n s xs) ≤ length xs
unfolding records_from
few_from cfg zero s xs between = omega arith
few_from cfg (suc n) s xs between =
    few_next (records_from cfg n) (next_record cfg s [] [] xs) (length xs)
    (λ p e.
    let left = left_by cfg s xs p e in
    let some = not_at_end cfg s xs p between e in
    let more = few_from cfg n p.1 p.2 left.between in
    omega (arith, left.less))

cut : (b : Bool) (x y z : ℕ) (rest : List ℕ) → length (if b then rest else x ∷ y ∷ z ∷ rest) ≤ length (x ∷ y ∷ z ∷ rest)
cut true x y z rest = omega arith
cut false x y z rest = omega arith

shorter : (bytes : List ℕ) → length (strip_bom bytes) ≤ length bytes
unfolding strip_bom
shorter [] = omega arith
shorter (x ∷ []) = omega arith
shorter (x ∷ y ∷ []) = omega arith
shorter (x ∷ y ∷ z ∷ rest) = cut (is_bom x y z) x y z rest

pub few_records : (bytes : List ℕ) → length (records_of bytes) ≤ length bytes
few_records bytes = let a = few_from default_config (length (strip_bom bytes) + 1) st.StartRecord (strip_bom bytes) refl in let b = shorter bytes in omega arith

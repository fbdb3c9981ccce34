-- Records by their first fields.
use Rattle.std.proofs.Common.{◌≡◌, ℕ, ◌+◌, ◌<◌, List, [], ◌∷◌, ◌++◌, length, drop, get_or, Some, None, Ok, Err, refl, arith}
use Rattle.gq_base.specs.Results.{and_then}
use Rattle.std.specs.declared.result.Result.{Result}
use Rattle.csv.specs.Records.{field_at}
use Rattle.gq_base.specs.declared.catalog.Field.{Field}
use Rattle.gq_base.specs.declared.cell.Cell.{Cell}
use Rattle.gq_base.specs.declared.cell.PlainRel.{PlainRel}
use Rattle.gq_tables.specs.Cells.{Cells, read_cells}
use Rattle.gq_tables.specs.Nodes.{node_of, read_key}
use Rattle.gq_tables.specs.Rels.{KeyTable, read_end, rel_of}
use Rattle.gq_tables.specs.declared.refusal.TableRefusal.{TableRefusal}
use Rattle.gq_tables.specs.declared.refusal.TableRefusal.TheVariants as refusal

-- ---- nodes

pub no_text : (number : ℕ) (fields : List Field) (texts : List (List ℕ)) → field_at texts 0 ≡ None → node_of number fields texts ≡ Err (refusal.FieldCount number)
unfolding field_at
no_text number [] [] e = refl
no_text number (field ∷ fields) [] e = refl
no_text number fields (text ∷ texts) e = cc e

parts_of_node : (number : ℕ) (fields : List Field) (texts : List (List ℕ)) (key : Field) (text : List ℕ) → 0 < length fields → key ≡ get_or fields 0 key → field_at texts 0 ≡ Some text
    → node_of number fields texts ≡ and_then (read_key number key.kind text) (λ cell. and_then (read_cells number 2 (drop 1 fields) (drop 1 texts)) (λ cells. Ok (Some cell ∷ cells)))
unfolding field_at
parts_of_node number [] texts key text some is next = absurd (omega arith)
parts_of_node number (f ∷ fields) [] key text some is next = cc next
parts_of_node number (f ∷ fields) (t ∷ texts) key text some is next = let same : t ≡ text = cc next in rw (same, is) refl

module _ (number : ℕ) (fields : List Field) (texts : List (List ℕ)) (key : Field) (text : List ℕ) (some : 0 < length fields) (is : key ≡ get_or fields 0 key) (next : field_at texts 0 ≡ Some text) where
  node_parts : node_of number fields texts ≡ and_then (read_key number key.kind text) (λ cell. and_then (read_cells number 2 (drop 1 fields) (drop 1 texts)) (λ cells. Ok (Some cell ∷ cells)))
  node_parts = parts_of_node number fields texts key text some is next

  pub bad_key : (e : TableRefusal) → read_key number key.kind text ≡ Err e → node_of number fields texts ≡ Err e
  bad_key e r = rw (node_parts, r) refl

  pub one_key : (cell : Cell) → read_key number key.kind text ≡ Ok cell → node_of number fields texts ≡ and_then (read_cells number 2 (drop 1 fields) (drop 1 texts)) (λ cells. Ok (Some cell ∷ cells))
  one_key cell r = rw (node_parts, r) refl

-- ---- relationships

-- a record has a first and a second text
pub record HasTwo (texts : List (List ℕ)) : Type 0 where
  pub from : List ℕ
  pub to : List ℕ
  pub first : field_at texts 0 ≡ Some from
  pub second : field_at texts 1 ≡ Some to

pub two_texts : (texts : List (List ℕ)) (more : ℕ) → length texts ≡ more + 2 → HasTwo texts
unfolding field_at
two_texts [] more e = absurd (omega arith)
two_texts (from ∷ []) more e = absurd (omega arith)
two_texts (from ∷ to ∷ texts) more e = record { from = from; to = to; first = refl; second = refl }

module _ (number : ℕ) (sources targets : KeyTable) (fields : List Field) where
  parts_of_rel : (texts : List (List ℕ)) (from to : List ℕ) → field_at texts 0 ≡ Some from → field_at texts 1 ≡ Some to
      → rel_of number sources targets fields texts ≡ and_then (read_end number 1 sources from) (λ source. and_then (read_end number 2 targets to) (λ target.
      and_then (read_cells number 3 fields (drop 2 texts)) (λ cells. Ok (record { source = source; target = target; cells = cells }))))
  unfolding field_at
  parts_of_rel [] from to a b = cc a
  parts_of_rel (f ∷ []) from to a b = cc b
  parts_of_rel (f ∷ t ∷ texts) from to a b = let same : f ≡ from = cc a in let other : t ≡ to = cc b in rw (same, other) refl

  module _ (texts : List (List ℕ)) (from to : List ℕ) (first : field_at texts 0 ≡ Some from) (second : field_at texts 1 ≡ Some to) where
    rel_parts : rel_of number sources targets fields texts ≡ and_then (read_end number 1 sources from) (λ source. and_then (read_end number 2 targets to) (λ target.
        and_then (read_cells number 3 fields (drop 2 texts)) (λ cells. Ok (record { source = source; target = target; cells = cells }))))
    rel_parts = parts_of_rel texts from to first second

    pub bad_source : (e : TableRefusal) → read_end number 1 sources from ≡ Err e → rel_of number sources targets fields texts ≡ Err e
    bad_source e r = rw (rel_parts, r) refl

    module _ (source : ℕ) (a : read_end number 1 sources from ≡ Ok source) where
      pub bad_target : (e : TableRefusal) → read_end number 2 targets to ≡ Err e → rel_of number sources targets fields texts ≡ Err e
      bad_target e r = rw (rel_parts, a, r) refl

      module _ (target : ℕ) (b : read_end number 2 targets to ≡ Ok target) where
        behind_none : (r : Result Cells TableRefusal) (e : TableRefusal) → and_then {B = Cells} r (λ more. Ok ([] ++ more)) ≡ Err e
            → and_then {B = PlainRel} r (λ cells. Ok (record { source = source; target = target; cells = cells })) ≡ Err e
        behind_none (Ok more) e h = cc h
        behind_none (Err x) e h = cc

        row_behind_none : (r : Result Cells TableRefusal) (cells : Cells) → and_then {B = Cells} r (λ more. Ok ([] ++ more)) ≡ Ok cells
            → and_then {B = PlainRel} r (λ cs. Ok (record { source = source; target = target; cells = cs })) ≡ Ok (record { source = source; target = target; cells = cells })
        row_behind_none (Ok more) cells h = let same : more ≡ cells = cc h in rw same refl
        row_behind_none (Err x) cells h = cc h

        pub bad_cells : (e : TableRefusal) → and_then {B = Cells} (read_cells number 3 fields (drop 2 texts)) (λ more. Ok ([] ++ more)) ≡ Err e → rel_of number sources targets fields texts ≡ Err e
        bad_cells e r = rw (rel_parts, a, b) (behind_none (read_cells number 3 fields (drop 2 texts)) e r)

        pub whole_rel : (cells : Cells) → and_then {B = Cells} (read_cells number 3 fields (drop 2 texts)) (λ more. Ok ([] ++ more)) ≡ Ok cells
            → rel_of number sources targets fields texts ≡ Ok (record { source = source; target = target; cells = cells })
        whole_rel cells r = rw (rel_parts, a, b) (row_behind_none (read_cells number 3 fields (drop 2 texts)) cells r)

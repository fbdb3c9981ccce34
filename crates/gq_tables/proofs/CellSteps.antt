-- The cells of a record on their way.
use Rattle.std.proofs.Common.{◌≡◌, ℕ, ◌+◌, ◌<◌, ◌≤◌, List, [], ◌∷◌, ◌++◌, length, drop, get_or, Some, None, Ok, Err, refl, sym, ap, ◌∙◌, append_assoc, append-nil, arith}
use Rattle.gq_base.specs.Results.{and_then}
use Rattle.std.specs.declared.option.Option.{Option}
use Rattle.std.specs.declared.result.Result.{Result}
use Rattle.std.proofs.lemmas.List.{drop_all, drop_more}
use Rattle.csv.specs.Records.{field_at}
use Rattle.csv.proofs.RecordFacts.{field-there}
use Rattle.gq_base.specs.declared.catalog.Field.{Field}
use Rattle.gq_base.specs.declared.cell.Cell.{Cell}
use Rattle.gq_tables.proofs.Texts.{from_place}
use Rattle.gq_tables.specs.Cells.{Cells, read_cell, read_cells}
use Rattle.gq_tables.specs.declared.refusal.TableRefusal.{TableRefusal}

-- cells behind those before them
abbrev pub behind : Cells → Result Cells TableRefusal → Result Cells TableRefusal
behind cells more = and_then more (λ m. Ok (cells ++ m))

one_more : (cells : Cells) (cell : Option Cell) (r : Result Cells TableRefusal) → behind cells (and_then r (λ more. Ok (cell ∷ more))) ≡ behind (cells ++ cell ∷ []) r
one_more cells cell (Ok more) = ap Ok (sym (append_assoc cells (cell ∷ []) more))
one_more cells cell (Err e) = refl

-- the cells of the fields before this place were read, and those of the others follow them
pub record Filling (number before : ℕ) (fields : List Field) (texts : List (List ℕ)) (first : Cells) (place : ℕ) (cells : Cells) : Type 0 where
  pub given : behind first (read_cells number (before + 1) fields (drop before texts)) ≡ behind cells (read_cells number (before + place + 1) (drop place fields) (drop (before + place) texts))

pub unfilled : (number before : ℕ) (fields : List Field) (texts : List (List ℕ)) (first : Cells) → Filling number before fields texts first 0 first
unfilled number before fields texts first = record { given = let same : before + 0 ≡ before = omega arith in rw same refl }

module _ (number before : ℕ) (fields : List Field) (texts : List (List ℕ)) (first : Cells) (place : ℕ) (cells : Cells) (h : Filling number before fields texts first place cells) where
  pub filled : length fields ≤ place → behind first (read_cells number (before + 1) fields (drop before texts)) ≡ Ok cells
  filled e = let none : drop place fields ≡ [] = drop_all place fields e in rw (h.given, none) (ap Ok (append-nil cells))

  module _ (more : place < length fields) where
    pub has_text : length texts ≡ before + length fields → field_at texts (before + place) ≡ None → ⊥
    has_text wide e = field-there texts (before + place) (omega arith) e

    module _ (text : List ℕ) (next : field_at texts (before + place) ≡ Some text) (field : Field) (is : field ≡ get_or fields place field) where
      rest : drop place fields ≡ field ∷ drop (place + 1) fields
      rest = drop_more fields place field more ∙ ap (λ f. f ∷ drop (place + 1) fields) (sym is)

      pub bad_cell : (e : TableRefusal) → read_cell number (before + place + 1) field.kind text ≡ Err e
          → behind first (read_cells number (before + 1) fields (drop before texts)) ≡ Err e
      bad_cell e r = rw (h.given, rest, from_place texts (before + place) text next, r) refl

      pub one_cell : (cell : Option Cell) → read_cell number (before + place + 1) field.kind text ≡ Ok cell
          → Filling number before fields texts first (place + 1) (cells ++ cell ∷ [])
      one_cell cell r =
          let same : before + (place + 1) ≡ before + place + 1 = omega arith in
          let others = read_cells number (before + place + 1 + 1) (drop (place + 1) fields) (drop (before + place + 1) texts) in
          record { given = h.given ∙ rw (rest, from_place texts (before + place) text next, r, same) (one_more cells cell others) }

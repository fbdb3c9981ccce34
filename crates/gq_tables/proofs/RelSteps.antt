-- The relationships of a table on their way.
use Rattle.std.proofs.Common.{◌≡◌, ℕ, ◌+◌, ◌<◌, ◌≤◌, Bool, true, false, List, [], ◌∷◌, ◌++◌, length, get_or, Some, None, Ok, Err, refl, sym, ap, ◌∙◌, arith, inl, inr, length-append}
use Rattle.gq_base.proofs.ResultLaws.{then_ok}
use Rattle.gq_base.specs.Results.{and_then}
use Rattle.std.specs.Prelude.{if◌then◌else◌, ◌==◌, ◌&&◌, ◌||◌, nat_le, slice_set}
use Rattle.std.specs.Option.{ok_or}
use Rattle.std.specs.declared.option.Option.{Option}
use Rattle.std.specs.declared.result.Result.{Result}
use Rattle.std.proofs.lemmas.Bool.Decides.{nat_tests}
use Rattle.std.proofs.lemmas.Bool.{cases_eq}
use Rattle.std.proofs.lemmas.List.{get_or-replicate, get_or-set_other, get_or-set_same, length-replicate, length-set}
use Rattle.std.proofs.lemmas.List.Quantifiers.{position-Some}
use Rattle.gq_base.specs.Plain.{cell_val}
use Rattle.gq_base.specs.declared.catalog.Field.{Field}
use Rattle.gq_base.specs.declared.catalog.Mult.{Mult}
use Rattle.gq_base.specs.declared.cell.Cell.{Cell}
use Rattle.gq_base.specs.declared.cell.PlainRel.{PlainRel}
use Rattle.gq_base.proofs.ListLaws.{any-snoc}
use Rattle.gq_tables.specs.steps.Batches.{Tells}
use Rattle.gq_tables.specs.Cells.{Cells, read_cell, read_cells}
use Rattle.gq_tables.specs.Keys.{has_key}
use Rattle.gq_tables.specs.Rels.{KeyTable, find_end, has_source, has_target, is_forbidden, read_end, read_rel, rel_of, take_rels}
use Rattle.gq_base.specs.Valid.{limits_sources, limits_targets}
use Rattle.gq_tables.specs.steps.Sides.{Marks, is_barred, unmarked, with_mark}
use Rattle.gq_tables.specs.declared.refusal.TableRefusal.{TableRefusal}
use Rattle.gq_tables.specs.declared.refusal.TableRefusal.TheVariants as refusal

-- ---- ends that are rows

some_ok : (o : Option ℕ) (e : TableRefusal) (row : ℕ) → ok_or o e ≡ Ok row → o ≡ Some row
some_ok (Some x) e row h = cc h
some_ok None e row h = cc h

found : (rows : List Cells) (cell : Option Cell) (row : ℕ) → find_end rows cell ≡ Some row → row < length rows
found rows None row e = cc
found rows (Some cell) row e = (position-Some (has_key (cell_val (Some cell))) rows row [] e).0

end_within : (number column : ℕ) (table : KeyTable) (text : List ℕ) (row : ℕ) → read_end number column table text ≡ Ok row → row < length table.rows
end_within number column table text row e =
    let step = then_ok (read_cell number column table.kind text) (λ cell. ok_or (find_end table.rows cell) (refusal.NoSuchNode number column)) row e in
    found table.rows step.0 row (some_ok (find_end table.rows step.0) (refusal.NoSuchNode number column) row step.2)

-- a relationship stands between rows of its tables
pub record IsWithin (sources targets : KeyTable) (rel : PlainRel) : Type 0 where
  pub source : rel.source < length sources.rows
  pub target : rel.target < length targets.rows

pub rel_within : (number : ℕ) (sources targets : KeyTable) (fields : List Field) (texts : List (List ℕ)) (rel : PlainRel) → rel_of number sources targets fields texts ≡ Ok rel → IsWithin sources targets rel
rel_within number sources targets fields (from ∷ to ∷ texts) rel e =
    let a = then_ok (read_end number 1 sources from) _ rel e in
    let b = then_ok (read_end number 2 targets to) _ rel a.2 in
    let c = then_ok (read_cells number 3 fields texts) _ rel b.2 in
    let is : record { source = a.0; target = b.0; cells = c.0 } ≡ rel = cc c.2 in
    record {
      source = rw (← is) (end_within number 1 sources from a.0 a.1);
      target = rw (← is) (end_within number 2 targets to b.0 b.1);
    }
rel_within number sources targets fields [] rel e = cc
rel_within number sources targets fields (from ∷ []) rel e = cc

-- ---- marks

pub none_told : (single : Bool) (count : ℕ) (used : ℕ → Bool) → ((row : ℕ) → used row ≡ false) → Tells single count used (unmarked single count)
none_told true count used none = record {
  kind = refl;
  size = λ e. length-replicate count false;
  told = λ e row less. get_or-replicate count row false false less ∙ sym (none row);
}
none_told false count used none = record { kind = refl; size = λ e. cc e; told = λ e row less. cc e }

pub barred_told : (single : Bool) (count : ℕ) (used : ℕ → Bool) (side : Marks) (row : ℕ) → Tells single count used side → row < count → is_barred side row ≡ (single && used row)
barred_told true count used side row h less = rw (h.kind) (h.told refl row less)
barred_told false count used side row h less = rw (h.kind) refl

or_true : (a : Bool) → true ≡ (a || (true || false))
or_true true = refl
or_true false = refl

or_false : (a : Bool) → a ≡ (a || (false || false))
or_false true = refl
or_false false = refl

at_mark : (marks : List Bool) (row other : ℕ) (was now : Bool) → row < length marks → get_or marks other false ≡ was → now ≡ (was || ((row == other) || false)) → get_or (slice_set marks row true) other false ≡ now
at_mark marks row other was now less e is = elim (cases_eq other row) as (λ _. get_or (slice_set marks row true) other false ≡ now) [
  | inl same ↦
      let test : (row == other) ≡ true = grind (arith, nat_tests, same) in
      rw same (get_or-set_same marks row true false less) ∙ or_true was ∙ sym (is ∙ ap (λ b. was || (b || false)) test)
  | inr apart ↦
      let test : (row == other) ≡ false = grind (arith, nat_tests, apart) in
      get_or-set_other marks row other true false apart ∙ e ∙ or_false was ∙ sym (is ∙ ap (λ b. was || (b || false)) test)
]

pub one_told : (single : Bool) (count : ℕ) (used now : ℕ → Bool) (side : Marks) (row : ℕ) → Tells single count used side → row < count
    → ((r : ℕ) → now r ≡ (used r || ((row == r) || false))) → Tells single count now (with_mark side row)
one_told true count used now side row h less is = rw h.kind record {
  kind = refl;
  size = λ e. length-set side.marks row true ∙ h.size refl;
  told = λ e r within. at_mark side.marks row r (used r) (now r) (let size = h.size refl in omega arith) (h.told refl r within) (is r);
}
one_told false count used now side row h less is = rw h.kind record { kind = refl; size = λ e. cc e; told = λ e r within. cc e }

-- ---- records that are read one after the other

module _ (sources targets : KeyTable) (limit width : ℕ) (fields : List Field) where
  within_read : (b : Bool) (count : ℕ) (e : TableRefusal) (r : Result (List (List ℕ)) TableRefusal) (number : ℕ) (rel : PlainRel)
      → nat_le limit count ≡ b → and_then (if b then Err e else r) (rel_of number sources targets fields) ≡ Ok rel → (count + 1 ≤ limit) × IsWithin sources targets rel
  within_read true count e r number rel t h = cc h
  within_read false count e r number rel t h =
      let step = then_ok r (rel_of number sources targets fields) rel h in
      (grind (arith, nat_tests, t), rel_within number sources targets fields step.0 rel step.2)

  -- a relationship is read only where there is room for it, and stands between rows of its tables
  pub has_room : (number count : ℕ) (texts : List (List ℕ)) (rel : PlainRel) → read_rel sources targets limit width fields number count texts ≡ Ok rel → (count + 1 ≤ limit) × IsWithin sources targets rel
  has_room number count texts rel e = within_read (nat_le limit count) count refusal.TooManyRows _ number rel refl e

  module _ (mult : Mult) where
    -- the relationships of the records that are left follow these, which gives what is meant, and the marks tell of these
    pub record Gathering (meant : Result (List PlainRel) TableRefusal) (left : List (List (List ℕ))) (rels : List PlainRel) (at_sources at_targets : Marks) : Type 0 where
      pub few : length rels ≤ limit
      pub given : meant ≡ take_rels sources targets limit width fields mult (length rels + 2) rels left
      pub sources_told : Tells (limits_sources mult) (length sources.rows) (has_source rels) at_sources
      pub targets_told : Tells (limits_targets mult) (length targets.rows) (has_target rels) at_targets

    pub sources_untold : (at_sources : Marks) → at_sources ≡ unmarked (limits_sources mult) (length sources.rows) → Tells (limits_sources mult) (length sources.rows) (has_source []) at_sources
    sources_untold at_sources s = rw s (none_told (limits_sources mult) (length sources.rows) (has_source []) (λ row. refl))

    pub targets_untold : (at_targets : Marks) → at_targets ≡ unmarked (limits_targets mult) (length targets.rows) → Tells (limits_targets mult) (length targets.rows) (has_target []) at_targets
    targets_untold at_targets t = rw t (none_told (limits_targets mult) (length targets.rows) (has_target []) (λ row. refl))

    module _ (meant : Result (List PlainRel) TableRefusal) (left : List (List (List ℕ))) (rels : List PlainRel) (at_sources at_targets : Marks) (h : Gathering meant left rels at_sources at_targets) where
      module _ (texts : List (List ℕ)) (rest : List (List (List ℕ))) (next : left ≡ texts ∷ rest) where
        pub stopped : (e : TableRefusal) → read_rel sources targets limit width fields (length rels + 2) (length rels) texts ≡ Err e → meant ≡ Err e
        stopped e r = h.given ∙ rw (next, r) refl

        module _ (rel : PlainRel) (r : read_rel sources targets limit width fields (length rels + 2) (length rels) texts ≡ Ok rel) where
          within : IsWithin sources targets rel
          within = (has_room (length rels + 2) (length rels) texts rel r).1

          pub source_in : at_sources.is_single ≡ true → rel.source < length at_sources.marks
          source_in e = let size = h.sources_told.size (sym h.sources_told.kind ∙ e) in omega (arith, within.source)

          pub target_in : at_targets.is_single ≡ true → rel.target < length at_targets.marks
          target_in e = let size = h.targets_told.size (sym h.targets_told.kind ∙ e) in omega (arith, within.target)

          forbidden : (is_barred at_sources rel.source || is_barred at_targets rel.target) ≡ is_forbidden mult rels rel
          forbidden = rw (
            barred_told (limits_sources mult) (length sources.rows) (has_source rels) at_sources rel.source h.sources_told within.source,
            barred_told (limits_targets mult) (length targets.rows) (has_target rels) at_targets rel.target h.targets_told within.target,
          ) refl

          pub not_single : (is_barred at_sources rel.source || is_barred at_targets rel.target) ≡ true → meant ≡ Err (refusal.NotSingle (length rels + 2))
          not_single e = let bad : is_forbidden mult rels rel ≡ true = sym forbidden ∙ e in h.given ∙ rw (next, r, bad) refl

          pub one_rel : (is_barred at_sources rel.source || is_barred at_targets rel.target) ≡ false → Gathering meant rest (rels ++ rel ∷ []) (with_mark at_sources rel.source) (with_mark at_targets rel.target)
          one_rel e =
              let good : is_forbidden mult rels rel ≡ false = sym forbidden ∙ e in
              let longer : length (rels ++ rel ∷ []) ≡ length rels + 1 = length-append rels (rel ∷ []) in
              let number : length (rels ++ rel ∷ []) + 2 ≡ length rels + 2 + 1 = omega (arith, longer) in
              let fits = (has_room (length rels + 2) (length rels) texts rel r).0 in
              record {
                few = omega (arith, longer);
                given = h.given ∙ rw (next, r, good, number) refl;
                sources_told = one_told (limits_sources mult) (length sources.rows) (has_source rels) (has_source (rels ++ rel ∷ [])) at_sources rel.source h.sources_told within.source
                    (λ row. any-snoc (λ q. q.source == row) rels rel);
                targets_told = one_told (limits_targets mult) (length targets.rows) (has_target rels) (has_target (rels ++ rel ∷ [])) at_targets rel.target h.targets_told within.target
                    (λ row. any-snoc (λ q. q.target == row) rels rel);
              }

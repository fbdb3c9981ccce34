-- Keys that are put into an index row by row.
use Rattle.std.proofs.Common.{◌≡◌, ℕ, ◌+◌, ◌<◌, ◌≤◌, Bool, true, false, cond, List, [], ◌∷◌, ◌++◌, length, take, drop, get_or, Some, None, Ok, Err, refl, sym, ap, ◌∙◌, arith}
use Rattle.std.specs.Prelude.{◌||◌, is_some}
use Rattle.std.specs.declared.option.Option.{Option}
use Rattle.std.specs.List.{list_any, position_from}
use Rattle.std.proofs.lemmas.Iterator.Adapters.{position_from-zero}
use Rattle.std.proofs.lemmas.List.{drop_all, drop_more, take_all, take_more}
use Rattle.gq_base.specs.Values.{Val, null}
use Rattle.gq_base.specs.declared.cell.Cell.TheVariants as cell
use Rattle.gq_base.proofs.ListLaws.{any-snoc}
use Rattle.gq_tables.specs.Cells.{Cells}
use Rattle.gq_tables.specs.steps.KeyMaps.{stands, with_row}
use Rattle.gq_tables.specs.Keys.{find_key, has_key, is_key}
use Rattle.gq_base.specs.Valid.{key_of}
use Rattle.gq_tables.specs.Nodes.{is_taken}
use Rattle.gq_tables.specs.steps.Passes.{add_nodes}
use Rattle.gq_tables.specs.declared.refusal.TableRefusal.TheVariants as refusal

-- ---- the first row with each key

-- an index has the first of the rows from this place on with each key
pub record Mapped (rows : List Cells) (at : ℕ) (there : Val → Option ℕ) : Type 0 where
  pub within : at ≤ length rows
  pub first : (v : Val) → there v ≡ position_from (has_key v) at (drop at rows)

pub unmapped : (rows : List Cells) (there : Val → Option ℕ) → ((v : Val) → there v ≡ None) → Mapped rows (length rows) there
unmapped rows there none = record { within = omega arith; first = λ v. none v ∙ (let end : drop (length rows) rows ≡ [] = drop_all (length rows) rows (omega arith) in rw end refl) }

by_key : (key : Option Val) (at : ℕ) (v : Val) (o : Option ℕ) → with_row key at v o ≡ cond (is_key v key) (Some at) o
by_key None at v o = refl
by_key (Some key) at v o = refl

pub one_mapped : (rows : List Cells) (at : ℕ) (before after : Val → Option ℕ) (row : Cells) → Mapped rows (at + 1) before → row ≡ get_or rows at row
    → ((v : Val) → after v ≡ with_row (key_of row) at v (before v)) → Mapped rows at after
one_mapped rows at before after row h is put =
    let less : at < length rows = omega (arith, h.within) in
    let rest : drop at rows ≡ row ∷ drop (at + 1) rows = drop_more rows at row less ∙ ap (λ r. r ∷ drop (at + 1) rows) (sym is) in
    record {
      within = omega arith;
      first = λ v. put v ∙ ap (with_row (key_of row) at v) (h.first v) ∙ by_key (key_of row) at v (position_from (has_key v) (at + 1) (drop (at + 1) rows)) ∙ sym (ap (position_from (has_key v) at) rest);
    }

pub all_mapped : (rows : List Cells) (there : Val → Option ℕ) → Mapped rows 0 there → (v : Val) → there v ≡ find_key rows v
all_mapped rows there h v = h.first v ∙ sym (position_from-zero (has_key v) rows)

-- ---- no row has null as its key

no_null_key : (row : Cells) → has_key null row ≡ false
no_null_key [] = refl
no_null_key (None ∷ cells) = refl
no_null_key (Some (cell.Int z) ∷ cells) = refl
no_null_key (Some (cell.Str s) ∷ cells) = refl
no_null_key (Some (cell.Flag b) ∷ cells) = refl

none_from : (rows : List Cells) (at : ℕ) → position_from (has_key null) at rows ≡ None
none_from [] at = refl
none_from (row ∷ rows) at = ap (λ b. cond b (Some at) (position_from (has_key null) (at + 1) rows)) (no_null_key row) ∙ none_from rows (at + 1)

pub no_null : (rows : List Cells) → find_key rows null ≡ None
no_null rows = position_from-zero (has_key null) rows ∙ none_from rows 0

-- ---- keys that stand in two rows

-- the keys of the rows before this place are distinct, and rows stand at just them
pub record Keyed (rows : List Cells) (at : ℕ) (there : Val → Option ℕ) : Type 0 where
  pub given : add_nodes 2 [] rows ≡ add_nodes (at + 2) (take at rows) (drop at rows)
  pub same : (v : Val) → is_some (there v) ≡ list_any (has_key v) (take at rows)

pub unkeyed : (rows : List Cells) (there : Val → Option ℕ) → ((v : Val) → there v ≡ None) → Keyed rows 0 there
unkeyed rows there none = record { given = refl; same = λ v. rw (none v) refl }

taken_as : (there : Val → Option ℕ) (front : List Cells) (key : Option Val) → ((v : Val) → is_some (there v) ≡ list_any (has_key v) front) → stands there key ≡ is_taken front key
taken_as there front None same = refl
taken_as there front (Some key) same = same key

some_cond : (b : Bool) (at : ℕ) (o : Option ℕ) → is_some (cond b (Some at) o) ≡ (is_some o || (b || false))
some_cond true at (Some x) = refl
some_cond true at None = refl
some_cond false at (Some x) = refl
some_cond false at None = refl

module _ (rows : List Cells) (at : ℕ) (there : Val → Option ℕ) (h : Keyed rows at there) where
  pub all_keyed : length rows ≤ at → add_nodes 2 [] rows ≡ Ok rows
  all_keyed e = let none : drop at rows ≡ [] = drop_all at rows e in let whole : take at rows ≡ rows = take_all at rows e in rw (h.given, none, whole) refl

  module _ (more : at < length rows) (row : Cells) (is : row ≡ get_or rows at row) where
    rest : drop at rows ≡ row ∷ drop (at + 1) rows
    rest = drop_more rows at row more ∙ ap (λ r. r ∷ drop (at + 1) rows) (sym is)

    front : take (at + 1) rows ≡ take at rows ++ row ∷ []
    front = take_more rows at row more ∙ ap (λ r. take at rows ++ r ∷ []) (sym is)

    pub key_twice : stands there (key_of row) ≡ true → add_nodes 2 [] rows ≡ Err (refusal.KeyRepeated (at + 2))
    key_twice e = let taken : is_taken (take at rows) (key_of row) ≡ true = sym (taken_as there (take at rows) (key_of row) h.same) ∙ e in rw (h.given, rest, taken) refl

    pub key_once : (new : Val → Option ℕ) → stands there (key_of row) ≡ false → ((v : Val) → new v ≡ with_row (key_of row) at v (there v)) → Keyed rows (at + 1) new
    key_once new e put =
        let fresh : is_taken (take at rows) (key_of row) ≡ false = sym (taken_as there (take at rows) (key_of row) h.same) ∙ e in
        let number : at + 1 + 2 ≡ at + 2 + 1 = omega arith in
        record {
          given = h.given ∙ rw (rest, fresh, front, number) refl;
          same = λ v. ap is_some (put v ∙ by_key (key_of row) at v (there v)) ∙ some_cond (has_key v row) at (there v)
              ∙ ap (λ b. b || (has_key v row || false)) (h.same v) ∙ sym (any-snoc (has_key v) (take at rows) row) ∙ sym (ap (list_any (has_key v)) front);
        }

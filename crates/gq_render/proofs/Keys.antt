-- Where a graph has no key of a node.
use Rattle.std.proofs.Common.{◌≡◌, ℕ, ◌<◌, ◌≤◌, Bool, true, List, [], ◌∷◌, length, get_or, Some, None, refl, ap, ◌∙◌, arith}
use Rattle.std.specs.Prelude.{◌&&◌, nat_le, slice_get}
use Rattle.std.specs.declared.option.Option.{Option}
use Rattle.std.proofs.lemmas.List.{get_or_default}
use Rattle.std.proofs.lemmas.Option.{slice_get_past, slice_get_read}
use Rattle.gq_base.proofs.ListLaws.{two}
use Rattle.gq_base.specs.Lists.{all_zip}
use Rattle.gq_base.specs.Plain.{Graph, cell_at, cell_val, rows_of}
use Rattle.gq_base.specs.Valid.{are_nodes, are_rels, is_valid, row_count}
use Rattle.gq_base.specs.Values.{null}
use Rattle.gq_base.specs.declared.cell.Cell.{Cell}
use Rattle.gq_store.specs.Cells.{cell_in, node_fields}
use Rattle.gq_store.proofs.Validity.{node_row_length, node_table}
use Rattle.gq_render.specs.Listings.{key_of}

-- lists that pass side by side are of one length
as_many : {A B : Type 0} (p : A → B → Bool) (xs : List A) (ys : List B) → all_zip p xs ys ≡ true → length ys ≡ length xs
as_many p [] [] h = refl
as_many p [] (y ∷ ys) h = cc h
as_many p (x ∷ xs) [] h = cc h
as_many p (x ∷ xs) (y ∷ ys) h = let same : length ys ≡ length xs = as_many p xs ys (two (p x y) (all_zip p xs ys) h).1 in omega arith

-- a valid graph has as many lists of rows as node tables
rows_of_tables : (g : Graph) → is_valid g ≡ true → length g.nodes ≡ length g.catalog.nodes
rows_of_tables g valid =
    let few = nat_le (length g.catalog.nodes) 64 && nat_le (length g.catalog.rels) 64 in
    let nodes = all_zip are_nodes g.catalog.nodes g.nodes in
    as_many are_nodes g.catalog.nodes g.nodes (two few nodes (two (few && nodes) (all_zip (are_rels g.nodes) g.catalog.rels g.rels) valid).0).1

-- where there is no row, there is no key
pub no_row : (g : Graph) (table row : ℕ) → row_count g.nodes table ≤ row → key_of g table row ≡ null
no_row g table row past = ap (λ (cells : Option (List (Option Cell))). cell_val (cell_in 0 cells)) (slice_get_past (rows_of (slice_get g.nodes table)) row past)

-- where there is no table, there is none
pub no_table : (g : Graph) (table row : ℕ) → is_valid g ≡ true → length g.catalog.nodes ≤ table → key_of g table row ≡ null
no_table g table row valid past =
    let same = rows_of_tables g valid in
    let none : slice_get g.nodes table ≡ None = slice_get_past g.nodes table (omega arith) in
    no_row g table row (omega (arith, ap (λ (rows : Option (List (List (Option Cell)))). length (rows_of rows)) none))

no_cell : (cells : List (Option Cell)) → length cells ≡ 0 → cell_val (cell_at cells (Some 0)) ≡ null
no_cell [] e = refl
no_cell (cell ∷ cells) e = absurd (omega arith)

-- where a table has no property, there is none
pub no_property : (g : Graph) (table row : ℕ) → is_valid g ≡ true → table < length g.catalog.nodes → row < row_count g.nodes table → node_fields g table ≡ [] → key_of g table row ≡ null
no_property g table row valid within inside none =
    let (t, found) = node_table g table valid within in
    let (rows, k) = found in
    let here : row < length rows = omega (arith, ap (λ (r : Option (List (List (Option Cell)))). length (rows_of r)) k.rows_are) in
    let cells = get_or rows row [] in
    let is : cells ≡ get_or rows row cells = get_or_default rows row [] cells here in
    let size : length cells ≡ length (node_fields g table) = node_row_length g table valid within rows row cells k.rows_are here is in
    let read : slice_get rows row ≡ Some cells = slice_get_read rows (length rows) row cells refl here is in
    ap (λ (r : Option (List (List (Option Cell)))). cell_val (cell_in 0 (slice_get (rows_of r) row))) k.rows_are
    ∙ ap (λ (c : Option (List (Option Cell))). cell_val (cell_in 0 c)) read
    ∙ no_cell cells (omega (arith, size, ap length none))

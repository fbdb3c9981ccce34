-- The places of relationships, and the cells at them.
use Rattle.std.proofs.Common.{◌≡◌, ℕ, ◌+◌, ◌<◌, List, [], length, get_or, ◌∷◌, Option, Some, None, true, false, refl, sym, ap, ◌∙◌, subst, arith}
use Rattle.std.specs.Prelude.{All, IfSome}
use Rattle.std.specs.List.{concat, range_with_len}
use Rattle.std.proofs.lemmas.List.{get_or-map, get_or_default, length-map}
use Rattle.std.proofs.lemmas.Option.{slice_get_within}
use Rattle.std.specs.Option.{option_map}
use Rattle.std.proofs.lemmas.List.FromFn.{get_or-range_with_len, length-range_with_len}
use Rattle.gq_adj.specs.Adjacent.{Adjacency}
use Rattle.gq_base.specs.Catalogs.{Tables}
use Rattle.gq_base.specs.Plain.{Graph, rels_at}
use Rattle.gq_base.specs.declared.Cell.{Cell}
use Rattle.gq_base.specs.declared.Mult.{Mult}
use Rattle.gq_base.specs.declared.Mult.TheVariants.{ManyMany, ManyOne, OneMany, OneOne}
use Rattle.gq_base.specs.Valid.{is_valid}
use Rattle.gq_edges.specs.Once.{Pair, pair_at}
use Rattle.gq_store.specs.Cells.{rel_cell}
use Rattle.gq_store.specs.Neighbours.{allows_many, is_listed, mult_at, near_ends, near_rows}
use Rattle.gq_store.specs.Places.{by_source, first_number, number_at, number_in}
use Rattle.gq_store.specs.RelColumns.{cell_numbered, numbers_by_place, place_count, place_count_in, rel_cells}
use Rattle.gq_store.specs.steps.Kept.{IsStored}
use Rattle.gq_store.specs.steps.Stored.{AreLinked, ArePlaces, IsLinked, side}
use Rattle.gq_base.specs.declared.direction.Direction.{Direction}
use Rattle.gq_base.specs.declared.direction.Direction.TheVariants.{Forward, Backward}
use Rattle.gq_store.specs.declared.links.Links.{Links}
use Rattle.gq_store.specs.declared.links.Places.{Places}
use Rattle.gq_store.specs.declared.links.Places.TheVariants.{Sources, Targets}
use Rattle.gq_store.specs.declared.links.Side.TheVariants.{Listed, Single}
use Rattle.gq_store.specs.declared.links.Side.{Side}
use Rattle.gq_store.specs.declared.property.TableCells.{TableCells}
use Rattle.gq_store.proofs.Picking.{length-range}
use Rattle.gq_store.proofs.Reading.{clash, kept_column, kept_lists, number_at_source, number_at_target, single_row, sources_is, targets_is}
use Rattle.gq_store.proofs.Reading.{in_pages, number_below, paged_below, row_within}
use Rattle.gq_store.proofs.Validity.{ends_below, length-ends}

module _ (g : Graph) (rel : ℕ) where
  by_forward : (mult : Option Mult) → allows_many mult Forward ≡ false → place_count_in g rel mult ≡ near_rows g rel Forward
  by_forward None h = cc h
  by_forward (Some ManyMany) h = cc h
  by_forward (Some ManyOne) h = refl
  by_forward (Some OneMany) h = cc h
  by_forward (Some OneOne) h = refl

  by_backward : (mult : Option Mult) → allows_many mult Forward ≡ true → allows_many mult Backward ≡ false → place_count_in g rel mult ≡ near_rows g rel Backward
  by_backward None h k = cc k
  by_backward (Some ManyMany) h k = cc k
  by_backward (Some ManyOne) h k = cc h
  by_backward (Some OneMany) h k = refl
  by_backward (Some OneOne) h k = cc h

  pub count_at_source : is_listed g rel Forward ≡ false → place_count g rel ≡ near_rows g rel Forward
  count_at_source h = by_forward (mult_at g rel) h

  pub count_at_target : is_listed g rel Forward ≡ true → is_listed g rel Backward ≡ false → place_count g rel ≡ near_rows g rel Backward
  count_at_target h k = by_backward (mult_at g rel) h k

  pub count_in_pages : mult_at g rel ≡ Some ManyMany → place_count g rel ≡ length (rels_at g rel)
  count_in_pages many = ap (place_count_in g rel) many

  pub length-numbers : length (numbers_by_place g rel) ≡ place_count g rel
  length-numbers = length-map (range_with_len 0 (place_count g rel)) (λ place. number_at g rel place) ∙ length-range_with_len 0 (place_count g rel)

  pub number_by_place : (place : ℕ) → place < place_count g rel → get_or (numbers_by_place g rel) place None ≡ number_at g rel place
  number_by_place place h =
      let range = range_with_len 0 (place_count g rel) in
      let size : length range ≡ place_count g rel = length-range_with_len 0 (place_count g rel) in
      let plus : 0 + place ≡ place = omega arith in
      get_or-map (λ p. number_at g rel p) range place 0 None (omega (arith, size, h)) ∙ ap (λ p. number_at g rel p) (get_or-range_with_len 0 (place_count g rel) place 0 h ∙ plus)

  -- a number at a place is that of a relationship
  number_in_within : is_valid g ≡ true → rel < length g.catalog.rels → (mult : Option Mult) (place number : ℕ) → number_in g rel mult place ≡ Some number → number < length (rels_at g rel)
  number_in_within valid within None place number is = cc is
  number_in_within valid within (Some ManyMany) place number is = omega (arith, paged_below (near_rows g rel Forward) place number (near_ends g rel Forward) is, length-ends g rel valid within Forward)
  number_in_within valid within (Some ManyOne) place number is = omega (arith, number_below place 0 number (near_ends g rel Forward) is, length-ends g rel valid within Forward)
  number_in_within valid within (Some OneOne) place number is = omega (arith, number_below place 0 number (near_ends g rel Forward) is, length-ends g rel valid within Forward)
  number_in_within valid within (Some OneMany) place number is = omega (arith, number_below place 0 number (near_ends g rel Backward) is, length-ends g rel valid within Backward)

  pub number_within : is_valid g ≡ true → rel < length g.catalog.rels → (place number : ℕ) → number_at g rel place ≡ Some number → number < length (rels_at g rel)
  number_within valid within place number is = number_in_within valid within (mult_at g rel) place number is

  -- the numbers at all places are those of relationships
  pub numbers_within : is_valid g ≡ true → rel < length g.catalog.rels → All (λ number. IfSome number (λ n. n < length (rels_at g rel))) (numbers_by_place g rel)
  numbers_within valid within = λ k d h.
      let low : k < place_count g rel = omega (arith, h, length-numbers) in
      let is : get_or (numbers_by_place g rel) k d ≡ number_at g rel k = get_or_default (numbers_by_place g rel) k d None h ∙ number_by_place k low in
      subst (λ (o : Option ℕ). IfSome o (λ n. n < length (rels_at g rel))) (sym is) (if_some (number_at g rel k) (λ number e. number_within valid within k number e))
    where
      if_some : (o : Option ℕ) → ((n : ℕ) → o ≡ Some n → n < length (rels_at g rel)) → IfSome o (λ n. n < length (rels_at g rel))
      if_some None f = tt
      if_some (Some n) f = f n refl

  -- a row from which a relationship is followed
  from_row : is_valid g ≡ true → rel < length g.catalog.rels → (way : Direction) (place number : ℕ) → first_number g rel way place ≡ Some number → place < near_rows g rel way
  from_row valid within way place number is =
      row_within (near_rows g rel way) place (near_ends g rel way) (range_with_len 0 (length (near_ends g rel way))) (length-range (near_ends g rel way)) (ends_below g rel valid within way) (λ none. not_none (sym is ∙ none))
    where
      not_none : {x : ℕ} → Some x ≡ None → ⊥
      not_none k = cc k

  -- where a relationship is, there is a place
  place_in_within : is_valid g ≡ true → rel < length g.catalog.rels → (backward : Side) (places : Places) → ArePlaces g rel backward places → (mult : Option Mult) → mult_at g rel ≡ mult → (place number : ℕ)
      → number_in g rel mult place ≡ Some number → place < place_count_in g rel mult
  place_in_within valid within backward places at None of place number is = cc is
  place_in_within valid within backward places at (Some ManyMany) of place number is =
      let p = in_pages g rel backward places of at in
      let low : place < length (by_source g rel) = slice_get_within (by_source g rel) place number is in
      omega (arith, low, ap (λ (l : List (List ℕ)). length (concat l)) p.paged.pages_of, p.paged.size, length-ends g rel valid within Forward)
  place_in_within valid within backward places at (Some ManyOne) of place number is = from_row valid within Forward place number is
  place_in_within valid within backward places at (Some OneOne) of place number is = from_row valid within Forward place number is
  place_in_within valid within backward places at (Some OneMany) of place number is = from_row valid within Backward place number is

  pub place_within : is_valid g ≡ true → rel < length g.catalog.rels → (links : Links) → IsLinked g rel links → (place number : ℕ) → number_at g rel place ≡ Some number → place < place_count g rel
  place_within valid within links linked place number is = place_in_within valid within links.backward links.places linked.places (mult_at g rel) refl place number is

  linked_at : (links : List Links) → AreLinked g links → rel < length links → (one : Links) × IsLinked g rel one
  linked_at [] s low = absurd (omega (arith, low))
  linked_at (one ∷ links) s low = (get_or (one ∷ links) rel one, s.each rel one low)

  pub place_reach : is_valid g ≡ true → rel < length g.catalog.rels → (links : List Links) → AreLinked g links → (place number : ℕ) → number_at g rel place ≡ Some number → place < place_count g rel
  place_reach valid within links s place number is =
      let (one, linked) = linked_at links s (omega (arith, s.len, within)) in
      place_within valid within one linked place number is

  pub length-rel_cells : (property : ℕ) → length (rel_cells g rel property) ≡ place_count g rel
  length-rel_cells property = length-map (numbers_by_place g rel) (λ number. cell_numbered property (rels_at g rel) number) ∙ length-numbers

  -- the cell at the place of a number is the cell of its relationship
  pub rel_column_at : (property place number : ℕ) → place < place_count g rel → number_at g rel place ≡ Some number → get_or (rel_cells g rel property) place None ≡ rel_cell g rel property number
  rel_column_at property place number h is =
      let f : Option ℕ → Option Cell = λ n. cell_numbered property (rels_at g rel) n in
      get_or-map f (numbers_by_place g rel) place None None (omega (arith, length-numbers, h)) ∙ ap f (number_by_place place h ∙ is)

-- ---- columns whose rows are places

module _ (g : Graph) (rel : ℕ) (links : Links) (linked : IsLinked g rel links) where
  -- a side of one relationship at most is not kept as lists
  pub not_lists : (way : Direction) (lists : Adjacency) → side way links ≡ Listed lists → is_listed g rel way ≡ false → ⊥
  not_lists way lists is single =
      let k = kept_lists (is_listed g rel way) _ _ _ (side way links) lists (linked.sides way) is in
      clash (sym k.0 ∙ single)

  pub column_length : (way : Direction) (column : List (Option Pair)) → side way links ≡ Single column → length column ≡ near_rows g rel way
  column_length way column is =
      let k = kept_column (is_listed g rel way) _ _ _ (side way links) column (linked.sides way) is in
      k.1.len

  module _ (place : ℕ) (low : place < place_count g rel) where
    -- what a column says of a place that is one of its rows
    told : (way : Direction) (column : List (Option Pair)) → side way links ≡ Single column → place_count g rel ≡ near_rows g rel way → number_at g rel place ≡ first_number g rel way place
        → (place < length column) × (option_map (λ (p : Pair). p.number) (pair_at column place) ≡ number_at g rel place)
    told way column is count number =
        let here = single_row g rel place way (side way links) column (linked.sides way) is (omega (arith, low, count)) in
        (here.within, here.number ∙ sym number)

    pub source_told : (ends : _) (column : List (Option Pair)) → links.places ≡ Sources ends → links.forward ≡ Single column
        → (place < length column) × (option_map (λ (p : Pair). p.number) (pair_at column place) ≡ number_at g rel place)
    source_told ends column at is =
        let single = (sources_is g rel links ends linked at).0 in
        told Forward column is (count_at_source g rel single) (number_at_source g rel place single)

    pub target_told : (ends : _) (column : List (Option Pair)) → links.places ≡ Targets ends → links.backward ≡ Single column
        → (place < length column) × (option_map (λ (p : Pair). p.number) (pair_at column place) ≡ number_at g rel place)
    target_told ends column at is =
        let (listed, single, same) = targets_is g rel links ends linked at in
        told Backward column is (count_at_target g rel listed single) (number_at_target g rel place listed single)

-- the cell of a property at the place of a number, in a graph that is stored
pub stored_rel_cell : (of g : Graph) (catalog : Tables) (nodes rels : List TableCells) (links : List Links) → IsStored of catalog nodes rels links → of ≡ g
    → (rel property place number : ℕ) (cells : List (Option Cell)) → rel < length g.catalog.rels → number_at g rel place ≡ Some number → cells ≡ rel_cells g rel property
    → (place < length cells) × (get_or cells place None ≡ rel_cell g rel property number)
stored_rel_cell of g catalog nodes rels links stored view rel property place number cells within is are =
    let s : IsStored g catalog nodes rels links = subst (λ (p : Graph). IsStored p catalog nodes rels links) view stored in
    let reach : place < place_count g rel = place_reach g rel s.valid within links s.linked place number is in (
      omega (arith, ap (λ (l : List (Option Cell)). length l) are, length-rel_cells g rel property, reach),
      ap (λ (l : List (Option Cell)). get_or l place None) are ∙ rel_column_at g rel property place number reach is,
    )

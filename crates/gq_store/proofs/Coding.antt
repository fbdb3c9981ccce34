-- Cells as integers, and back.
use Rattle.std.proofs.Common.{◌≡◌, ℕ, ℤ, pos, ◌+◌, ◌<◌, ◌^◌, Bool, List, [], ◌∷◌, ◌++◌, Some, None, Option, true, false, length, get_or, drop, map, refl, sym, ap, ◌∙◌, subst, arith, inl, inr, Bor, T, Fits, w32, w64, to_z, of_z}
use Rattle.std.specs.Prelude.{Contains, All, ◌↔◌}
use Rattle.std.proofs.Math.Facts.{to_z_pos}
use Rattle.std.proofs.Math.IntN.{nat_abs}
use Rattle.std.specs.Int.Signed.{non_neg}
use Rattle.std.proofs.lemmas.Bool.{cases_lt, true≢false}
use Rattle.std.proofs.lemmas.List.{drop_more, ext_get_or, get_or-map, length-append, length-map, get_or_append_left, get_or-append-add, length_push}
use Rattle.std.proofs.lemmas.List.Elements.{All-head, All-tail}
use Rattle.gq_base.specs.Valid.{is_of_kind}
use Rattle.gq_base.specs.declared.catalog.Kind.{Kind}
use Rattle.gq_base.specs.declared.catalog.Kind.TheVariants as kind
use Rattle.gq_base.specs.declared.cell.Cell.{Cell}
use Rattle.gq_base.specs.declared.cell.Cell.TheVariants as cell
use Rattle.gq_dict.specs.Texts.{AreCodes, IsAscending, text_at}
use Rattle.gq_store.specs.Columns.{AreCells, IsCellOf, IsCode, IsDictOf, IsKept, cell_of, cells_of, flag_code, flag_of, natural, texts_in}

-- ---- one cell

flag_back : (b : Bool) → flag_of (flag_code b) ≡ b
flag_back true = refl
flag_back false = refl

code_back : (dict : List (List ℕ)) (s : List ℕ) (z : ℤ) → IsCode dict s z → text_at dict (natural z) ≡ s
code_back dict s z c = ap (λ y. text_at dict (natural y)) c.is ∙ c.text_is

-- an integer that stands for a cell of the kind gives the cell back
pub cell_back : (k : Kind) (dict : List (List ℕ)) (c : Option Cell) (z : Option ℤ) → is_of_kind k c ≡ true → IsCellOf dict c z → cell_of k dict z ≡ c
cell_back k dict None z h is = rw is refl
cell_back kind.Int dict (Some (cell.Int y)) z h is = rw is refl
cell_back kind.Flag dict (Some (cell.Flag b)) z h is = rw is (ap (λ x. Some (cell.Flag x)) (flag_back b))
cell_back kind.Str dict (Some (cell.Str s)) z h is = let (y, same, code) = is in rw same (ap (λ x. Some (cell.Str x)) (code_back dict s y code))
cell_back kind.Int dict (Some (cell.Str s)) z h is = absurd (true≢false (sym h))
cell_back kind.Int dict (Some (cell.Flag b)) z h is = absurd (true≢false (sym h))
cell_back kind.Flag dict (Some (cell.Int y)) z h is = absurd (true≢false (sym h))
cell_back kind.Flag dict (Some (cell.Str s)) z h is = absurd (true≢false (sym h))
cell_back kind.Str dict (Some (cell.Int y)) z h is = absurd (true≢false (sym h))
cell_back kind.Str dict (Some (cell.Flag b)) z h is = absurd (true≢false (sym h))

-- ---- columns

-- the integers of the first n cells
pub record AreCellsBelow (n : ℕ) (dict : List (List ℕ)) (cells : List (Option Cell)) (column : List (Option ℤ)) : Type 0 where
  pub len : length column ≡ n
  pub each : (row : ℕ) → row < n → IsCellOf dict (get_or cells row None) (get_or column row None)

pub no_cells : (dict : List (List ℕ)) (cells : List (Option Cell)) → AreCellsBelow 0 dict cells []
no_cells dict cells = record { len = refl; each = λ row h. absurd (omega arith) }

pub cells_more : (n : ℕ) (dict : List (List ℕ)) (cells : List (Option Cell)) (column : List (Option ℤ)) (z : Option ℤ) → AreCellsBelow n dict cells column
    → IsCellOf dict (get_or cells n None) z → AreCellsBelow (n + 1) dict cells (column ++ z ∷ [])
cells_more n dict cells column z s here = record {
  len = (let had : length column ≡ n = s.len in omega (arith, length_push column z));
  each = λ row h. elim (cases_lt row n) [
    | inl before ↦
        (let had : length column ≡ n = s.len in
        let is : get_or (column ++ z ∷ []) row None ≡ get_or column row None = get_or_append_left column (z ∷ []) None row (omega arith) in
        rw is (s.each row before))
    | inr last ↦
        (let had : length column ≡ n = s.len in
        let same : row ≡ n = omega arith in
        let plus : n ≡ length column + 0 = omega arith in
        let is : get_or (column ++ z ∷ []) n None ≡ z = ap (λ j. get_or (column ++ z ∷ []) j None) plus ∙ get_or-append-add column (z ∷ []) 0 None in
        rw (same, is) here)
  ];
}

pub all_cells : (n : ℕ) (dict : List (List ℕ)) (cells : List (Option Cell)) (column : List (Option ℤ)) → n ≡ length cells → AreCellsBelow n dict cells column → AreCells dict cells column
all_cells n dict cells column all s = record { len = s.len ∙ all; each = λ row h. s.each row (omega (arith, all, h)) }

-- a column of cells of one kind stands for them
pub cells_back : (k : Kind) (dict : List (List ℕ)) (cells : List (Option Cell)) (column : List (Option ℤ)) → All (λ c. is_of_kind k c ≡ true) cells → AreCells dict cells column → cells_of k dict column ≡ cells
cells_back k dict cells column kinds s =
    let f : Option ℤ → Option Cell = λ z. cell_of k dict z in
    let size : length (map f column) ≡ length column = length-map column f in
    ext_get_or None (map f column) cells (size ∙ s.len) (λ row h.
    let low : row < length cells = omega (arith, h, size, s.len) in
    get_or-map f column row None None (omega (arith, h, size)) ∙ cell_back k dict (get_or cells row None) (get_or column row None) (kinds row None low) (s.each row low))

-- borrowed cells, of one kind, are kept by their integers
pub kept : (k : Kind) (dict : List (List ℕ)) (cells : List (Bor (Option Cell))) (codes column : List (Option ℤ)) (texts : List (Bor (List ℕ))) → length cells < 2 ^ 32 → length dict < 2 ^ 32
    → All (λ c. is_of_kind k c ≡ true) (map (λ (c : Bor (Option Cell)). c.now) cells) → IsAscending dict → ((text : List ℕ) → Contains dict text ↔ Contains (map (λ (t : Bor (List ℕ)). t.now) texts) text)
    → map (λ (t : Bor (List ℕ)). t.now) texts ≡ texts_in (map (λ (c : Bor (Option Cell)). c.now) cells) → AreCells dict (map (λ (c : Bor (Option Cell)). c.now) cells) codes → column ≡ codes
    → (cells_of k dict column ≡ map (λ (c : Bor (Option Cell)). c.now) cells) × IsKept k dict column
kept k dict cells codes column texts few fewer kinds asc same told s is =
    let f : Bor (Option Cell) → Option Cell = λ c. c.now in
    let size : length (map f cells) ≡ length cells = length-map cells f in
    let of : AreCells dict (map f cells) column = subst (AreCells dict (map f cells)) (sym is) s in
    let back = cells_back k dict (map f cells) column kinds of in
    let d : IsDictOf (map f cells) dict = record { ascending = asc; same = subst (λ l. (text : List ℕ) → Contains dict text ↔ Contains l text) told same } in (
      back,
      record { few = omega (arith, few, size, of.len); few_texts = fewer; dict_of = subst (λ l. IsDictOf l dict) (sym back) d; cells = subst (λ l. AreCells dict l column) (sym back) of },
    )

-- ---- reading

pub cell_read : (k : Kind) (dict : List (List ℕ)) (column : List (Option ℤ)) (row : ℕ) → row < length column → get_or (cells_of k dict column) row None ≡ cell_of k dict (get_or column row None)
cell_read k dict column row h = get_or-map (λ z. cell_of k dict z) column row None None h

pub text_code : (dict : List (List ℕ)) (column : List (Option ℤ)) (row : ℕ) (z : ℤ) → IsKept kind.Str dict column → row < length column → get_or column row None ≡ Some z → (code : ℕ) × (z ≡ pos code) × (code < length dict)
text_code dict column row z s h is =
    let size : length (cells_of kind.Str dict column) ≡ length column = length-map column (λ c. cell_of kind.Str dict c) in
    let here : get_or (cells_of kind.Str dict column) row None ≡ Some (cell.Str (text_at dict (natural z))) = cell_read kind.Str dict column row h ∙ ap (cell_of kind.Str dict) is in
    go (subst (IsCellOf dict (Some (cell.Str (text_at dict (natural z))))) is (subst (λ c. IsCellOf dict c (get_or column row None)) here (s.cells.each row (omega (arith, size, h)))))
  where
    some_same : {a b : ℤ} → Some a ≡ Some b → a ≡ b
    some_same e = cc e

    go : IsCellOf dict (Some (cell.Str (text_at dict (natural z)))) (Some z) → (code : ℕ) × (z ≡ pos code) × (code < length dict)
    go found = let (y, same, code) = found in (code.code, some_same same ∙ code.is, code.within)

cast_fits : (z : ℤ) (n : ℕ) → z ≡ pos n → n < 2 ^ 32 → T (non_neg (to_z w64 (of_z w64 z))) × Fits w32 (nat_abs (to_z w64 (of_z w64 z)))
cast_fits z n is h =
    let low : n < 2 ^ 63 = omega (arith, h) in
    let e : to_z w64 (of_z w64 (pos n)) ≡ pos n = to_z_pos w64 low in
    rw (is, e) (tt, record { fits = h })

pub code_fits : (dict : List (List ℕ)) (column : List (Option ℤ)) (row : ℕ) (z : ℤ) → IsKept kind.Str dict column → row < length column → get_or column row None ≡ Some z → T (non_neg (to_z w64 (of_z w64 z))) × Fits w32 (nat_abs (to_z w64 (of_z w64 z)))
code_fits dict column row z s h is =
    let (n, same, low) = text_code dict column row z s h is in
    cast_fits z n same (omega (arith, low, s.few_texts))

-- ---- texts

-- cells of a kind that is not that of texts have none
pub no_texts : (k : Kind) (cells : List (Option Cell)) → ((s : List ℕ) → is_of_kind k (Some (cell.Str s)) ≡ false) → All (λ c. is_of_kind k c ≡ true) cells → texts_in cells ≡ []
no_texts k [] other kinds = refl
no_texts k (None ∷ cells) other kinds = no_texts k cells other (All-tail (λ c. is_of_kind k c ≡ true) None cells kinds)
no_texts k (Some (cell.Int z) ∷ cells) other kinds = no_texts k cells other (All-tail (λ c. is_of_kind k c ≡ true) (Some (cell.Int z)) cells kinds)
no_texts k (Some (cell.Flag b) ∷ cells) other kinds = no_texts k cells other (All-tail (λ c. is_of_kind k c ≡ true) (Some (cell.Flag b)) cells kinds)
no_texts k (Some (cell.Str s) ∷ cells) other kinds = absurd (true≢false (sym (All-head (λ c. is_of_kind k c ≡ true) (Some (cell.Str s)) cells kinds) ∙ other s))

pub texts_in-cons : (c : Option Cell) (cells : List (Option Cell)) → texts_in (c ∷ cells) ≡ texts_in (c ∷ []) ++ texts_in cells
texts_in-cons None cells = refl
texts_in-cons (Some (cell.Int z)) cells = refl
texts_in-cons (Some (cell.Flag b)) cells = refl
texts_in-cons (Some (cell.Str s)) cells = refl

-- the first of the codes is that of the first text, and the others are those of the others
pub first_code : (dict : List (List ℕ)) (s : List ℕ) (texts : List (List ℕ)) (code : ℕ) (codes : List ℕ) → AreCodes dict (s ∷ texts) (code ∷ codes) → IsCode dict s (pos code) × AreCodes dict texts codes
first_code dict s texts code codes a = (
  record { code = code; is = refl; within = All-head (λ c. c < length dict) code codes a.within; text_is = ap (λ l. get_or l 0 []) a.same },
  record { within = All-tail (λ c. c < length dict) code codes a.within; same = ap (drop 1) a.same },
)

pub code_count : (dict texts : List (List ℕ)) (codes : List ℕ) → AreCodes dict texts codes → length codes ≡ length texts
code_count dict texts codes a = sym (length-map codes (λ code. text_at dict code)) ∙ ap length a.same

-- the integers of the first n cells, and the codes of the texts among the others
pub record AreIntegers (n : ℕ) (cells : List (Option Cell)) (codes left : List ℕ) (column : List (Option ℤ)) : Type 0 where
  pub size : length left ≡ length (texts_in (drop n cells))
  pub each : (dict : List (List ℕ)) → AreCodes dict (texts_in cells) codes → AreCellsBelow n dict cells column × AreCodes dict (texts_in (drop n cells)) left

pub no_integers : (cells : List (Option Cell)) (codes : List ℕ) → length codes ≡ length (texts_in cells) → AreIntegers 0 cells codes codes []
no_integers cells codes size = record { size = size; each = λ dict a. (no_cells dict cells, a) }

pub left_texts : (n : ℕ) (cells : List (Option Cell)) (c : Option Cell) → n < length cells → get_or cells n None ≡ c → texts_in (drop n cells) ≡ texts_in (c ∷ []) ++ texts_in (drop (n + 1) cells)
left_texts n cells c h is = ap texts_in (drop_more cells n None h) ∙ texts_in-cons (get_or cells n None) (drop (n + 1) cells) ∙ ap (λ d. texts_in (d ∷ []) ++ texts_in (drop (n + 1) cells)) is

pub integers_more : (n : ℕ) (cells : List (Option Cell)) (codes left rest : List ℕ) (column : List (Option ℤ)) (c : Option Cell) (z : Option ℤ) → AreIntegers n cells codes left column → n < length cells
    → get_or cells n None ≡ c → length (texts_in (c ∷ [])) + length rest ≡ length left
    → ((dict others : List (List ℕ)) → AreCodes dict (texts_in (c ∷ []) ++ others) left → IsCellOf dict c z × AreCodes dict others rest) → AreIntegers (n + 1) cells codes rest (column ++ z ∷ [])
integers_more n cells codes left rest column c z s h is size next =
    let more = left_texts n cells c h is in
    record {
      size = omega (arith, size, s.size, ap length more, length-append (texts_in (c ∷ [])) (texts_in (drop (n + 1) cells)));
      each = λ dict a.
          let had = s.each dict a in
          let now = next dict (texts_in (drop (n + 1) cells)) (subst (λ l. AreCodes dict l left) more had.1) in
          (cells_more n dict cells column z had.0 (rw is now.0), now.1);
    }

-- A row that is read from its last level.
use Rattle.std.proofs.Common.{◌≡◌, ◌∙◌, ap, refl, sym, ℕ, ◌+◌, ◌-◌, ◌<◌, ◌≤◌, Some, None, List, [], ◌∷◌, ◌++◌, length, take, slice_get, slice_index_or, arith, append-nil, length-take, inl, inr}
use Rattle.std.specs.Global.{Global}
use Rattle.std.specs.Option.{option_map}
use Rattle.std.proofs.lemmas.List.{get_or-take, map-append, take_all, take_more}
use Rattle.std.proofs.lemmas.Option.{get_or_from_slice_get, slice_get-map, unwrap_or-slice_get}
use Rattle.std.specs.Prelude.{Vec, flat_map, unwrap_or}
use Rattle.std.proofs.lemmas.Grind.{flat_map-append}
use Rattle.gq_classes.specs.steps.Inner.{HasCount}
use Rattle.gq_base.specs.Values.{Val}
use Rattle.gq_classes.specs.declared.key.Key.{Key}
use Rattle.gq_classes.specs.steps.Levels.{front_of, key_val, lists_of, longer, rows_from}
use Rattle.gq_classes.proofs.Paths.{Rows, Texts}

rows_last : (t : Texts) (fronts : Rows) (ls : List (List Key)) (keys : List Key) → rows_from t fronts (ls ++ keys ∷ []) ≡ longer t (rows_from t fronts ls) keys
rows_last t fronts [] keys = refl
rows_last t fronts (l ∷ ls) keys = rows_last t (longer t fronts l) ls keys

but_last : (levels : List (Vec Key Global)) (level : Vec Key Global) → 1 ≤ length levels → level ≡ slice_index_or levels (length levels - 1) level → levels ≡ take (length levels - 1) levels ++ level ∷ []
but_last levels level some is =
    sym (take_all (length levels) levels (omega arith)) ∙ ap (λ n. take n levels) (let n : length levels ≡ length levels - 1 + 1 = omega (arith, some) in n)
    ∙ take_more levels (length levels - 1) level (omega (arith, some)) ∙ ap (λ l. take (length levels - 1) levels ++ l ∷ []) (sym is)

module _ (t : Texts) (fronts : Rows) (levels : List (Vec Key Global)) (level : Vec Key Global) (some : 1 ≤ length levels) (is : level ≡ slice_index_or levels (length levels - 1) level) (n : ℕ) where
  abbrev before : Rows
  before = rows_from t fronts (lists_of (take (length levels - 1) levels))

  whole : rows_from t fronts (lists_of levels) ≡ longer t before level.items
  whole =
      ap (λ l. rows_from t fronts (lists_of l)) (but_last levels level some is) ∙ ap (rows_from t fronts) (map-append (λ (l : Vec Key Global). l.items) (take (length levels - 1) levels) (level ∷ []))
      ∙ rows_last t fronts (lists_of (take (length levels - 1) levels)) level.items

  abbrev row_of : Key → List Val
  row_of k = slice_index_or before (front_of k) [] ++ key_val t k ∷ []

  pub no_row : slice_get level.items n ≡ None → slice_index_or (rows_from t fronts (lists_of levels)) n [] ≡ []
  no_row none =
      ap (λ l. slice_index_or l n []) whole ∙ sym (unwrap_or-slice_get (longer t before level.items) n [])
      ∙ ap (λ o. unwrap_or o []) (slice_get-map row_of level.items n ∙ ap (option_map row_of) none)

  pub row_read : (k : Key) → slice_get level.items n ≡ Some k → slice_index_or (rows_from t fronts (lists_of levels)) n [] ≡ slice_index_or before (front_of k) [] ++ key_val t k ∷ []
  row_read k at =
      ap (λ l. slice_index_or l n []) whole
      ∙ get_or_from_slice_get (longer t before level.items) n (row_of k) [] (slice_get-map row_of level.items n ∙ ap (option_map row_of) at)

-- ---- rows one after another

pub counted : (rows : Rows) (levels : List (List Key)) (count : ℕ) → HasCount rows levels count → count ≤ length rows
counted rows levels count (inl e) = omega (arith, e)
counted rows levels count (inr (e, none)) = omega (arith, none)

get_counted : (rows : Rows) (count n : ℕ) → n < count → slice_index_or (take count rows) n [] ≡ slice_index_or rows n []
get_counted rows count n lt = get_or-take count rows n [] lt

pub one_more : (rows : Rows) (count n : ℕ) → n < count → count ≤ length rows → flat_map (λ (row : List Val). row) (take (n + 1) (take count rows)) ≡ flat_map (λ (row : List Val). row) (take n (take count rows)) ++ slice_index_or rows n []
one_more rows count n lt few =
    let front = take n (take count rows) in
    ap (flat_map (λ (row : List Val). row)) (take_more (take count rows) n [] (omega (arith, length-take count rows, lt, few)) ∙ ap (λ r. front ++ r ∷ []) (get_counted rows count n lt))
    ∙ flat_map-append (λ (row : List Val). row) front (slice_index_or rows n [] ∷ [])
    ∙ ap (λ r. flat_map (λ (row : List Val). row) front ++ r) (append-nil (slice_index_or rows n []))

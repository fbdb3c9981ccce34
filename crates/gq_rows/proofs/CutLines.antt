-- Lines that are cut from a list of values, and those that a listing has.
use Rattle.std.proofs.Common.{◌≡◌, ℕ, ◌+◌, ◌-◌, ◌*◌, ◌<◌, ◌≤◌, zero, suc, min, List, [], ◌∷◌, length, map, take, drop, get_or, Option, Some, None, refl, sym, subst, ap, ap₂, ◌∙◌, arith, length-append, length-take}
use Rattle.std.specs.Prelude.{flat_map, option_map}
use Rattle.std.specs.List.{All}
use Rattle.std.proofs.Math.Nat.{mul-le-mul_right}
use Rattle.std.proofs.lemmas.List.{drop-drop, drop-map, drop_at, get_or-drop, get_or-take, length-drop, take_all, take_at, take_min}
use Rattle.std.proofs.lemmas.List.Concat.{flat_map-cons}
use Rattle.std.proofs.lemmas.List.Elements.{All-tail}
use Rattle.gq_base.specs.Values.{Val, null}
use Rattle.gq_plan.specs.Outcomes.{Row}
use Rattle.gq_plan.specs.declared.bound.Bound.{Bound}
use Rattle.gq_kept.specs.Answers.{at_most, columns_of, first_of, most_listed, window}
use Rattle.gq_rows.specs.steps.Lines.{HasLines, cut_lines, lines_of, values_of}
use Rattle.gq_kept.specs.Tables.{Held, HoldsRows}
use Rattle.gq_rows.specs.declared.listing.Lines.TheInside.{Inside}
use Rattle.gq_kept.proofs.Tops.{cut-window}

-- ---- lines

length_cut : {A : Type 0} (n w : ℕ) (vs : List A) → length (cut_lines n w vs) ≡ n
length_cut zero w vs = refl
length_cut (suc n) w vs = ap suc (length_cut n w (drop w vs))

cut_at : {A : Type 0} (n w : ℕ) (vs : List A) (i : ℕ) (d : List A) → i < n → get_or (cut_lines n w vs) i d ≡ take w (drop (i * w) vs)
cut_at zero w vs i d lt = absurd (omega arith)
cut_at (suc n) w vs zero d lt = ap (λ k. take w (drop k vs)) (let e : 0 ≡ 0 * w = omega arith in e)
cut_at (suc n) w vs (suc i) d lt =
    let e : w + i * w ≡ suc i * w = omega arith in
    cut_at n w (drop w vs) i d (omega arith) ∙ ap (take w) (drop-drop (i * w) w vs) ∙ ap (λ k. take w (drop k vs)) e

-- the lines of the values of rows
cut_rows : {X A : Type 0} (w : ℕ) (f : X → List A) (n : ℕ) (xs : List X) → n ≤ length xs → All (λ x. length (f x) ≡ w) xs → cut_lines n w (flat_map f xs) ≡ map f (take n xs)
cut_rows w f zero xs h sized = refl
cut_rows w f (suc n) [] h sized = absurd (omega arith)
cut_rows w f (suc n) (x ∷ xs) h sized =
    let size : length (f x) ≡ w = sized 0 x (omega arith) in
    ap (λ vs. take w vs ∷ cut_lines n w (drop w vs)) (flat_map-cons f x xs)
    ∙ ap₂ (λ line vs. line ∷ cut_lines n w vs) (take_at (f x) (flat_map f xs) w size) (drop_at (f x) (flat_map f xs) w size)
    ∙ ap (λ lines. f x ∷ lines) (cut_rows w f n xs (omega arith) (All-tail (λ y. length (f y) ≡ w) x xs sized))

flat-length : {X A : Type 0} (w : ℕ) (f : X → List A) (xs : List X) → All (λ x. length (f x) ≡ w) xs → length (flat_map f xs) ≡ length xs * w
flat-length w f [] h = omega arith
flat-length w f (x ∷ xs) h =
    omega (arith, ap length (flat_map-cons f x xs), length-append (f x) (flat_map f xs), flat-length w f xs (All-tail (λ y. length (f y) ≡ w) x xs h), h 0 x (omega arith))

-- ---- the window of rows

window-by : {X : Type 0} (skip : ℕ) (limit : Option ℕ) (xs : List X) → drop skip (take (at_most (option_map (λ l. skip + l) limit) (length xs)) xs) ≡ first_of limit (drop skip xs)
window-by skip None xs = ap (drop skip) (take_all (length xs) xs (omega arith))
window-by skip (Some count) xs =
    let turned : min (length xs) (skip + count) ≡ min (skip + count) (length xs) = omega arith in
    ap (λ k. drop skip (take k xs)) turned ∙ ap (drop skip) (take_min (skip + count) xs) ∙ cut-window skip count xs

most-within : (o : Option ℕ) (count : ℕ) → at_most o count ≤ count
most-within None count = omega arith
most-within (Some n) count = omega arith

module _ (b : Bound) (list : List Row) (v : Held) (h : HoldsRows (length b.columns) (length b.keys) list v) where
  columns_sized : All (λ (r : Row). length r.columns ≡ length b.columns) list
  columns_sized = λ k d lt. (h.sized k d lt).0

  pub windowed : (width skip end : ℕ) → width ≡ length b.columns → skip ≡ b.skip → end ≡ at_most (most_listed b) v.count → drop skip (cut_lines end width v.columns) ≡ columns_of (window b list)
  windowed width skip end w s e =
      let last : ℕ = at_most (most_listed b) (length list) in
      let ends : end ≡ last = e ∙ ap (at_most (most_listed b)) h.count in
      ap₂ (λ k n. drop k (cut_lines n width v.columns)) s ends
      ∙ ap₂ (λ n vs. drop b.skip (cut_lines last n vs)) w h.columns
      ∙ ap (drop b.skip) (cut_rows (length b.columns) (λ (r : Row). r.columns) last list (most-within (most_listed b) (length list)) columns_sized)
      ∙ drop-map (λ (r : Row). r.columns) b.skip (take last list)
      ∙ ap columns_of (window-by b.skip b.limit list)

  pub wide : (width end : ℕ) → width ≡ length b.columns → end ≡ at_most (most_listed b) v.count → end * width ≤ length v.columns
  wide width end w e =
      let all : length v.columns ≡ length list * length b.columns =
      ap length h.columns ∙ flat-length (length b.columns) (λ (r : Row). r.columns) list columns_sized in
      let within : end * length b.columns ≤ length list * length b.columns = mul-le-mul_right (length b.columns) (omega (arith, e, most-within (most_listed b) v.count, h.count)) in
      omega (arith, within, all, ap (λ k. end * k) w)

-- ---- the lines of a listing

pub lines_len : (l : Inside) → length (lines_of l) ≡ l.end - l.skip
lines_len l = length-drop l.skip (cut_lines l.end l.width (values_of l.values)) ∙ ap (λ n. n - l.skip) (length_cut l.end l.width (values_of l.values))

module _ (l : Inside) (has : HasLines l) where
  -- a line's values are there
  pub line_within : (i : ℕ) → i < l.end → i * l.width + l.width ≤ length (values_of l.values)
  line_within i lt =
      let rows : (i + 1) * l.width ≤ l.end * l.width = mul-le-mul_right l.width (omega (arith, lt)) in
      omega (arith, rows, has.values)

  pub line_get : (row : ℕ) (d : List Val) → row < length (lines_of l) → get_or (lines_of l) row d ≡ take l.width (drop ((l.skip + row) * l.width) (values_of l.values))
  line_get row d lt =
      get_or-drop l.skip (cut_lines l.end l.width (values_of l.values)) row d
      ∙ cut_at l.end l.width (values_of l.values) (l.skip + row) d (omega (arith, lt, lines_len l))

  pub lines_width : All (λ line. length line ≡ l.width) (lines_of l)
  lines_width k d lt =
      let i = l.skip + k in
      ap length (line_get k d lt)
      ∙ omega (arith, length-take l.width (drop (i * l.width) (values_of l.values)), length-drop (i * l.width) (values_of l.values), line_within i (omega (arith, lt, lines_len l)))

  -- where the value of a line stands among all values
  pub value_within : (row column : ℕ) → row < length (lines_of l) → column < length (get_or (lines_of l) row []) → (l.skip + row) * l.width + column < length (values_of l.values)
  value_within row column lt within =
      let wide : length (get_or (lines_of l) row []) ≡ l.width = lines_width row [] lt in
      omega (arith, within, wide, line_within (l.skip + row) (omega (arith, lt, lines_len l)))

  pub value_get : (row column : ℕ) → row < length (lines_of l) → column < length (get_or (lines_of l) row [])
      → get_or (values_of l.values) ((l.skip + row) * l.width + column) null ≡ get_or (get_or (lines_of l) row []) column null
  value_get row column lt within =
      let start : ℕ = (l.skip + row) * l.width in
      let wide : length (get_or (lines_of l) row []) ≡ l.width = lines_width row [] lt in
      sym (ap (λ line. get_or line column null) (line_get row [] lt)
      ∙ get_or-take l.width (drop start (values_of l.values)) column null (omega (arith, within, wide))
      ∙ get_or-drop start (values_of l.values) column null)

  -- the same of a line that stands so many lines behind another one
  pub value_behind : (first k column : ℕ) → first + k < length (lines_of l) → column < length (get_or (lines_of l) (first + k) []) → ((l.skip + first) * l.width + column + k * l.width < length (values_of l.values))
      × (get_or (values_of l.values) ((l.skip + first) * l.width + column + k * l.width) null ≡ get_or (get_or (lines_of l) (first + k) []) column null)
  value_behind first k column lt within =
      let place : (l.skip + (first + k)) * l.width + column ≡ (l.skip + first) * l.width + column + k * l.width = omega arith in (
        omega (arith, place, value_within (first + k) column lt within),
        ap (λ n. get_or (values_of l.values) n null) (sym place) ∙ value_get (first + k) column lt within,
      )

-- each line has so many values as the lines are wide
pub wide_lines : (w : ℕ) (l : Inside) → HasLines l → l.width ≡ w → All (λ line. length line ≡ w) (lines_of l)
wide_lines w l has is = subst (λ n. All (λ line. length line ≡ n) (lines_of l)) is (lines_width l has)

-- What is remembered of a test, when more rows were tried, and what it says of a list.
use mathlib.Core.Path.{fun_ext}
use Rattle.std.proofs.Common.{◌≡◌, ◌≤◌, ◌<◌, ◌+◌, ◌-◌, ◌++◌, [], ◌∙◌, refl, sym, ap, ℕ, List, Bool, Option, Some, None, true, false, cond, length, drop, take, subst, inl, inr, arith}
use Rattle.std.specs.Prelude.{◌&&◌, All, nat_lt, slice_get, slice_index}
use Rattle.std.proofs.lemmas.Bool.{cases_lt, lt-ltb}
use Rattle.std.proofs.lemmas.List.{get_or-append_right, get_or-drop, get_or-take, get_or_append_left, length-append, length-take}
use Rattle.std.proofs.lemmas.List.Elements.{All-get_or}
use Rattle.gq_bits.specs.Places.{is_marked}
use Rattle.gq_row_sets.specs.Rows.{RowsTold, also_told, next_end}
use Rattle.gq_filter.specs.LaneTests.{holds}
use Rattle.gq_filter.specs.declared.source.Feed.{Feed}
use Rattle.gq_filter.specs.declared.lane_test.LaneTest.{LaneTest}
use Rattle.gq_filter.specs.steps.Recalling.{TellsOf, TellsTest}
use Rattle.gq_filter.specs.RowLists.{cells_at, feed_cell}
use Rattle.gq_filter.specs.steps.SpanLanes.{span_cell}

-- the cells of rows that follow one another are those of each row
module _ (feeds : List Feed) (low high k : ℕ) (below : k < high - low) where
  one_cell : (o : Option Feed) → span_cell low high o k ≡ feed_cell (low + k) o
  one_cell None = refl
  one_cell (Some feed) = get_or-take (high - low) (drop low feed.property.now.column) k None below ∙ get_or-drop low feed.property.now.column k None

  span_cells : (λ lane. span_cell low high (slice_get feeds lane) k) ≡ cells_at feeds (low + k)
  span_cells = fun_ext (λ lane. one_cell (slice_get feeds lane))

-- nothing is told yet
pub tells_none : (feeds : List Feed) (test : Option LaneTest) (told : List Bool) → told ≡ [] → TellsOf feeds test told
tells_none feeds None told e = tt
tells_none feeds (Some test) told e = λ row h. absurd (let none = ap length e in omega (arith, h, none))

module _ (feeds : List Feed) (test : LaneTest) (told : List Bool) (tells : TellsTest feeds test told) where
  -- the rows up to one more, which were tried by the kernels
  pub tells_more : (high : ℕ) (first marks : List Bool) → ((k : ℕ) → is_marked first k ≡ nat_lt k (high - length told))
      → ((k : ℕ) → is_marked marks k ≡ (is_marked first k && holds (λ lane. span_cell (length told) high (slice_get feeds lane) k) test)) → TellsTest feeds test (told ++ take (high - length told) marks)
  tells_more high first marks all kept row h = elim (cases_lt row (length told)) [
    | inl low ↦ get_or_append_left told (take (high - length told) marks) false row low ∙ tells row low
    | inr late ↦
        (let k : ℕ = row - length told in
        let both = length-append told (take (high - length told) marks) in
        let part = length-take (high - length told) marks in
        let below : k < high - length told = omega (arith, h, late, both, part) in
        let there : length told + k ≡ row = omega (arith, late) in
        get_or-append_right told (take (high - length told) marks) (length told) row false refl late ∙ get_or-take (high - length told) marks k false below ∙ kept k
        ∙ ap (λ b. b && holds (λ lane. span_cell (length told) high (slice_get feeds lane) k) test) (all k ∙ lt-ltb k (high - length told) below)
        ∙ ap (λ cells. holds cells test) (span_cells feeds (length told) high k below) ∙ ap (λ r. holds (cells_at feeds r) test) there)
  ]

  -- a list of rows of which it is told
  pub recalled : (list : List ℕ) → All (λ row. row < length told) list → (old new : List Bool) → ((k : ℕ) → length list ≤ k → is_marked old k ≡ false)
      → ((k : ℕ) → is_marked new k ≡ (is_marked old k && is_marked told (slice_index list k)))
      → (k : ℕ) → is_marked new k ≡ (is_marked old k && holds (cells_at feeds (slice_index list k)) test)
  recalled list inside old new within kept k = elim (cases_lt k (length list)) [
    | inl low ↦ kept k ∙ ap (λ b. is_marked old k && b) (tells (slice_index list k) (All-get_or (λ row. row < length told) list k 0 low inside))
    | inr past ↦ kept k ∙ ap (λ b. b && is_marked told (slice_index list k)) (within k past) ∙ sym (ap (λ b. b && holds (cells_at feeds (slice_index list k)) test) (within k past))
  ]

-- the next piece, which was tried, and of which it may be told
pub tells_tried : (feeds : List Feed) (test : LaneTest) (old : RowsTold) → TellsTest feeds test old.told → (low high : ℕ) → low ≡ length old.told → high ≡ next_end old → (first marks : List Bool)
    → ((k : ℕ) → is_marked first k ≡ nat_lt k (high - low)) → ((k : ℕ) → is_marked marks k ≡ (is_marked first k && holds (λ lane. span_cell low high (slice_get feeds lane) k) test))
    → (told : Bool) (new : RowsTold) → new ≡ cond told (also_told old marks) old → TellsTest feeds test new.told
tells_tried feeds test old tells low high from upto first marks all kept true new is =
    subst (λ (s : RowsTold). TellsTest feeds test s.told) (sym is)
    (subst (λ n. TellsTest feeds test (old.told ++ take (n - length old.told) marks)) upto
    (tells_more feeds test old.told tells high first marks (subst (λ n. (k : ℕ) → is_marked first k ≡ nat_lt k (high - n)) from all)
    (subst (λ n. (k : ℕ) → is_marked marks k ≡ (is_marked first k && holds (λ lane. span_cell n high (slice_get feeds lane) k) test)) from kept)))
tells_tried feeds test old tells low high from upto first marks all kept false new is = subst (λ (s : RowsTold). TellsTest feeds test s.told) (sym is) tells

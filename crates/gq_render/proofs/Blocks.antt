-- Columns that stay in some lines, and lanes that were read.
use Rattle.std.proofs.Common.{◌≡◌, ℕ, ◌+◌, ◌-◌, ◌<◌, ◌≤◌, List, [], ◌∷◌, ◌++◌, length, take, get_or, refl, sym, ap, ap₂, subst, ◌∙◌, arith, inl, inr, Option, Some, None}
use Rattle.std.specs.Prelude.{IfSome, slice_get}
use Rattle.std.specs.List.{All}
use Rattle.std.proofs.Math.ListN.{set}
use Rattle.std.proofs.lemmas.Bool.{cases_lt}
use Rattle.std.proofs.lemmas.List.{get_or-set_same, get_or-set_other, length-set, take_more}
use Rattle.std.proofs.lemmas.Option.{slice_get-get_or, slice_get_read}
use Rattle.gq_base.specs.Values.{Val, null}
use Rattle.gq_cells.specs.Lanes.{lane_val}
use Rattle.gq_cells.specs.declared.lane.Lane.{Lane}
use Rattle.gq_render.specs.steps.Blocks.{AllStaying, HasRead, HaveRead, IsSame}

module _ (lines : List (List Val)) (first end : ℕ) where
  -- no columns stay in all lines
  pub staying_none : AllStaying lines first end 0
  staying_none row some lt = refl

  -- one more column that stays
  pub staying_more : (column : ℕ) → end ≤ length lines → All (λ line. column < length line) lines → AllStaying lines first end column → IsSame lines first end column → AllStaying lines first end (column + 1)
  staying_more column within wide before same row some lt =
      let line = get_or lines row [] in
      let next = get_or lines (row + 1) [] in
      take_more line column null (wide row [] (omega (arith, lt, within)))
      ∙ ap₂ (λ l (v : Val). l ++ v ∷ []) (before row some lt) (same row some lt)
      ∙ sym (take_more next column null (wide (row + 1) [] (omega (arith, lt, within))))

  -- one more line in which a column stays
  pub same_more : (column row : ℕ) → 0 < row → IsSame lines first row column → get_or (get_or lines (row - 1) []) column null ≡ get_or (get_or lines row []) column null → IsSame lines first (row + 1) column
  same_more column row behind before is r some lt = elim (cases_lt (r + 1) row) [
    | inl less ↦ before r some less
    | inr more ↦
        let e : r + 1 ≡ row = omega (arith, lt, more) in
        let b : r ≡ row - 1 = omega (arith, e) in
        ap (λ n. get_or (get_or lines n []) column null) b ∙ is ∙ ap (λ n. get_or (get_or lines n []) column null) (sym e)
  ]

  -- one more column that was read
  pub read_more : (low column : ℕ) (lanes : List Lane) (lane : Lane) → column < length lanes → end - first ≤ 64 → HaveRead lines first end low column lanes
      → ((k : ℕ) → k < end - first → lane_val lane k ≡ get_or (get_or lines (first + k) []) column null) → HaveRead lines first end low (column + 1) (set lanes column lane)
  read_more low column lanes lane fits few before is c from below = elim (cases_lt c column) [
    | inl less ↦
        let there = get_or-set_other lanes column c lane lane (omega (arith, less)) in
        let size = length-set lanes column lane in
        let same : slice_get (set lanes column lane) c ≡ slice_get lanes c =
        slice_get-get_or (set lanes column lane) c lane (omega (arith, less, fits, size)) ∙ ap Some there ∙ sym (slice_get-get_or lanes c lane (omega (arith, less, fits))) in
        subst (λ o. IfSome o (HasRead lines first end c)) (sym same) (before c from less)
    | inr more ↦
        let e : column ≡ c = omega (arith, below, more) in
        let size = length-set lanes column lane in
        let same : slice_get (set lanes column lane) column ≡ Some lane =
        slice_get-get_or (set lanes column lane) column lane (omega (arith, fits, size)) ∙ ap Some (get_or-set_same lanes column lane lane fits) in
        subst (λ n. IfSome (slice_get (set lanes column lane) n) (HasRead lines first end n)) e
        (subst (λ o. IfSome o (HasRead lines first end column)) (sym same) (lane_has column lane few is))
  ]
    where
      lane_has : (column : ℕ) (lane : Lane) → end - first ≤ 64 → ((k : ℕ) → k < end - first → lane_val lane k ≡ get_or (get_or lines (first + k) []) column null) → HasRead lines first end column lane
      lane_has column lane few is = record {
        few = few;
        values = λ row some lt has.
            let b : first + (row - first) ≡ row = omega (arith, some) in
            is (row - first) (omega (arith, some, lt)) ∙ ap (λ n. get_or (get_or lines n []) column null) b;
      }

  -- all lanes have what they are to have, where those that were not read are of columns that no line has
  pub read_all : (low reached width : ℕ) (lanes : List Lane) → end - first ≤ 64 → end ≤ length lines → All (λ line. length line ≡ width) lines
      → ((column : ℕ) → reached ≤ column → column < length lanes → width ≤ column) → HaveRead lines first end low reached lanes → HaveRead lines first end low (length lanes) lanes
  read_all low reached width lanes few within wide past before column from below = elim (cases_lt column reached) [
    | inl less ↦ before column from less
    | inr more ↦ each (slice_get lanes column) (past column (omega (arith, more)) below)
  ]
    where
      each : (o : Option Lane) → width ≤ column → IfSome o (HasRead lines first end column)
      each None none = tt
      each (Some lane) none = record {
        few = few;
        values = λ row some lt has. absurd (omega (arith, has, none, wide row [] (omega (arith, lt, within))));
      }

  -- a lane of these
  pub lane_read : (low column : ℕ) (lanes : List Lane) (lane : Lane) → HaveRead lines first end low (length lanes) lanes → low ≤ column → column < length lanes → lane ≡ get_or lanes column lane
      → HasRead lines first end column lane
  lane_read low column lanes lane all from below is =
      subst (λ o. IfSome o (HasRead lines first end column)) (slice_get_read lanes (length lanes) column lane refl below is) (all column from below)

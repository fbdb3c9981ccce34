use Rattle.std.proofs.Common.{◌≡◌, ◌<◌, ◌+◌, ◌-◌, ◌*◌, ◌∙◌, ℕ, [], length, get_or, sym, subst, ap, arith}
use Rattle.gq_base.specs.Values.{null}
use Rattle.gq_rows.proofs.CutLines.{lines_len, lines_width, value_get, value_within}
use Rattle.gq_rows.specs.declared.listing.Lines.TheInside.{Inside}
use Rattle.gq_rows.specs.steps.Lines.{HasLines, lines_of, values_of}
use Rattle.gq_rows.proofs.listing.Lines.stays.Goals as goal

-- a place in a line is one in the line before, and a line's width
line_behind : (skip row width column : ℕ) → 0 < row → (skip + row) * width + column ≡ (skip + (row - 1)) * width + column + width
line_behind skip row width column some =
    let next : skip + row ≡ skip + (row - 1) + 1 = omega (arith, some) in
    let rows : (skip + (row - 1) + 1) * width ≡ (skip + (row - 1)) * width + width = omega arith in
    ap (λ n. n * width + column) next ∙ omega (arith, rows)

-- the value of the line before
value_before : (l : Inside) (has : HasLines l) (row column : ℕ) → 0 < row → row < length (lines_of l) → column < length (get_or (lines_of l) row [])
    → get_or (values_of l.values) ((l.skip + row) * l.width + column - l.width) null ≡ get_or (get_or (lines_of l) (row - 1) []) column null
value_before l has row column some below within =
    let wide : length (get_or (lines_of l) row []) ≡ l.width = lines_width l has row [] below in
    let before : row - 1 < length (lines_of l) = omega (arith, below) in
    let as_wide : length (get_or (lines_of l) (row - 1) []) ≡ l.width = lines_width l has (row - 1) [] before in
    let place : (l.skip + row) * l.width + column - l.width ≡ (l.skip + (row - 1)) * l.width + column = omega (arith, line_behind l.skip row l.width column some) in
    ap (λ k. get_or (values_of l.values) k null) place ∙ value_get l has (row - 1) column before (omega (arith, within, wide, as_wide))

pub overflow_add-place : goal.overflow_add-place
overflow_add-place c =
    let l = c.self.inside in
    let below = subst (λ v. c.args.row < length v) (sym c.self.view_is) c.requires.row in
    omega (arith, below, lines_len l, c.self.invariant.small)

pub overflow_mul-place : goal.overflow_mul-place
overflow_mul-place c =
    let l = c.self.inside in
    let below = subst (λ v. c.args.row < length v) (sym c.self.view_is) c.requires.row in
    let within = subst (λ v. c.args.column < length (get_or v c.args.row [])) (sym c.self.view_is) c.requires.column in
    omega (arith, value_within l c.self.invariant c.args.row c.args.column below within, c.self.invariant.fits)

pub overflow_add-place-in-Kept : goal.overflow_add-place-in-Kept
overflow_add-place-in-Kept c =
    let l = c.self.inside in
    let below = subst (λ v. c.args.row < length v) (sym c.self.view_is) c.requires.row in
    let within = subst (λ v. c.args.column < length (get_or v c.args.row [])) (sym c.self.view_is) c.requires.column in
    omega (arith, value_within l c.self.invariant c.args.row c.args.column below within, c.self.invariant.fits)

pub overflow_sub-place : goal.overflow_sub-place
overflow_sub-place c =
    let l = c.self.inside in
    omega (arith, line_behind l.skip c.args.row l.width c.args.column c.requires.behind)

pub same-requires-clause-one : goal.same-requires-clause-one
same-requires-clause-one c =
    let l = c.self.inside in
    let below = subst (λ v. c.args.row < length v) (sym c.self.view_is) c.requires.row in
    let within = subst (λ v. c.args.column < length (get_or v c.args.row [])) (sym c.self.view_is) c.requires.column in
    omega (arith, value_within l c.self.invariant c.args.row c.args.column below within, ap (λ v. length (values_of v)) c.in-Kept.is)

pub same-requires-clause-other : goal.same-requires-clause-other
same-requires-clause-other c =
    let l = c.self.inside in
    let below = subst (λ v. c.args.row < length v) (sym c.self.view_is) c.requires.row in
    let within = subst (λ v. c.args.column < length (get_or v c.args.row [])) (sym c.self.view_is) c.requires.column in
    omega (arith, value_within l c.self.invariant c.args.row c.args.column below within, ap (λ v. length (values_of v)) c.in-Kept.is)

pub returns-in-Kept : goal.returns-in-Kept
returns-in-Kept c = λ yes.
    let l = c.self.inside in
    let row = c.args.row in
    let column = c.args.column in
    let below = subst (λ v. row < length v) (sym c.self.view_is) c.requires.row in
    let within = subst (λ v. column < length (get_or v row [])) (sym c.self.view_is) c.requires.column in
    let kept = ap values_of c.in-Kept.is in
    subst (λ v. get_or (get_or v (row - 1) []) column null ≡ get_or (get_or v row []) column null) c.self.view_is (
    sym (value_before l c.self.invariant row column c.requires.behind below within)
    ∙ ap (λ vs. get_or vs ((l.skip + row) * l.width + column - l.width) null) kept
    ∙ c.same.ensures yes
    ∙ ap (λ vs. get_or vs ((l.skip + row) * l.width + column) null) (sym kept)
    ∙ value_get l c.self.invariant row column below within
    )

use Rattle.std.proofs.Common.{◌≡◌, ◌<◌, ◌≤◌, ◌+◌, ◌∙◌, [], length, get_or, sym, subst, arith}
use Rattle.std.specs.List.{All}
use Rattle.gq_base.specs.Values.{null}
use Rattle.gq_cells.specs.Lanes.{lane_val}
use Rattle.gq_rows.proofs.CutLines.{lines_len, value_behind, value_within}
use Rattle.gq_rows.specs.steps.Lines.{lines_of}
use Rattle.gq_rows.proofs.listing.Lines.values.Goals as goal

pub overflow_add-place : goal.overflow_add-place
overflow_add-place c =
    let l = c.self.inside in
    let few = subst (λ v. c.args.first + c.args.count ≤ length v) (sym c.self.view_is) c.requires.lines in
    omega (arith, few, c.if-count-gt0.true, lines_len l, c.self.invariant.small)

pub overflow_mul-place : goal.overflow_mul-place
overflow_mul-place c =
    let l = c.self.inside in
    let few = subst (λ v. c.args.first + c.args.count ≤ length v) (sym c.self.view_is) c.requires.lines in
    let wide = subst (λ v. All (λ line. c.args.column < length line) v) (sym c.self.view_is) c.requires.column in
    let below : c.args.first < length (lines_of l) = omega (arith, few, c.if-count-gt0.true) in
    omega (arith, value_within l c.self.invariant c.args.first c.args.column below (wide c.args.first [] below), c.self.invariant.fits)

pub overflow_add-place-then-count-gt0 : goal.overflow_add-place-then-count-gt0
overflow_add-place-then-count-gt0 c =
    let l = c.self.inside in
    let few = subst (λ v. c.args.first + c.args.count ≤ length v) (sym c.self.view_is) c.requires.lines in
    let wide = subst (λ v. All (λ line. c.args.column < length line) v) (sym c.self.view_is) c.requires.column in
    let below : c.args.first < length (lines_of l) = omega (arith, few, c.if-count-gt0.true) in
    omega (arith, value_within l c.self.invariant c.args.first c.args.column below (wide c.args.first [] below), c.self.invariant.fits)

pub values-requires-clause-within : goal.values-requires-clause-within
values-requires-clause-within c = λ k lt.
    let l = c.self.inside in
    let few = subst (λ v. c.args.first + c.args.count ≤ length v) (sym c.self.view_is) c.requires.lines in
    let wide = subst (λ v. All (λ line. c.args.column < length line) v) (sym c.self.view_is) c.requires.column in
    let below : c.args.first + k < length (lines_of l) = omega (arith, few, lt) in
    (value_behind l c.self.invariant c.args.first k c.args.column below (wide (c.args.first + k) [] below)).0

pub returns-then-count-gt0 : goal.returns-then-count-gt0
returns-then-count-gt0 c = λ k lt.
    let l = c.self.inside in
    let few = subst (λ v. c.args.first + c.args.count ≤ length v) (sym c.self.view_is) c.requires.lines in
    let wide = subst (λ v. All (λ line. c.args.column < length line) v) (sym c.self.view_is) c.requires.column in
    let below : c.args.first + k < length (lines_of l) = omega (arith, few, lt) in
    subst (λ v. lane_val c.values.new.out k ≡ get_or (get_or v (c.args.first + k) []) c.args.column null) c.self.view_is
    (c.values.ensures k lt ∙ (value_behind l c.self.invariant c.args.first k c.args.column below (wide (c.args.first + k) [] below)).1)

use Rattle.std.proofs.Common.{◌≡◌, ◌∙◌, ◌+◌, ◌-◌, ◌%◌, arith, subst, sym, true, false}
use Rattle.std.specs.Prelude.{slice_index}
use Rattle.gq_base.specs.Values.{val}
use Rattle.gq_bits.specs.Places.{is_marked}
use Rattle.gq_group.specs.Chunks.{assignment_at, node_in}
use Rattle.gq_group.specs.declared.home.NodeHome.TheVariants as home
use Rattle.gq_listed.specs.Leads.{IsLedBy}
use Rattle.gq_listed.specs.Windows.{IsKeyBehind}
use Rattle.gq_listed.specs.declared.finder.Way.TheVariants as way
use Rattle.gq_plan.specs.Assignments.{row_of}
use Rattle.gq_plan.specs.Rows.{assigned}
use Rattle.gq_listed.proofs.Leading.{node_is}
use Rattle.gq_listed.proofs.Windowed.{either_way, key_behind, span_fits, span_item, spanned}
use Rattle.gq_listed.proofs.keys.KeyFinder.behind.Goals as goal

pub bounds-positions-group : goal.bounds-positions-group
bounds-positions-group c = (spanned c.args.chunk.now c.args.positions.now c.in-Item.group c.group.result.now c.in-Span.low c.in-Span.high c.requires.chunk.chunk c.requires.selected c.group.ensures (sym c.piece.ensures ∙ c.in-Span.is)).within

pub overflow_sub-row : goal.overflow_sub-row
overflow_sub-row c =
    let mine = c.item.ensures ∙ span_item c.args.chunk.now c.args.positions.now c.in-Item.group c.group.result.now c.in-Span.low c.in-Span.high c.requires.chunk.chunk c.requires.selected c.group.ensures (sym c.piece.ensures ∙ c.in-Span.is) in
    omega (arith, mine)

pub take-requires : goal.take-requires
take-requires c =
    let s = spanned c.args.chunk.now c.args.positions.now c.in-Item.group c.group.result.now c.in-Span.low c.in-Span.high c.requires.chunk.chunk c.requires.selected c.group.ensures (sym c.piece.ensures ∙ c.in-Span.is) in
    let few = s.few in
    omega (arith, few)

pub behind-marks-requires-clause-numbers : goal.behind-marks-requires-clause-numbers
behind-marks-requires-clause-numbers c = λ k low.
    span_fits c.args.graph.now c.args.self.now.cells.sources c.args.finder.now c.in-Node.range c.requires.finder c.in-Node.is _
    (omega (arith, low, c.min.ensures, c.saturating_sub.ensures, c.min-count.ensures))

pub returns : goal.returns
returns c = λ key finder known there selected out.
    let g = c.args.graph.now in
    let y = c.args.typed.now in
    let chunk = c.args.chunk.now in
    let f = c.args.finder.now in
    let r = c.in-Node.range in
    let i = c.in-Item.group in
    let ok = c.requires.chunk.chunk in
    let here = row_of (assigned y (assignment_at g y chunk there)) in
    let old = c.args.window.now in
    let new = c.take.new.self in
    let mine : i ≡ old.group = (let e = c.if-group-window.false in omega (arith, e)) in
    let same : new.group ≡ i = c.take.ensures.group ∙ sym mine in
    let told = c.take.ensures.left (slice_index there i) (subst (λ j. is_marked new.left (slice_index there j) ≡ false) same out) in
    let before : is_marked old.left (slice_index there i) ≡ false → IsKeyBehind g here key c.args.down (val c.args.bar.now) =
    λ gone. known there selected (subst (λ j. is_marked old.left (slice_index there j) ≡ false) mine gone) in
    let now : is_marked old.left (slice_index there i) ≡ true → IsKeyBehind g here key c.args.down (val c.args.bar.now) = λ was.
    let t = told was in
    let h = c.behind-marks.ensures t.far t.marked in
    let span = sym c.piece.ensures ∙ c.in-Span.is in
    let first = c.item.ensures ∙ span_item chunk c.args.positions.now i c.group.result.now c.in-Span.low c.in-Span.high ok c.requires.selected c.group.ensures span in
    let other = span_item chunk there i c.group.result.now c.in-Span.low c.in-Span.high ok selected c.group.ensures span in
    let row = c.item.result - slice_index c.args.positions.now i % 64 in
    let at = t.at in
    let is : row + t.far ≡ node_in chunk there (home.Item i) = omega (arith, first, other, at) in
    let led = subst (λ w. IsLedBy g y chunk w f.lead) c.in-Node.is c.requires.led in
    let lives = subst (IsLedBy g y chunk (way.Node r)) c.in-Item.is led in
    key_behind g c.args.self.now.cells.sources f r key (val c.args.bar.now) c.args.down c.in-Node.is finder here (row + t.far)
    (let low = h.0 in omega (arith, low, c.min.ensures, c.saturating_sub.ensures, c.min-count.ensures))
    (node_is g y chunk there (way.Node r) (home.Item i) (row + t.far) lives.0 lives.1 is)
    h.1 in
    either_way (is_marked old.left (slice_index there i)) before now

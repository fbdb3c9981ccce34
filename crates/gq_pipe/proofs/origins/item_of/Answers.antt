use Rattle.std.proofs.Common.{Some, ◌∙◌, ◌-◌, sym, ap, arith}
use Rattle.std.specs.Prelude.{slice_get}
use Rattle.std.specs.List.{range_with_len}
use Rattle.std.proofs.lemmas.List.FromFn.{get_or-range_with_len, length-range_with_len}
use Rattle.std.proofs.lemmas.Option.{slice_get-get_or, slice_get_past}
use Rattle.gq_group.specs.Pieces.{items_of}
use Rattle.gq_pipe.proofs.origins.item_of.Goals as goal

pub returns-then-position-saturating_sub : goal.returns-then-position-saturating_sub
returns-then-position-saturating_sub c =
    let low = c.if-position-saturating_sub.true in
    let many = length-range_with_len c.in-Span.low (c.in-Span.high - c.in-Span.low) in
    sym (ap (λ p. slice_get (items_of p) c.args.position) c.in-Span.is
    ∙ slice_get-get_or (range_with_len c.in-Span.low (c.in-Span.high - c.in-Span.low)) c.args.position 0 (omega (arith, low, many, c.saturating_sub.ensures))
    ∙ ap (λ n. Some n) (get_or-range_with_len c.in-Span.low (c.in-Span.high - c.in-Span.low) c.args.position 0 (omega (arith, low, c.saturating_sub.ensures))))

pub returns-else-position-saturating_sub : goal.returns-else-position-saturating_sub
returns-else-position-saturating_sub c =
    let high = c.if-position-saturating_sub.false in
    let many = length-range_with_len c.in-Span.low (c.in-Span.high - c.in-Span.low) in
    sym (ap (λ p. slice_get (items_of p) c.args.position) c.in-Span.is ∙ slice_get_past (range_with_len c.in-Span.low (c.in-Span.high - c.in-Span.low)) c.args.position (omega (arith, high, many, c.saturating_sub.ensures)))

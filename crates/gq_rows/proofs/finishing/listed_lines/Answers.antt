use Rattle.std.proofs.Common.{arith, refl}
use Rattle.gq_listed.specs.Listed.{held_in}
use Rattle.gq_rows.proofs.CutLines.{wide, wide_lines, windowed}
use Rattle.gq_rows.proofs.ListedLines.{holds_rows, lists_as}
use Rattle.gq_rows.proofs.finishing.listed_lines.Goals as goal

pub invariant_of-result : goal.invariant_of-result
invariant_of-result c =
    let b = c.args.bound.now in
    let held = held_in c.args.rows.listed in
    let h = holds_rows b c.requires.holds.0 held c.requires.listing c.requires.holds.1 in
    record { values = wide b c.requires.holds.0 held h _ _ c.len-2.ensures c.end_of.ensures; small = omega arith; fits = omega (arith, c.len.ensures) }

pub returns-clause-lists : goal.returns-clause-lists
returns-clause-lists c = λ list holds.
    let b = c.args.bound.now in
    let held = held_in c.args.rows.listed in
    lists_as b list _ c.requires.listing (windowed b list held (holds_rows b list held c.requires.listing holds) _ _ _ c.len-2.ensures refl c.end_of.ensures)

pub returns-clause-wide : goal.returns-clause-wide
returns-clause-wide c = wide_lines _ _ (invariant_of-result c) c.len-2.ensures

use Rattle.std.proofs.Common.{◌<◌, ◌≤◌, ◌+◌, ◌-◌, ℕ, length, arith}
use Rattle.gq_base.specs.Plain.{Graph}
use Rattle.gq_base.specs.declared.direction.Direction.{Direction}
use Rattle.gq_store.specs.Neighbours.{near_ends, neighbours, numbers}
use Rattle.gq_sift.proofs.Ascending.{narrowed_down, narrowed_from, narrowed_none, narrowed_up}
use Rattle.gq_steps.proofs.Followed.{as_many, get_some}
use Rattle.gq_sift.proofs.finding.is_outside.Goals as goal

as_long : (g : Graph) (t : ℕ) → t < length g.catalog.rels → (way : Direction) (row n : ℕ) → n ≤ length (neighbours g t way row) → n ≤ length (numbers g t way row)
as_long g t low way row n h = let k = get_some g.catalog.rels t low in omega (arith, h, as_many g t k.0 k.1 way row)

pub returns-then-part : goal.returns-then-part
returns-then-part c = λ yes j one two. absurd (let none = c.if-part.true in omega (arith, one, two, none))

pub returns-then-number-first : goal.returns-then-number-first
returns-then-number-first c = λ yes.
    let some = c.if-part.false in
    let row = c.args.part.row in
    let ends = near_ends c.args.graph.now c.args.part.table c.args.part.direction in
    let low = c.args.part.low in
    let high = c.args.part.high in
    narrowed_none row ends low high c.args.number low low
    (narrowed_down row ends low high c.args.number low high (narrowed_from row ends low high c.args.number) low c.number_at-first.result c.number_at-first.ensures (omega arith) (omega (arith, some)) c.if-number-first.true
    (as_long c.args.graph.now c.args.part.table c.requires.within c.args.part.direction row high c.requires.inside)) (omega arith)

pub returns-then-last-number : goal.returns-then-last-number
returns-then-last-number c = λ yes.
    let some = c.if-part.false in
    let row = c.args.part.row in
    let ends = near_ends c.args.graph.now c.args.part.table c.args.part.direction in
    let low = c.args.part.low in
    let high = c.args.part.high in
    narrowed_none row ends low high c.args.number (high - 1 + 1) high
    (narrowed_up row ends low high c.args.number low high (narrowed_from row ends low high c.args.number) (high - 1) c.number_at-last.result c.number_at-last.ensures (omega (arith, some)) (omega (arith, some)) c.if-last-number.true) (omega (arith, some))

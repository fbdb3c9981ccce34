use Rattle.std.proofs.Common.{not, eqb, ap, sym, ◌∙◌, w64, to_z, int_lt}
use Rattle.std.specs.Prelude.{int_le}
use Rattle.std.specs.Ordering.{int_eq}
use Rattle.gq_lanes.specs.Tests.{cell, compares}
use Rattle.gq_lanes.proofs.Masks.{const_bit, const_bit_left, same_equal, same_less, same_at_most}
use Rattle.gq_lanes.proofs.lanes.const_lanes.Goals as goal

pub returns-in-Equal : goal.returns-in-Equal
returns-in-Equal c = λ i h.
    const_bit eqb int_eq same_equal c.args.cells.now c.args.constant c.requires c.in_range.ensures c.ranges.constant i h
    ∙ ap (λ op. compares op (cell c.args.cells.now i) c.args.constant) (sym c.in-Equal.is)

pub returns-in-NotEqual : goal.returns-in-NotEqual
returns-in-NotEqual c = λ i h.
    const_bit (λ a b. not (eqb a b)) (λ a b. not (int_eq a b)) (λ a b f g. ap not (same_equal a b f g)) c.args.cells.now c.args.constant c.requires c.in_range.ensures c.ranges.constant i h
    ∙ ap (λ op. compares op (cell c.args.cells.now i) c.args.constant) (sym c.in-NotEqual.is)

pub returns-in-Less : goal.returns-in-Less
returns-in-Less c = λ i h.
    const_bit (λ a b. int_lt (to_z w64 a) (to_z w64 b)) int_lt same_less c.args.cells.now c.args.constant c.requires c.in_range.ensures c.ranges.constant i h
    ∙ ap (λ op. compares op (cell c.args.cells.now i) c.args.constant) (sym c.in-Less.is)

pub returns-in-LessEqual : goal.returns-in-LessEqual
returns-in-LessEqual c = λ i h.
    const_bit (λ a b. int_le (to_z w64 a) (to_z w64 b)) int_le same_at_most c.args.cells.now c.args.constant c.requires c.in_range.ensures c.ranges.constant i h
    ∙ ap (λ op. compares op (cell c.args.cells.now i) c.args.constant) (sym c.in-LessEqual.is)

pub returns-in-Greater : goal.returns-in-Greater
returns-in-Greater c = λ i h.
    const_bit_left (λ a b. int_lt (to_z w64 a) (to_z w64 b)) int_lt same_less c.args.cells.now c.args.constant c.requires c.in_range.ensures c.ranges.constant i h
    ∙ ap (λ op. compares op (cell c.args.cells.now i) c.args.constant) (sym c.in-Greater.is)

pub returns-in-GreaterEqual : goal.returns-in-GreaterEqual
returns-in-GreaterEqual c = λ i h.
    const_bit_left (λ a b. int_le (to_z w64 a) (to_z w64 b)) int_le same_at_most c.args.cells.now c.args.constant c.requires c.in_range.ensures c.ranges.constant i h
    ∙ ap (λ op. compares op (cell c.args.cells.now i) c.args.constant) (sym c.in-GreaterEqual.is)

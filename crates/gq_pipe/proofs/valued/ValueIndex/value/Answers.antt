use Rattle.std.proofs.Common.{Option, sym, subst}
use Rattle.gq_filter.specs.Equal.{node_cell}
use Rattle.gq_same_texts.specs.Same.{Dicts, Turns}
use Rattle.gq_pipe.specs.steps.Valued.{IsAsked}
use Rattle.gq_pipe.proofs.valued.ValueIndex.value.Goals as goal

pub returns-in-Some : goal.returns-in-Some
returns-in-Some c =
    subst {A = Option Dicts} (λ texts. IsAsked texts (node_cell c.args.self.now.asked c.args.row.now) c.turned.result) (sym c.in-Some.is)
    (subst (λ cell. Turns c.in-Some.texts cell c.turned.result) c.node_cell-cell.ensures c.turned.ensures)

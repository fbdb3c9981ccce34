use Rattle.std.proofs.Common.{subst}
use Rattle.gq_eval.specs.Asked.{asked}
use Rattle.gq_listed.specs.Finding.{IsFinder}
use Rattle.gq_plan.specs.declared.bound.SortExpr.{SortExpr}
use Rattle.gq_rows.proofs.Passing.{finds_some, same_sort}
use Rattle.gq_rows.proofs.behind.look_on.Goals as goal

pub behind-requires-clause-finder : goal.behind-requires-clause-finder
behind-requires-clause-finder c =
    let q = c.args.question.now in
    finds_some q.graph.now q.bound.now c.args.typed.now c.args.chunk.now c.args.first.now.cells.sources c.args.finder.now c.requires.lead

pub returns-clause-told : goal.returns-clause-told
returns-clause-told c = λ told.
    let q = c.args.question.now in
    let l = c.requires.lead in
    let same = same_sort q.bound.now l.sort told.sort l.first told.first in
    let finder = subst (λ (s : SortExpr). IsFinder c.args.first.now.cells.sources (asked s.expr q.graph.now) c.args.finder.now) same l.finder in
    record { sure = told.sure; late = told.late; sort = told.sort; first = told.first; behind = c.behind.ensures told.sort.expr finder told.behind }

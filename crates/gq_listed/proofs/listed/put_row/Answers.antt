use Rattle.std.proofs.Common.{◌≡◌, ◌∙◌, ◌+◌, ◌++◌, [], ◌∷◌, ap, drop, length, length-append, sym}
use Rattle.std.proofs.lemmas.Slice.Zip.{zip_end, zip_turn}
use Rattle.gq_eval.specs.Asked.{Asked, answers}
use Rattle.gq_project.specs.Judged.{values_after}
use Rattle.gq_listed.proofs.Finding.{extends_again, finder_at, put, put_all, stay}
use Rattle.gq_listed.proofs.listed.put_row.Goals as goal

pub put_column-requires-clause-finder : goal.put_column-requires-clause-finder
put_column-requires-clause-finder g c =
    let asks = c.args.columns.now in
    let fs = c.args.finders.now in
    let turn = zip_turn asks fs c.values.yielded _ c.values.column-iterator c.next.new.self c.next.result (cc) (cc) c.values.yielded_by _ c.in-Some.is c.next.ensures.steps in
    finder_at c.values.cells.sources asks fs (length c.values.yielded) c.in-Some.column.now c.in-Some.finder.now c.values.invariant.finders turn.0 turn.1 (turn.2 _) (turn.3 _)

pub values-preserved : goal.values-preserved
values-preserved g c =
    let i = c.values.invariant in
    let here = g.R.Assigned.assignment c.args.row.now in
    let asks = c.args.columns.now in
    let fs = c.args.finders.now in
    let n = length c.values.yielded in
    let a = c.in-Some.column.now in
    let turn = zip_turn asks fs c.values.yielded _ c.values.column-iterator c.next.new.self c.next.result (cc) (cc) c.values.yielded_by _ c.in-Some.is c.next.ensures.steps in
    let next : length (c.values.yielded ++ (c.in-Some.column, c.in-Some.finder) ∷ []) ≡ n + 1 = length-append c.values.yielded _ in
    record {
      after = ap (λ m. values_after c.put_column.new.cells.values (answers here (drop m asks))) next ∙ put here asks a a n turn.0 (turn.2 a) _ _ c.in-Ok.ensures.puts ∙ i.after;
      finders = stay _ _ c.in-Ok.ensures.more asks fs i.finders;
      more = extends_again _ _ _ i.more c.in-Ok.ensures.more;
    }

pub returns-clause-puts : goal.returns-clause-puts
returns-clause-puts g c =
    let here = g.R.Assigned.assignment c.args.row.now in
    let asks = c.args.columns.now in
    let fs = c.args.finders.now in
    let n = length c.values.yielded in
    let all = zip_end asks fs c.values.yielded _ c.values.column-iterator c.next.new.self c.next.result (cc) (cc) c.values.yielded_by c.in-None.is c.next.ensures.steps in
    sym c.values.invariant.after ∙ put_all here c.values.cells.sources asks fs n c.values.cells.values c.values.invariant.finders all

pub put_column-requires-clause-graph : goal.put_column-requires-clause-graph
put_column-requires-clause-graph g c =
    let asks = c.args.columns.now in
    let fs = c.args.finders.now in
    let n = length c.values.yielded in
    let a = c.in-Some.column.now in
    let turn = zip_turn asks fs c.values.yielded _ c.values.column-iterator c.next.new.self c.next.result (cc) (cc) c.values.yielded_by _ c.in-Some.is c.next.ensures.steps in
    ap (λ (x : Asked). x.graph) (turn.2 a) ∙ c.requires.graph n a turn.0

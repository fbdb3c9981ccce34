use Rattle.std.proofs.Common.{ap, subst, sym}
use Rattle.gq_optional.specs.steps.Asking.{AllAsk}
use Rattle.gq_optional.specs.steps.Levels.{clauses_of}
use Rattle.gq_optional.specs.steps.Walks.{AreShared, held_of, known_by, shape_by}
use Rattle.gq_optional.proofs.Walking.{clauses_put, first_owed, levels_moved, put_back, row_alike}
use Rattle.gq_optional.proofs.walk.Walk.make_first.Goals as goal

pub returns-clause-walk : goal.returns-clause-walk
returns-clause-walk c =
    let w = c.args.self.now in
    let same = clauses_put w.levels c.as_mut_slice.result.now c.begin_from-self.new.levels c.begin_from-self.ensures.clauses c.as_mut_slice.ensures.value in
    record {
      levels = levels_moved c.copy_from.new.self w.base c.begin_from-self.new.levels _ c.copy_from.ensures (sym (put_back w.levels c.as_mut_slice.result.now c.begin_from-self.new.levels c.begin_from-self.ensures.clauses c.as_mut_slice.ensures.value)) c.begin_from-self.ensures.levels;
      shared = subst (AreShared (known_by w)) (sym same) c.requires.walk.shared;
      asks = subst (AllAsk w.graph.now) (sym same) c.requires.walk.asks;
      row = row_alike w.base c.copy_from.new.self c.begin_from-self.new.row c.begin_from-self.new.levels c.copy_from.ensures c.begin_from-self.ensures.levels c.begin_from-self.ensures.row;
    }

pub returns-clause-next : goal.returns-clause-next
returns-clause-next c =
    let w = c.args.self.now in
    let begun = c.begin_from-self in
    let slice = c.as_mut_slice.ensures.value in
    first_owed w.graph.now w.base w.levels.items c.as_mut_slice.result.now begun.new.levels _ begun.new.row begun.result slice (put_back w.levels c.as_mut_slice.result.now c.begin_from-self.new.levels c.begin_from-self.ensures.clauses c.as_mut_slice.ensures.value) w.fresh w.standing c.copy_from.new.self c.requires.fresh
    c.copy_from.ensures (begun.ensures.begins w.graph.now (subst (AllAsk w.graph.now) (sym (ap clauses_of slice)) c.requires.walk.asks)) begun.ensures.row begun.ensures.mark

pub returns-clause-held : goal.returns-clause-held
returns-clause-held c =
    let w = c.args.self.now in
    ap (held_of w.graph.now (shape_by w)) (clauses_put w.levels c.as_mut_slice.result.now c.begin_from-self.new.levels c.begin_from-self.ensures.clauses c.as_mut_slice.ensures.value)

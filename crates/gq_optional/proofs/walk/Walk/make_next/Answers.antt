use Rattle.std.proofs.Common.{ap, length, refl, subst, sym}
use Rattle.std.specs.Vec.{with_items}
use Rattle.gq_optional.specs.steps.Asking.{AllAsk}
use Rattle.gq_optional.specs.steps.Levels.{clauses_of}
use Rattle.gq_optional.specs.steps.Walks.{AreShared, held_of, known_by, shape_by}
use Rattle.gq_optional.proofs.Stepped.{levels_sized}
use Rattle.gq_optional.proofs.Walking.{alike_then, clauses_put, next_none, next_owed, owed_none, put_back}
use Rattle.gq_optional.proofs.walk.Walk.make_next.Goals as goal

pub step_from-self-requires-clause-levels : goal.step_from-self-requires-clause-levels
step_from-self-requires-clause-levels c =
    let w = c.args.self.now in
    levels_sized (length w.base.nodes) (length w.base.rels) w.row w.levels.items c.as_mut_slice.result.now c.requires.walk.row.nodes c.requires.walk.row.rels c.as_mut_slice.ensures.value c.requires.walk.levels

pub returns-clause-walk : goal.returns-clause-walk
returns-clause-walk c =
    let w = c.args.self.now in
    let step = c.step_from-self in
    let same = clauses_put w.levels c.as_mut_slice.result.now c.step_from-self.new.levels c.step_from-self.ensures.clauses c.as_mut_slice.ensures.value in
    let put = put_back w.levels c.as_mut_slice.result.now c.step_from-self.new.levels c.step_from-self.ensures.clauses c.as_mut_slice.ensures.value in
    record {
      levels = levels_sized (length w.row.nodes) (length w.row.rels) w.base step.new.levels _ (sym c.requires.walk.row.nodes) (sym c.requires.walk.row.rels) put step.ensures.levels;
      shared = subst (AreShared (known_by w)) (sym same) c.requires.walk.shared;
      asks = subst (AllAsk w.graph.now) (sym same) c.requires.walk.asks;
      row = alike_then step.new.row w.row w.base step.ensures.wide c.requires.walk.row;
    }

pub returns-clause-next : goal.returns-clause-next
returns-clause-next c =
    let w = c.args.self.now in
    let step = c.step_from-self in
    let slice = c.as_mut_slice.ensures.value in
    let put = put_back w.levels c.as_mut_slice.result.now c.step_from-self.new.levels c.step_from-self.ensures.clauses c.as_mut_slice.ensures.value in
    next_owed w.graph.now w.base w.levels.items c.as_mut_slice.result.now step.new.levels _ step.new.row step.new.mark slice put w.fresh w.standing step.result c.requires.fresh c.requires.standing
    (step.ensures.next w.graph.now (subst (AllAsk w.graph.now) (sym (ap clauses_of slice)) c.requires.walk.asks)) step.ensures.row step.ensures.mark

pub returns-clause-none : goal.returns-clause-none
returns-clause-none c =
    let w = c.args.self.now in
    let step = c.step_from-self in
    let slice = c.as_mut_slice.ensures.value in
    next_none w.graph.now w.base w.levels.items c.as_mut_slice.result.now step.new.levels step.new.levels step.new.row step.new.mark slice refl w.fresh w.standing step.result c.requires.fresh c.requires.standing
    (step.ensures.next w.graph.now (subst (AllAsk w.graph.now) (sym (ap clauses_of slice)) c.requires.walk.asks))

pub returns-clause-over : goal.returns-clause-over
returns-clause-over c over =
    let w = c.args.self.now in
    owed_none w.graph.now w.base (with_items w.levels c.step_from-self.new.levels).items w.fresh c.step_from-self.result c.requires.fresh over

pub returns-clause-held : goal.returns-clause-held
returns-clause-held c =
    let w = c.args.self.now in
    ap (held_of w.graph.now (shape_by w)) (clauses_put w.levels c.as_mut_slice.result.now c.step_from-self.new.levels c.step_from-self.ensures.clauses c.as_mut_slice.ensures.value)

use Rattle.std.proofs.Common.{◌∙◌, ◌<◌, ap, refl, sym, subst, length, get_or, arith, inl, inr}
use Rattle.gq_execute.specs.Answering.{question}
use Rattle.gq_execute.proofs.Going.{came_start, fresh_stands, item_at, spends_more, spends_none, taken_more, turn_ended, turn_taken}
use Rattle.gq_execute.proofs.Making.{made_here}
use Rattle.gq_execute.proofs.Parted.{bound_parted}
use Rattle.gq_drain.specs.Prepared.{later_by}
use Rattle.gq_drain.specs.Becoming.{given_on}
use Rattle.gq_pipe.proofs.Rooms.{spare_same}
use Rattle.gq_execute.proofs.answering.take_turns.Goals as goal

pub alternatives-init : goal.alternatives-init
alternatives-init c = record {
  stats = c.requires.stats;
  graph = c.requires.graph;
  bound = c.requires.fresh.bound;
  most = c.requires.fresh.most;
  some = (_, fresh_stands _ _ _ c.requires.fresh);
  slots = refl;
  spends = rw c.new-spent.ensures (spends_none c.args.graph.now c.args.bound.now c.args.settings.now c.args.table.now c.requires.fresh);
  came = λ query text is. came_start (question c.args.graph.now query c.args.bound.now c.args.settings.now) c.args.table.now c.requires.fresh.bound c.requires.fresh.most c.requires.fresh.none;
}

pub alternatives-preserved : goal.alternatives-preserved
alternatives-preserved c =
    let i = c.alternatives.invariant in
    let y = c.typed-item.result in
    let old = c.alternatives.table in
    let new = c.take_turn.new.table in
    let run = c.in-Ok.ensures.drains in
    let here = item_at c.args.bound.now.alternatives c.alternatives.typed-index y (subst (λ ys. c.alternatives.typed-index < length ys) c.as_slice-typed-items.ensures c.alternatives-test.true)
    (c.typed-item.is ∙ ap (λ ys. get_or ys c.alternatives.typed-index y) c.as_slice-typed-items.ensures) in
    record {
      stats = i.stats;
      graph = c.in-Ok.ensures.graph ∙ i.graph;
      bound = run.meets.alike.bound ∙ i.bound;
      most = run.meets.alike.most ∙ i.most;
      some = taken_more (given_on (later_by c.args.graph.now c.args.prepared.now)) _ _ _ y old new i.some run;
      slots = c.in-Ok.ensures.slots ∙ i.slots;
      spends = rw c.in_ok-append-in-Ok.ensures (spends_more c.args.graph.now c.args.bound.now c.args.settings.now.order c.args.bound.now.alternatives c.alternatives.typed-index y old new c.alternatives.spent c.in-Ok.turn here i.bound i.spends c.in-Ok.ensures.spends);
      came = λ query text is.
          turn_taken (question c.args.graph.now query c.args.bound.now c.args.settings.now) (bound_parted (question c.args.graph.now query c.args.bound.now c.args.settings.now) text c.stands_valid.ensures is) (given_on (later_by c.args.graph.now c.args.prepared.now))
          (made_here c.args.graph.now query c.args.bound.now c.args.settings.now text c.args.prepared.now c.stands_valid.ensures is c.requires.prepared)
          c.alternatives.typed-index y old new here (i.came query text is) (sym c.enough.ensures ∙ c.if-enough.false) run;
    }

pub returns-then-enough : goal.returns-then-enough
returns-then-enough c =
    let i = c.alternatives.invariant in
    record {
      fills = record {
        turns = c.alternatives.typed-index;
        spends = i.spends;
        filled = λ query text is. record { came = i.came query text is; done = inl (sym c.enough.ensures ∙ c.if-enough.true) };
      };
      stands = i.some;
      bound = i.bound;
      slots = i.slots;
    }

pub returns-in-Err : goal.returns-in-Err
returns-in-Err c =
    let i = c.alternatives.invariant in
    let y = c.typed-item.result in
    let here = item_at c.args.bound.now.alternatives c.alternatives.typed-index y (subst (λ ys. c.alternatives.typed-index < length ys) c.as_slice-typed-items.ensures c.alternatives-test.true)
    (c.typed-item.is ∙ ap (λ ys. get_or ys c.alternatives.typed-index y) c.as_slice-typed-items.ensures) in
    record {
      fills = λ query text is.
          turn_ended (question c.args.graph.now query c.args.bound.now c.args.settings.now) (bound_parted (question c.args.graph.now query c.args.bound.now c.args.settings.now) text c.stands_valid.ensures is) (given_on (later_by c.args.graph.now c.args.prepared.now))
          (made_here c.args.graph.now query c.args.bound.now c.args.settings.now text c.args.prepared.now c.stands_valid.ensures is c.requires.prepared)
          c.alternatives.typed-index y c.alternatives.table c.take_turn.new.table here (i.came query text is) (sym c.enough.ensures ∙ c.if-enough.false) c.in-Err.refusal c.in-Err.ensures.drains;
      stands = tt;
      bound = tt;
      slots = c.in-Err.ensures.slots ∙ i.slots;
    }

pub returns : goal.returns
returns c =
    let past = c.alternatives-test.false in
    let i = c.alternatives.invariant in
    record {
      fills = record {
        turns = c.alternatives.typed-index;
        spends = i.spends;
        filled = λ query text is. record { came = i.came query text is; done = inr (omega (arith, past, ap length c.as_slice-typed-items.ensures)) };
      };
      stands = i.some;
      bound = i.bound;
      slots = i.slots;
    }

pub take_turn-requires-clause-slots : goal.take_turn-requires-clause-slots
take_turn-requires-clause-slots c = omega (arith, c.requires.slots, spare_same c.args.pool.now c.alternatives.pool c.alternatives.invariant.slots)

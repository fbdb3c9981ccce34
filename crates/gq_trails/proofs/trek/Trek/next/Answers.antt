use Rattle.std.proofs.Common.{◌∙◌, refl, arith}
use Rattle.gq_trails.proofs.Stepping.{all_done, all_walk, goes_back, goes_still, goes_up, less_back, less_still, starts_among, starts_at}
use Rattle.gq_trails.proofs.trek.Trek.next.Goals as goal

-- ---- the walk at the depth may end where it does

pub returns-then-depth-route-clause-found : goal.returns-then-depth-route-clause-found
returns-then-depth-route-clause-found c =
    all_walk c.args.route.now c.args.self.now.row c.depths.invariant.going c.index_mut.ensures.value c.advance.new.self c.advance.ensures.course c.advance.ensures.bounds
    (c.advance.ensures.next c.if-advance.true) (c.advance.ensures.stands c.if-advance.true) c.goes_on.ensures.tried refl refl c.if-goes_on.true (omega (arith, c.if-depth-route.true))

pub start-requires-clause-at : goal.start-requires-clause-at
start-requires-clause-at c =
    starts_at c.args.route.now c.args.self.now.row c.depths.invariant.going c.index_mut.ensures.value c.advance.new.self c.advance.ensures.course c.advance.ensures.bounds
    (c.advance.ensures.next c.if-advance.true) (c.advance.ensures.stands c.if-advance.true) c.goes_on.ensures.tried refl refl c.if-goes_on.true

pub start-requires-clause-walkers : goal.start-requires-clause-walkers
start-requires-clause-walkers c =
    starts_among c.args.route.now c.args.self.now.row c.depths.invariant.going c.index_mut.ensures.value c.advance.new.self c.advance.ensures.course c.advance.ensures.bounds
    (c.advance.ensures.next c.if-advance.true) (c.advance.ensures.stands c.if-advance.true) c.goes_on.ensures.tried refl refl c.if-goes_on.true

pub depths-smaller-then-goes_on : goal.depths-smaller-then-goes_on
depths-smaller-then-goes_on c =
    (goes_up c.args.route.now c.args.self.now.row c.depths.invariant.going c.index_mut.ensures.value c.advance.new.self c.advance.ensures.course c.advance.ensures.bounds
    (c.advance.ensures.next c.if-advance.true) (c.advance.ensures.stands c.if-advance.true) c.goes_on.ensures.tried refl refl c.if-goes_on.true (omega (arith, c.if-depth-route.false, c.depths.invariant.going.low)) c.start.new.self c.start.ensures).1

pub depths-preserved-then-goes_on : goal.depths-preserved-then-goes_on
depths-preserved-then-goes_on c = record {
  going = (goes_up c.args.route.now c.args.self.now.row c.depths.invariant.going c.index_mut.ensures.value c.advance.new.self c.advance.ensures.course c.advance.ensures.bounds
      (c.advance.ensures.next c.if-advance.true) (c.advance.ensures.stands c.if-advance.true) c.goes_on.ensures.tried refl refl c.if-goes_on.true (omega (arith, c.if-depth-route.false, c.depths.invariant.going.low)) c.start.new.self c.start.ensures).0;
  ends = c.goes_on.ensures.same ∙ c.depths.invariant.ends;
}

-- ---- or may not

pub depths-smaller-else-goes_on : goal.depths-smaller-else-goes_on
depths-smaller-else-goes_on c =
    less_still c.args.route.now c.args.self.now.row c.depths.invariant.going c.index_mut.ensures.value c.advance.new.self c.advance.ensures.course c.advance.ensures.bounds
    (c.advance.ensures.next c.if-advance.true) (c.advance.ensures.stands c.if-advance.true) c.goes_on.ensures.tried refl refl

pub depths-preserved-else-goes_on : goal.depths-preserved-else-goes_on
depths-preserved-else-goes_on c = record {
  going = goes_still c.args.route.now c.args.self.now.row c.depths.invariant.going c.index_mut.ensures.value c.advance.new.self c.advance.ensures.course c.advance.ensures.bounds
      (c.advance.ensures.next c.if-advance.true) (c.advance.ensures.stands c.if-advance.true) c.goes_on.ensures.tried refl refl c.if-goes_on.false;
  ends = c.goes_on.ensures.same ∙ c.depths.invariant.ends;
}

-- ---- or there is none

pub returns-then-depth-eq0-clause-found : goal.returns-then-depth-eq0-clause-found
returns-then-depth-eq0-clause-found c =
    all_done c.args.route.now c.args.self.now.row c.depths.invariant.going c.index_mut.ensures.value c.advance.new.self c.advance.ensures.course c.advance.ensures.bounds
    (c.advance.ensures.none c.if-advance.false) c.if-depth-eq0.true

pub depths-smaller : goal.depths-smaller
depths-smaller c =
    less_back c.args.route.now c.args.self.now.row c.depths.invariant.going c.index_mut.ensures.value c.advance.new.self c.advance.ensures.course c.advance.ensures.bounds
    (c.advance.ensures.none c.if-advance.false) c.if-depth-eq0.false

pub depths-preserved : goal.depths-preserved
depths-preserved c = record {
  going = goes_back c.args.route.now c.args.self.now.row c.depths.invariant.going c.index_mut.ensures.value c.advance.new.self c.advance.ensures.course c.advance.ensures.bounds
      (c.advance.ensures.none c.if-advance.false) c.if-depth-eq0.false;
  ends = c.depths.invariant.ends;
}

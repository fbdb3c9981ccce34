use Rattle.std.proofs.Common.{◌∙◌, ◌+◌, ◌≤◌, [], length, ap, sym, subst}
use Rattle.gq_law_trails.specs.Trails.{after_trails}
use Rattle.gq_outer.specs.Rows.{Wide}
use Rattle.gq_trails.specs.Trekking.{CanTrek, Trekking, continuations}
use Rattle.gq_trails.specs.steps.Journeys.{base_of, journey_of, patterns_of}
use Rattle.gq_trails.proofs.Beginning.{opens, owes}
use Rattle.gq_trails.proofs.trails.Trails.begin.Goals as goal

pub invariant_of-self : goal.invariant_of-self
invariant_of-self c =
    let t = c.self.inside in
    let can : CanTrek t.route.graph.now t.route.parts.now c.args.base.now = subst (λ (m : Trekking). CanTrek m.graph m.parts c.args.base.now) (sym c.self.view_is) c.requires.walks in
    let few : length t.route.parts.now + length c.args.rels.now ≤ 24 = subst (λ (m : Trekking). length m.parts + length c.args.rels.now ≤ 24) (sym c.self.view_is) c.requires.few in
    record {
      count = c.self.invariant.count;
      courses = c.self.invariant.courses;
      ends = c.self.invariant.ends;
      state = opens (record { graph = t.route.graph; parts = t.route.parts; rels = c.args.rels }) (record { walkers = t.trek.walkers; row = c.copy_from.new.self; taken = t.trek.taken }) c.args.base.now c.copy_from.ensures can few;
    }

pub returns-clause-owed : goal.returns-clause-owed
returns-clause-owed c =
    let t = c.self.inside in
    let can : CanTrek t.route.graph.now t.route.parts.now c.args.base.now = subst (λ (m : Trekking). CanTrek m.graph m.parts c.args.base.now) (sym c.self.view_is) c.requires.walks in
    ap (λ (row : Wide). after_trails t.route.graph.now (patterns_of (journey_of (record { graph = t.route.graph; parts = t.route.parts; rels = c.args.rels }) row)) t.route.parts.now (base_of t.route.parts.now row) []) c.copy_from.ensures
    ∙ owes (record { graph = t.route.graph; parts = t.route.parts; rels = c.args.rels }) c.args.base.now can
    ∙ ap (λ (m : Trekking). continuations m.graph m.parts c.args.rels.now c.args.base.now) c.self.view_is

use Rattle.std.proofs.Common.{◌∙◌, ◌++◌, ap, map, sym, subst}
use Rattle.std.specs.List.{range_with_len}
use Rattle.std.proofs.lemmas.List.Elements.{All-from_recursion, recursion_from_All}
use Rattle.gq_plan.specs.Plans.{plan_of}
use Rattle.gq_outer.specs.Placed.{IsPlaced}
use Rattle.gq_optional.specs.steps.Listed.{IsClause}
use Rattle.gq_optional.specs.steps.Making.{AreClausesOf, CanHold}
use Rattle.gq_optional.proofs.Clauses.{can_hold, clauses_are, clauses_ask, clauses_listed, clauses_parts, clauses_shared}
use Rattle.gq_optional.proofs.optionals.Optionals.make.Goals as goal
use Rattle.gq_optional.proofs.optionals.Optionals.make.Goals.{In-Ok}

pub hold_each-requires-clause-parts : goal.hold_each-requires-clause-parts
hold_each-requires-clause-parts c =
    let catalog = c.args.graph.now.catalog in
    let s = c.args.shape in
    All-from_recursion (CanHold catalog) c.args.parts.now (can_hold c.args.graph.now s.nodes s.rels catalog c.args.parts.now (recursion_from_All (IsPlaced s.nodes s.rels catalog) c.args.parts.now c.requires.placed))

-- the clauses that were added to none
held : (c : In-Ok) → AreClausesOf c.args.graph.now (range_with_len 0 c.args.shape.first) c.args.parts.now (map (map plan_of) c.args.plans.now) c.hold_each.new.clauses
held c =
    let adds = c.in-Ok.ensures.adds in
    let pss = map (map plan_of) c.args.plans.now in
    subst (λ k. AreClausesOf c.args.graph.now k c.args.parts.now pss c.hold_each.new.clauses) c.in_ok-known.ensures
    (subst (AreClausesOf c.args.graph.now c.in_ok-known.known.items c.args.parts.now pss) (sym (adds.all ∙ ap (λ l. l ++ adds.more) c.new-clauses.ensures)) adds.are)

pub invariant_of-result : goal.invariant_of-result
invariant_of-result c =
    let g = c.args.graph.now in
    let s = c.args.shape in
    let cs = c.hold_each.new.clauses in
    let pss = map (map plan_of) c.args.plans.now in
    let are = held (goal.at.invariant_of-result c).In-Ok in
    record {
      clauses = All-from_recursion (IsClause s.nodes s.rels) cs
          (clauses_are g s.nodes s.rels g.catalog (range_with_len 0 s.first) c.args.parts.now pss cs (recursion_from_All (IsPlaced s.nodes s.rels g.catalog) c.args.parts.now c.requires.placed) are);
      shared = clauses_shared g (range_with_len 0 s.first) c.args.parts.now pss cs are;
      asks = clauses_ask g (range_with_len 0 s.first) c.args.parts.now pss cs are;
    }

pub returns-clause-parts : goal.returns-clause-parts
returns-clause-parts c =
    clauses_parts c.args.graph.now (range_with_len 0 c.args.shape.first) c.args.parts.now (map (map plan_of) c.args.plans.now) c.hold_each.new.clauses (held (goal.at.returns-clause-parts c).In-Ok)

pub returns-clause-lists : goal.returns-clause-lists
returns-clause-lists c =
    clauses_listed c.args.graph.now (range_with_len 0 c.args.shape.first) c.args.parts.now (map (map plan_of) c.args.plans.now) c.hold_each.new.clauses (held (goal.at.returns-clause-lists c).In-Ok)

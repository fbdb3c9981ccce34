use Rattle.std.proofs.Common.{◌∙◌, ◌∷◌, ◌++◌, None, Some, ap, refl, sym}
use Rattle.gq_expr.specs.Reading as reading
use Rattle.gq_drain.specs.steps.Continued.{left_by}
use Rattle.gq_drain.specs.steps.Walking.{left_of_all}
use Rattle.gq_drain.proofs.trailing.reach_next.Goals as goal

pub rows-init : goal.rows-init
rows-init c = record { trails = c.requires; left = refl }

pub rows-preserved : goal.rows-preserved
rows-preserved c =
    let i = c.rows.invariant in
    let p = c.args.prepared.now in
    let y = c.args.typed.now in
    record {
      trails = record {
        graph = c.advance.ensures.graph ∙ i.trails.graph;
        parts = c.advance.ensures.parts ∙ i.trails.parts;
        once = c.advance.ensures.once ∙ i.trails.once;
        nodes = c.advance.ensures.nodes ∙ i.trails.nodes;
        rels = c.advance.ensures.rels ∙ i.trails.rels;
      };
      left = i.left ∙ ap (left_of_all p y) (c.advance.ensures.next c.rows-test.true)
          ∙ ap (λ l. l ++ left_of_all p y c.advance.new.self.owed) (ap (left_by p y) (sym c.row.ensures) ∙ sym c.in-Dropped.ensures);
    }

pub returns-in-Pass-clause-next : goal.returns-in-Pass-clause-next
returns-in-Pass-clause-next c = λ _.
    let i = c.rows.invariant in
    let p = c.args.prepared.now in
    let y = c.args.typed.now in
    let rest = left_of_all p y c.advance.new.self.owed in
    i.left ∙ ap (left_of_all p y) (c.advance.ensures.next c.rows-test.true)
    ∙ ap (λ l. l ++ rest) (ap (left_by p y) (sym c.row.ensures) ∙ sym c.in-Pass.ensures)
    ∙ ap (λ (r : reading.Assignment). record { row = r; mark = None } ∷ rest) c.row.ensures

pub returns-in-Fault-clause-next : goal.returns-in-Fault-clause-next
returns-in-Fault-clause-next c = λ _.
    let i = c.rows.invariant in
    let p = c.args.prepared.now in
    let y = c.args.typed.now in
    let rest = left_of_all p y c.advance.new.self.owed in
    i.left ∙ ap (left_of_all p y) (c.advance.ensures.next c.rows-test.true)
    ∙ ap (λ l. l ++ rest) (ap (left_by p y) (sym c.row.ensures) ∙ sym c.in-Fault.ensures)
    ∙ ap (λ (r : reading.Assignment). record { row = r; mark = Some c.in-Fault.found } ∷ rest) c.row.ensures

pub returns-clause-none : goal.returns-clause-none
returns-clause-none c = λ _. c.rows.invariant.left ∙ ap (left_of_all c.args.prepared.now c.args.typed.now) (c.advance.ensures.none c.rows-test.false)

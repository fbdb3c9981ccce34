use Rattle.std.proofs.Common.{◌∙◌, List, [], ◌∷◌, Some, append-nil, ap, arith, flat_map, sym}
use Rattle.gq_optional.specs.Held.{Held, first_known}
use Rattle.gq_outer.specs.Clauses.{after_clauses, unmarked}
use Rattle.gq_plan.specs.Assignments.{row_of}
use Rattle.gq_plan.specs.Marked.{Marked}
use Rattle.gq_drain.specs.Prepared.{known_by}
use Rattle.gq_drain.proofs.Copying.{blank_as, own_blank}
use Rattle.gq_drain.proofs.Pushing.{marked_stays}
use Rattle.gq_drain.proofs.behind.BehindContinues.begin.Goals as goal

pub copy_row-requires-clause-blank : goal.copy_row-requires-clause-blank
copy_row-requires-clause-blank c = own_blank _ _ _ _ c.args.self.now.row c.requires.ready.row

pub copy_row-requires-clause-some_nodes : goal.copy_row-requires-clause-some_nodes
copy_row-requires-clause-some_nodes c = omega (arith, c.requires.ready.nodes, c.requires.ready.row.nodes)

pub copy_row-requires-clause-some_rels : goal.copy_row-requires-clause-some_rels
copy_row-requires-clause-some_rels c = omega (arith, c.requires.ready.rels, c.requires.ready.row.rels)

pub copy_row-requires-clause-few_nodes : goal.copy_row-requires-clause-few_nodes
copy_row-requires-clause-few_nodes c = omega (arith, c.requires.ready.few_nodes, c.requires.ready.row.nodes)

pub copy_row-requires-clause-few_rels : goal.copy_row-requires-clause-few_rels
copy_row-requires-clause-few_rels c = omega (arith, c.requires.ready.few_rels, c.requires.ready.row.rels)

pub copy_row-requires-in-Fault-clause-blank : goal.copy_row-requires-in-Fault-clause-blank
copy_row-requires-in-Fault-clause-blank c = own_blank _ _ _ _ c.args.self.now.row c.requires.ready.row

pub copy_row-requires-in-Fault-clause-some_nodes : goal.copy_row-requires-in-Fault-clause-some_nodes
copy_row-requires-in-Fault-clause-some_nodes c = omega (arith, c.requires.ready.nodes, c.requires.ready.row.nodes)

pub copy_row-requires-in-Fault-clause-some_rels : goal.copy_row-requires-in-Fault-clause-some_rels
copy_row-requires-in-Fault-clause-some_rels c = omega (arith, c.requires.ready.rels, c.requires.ready.row.rels)

pub copy_row-requires-in-Fault-clause-few_nodes : goal.copy_row-requires-in-Fault-clause-few_nodes
copy_row-requires-in-Fault-clause-few_nodes c = omega (arith, c.requires.ready.few_nodes, c.requires.ready.row.nodes)

pub copy_row-requires-in-Fault-clause-few_rels : goal.copy_row-requires-in-Fault-clause-few_rels
copy_row-requires-in-Fault-clause-few_rels c = omega (arith, c.requires.ready.few_rels, c.requires.ready.row.rels)

pub begin-requires-clause-nodes : goal.begin-requires-clause-nodes
begin-requires-clause-nodes c =
    let h = c.requires.ready in
    ap (λ (k : Held). k.shape.nodes) h.walk ∙ sym (blank_as _ _ _ _ c.args.self.now.row c.copy_row.new.wide h.row c.copy_row.ensures.blank).nodes

pub begin-requires-clause-rels : goal.begin-requires-clause-rels
begin-requires-clause-rels c =
    let h = c.requires.ready in
    ap (λ (k : Held). k.shape.rels) h.walk ∙ sym (blank_as _ _ _ _ c.args.self.now.row c.copy_row.new.wide h.row c.copy_row.ensures.blank).rels

pub returns-in-Dropped-clause-owed : goal.returns-in-Dropped-clause-owed
returns-in-Dropped-clause-owed c =
    let p = c.args.self.now.prepared.now in
    let held = p.optionals.held in
    ap (flat_map (after_clauses held.graph (known_by p) held.parts held.lists)) c.in-Dropped.ensures

pub returns-in-Pass-clause-owed : goal.returns-in-Pass-clause-owed
returns-in-Pass-clause-owed c =
    let h = c.requires.ready in
    let p = c.args.self.now.prepared.now in
    let held = p.optionals.held in
    let all : Marked → List Marked = after_clauses held.graph (known_by p) held.parts held.lists in
    let reads = c.copy_row.ensures.reads in
    c.begin.ensures.owed
    ∙ (λ i. after_clauses (h.walk i).graph (first_known (h.walk i)) (h.walk i).parts (h.walk i).lists (unmarked (reads i)))
    ∙ sym (append-nil (all (unmarked (row_of c.args.row.now)))) ∙ ap (flat_map all) c.in-Pass.ensures

pub returns-in-Pass-clause-ready : goal.returns-in-Pass-clause-ready
returns-in-Pass-clause-ready c =
    let h = c.requires.ready in
    record {
      row = blank_as _ _ _ _ c.args.self.now.row c.copy_row.new.wide h.row c.copy_row.ensures.blank;
      walk = c.begin.ensures.held ∙ h.walk;
      nodes = h.nodes;
      rels = h.rels;
      few_nodes = h.few_nodes;
      few_rels = h.few_rels;
    }

pub returns-in-Fault-clause-owed : goal.returns-in-Fault-clause-owed
returns-in-Fault-clause-owed c =
    let p = c.args.self.now.prepared.now in
    let held = p.optionals.held in
    let all : Marked → List Marked = after_clauses held.graph (known_by p) held.parts held.lists in
    let reads = c.copy_row-in-Fault.ensures.reads in
    let here : Marked = record { row = row_of c.args.row.now; mark = Some c.in-Fault.fault } in
    (λ i. record { row = reads i; mark = Some c.in-Fault.fault } ∷ [])
    ∙ sym (marked_stays held.graph (known_by p) held.parts held.lists (row_of c.args.row.now) c.in-Fault.fault)
    ∙ sym (append-nil (all here)) ∙ ap (flat_map all) c.in-Fault.ensures

pub returns-in-Fault-clause-ready : goal.returns-in-Fault-clause-ready
returns-in-Fault-clause-ready c =
    let h = c.requires.ready in
    record {
      row = blank_as _ _ _ _ c.args.self.now.row c.copy_row-in-Fault.new.wide h.row c.copy_row-in-Fault.ensures.blank;
      walk = h.walk;
      nodes = h.nodes;
      rels = h.rels;
      few_nodes = h.few_nodes;
      few_rels = h.few_rels;
    }

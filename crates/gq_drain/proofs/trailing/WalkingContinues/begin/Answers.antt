use Rattle.std.proofs.Common.{◌∙◌, List, ap, arith, flat_map, map, subst, sym}
use Rattle.gq_plan.specs.Meaning.{Partial, row}
use Rattle.gq_trails.specs.Continued.{rows_continued}
use Rattle.gq_trails.specs.Trekking.{CanTrek}
use Rattle.gq_drain.specs.steps.Continued.{left_by}
use Rattle.gq_drain.proofs.Continuing.{can_trek, core_row, same_rows}
use Rattle.gq_drain.proofs.Copying.{blank_as, own_blank}
use Rattle.gq_drain.proofs.trailing.WalkingContinues.begin.Goals as goal

pub copy_row-requires-clause-blank : goal.copy_row-requires-clause-blank
copy_row-requires-clause-blank c = own_blank _ _ _ _ c.args.self.now.row c.requires.ready.row_is

pub copy_row-requires-clause-some_nodes : goal.copy_row-requires-clause-some_nodes
copy_row-requires-clause-some_nodes c = omega (arith, c.requires.ready.nodes, c.requires.ready.row_is.nodes)

pub copy_row-requires-clause-some_rels : goal.copy_row-requires-clause-some_rels
copy_row-requires-clause-some_rels c = omega (arith, c.requires.ready.rels, c.requires.ready.row_is.rels)

pub copy_row-requires-clause-few_nodes : goal.copy_row-requires-clause-few_nodes
copy_row-requires-clause-few_nodes c = omega (arith, c.requires.ready.few_nodes, c.requires.ready.row_is.nodes)

pub copy_row-requires-clause-few_rels : goal.copy_row-requires-clause-few_rels
copy_row-requires-clause-few_rels c = omega (arith, c.requires.ready.few_rels, c.requires.ready.row_is.rels)

pub begin-requires-clause-walks : goal.begin-requires-clause-walks
begin-requires-clause-walks c =
    let h = c.requires.ready in
    let s = c.args.self.now in
    let g = s.prepared.now.graph.now in
    let b = s.prepared.now.bound.now in
    let t = c.args.row.now in
    let w = c.copy_row.new.wide in
    let blank = blank_as _ _ _ _ s.row w h.row_is c.copy_row.ensures.blank in
    subst (λ k. CanTrek k s.trails.parts w) (sym h.trails.graph)
    (subst (λ ps. CanTrek g ps w) (sym h.trails.parts) (can_trek g b s.typed.now t w h.walks c.requires.made (core_row t w c.copy_row.ensures.reads) blank.nodes))

pub begin-requires-clause-nodes : goal.begin-requires-clause-nodes
begin-requires-clause-nodes c =
    let h = c.requires.ready in
    h.trails.nodes ∙ sym (blank_as _ _ _ _ c.args.self.now.row c.copy_row.new.wide h.row_is c.copy_row.ensures.blank).nodes

pub begin-requires-clause-rels : goal.begin-requires-clause-rels
begin-requires-clause-rels c =
    let h = c.requires.ready in
    h.trails.rels ∙ sym (blank_as _ _ _ _ c.args.self.now.row c.copy_row.new.wide h.row_is c.copy_row.ensures.blank).rels

pub returns-clause-owed : goal.returns-clause-owed
returns-clause-owed c =
    let h = c.requires.ready in
    let s = c.args.self.now in
    let p = s.prepared.now in
    let y = s.typed.now in
    let t = c.args.row.now in
    let w = c.copy_row.new.wide in
    ap (λ (bs : List Partial). flat_map (left_by p y) (map row bs)) (c.begin.ensures.owed ∙ (λ i. rows_continued (h.trails.once i) (h.trails.graph i) (h.trails.parts i) (c.as_slice.ensures i) w))
    ∙ ap (flat_map (left_by p y)) (same_rows p.graph.now p.bound.now y t w (core_row t w c.copy_row.ensures.reads))

pub returns-clause-ready : goal.returns-clause-ready
returns-clause-ready c =
    let h = c.requires.ready in
    record {
      row_is = blank_as _ _ _ _ c.args.self.now.row c.copy_row.new.wide h.row_is c.copy_row.ensures.blank;
      trails = record {
        graph = c.begin.ensures.graph ∙ h.trails.graph;
        parts = c.begin.ensures.parts ∙ h.trails.parts;
        once = c.begin.ensures.once ∙ h.trails.once;
        nodes = c.begin.ensures.nodes ∙ h.trails.nodes;
        rels = c.begin.ensures.rels ∙ h.trails.rels;
      };
      walks = h.walks;
      nodes = h.nodes;
      rels = h.rels;
      few_nodes = h.few_nodes;
      few_rels = h.few_rels;
    }

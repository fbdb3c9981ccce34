use Rattle.std.proofs.Common.{◌≡◌, ◌∙◌, ◌+◌, ap, sym, subst, ◌&&◌, not}
use Rattle.gq_plan.proofs.Placing.{joined_nodes, joined_rels}
use Rattle.gq_plan.proofs.StepEquations.{scan_is, extend_is, column_extend_is, close_is, column_close_is, join_is}
use Rattle.gq_plan.specs.Covers.{after}
use Rattle.gq_plan.specs.Known.{none}
use Rattle.gq_plan.specs.Soundness.{has_number}
use Rattle.gq_plan.specs.Plans.{Join, plan_of, step_of}
use Rattle.gq_plan.specs.Shapes as shapes
use Rattle.gq_plan.specs.Shapes.{groups_of, places_of, put_all}
use Rattle.gq_plan.specs.steps.Places.{HasRoom, IsNamed}
use Rattle.gq_plan.proofs.places.Places.place.Goals as goal

pub put-requires : goal.put-requires
unfolding IsNamed
put-requires c = subst IsNamed (ap step_of c.in-Scan.is ∙ scan_is c.in-Scan.node) c.requires.named

pub put-requires-in-Extend : goal.put-requires-in-Extend
unfolding IsNamed
put-requires-in-Extend c = (subst IsNamed (ap step_of c.in-Extend.is ∙ extend_is _ _ _ _) c.requires.named).0

pub put-requires-in-Extend-2 : goal.put-requires-in-Extend-2
unfolding IsNamed
put-requires-in-Extend-2 c = (subst IsNamed (ap step_of c.in-Extend.is ∙ extend_is _ _ _ _) c.requires.named).1

pub put-requires-in-ColumnExtend : goal.put-requires-in-ColumnExtend
unfolding IsNamed
put-requires-in-ColumnExtend c = (subst IsNamed (ap step_of c.in-ColumnExtend.is ∙ column_extend_is _ _ _ _) c.requires.named).0

pub put-requires-in-ColumnExtend-2 : goal.put-requires-in-ColumnExtend-2
unfolding IsNamed
put-requires-in-ColumnExtend-2 c = (subst IsNamed (ap step_of c.in-ColumnExtend.is ∙ column_extend_is _ _ _ _) c.requires.named).1

pub put-requires-in-Close : goal.put-requires-in-Close
unfolding IsNamed
put-requires-in-Close c = subst IsNamed (ap step_of c.in-Close.is ∙ close_is _ _ _ _) c.requires.named

pub put-requires-in-ColumnClose : goal.put-requires-in-ColumnClose
unfolding IsNamed
put-requires-in-ColumnClose c = subst IsNamed (ap step_of c.in-ColumnClose.is ∙ column_close_is _ _ _ _) c.requires.named

pub returns-in-Join-clause-placed : goal.returns-in-Join-clause-placed
unfolding shapes.place_step IsNamed
returns-in-Join-clause-placed c =
    let side = plan_of c.in-Join.side in
    let room : HasRoom side = subst IsNamed (ap step_of c.in-Join.is ∙ join_is c.in-Join.side c.in-Join.keys) c.requires.named in
    let p = places_of c.args.self.now in
    let first = c.begin-group-in-Join.ensures in
    let nodes : groups_of c.put_nodes.new.self ≡ put_all (λ v. (after side none).nodes v && not (has_number c.in-Join.keys v)) p.count p.nodes =
    joined_nodes _ _ (groups_of c.begin-group-in-Join.new.self.nodes) side (plan_of c.get.result.now) c.in-Join.keys c.as_slice.result.now _ c.begin-group-in-Join.result room
    (ap plan_of c.get.ensures) c.as_slice.ensures first.number (ap (λ q. groups_of q.nodes) first.next) c.put_nodes.ensures in
    let rels : groups_of c.put_rels.new.self ≡ put_all (after side none).rels p.count p.rels =
    joined_rels _ _ (groups_of c.begin-group-in-Join.new.self.rels) side (plan_of c.get-in-Join.result.now) _ c.begin-group-in-Join.result room
    (ap plan_of c.get-in-Join.ensures) first.number (ap (λ q. groups_of q.rels) first.next) c.put_rels.ensures in
    let count : c.begin-group-in-Join.new.self.count ≡ p.count + 1 = ap (λ q. q.count) first.next in
    let made : places_of record { count = c.begin-group-in-Join.new.self.count; nodes = c.put_nodes.new.self; rels = c.put_rels.new.self } ≡ shapes.place_step (Join side c.in-Join.keys) p =
    (λ i. record { count = count i; nodes = nodes i; rels = rels i }) in
    made ∙ sym (ap (λ s. shapes.place_step s p) (ap step_of c.in-Join.is ∙ join_is c.in-Join.side c.in-Join.keys))

use Rattle.std.proofs.Common.{◌∙◌, ◌+◌, ◌*◌, ◌<◌, ap, length, sym, subst, arith}
use Rattle.std.specs.Prelude.{slice_index}
use Rattle.gq_join.specs.Kept.{row_at}
use Rattle.gq_outer.specs.Rows.{Wide, item_at}
use Rattle.gq_optional.proofs.Placed.{all_head, all_tail, placed_rels}
use Rattle.gq_optional.proofs.placing.+place_rels.Goals as goal

pub overflow_add-place : goal.overflow_add-place
overflow_add-place t c = omega (arith, c.requires.fits, ap length c.in-Some-split_first.ensures.cases.0)

pub place_rels-requires : goal.place_rels-requires
place_rels-requires t c =
    let e = c.in-Some.ensures.cases.0 in
    let f = ap length c.in-Some-split_first.ensures.cases.0 in
    (omega (arith, c.decreases, ap length e), (c.requires.at, (omega (arith, c.requires.inside, f), (omega (arith, c.requires.fits, f), (c.requires.sized, all_tail _ _ _ _ e c.requires.variables)))))

pub number-requires-clause-inside : goal.number-requires-clause-inside
number-requires-clause-inside t c =
    let f = ap length c.in-Some-split_first.ensures.cases.0 in
    subst (λ w. c.args.at * w + c.args.place < length c.kept_rels.result.numbers.now) (sym c.kept_rels.ensures.width)
    (c.kept_rels.ensures.inside c.args.at c.args.place c.requires.at (omega (arith, c.requires.inside, f)))

pub set_rel-requires : goal.set_rel-requires
set_rel-requires t c =
    let v = all_head _ _ _ _ c.in-Some.ensures.cases.0 c.requires.variables in
    omega (arith, v, c.place_rels.ensures.count)

pub returns-clause-rels : goal.returns-clause-rels
returns-clause-rels t c =
    let e = c.in-Some.ensures.cases.0 in
    let f = c.in-Some-split_first.ensures.cases.0 in
    let v = all_head _ _ _ _ e c.requires.variables in
    placed_rels c.place_rels.new.row.rels c.set_rel.new.self.rels c.in-Some.variable.now c.in-Some.variables.now c.args.variables.now c.in-Some-split_first.rel.now c.in-Some-split_first.typed.now c.args.typed.now
    (row_at c.args.build.now c.args.at).rels c.args.place c.number.result (item_at c.args.row.now.rels)
    (ap (λ (w : Wide). w.rels) c.set_rel.ensures)
    (c.number.ensures ∙ ap (λ w. slice_index c.kept_rels.result.numbers.now (c.args.at * w + c.args.place)) c.kept_rels.ensures.width
    ∙ c.kept_rels.ensures.each c.args.at c.args.place c.requires.at (omega (arith, c.requires.inside, ap length f)))
    e f (omega (arith, c.requires.inside, c.requires.sized, ap length f)) (omega (arith, v, c.place_rels.ensures.count)) c.place_rels.ensures.rels

use Rattle.std.proofs.Common.{◌<◌, ◌∙◌, ◌+◌, false, length, refl, sym, subst, arith}
use Rattle.gq_trails.specs.steps.Chained.{AreOfOne, HaveGoneFrom, barred_behind}
use Rattle.gq_trails.specs.steps.Walked.{walked_of}
use Rattle.gq_trails.proofs.Placed.{begun_from, can_from_here, ends_ws, fewer_ks, first_from, found_from, last_from, long_row, low_hs, low_row, low_ws, more_all, more_goes, more_long, more_low, none_from, not_begun_from}
use Rattle.gq_trails.proofs.chain.+go_on.Goals as goal

-- ---- before they go on

pub returns-then-not-begun-clause-gone : goal.returns-then-not-begun-clause-gone
returns-then-not-begun-clause-gone t_ c =
    let t = c.args.walked.now in
    let bars = barred_behind c.args.rels.now (walked_of t) in
    let es = c.args.ends.now.items in
    subst (λ b. HaveGoneFrom t.graph bars t.nodes t.rels b c.args.at es es false) (sym c.if-not-begun.true) (not_begun_from t.graph bars t.nodes t.rels c.args.at es c.requires.all)

pub advance_at-requires-clause-ends : goal.advance_at-requires-clause-ends
advance_at-requires-clause-ends t_ c e rest is =
    let t = c.args.walked.now in
    (subst (AreOfOne t.graph t.nodes t.rels) is c.requires.all).0.ends

pub returns-then-at-len-clause-gone : goal.returns-then-at-len-clause-gone
returns-then-at-len-clause-gone t_ c =
    let t = c.args.walked.now in
    let last = c.if-at-len.true ∙ c.len.ensures ∙ c.args.ends.now.ok.0 in
    last_from t.graph (barred_behind c.args.rels.now (walked_of t)) t.nodes t.rels c.args.at c.args.ends.now.items c.requires.all c.advance_at.new.ends.items c.advance_at.result
    c.args.begun c.if-not-begun.false last c.advance_at.ensures

pub rows-init : goal.rows-init
rows-init t_ c =
    let t = c.args.walked.now in
    let more : c.args.at + 1 < length c.args.ends.now.items = omega (arith, c.requires.low, c.if-at-len.false, c.len.ensures, c.args.ends.now.ok.0) in
    record { under = first_from t.graph (barred_behind c.args.rels.now (walked_of t)) t.nodes t.rels c.args.at c.args.ends.now.items c.requires.all more; nodes = refl; rels = refl }

-- ---- those that follow go on

pub stands_at-entered-requires : goal.stands_at-entered-requires
stands_at-entered-requires t_ c =
    let low = more_low c.rows.invariant.under c.requires.low in
    omega (arith, low)

pub go_on-requires : goal.go_on-requires
go_on-requires t_ c =
    let on = c.if-not-begun.false in
    let under = c.rows.invariant.under in
    let low = more_low under c.requires.low in
    let long = more_long under c.requires.low in
    let goes = more_goes under c.stands_at-entered.ensures c.requires.low (c.requires.goes on) in (
      omega (arith, low, long, c.requires.low),
      (low, (λ _. c.requires.few on, (λ _. c.requires.stands on, (more_all under c.requires.low, (goes, (c.rows.invariant.nodes ∙ c.requires.nodes, c.rows.invariant.rels ∙ c.requires.rels)))))),
    )

pub returns-then-go_on-clause-gone : goal.returns-then-go_on-clause-gone
returns-then-go_on-clause-gone t_ c = found_from c.rows.invariant.under c.stands_at-entered.ensures c.go_on.ensures.gone c.if-go_on.true c.args.begun c.if-not-begun.false

-- ---- the one before them goes on

pub advance_at-requires-in-rows-clause-low : goal.advance_at-requires-in-rows-clause-low
advance_at-requires-in-rows-clause-low t_ c = low_ws c.rows.invariant.under c.stands_at-entered.ensures c.go_on.ensures.gone c.if-go_on.false c.requires.low

pub advance_at-requires-in-rows-clause-ends : goal.advance_at-requires-in-rows-clause-ends
advance_at-requires-in-rows-clause-ends t_ c = ends_ws c.rows.invariant.under c.stands_at-entered.ensures c.go_on.ensures.gone c.if-go_on.false c.requires.low

pub returns-then-not-advance_at-clause-gone : goal.returns-then-not-advance_at-clause-gone
returns-then-not-advance_at-clause-gone t_ c =
    none_from c.rows.invariant.under c.stands_at-entered.ensures c.go_on.ensures.gone c.if-go_on.false c.advance_at-in-rows.ensures c.if-not-advance_at.true c.args.begun c.if-not-begun.false

-- ---- and they begin from its row

pub copy_row-requires-clause-low : goal.copy_row-requires-clause-low
copy_row-requires-clause-low t_ c =
    low_row c.rows.invariant.under c.stands_at-entered.ensures c.go_on.ensures.gone c.if-go_on.false c.advance_at-in-rows.ensures c.if-not-advance_at.false c.requires.low (c.requires.goes c.if-not-begun.false)

pub copy_row-requires-clause-long : goal.copy_row-requires-clause-long
copy_row-requires-clause-long t_ c =
    long_row c.rows.invariant.under c.stands_at-entered.ensures c.go_on.ensures.gone c.if-go_on.false c.advance_at-in-rows.ensures c.if-not-advance_at.false c.requires.low (c.requires.goes c.if-not-begun.false)
    c.go_on.new.row (c.go_on.ensures.nodes ∙ c.rows.invariant.nodes ∙ c.requires.nodes) (c.go_on.ensures.rels ∙ c.rows.invariant.rels ∙ c.requires.rels)

pub set_out-requires-clause-low : goal.set_out-requires-clause-low
set_out-requires-clause-low t_ c =
    low_hs c.rows.invariant.under c.stands_at-entered.ensures c.go_on.ensures.gone c.if-go_on.false c.advance_at-in-rows.ensures c.if-not-advance_at.false c.requires.low (c.requires.goes c.if-not-begun.false)

pub set_out-requires-clause-can : goal.set_out-requires-clause-can
set_out-requires-clause-can t_ c =
    can_from_here c.rows.invariant.under c.stands_at-entered.ensures c.go_on.ensures.gone c.if-go_on.false c.advance_at-in-rows.ensures c.if-not-advance_at.false c.requires.low (c.requires.goes c.if-not-begun.false)
    c.copy_row.new.row c.copy_row.ensures.row

pub set_out-requires-clause-few : goal.set_out-requires-clause-few
set_out-requires-clause-few t_ c = c.requires.few c.if-not-begun.false

pub set_out-requires-clause-stands : goal.set_out-requires-clause-stands
set_out-requires-clause-stands t_ c = c.requires.stands c.if-not-begun.false

pub rows-preserved : goal.rows-preserved
rows-preserved t_ c =
    record {
      under = begun_from c.rows.invariant.under c.stands_at-entered.ensures c.go_on.ensures.gone c.if-go_on.false c.advance_at-in-rows.ensures c.if-not-advance_at.false c.requires.low (c.requires.goes c.if-not-begun.false)
          c.copy_row.new.row c.copy_row.ensures.row c.set_out.new.ends.items c.set_out.ensures;
      nodes = c.copy_row.ensures.nodes ∙ c.go_on.ensures.nodes ∙ c.rows.invariant.nodes;
      rels = c.copy_row.ensures.rels ∙ c.go_on.ensures.rels ∙ c.rows.invariant.rels;
    }

pub rows-smaller : goal.rows-smaller
rows-smaller t_ c =
    fewer_ks c.rows.invariant.under c.stands_at-entered.ensures c.go_on.ensures.gone c.if-go_on.false c.advance_at-in-rows.ensures c.if-not-advance_at.false c.requires.low (c.requires.goes c.if-not-begun.false)
    c.copy_row.new.row c.copy_row.ensures.row c.set_out.new.ends.items c.set_out.ensures

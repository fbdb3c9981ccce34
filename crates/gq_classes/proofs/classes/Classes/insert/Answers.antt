use Rattle.std.proofs.Common.{sym}
use Rattle.std.proofs.lemmas.List.{length-map}
use Rattle.gq_base.specs.Values.{val}
use Rattle.gq_classes.proofs.Inserting.{inserts_added, inserts_failed, inserts_known}
use Rattle.gq_classes.proofs.classes.Classes.insert.Goals as goal

pub invariant_of-self-in_err-number : goal.invariant_of-self-in_err-number
invariant_of-self-in_err-number c =
    inserts_failed _ _ _ c.fit.new.levels.items c.as_mut_slice.result.now c.number_behind.new.levels _ _ _ c.fit.new.levels.len _ _ c.self.invariant c.self.view_is
    (sym (length-map c.args.row.now val)) c.requires.wide c.in_ok-fit.ensures c.as_mut_slice.ensures.value c.fit.new.levels.ok.0 c.in_err-number.field-0.0 c.in_err-number.ensures

pub invariant_of-self-then-new : goal.invariant_of-self-then-new
invariant_of-self-then-new c =
    let all = inserts_added _ _ _ c.fit.new.levels.items c.as_mut_slice.result.now c.number_behind.new.levels _ _ _ c.fit.new.levels.len _ _ c.self.invariant c.self.view_is
    (sym (length-map c.args.row.now val)) c.requires.wide c.in_ok-fit.ensures c.as_mut_slice.ensures.value c.fit.new.levels.ok.0 c.in_ok-number.field-0 c.in_ok-number.ensures c.if-new.true in
    all.0

pub returns-then-new : goal.returns-then-new
returns-then-new c =
    let all = inserts_added _ _ _ c.fit.new.levels.items c.as_mut_slice.result.now c.number_behind.new.levels _ _ _ c.fit.new.levels.len _ _ c.self.invariant c.self.view_is
    (sym (length-map c.args.row.now val)) c.requires.wide c.in_ok-fit.ensures c.as_mut_slice.ensures.value c.fit.new.levels.ok.0 c.in_ok-number.field-0 c.in_ok-number.ensures c.if-new.true in
    (all.1, all.2)

pub returns-else-new : goal.returns-else-new
returns-else-new c =
    let all = inserts_known _ _ _ c.fit.new.levels.items c.as_mut_slice.result.now c.number_behind.new.levels _ _ _ c.fit.new.levels.len _ _ c.self.invariant c.self.view_is
    (sym (length-map c.args.row.now val)) c.requires.wide c.in_ok-fit.ensures c.as_mut_slice.ensures.value c.fit.new.levels.ok.0 c.in_ok-number.field-0 c.in_ok-number.ensures c.if-new.false in
    (all.1, all.2)

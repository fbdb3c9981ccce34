use Rattle.std.proofs.Common.{◌≡◌, ℕ, ◌++◌, List, Some, None, true, OnOk, ◌-◌, length, take, drop, map, flat_map, slice_get, get_or, sym, ap, ◌∙◌, subst}
use Rattle.std.proofs.lemmas.Bool.{ltb-true}
use Rattle.std.proofs.lemmas.List.{get_or_default}
use Rattle.gq_alternatives.specs.Alternatives.{Choice}
use Rattle.gq_choices.specs.steps.Searching.{Found, adding, filled, may_be, taking}
use Rattle.gq_choices.proofs.Limits.{when_full, add_none, add_turn}
use Rattle.gq_choices.proofs.SearchSteps.{fill_all, fill_none, fill_some, table_back, table_taken}
use Rattle.gq_choices.proofs.search.+fill.Goals as goal

pub fill-returns-in-empty : goal.fill-returns-in-empty
fill-returns-in-empty t c =
    let s : Found = c.args.found.now in
    subst (λ cs. OnOk c.push_choice.result (c.push_choice.new.self ≡ adding c.args.most cs s)) (fill_all s.known s.readings s.tables c.args.lists.now c.in-empty.len_below) c.push_choice.ensures

pub fill-returns-in-None : goal.fill-returns-in-None
fill-returns-in-None t c =
    let s : Found = c.args.found.now in
    let none : slice_get s.known (length s.tables) ≡ None = sym (ap (slice_get s.known) c.tables_len.ensures) ∙ sym c.known_of.ensures ∙ c.in-None.is in
    add_none c.args.most s c.requires
    ∙ ap (λ cs. adding c.args.most cs s) (fill_none s.known s.readings s.tables c.args.lists.now c.tables-item.result c.in-len1-up.len_at_least c.tables-item.is none)

pub fill-returns-in-Some : goal.fill-returns-in-Some
fill-returns-in-Some t c =
    let s : Found = c.args.found.now in
    let some : slice_get s.known (length s.tables) ≡ Some c.in-Some.known = sym (ap (slice_get s.known) c.tables_len.ensures) ∙ sym c.known_of.ensures ∙ c.in-Some.is in
    subst (λ cs. OnOk c.fill_from.result (c.fill_from.new.found ≡ adding c.args.most cs s))
    (ap (flat_map (λ t. taking s.known s.readings s.tables (take (length c.args.lists.now - 1) (drop 1 c.args.lists.now)) c.in-Some.known t)) c.as_slice.ensures
    ∙ fill_some s.known s.readings s.tables c.args.lists.now c.tables-item.result c.in-Some.known c.in-len1-up.len_at_least c.tables-item.is some) c.fill_from.ensures

pub fill_from-loop-table-preserved : goal.fill_from-loop-table-preserved
fill_from-loop-table-preserved t c =
    let s : Found = c.args.found.now in
    let go : Found → ℕ → List Choice = λ z x. taking z.known z.readings z.tables c.args.rest.now c.args.known x in
    let x : ℕ = get_or c.args.tables.now c.loop-table.table-index 0 in
    add_turn (go s) c.args.most c.args.tables.now c.loop-table.table-index x s c.loop-table.found c.fill_with.new.found c.loop-table-test.true (get_or_default c.args.tables.now c.loop-table.table-index 0 x c.loop-table-test.true) c.loop-table.invariant
    (c.in_ok-fill_with.ensures ∙ ap (λ z. adding c.args.most (go z x) c.loop-table.found) c.loop-table.invariant)

pub fill_with-returns-then-is_full : goal.fill_with-returns-then-is_full
fill_with-returns-then-is_full t c =
    let s : Found = c.args.found.now in
    when_full c.args.most (taking s.known s.readings s.tables c.args.rest.now c.args.known c.args.table) s c.requires (ltb-true c.args.most (length s.choices) (sym c.is_full.ensures ∙ c.if-is_full.true))

pub fill_with-returns : goal.fill_with-returns
fill_with-returns t c =
    let s : Found = c.args.found.now in
    let may : may_be c.args.known c.args.table ≡ true = sym c.may_be.ensures ∙ c.if-not-may_be.false in
    let go : Found → List Choice = λ f. map (λ ts. record { readings = f.readings; tables = f.tables ++ ts }) (filled (drop (length f.tables) f.known) c.args.rest.now) in
    table_back c.args.most go s c.push_table.new.self c.fill.new.found c.pop_table.new.self c.args.table c.in_ok-push_table.ensures c.in_ok-fill.ensures c.pop_table.ensures
    ∙ ap (λ cs. adding c.args.most cs s) (table_taken s.known s.readings s.tables c.args.rest.now c.args.known c.args.table may)

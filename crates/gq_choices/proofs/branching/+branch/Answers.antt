use Rattle.std.proofs.Common.{◌≡◌, ℕ, List, Option, OnOk, length, take, flat_map, subst, sym, ap, ap₂, ◌∙◌, arith}
use Rattle.std.specs.List.{list_any}
use Rattle.std.proofs.lemmas.Bool.{ltb-true}
use Rattle.std.proofs.lemmas.List.{take_all}
use Rattle.gq_base.specs.Catalogs.{Tables}
use Rattle.gq_alternatives.specs.Alternatives.{Choice, Reading}
use Rattle.gq_choices.specs.steps.Branching.{deciding, readings_at}
use Rattle.gq_choices.specs.steps.Searching.{Found, adding, agreeing, is_nil, no_reading, searched}
use Rattle.gq_alternatives.specs.Candidates.{Step}
use Rattle.gq_choices.proofs.Branches.{branch_each}
use Rattle.gq_choices.proofs.Limits.{add_none, add_turn, when_full}
use Rattle.gq_choices.proofs.Searches.{none_of_readings, none_of_tables, search_finds}
use Rattle.gq_choices.proofs.branching.+branch.Goals as goal

pub branch-returns-then-is_full : goal.branch-returns-then-is_full
branch-returns-then-is_full t c =
    when_full c.args.most (agreeing c.args.catalog.now c.args.first.steps c.args.first.tables) c.args.found.now c.requires.few
    (ltb-true c.args.most (length c.args.found.now.choices) (sym c.is_full.ensures ∙ c.if-is_full.true))

pub branch_among-returns-then-some_without_table : goal.branch_among-returns-then-some_without_table
branch_among-returns-then-some_without_table t c =
    add_none c.args.most c.args.found.now c.requires.few
    ∙ ap (λ cs. adding c.args.most cs c.args.found.now)
    (sym (none_of_tables c.args.catalog.now c.args.candidates.now.steps c.args.candidates.now.tables
    (sym (c.some_without_table.ensures ∙ ap (list_any is_nil) c.as_slice-tables.ensures) ∙ c.if-some_without_table.true)))

pub branch_among-returns-then-some_without_reading : goal.branch_among-returns-then-some_without_reading
branch_among-returns-then-some_without_reading t c =
    add_none c.args.most c.args.found.now c.requires.few
    ∙ ap (λ cs. adding c.args.most cs c.args.found.now)
    (sym (none_of_readings c.args.catalog.now c.args.candidates.now.steps c.args.candidates.now.tables
    (sym (c.some_without_reading.ensures ∙ ap (list_any no_reading) c.as_slice-steps.ensures) ∙ c.if-some_without_reading.true)))

pub branch_among-returns-in_default : goal.branch_among-returns-in_default
branch_among-returns-in_default t c =
    let catalog : Tables = c.args.catalog.now in
    let steps : List Step = c.args.candidates.now.steps in
    let tables : List (List ℕ) = c.args.candidates.now.tables in
    let s : Found = c.args.found.now in
    subst (λ cs. OnOk c.search.result (c.search.new.found ≡ adding c.args.most cs s))
    (ap₂ (λ (ts : List (List ℕ)) (ss : List Step). searched catalog ts ss s.known s.readings) c.as_slice-tables.ensures c.as_slice-steps.ensures
    ∙ ap₂ (λ (ks : List (Option ℕ)) (rs : List Reading). searched catalog tables steps ks rs) c.requires.blank.known c.requires.blank.readings
    ∙ sym (search_finds catalog tables steps))
    c.search.ensures

pub branch_at-loop-reading-preserved : goal.branch_at-loop-reading-preserved
branch_at-loop-reading-preserved t c =
    let catalog : Tables = c.args.catalog.now in
    let go : Reading → List Choice = λ x. agreeing catalog (deciding c.args.at x c.args.candidates.now.steps) c.args.candidates.now.tables in
    add_turn go c.args.most c.readings_at-readings.result.now c.loop-reading.reading-index c.reading-item.result c.args.found.now c.loop-reading.found c.branch-alloc.new.found
    c.loop-reading-test.true c.reading-item.is c.loop-reading.invariant
    (c.in_ok-branch.ensures
    ∙ ap₂ (λ (ss : List Step) (ls : List (List ℕ)). adding c.args.most (agreeing catalog ss ls) c.loop-reading.found) c.in_ok-next.ensures.steps c.in_ok-next.ensures.tables)

pub branch_at-returns : goal.branch_at-returns
branch_at-returns t c =
    let catalog : Tables = c.args.catalog.now in
    let steps : List Step = c.args.candidates.now.steps in
    let tables : List (List ℕ) = c.args.candidates.now.tables in
    let go : Reading → List Choice = λ x. agreeing catalog (deciding c.args.at x steps) tables in
    let all : take c.loop-reading.reading-index c.readings_at-readings.result.now ≡ readings_at steps c.args.at =
    take_all c.loop-reading.reading-index c.readings_at-readings.result.now (omega arith) ∙ c.readings_at-readings.ensures ∙ ap (λ ss. readings_at ss c.args.at) c.as_slice.ensures in
    c.loop-reading.invariant
    ∙ ap (λ cs. adding c.args.most cs c.args.found.now) (ap (flat_map go) all ∙ branch_each catalog tables c.args.at steps c.requires.open.within c.requires.open.decided)

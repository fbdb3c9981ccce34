use Rattle.std.proofs.Common.{◌≡◌, ℕ, ◌-◌, ◌≤◌, nat_lt, ◌∷◌, [], ◌++◌, List, Option, Some, true, OnOk, length, take, drop, map, flat_map, slice_get, sym, ap, ◌∙◌, subst, arith}
use Rattle.std.proofs.lemmas.Bool.{ltb-true}
use Rattle.std.proofs.lemmas.Option.{slice_get_past}
use Rattle.gq_alternatives.specs.Alternatives.{Choice, Reading}
use Rattle.gq_choices.specs.steps.Searching.{Found, Space, adding, filled, following, knowing, reached, searched, may_be}
use Rattle.gq_alternatives.specs.Candidates.{Step}
use Rattle.gq_scopes.specs.Patterns.{RelPattern}
use Rattle.gq_choices.proofs.Limits.{when_full, add_none, add_turn}
use Rattle.gq_choices.proofs.SearchSteps.{known_back, known_taken, search_all, search_some}
use Rattle.gq_choices.proofs.search.+search.Goals as goal

pub search-returns-in-empty : goal.search-returns-in-empty
search-returns-in-empty t c =
    let s : Found = c.args.found.now in
    let space : Space = c.args.space.now in
    subst (λ cs. OnOk c.fill.result (c.fill.new.found ≡ adding space.most cs s))
    (search_all space.catalog space.tables s.known s.readings c.args.steps.now s.tables c.in-empty.len_below c.requires.begun)
    (subst (λ (z : Space). OnOk c.fill.result (c.fill.new.found ≡ adding z.most (map (λ ts. record { readings = s.readings; tables = s.tables ++ ts }) (filled (drop (length s.tables) s.known) z.tables)) s)) c.space.view_is c.fill.ensures)

pub search-returns-in-len1-up : goal.search-returns-in-len1-up
search-returns-in-len1-up t c =
    let s : Found = c.args.found.now in
    let space : Space = c.args.space.now in
    let steps : List Step = c.args.steps.now in
    let each : RelPattern → List Reading → List Choice = λ p rs. flat_map (λ r. following space.catalog space.tables (take (length steps - 1) (drop 1 steps)) p s.known s.readings r) rs in
    subst (λ cs. OnOk c.follow_each.result (c.follow_each.new.found ≡ adding space.most cs s))
    (ap (each c.step.inside.pattern.now) c.as_slice.ensures ∙ ap (λ (z : Step). each z.pattern z.readings) c.step.view_is
    ∙ search_some space.catalog space.tables s.known s.readings steps c.step-item.result c.in-len1-up.len_at_least c.step-item.is) c.follow_each.ensures

pub follow-returns-then-is_full : goal.follow-returns-then-is_full
follow-returns-then-is_full t c =
    let s : Found = c.args.found.now in
    when_full c.args.space.now.most (following c.args.space.now.catalog c.args.space.now.tables c.args.rest.now c.args.pattern.now s.known s.readings c.args.reading) s c.requires.few
    (ltb-true c.args.space.now.most (length s.choices) (sym (ap (λ (z : Space). nat_lt z.most (length s.choices)) c.space.view_is) ∙ sym c.is_full.ensures ∙ c.if-is_full.true))

pub follow-returns-then-reading-rel_tables : goal.follow-returns-then-reading-rel_tables
follow-returns-then-reading-rel_tables t c =
    let s : Found = c.args.found.now in
    let space : Space = c.args.space.now in
    let past : length space.catalog.rels ≤ c.args.reading.table =
    omega (arith, ap (λ (z : Space). length z.catalog.rels) c.space.view_is, ap (λ (z : Reading). z.table) c.reading.view_is, c.rel_tables.ensures, c.if-reading-rel_tables.true) in
    add_none space.most s c.requires.few
    ∙ ap (λ o. adding space.most (reached c.args.pattern.now c.args.reading o s.known (λ ks. searched space.catalog space.tables c.args.rest.now ks (s.readings ++ c.args.reading ∷ []))) s)
    (sym (slice_get_past space.catalog.rels c.args.reading.table past))

pub follow_each-loop-reading-preserved : goal.follow_each-loop-reading-preserved
follow_each-loop-reading-preserved t c =
    let s : Found = c.args.found.now in
    let space : Space = c.args.space.now in
    let go : Found → Reading → List Choice = λ z x. following space.catalog space.tables c.args.rest.now c.args.pattern.now z.known z.readings x in
    let x : Reading = c.reading-item.result in
    add_turn (go s) space.most c.args.readings.now c.loop-reading.reading-index x s c.loop-reading.found c.follow.new.found c.loop-reading-test.true c.reading-item.is c.loop-reading.invariant
    (c.in_ok-follow.ensures ∙ ap (λ z. adding space.most (go z x) c.loop-reading.found) c.loop-reading.invariant)

pub enter_source-returns-in_ok-enter_target-in-Some : goal.enter_source-returns-in_ok-enter_target-in-Some
enter_source-returns-in_ok-enter_target-in-Some t c =
    let s : Found = c.args.found.now in
    let space : Space = c.args.space.now in
    let v : ℕ = c.args.source.variable in
    let table : ℕ = c.args.source.table in
    let next : List Reading → List (Option ℕ) → List Choice = λ rs one. knowing c.args.target.variable c.args.target.table one (λ ks. searched space.catalog space.tables c.args.rest.now ks rs) in
    let was : slice_get s.known v ≡ Some c.in-Some.before = sym c.known_of.ensures ∙ c.in-Some.is in
    let may : may_be c.in-Some.before table ≡ true = sym c.may_be.ensures ∙ c.if-may_be.true in
    known_back space.most (λ f. next f.readings f.known) s c.know.new.self c.enter_target.new.found c.know-in-Some.new.self v (Some table) c.in-Some.before was c.know.ensures c.in_ok-enter_target-in-Some.ensures c.know-in-Some.ensures
    ∙ ap (λ cs. adding space.most cs s) (known_taken v table s.known c.in-Some.before (next s.readings) was may)

pub enter_target-returns-in_ok-search-in-Some : goal.enter_target-returns-in_ok-search-in-Some
enter_target-returns-in_ok-search-in-Some t c =
    let s : Found = c.args.found.now in
    let space : Space = c.args.space.now in
    let v : ℕ = c.args.target.variable in
    let table : ℕ = c.args.target.table in
    let next : List Reading → List (Option ℕ) → List Choice = λ rs ks. searched space.catalog space.tables c.args.rest.now ks rs in
    let was : slice_get s.known v ≡ Some c.in-Some.before = sym c.known_of.ensures ∙ c.in-Some.is in
    let may : may_be c.in-Some.before table ≡ true = sym c.may_be.ensures ∙ c.if-may_be.true in
    known_back space.most (λ f. next f.readings f.known) s c.know.new.self c.search.new.found c.know-in-Some.new.self v (Some table) c.in-Some.before was c.know.ensures c.in_ok-search-in-Some.ensures c.know-in-Some.ensures
    ∙ ap (λ cs. adding space.most cs s) (known_taken v table s.known c.in-Some.before (next s.readings) was may)

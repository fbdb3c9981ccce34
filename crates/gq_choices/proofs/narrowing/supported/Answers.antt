use Rattle.std.proofs.Common.{ℕ, Bool, List, arith, ap, sym, ◌∙◌, take, ◌||◌}
use Rattle.std.specs.List.{list_any}
use Rattle.std.proofs.lemmas.List.{take_all}
use Rattle.std.proofs.lemmas.List.Folds.{list_any_more}
use Rattle.gq_alternatives.specs.Alternatives.{Reading}
use Rattle.gq_alternatives.specs.Candidates.{Step}
use Rattle.gq_choices.specs.steps.Searching.{suits}
use Rattle.gq_choices.proofs.narrowing.supported.Goals as goal
use Rattle.gq_scopes.specs.Patterns.{RelPattern}

pub loop-reading-preserved : goal.loop-reading-preserved
loop-reading-preserved c =
    let p : RelPattern = c.step.inside.pattern.now in
    let rs : List Reading = c.as_slice-reading-items.result.now in
    let fits : ℕ → Reading → Bool = λ t. suits c.args.catalog.now c.args.variable t p in
    let more : (ℕ → Bool) → ℕ → Bool = λ set t. set t || fits t c.reading-item.result in
    c.in_ok-add_table.ensures ∙ ap more c.loop-reading.invariant
    ∙ (λ i t. sym
    (list_any_more (fits t) rs c.loop-reading.reading-index c.reading-item.result c.loop-reading-test.true
    ∙ ap (λ r. list_any (fits t) (take c.loop-reading.reading-index rs) || fits t r) (sym c.reading-item.is)) i)

pub returns : goal.returns
returns c =
    let some : List Reading → ℕ → Bool = λ rs t. list_any (suits c.args.catalog.now c.args.variable t c.step.inside.pattern.now) rs in
    let all : Step → ℕ → Bool = λ s t. list_any (suits c.args.catalog.now c.args.variable t s.pattern) s.readings in
    c.loop-reading.invariant
    ∙ ap some
    (take_all c.loop-reading.reading-index c.as_slice-reading-items.result.now (omega arith) ∙ c.as_slice-reading-items.ensures)
    ∙ ap all c.step.view_is

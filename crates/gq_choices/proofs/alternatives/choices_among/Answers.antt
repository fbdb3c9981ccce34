use Rattle.std.proofs.Common.{◌++◌, suc, List, take, ap, sym, ◌∙◌}
use Rattle.gq_alternatives.specs.Alternatives.{Choice}
use Rattle.gq_choices.specs.steps.Searching.{Found, searched}
use Rattle.gq_choices.proofs.Searches.{none_of_readings, none_of_tables, search_finds}
use Rattle.gq_choices.proofs.alternatives.choices_among.Goals as goal

pub returns-then-some_without_table : goal.returns-then-some_without_table
returns-then-some_without_table c =
    c.new.ensures
    ∙ ap (take (suc c.args.most)) (sym (none_of_tables c.args.catalog.now c.args.steps.now c.args.tables.now (sym c.some_without_table.ensures ∙ c.if-some_without_table.true)))

pub returns-then-some_without_reading : goal.returns-then-some_without_reading
returns-then-some_without_reading c =
    c.new-then-some_without_reading.ensures
    ∙ ap (take (suc c.args.most)) (sym (none_of_readings c.args.catalog.now c.args.steps.now c.args.tables.now (sym c.some_without_reading.ensures ∙ c.if-some_without_reading.true)))

pub returns-in-Ok : goal.returns-in-Ok
returns-in-Ok c =
    let all : Found → List Choice = λ f. searched c.args.catalog.now c.args.tables.now c.args.steps.now f.known f.readings in
    c.into_choices.ensures ∙ ap (λ (f : Found). f.choices) c.in-Ok.ensures
    ∙ ap (λ (f : Found). take (suc c.args.most) (f.choices ++ all f)) c.in_ok-found.ensures
    ∙ ap (take (suc c.args.most)) (sym (search_finds c.args.catalog.now c.args.tables.now c.args.steps.now))

use Rattle.std.proofs.Common.{◌≡◌, ◌||◌, OnOk, ap, sym, subst, ◌∙◌}
use Rattle.std.proofs.Math.Bool.{or-false}
use Rattle.gq_choices.specs.steps.Narrowing.{has}
use Rattle.gq_choices.proofs.narrowing.add_table.Goals as goal

pub returns-in-None : goal.returns-in-None
returns-in-None c = λ i t. sym (ap (λ b. has c.args.tables.now t || b) (c.in-None.ensures t) ∙ or-false (has c.args.tables.now t)) i

pub returns-in-Some : goal.returns-in-Some
returns-in-Some c =
    subst (λ set. OnOk c.insert.result (has c.insert.new.self ≡ set)) (λ i t. has c.args.tables.now t || sym (c.in-Some.ensures t) i) c.insert.ensures

use Rattle.std.proofs.Common.{◌∙◌, ◌∷◌, None, sym}
use Rattle.gq_outer.specs.Rows.{read}
use Rattle.gq_optional.specs.steps.Levels.{agreeing_in, left_of, now_at}
use Rattle.gq_optional.proofs.Asking.{asks_same}
use Rattle.gq_optional.proofs.Made.{made_none, made_some}
use Rattle.gq_optional.proofs.Pending.{begun_left, over_left}
use Rattle.gq_optional.proofs.clause_level.ClauseLevel.make_first.Goals as goal

pub returns-then-not-go_on-clause-begins : goal.returns-then-not-go_on-clause-begins
returns-then-not-go_on-clause-begins c g asks =
    let row = read c.args.before.now in
    let cl = c.args.self.now.clause.now in
    let start = begun_left g row c.look_up.new.self cl (agreeing_in cl row cl.matches.items) c.look_up.ensures.same.clause c.look_up.ensures.pending in
    let none = c.if-not-go_on.ensures.goes_on g (asks_same g cl c.look_up.new.self.clause.now c.look_up.ensures.same.clause asks) in
    made_none g cl row (sym start ∙ none.0)
    ∙ (λ i. record { row = read (sym c.copy_from.ensures i); mark = None } ∷ sym (over_left g row c.go_on.new.self none.1) i)

pub returns-else-not-go_on-clause-begins : goal.returns-else-not-go_on-clause-begins
returns-else-not-go_on-clause-begins c g asks =
    let row = read c.args.before.now in
    let cl = c.args.self.now.clause.now in
    let start = begun_left g row c.look_up.new.self cl (agreeing_in cl row cl.matches.items) c.look_up.ensures.same.clause c.look_up.ensures.pending in
    made_some g cl row (now_at c.go_on.new.self) (left_of g row c.go_on.new.self) (sym start ∙ c.if-not-go_on.ensures.goes_on g (asks_same g cl c.look_up.new.self.clause.now c.look_up.ensures.same.clause asks))

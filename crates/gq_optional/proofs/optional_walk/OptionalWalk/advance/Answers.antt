use Rattle.std.proofs.Common.{◌∙◌, ◌∷◌, ap, sym}
use Rattle.gq_optional.specs.Held.{rows_owed}
use Rattle.gq_optional.specs.steps.Walks.{row_by}
use Rattle.gq_optional.proofs.Walking.{still_owed}
use Rattle.gq_optional.proofs.optional_walk.OptionalWalk.advance.Goals as goal

pub invariant_of-self : goal.invariant_of-self
invariant_of-self c = record {
  walk = c.advance.ensures.walk;
  owed = still_owed c.self.inside.walk c.advance.new.self c.advance.result c.self.invariant.owed c.advance.ensures.held c.advance.ensures.base c.advance.ensures.next c.advance.ensures.over;
}

pub returns-clause-next : goal.returns-clause-next
returns-clause-next c found =
    let new = c.advance.new.self in
    let left = still_owed c.self.inside.walk new c.advance.result c.self.invariant.owed c.advance.ensures.held c.advance.ensures.base c.advance.ensures.next c.advance.ensures.over in
    ap rows_owed (sym c.self.view_is) ∙ c.self.invariant.owed ∙ c.advance.ensures.next found ∙ ap (λ l. row_by new ∷ l) (sym left)

pub returns-clause-none : goal.returns-clause-none
returns-clause-none c over = ap rows_owed (sym c.self.view_is) ∙ c.self.invariant.owed ∙ c.advance.ensures.none over

pub returns-clause-over : goal.returns-clause-over
returns-clause-over c over =
    still_owed c.self.inside.walk c.advance.new.self c.advance.result c.self.invariant.owed c.advance.ensures.held c.advance.ensures.base c.advance.ensures.next c.advance.ensures.over
    ∙ c.advance.ensures.over over

use Rattle.std.proofs.Common.{◌∙◌, ◌++◌, ◌∷◌, [], ap, subst, sym, arith}
use Rattle.std.proofs.lemmas.List.{map-append, take_more}
use Rattle.gq_optional.specs.declared.clause_level.ClauseLevel.{ClauseLevel}
use Rattle.gq_optional.specs.steps.Levels.{AreLevels, clauses_of}
use Rattle.gq_optional.specs.steps.Listed.{IsClause}
use Rattle.gq_optional.proofs.Walking.{levels_pushed}
use Rattle.gq_optional.proofs.walk.stages_of.Goals as goal

pub new-requires : goal.new-requires
new-requires c =
    let s = c.args.shape in
    subst (IsClause s.nodes s.rels) (sym c.clause-item.is) (c.requires c.clauses.clause-index c.clause-item.result (omega (arith, c.clauses-test.true)))

pub clauses-preserved : goal.clauses-preserved
clauses-preserved c =
    let s = c.args.shape in
    let is = c.in_ok-new.ensures in
    let pushed = c.in_ok-push.ensures.items in
    record {
      levels = subst (AreLevels s.nodes s.rels) (sym pushed) (levels_pushed s.nodes s.rels c.clauses.stages.items c.in_ok-new.field-0 c.clauses.invariant.levels is.level is.rows is.nodes is.rels);
      clauses = ap clauses_of pushed ∙ map-append (λ (l : ClauseLevel). l.clause.now) c.clauses.stages.items (c.in_ok-new.field-0 ∷ [])
          ∙ (λ i. c.clauses.invariant.clauses i ++ (is.clause ∙ c.clause-item.is) i ∷ [])
          ∙ sym (take_more c.args.clauses.now c.clauses.clause-index c.clause-item.result (omega (arith, c.clauses-test.true)));
    }

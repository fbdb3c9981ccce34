use Rattle.std.proofs.Common.{◌∙◌, ◌++◌, ap, refl, sym}
use Rattle.std.specs.Prelude.{flat_map}
use Rattle.gq_bound.proofs.PartLemmas.{next_clauses, next_elsewhere, next_names, next_pattern}
use Rattle.gq_bound.specs.Columns.{scoped_in}
use Rattle.gq_bound.specs.Tested.{seen_elsewhere}
use Rattle.gq_bound.specs.steps.Parts.{clause_parts}
use Rattle.gq_scopes.specs.Patterns.{Pattern}
use Rattle.gq_scopes.specs.Scopes.{scope_of}
use Rattle.gq_binder.proofs.optionals.read_optionals.Goals as goal

pub loop-clause-preserved : goal.loop-clause-preserved
loop-clause-preserved c =
    let l = c.loop-clause in
    let own = c.in_ok-push_optional.ensures in
    let k = c.clause-item.result in
    record {
      pattern = next_pattern c.args.clauses.now l.clause-index c.loop-clause-test.true k c.clause-item.is l.number c.in_ok-number.number l.pattern c.push_optional.new.pattern c.in_ok-number.ensures own.pattern _ l.invariant.pattern;
      names = next_names c.args.clauses.now l.clause-index c.loop-clause-test.true k c.clause-item.is l.number c.in_ok-number.number l.pattern c.push_optional.new.pattern c.in_ok-number.ensures own.pattern l.names c.push_optional.new.names _ own.names l.invariant.names;
      exists = next_elsewhere c.args.clauses.now l.clause-index c.loop-clause-test.true k c.clause-item.is l.number c.in_ok-number.number l.pattern c.push_optional.new.pattern c.in_ok-number.ensures own.pattern l.exists c.push_optional.new.exists _
          (own.exists ∙ ap (λ (p : Pattern). c.loop-clause.exists ++ flat_map seen_elsewhere (scoped_in (scope_of p) c.clause-item.result.filter)) (sym own.pattern)) l.invariant.exists;
      parts = next_clauses c.args.clauses.now l.clause-index c.loop-clause-test.true k c.clause-item.is l.number c.in_ok-number.number l.pattern c.push_optional.new.pattern c.in_ok-number.ensures own.pattern c.args.text.now l.all c.push_optional.new.all _ (clause_parts c.args.text.now l.number l.pattern k)
          own.parts refl l.invariant.parts;
    }

use Rattle.std.proofs.Common.{◌∙◌, ap}
use Rattle.gq_bound.proofs.PartLemmas.{next_pattern, next_names, next_conjuncts, next_seen, read_names}
use Rattle.gq_bound.specs.Names.{with_added}
use Rattle.gq_scopes.specs.Patterns.{with_paths}
use Rattle.gq_binder.proofs.parts.read_clauses.Goals as goal

pub loop-clause-preserved : goal.loop-clause-preserved
loop-clause-preserved c =
    let l = c.loop-clause in
    let paths = c.in_ok-push_paths.ensures.pattern ∙ ap (λ ps. with_paths c.loop-clause.number ps c.loop-clause.pattern) c.as_slice.ensures in
    let added = c.in_ok-push_paths.ensures.names ∙ ap (λ ps. with_added c.loop-clause.number ps c.loop-clause.pattern c.loop-clause.names) c.as_slice.ensures in
    record {
      pattern = next_pattern c.args.clauses.now l.clause-index c.loop-clause-test.true c.clause-item.result c.clause-item.is l.number c.in_ok-number.number l.pattern c.push_paths.new.pattern c.in_ok-number.ensures paths _ l.invariant.pattern;
      names = next_names c.args.clauses.now l.clause-index c.loop-clause-test.true c.clause-item.result c.clause-item.is l.number c.in_ok-number.number l.pattern c.push_paths.new.pattern c.in_ok-number.ensures paths l.names c.read_condition.new.names _
          (read_names c.args.clauses.now l.clause-index c.loop-clause-test.true c.clause-item.result c.clause-item.is l.number c.in_ok-number.number l.pattern c.push_paths.new.pattern c.in_ok-number.ensures paths l.names c.push_paths.new.self c.read_condition.new.names added c.in_ok-read_condition.ensures.names)
          l.invariant.names;
      exists = next_seen c.args.clauses.now l.clause-index c.loop-clause-test.true c.clause-item.result c.clause-item.is l.number c.in_ok-number.number l.pattern c.push_paths.new.pattern c.in_ok-number.ensures paths c.args.text.now l.exists c.read_condition.new.exists _ c.in_ok-read_condition.ensures.exists l.invariant.exists;
      conjuncts = next_conjuncts c.args.clauses.now l.clause-index c.loop-clause-test.true c.clause-item.result c.clause-item.is l.number c.in_ok-number.number l.pattern c.push_paths.new.pattern c.in_ok-number.ensures paths c.args.text.now l.conjuncts c.read_condition.new.conjuncts _ c.in_ok-read_condition.ensures.conjuncts l.invariant.conjuncts;
    }

use Rattle.std.proofs.Common.{◌≡◌, subst, arith}
use Rattle.gq_ends.specs.steps.Adding.{HasRows}
use Rattle.gq_ends.proofs.Adding.{both_added, none_added}
use Rattle.gq_ends.proofs.rows.add_rows.Goals as goal

pub spans-init : goal.spans-init
spans-init c = record {
  low = omega arith;
  added = none_added c.args.tests.now c.args.table 0 c.args.ends.now.items;
}

pub spans-preserved : goal.spans-preserved
spans-preserved c = record {
  low = c.end_of-high.ensures.within;
  added = both_added c.args.tests.now c.args.table 0 c.spans.low c.end_of-high.result c.args.ends.now.items c.spans.ends.items c.add_span.new.ends.items
      (let more = c.end_of-high.ensures.some in omega (arith, more)) c.spans.invariant.added (c.in_ok-add_span.ensures c.if-not-branch.false);
}

pub add_span-requires-clause-inside : goal.add_span-requires-clause-inside
add_span-requires-clause-inside c = λ k d less. (let all = c.requires k d less in let within = c.end_of-high.ensures.within in omega (arith, all, within))

pub returns : goal.returns
returns c told =
    let all : c.spans.low ≡ c.args.count = omega (arith, c.spans.invariant.low, c.spans-test.false) in
    subst (λ at. HasRows c.args.tests.now c.args.table 0 at c.args.ends.now.items c.spans.ends.items) all c.spans.invariant.added

use Rattle.std.proofs.Common.{arith, subst, sym}
use Rattle.std.proofs.lemmas.List.{take_all}
use Rattle.std.proofs.lemmas.Slice.Zip.{AllZip-long}
use Rattle.gq_listed.specs.Finding.{IsFinder}
use Rattle.gq_listed.specs.Leads.{AreLed}
use Rattle.gq_listed.specs.Listed.{AreFinders}
use Rattle.gq_listed.proofs.FlatGroups.{finder_and, leading, led_and}
use Rattle.gq_listed.proofs.holding.hold_columns.Goals as goal

pub finders-preserved : goal.finders-preserved
finders-preserved c =
    let i = c.finders.invariant in
    let fs = c.args.finders.now in
    let n = c.lead_of-lead.result in
    record {
      finders = λ ss asks all.
          subst (AreFinders ss _) (sym c.in_ok-push.ensures.items)
          (finder_and ss asks fs c.finders.held.items n c.finders.finder-index c.finders-test.true all (i.finders ss asks all));
      led = subst (AreLed c.args.graph.now c.args.typed.now c.args.chunk.now) (sym c.in_ok-push.ensures.items)
          (led_and c.args.graph.now c.args.typed.now c.args.chunk.now c.finders.held.items (leading fs c.finders.finder-index n) i.led c.lead_of-lead.ensures);
    }

pub returns-clause-finders : goal.returns-clause-finders
returns-clause-finders c = λ ss asks h.
    let long = AllZip-long (IsFinder ss) asks c.args.finders.now h in
    subst (λ l. AreFinders ss l c.finders.held.items) (take_all c.finders.finder-index asks (omega (arith, c.finders-test.false, long))) (c.finders.invariant.finders ss asks h)

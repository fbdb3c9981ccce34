use Rattle.gq_filter.proofs.Recalled.{tells_none}
use Rattle.gq_filter.proofs.row_test.RowTest.remember.Goals as goal

pub invariant_of-self : goal.invariant_of-self
invariant_of-self c =
    let i = c.self.inside in
    (c.self.invariant.0, c.self.invariant.1, c.self.invariant.2, c.self.invariant.3, tells_none i.feeds.items i.test c.in-Ok.recall.passed.told c.in-Ok.ensures, c.self.invariant.5, c.self.invariant.6)

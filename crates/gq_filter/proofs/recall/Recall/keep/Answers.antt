use Rattle.std.proofs.Common.{◌<◌, subst}
use Rattle.std.specs.Prelude.{All}
use Rattle.gq_filter.proofs.Recalled.{recalled}
use Rattle.gq_filter.proofs.recall.Recall.keep.Goals as goal

pub keep-requires-clause-told : goal.keep-requires-clause-told
keep-requires-clause-told c = subst (λ n. All (λ row. row < n) c.args.list.now) c.told.ensures (c.are_below.ensures c.if-are_below.true)

pub returns-then-are_below-clause-kept : goal.returns-then-are_below-clause-kept
returns-then-are_below-clause-kept c =
    recalled c.args.feeds.now c.args.test.now c.ask.new.self.passed.told c.ask.ensures c.args.list.now
    (subst (λ n. All (λ row. row < n) c.args.list.now) c.told.ensures (c.are_below.ensures c.if-are_below.true)) c.args.marks.now c.keep.new.marks c.requires.within c.keep.ensures

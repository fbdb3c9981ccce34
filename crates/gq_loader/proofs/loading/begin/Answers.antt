use Rattle.std.proofs.Common.{length}
use Rattle.gq_loader.proofs.Keeping.{empty_valid, none_read}
use Rattle.gq_loader.proofs.loading.begin.Goals as goal

pub returns-clause-valid : goal.returns-clause-valid
returns-clause-valid g c =
    let named = c.in_ok-catalog.field-0 in
    let new = c.in_ok-new.ensures in
    empty_valid c.in_ok-new.field-0 named.catalog c.in_ok-catalog.ensures.whole.tables
    new.catalog new.nodes new.rels

pub returns-clause-unread : goal.returns-clause-unread
returns-clause-unread g c =
    let named = c.in_ok-catalog.field-0 in
    none_read c.in_ok-new.field-0 (length named.catalog.nodes) named.order c.in_ok-new.ensures.nodes

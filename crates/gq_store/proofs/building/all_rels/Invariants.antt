use Rattle.std.proofs.Common.{◌≡◌}
use Rattle.gq_store.proofs.Keeping.{AreRelsBelow, AreRest}
use Rattle.gq_store.proofs.Linking.{AreLinkedBelow}
use Rattle.gq_store.proofs.building.all_rels.Given as goal

abbrev pub invariant-loop-rel : goal.invariant-loop-rel
invariant-loop-rel l =
    AreRelsBelow l.rel l.of.value l.all.items × AreLinkedBelow l.rel l.of.value l.links.items
    × (l.plain.catalog ≡ l.initial.plain.catalog) × AreRest l.rel l.initial.plain.rels l.plain.rels

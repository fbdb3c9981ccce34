use Rattle.std.proofs.Common.{◌≡◌, ◌<◌, ◌+◌, ◌∙◌, nat_lt, false, length, sym, ap, subst, arith}
use Rattle.std.proofs.lemmas.List.{get_or_default}
use Rattle.gq_base.specs.declared.NodeId.{NodeId}
use Rattle.gq_marks.specs.Marking.{bound_of}
use Rattle.gq_hops.specs.declared.follow.Frame.{Frame}
use Rattle.gq_hops.specs.declared.search.Search.{Search}
use Rattle.gq_hops.specs.steps.Hops.{IsHere}
use Rattle.gq_hops.specs.steps.Searches.{IsPassedTo, level_at, no_level}
use Rattle.gq_hops.proofs.Searching.{none_over, one_over}
use Rattle.gq_hops.proofs.search.Search.passed.Goals as goal

pub hops-init : goal.hops-init
hops-init c =
    let r = c.args.run.now in
    let s : Search = c.args.self.now in
    let inside : s.depth < length s.levels.items = omega (arith, c.requires.low, c.requires.open.high, c.requires.open.room.levels) in
    let is : c.index.result.now ≡ level_at s.levels.items s.depth = c.index.ensures ∙ get_or_default s.levels.items s.depth c.index.result.now no_level inside in
    subst (IsPassedTo r s) (sym is) (none_over r s c.requires.open c.requires.low (c.requires.open.levels s.depth (omega arith) c.requires.low))

pub hops-preserved : goal.hops-preserved
hops-preserved c =
    let r = c.args.run.now in
    let s : Search = c.args.self.now in
    let level : Frame = c.hops.level in
    let here : IsHere r.follow level c.in-Some.met = c.in-Some.ensures in
    let next = here.next in
    let short : nat_lt (bound_of r.bounds next.hop.node + s.depth) r.high ≡ false =
    ap (λ (n : NodeId). nat_lt (bound_of r.bounds n + s.depth) r.high) next.is.node ∙ sym c.leads_on.ensures ∙ c.if-leads_on.false in
    one_over r s c.requires.open c.requires.low level (record level { place = level.place + 1 }) next.hop next.first c.requires.bounds short c.hops.invariant

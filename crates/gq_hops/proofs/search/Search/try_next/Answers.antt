use Rattle.std.proofs.Common.{◌≡◌, ◌+◌, ◌<◌, ◌∙◌, length, refl, sym, subst, arith}
use Rattle.std.proofs.lemmas.List.{get_or_default}
use Rattle.gq_hops.specs.declared.follow.Frame.{Frame}
use Rattle.gq_hops.specs.declared.search.Search.{Search}
use Rattle.gq_hops.specs.steps.Hops.{IsFirst, IsHere}
use Rattle.gq_hops.specs.steps.Searches.{level_at, no_level}
use Rattle.gq_hops.proofs.search.Search.try_next.Goals as goal

pub returns-in-Some : goal.returns-in-Some
returns-in-Some c =
    let f = c.args.run.now.follow in
    let s : Search = c.args.self.now in
    let low : s.depth < c.args.run.now.high = omega (arith, c.if-run-self.false) in
    let inside : s.depth < length s.levels.items = omega (arith, low, c.requires.open.high, c.requires.open.room.levels) in
    let l : Frame = c.index.result.now in
    let here : IsHere f l c.in-Some.met = c.in-Some.ensures in
    let next = here.next in
    let is : l ≡ level_at s.levels.items s.depth = c.index.ensures ∙ get_or_default s.levels.items s.depth l no_level inside in
    let m : Frame = c.index_mut.result.now in
    let same : m ≡ level_at s.levels.items s.depth = c.index_mut.ensures.value ∙ get_or_default s.levels.items s.depth m no_level inside in
    record {
      hop = next.hop;
      is = next.is;
      site = next.site;
      taken = record {
        low = low;
        level = record m { place = m.place + 1 };
        is = refl;
        first = subst (λ (n : Frame). IsFirst f (level_at s.levels.items s.depth) (record n { place = n.place + 1 }) next.hop) (is ∙ sym same)
            (subst (λ (n : Frame). IsFirst f n (record l { place = l.place + 1 }) next.hop) is next.first);
      };
    }

use Rattle.std.proofs.Common.{◌∙◌, ap, arith, sym, Ok}
use Rattle.gq_listed.proofs.Finding.{extends, finds}
use Rattle.gq_listed.proofs.finder.Finder.new.Goals as goal

pub returns-in_ok-source-in-Node-clause-finds : goal.returns-in_ok-source-in-Node-clause-finds
returns-in_ok-source-in-Node-clause-finds c =
    let p = c.in-Node.ensures in
    let of = c.node_property.ensures in
    record {
      finds = finds c.args.graph.now _ _ _ c.in_ok-source-in-Node.ensures.sources _ _ _ c.in_ok-source-in-Node.ensures.place
          (λ here n h. of.number n (omega (arith, h.below, c.node_count.ensures)))
          (λ here n h. p.cells here n h.is ∙ ap Ok (sym (of.means n (omega (arith, h.below, c.node_count.ensures)))));
      none = extends _ _ _ c.in_ok-source-in-Node.ensures.sources _ _ c.requires;
      nothing = p.nothing;
    }

pub returns-in_ok-source-in-Node-clause-more : goal.returns-in_ok-source-in-Node-clause-more
returns-in_ok-source-in-Node-clause-more c = extends _ _ _ c.in_ok-source-in-Node.ensures.sources

pub returns-in_ok-source-in-Rel-clause-finds : goal.returns-in_ok-source-in-Rel-clause-finds
returns-in_ok-source-in-Rel-clause-finds c =
    let p = c.in-Rel.ensures in
    let of = c.rel_property.ensures in
    record {
      finds = finds c.args.graph.now _ _ _ c.in_ok-source-in-Rel.ensures.sources _ _ _ c.in_ok-source-in-Rel.ensures.place
          (λ here n h. of.number n (omega (arith, h.below, c.rel_places.ensures)))
          (λ here n h. p.cells here h.placed.number h.placed.is ∙ ap Ok (sym (of.means n h.placed.number (omega (arith, h.below, c.rel_places.ensures)) h.placed.at)));
      none = extends _ _ _ c.in_ok-source-in-Rel.ensures.sources _ _ c.requires;
      nothing = p.nothing;
    }

pub returns-in_ok-source-in-Rel-clause-more : goal.returns-in_ok-source-in-Rel-clause-more
returns-in_ok-source-in-Rel-clause-more c = extends _ _ _ c.in_ok-source-in-Rel.ensures.sources

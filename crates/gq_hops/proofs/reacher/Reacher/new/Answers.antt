use Rattle.std.proofs.Common.{◌≡◌, ◌∙◌, true, sym, ap, subst}
use Rattle.gq_base.specs.Valid.{is_valid}
use Rattle.gq_hops.specs.steps.Sizes.{AreSizesIn, sizes_in}
use Rattle.gq_hops.proofs.Sizing.{sizes_hold}
use Rattle.gq_hops.proofs.reacher.Reacher.new.Goals as goal

pub invariant_of-result : goal.invariant_of-result
invariant_of-result c =
    let f = c.in_ok-follow.follow in
    let graph = c.in_ok-follow.ensures.graph in
    let valid : is_valid f.graph.now ≡ true = ap is_valid graph ∙ c.stands_valid.ensures in
    let sizes : c.in_ok-new-2.field-0.sizes ≡ sizes_in f.graph.now f.tables.items =
    c.in_ok-new-2.ensures.sizes ∙ c.in_ok-sizes.ensures ∙ ap (sizes_in c.args.graph.now) c.deref.ensures.value ∙ ap (λ k. sizes_in k f.tables.items) (sym graph) in
    record {
      tables = c.in_ok-follow.ensures.tables;
      sizes = subst (AreSizesIn f.graph.now f.tables.items) (sym sizes) (sizes_hold f.graph.now f.tables.items valid);
      some = c.requires;
    }

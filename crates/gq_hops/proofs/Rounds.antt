-- Breadth-first search: what holds from node to node of a level, and from level to level.
use Rattle.std.proofs.Common.{◌≡◌, ℕ, ◌+◌, ◌-◌, ◌<◌, ◌∷◌, List, Some, drop, get_or, length, slice_get, ap, sym, subst, ◌∙◌}
use Rattle.std.proofs.lemmas.List.{get_or_append_left}
use Rattle.std.proofs.lemmas.Option.{get_or_from_slice_get}
use Rattle.gq_base.specs.declared.NodeId.{NodeId}
use Rattle.gq_base.specs.declared.RelId.{RelId}
use Rattle.gq_hops.specs.Levels.{met_all, spread_each, spread_levels, spread_over}
use Rattle.gq_hops.specs.declared.follow.Follow.{Follow}
use Rattle.gq_hops.specs.steps.Sizes.{AreNodes}
use Rattle.gq_marks.specs.Visiting.{Visiting}
use Rattle.gq_hops.proofs.Reaching.{Longer, drop_at, longer_both, longer_over}

module _ (f : Follow) (used : List RelId) (first : Visiting) where
  -- what is met, and what spreads from the nodes from a place on, is what spreads from all
  pub record IsRound (from : ℕ) (v : Visiting) (place : ℕ) : Type 0 where
    pub sizes : v.sizes ≡ first.sizes
    pub there : AreNodes f.graph.now v.nodes
    pub longer : Longer first.nodes v.nodes
    pub rest : spread_each f.graph.now f.kind.now f.way used v.nodes (drop place first.nodes)
        ≡ spread_each f.graph.now f.kind.now f.way used first.nodes (drop from first.nodes)

  -- what is met, and what spreads on the levels that are left, is what spreads on all
  pub record AreRounds (high level next : ℕ) (v : Visiting) : Type 0 where
    pub sizes : v.sizes ≡ first.sizes
    pub there : AreNodes f.graph.now v.nodes
    pub rest : spread_levels f.graph.now f.kind.now f.way used (high - level) next v.nodes
        ≡ spread_levels f.graph.now f.kind.now f.way used (high - 1) 0 first.nodes

  -- after one more node
  pub round_next : (from place : ℕ) (v new : Visiting) (at : NodeId) → IsRound from v place → place < length first.nodes → slice_get v.nodes place ≡ Some at
      → new.sizes ≡ v.sizes → AreNodes f.graph.now new.nodes → new.nodes ≡ spread_over f.graph.now f.way used v.nodes (met_all f.graph.now f.kind.now f.way (Some at))
      → IsRound from new (place + 1)
  round_next from place v new at inv low is sizes there spread =
      let g = f.graph.now in
      let kind = f.kind.now in
      let way = f.way in
      let old = first.nodes in
      let same : at ≡ get_or old place at =
      sym (get_or_from_slice_get v.nodes place at at is) ∙ ap (λ l. get_or l place at) inv.longer.is ∙ get_or_append_left old inv.longer.more at place low in
      record {
        sizes = sizes ∙ inv.sizes;
        there = there;
        longer = longer_both old v.nodes new.nodes inv.longer (subst (Longer v.nodes) (sym spread) (longer_over g kind way used v.nodes (met_all g kind way (Some at))));
        rest = ap (λ ns. spread_each g kind way used ns (drop (place + 1) old)) spread
            ∙ ap (λ n. spread_each g kind way used v.nodes (n ∷ drop (place + 1) old)) same
            ∙ ap (spread_each g kind way used v.nodes) (sym (drop_at old place at low)) ∙ inv.rest;
      }

use Rattle.std.proofs.Common.{◌≡◌, ◌<◌, ◌+◌, ◌-◌, ◌++◌, ◌∷◌, [], ℕ, List, length, true, false, Bool, not, sym, ◌∙◌, subst, arith}
use Rattle.gq_search.specs.Layouts.{IsPlace, below, count, live, walks}
use Rattle.gq_search.specs.Running.{prefix}
use Rattle.gq_search.proofs.Ended.{below-none}
use Rattle.gq_search.proofs.Runs.{flat-place, length-keys}
use Rattle.gq_search.proofs.walker.Walker.look.Goals as goal

ends : (b : Bool) → not b ≡ false → b ≡ true
ends true h = cc
ends false h = cc

pub returns-clause-none : goal.returns-clause-none
returns-clause-none g c told =
    let o = c.requires.ready.search in
    let long : length (prefix c.args.self.now.cursors.items c.args.depth) ≡ c.args.depth = length-keys c.args.self.now.cursors.items c.args.depth (omega (arith, o.inside, o.groups)) in
    let flat : (g.L.Levels.layout c.keeps.new.levels).flat (prefix c.args.self.now.cursors.items c.args.depth) ≡ true = sym (c.is_flat.ensures (prefix c.args.self.now.cursors.items c.args.depth) long) ∙ c.if-not-is_flat.false in
    let alive : live (g.L.Levels.layout c.args.levels.now) (prefix c.args.self.now.cursors.items c.args.depth) c.args.next ≡ true = sym c.keeps.ensures.live ∙ c.if-not-keeps.false in
    let place : IsPlace (g.L.Levels.layout c.keeps.new.levels) (prefix c.args.self.now.cursors.items c.args.depth) c.args.next c.args.next =
    flat-place (g.L.Levels.layout c.keeps.new.levels) (prefix c.args.self.now.cursors.items c.args.depth) c.args.next flat
    (subst (λ l. c.args.next < count l (prefix c.args.self.now.cursors.items c.args.depth)) (sym c.keeps.ensures.layout) c.requires.inside)
    (subst (λ l. live l (prefix c.args.self.now.cursors.items c.args.depth) c.args.next ≡ true) (sym c.keeps.ensures.layout) alive) in
    let none = c.ends_at.ensures.ends (ends c.ends_at.result told) (prefix c.args.self.now.cursors.items c.args.depth) long c.keeps.ensures.at.opens flat place in
    below-none (g.L.Levels.layout c.args.levels.now) (g.L.Levels.groups c.args.levels.now - (c.args.depth + 1)) (prefix c.args.self.now.cursors.items c.args.depth) c.args.next
    (subst (λ n. walks (g.L.Levels.layout c.args.levels.now) (n - (c.args.depth + 1)) (prefix c.args.self.now.cursors.items c.args.depth ++ c.args.next ∷ []) ≡ []) c.keeps.ensures.groups
    (subst (λ l. walks l (g.L.Levels.groups c.keeps.new.levels - (c.args.depth + 1)) (prefix c.args.self.now.cursors.items c.args.depth ++ c.args.next ∷ []) ≡ []) c.keeps.ensures.layout none))

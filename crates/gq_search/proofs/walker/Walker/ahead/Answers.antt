use Rattle.std.proofs.Common.{◌≡◌, ◌<◌, ℕ, List, true, false, length, refl, sym, ap, ◌∙◌, subst, arith}
use Rattle.std.proofs.lemmas.List.{get_or_read_under}
use Rattle.gq_search.specs.declared.walker.Cursor.{Cursor}
use Rattle.gq_search.specs.Layouts.{Layout, count, numbers_in}
use Rattle.gq_search.specs.Running.{prefix, no_cursor}
use Rattle.gq_search.proofs.Jumping.{jumps_piece}
use Rattle.gq_search.proofs.Runs.{length-keys}
use Rattle.gq_search.proofs.walker.Walker.ahead.Goals as goal

pub returns : goal.returns
returns g c =
    let pre : List ℕ = prefix c.args.self.now.cursors.items c.args.depth in
    let len = length-keys c.args.self.now.cursors.items c.args.depth (omega (arith, c.requires.inside)) in
    let flat : (g.L.Levels.layout c.args.levels.now).flat (prefix c.args.self.now.cursors.items c.args.depth) ≡ false = sym (c.is_flat.ensures (prefix c.args.self.now.cursors.items c.args.depth) len) ∙ c.if-is_flat.false in
    let is = get_or_read_under c.args.self.now.cursors.items c.args.depth _ c.index.result.now no_cursor c.index.ensures (omega (arith, c.requires.inside, c.args.self.now.cursors.ok.0)) c.args.self.now.cursors.ok.0 in
    let size : c.index.result.now.size ≡ (g.L.Levels.layout c.args.levels.now).size (prefix c.args.self.now.cursors.items c.args.depth) = ap (λ (x : Cursor). x.size) is ∙ c.requires.size in
    let inside : c.args.next < numbers_in false ((g.L.Levels.layout c.args.levels.now).size (prefix c.args.self.now.cursors.items c.args.depth)) =
    subst (λ n. c.args.next < numbers_in false n) size (omega (arith, c.if-next-div_ceil.false, c.div_ceil.ensures)) in
    jumps_piece (g.L.Levels.layout c.args.levels.now) (prefix c.args.self.now.cursors.items c.args.depth) c.args.next c.next_piece.result flat
    (subst (λ b. c.args.next < numbers_in b ((g.L.Levels.layout c.args.levels.now).size (prefix c.args.self.now.cursors.items c.args.depth))) (sym flat) inside)
    c.next_piece.ensures.later (c.next_piece.ensures.blank (prefix c.args.self.now.cursors.items c.args.depth) len c.requires.opened)

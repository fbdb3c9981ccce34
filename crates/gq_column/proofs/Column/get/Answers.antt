use Rattle.std.proofs.Common.{◌≡◌, ◌+◌, ◌<◌, ap, length, sym, ◌∙◌, arith, cond, get_or, pos, ℤ, Some, None, SFits, w64, rules, false, true}
use Rattle.std.proofs.Math.Facts.{to_z-of_z}
use Rattle.std.proofs.lemmas.List.{get_or_read_under}
use Rattle.std.proofs.lemmas.List.Sums.{count_by-le-length}
use Rattle.gq_column.proofs.Ranked.{length-cells_of, cell-cells_of, full_cell, rank, rank_below}
use Rattle.gq_column.proofs.Column.get.Goals as goal

pub index-requires : goal.index-requires
index-requires c =
    omega (arith, c.requires, ap length c.self.view_is, length-cells_of c.self.inside.present c.self.inside.kept.items, c.if-len.true, c.len.ensures, c.len-2.ensures)

pub returns-then-len : goal.returns-then-len
returns-then-len c =
    let present = c.self.inside.present in
    let kept = c.self.inside.kept in
    let row = c.args.row in
    let inside : row < length present = omega (arith, c.requires, ap length c.self.view_is, length-cells_of present kept.items) in
    let full : length kept.items ≡ length present + 1 =
    omega (arith, c.if-len.true, c.len.ensures, c.len-2.ensures, kept.ok.0, c.self.invariant.count, count_by-le-length (λ on. on) present) in
    let fits : SFits w64 c.index.result.now = search rules in
    let read = get_or_read_under kept.items row kept.len c.index.result.now (pos 0) c.index.ensures (omega (arith, full, inside, kept.ok.0)) kept.ok.0 in
    rw (← c.self.view_is) (ap (λ (z : ℤ). Some z) (to_z-of_z {w = w64} fits ∙ read) ∙ sym (full_cell present kept.items row c.self.invariant full inside))

pub get-requires : goal.get-requires
get-requires c = omega (arith, c.requires, ap length c.self.view_is, length-cells_of c.self.inside.present c.self.inside.kept.items)

pub returns-then-get : goal.returns-then-get
returns-then-get c =
    let present = c.self.inside.present in
    let kept = c.self.inside.kept in
    let row = c.args.row in
    let inside : row < length present = omega (arith, ap length c.self.view_is, length-cells_of present kept.items) in
    let on : get_or present row false ≡ true = sym c.if-get.ensures in
    let fits : SFits w64 c.index-then-get.result.now = search rules in
    let read = get_or_read_under kept.items c.rank.result kept.len c.index-then-get.result.now (pos 0) c.index-then-get.ensures
    (omega (arith, c.rank.ensures, rank_below present row inside on, c.self.invariant.count, kept.ok.0)) kept.ok.0 in
    rw (← c.self.view_is) (ap (λ (z : ℤ). Some z) (to_z-of_z {w = w64} fits ∙ read ∙ ap (λ n. get_or kept.items n (pos 0)) c.rank.ensures)
    ∙ ap (λ b. cond b (Some (get_or kept.items (rank present row) (pos 0))) None) (sym on) ∙ sym (cell-cells_of present kept.items row inside))

pub returns-else-get : goal.returns-else-get
returns-else-get c =
    let present = c.self.inside.present in
    let items = c.self.inside.kept.items in
    let inside : c.args.row < length present = omega (arith, ap length c.self.view_is, length-cells_of present items) in
    rw (← c.self.view_is) (ap (λ b. cond b (Some (get_or items (rank present c.args.row) (pos 0))) None) c.if-get.ensures ∙ sym (cell-cells_of present items c.args.row inside))

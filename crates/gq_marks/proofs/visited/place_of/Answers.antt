use Rattle.std.proofs.Common.{◌≡◌, ◌+◌, ◌<◌, ◌^◌, length, get_or, sym, ap, ◌∙◌, subst, arith}
use Rattle.gq_marks.specs.Places.{place_in, total_of}
use Rattle.gq_marks.proofs.Places.{length_starts, place_found, place_low, table_low}
use Rattle.gq_marks.proofs.visited.place_of.Goals as goal

pub bounds-starts-node : goal.bounds-starts-node
bounds-starts-node c =
    let t = c.args.node.table in
    let sizes = c.args.sizes.now in
    subst (λ l. t < length l) (sym c.requires.starts) (subst (λ k. t < k) (sym (length_starts 0 sizes)) (table_low sizes t c.args.node.row c.requires.within))

pub overflow_add-result : goal.overflow_add-result
overflow_add-result c =
    let t = c.args.node.table in
    let r = c.args.node.row in
    let sizes = c.args.sizes.now in
    let e : get_or c.args.starts.now t 0 + r ≡ place_in sizes t r = ap (λ l. get_or l t 0 + r) c.requires.starts ∙ place_found sizes t r 0 c.requires.within in
    let low = place_low sizes t r c.requires.within in
    let few = c.requires.few in
    let fits : get_or c.args.starts.now t 0 + r < 2 ^ 64 = omega (arith, e, low, few) in
    omega (arith, fits)

pub returns-clause-low : goal.returns-clause-low
returns-clause-low c =
    let t = c.args.node.table in
    let r = c.args.node.row in
    let sizes = c.args.sizes.now in
    let e : get_or c.args.starts.now t 0 + r ≡ place_in sizes t r = ap (λ l. get_or l t 0 + r) c.requires.starts ∙ place_found sizes t r 0 c.requires.within in
    subst (λ k. k < total_of sizes) (sym e) (place_low sizes t r c.requires.within)

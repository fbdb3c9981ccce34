use Rattle.std.proofs.Common.{◌∙◌, ◌<◌, List, ℕ, [], length, sym, arith}
use Rattle.std.proofs.lemmas.List.{get_or_default}
use Rattle.gq_marks.proofs.Placing.{mark_found, mark_lost}
use Rattle.gq_marks.proofs.marks.mark_in.Goals as goal

pub returns-in-None : goal.returns-in-None
returns-in-None c =
    let sheets : List (List ℕ) = c.args.sheets.now in
    let sheet : List ℕ = c.index-sheets-node.result in
    let low : c.args.node.table < length sheets = omega (arith, c.if-sheets-node.false) in
    mark_lost sheets c.args.node sheet (c.index-sheets-node.is ∙ get_or_default sheets c.args.node.table sheet [] low) (sym c.get.ensures ∙ c.in-None.is)

pub returns-in-Some : goal.returns-in-Some
returns-in-Some c =
    let sheets : List (List ℕ) = c.args.sheets.now in
    let sheet : List ℕ = c.index-sheets-node.result in
    let low : c.args.node.table < length sheets = omega (arith, c.if-sheets-node.false) in
    mark_found sheets c.args.node sheet c.in-Some.mark (c.index-sheets-node.is ∙ get_or_default sheets c.args.node.table sheet [] low) (sym c.get.ensures ∙ c.in-Some.is)

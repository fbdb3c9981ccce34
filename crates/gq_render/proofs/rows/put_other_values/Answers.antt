use Rattle.std.proofs.Common.{◌≡◌, ◌<◌, ◌≤◌, ◌+◌, ◌-◌, ◌++◌, ℕ, length, get_or, take, drop, flat_map, ap, sym, ◌∙◌, arith, List}
use Rattle.std.proofs.lemmas.List.{get_or-drop, length-drop}
use Rattle.gq_base.proofs.ListFacts.{flat_map_next, flat_map_split}
use Rattle.gq_base.specs.Plain.{Graph}
use Rattle.gq_base.specs.Values.{Val, null}
use Rattle.gq_render.specs.Listings.{value_text}
use Rattle.gq_render.specs.Texts.{after_tab}
use Rattle.gq_render.specs.steps.Blocks.{line_of}
use Rattle.gq_render.proofs.Sequence.{next_broke, put_then}
use Rattle.gq_render.proofs.rows.put_other_values.Goals as goal

abbrev piece : Graph → Val → List ℕ
piece g value = after_tab (value_text g value)

-- the values from one on, and one more of them
next : (g : Graph) (line : List Val) (first column : ℕ) → first ≤ column → column < length line
    → flat_map (piece g) (take (column - first) (drop first line)) ++ piece g (get_or line column null) ≡ flat_map (piece g) (take (column + 1 - first) (drop first line))
next g line first column some lt =
    flat_map_next (piece g) (drop first line) (column - first) null (get_or line column null) (omega (arith, lt, some, length-drop first line))
    (ap (λ i. get_or line i null) (let e : column ≡ first + (column - first) = omega (arith, some) in e) ∙ sym (get_or-drop first line (column - first) null))
    ∙ ap (λ n. flat_map (piece g) (take n (drop first line))) (let e : column - first + 1 ≡ column + 1 - first = omega (arith, some) in e)

pub returns-in_err-put_next_value-clause-bytes : goal.returns-in_err-put_next_value-clause-bytes
returns-in_err-put_next_value-clause-bytes g c =
    let line = line_of c.args.block.now c.args.row in
    let first = c.args.first in
    let n = c.loop-column.column + 1 - first in
    let rest = flat_map (piece c.args.block.now.graph) (drop n (drop first line)) in
    next_broke _ _ _ _ _ _ _ _ _ _ rest _ _ _ _ c.loop-column.invariant.0 c.put_next_value.ensures.bytes c.in_err-put_next_value.was c.from_residual.ensures.1
    (ap (λ l. l ++ rest) (next c.args.block.now.graph line first c.loop-column.column (omega arith) (omega (arith, c.width-column-end.ensures))) ∙ flat_map_split (piece c.args.block.now.graph) (drop first line) n)

pub loop-column-preserved : goal.loop-column-preserved
loop-column-preserved g c =
    let line = line_of c.args.block.now c.args.row in (
      put_then _ _ _ _ _ _ _ _ _ c.loop-column.invariant.0 c.in_ok-put_next_value.ensures.bytes (next c.args.block.now.graph line c.args.first c.loop-column.column (omega arith) (omega (arith, c.width-column-end.ensures))),
      c.in_ok-put_next_value.ensures.cause.kept ∙ c.loop-column.invariant.1,
    )

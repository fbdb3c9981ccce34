use Rattle.std.proofs.Common.{◌≡◌, ◌<◌, ◌-◌, ◌++◌, ℕ, List, [], ◌∷◌, length, ap, ap₂, refl, ◌∙◌, arith}
use Rattle.std.specs.Prelude.{slice_index_or}
use Rattle.gq_base.specs.Plain.{Graph}
use Rattle.gq_base.specs.Values.{Val}
use Rattle.gq_render.specs.Listings.{end_rows_text, row_text}
use Rattle.gq_render.specs.steps.Blocks.{Shown, line_of}
use Rattle.gq_render.proofs.Sequence.{first_broke, puts_then}
use Rattle.gq_render.proofs.listing.put_end_rows.Goals as goal

-- the text of the first row and of the last
two : (g : Graph) (rows : List (List Val)) (n : ℕ) → 0 < length rows → n ≡ length rows → row_text g (slice_index_or rows 0 []) ++ row_text g (slice_index_or rows (n - 1) []) ≡ end_rows_text g rows
two g [] n some is = absurd (omega (arith, some))
two g (r ∷ rows) n some is = ap (λ i. row_text g r ++ row_text g (slice_index_or (r ∷ rows) i [])) (let e : n - 1 ≡ length rows = omega (arith, is) in e)

-- the text of a row of a block of all rows
same : (g : Graph) (rows : List (List Val)) (b : Shown) (row : ℕ) → b.graph ≡ g → b.lines ≡ rows → row_text b.graph (line_of b row) ≡ row_text g (slice_index_or rows row [])
same g rows b row graph lines = ap (λ x. row_text x (line_of b row)) graph ∙ ap (λ (ls : List (List Val)). row_text g (slice_index_or ls row [])) lines

pub put_row-requires : goal.put_row-requires
put_row-requires g c =
    let b = c.plain-block.ensures in
    let some = c.if-count-eq0.false in
    (omega (arith, b.first), omega (arith, some, c.len-count.ensures, b.end), omega (arith, some, c.len-count.ensures, ap length b.lines))

pub put_row-requires-2 : goal.put_row-requires-2
put_row-requires-2 g c =
    let b = c.plain-block.ensures in
    let some = c.if-count-eq0.false in
    (omega (arith, b.first), omega (arith, some, c.len-count.ensures, b.end), omega (arith, some, c.len-count.ensures, ap length b.lines))

pub returns-in_err-put_row-clause-bytes : goal.returns-in_err-put_row-clause-bytes
returns-in_err-put_row-clause-bytes g c =
    let graph = c.args.graph.now in
    let rows = c.args.listing.now.lines in
    let b = c.plain-block.ensures in
    let last = row_text graph (slice_index_or rows (length rows - 1) []) in
    first_broke _ _ _ _ _ _ _ last _ _ _ _ c.put_row.ensures.bytes c.in_err-put_row.was c.from_residual.ensures.1
    (ap (λ l. l ++ last) (same graph rows c.plain-block.result 0 b.graph b.lines)
    ∙ two graph rows (length rows) (omega (arith, c.if-count-eq0.false, c.len-count.ensures)) refl)

pub returns-clause-bytes : goal.returns-clause-bytes
returns-clause-bytes g c =
    let graph = c.args.graph.now in
    let rows = c.args.listing.now.lines in
    let n = c.len-count.result in
    let b = c.plain-block.ensures in
    puts_then _ _ _ _ _ _ _ _ _ _ c.in_ok-put_row.ensures.bytes c.put_row-2.ensures.bytes
    (ap₂ (λ (k l : List ℕ). k ++ l) (same graph rows c.plain-block.result 0 b.graph b.lines) (same graph rows c.plain-block.result (n - 1) b.graph b.lines)
    ∙ two graph rows n (omega (arith, c.if-count-eq0.false, c.len-count.ensures)) c.len-count.ensures)

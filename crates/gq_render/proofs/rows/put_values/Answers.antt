use Rattle.std.proofs.Common.{◌≡◌, ◌<◌, ◌+◌, ℕ, ◌++◌, List, length, get_or, drop, map, flat_map, ap, sym, ◌∙◌, arith}
use Rattle.std.proofs.lemmas.List.{drop_more}
use Rattle.std.proofs.lemmas.List.Folds.{flat_map-map}
use Rattle.gq_base.specs.Plain.{Graph}
use Rattle.gq_base.specs.Values.{Val, null}
use Rattle.gq_render.specs.Listings.{value_text}
use Rattle.gq_render.specs.Texts.{after_tab, tabbed}
use Rattle.gq_render.specs.steps.Blocks.{line_of}
use Rattle.gq_render.proofs.Sequence.{first_broke, puts_then}
use Rattle.gq_render.proofs.rows.put_values.Goals as goal

-- the first value of those from one on, and the others behind tabs
whole : (g : Graph) (line : List Val) (first : ℕ) → first < length line
    → value_text g (get_or line first null) ++ flat_map (λ v. after_tab (value_text g v)) (drop (first + 1) line) ≡ tabbed (map (value_text g) (drop first line))
whole g line first some =
    ap (λ l. value_text g (get_or line first null) ++ l) (sym (flat_map-map after_tab (value_text g) (drop (first + 1) line)))
    ∙ sym (ap (λ l. tabbed (map (value_text g) l)) (drop_more line first null some))

pub returns-in_err-put_at-clause-bytes : goal.returns-in_err-put_at-clause-bytes
returns-in_err-put_at-clause-bytes g c =
    let graph = c.args.block.now.graph in
    let line = line_of c.args.block.now c.args.row in
    let rest = flat_map (λ v. after_tab (value_text graph v)) (drop (c.args.first + 1) line) in
    first_broke _ _ _ _ _ _ _ rest _ _ _ _ c.put_at.ensures.bytes c.in_err-put_at.was c.from_residual.ensures.1
    (whole graph line c.args.first (omega arith))

pub returns-clause-bytes : goal.returns-clause-bytes
returns-clause-bytes g c =
    puts_then _ _ _ _ _ _ _ _ _ _ c.in_ok-put_at.ensures.bytes c.put_other_values.ensures.bytes
    (whole c.args.block.now.graph (line_of c.args.block.now c.args.row) c.args.first (omega arith))

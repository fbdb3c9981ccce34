use Rattle.std.proofs.Common.{◌≡◌, ◌∙◌, length, sym, ap, ap₂, subst, arith}
use Rattle.std.specs.Prelude.{slice_get}
use Rattle.std.proofs.lemmas.List.{get_or_default}
use Rattle.std.proofs.lemmas.Option.{slice_get-get_or}
use Rattle.gq_group.specs.Chunks.{items_in}
use Rattle.gq_group.specs.Pieces.{items_of}
use Rattle.gq_group.specs.declared.group.Group.{Group}
use Rattle.gq_pipe.specs.steps.Cells.{CanKeep, HasMatches, cell_seen, item_in}
use Rattle.gq_homes.specs.steps.Housing.{build_in}
use Rattle.gq_homes.specs.Homes.{IsFilling, filling_at, kept_of, no_filling}
use Rattle.gq_steps.specs.Levels.{known}
use Rattle.gq_steps.specs.Moves.{builds_in, run_of}
use Rattle.gq_pipe.specs.steps.Origins.{CanKeepAt, kept_at}
use Rattle.gq_homes.specs.declared.homes.Keeping.{Keeping}
use Rattle.gq_steps.proofs.Joined.{builds_many}
use Rattle.gq_pipe.proofs.Supplied.{can_keep, kept_is}
use Rattle.gq_pipe.proofs.origins.origin_of.Goals as goal

pub kept_rows-requires : goal.kept_rows-requires
kept_rows-requires c =
    let k = c.args.lists.now.plan_run in
    let c' = run_of k in
    let f : Keeping = c.in-Kept.keeping in
    let is : filling_at c.args.housing.now.fillings.items c.args.number ≡ kept_of f.group f.depth f.node = get_or_default c.args.housing.now.fillings.items c.args.number no_filling c.index.result.now c.requires.number ∙ sym c.index.ensures ∙ c.in-Kept.is in
    let here = subst (IsFilling c' c.args.lists.now.groups.items (known c' (length c'.steps)) c.args.housing.now.homes c.args.number) is c.requires.filling in
    let low = here.low in
    let many = builds_many k.graph.now k.typed.now c'.steps (builds_in k) c.requires.run.builds in
    omega (arith, low, many)

pub returns-in-Kept-clause-row : goal.returns-in-Kept-clause-row
returns-in-Kept-clause-row c = λ q p.
    (let c' = run_of c.args.lists.now.plan_run in
    let gs = c.args.groups.now in
    let f : Keeping = c.in-Kept.keeping in
    let is : filling_at c.args.housing.now.fillings.items c.args.number ≡ kept_of f.group f.depth f.node = get_or_default c.args.housing.now.fillings.items c.args.number no_filling c.index.result.now c.requires.number ∙ sym c.index.ensures ∙ c.in-Kept.is in
    let here = subst (IsFilling c' c.args.lists.now.groups.items (known c' (length c'.steps)) c.args.housing.now.homes c.args.number) is c.requires.filling in
    let low = here.group in
    let many = c.requires.groups in
    let item : slice_get (items_of c.kept_rows.result.rows) p ≡ item_in gs f.group p =
    ap (λ r. slice_get (items_of r) p) (c.kept_rows.ensures.rows ∙ c.piece-rows.ensures ∙ ap (λ (g : Group). g.piece) c.index-groups-keeping.is) ∙ sym (ap (λ o. slice_get (items_in o) p) (slice_get-get_or gs f.group c.index-groups-keeping.result (omega (arith, low, many)))) in
    ap₂ (λ o i. kept_at o i c.kept_rows.result.place) c.kept_rows.ensures.build item
    ∙ ap (kept_at (build_in c' f.depth) (item_in gs f.group p)) c.kept_rows.ensures.place
    ∙ kept_is (build_in c' f.depth) (item_in gs f.group p) f.node
    ∙ ap (λ f. cell_seen c' c.args.lists.now.row gs c.args.housing.now.homes q c.args.slots.now f p) (sym is))

pub returns-in-Kept-clause-can : goal.returns-in-Kept-clause-can
returns-in-Kept-clause-can c = λ q written p source.
    (let c' = run_of c.args.lists.now.plan_run in
    let gs = c.args.groups.now in
    let f : Keeping = c.in-Kept.keeping in
    let is : filling_at c.args.housing.now.fillings.items c.args.number ≡ kept_of f.group f.depth f.node = get_or_default c.args.housing.now.fillings.items c.args.number no_filling c.index.result.now c.requires.number ∙ sym c.index.ensures ∙ c.in-Kept.is in
    let here = subst (IsFilling c' c.args.lists.now.groups.items (known c' (length c'.steps)) c.args.housing.now.homes c.args.number) is c.requires.filling in
    let low = here.group in
    let many = c.requires.groups in
    let item : slice_get (items_of c.kept_rows.result.rows) p ≡ item_in gs f.group p =
    ap (λ r. slice_get (items_of r) p) (c.kept_rows.ensures.rows ∙ c.piece-rows.ensures ∙ ap (λ (g : Group). g.piece) c.index-groups-keeping.is) ∙ sym (ap (λ o. slice_get (items_in o) p) (slice_get-get_or gs f.group c.index-groups-keeping.result (omega (arith, low, many)))) in
    let can : CanKeep (build_in c' f.depth) (item_in gs f.group p) f.node = subst (HasMatches c' gs) is c.requires.matches p in
    subst (λ o. CanKeepAt o (slice_get (items_of c.kept_rows.result.rows) p) c.kept_rows.result.place) (sym c.kept_rows.ensures.build)
    (subst (λ i. CanKeepAt (build_in c' f.depth) i c.kept_rows.result.place) (sym item)
    (subst (CanKeepAt (build_in c' f.depth) (item_in gs f.group p)) (sym c.kept_rows.ensures.place) (can_keep (build_in c' f.depth) (item_in gs f.group p) f.node can))))

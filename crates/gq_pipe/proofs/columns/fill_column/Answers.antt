use Rattle.std.proofs.Common.{◌≡◌, ◌∙◌, ◌+◌, ◌*◌, ◌<◌, ℕ, length, sym, ap, arith}
use Rattle.std.specs.Prelude.{slice_get, slice_index, ◌==◌}
use Rattle.std.specs.Int.{bit_at}
use Rattle.std.proofs.lemmas.List.{get_or_default}
use Rattle.std.proofs.lemmas.Option.{slice_get-get_or}
use Rattle.gq_bits.specs.Places.{is_marked}
use Rattle.gq_group.specs.declared.group.Group.{Group}
use Rattle.gq_pipe.specs.steps.Cells.{marks_in}
use Rattle.gq_homes.specs.Homes.{column_group, filling_at, no_filling}
use Rattle.gq_steps.specs.Levels.{Run, known}
use Rattle.gq_steps.specs.Moves.{run_of}
use Rattle.gq_pipe.proofs.Columned.{can_fill, columned_all, columned_more, group_low}
use Rattle.gq_pipe.proofs.columns.fill_column.Goals as goal

pub fill_word-requires-clause-can : goal.fill_word-requires-clause-can
fill_word-requires-clause-can c =
    let k : Run = run_of c.args.lists.now.plan_run in
    let gs = c.args.groups.now in
    let fs = c.args.housing.now.fillings.items in
    let n = c.args.number in
    let slots = c.args.slots.now in
    let index = c.loop-index.index in
    let test = c.loop-index-test.true in
    let is : filling_at fs n ≡ c.index.result.now = get_or_default fs n no_filling c.index.result.now c.requires.number ∙ sym c.index.ensures in
    let group : c.column_group-group.result ≡ column_group (filling_at fs n) = c.column_group-group.ensures ∙ ap column_group (sym is) in
    let inside : column_group (filling_at fs n) < length gs = group_low k c.args.lists.now.groups.items (known k (length k.steps)) c.args.housing.now.homes n (filling_at fs n) (length gs) c.requires.groups c.requires.filling in
    let there : c.marks-marks.result.now ≡ marks_in (slice_get gs (column_group (filling_at fs n))) =
    c.marks-marks.ensures ∙ ap (λ (g : Group). g.marks) c.index-groups-group.is
    ∙ sym (ap marks_in (slice_get-get_or gs c.column_group-group.result c.index-groups-group.result (omega (arith, inside, group))))
    ∙ ap (λ i. marks_in (slice_get gs i)) group in
    let bits : (i : ℕ) → i < 64 → (bit_at c.word.result i == 1) ≡ is_marked (marks_in (slice_get gs (column_group (filling_at fs n)))) (64 * index + i) =
    λ i low. c.word.ensures.bits i low ∙ ap (λ m. is_marked m (64 * index + i)) there in
    let slot : c.index-slots-number.result ≡ slice_index slots n = c.index-slots-number.is ∙ get_or_default slots n c.index-slots-number.result 0 c.requires.room in
    can_fill k c.args.lists.now.row gs c.args.housing.now.homes fs slots n c.args.pool.now c.loop-index.pool index c.loop-index.invariant (omega (arith, test)) c.requires.room c.args.lists.now.groups.items (known k (length k.steps)) c.requires.filling
    c.requires.columns c.origin_of-origin.result c.origin_of-origin.ensures.row c.origin_of-origin.ensures.can c.word.result bits
    c.index-slots-number.result slot

pub loop-index-preserved : goal.loop-index-preserved
loop-index-preserved c =
    let k : Run = run_of c.args.lists.now.plan_run in
    let gs = c.args.groups.now in
    let fs = c.args.housing.now.fillings.items in
    let n = c.args.number in
    let slots = c.args.slots.now in
    let index = c.loop-index.index in
    let test = c.loop-index-test.true in
    let is : filling_at fs n ≡ c.index.result.now = get_or_default fs n no_filling c.index.result.now c.requires.number ∙ sym c.index.ensures in
    let group : c.column_group-group.result ≡ column_group (filling_at fs n) = c.column_group-group.ensures ∙ ap column_group (sym is) in
    let inside : column_group (filling_at fs n) < length gs = group_low k c.args.lists.now.groups.items (known k (length k.steps)) c.args.housing.now.homes n (filling_at fs n) (length gs) c.requires.groups c.requires.filling in
    let there : c.marks-marks.result.now ≡ marks_in (slice_get gs (column_group (filling_at fs n))) =
    c.marks-marks.ensures ∙ ap (λ (g : Group). g.marks) c.index-groups-group.is
    ∙ sym (ap marks_in (slice_get-get_or gs c.column_group-group.result c.index-groups-group.result (omega (arith, inside, group))))
    ∙ ap (λ i. marks_in (slice_get gs i)) group in
    let bits : (i : ℕ) → i < 64 → (bit_at c.word.result i == 1) ≡ is_marked (marks_in (slice_get gs (column_group (filling_at fs n)))) (64 * index + i) =
    λ i low. c.word.ensures.bits i low ∙ ap (λ m. is_marked m (64 * index + i)) there in
    let slot : c.index-slots-number.result ≡ slice_index slots n = c.index-slots-number.is ∙ get_or_default slots n c.index-slots-number.result 0 c.requires.room in
    columned_more k c.args.lists.now.row gs c.args.housing.now.homes fs slots n c.args.pool.now c.loop-index.pool index c.loop-index.invariant (omega (arith, test)) c.requires.room c.args.lists.now.groups.items (known k (length k.steps)) c.requires.filling
    c.requires.columns c.origin_of-origin.result c.origin_of-origin.ensures.row c.origin_of-origin.ensures.can c.word.result bits
    c.fill_word.new.pool c.index-slots-number.result slot c.fill_word.ensures.cells c.fill_word.ensures.other_cells c.fill_word.ensures.other_slots c.fill_word.ensures.same_out c.fill_word.ensures.still_out

pub returns-clause-cells : goal.returns-clause-cells
returns-clause-cells c =
    let over = c.loop-index-test.false in
    columned_all (run_of c.args.lists.now.plan_run) c.args.lists.now.row c.args.groups.now c.args.housing.now.homes c.args.housing.now.fillings.items c.args.slots.now c.args.number c.args.pool.now c.loop-index.pool c.loop-index.index (omega (arith, over)) c.loop-index.invariant

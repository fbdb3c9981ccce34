use Rattle.std.proofs.Common.{◌∙◌, ◌+◌, ◌<◌, ap, drop, length, sym, arith}
use Rattle.std.specs.Prelude.{slice_set}
use Rattle.std.proofs.lemmas.List.{get_or-set_same}
use Rattle.gq_plan.specs.Marked.{Marked}
use Rattle.gq_outer.specs.Rows.{read}
use Rattle.gq_optional.specs.declared.clause_level.ClauseLevel.{ClauseLevel}
use Rattle.gq_optional.specs.steps.Levels.{clauses_of, last_mark, last_wide}
use Rattle.gq_optional.proofs.Asking.{all_same, ask_behind, ask_here}
use Rattle.gq_optional.proofs.Stepped.{kept_less, take_set}
use Rattle.gq_optional.proofs.Turned.{drop_set_more}
use Rattle.gq_optional.proofs.Walked.{begins_from, clauses_from, levels_from, moved_row, news}
use Rattle.gq_optional.proofs.walk.+begin_from.Goals as goal

pub returns-clause-levels : goal.returns-clause-levels
returns-clause-levels t c =
    let old = c.args.levels.now in
    let d = c.args.depth in
    let now = c.begin.new.self in
    let low : d < length old = omega (arith, c.if-depth-levels.false) in
    let row = c.copy_from.ensures ∙ c.row.ensures ∙ ap (λ (l : ClauseLevel). l.row) (get_or-set_same old d now c.index-levels-depth-2.result low) in
    levels_from old c.begin_from.new.levels d c.index-levels-depth.result now low c.begin_from.ensures.kept (length c.args.row.now.nodes) (length c.args.row.now.rels)
    c.requires c.begin.ensures.level c.begin.ensures.rows c.begin.ensures.same c.copy_from.new.self row c.begin_from.ensures.levels

pub returns-clause-begins : goal.returns-clause-begins
returns-clause-begins t c g asks =
    let old = c.args.levels.now in
    let new = c.begin_from.new.levels in
    let d = c.args.depth in
    let now = c.begin.new.self in
    let m : Marked = record { row = read c.args.row.now; mark = c.args.mark } in
    let low : d < length old = omega (arith, c.if-depth-levels.false) in
    let row = c.copy_from.ensures ∙ c.row.ensures ∙ ap (λ (l : ClauseLevel). l.row) (get_or-set_same old d now c.index-levels-depth-2.result low) in
    let mark = c.mark-mark.ensures ∙ ap (λ (l : ClauseLevel). l.mark) (get_or-set_same old d now c.index-levels-depth-3.result low) in
    let behind = ap clauses_of (drop_set_more old d now) in
    let ask = ask_behind g old d c.index-levels-depth.result low asks in
    begins_from old new d c.index-levels-depth.result now low c.begin_from.ensures.kept g (read c.args.row.now) m (c.begin.ensures.begins g (ask_here g old d c.index-levels-depth.result low asks))
    (moved_row g (drop (d + 1) new) _ _ _ _ _ _ behind row mark (c.begin_from.ensures.begins g (all_same g (clauses_of (drop (d + 1) old)) (clauses_of (drop (d + 1) (slice_set old d now))) behind ask)))
    (c.begin_from.ensures.clauses ∙ behind)

pub returns-clause-clauses : goal.returns-clause-clauses
returns-clause-clauses t c =
    let old = c.args.levels.now in
    let d = c.args.depth in
    let now = c.begin.new.self in
    clauses_from old c.begin_from.new.levels d c.index-levels-depth.result now (omega (arith, c.if-depth-levels.false)) c.begin_from.ensures.kept c.begin.ensures.same
    (c.begin_from.ensures.clauses ∙ ap clauses_of (drop_set_more old d now))

pub returns-clause-row : goal.returns-clause-row
returns-clause-row t c =
    let old = c.args.levels.now in
    let d = c.args.depth in
    let now = c.begin.new.self in
    let low : d < length old = omega (arith, c.if-depth-levels.false) in
    let row = c.copy_from.ensures ∙ c.row.ensures ∙ ap (λ (l : ClauseLevel). l.row) (get_or-set_same old d now c.index-levels-depth-2.result low) in
    c.begin_from.ensures.row ∙ ap (λ w. last_wide w (drop (d + 1) c.begin_from.new.levels)) row
    ∙ ap (last_wide c.args.row.now) (sym (news old c.begin_from.new.levels d c.index-levels-depth.result now low c.begin_from.ensures.kept))

pub returns-clause-mark : goal.returns-clause-mark
returns-clause-mark t c =
    let old = c.args.levels.now in
    let d = c.args.depth in
    let now = c.begin.new.self in
    let low : d < length old = omega (arith, c.if-depth-levels.false) in
    let mark = c.mark-mark.ensures ∙ ap (λ (l : ClauseLevel). l.mark) (get_or-set_same old d now c.index-levels-depth-3.result low) in
    c.begin_from.ensures.mark ∙ ap (λ k. last_mark k (drop (d + 1) c.begin_from.new.levels)) mark
    ∙ ap (last_mark c.args.mark) (sym (news old c.begin_from.new.levels d c.index-levels-depth.result now low c.begin_from.ensures.kept))

pub returns-clause-kept : goal.returns-clause-kept
returns-clause-kept t c =
    kept_less (slice_set c.args.levels.now c.args.depth c.begin.new.self) c.begin_from.new.levels c.args.depth c.begin_from.ensures.kept ∙ take_set c.args.levels.now c.args.depth c.begin.new.self

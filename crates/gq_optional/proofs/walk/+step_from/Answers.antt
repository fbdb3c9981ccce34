use Rattle.std.proofs.Common.{◌≡◌, ◌∙◌, ℕ, ◌+◌, ◌<◌, None, ap, drop, length, refl, subst, sym, take, arith}
use Rattle.std.specs.Prelude.{slice_set}
use Rattle.std.proofs.lemmas.List.{drop_more, get_or-set_same}
use Rattle.gq_outer.specs.Rows.{Wide, read}
use Rattle.gq_optional.specs.steps.Asking.{Asks}
use Rattle.gq_optional.specs.declared.clause_level.ClauseLevel.{ClauseLevel}
use Rattle.gq_optional.specs.steps.Levels.{AreLevels, clauses_of, last_mark, last_wide}
use Rattle.gq_optional.proofs.Asking.{all_same, ask_behind, ask_here}
use Rattle.gq_optional.proofs.Stepped.{alike_back, alike_next, clauses_stay, kept_less, last_alike, levels_next, levels_put, levels_sized, levels_stay, long, marked_through, same_here, sized_put, some_level, steps_behind, steps_here, steps_none, take_set, through}
use Rattle.gq_optional.proofs.Turned.{drop_set_more}
use Rattle.gq_optional.proofs.Walked.{clauses_from, moved_row, news}
use Rattle.gq_optional.proofs.walk.+step_from.Goals as goal

pub step_from-requires : goal.step_from-requires
step_from-requires t c =
    let old = c.args.levels.now in
    let row = c.args.row.now in
    let low : c.args.depth < length old = omega (arith, c.if-depth-levels.false) in
    (omega (arith, c.decreases, c.if-depth-levels.false), (levels_next (length row.nodes) (length row.rels) old c.args.depth c.requires.levels, alike_next row c.args.base.now old c.args.depth low c.requires.levels))

-- ---- those behind go on

pub returns-then-step_from-clause-levels : goal.returns-then-step_from-clause-levels
returns-then-step_from-clause-levels t c =
    let old = c.args.levels.now in
    let d = c.args.depth in
    let row = c.args.row.now in
    let low : d < length old = omega (arith, c.if-depth-levels.false) in
    levels_stay old c.step_from.new.levels d (some_level old d low) low c.step_from.ensures.kept (length row.nodes) (length row.rels) c.requires.levels c.step_from.ensures.levels

pub returns-then-step_from-clause-kept : goal.returns-then-step_from-clause-kept
returns-then-step_from-clause-kept t c = kept_less c.args.levels.now c.step_from.new.levels c.args.depth c.step_from.ensures.kept

pub returns-then-step_from-clause-next : goal.returns-then-step_from-clause-next
returns-then-step_from-clause-next t c g asks =
    let old = c.args.levels.now in
    let d = c.args.depth in
    let base = c.args.base.now in
    let low : d < length old = omega (arith, c.if-depth-levels.false) in
    steps_behind old c.step_from.new.levels d (some_level old d low) low c.step_from.ensures.kept g base (read (last_wide base (take d old))) (c.if-step_from.ensures.next g (ask_behind g old d (some_level old d low) low asks)) c.step_from.ensures.clauses

pub returns-then-step_from-clause-clauses : goal.returns-then-step_from-clause-clauses
returns-then-step_from-clause-clauses t c =
    let old = c.args.levels.now in
    let d = c.args.depth in
    let low : d < length old = omega (arith, c.if-depth-levels.false) in
    clauses_stay old c.step_from.new.levels d (some_level old d low) low c.step_from.ensures.kept c.step_from.ensures.clauses

-- ---- the row that comes

pub copy_from-requires-clause-nodes : goal.copy_from-requires-clause-nodes
copy_from-requires-clause-nodes t c =
    c.step_from.ensures.wide.nodes ∙ c.requires.here.nodes
    ∙ sym (ap (λ (w : Wide). length w.nodes) (c.coming.ensures ∙ ap (last_wide c.args.base.now) (kept_less c.args.levels.now c.step_from.new.levels c.args.depth c.step_from.ensures.kept)))

pub copy_from-requires-clause-rels : goal.copy_from-requires-clause-rels
copy_from-requires-clause-rels t c =
    c.step_from.ensures.wide.rels ∙ c.requires.here.rels
    ∙ sym (ap (λ (w : Wide). length w.rels) (c.coming.ensures ∙ ap (last_wide c.args.base.now) (kept_less c.args.levels.now c.step_from.new.levels c.args.depth c.step_from.ensures.kept)))

-- ---- the clause itself

pub go_on-requires-clause-level : goal.go_on-requires-clause-level
go_on-requires-clause-level t c =
    let old = c.args.levels.now in
    let mid = c.step_from.new.levels in
    let d = c.args.depth in
    let x = c.index-levels-depth.result in
    let kept = c.step_from.ensures.kept in
    let n = length c.args.row.now.nodes in
    let m = length c.args.row.now.rels in
    let low : d < length old = omega (arith, c.if-depth-levels.false) in
    (subst (AreLevels n m) (drop_more mid d x (long old mid d x low kept)) (levels_stay old mid d x low kept n m c.requires.levels c.step_from.ensures.levels)).0.0

pub go_on-requires-clause-rows : goal.go_on-requires-clause-rows
go_on-requires-clause-rows t c =
    let old = c.args.levels.now in
    let mid = c.step_from.new.levels in
    let d = c.args.depth in
    let x = c.index-levels-depth.result in
    let kept = c.step_from.ensures.kept in
    let n = length c.args.row.now.nodes in
    let m = length c.args.row.now.rels in
    let low : d < length old = omega (arith, c.if-depth-levels.false) in
    (subst (AreLevels n m) (drop_more mid d x (long old mid d x low kept)) (levels_stay old mid d x low kept n m c.requires.levels c.step_from.ensures.levels)).0.1

pub returns-then-not-go_on-clause-levels : goal.returns-then-not-go_on-clause-levels
returns-then-not-go_on-clause-levels t c =
    let old = c.args.levels.now in
    let mid = c.step_from.new.levels in
    let d = c.args.depth in
    let x = c.index-levels-depth.result in
    let now = c.go_on.new.self in
    let kept = c.step_from.ensures.kept in
    let n = length c.args.row.now.nodes in
    let m = length c.args.row.now.rels in
    let low : d < length old = omega (arith, c.if-depth-levels.false) in
    levels_put mid (slice_set mid d now) d x now (long old mid d x low kept) refl n m (levels_stay old mid d x low kept n m c.requires.levels c.step_from.ensures.levels)
    c.go_on.ensures.level c.go_on.ensures.rows c.go_on.ensures.same (subst (AreLevels n m) (sym (drop_set_more mid d now)) c.step_from.ensures.levels)

pub returns-then-not-go_on-clause-kept : goal.returns-then-not-go_on-clause-kept
returns-then-not-go_on-clause-kept t c =
    take_set c.step_from.new.levels c.args.depth c.go_on.new.self ∙ kept_less c.args.levels.now c.step_from.new.levels c.args.depth c.step_from.ensures.kept

pub returns-then-not-go_on-clause-next : goal.returns-then-not-go_on-clause-next
returns-then-not-go_on-clause-next t c g asks =
    let old = c.args.levels.now in
    let mid = c.step_from.new.levels in
    let d = c.args.depth in
    let base = c.args.base.now in
    let kept = c.step_from.ensures.kept in
    let low : d < length old = omega (arith, c.if-depth-levels.false) in
    let x = c.index-levels-depth.result in
    let here = subst (λ (l : ClauseLevel). Asks g l.clause.now) (sym (same_here old mid d x low kept)) (ask_here g old d x low asks) in
    steps_none old mid d x low kept g base c.copy_from.new.self (last_wide base (take d old))
    (c.copy_from.ensures ∙ c.coming.ensures ∙ ap (last_wide base) (kept_less old mid d kept)) (c.if-step_from.ensures.next g (ask_behind g old d x low asks)) (c.if-not-go_on.ensures.goes_on g here).0

pub returns-then-not-go_on-clause-clauses : goal.returns-then-not-go_on-clause-clauses
returns-then-not-go_on-clause-clauses t c =
    let old = c.args.levels.now in
    let mid = c.step_from.new.levels in
    let d = c.args.depth in
    let x = c.index-levels-depth.result in
    let now = c.go_on.new.self in
    let kept = c.step_from.ensures.kept in
    let low : d < length old = omega (arith, c.if-depth-levels.false) in
    clauses_from mid (slice_set mid d now) d x now (long old mid d x low kept) refl c.go_on.ensures.same (ap clauses_of (drop_set_more mid d now))
    ∙ clauses_stay old mid d x low kept c.step_from.ensures.clauses

pub returns-then-not-go_on-clause-wide : goal.returns-then-not-go_on-clause-wide
returns-then-not-go_on-clause-wide t c =
    let old = c.args.levels.now in
    let mid = c.step_from.new.levels in
    let d = c.args.depth in
    let base = c.args.base.now in
    alike_back c.copy_from.new.self (last_wide base (take d old)) c.args.row.now
    (c.copy_from.ensures ∙ c.coming.ensures ∙ ap (last_wide base) (kept_less old mid d c.step_from.ensures.kept)) c.requires.here

-- ---- the clause goes on

pub copy_from-requires-2-clause-nodes : goal.copy_from-requires-2-clause-nodes
copy_from-requires-2-clause-nodes t c =
    let old = c.args.levels.now in
    let mid = c.step_from.new.levels in
    let d = c.args.depth in
    let x = c.index-levels-depth.result in
    let now = c.go_on.new.self in
    let base = c.args.base.now in
    let kept = c.step_from.ensures.kept in
    let n = length c.args.row.now.nodes in
    let m = length c.args.row.now.rels in
    let low : d < length old = omega (arith, c.if-depth-levels.false) in
    let inside = long old mid d x low kept in
    let alike = alike_back c.copy_from.new.self (last_wide base (take d old)) c.args.row.now (c.copy_from.ensures ∙ c.coming.ensures ∙ ap (last_wide base) (kept_less old mid d kept)) c.requires.here in
    alike.nodes ∙ sym (ap (λ (w : Wide). length w.nodes) c.row.ensures ∙ ap (λ (l : ClauseLevel). length l.row.nodes) (get_or-set_same mid d now c.index-levels-depth-2.result inside)
    ∙ (sized_put n m mid d x now inside (levels_stay old mid d x low kept n m c.requires.levels c.step_from.ensures.levels) c.go_on.ensures.same).0)

pub copy_from-requires-2-clause-rels : goal.copy_from-requires-2-clause-rels
copy_from-requires-2-clause-rels t c =
    let old = c.args.levels.now in
    let mid = c.step_from.new.levels in
    let d = c.args.depth in
    let x = c.index-levels-depth.result in
    let now = c.go_on.new.self in
    let base = c.args.base.now in
    let kept = c.step_from.ensures.kept in
    let n = length c.args.row.now.nodes in
    let m = length c.args.row.now.rels in
    let low : d < length old = omega (arith, c.if-depth-levels.false) in
    let inside = long old mid d x low kept in
    let alike = alike_back c.copy_from.new.self (last_wide base (take d old)) c.args.row.now (c.copy_from.ensures ∙ c.coming.ensures ∙ ap (last_wide base) (kept_less old mid d kept)) c.requires.here in
    alike.rels ∙ sym (ap (λ (w : Wide). length w.rels) c.row.ensures ∙ ap (λ (l : ClauseLevel). length l.row.rels) (get_or-set_same mid d now c.index-levels-depth-2.result inside)
    ∙ (sized_put n m mid d x now inside (levels_stay old mid d x low kept n m c.requires.levels c.step_from.ensures.levels) c.go_on.ensures.same).1)

pub begin_from-requires : goal.begin_from-requires
begin_from-requires t c =
    let old = c.args.levels.now in
    let mid = c.step_from.new.levels in
    let d = c.args.depth in
    let x = c.index-levels-depth.result in
    let now = c.go_on.new.self in
    let kept = c.step_from.ensures.kept in
    let n = length c.args.row.now.nodes in
    let m = length c.args.row.now.rels in
    let low : d < length old = omega (arith, c.if-depth-levels.false) in
    let inside = long old mid d x low kept in
    let is : c.copy_from-2.new.self ≡ now.row = c.copy_from-2.ensures ∙ c.row.ensures ∙ ap (λ (l : ClauseLevel). l.row) (get_or-set_same mid d now c.index-levels-depth-2.result inside) in
    let sized = sized_put n m mid d x now inside (levels_stay old mid d x low kept n m c.requires.levels c.step_from.ensures.levels) c.go_on.ensures.same in
    levels_sized n m c.copy_from-2.new.self (drop (d + 1) mid) (drop (d + 1) (slice_set mid d now)) (ap (λ (w : Wide). length w.nodes) is ∙ sized.0) (ap (λ (w : Wide). length w.rels) is ∙ sized.1) (drop_set_more mid d now) c.step_from.ensures.levels

pub returns-clause-levels : goal.returns-clause-levels
returns-clause-levels t c =
    let old = c.args.levels.now in
    let mid = c.step_from.new.levels in
    let new = c.begin_from.new.levels in
    let d = c.args.depth in
    let x = c.index-levels-depth.result in
    let now = c.go_on.new.self in
    let kept = c.step_from.ensures.kept in
    let n = length c.args.row.now.nodes in
    let m = length c.args.row.now.rels in
    let low : d < length old = omega (arith, c.if-depth-levels.false) in
    let inside = long old mid d x low kept in
    let is : c.copy_from-2.new.self ≡ now.row = c.copy_from-2.ensures ∙ c.row.ensures ∙ ap (λ (l : ClauseLevel). l.row) (get_or-set_same mid d now c.index-levels-depth-2.result inside) in
    let all = levels_stay old mid d x low kept n m c.requires.levels c.step_from.ensures.levels in
    let sized = sized_put n m mid d x now inside all c.go_on.ensures.same in
    levels_put mid new d x now inside c.begin_from.ensures.kept n m all c.go_on.ensures.level c.go_on.ensures.rows c.go_on.ensures.same
    (subst (λ (t : ℕ × ℕ). AreLevels t.0 t.1 (drop (d + 1) new)) (λ i. ((ap (λ (w : Wide). length w.nodes) is ∙ sized.0) i, (ap (λ (w : Wide). length w.rels) is ∙ sized.1) i)) c.begin_from.ensures.levels)

pub returns-clause-kept : goal.returns-clause-kept
returns-clause-kept t c =
    let mid = c.step_from.new.levels in
    let d = c.args.depth in
    let now = c.go_on.new.self in
    kept_less (slice_set mid d now) c.begin_from.new.levels d c.begin_from.ensures.kept ∙ take_set mid d now ∙ kept_less c.args.levels.now mid d c.step_from.ensures.kept

pub returns-clause-next : goal.returns-clause-next
returns-clause-next t c g asks =
    let old = c.args.levels.now in
    let mid = c.step_from.new.levels in
    let new = c.begin_from.new.levels in
    let d = c.args.depth in
    let x = c.index-levels-depth.result in
    let now = c.go_on.new.self in
    let base = c.args.base.now in
    let kept = c.step_from.ensures.kept in
    let low : d < length old = omega (arith, c.if-depth-levels.false) in
    let inside = long old mid d x low kept in
    let is = c.copy_from-2.ensures ∙ c.row.ensures ∙ ap (λ (l : ClauseLevel). l.row) (get_or-set_same mid d now c.index-levels-depth-2.result inside) in
    let mark = c.mark-made.ensures ∙ ap (λ (l : ClauseLevel). l.mark) (get_or-set_same mid d now c.index-levels-depth-3.result inside) in
    let clauses = ap clauses_of (drop_set_more mid d now) ∙ c.step_from.ensures.clauses in
    let here = subst (λ (l : ClauseLevel). Asks g l.clause.now) (sym (same_here old mid d x low kept)) (ask_here g old d x low asks) in
    let ask = ask_behind g old d x low asks in
    let begun = c.begin_from.ensures.begins g (all_same g (clauses_of (drop (d + 1) old)) (clauses_of (drop (d + 1) (slice_set mid d now))) clauses ask) in
    steps_here old mid d x low kept g base c.copy_from.new.self (last_wide base (take d old)) now new
    (c.copy_from.ensures ∙ c.coming.ensures ∙ ap (last_wide base) (kept_less old mid d kept)) (c.if-step_from.ensures.next g ask) (c.if-not-go_on.ensures.goes_on g here)
    (news mid new d x now inside c.begin_from.ensures.kept)
    (moved_row g (drop (d + 1) new) _ _ _ _ _ _ clauses is mark begun) (c.begin_from.ensures.clauses ∙ clauses)

pub returns-clause-clauses : goal.returns-clause-clauses
returns-clause-clauses t c =
    let old = c.args.levels.now in
    let mid = c.step_from.new.levels in
    let d = c.args.depth in
    let x = c.index-levels-depth.result in
    let now = c.go_on.new.self in
    let kept = c.step_from.ensures.kept in
    let low : d < length old = omega (arith, c.if-depth-levels.false) in
    clauses_from mid c.begin_from.new.levels d x now (long old mid d x low kept) c.begin_from.ensures.kept c.go_on.ensures.same (c.begin_from.ensures.clauses ∙ ap clauses_of (drop_set_more mid d now))
    ∙ clauses_stay old mid d x low kept c.step_from.ensures.clauses

pub returns-clause-wide : goal.returns-clause-wide
returns-clause-wide t c =
    let old = c.args.levels.now in
    let mid = c.step_from.new.levels in
    let d = c.args.depth in
    let x = c.index-levels-depth.result in
    let now = c.go_on.new.self in
    let came = c.copy_from-2.new.self in
    let kept = c.step_from.ensures.kept in
    let n = length c.args.row.now.nodes in
    let m = length c.args.row.now.rels in
    let low : d < length old = omega (arith, c.if-depth-levels.false) in
    let inside = long old mid d x low kept in
    let is : came ≡ now.row = c.copy_from-2.ensures ∙ c.row.ensures ∙ ap (λ (l : ClauseLevel). l.row) (get_or-set_same mid d now c.index-levels-depth-2.result inside) in
    let sized = sized_put n m mid d x now inside (levels_stay old mid d x low kept n m c.requires.levels c.step_from.ensures.levels) c.go_on.ensures.same in
    let last = last_alike (length came.nodes) (length came.rels) came (drop (d + 1) c.begin_from.new.levels) refl refl c.begin_from.ensures.levels in
    record {
      nodes = ap (λ (w : Wide). length w.nodes) c.begin_from.ensures.row ∙ last.0 ∙ ap (λ (w : Wide). length w.nodes) is ∙ sized.0;
      rels = ap (λ (w : Wide). length w.rels) c.begin_from.ensures.row ∙ last.1 ∙ ap (λ (w : Wide). length w.rels) is ∙ sized.1;
    }

pub returns-clause-row : goal.returns-clause-row
returns-clause-row t c _ =
    let old = c.args.levels.now in
    let mid = c.step_from.new.levels in
    let new = c.begin_from.new.levels in
    let d = c.args.depth in
    let x = c.index-levels-depth.result in
    let now = c.go_on.new.self in
    let low : d < length old = omega (arith, c.if-depth-levels.false) in
    let inside = long old mid d x low c.step_from.ensures.kept in
    let is = c.copy_from-2.ensures ∙ c.row.ensures ∙ ap (λ (l : ClauseLevel). l.row) (get_or-set_same mid d now c.index-levels-depth-2.result inside) in
    c.begin_from.ensures.row ∙ ap (λ w. last_wide w (drop (d + 1) new)) is
    ∙ sym (through c.args.base.now new d now (drop (d + 1) new) (news mid new d x now inside c.begin_from.ensures.kept))

pub returns-clause-mark : goal.returns-clause-mark
returns-clause-mark t c _ =
    let old = c.args.levels.now in
    let mid = c.step_from.new.levels in
    let new = c.begin_from.new.levels in
    let d = c.args.depth in
    let x = c.index-levels-depth.result in
    let now = c.go_on.new.self in
    let low : d < length old = omega (arith, c.if-depth-levels.false) in
    let inside = long old mid d x low c.step_from.ensures.kept in
    let is = c.mark-made.ensures ∙ ap (λ (l : ClauseLevel). l.mark) (get_or-set_same mid d now c.index-levels-depth-3.result inside) in
    c.begin_from.ensures.mark ∙ ap (λ k. last_mark k (drop (d + 1) new)) is
    ∙ sym (marked_through None new d now (drop (d + 1) new) (news mid new d x now inside c.begin_from.ensures.kept))

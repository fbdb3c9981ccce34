use Rattle.std.proofs.Common.{length, false, sym, ap, ◌∙◌}
use Rattle.gq_steps.specs.Pieces.{matches_in}
use Rattle.gq_steps.specs.Moves.{run_of}
use Rattle.gq_steps.specs.declared.action.Action.TheVariants as act
use Rattle.gq_steps.proofs.Acting.{acts, no_other}
use Rattle.gq_steps.proofs.Joined.{build, join_count}
use Rattle.gq_steps.proofs.Trying.{low_step, scan_low, scan_count, extend_can, extend_count, close_can, close_count}
use Rattle.gq_steps.proofs.plan_run.PlanRun.count.Goals as goal

pub row_count-requires-clause-node : goal.row_count-requires-clause-node
row_count-requires-clause-node c = scan_low (run_of c.args.self.now) c.requires.run c.args.group.first (low_step c.args.self.now c.args.group.first c.requires.step) c.args.row.now c.requires.held c.in-Scan.node (acts c.args.self.now c.args.group.first c.args.group.action (act.Scan c.in-Scan.node) c.requires.action c.in-Scan.is)

pub returns-in-Scan : goal.returns-in-Scan
returns-in-Scan c = c.row_count.ensures ∙ sym (scan_count (run_of c.args.self.now) c.requires.run c.args.group.first (low_step c.args.self.now c.args.group.first c.requires.step) c.args.row.now c.requires.held c.in-Scan.node (acts c.args.self.now c.args.group.first c.args.group.action (act.Scan c.in-Scan.node) c.requires.action c.in-Scan.is))

pub met-requires : goal.met-requires
met-requires c = extend_can (run_of c.args.self.now) c.requires.run c.args.group.first (low_step c.args.self.now c.args.group.first c.requires.step) c.args.row.now c.requires.held false c.in-List.follow.rel c.in-List.follow.from c.in-List.follow.to c.in-List.follow.direction (acts c.args.self.now c.args.group.first c.args.group.action (act.List c.in-List.follow) c.requires.action c.in-List.is)

pub returns-in-List : goal.returns-in-List
returns-in-List c = c.met.ensures ∙ sym (extend_count (run_of c.args.self.now) c.requires.run c.args.group.first (low_step c.args.self.now c.args.group.first c.requires.step) c.args.row.now c.requires.held false c.in-List.follow.rel c.in-List.follow.from c.in-List.follow.to c.in-List.follow.direction (acts c.args.self.now c.args.group.first c.args.group.action (act.List c.in-List.follow) c.requires.action c.in-List.is))

pub met-requires-in-Close : goal.met-requires-in-Close
met-requires-in-Close c = close_can (run_of c.args.self.now) c.requires.run c.args.group.first (low_step c.args.self.now c.args.group.first c.requires.step) c.args.row.now c.requires.held false c.in-Close.follow.rel c.in-Close.follow.from c.in-Close.follow.to c.in-Close.follow.direction (acts c.args.self.now c.args.group.first c.args.group.action (act.Close c.in-Close.follow) c.requires.action c.in-Close.is)

pub returns-in-Close : goal.returns-in-Close
returns-in-Close c = c.met-in-Close.ensures ∙ sym (close_count (run_of c.args.self.now) c.requires.run c.args.group.first (low_step c.args.self.now c.args.group.first c.requires.step) c.args.row.now c.requires.held false c.in-Close.follow.rel c.in-Close.follow.from c.in-Close.follow.to c.in-Close.follow.direction (acts c.args.self.now c.args.group.first c.args.group.action (act.Close c.in-Close.follow) c.requires.action c.in-Close.is))

pub returns-in-Join : goal.returns-in-Join
returns-in-Join c =
    let j = acts c.args.self.now c.args.group.first c.args.group.action act.Join c.requires.action c.in-Join.is in
    ap length (c.requires.matches.are j.0 j.1 j.2)
    ∙ ap (λ o. length (matches_in o c.args.row.now)) (build (run_of c.args.self.now) c.requires.run c.args.group.first (low_step c.args.self.now c.args.group.first c.requires.step) c.args.row.now c.requires.held j.0 j.1 j.2).there
    ∙ sym (join_count (run_of c.args.self.now) c.requires.run c.args.group.first (low_step c.args.self.now c.args.group.first c.requires.step) c.args.row.now c.requires.held j.0 j.1 j.2)

pub unreachable-requires : goal.unreachable-requires
unreachable-requires c = no_other c.args.self.now c.args.group.first c.args.group.action c.requires.action c.requires.makes c.in_default.not-Scan c.in_default.not-List c.in_default.not-Close c.in_default.not-Join

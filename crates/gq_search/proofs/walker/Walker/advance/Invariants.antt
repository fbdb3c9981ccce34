use Rattle.std.proofs.Common.{◌≡◌, length, []}
use Rattle.gq_search.specs.Running.{IsReady, prefix, keys_owed}
use Rattle.gq_search.proofs.Odometer.{left}
use Rattle.gq_search.proofs.Searching.{Search}
use Rattle.gq_search.proofs.walker.Walker.advance.Given as goal

abbrev pub invariant-search : goal.invariant-search
invariant-search g l = record {
  count : l.groups ≡ length l.self.cursors.items;
  groups : g.L.Levels.groups l.levels ≡ g.L.Levels.groups l.fn.levels;
  layout : g.L.Levels.layout l.levels ≡ g.L.Levels.layout l.fn.levels;
  frame : g.L.Levels.frame l.lent ≡ g.L.Levels.frame l.fn.lent;
  kept : g.L.Levels.kept l.levels ≡ g.L.Levels.kept l.fn.levels;
  ready : IsReady (g.L.Levels.layout l.levels) (g.L.Levels.groups l.levels) (g.L.Levels.opened l.levels l.lent) (g.L.Levels.cut_at l.levels l.lent) l.self.cursors.items l.self.marks.items l.depth l.next;
  search : Search (g.L.Levels.layout l.fn.levels) (g.L.Levels.groups l.fn.levels)
      (keys_owed (g.L.Levels.layout l.fn.levels) (g.L.Levels.groups l.fn.levels) (record { cursors = l.fn.self.cursors.items; marks = l.fn.self.marks.items; state = l.fn.self.state }))
      l.self.cursors.items l.self.marks.items l.depth l.next;
}

abbrev pub decreases-search : goal.decreases-search
decreases-search g l = left (g.L.Levels.layout l.fn.levels) (g.L.Levels.groups l.fn.levels) [] (prefix l.self.cursors.items l.depth) l.next

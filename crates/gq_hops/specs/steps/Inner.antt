-- What the fields of a walker stand for, and what is true of them.
use Rattle.std.specs.Prelude.{◌≡◌, ◌≤◌, true, Option, Some, List, []}
use Rattle.gq_base.specs.Directions.{opposite}
use Rattle.gq_base.specs.declared.NodeId.{NodeId}
use Rattle.gq_base.specs.declared.RelId.{RelId}
use Rattle.gq_plan.specs.Assignments.{is_node}
use Rattle.gq_law_trails.specs.Bounds.{AreBounds}
use Rattle.gq_law_trails.specs.Walks.{end_of}
use Rattle.gq_hops.specs.Walking.{Walking}
use Rattle.gq_marks.specs.Marking.{bound_of}
use Rattle.gq_hops.specs.steps.Hops.{AreTables}
use Rattle.gq_hops.specs.steps.Searches.{IsOpen, IsRoomy, Run, kept_by, onto, rels_in, run_of}
use Rattle.gq_hops.specs.States.{is_standing}
use Rattle.gq_hops.specs.declared.search.Search.{Search}
use Rattle.gq_hops.specs.declared.state.State.{State}
use Rattle.gq_hops.specs.declared.state.State.TheVariants.{Fresh, Standing, Over}
use Rattle.gq_hops.specs.declared.walker.Walker.TheInside.{Inside}

abbrev pub owed_in : State → Run → Search → List (List RelId)
owed_in Fresh c s = kept_by c s
owed_in Standing c s = kept_by c s
owed_in Over c s = []

abbrev pub walking_of : Inside → Walking
walking_of w = record {
  course = (run_of w.run).course;
  bounds = w.run.bounds;
  owed = owed_in w.state (run_of w.run) w.search;
  rels = onto (rels_in (run_of w.run) w.search) w.search.depth [];
  standing = is_standing w.state;
}

-- the search stands at a walk
pub record IsAt (c : Run) (s : Search) : Type 0 where
  pub open_at : IsOpen c s
  pub ends : (at : Option NodeId) → end_of c.course.graph c.course.way at (onto (rels_in c s) s.depth []) ≡ Some s.last
  pub there : is_node c.course.graph s.last ≡ true

abbrev pub IsSought : State → Run → Search → Type 0
IsSought Fresh c s = IsOpen c s
IsSought Standing c s = IsAt c s
IsSought Over c s = Unit {0}

pub record IsReady (w : Inside) : Type 0 where
  pub tables : AreTables w.run.follow
  pub low : 1 ≤ w.run.low
  pub high : w.run.high ≤ 16
  pub bounds : AreBounds w.run.follow.graph.now w.run.follow.kind.now w.run.follow.way (bound_of w.run.bounds)
  pub room : IsRoomy w.search
  pub back : AreTables w.back
  pub back_graph : w.back.graph.now ≡ w.run.follow.graph.now
  pub back_kind : w.back.kind.now ≡ w.run.follow.kind.now
  pub back_way : opposite w.back.way ≡ w.run.follow.way
  pub aimed : (n : NodeId) → w.aimed ≡ Some n → bound_of w.run.bounds n ≡ 0
  pub sought : IsSought w.state (run_of w.run) w.search

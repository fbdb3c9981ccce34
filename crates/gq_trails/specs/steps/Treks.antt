-- Where the trails of a query are: for each trail that has a walk, the walk and what else its walker owes, the innermost first; and
-- what is owed.
use Rattle.std.specs.Prelude.{ℕ, List, [], ◌∷◌, ◌++◌, map, flat_map}
use Rattle.gq_base.specs.Plain.{Graph}
use Rattle.gq_base.specs.declared.RelId.{RelId}
use Rattle.gq_law_trails.specs.Trails.{Trailing, after_trails, arrivals, with_list}
use Rattle.gq_law_trails.specs.Walks.{end_of}
use Rattle.gq_plan.specs.declared.TrailPart.{TrailPart}
use Rattle.gq_plan.specs.Meaning.{Partial, look}

-- a trail whose turn has come: the trails after it, what is bound, and the walks before it
pub record Turn : Type 0 where
  pub part : TrailPart
  pub later : List TrailPart
  pub row : Partial
  pub walked : List (ℕ × List RelId)

-- a trail that has a walk, and the walks that are owed beside it
pub record Frame : Type 0 where
  pub turn : Turn
  pub rels : List RelId
  pub owed : List (List RelId)

module _ (g : Graph) (patterns : ℕ → List RelId) where
  -- the rows at the end of a walk
  abbrev pub met_by : Turn → List RelId → List Partial
  met_by t l = arrivals g t.part t.row (end_of g t.part.way (look t.row.nodes t.part.from) l)

  -- all ways to go on from a walk
  abbrev pub ways_by : Turn → List RelId → List Trailing
  ways_by t l = flat_map (λ b. map (with_list l) (after_trails g patterns t.later b ((t.part.clause, l) ∷ t.walked))) (met_by t l)

  -- what is owed, where so much is owed by the trail whose turn it is
  unfoldable pub around : List Frame → List Trailing → List Trailing
  around [] ms = ms
  around (f ∷ fs) ms = around fs (map (with_list f.rels) ms ++ flat_map (ways_by f.turn) f.owed)

-- the walks of the trails before, in front of those of others
unfoldable pub wrapped : List Frame → Trailing → Trailing
wrapped [] m = m
wrapped (f ∷ fs) m = wrapped fs (with_list f.rels m)

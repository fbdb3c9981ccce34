-- What a step puts into its group: the homes of what it binds, and columns more.
use Rattle.std.specs.Prelude.{◌<◌, ◌≤◌, ◌+◌, ℕ, true, false, not, All, Option, Some, None, List, [], ◌∷◌, ◌++◌, map, filter, length, slice_index_or, slice_set}
use Rattle.gq_group.specs.declared.home.Homes.{Homes}
use Rattle.gq_group.specs.declared.home.NodeHome.{NodeHome}
use Rattle.gq_group.specs.declared.home.NodeHome.TheVariants as node
use Rattle.gq_group.specs.declared.home.RelHome.{RelHome}
use Rattle.gq_group.specs.declared.home.RelHome.TheVariants as rel
use Rattle.gq_join.specs.Kept.{Held}
use Rattle.gq_plan.specs.Plans.{Step, Scan, Extend, Close, Join, Single}
use Rattle.gq_plan.specs.Soundness.{has_number}
use Rattle.gq_steps.specs.Levels.{Run, step_at}
use Rattle.gq_steps.specs.Groups.{group_at}
use Rattle.gq_homes.specs.declared.homes.Filling.{Filling}
use Rattle.gq_homes.specs.declared.homes.Leading.{Leading}
use Rattle.gq_steps.specs.declared.group_steps.GroupSteps.{GroupSteps}
use Rattle.gq_homes.specs.Homes.{is_forward, leading_of, filling_of, kept_of, IsHoused, AreHomes}

abbrev pub with_node_home : ℕ → NodeHome → Homes → Homes
with_node_home v o h = record { nodes = slice_set h.nodes v o; rels = h.rels }

abbrev pub with_rel_home : ℕ → RelHome → Homes → Homes
with_rel_home x o h = record { nodes = h.nodes; rels = slice_set h.rels x o }

-- what a column extension binds lives in a column with this number
abbrev pub with_column : Leading → ℕ → ℕ → Homes → Homes
with_column f to column h = with_rel_home f.rel (rel.Single f.from (is_forward f.direction)) (with_node_home to (node.Column f.group column) h)

-- the node variables of a build that are no keys
abbrev pub not_in : List ℕ → List ℕ → List ℕ
not_in keys vs = filter (λ v. not (has_number keys v)) vs

abbrev pub brought_by : List ℕ → Option Held → List ℕ
brought_by keys None = []
brought_by keys (Some b) = not_in keys b.nodes

-- variables have homes of their own, with numbers one after another
abbrev pub set_numbered : {X : Type 0} → (ℕ → X) → ℕ → List ℕ → List X → List X
set_numbered home n [] os = os
set_numbered home n (v ∷ vs) os = set_numbered home (n + 1) vs (slice_set os v (home n))

-- the node variables live in columns, from one with this number on, and each relationship variable at its place in the build
abbrev pub with_build : Option Held → List ℕ → ℕ → ℕ → Homes → Homes
with_build None keys i column h = h
with_build (Some b) keys i column h = record { nodes = set_numbered (node.Column i) column (not_in keys b.nodes) h.nodes; rels = set_numbered (rel.Kept i) 0 b.rels h.rels }

-- a step of a group with this number, with its build if it has one, puts there what it binds; a column more would have this number
abbrev pub housed : Option Held → ℕ → ℕ → Step → Homes → Homes
housed o i column (Scan v) h = with_node_home v (node.Item i) h
housed o i column (Extend false x from to way) h = with_rel_home x (rel.Listed i from (is_forward way)) (with_node_home to (node.Item i) h)
housed o i column (Extend true x from to way) h = with_column (leading_of i x from way) to column h
housed o i column (Close false x from to way) h = with_rel_home x (rel.Listed i from (is_forward way)) h
housed o i column (Close true x from to way) h = with_rel_home x (rel.Single from (is_forward way)) h
housed o i column (Single x from to way) h = with_rel_home x (rel.Single from (is_forward way)) h
housed o i column (Join side keys) h = with_build o keys i column h
housed o i column s h = h

-- the columns of these node variables, in the build of the step at a depth
abbrev pub fillings_of : ℕ → ℕ → List ℕ → List Filling
fillings_of i d vs = map (kept_of i d) vs

-- the columns with those of a step at a depth
abbrev pub with_filling : Option Held → ℕ → ℕ → Step → List Filling → List Filling
with_filling o i d (Extend true x from to way) fs = fs ++ filling_of i x from way ∷ []
with_filling o i d (Join side keys) fs = fs ++ fillings_of i d (brought_by keys o)
with_filling o i d s fs = fs

-- so has what the first steps of a group bind
pub record AreHoused (c : Run) (ss : List GroupSteps) (i d : ℕ) (fs : List Filling) (h : Homes) : Type 0 where
  pub homes : AreHomes c ss i d fs h
  pub here : (e : ℕ) → (group_at ss i).first ≤ e → e < d → IsHoused fs h i (step_at c e)

-- what a build keeps are variables that have homes
abbrev pub CanHouseBuild : Option Held → Homes → Type 0
CanHouseBuild None h = Unit {0}
CanHouseBuild (Some b) h = All (λ v. v < length h.nodes) b.nodes × All (λ x. x < length h.rels) b.rels

-- so are those that a step binds
abbrev pub CanHouse : Option Held → Homes → Step → Type 0
CanHouse o h (Scan v) = v < length h.nodes
CanHouse o h (Extend column x from to way) = (x < length h.rels) × (to < length h.nodes)
CanHouse o h (Close column x from to way) = x < length h.rels
CanHouse o h (Single x from to way) = x < length h.rels
CanHouse o h (Join side keys) = CanHouseBuild o h
CanHouse o h s = Unit {0}

-- the build of the step at a depth, if it has one
abbrev pub build_in : Run → ℕ → Option Held
build_in c d = slice_index_or c.builds d None

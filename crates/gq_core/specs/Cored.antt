-- When a program has the core of a query with trails: its variables first, the patterns and trails in that order, and the core's patterns.
use Rattle.std.specs.Prelude.{◌≡◌, Bool, true, Option, Some, None, List, is_some}
use Rattle.std.specs.List.{list_any}
use Rattle.gq_law_cuts.specs.Cuts.{core_first, core_size, cored_of, trailed_of}
use Rattle.gq_law_cuts.specs.Plain.{HaveNoTrail}
use Rattle.gq_law_cuts.specs.Shaped.{core_pattern_of}
use Rattle.gq_ast.specs.declared.Clause.{Clause}
use Rattle.gq_ast.specs.declared.Hop.{Hop}
use Rattle.gq_ast.specs.declared.Path.{Path}
use Rattle.gq_core.specs.declared.cored.Core.{Core}

-- a relationship of MATCH clauses is a trail
abbrev pub is_trail : Hop → Bool
is_trail h = is_some h.rel.trail

abbrev pub path_has_trail : Path → Bool
path_has_trail path = list_any is_trail path.hops

abbrev pub has_trail : List Clause → Bool
has_trail clauses = list_any (λ (c : Clause). list_any path_has_trail c.paths) clauses

-- a program has the core of MATCH clauses
pub record IsCore (clauses : List Clause) (core : Core) : Type 0 where
  pub order : core.order ≡ core_first (trailed_of clauses)
  pub nodes : core.nodes ≡ core_size clauses
  pub whole : core.whole ≡ cored_of clauses
  pub pattern : core.pattern ≡ core_pattern_of clauses

-- it has it exactly where there is a trail
abbrev pub HasCore : List Clause → Option Core → Type 0
HasCore clauses None = HaveNoTrail clauses
HasCore clauses (Some core) = (has_trail clauses ≡ true) × IsCore clauses core

-- Which way the trails of a query lead, as they are written (this project's profile).
use Rattle.std.specs.Prelude.{Bool, List, [], ◌∷◌, is_some, flat_map, if◌then◌else◌}
use Rattle.gq_law_cuts.specs.Cuts.{leads_right}
use Rattle.gq_ast.specs.declared.Clause.{Clause}
use Rattle.gq_ast.specs.declared.Hop.{Hop}
use Rattle.gq_ast.specs.declared.Path.{Path}

-- whether a trail's arrow leads from the node at its left to the one at its right; nothing of another relationship
abbrev pub hop_arrows : Hop → List Bool
hop_arrows h = if is_some h.rel.trail then leads_right h.rel.arrow ∷ [] else []

abbrev pub path_arrows : Path → List Bool
path_arrows path = flat_map hop_arrows path.hops

abbrev pub clause_arrows : Clause → List Bool
clause_arrows c = flat_map path_arrows c.paths

-- the same of all trails of MATCH clauses, in text order
abbrev pub trail_arrows : List Clause → List Bool
trail_arrows clauses = flat_map clause_arrows clauses

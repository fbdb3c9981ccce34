-- Clauses whose conjuncts are asked over a graph.
use Rattle.std.specs.Prelude.{◌≡◌, List}
use Rattle.std.specs.List.{AllByRecursion}
use Rattle.gq_base.specs.Plain.{Graph}
use Rattle.gq_eval.specs.Asked.{asked_of}
use Rattle.gq_optional.specs.declared.clause.Clause.{Clause}

-- a clause asks its conjuncts over a graph, and each of some clauses does
abbrev pub Asks : Graph → Clause → Type 0
Asks g c = c.conjuncts ≡ asked_of g c.part.now.conjuncts

abbrev pub AllAsk : Graph → List Clause → Type 0
AllAsk g cs = AllByRecursion (Asks g) cs

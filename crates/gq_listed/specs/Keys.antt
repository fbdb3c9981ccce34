-- What finds the value of a key.
use Rattle.std.specs.Prelude.{IfSome, List}
use Rattle.gq_base.specs.Plain.{Graph}
use Rattle.gq_cells.specs.declared.source.Source.{Source}
use Rattle.gq_eval.specs.Asked.{Asked, asked}
use Rattle.gq_expr.specs.declared.expr.Expr.{Expr}
use Rattle.gq_listed.specs.Finding.{IsFinder}
use Rattle.gq_listed.specs.declared.finder.Finder.{Finder}
use Rattle.gq_listed.specs.declared.keys.KeyFinder.{KeyFinder}

-- where it was made ready, it finds the values of this expression
abbrev pub FindsKey : Asked → KeyFinder → Type 0
FindsKey a k = IfSome k.finder (IsFinder k.cells.sources a)

-- it finds the values of some expression over a graph
abbrev pub FindsSome : Graph → List Source → Finder → Type 0
FindsSome g sources f = (e : Expr) × IsFinder sources (asked e g) f

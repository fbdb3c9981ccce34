use Rattle.std.proofs.Common.{◌≡◌, List, ℕ, take}
use Rattle.gq_bound.specs.Binding.{IsBound}
use Rattle.gq_execute.specs.Answering.{question}
use Rattle.gq_execute.specs.Planned.{sizes}
use Rattle.gq_execute.specs.steps.Answering.{Came, Spends}
use Rattle.gq_kept.specs.Tables.{StandsForSome}
use Rattle.gq_ast.specs.declared.Query.{Query}
use Rattle.gq_execute.proofs.answering.take_turns.Given as goal

abbrev pub invariant-alternatives : goal.invariant-alternatives
invariant-alternatives l = record {
  stats : l.stats ≡ sizes l.graph;
  graph : l.table.graph ≡ l.graph;
  bound : l.table.bound ≡ l.bound;
  most : l.table.most ≡ l.settings.rows;
  some : StandsForSome l.table;
  slots : l.pool.out ≡ l.initial.pool.out;
  spends : Spends l.graph l.bound l.settings.order (take l.typed-index l.bound.alternatives) l.table l.spent;
  came : (query : Query) (text : List ℕ) → IsBound query text l.graph.catalog l.bound
      → Came (question l.graph query l.bound l.settings) (take l.typed-index l.bound.alternatives) l.table;
}

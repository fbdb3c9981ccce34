-- Which statements cannot be bound: those whose query one of the binder's checks refuses (this project's profile).
use Rattle.std.specs.Prelude.{ℕ, List, Option, Some, None}
use Rattle.gq_base.specs.Catalogs.{Tables}
use Rattle.gq_bound.specs.Refusals.{first_refusal}
use Rattle.gq_bound.specs.declared.refusal.BindRefusal.{BindRefusal}
use Rattle.gq_ast.specs.declared.statement.Query.{Query}
use Rattle.gq_ast.specs.declared.statement.Statement.{Statement}
use Rattle.gq_ast.specs.declared.statement.Statement.TheVariants as statement

-- the query that a statement asks, or asks about
abbrev pub query_of : Statement → Option Query
query_of (statement.Query query) = Some query
query_of (statement.Plan query) = Some query
query_of (statement.Profile query) = Some query
query_of statement.Schema = None
query_of (statement.Param name value) = None

abbrev refusal_of_query : Option Query → List ℕ → Tables → Option BindRefusal
refusal_of_query (Some query) text catalog = first_refusal query text catalog
refusal_of_query None text catalog = None

-- the first check that refuses a statement of this text over a catalogue, or none
abbrev pub bind_refusal : Statement → List ℕ → Tables → Option BindRefusal
bind_refusal tree text catalog = refusal_of_query (query_of tree) text catalog

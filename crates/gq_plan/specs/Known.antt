-- Which variables are bound.
use Rattle.std.specs.Prelude.{ℕ, nat_eq, Bool, false, ◌||◌, slice_index_or}
use Rattle.gq_plan.specs.declared.variable.Variable.TheVariants.{Node as node, Rel as rel}
use Rattle.gq_plan.specs.declared.variable.Variable.{Variable}
use Rattle.std.specs.List.{list_all}
use Rattle.gq_expr.specs.declared.Expr.{Expr}
use Rattle.gq_plan.specs.Reads.{reads}
use Rattle.gq_plan.specs.declared.known.Known as code
use Rattle.gq_plan.specs.declared.known.VariableSet.{VariableSet}

-- the node variables and the relationship variables that are bound
pub record Known : Type 0 where
  pub nodes : ℕ → Bool
  pub rels : ℕ → Bool

-- the same of the program's sets
abbrev pub set_of : VariableSet → ℕ → Bool
set_of s v = slice_index_or s.marks v false

abbrev pub known_of : code.Known → Known
known_of k = record { nodes = set_of k.nodes; rels = set_of k.rels }

abbrev pub none : Known
none = record { nodes = λ v. false; rels = λ x. false }

abbrev pub with_node : ℕ → Known → Known
with_node v k = record { nodes = λ w. nat_eq w v || k.nodes w; rels = k.rels }

abbrev pub with_rel : ℕ → Known → Known
with_rel x k = record { nodes = k.nodes; rels = λ w. nat_eq w x || k.rels w }

-- what one of two knows
abbrev pub with_both : Known → Known → Known
with_both j k = record { nodes = λ v. j.nodes v || k.nodes v; rels = λ x. j.rels x || k.rels x }

abbrev pub is_bound : Known → Variable → Bool
is_bound k (node v) = k.nodes v
is_bound k (rel x) = k.rels x

-- all that an expression reads is bound
abbrev pub reads_bound : Known → Expr → Bool
reads_bound k e = list_all (λ r. is_bound k r.variable) (reads e)

-- The alternatives of the core of a query with trails: what they test, and what they leave until trails are walked.
use Rattle.std.specs.Prelude.{ℕ, suc, nat_lt, Bool, true, not, ◌&&◌, List, [], ◌∷◌, filter, if◌then◌else◌}
use Rattle.gq_base.specs.Catalogs.{Tables}
use Rattle.gq_expr.specs.Kinds.{can_fault}
use Rattle.gq_expr.specs.declared.Kinds.{Kinds}
use Rattle.gq_alternatives.specs.Alternatives.{Choice, typed_of, typed_rels}
use Rattle.gq_plan.specs.Known.{reads_bound}
use Rattle.gq_plan.specs.Soundness.{kinds_for}
use Rattle.gq_plan.specs.declared.NamedExpr.{NamedExpr}
use Rattle.gq_plan.specs.declared.Typed.{Typed}
use Rattle.gq_scopes.specs.Patterns.{Pattern}

-- a conjunct stays in the core where the node variables that it reads are among the first k
abbrev pub stays_in : ℕ → NamedExpr → Bool
stays_in k e = reads_bound (record { nodes = λ v. nat_lt v k; rels = λ x. true }) e.expr

-- an alternative tests the conjuncts that stay and cannot fault there
abbrev pub is_early : (NamedExpr → Bool) → Kinds → NamedExpr → Bool
is_early stays kinds e = stays e && not (can_fault kinds e.expr)

-- the numbers of the other conjuncts, from a number on
abbrev pub others_from : (NamedExpr → Bool) → ℕ → List NamedExpr → List ℕ
others_from early number [] = []
others_from early number (e ∷ es) =
    if early e then others_from early (suc number) es else number ∷ others_from early (suc number) es

-- an alternative of the core: as one of its pattern with the conjuncts that stay, and all other conjuncts are late
unfoldable pub core_typed : Tables → Pattern → (NamedExpr → Bool) → List NamedExpr → List NamedExpr → Choice → Typed
core_typed catalog p stays entries conjuncts c = record (typed_of catalog p entries (filter stays conjuncts) c) {
  late = others_from (is_early stays (kinds_for catalog c.tables (typed_rels p.rels c.readings))) 0 conjuncts;
}

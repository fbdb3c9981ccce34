-- What a tree and each conjunct of a condition reads is there: variables that its scope has.
use Rattle.std.proofs.Common.{◌≡◌, ℕ, ◌<◌, ◌≤◌, Option, Some, List, [], length, arith}
use Rattle.std.specs.List.{AllByRecursion}
use Rattle.gq_base.proofs.ListFacts.{found_within}
use Rattle.gq_plan.specs.Reads.{Read, reads}
use Rattle.gq_scopes.specs.Patterns.{Name, is_called, find_name}
use Rattle.gq_scopes.specs.Scopes.{Scope}
use Rattle.gq_scopes.specs.steps.Variables.{IsThere}
use Rattle.gq_ast.specs.declared.Ast.{Ast}
use Rattle.gq_resolve.proofs.ReadsFit.{AllFit, IfFit, conjuncts_fit}
use Rattle.gq_resolve.specs.Resolving.{Conjunct, functions, split}

-- reads of variables that there are, of so many of nodes and so many of relationships
abbrev pub AllThere : ℕ → ℕ → List Read → Type 0
AllThere n m rs = AllFit (IsThere n m) rs

-- what is read is there, if something is there to read
abbrev pub AreThere : {A : Type 0} → ℕ → ℕ → (A → List Read) → Option A → Type 0
AreThere n m f o = IfFit (IsThere n m) f o

-- what a conjunct reads is there
abbrev pub IsRead : ℕ → ℕ → Conjunct → Type 0
IsRead n m c = AreThere n m reads c.expr

name_there : (names : List (Option Name)) (name : Name) (k v : ℕ) → length names ≤ k → find_name names name ≡ Some v → v < k
name_there names name k v h e = let low : v < length names = found_within (is_called name) names v e in omega arith

-- each conjunct of a condition reads only what its scope has
pub conjuncts_read : (n m : ℕ) (s : Scope) → s.columns ≡ [] → length s.nodes ≤ n → length s.rels ≤ m → (t : Ast) → AllByRecursion (IsRead n m) (split functions s t).conjuncts
conjuncts_read n m s no_columns nodes rels t =
    conjuncts_fit (IsThere n m) s no_columns (λ name v e. name_there s.nodes name n v nodes e) (λ name x e. name_there s.rels name m x rels e) t

-- What an expression reads: variables, and properties of variables.
use Rattle.std.specs.Prelude.{ℕ, nat_eq, Bool, true, false, not, ◌&&◌, Option, Some, None, List, [], ◌∷◌, ◌++◌, filter, flat_map, if◌then◌else◌}
use Rattle.std.specs.List.{list_any}
use Rattle.std.specs.Cmp.Lexicographic.{pointwise}
use Rattle.gq_expr.specs.declared.Expr.{Expr, Expr-F, fold-Expr}
use Rattle.gq_expr.specs.declared.Tester.{Tester}
use Rattle.gq_expr.specs.declared.Tester.TheVariants as tester
use Rattle.gq_plan.specs.declared.read.Read as code
use Rattle.gq_plan.specs.declared.variable.Variable.{Variable}
use Rattle.gq_plan.specs.declared.variable.Variable.TheVariants.{Node as node, Rel as rel}

abbrev pub same_variable : Variable → Variable → Bool
same_variable (node m) (node n) = nat_eq m n
same_variable (rel m) (rel n) = nat_eq m n
same_variable v w = false

-- a variable, or a property of a variable
abbrev pub Read : Type 0
Read = code.Read

abbrev pub same_property : Option (List ℕ) → Option (List ℕ) → Bool
same_property None None = true
same_property (Some k) (Some l) = pointwise nat_eq k l
same_property k l = false

abbrev pub same_read : Read → Read → Bool
same_read q r = same_variable q.variable r.variable && same_property q.property r.property

abbrev pub whole : Variable → Read
whole v = record { variable = v; property = None }

abbrev pub property : Variable → List ℕ → Read
property v name = record { variable = v; property = Some name }

abbrev pub tester_reads : Tester (List Read) → List Read
tester_reads tester.IsNull = []
tester_reads tester.IsNotNull = []
tester_reads (tester.Member ls) = []
tester_reads (tester.Text test rs) = rs

-- one level of an expression, by what its parts read
abbrev pub reads_step : Expr-F (List Read) → List Read
reads_step (Expr-F.Literal l) = []
reads_step (Expr-F.Node n) = whole (node n) ∷ []
reads_step (Expr-F.Rel n) = whole (rel n) ∷ []
reads_step (Expr-F.NodeProperty n name) = property (node n) name ∷ []
reads_step (Expr-F.RelProperty n name) = property (rel n) name ∷ []
reads_step (Expr-F.TypeName rs) = rs
reads_step (Expr-F.Coalesce rss) = flat_map (λ rs. rs) rss
reads_step (Expr-F.Negate rs) = rs
reads_step (Expr-F.Plus rs) = rs
reads_step (Expr-F.Not rs) = rs
reads_step (Expr-F.Or rss) = flat_map (λ rs. rs) rss
reads_step (Expr-F.Xor rss) = flat_map (λ rs. rs) rss
reads_step (Expr-F.And rss) = flat_map (λ rs. rs) rss
reads_step (Expr-F.Compare rs ts) = rs ++ flat_map (λ t. t.expr) ts
reads_step (Expr-F.Test rs ts) = rs ++ flat_map tester_reads ts
reads_step (Expr-F.Arith rs ts) = rs ++ flat_map (λ t. t.expr) ts

-- what an expression reads, from left to right
unfoldable pub reads : Expr → List Read
reads = fold-Expr (List Read) reads_step

abbrev pub is_property : Option (List ℕ) → Bool
is_property None = false
is_property (Some name) = true

-- the properties among reads
abbrev pub properties : List Read → List Read
properties rs = filter (λ r. is_property r.property) rs

-- each of these once, the first of its like
abbrev pub distinct : List Read → List Read
distinct [] = []
distinct (r ∷ rs) = r ∷ filter (λ q. not (same_read r q)) (distinct rs)

-- a read behind others, unless it stands there
abbrev pub with_read : List Read → Read → List Read
with_read rs r = if list_any (λ q. same_read q r) rs then rs else rs ++ r ∷ []

abbrev pub with_reads : List Read → List Read → List Read
with_reads rs [] = rs
with_reads rs (q ∷ qs) = with_reads (with_read rs q) qs

-- the properties that an expression reads, from left to right
abbrev pub properties_of : Expr → List Read
properties_of e = properties (reads e)

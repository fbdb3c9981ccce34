-- A comparison of two text properties that is true: they are known, and one text.
use Rattle.std.proofs.Common.{◌≡◌, ◌∷◌, [], ℕ, ℤ, Bool, true, false, List, Option, Some, None, Ok, map, refl, sym, ap, ◌∙◌, subst, slice_get, true≢false}
use Rattle.std.specs.Ordering.{is_eq, nat_cmp}
use Rattle.std.specs.Cmp.Lexicographic.{slice_cmp}
use Rattle.std.specs.declared.cmp.Ordering.{Ordering}
use Rattle.std.specs.declared.cmp.Ordering.TheVariants.{Less, Equal as same, Greater}
use Rattle.std.proofs.lemmas.Map.Lookups.{exact_bytes}
use Rattle.gq_base.specs.Plain.{Graph}
use Rattle.gq_base.specs.Results.{and_then}
use Rattle.gq_base.specs.Truth.{and3}
use Rattle.gq_base.specs.Values.{Val, null, flag, int, str, node, rel, equal_vals}
use Rattle.gq_base.specs.declared.Kind.TheVariants.{Str as string}
use Rattle.gq_base.specs.declared.operator.CompareOp.TheVariants.{Equal as equal}
use Rattle.gq_expr.proofs.Equations.{meaning_Compare, meaning_NodeProperty}
use Rattle.gq_expr.specs.Meaning.{compare_chain, meaning}
use Rattle.gq_expr.specs.Operators.{compare_vals, of_truth}
use Rattle.gq_expr.specs.Reading as reading
use Rattle.gq_expr.specs.Reading.{node_property, property_at}
use Rattle.gq_expr.specs.declared.expr.Expr.TheVariants.{Compare, NodeProperty}
use Rattle.gq_expr.specs.steps.Parts.{operand_with}
use Rattle.gq_dict.specs.Texts.{IsAscending}
use Rattle.gq_filter.proofs.Deciding.{passes_is}
use Rattle.gq_filter.proofs.RowLanes.{node_text}
use Rattle.gq_filter.specs.Cells.{IsInLane}
use Rattle.gq_filter.specs.Deciding.{wanted}
use Rattle.gq_filter.specs.Equal.{cell_if, node_cell}
use Rattle.gq_filter.specs.declared.equalities.NodeColumn.{NodeColumn}
use Rattle.gq_filter.specs.declared.source.Feed.{Feed}
use Rattle.gq_filter.specs.steps.RowCells.{IsNodeFeedIn, cell_in}
use Rattle.gq_plan.specs.Conditions.{passes}
use Rattle.gq_plan.specs.Rows.{as_read}
use Rattle.gq_plan.specs.declared.assignment.Assignment.{Assignment}
use Rattle.gq_plan.specs.declared.bound.NamedExpr.{NamedExpr}
use Rattle.gq_plan.specs.declared.typed.Typed.{Typed}
use Rattle.gq_store.specs.Columns.{IsCode}
use Rattle.gq_same_texts.specs.Same.{IsCellOf}

-- the cell of a property of a node
same_cell : (c : NodeColumn) (o : Option ℕ) → cell_in c.column.now o ≡ cell_if c o
same_cell c None = refl
same_cell c (Some r) = refl

pub text_cell : (g : Graph) (y : Typed) (feed : Feed) (f : IsNodeFeedIn g y feed) (c : NodeColumn) → c.node ≡ f.variable → c.column.now ≡ feed.property.now.column → feed.property.now.kind ≡ string → (row : Assignment)
    → IsInLane string feed.property.now.dict (property_at (node_property g) ((as_read y row).nodes f.variable) f.name) (node_cell c row)
text_cell g y feed f c node_is column_is of row =
    let v = property_at (node_property g) ((as_read y row).nodes f.variable) f.name in
    subst (λ k. IsInLane k feed.property.now.dict v (node_cell c row)) of
    (subst (IsInLane feed.property.now.kind feed.property.now.dict v)
    (ap (λ n. cell_in feed.property.now.column (slice_get row.nodes n)) (sym node_is) ∙ ap (λ cells. cell_in cells (slice_get row.nodes c.node)) (sym column_is) ∙ same_cell c (slice_get row.nodes c.node))
    (node_text g y feed f row))

-- a value that is a text, and its cell the code of it
record IsKnownAs (dict : List (List ℕ)) (v : Val) (cell : Option ℤ) : Type 0 where
  text : List ℕ
  is : v ≡ str text
  value : ℤ
  known : cell ≡ Some value
  code : IsCode dict text value

-- a value of texts is null, or a text
known_as : (dict : List (List ℕ)) (v w : Val) (cell : Option ℤ) → IsInLane string dict v cell → wanted true (equal_vals v w) ≡ true → IsKnownAs dict v cell
known_as dict null w cell is one = absurd (true≢false (sym one))
known_as dict (str text) w cell is one = record { text = text; is = refl; value = is.0; known = is.1; code = is.2 }
known_as dict (int z) w cell is one = absurd is
known_as dict (flag b) w cell is one = absurd is
known_as dict (node n) w cell is one = absurd is
known_as dict (rel r) w cell is one = absurd is

second_as : (dict : List (List ℕ)) (s : List ℕ) (w : Val) (cell : Option ℤ) → IsInLane string dict w cell → wanted true (equal_vals (str s) w) ≡ true → IsKnownAs dict w cell
second_as dict s null cell is one = absurd (true≢false (sym one))
second_as dict s (str text) cell is one = record { text = text; is = refl; value = is.0; known = is.1; code = is.2 }
second_as dict s (int z) cell is one = absurd is
second_as dict s (flag b) cell is one = absurd is
second_as dict s (node n) cell is one = absurd is
second_as dict s (rel r) cell is one = absurd is

same_bytes : (s t : List ℕ) → wanted true (equal_vals (str s) (str t)) ≡ true → s ≡ t
same_bytes s t one = go (slice_cmp nat_cmp s t) refl one
  where
    go : (o : Ordering) → slice_cmp nat_cmp s t ≡ o → wanted true (Some (is_eq o)) ≡ true → s ≡ t
    go Less e h = absurd (true≢false (sym h))
    go same e h = exact_bytes s t e
    go Greater e h = absurd (true≢false (sym h))

-- two values that are equal are one text
pub one_text : (from to : List (List ℕ)) (v w : Val) (left right : Option ℤ) → IsAscending from → IsAscending to → IsInLane string from v left → IsInLane string to w right → wanted true (equal_vals v w) ≡ true
    → (text : List ℕ) × IsCellOf from text left × IsCellOf to text right
one_text from to v w left right up high l r one =
    let a = known_as from v w left l one in
    let now : wanted true (equal_vals (str a.text) w) ≡ true = ap (λ u. wanted true (equal_vals u w)) (sym a.is) ∙ one in
    let b = second_as to a.text w right r now in
    let bytes : a.text ≡ b.text = same_bytes a.text b.text (ap (λ u. wanted true (equal_vals (str a.text) u)) (sym b.is) ∙ now) in (
      a.text,
      record { ascending = up; value = a.value; known = a.known; code = a.code },
      record { ascending = high; value = b.value; known = b.known; code = subst (λ t. IsCode to t b.value) (sym bytes) b.code },
    )

-- a comparison of two properties
asked : (g : Graph) (row : reading.Assignment) (m n : ℕ) (a b : List ℕ) →
    meaning g row (Compare (NodeProperty m a) (record { op = equal; expr = NodeProperty n b } ∷ [])) ≡ Ok (of_truth (and3 (Some true) (equal_vals (property_at (node_property g) (row.nodes m) a) (property_at (node_property g) (row.nodes n) b))))
asked g row m n a b =
    let left = property_at (node_property g) (row.nodes m) a in
    meaning_Compare g row (NodeProperty m a) (record { op = equal; expr = NodeProperty n b } ∷ [])
    ∙ ap (λ o. and_then o (λ v. compare_chain (Some true) v (map (operand_with (meaning g row)) (record { op = equal; expr = NodeProperty n b } ∷ [])))) (meaning_NodeProperty g row m a)
    ∙ ap (λ o. and_then o (λ v. Ok (of_truth (and3 (Some true) (compare_vals equal left v))))) (meaning_NodeProperty g row n b)

true_and : (t : Option Bool) → and3 (Some true) t ≡ t
true_and None = refl
true_and (Some true) = refl
true_and (Some false) = refl

-- where the condition is true, they are equal
pub passes_equal : (g : Graph) (row : reading.Assignment) (condition : NamedExpr) (m n : ℕ) (a b : List ℕ) → condition.expr ≡ Compare (NodeProperty m a) (record { op = equal; expr = NodeProperty n b } ∷ []) → passes g row condition ≡ true
    → wanted true (equal_vals (property_at (node_property g) (row.nodes m) a) (property_at (node_property g) (row.nodes n) b)) ≡ true
passes_equal g row condition m n a b expr is =
    let truth = equal_vals (property_at (node_property g) (row.nodes m) a) (property_at (node_property g) (row.nodes n) b) in
    ap (wanted true) (sym (true_and truth))
    ∙ passes_is g row condition (and3 (Some true) truth) (ap (meaning g row) expr ∙ asked g row m n a b)
    ∙ is

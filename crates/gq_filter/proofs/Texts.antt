-- What a test of a text tells of a condition.
use Rattle.std.proofs.Common.{◌≡◌, ◌∙◌, ◌∷◌, ◌<◌, [], refl, sym, ap, subst, ℕ, ℤ, pos, Bool, true, false, cond, List, Option, Some, None, Ok, length, map, is_some}
use Rattle.std.specs.Prelude.{slice_get}
use Rattle.std.proofs.lemmas.Bool.{lt-ltb, false≢true}
use Rattle.gq_base.specs.Plain.{Graph}
use Rattle.gq_base.specs.Results.{and_then}
use Rattle.gq_base.specs.Values.{Val, null, flag, int, str, node, rel}
use Rattle.gq_base.specs.declared.Kind.TheVariants as kind
use Rattle.gq_base.specs.declared.Literal.TheVariants as spelled
use Rattle.gq_expr.proofs.Equations.{meaning_Literal, meaning_NodeProperty, meaning_Test}
use Rattle.gq_expr.specs.Meaning.{meaning, test_chain}
use Rattle.gq_expr.specs.Operators.{of_truth, text_vals}
use Rattle.gq_base.specs.declared.operator.TextTest.TheVariants as ask
use Rattle.gq_expr.specs.Reading as reading
use Rattle.gq_expr.specs.Reading.{property_at, node_property}
use Rattle.gq_expr.specs.declared.expr.Expr.TheVariants.{NodeProperty, Test}
use Rattle.gq_expr.specs.steps.Parts.{tester_with}
use Rattle.gq_plan.specs.Conditions.{passes}
use Rattle.gq_plan.specs.Rows.{as_read}
use Rattle.gq_plan.specs.declared.assignment.Assignment.{Assignment}
use Rattle.gq_plan.specs.declared.bound.NamedExpr.{NamedExpr}
use Rattle.gq_plan.specs.declared.typed.Typed.{Typed}
use Rattle.gq_filter.proofs.Deciding.{passes_is}
use Rattle.gq_filter.proofs.RowLanes.{node_text}
use Rattle.gq_filter.specs.Cells.{IsInLane}
use Rattle.gq_filter.specs.Deciding.{wanted}
use Rattle.gq_filter.specs.declared.source.Feed.{Feed}
use Rattle.gq_filter.specs.declared.text_test.Part.{Part}
use Rattle.gq_filter.specs.declared.text_test.Part.TheVariants.{End, Inner}
use Rattle.gq_filter.specs.declared.text_test.PartTest.{PartTest}
use Rattle.gq_filter.specs.steps.RowCells.{IsNodeFeedIn, cell_in}
use Rattle.gq_filter.specs.steps.Texts.{code_in, coded_passes, is_in, tester_of, text_passes, TextDecides}

-- whether a value has a part
abbrev part_vals : Part → Val → Option Bool
part_vals (End part) v = text_vals ask.Ends v (str part.now)
part_vals (Inner part) v = text_vals ask.Contains v (str part)

none_has : (part : Part) → wanted true (part_vals part null) ≡ false
none_has (End part) = refl
none_has (Inner part) = refl

text_has : (part : Part) (s : List ℕ) → is_in part s ≡ wanted true (part_vals part (str s))
text_has (End part) s = refl
text_has (Inner part) s = refl

within_count : (code count : ℕ) → code < count → code_in count (Some (pos code)) ≡ Some code
within_count code count low = ap (λ b. cond b (Some code) None) (lt-ltb code count low)

lane_has : (dict : List (List ℕ)) (part : Part) (v : Val) (c : Option ℤ) → IsInLane kind.Str dict v c → coded_passes dict part (code_in (length dict) c) ≡ wanted true (part_vals part v)
lane_has dict part null c is = ap (λ o. coded_passes dict part (code_in (length dict) o)) is ∙ sym (none_has part)
lane_has dict part (str s) c is =
    let (z, at, coded) = is in
    ap (λ o. coded_passes dict part (code_in (length dict) o)) (at ∙ ap Some coded.is)
    ∙ ap (coded_passes dict part) (within_count coded.code (length dict) coded.within)
    ∙ ap (is_in part) coded.text_is ∙ text_has part s
lane_has dict part (int z) c is = absurd is
lane_has dict part (flag b) c is = absurd is
lane_has dict part (node n) c is = absurd is
lane_has dict part (rel r) c is = absurd is

asked : (g : Graph) (row : reading.Assignment) (v : ℕ) (name : List ℕ) (part : Part) →
    meaning g row (Test (NodeProperty v name) (tester_of part ∷ [])) ≡ Ok (of_truth (part_vals part (property_at (node_property g) (row.nodes v) name)))
asked g row v name part =
    meaning_Test g row (NodeProperty v name) (tester_of part ∷ [])
    ∙ ap (λ o. and_then o (λ x. test_chain x (map (tester_with (meaning g row)) (tester_of part ∷ [])))) (meaning_NodeProperty g row v name) ∙ by part
  where
    value : Val
    value = property_at (node_property g) (row.nodes v) name

    by : (p : Part) → test_chain value (map (tester_with (meaning g row)) (tester_of p ∷ [])) ≡ Ok (of_truth (part_vals p value))
    by (End p) = ap (λ o. and_then (and_then o (λ b. Ok (of_truth (text_vals ask.Ends value b)))) (λ b. Ok b)) (meaning_Literal g row (spelled.Str p.now))
    by (Inner p) = ap (λ o. and_then (and_then o (λ b. Ok (of_truth (text_vals ask.Contains value b)))) (λ b. Ok b)) (meaning_Literal g row (spelled.Str p))

pub text_decides : (g : Graph) (y : Typed) (condition : NamedExpr) (feed : Feed) (part : Part) (f : IsNodeFeedIn g y feed) → condition.expr ≡ Test (NodeProperty f.variable f.name) (tester_of part ∷ []) → feed.property.now.kind ≡ kind.Str →
    (row : Assignment) → text_passes (record { variable = f.variable; property = feed.property; part = part }) row ≡ passes g (as_read y row) condition
text_decides g y condition feed part f expr of row =
    let at = as_read y row in
    let value = property_at (node_property g) (at.nodes f.variable) f.name in
    let cell = cell_in feed.property.now.column (slice_get row.nodes f.variable) in
    lane_has feed.property.now.dict part value cell (subst (λ k. IsInLane k feed.property.now.dict value cell) of (node_text g y feed f row))
    ∙ passes_is g at condition (part_vals part value) (ap (meaning g at) expr ∙ asked g at f.variable f.name part)

-- what a test of a text decides hangs on the rows alone
pub text_alone : (g : Graph) (y : Typed) (condition : NamedExpr) (test : Option PartTest) → is_some test ≡ true → TextDecides g y condition test → (old new : Assignment) → old.nodes ≡ new.nodes →
    passes g (as_read y old) condition ≡ passes g (as_read y new) condition
text_alone g y condition None some decides old new same = absurd (false≢true some)
text_alone g y condition (Some t) some decides old new same =
    sym (decides old)
    ∙ ap (λ rows. coded_passes t.property.now.dict t.part (code_in (length t.property.now.dict) (cell_in t.property.now.column (slice_get rows t.variable)))) same ∙ decides new

-- Codes that are tried ahead of the rows.
use Rattle.std.proofs.Common.{◌≡◌, ◌≤◌, ◌<◌, ◌+◌, ◌-◌, ◌∙◌, refl, sym, ap, ℕ, List, Bool, Option, Some, None, true, false, cond, length, take, subst, inl, inr, arith}
use Rattle.std.specs.Prelude.{◌&&◌, IfSome, slice_get, slice_set}
use Rattle.std.proofs.lemmas.Bool.{cases_eq, cases_lt}
use Rattle.std.proofs.lemmas.List.{get_or-append_right, get_or-set_other, get_or-set_same, get_or-take, get_or_append_left, length-append, length-take}
use Rattle.gq_base.specs.Plain.{Graph}
use Rattle.gq_bits.specs.Places.{is_marked}
use Rattle.gq_bits.specs.declared.TheConstants.{VECTOR}
use Rattle.gq_dict.specs.Texts.{text_at}
use Rattle.gq_plan.specs.Conditions.{passes}
use Rattle.gq_plan.specs.Rows.{as_read}
use Rattle.gq_plan.specs.declared.assignment.Assignment.{Assignment}
use Rattle.gq_plan.specs.declared.bound.NamedExpr.{NamedExpr}
use Rattle.gq_plan.specs.declared.typed.Typed.{Typed}
use Rattle.gq_row_sets.specs.Rows.{RowsTold, also_told, next_end, nothing_told}
use Rattle.gq_filter.proofs.Spanned.{put_in}
use Rattle.gq_filter.specs.Rows.{row_in, with_row}
use Rattle.gq_filter.specs.declared.rows.Rows.{Rows}
use Rattle.gq_filter.specs.declared.text_test.Part.{Part}
use Rattle.gq_filter.specs.declared.text_test.PartTest.{PartTest}
use Rattle.gq_filter.specs.steps.RowCells.{cell_in}
use Rattle.gq_filter.specs.steps.Texts.{AreKnown, IsKnown, TextDecides, code_in, coded_passes, is_in, row_passes}

-- the texts of the first so many codes from one on were tried
module _ (part : Part) (dict : List (List ℕ)) (low : ℕ) where
  pub record AreTried (n : ℕ) (marks : List Bool) : Type 0 where
    pub whole : length marks ≡ VECTOR
    pub done : (k : ℕ) → k < n → is_marked marks k ≡ is_in part (text_at dict (low + k))

  pub tried_more : (n : ℕ) (marks new : List Bool) (has : Bool) → AreTried n marks → n < VECTOR → new ≡ slice_set marks n has → length new ≡ VECTOR → has ≡ is_in part (text_at dict (low + n)) → AreTried (n + 1) new
  tried_more n marks new has s inside written whole is = record {
    whole = whole;
    done = λ k lt. ap (λ m. is_marked m k) written ∙ elim (cases_eq k n) [
      | inl same ↦
          ap (is_marked (slice_set marks n has)) same ∙ get_or-set_same marks n has false (omega (arith, inside, s.whole)) ∙ is
          ∙ ap (λ i. is_in part (text_at dict (low + i))) (sym same)
      | inr other ↦ get_or-set_other marks n k has false other ∙ s.done k (omega (arith, lt, other))
    ];
  }

-- of no code it is told
pub known_none : (test : Option PartTest) (codes : ℕ) (s : RowsTold) → IfSome test (λ t. codes ≤ length t.property.now.dict) → s ≡ nothing_told codes → AreKnown test s
known_none None codes s few is = tt
known_none (Some t) codes s few is = subst (IsKnown t) (sym is) (record { few = few; tells = λ code lt. absurd (omega (arith, lt)) })

-- without a code there is always room
pub no_codes : (test : Option PartTest) → IfSome test (λ t. 0 ≤ length t.property.now.dict)
no_codes None = tt
no_codes (Some t) = omega arith

pub all_codes : (test : Option PartTest) (codes : ℕ) → IfSome test (λ t. codes ≡ length t.property.now.dict) → IfSome test (λ t. codes ≤ length t.property.now.dict)
all_codes None codes is = tt
all_codes (Some t) codes is = omega (arith, is)

-- the next piece, which was tried, and of which it may be told
pub known_tried : (t : PartTest) (old : RowsTold) → IsKnown t old → (low high : ℕ) → low ≡ length old.told → high ≡ next_end old → (marks : List Bool)
    → ((k : ℕ) → k < high - low → is_marked marks k ≡ is_in t.part (text_at t.property.now.dict (low + k)))
    → (told : Bool) (new : RowsTold) → new ≡ cond told (also_told old marks) old → IsKnown t new
known_tried t old known low high from upto marks tried false new is = subst (IsKnown t) (sym is) known
known_tried t old known low high from upto marks tried true new is =
    subst (IsKnown t) (sym is) (record {
      few = known.few;
      tells = λ code lt. elim (cases_lt code (length old.told)) [
        | inl early ↦ get_or_append_left old.told (take (next_end old - length old.told) marks) false code early ∙ known.tells code early
        | inr late ↦
            (let k : ℕ = code - length old.told in
            let both = length-append old.told (take (next_end old - length old.told) marks) in
            let part = length-take (next_end old - length old.told) marks in
            let below : k < next_end old - length old.told = omega (arith, lt, late, both, part) in
            let there : low + k ≡ code = omega (arith, late, from) in
            get_or-append_right old.told (take (next_end old - length old.told) marks) (length old.told) code false refl late
            ∙ get_or-take (next_end old - length old.told) marks k false below ∙ tried k (omega (arith, below, from, upto))
            ∙ ap (λ c. is_in t.part (text_at t.property.now.dict c)) there)
      ];
    })

-- what the loop over rows of the text's own variable keeps
pub rows_kept : (g : Graph) (y : Typed) (condition : NamedExpr) (t : PartTest) → TextDecides g y condition (Some t) → (variable : ℕ) → t.variable ≡ variable → (row : Assignment) → variable < length row.nodes →
    (rows : Rows) (old new : List Bool) → ((k : ℕ) → is_marked new k ≡ (is_marked old k && row_passes t (row_in rows k))) →
    (k : ℕ) → is_marked new k ≡ (is_marked old k && passes g (as_read y (with_row variable (row_in rows k) row)) condition)
rows_kept g y condition t decides variable of row inside rows old new kept k =
    let there = ap (slice_get (slice_set row.nodes variable (row_in rows k))) of ∙ put_in row.nodes variable (row_in rows k) inside in
    let cell = ap (λ o. coded_passes t.property.now.dict t.part (code_in (length t.property.now.dict) (cell_in t.property.now.column o))) there in
    kept k ∙ ap (λ b. is_marked old k && b) (sym cell ∙ decides (with_row variable (row_in rows k) row))

-- The first row of each class, held as a set of columns and keys one row after another.
use Rattle.std.proofs.Common.{◌≡◌, ℕ, ◌+◌, ◌<◌, ◌≤◌, Bool, true, false, true≢false, List, [], ◌∷◌, ◌++◌, length, map, take, suc, not, Ok, Result, Some, refl, sym, ap, ◌∙◌, subst, arith, length-append, append-nil}
use Rattle.std.specs.Prelude.{Option, flat_map, ◌||◌, if◌then◌else◌}
use Rattle.std.specs.List.{list_any, All, take-map}
use Rattle.std.proofs.lemmas.List.{length-map, map-append, take_at}
use Rattle.std.proofs.lemmas.List.Elements.{All-append, All-cons}
use Rattle.std.proofs.lemmas.Grind.{flat_map-append}
use Rattle.gq_base.specs.Values.{Val, val}
use Rattle.gq_base.specs.declared.Value.{Value}
use Rattle.gq_classes.specs.Rows.{AreWide, has_row, same_values, with_row}
use Rattle.gq_expr.specs.declared.Fault.{Fault}
use Rattle.gq_plan.specs.Outcomes.{Row}
use Rattle.gq_plan.specs.declared.bound.Bound.{Bound}
use Rattle.gq_kept.specs.Answers.{classes, same_row}
use Rattle.gq_kept.specs.Forms.{IsNoFault, more_rows}
use Rattle.gq_values.specs.Keeping.{KeepsClasses, held_of, HoldsOf}
use Rattle.gq_kept.specs.Tables.{HoldsClasses, IsSized}
use Rattle.gq_values.specs.declared.held.Rows.{Rows}
use Rattle.gq_kept.proofs.Classes.{classes_more}
use Rattle.std.proofs.lemmas.List.Folds.{flat_map-map}

-- the keys that were there before
pub first-keys : (n : ℕ) (old new : List Value) (more : List Val) → n ≡ length old → map val new ≡ map val old ++ more → map val (take n new) ≡ map val old
first-keys n old new more e whole = sym (take-map val n new) ∙ ap (take n) whole ∙ take_at (map val old) more n (length-map old val ∙ sym e)

module _ (b : Bound) (most : ℕ) where
  pub held-again : (old new : Rows) (row : Row) (rows : List Row) → list_any (same_row row) (classes rows) ≡ true → new.seen ≡ old.seen
      → map val new.keys.items ≡ map val old.keys.items → new.count ≡ old.count → KeepsClasses b most rows old → KeepsClasses b most (rows ++ row ∷ []) new
  held-again old new row rows known seen keys count k =
      let h = k.holds in
      let e : classes (rows ++ row ∷ []) ≡ classes rows = classes_more rows row ∙ ap (λ c. if c then classes rows else classes rows ++ row ∷ []) known in
      record {
        holds = record {
          columns = seen ∙ h.columns ∙ ap (map (λ (r : Row). r.columns)) (sym e);
          keys = keys ∙ h.keys ∙ ap (flat_map (λ (r : Row). r.keys)) (sym e);
          count = count ∙ h.count ∙ ap length (sym e);
          sized = subst (All (IsSized (length b.columns) (length b.keys))) (sym e) h.sized;
        };
        few = subst (λ (l : List Row). length l ≤ most) (sym e) k.few;
      }

  added-class : (row : Row) (rows : List Row) → list_any (same_row row) (classes rows) ≡ false → classes (rows ++ row ∷ []) ≡ classes rows ++ row ∷ []
  added-class row rows fresh = classes_more rows row ∙ ap (λ c. if c then classes rows else classes rows ++ row ∷ []) fresh

  pub held-new : (old new : Rows) (row : Row) (rows : List Row) → list_any (same_row row) (classes rows) ≡ false
      → new.seen ≡ old.seen ++ row.columns ∷ [] → map val new.keys.items ≡ map val old.keys.items ++ row.keys → new.count ≡ old.count + 1 → IsSized (length b.columns) (length b.keys) row → old.count < most
      → KeepsClasses b most rows old → KeepsClasses b most (rows ++ row ∷ []) new
  held-new old new row rows fresh seen keys count size room k =
      let h = k.holds in
      let e = added-class row rows fresh in
      let firsts = classes rows in
      record {
        holds = record {
          columns = seen ∙ ap (λ l. l ++ row.columns ∷ []) h.columns ∙ sym (map-append (λ (r : Row). r.columns) firsts (row ∷ [])) ∙ ap (map (λ (r : Row). r.columns)) (sym e);
          keys = keys ∙ ap (λ l. l ++ row.keys) h.keys ∙ ap (λ l. flat_map (λ (r : Row). r.keys) firsts ++ l) (sym (append-nil row.keys)) ∙ sym (flat_map-append (λ (r : Row). r.keys) firsts (row ∷ [])) ∙ ap (flat_map (λ (r : Row). r.keys)) (sym e);
          count = omega (arith, count, h.count, ap length e, length-append firsts (row ∷ []));
          sized = subst (All (IsSized (length b.columns) (length b.keys))) (sym e) (All-append (IsSized (length b.columns) (length b.keys)) firsts (row ∷ []) h.sized (All-cons (IsSized (length b.columns) (length b.keys)) row [] size (λ k d lt. absurd (omega (arith, lt)))));
        };
        few = omega (arith, room, h.count, ap length e, length-append firsts (row ∷ []));
      }

  pub class-over : (old : Rows) (row : Row) (rows : List Row) → list_any (same_row row) (classes rows) ≡ false → most ≤ old.count → KeepsClasses b most rows old
      → most < length (classes (rows ++ row ∷ []))
  class-over old row rows fresh over k = omega (arith, over, k.holds.count, ap length (added-class row rows fresh), length-append (classes rows) (row ∷ []))

  pub class-row : (o : Option (Result Row Fault)) (old new : Rows) (row : Row) → o ≡ Some (Ok row) → ((rows : List Row) → KeepsClasses b most rows old → KeepsClasses b most (rows ++ row ∷ []) new)
      → IsNoFault o × ((rows : List Row) → KeepsClasses b most rows old → KeepsClasses b most (more_rows rows o) new)
  class-row o old new row is f = subst (λ p. IsNoFault p × ((rows : List Row) → KeepsClasses b most rows old → KeepsClasses b most (more_rows rows p) new)) (sym is) (tt, f)

-- the classes are as wide as a row
pub wide-classes : (b : Bound) (rows : List Row) (v : Rows) → HoldsClasses b rows (held_of v) → AreWide (length b.columns) v.seen
wide-classes b rows v h = subst (AreWide (length b.columns)) (sym h.columns) (each (classes rows) h.sized)
  where
    each : (rs : List Row) → All (IsSized (length b.columns) (length b.keys)) rs → AreWide (length b.columns) (map (λ (r : Row). r.columns) rs)
    each [] sized = tt
    each (r ∷ rs) sized = ((sized 0 r (omega arith)).0, each rs (λ i d lt. sized (suc i) d (omega (arith, lt))))

-- whether a row is among the classes
pub seen-row : (row : Row) (firsts : List Row) → has_row (map (λ (r : Row). r.columns) firsts) row.columns ≡ list_any (same_row row) firsts
seen-row row [] = refl
seen-row row (r ∷ rs) = ap (λ b. same_values row.columns r.columns || b) (seen-row row rs)

-- what an insertion told of a row
module _ (firsts : List Row) (row : Row) (old new : List (List Val)) (is : old ≡ map (λ (r : Row). r.columns) firsts) (makes : new ≡ with_row old row.columns) where
  pub told-known : false ≡ not (has_row old row.columns) → (list_any (same_row row) firsts ≡ true) × (new ≡ old)
  told-known e = let h = by (has_row old row.columns) e in (sym (seen-row row firsts) ∙ ap (λ l. has_row l row.columns) (sym is) ∙ h, makes ∙ ap (λ b. if b then old else old ++ row.columns ∷ []) h)
    where
      by : (b : Bool) → false ≡ not b → b ≡ true
      by true k = refl
      by false k = absurd (true≢false (sym k))

  pub told-new : true ≡ not (has_row old row.columns) → (list_any (same_row row) firsts ≡ false) × (new ≡ old ++ row.columns ∷ [])
  told-new e = let h = by (has_row old row.columns) e in (sym (seen-row row firsts) ∙ ap (λ l. has_row l row.columns) (sym is) ∙ h, makes ∙ ap (λ b. if b then old else old ++ row.columns ∷ []) h)
    where
      by : (b : Bool) → true ≡ not b → b ≡ false
      by true k = absurd (true≢false k)
      by false k = refl

-- the first rows of the classes, one row after another
pub firsts : (b : Bound) (list : List Row) (old new : Rows) → map val new.columns.items ≡ flat_map (λ (row : List Val). row) old.seen → new.keys.items ≡ old.keys.items → new.count ≡ old.count
    → HoldsClasses b list (held_of old) → HoldsOf b (classes list) new
firsts b list old new columns keys count h = record {
  columns = columns ∙ ap (flat_map (λ (row : List Val). row)) h.columns ∙ flat_map-map (λ (row : List Val). row) (λ (r : Row). r.columns) (classes list);
  keys = ap (map val) keys ∙ h.keys;
  count = count ∙ h.count;
  sized = h.sized;
}

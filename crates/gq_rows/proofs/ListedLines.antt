-- The lines of rows that are listed as they come.
use Rattle.std.proofs.Common.{◌≡◌, ℕ, Bool, true, false, not, cond, true≢false, List, length, Option, Some, None, refl, sym, ap, subst}
use Rattle.std.specs.Prelude.{◌&&◌}
use Rattle.std.specs.List.Sorted.{IsPermutation}
use Rattle.std.proofs.lemmas.List.Sorted.{IsPermutation-refl}
use Rattle.gq_base.specs.Lists.{is_empty}
use Rattle.gq_base.specs.Values.{Val}
use Rattle.gq_kept.proofs.Ranked.{keyless_sorted}
use Rattle.gq_kept.specs.Answers.{Lists, classes, columns_of, most_listed, window}
use Rattle.gq_kept.specs.Tables.{Held, Holds, HoldsAs, HoldsRows}
use Rattle.gq_listed.specs.Listed.{is_listing}
use Rattle.gq_plan.specs.Outcomes.{Row}
use Rattle.gq_plan.specs.declared.bound.Bound.{Bound}

distinct_by : (d k : Bool) → (not d && k) ≡ true → (d ≡ false) × (k ≡ true)
distinct_by false k e = (refl, e)
distinct_by true k e = absurd (true≢false (sym e))

holds_by : (d k : Bool) (most : Option ℕ) (b : Bound) (list : List Row) (h : Held) → d ≡ false → k ≡ true → HoldsAs d k most b list h → HoldsRows (length b.columns) (length b.keys) list h
holds_by false true None b list h d k x = x
holds_by false true (Some n) b list h d k x = x
holds_by false false most b list h d k x = absurd (true≢false (sym k))
holds_by true k most b list h d e x = absurd (true≢false d)

pub holds_rows : (b : Bound) (list : List Row) (h : Held) → is_listing b ≡ true → Holds b list h → HoldsRows (length b.columns) (length b.keys) list h
holds_rows b list h e x = let s = distinct_by b.distinct (is_empty b.keys) e in holds_by b.distinct (is_empty b.keys) (most_listed b) b list h s.0 s.1 x

pub lists_as : (b : Bound) (list : List Row) (lines : List (List Val)) → is_listing b ≡ true → lines ≡ columns_of (window b list) → Lists b list lines
lists_as b list lines e is =
    let s = distinct_by b.distinct (is_empty b.keys) e in
    record {
      arranged = list;
      same = subst (λ l. IsPermutation l list) (sym (ap (λ d. cond d (classes list) list) s.0)) (IsPermutation-refl list);
      sorted = keyless_sorted b s.1 list;
      is = is;
    }

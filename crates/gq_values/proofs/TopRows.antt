-- A part of the rows, held as values one row after another.
use Rattle.std.proofs.Common.{◌≡◌, ℕ, ◌+◌, ◌*◌, ◌<◌, ◌≤◌, zero, suc, min, List, [], ◌∷◌, ◌++◌, length, map, take, Ok, Err, Result, Some, None, Option, refl, sym, ap, ◌∙◌, subst, arith, append-nil, length-append, length-take, false, Bool}
use Rattle.std.specs.Prelude.{IfSome, count_by, flat_map, option_map}
use Rattle.std.specs.List.{take-map}
use Rattle.std.specs.Ordering.{is_le}
use Rattle.std.proofs.lemmas.Grind.{flat_map-append}
use Rattle.std.proofs.lemmas.List.{length-map, take_at}
use Rattle.std.proofs.lemmas.List.Sorted.{length_permutation}
use Rattle.std.proofs.lemmas.List.Sums.{count_by-le-length}
use Rattle.gq_base.specs.Values.{Val, val}
use Rattle.gq_base.specs.declared.Value.{Value}
use Rattle.gq_expr.specs.declared.Fault.{Fault}
use Rattle.gq_plan.specs.Outcomes.{Row}
use Rattle.gq_plan.specs.declared.bound.Bound.{Bound}
use Rattle.gq_kept.specs.Answers.{by_keys}
use Rattle.gq_values.specs.Keeping.{Added, AddedFirst, Adds, HoldsOf, IsBehind, KeepsFirst, KeepsMore, Left, PushesBy, bar_of, last_of}
use Rattle.gq_kept.specs.Forms.{IsNoFault, more_rows}
use Rattle.gq_values.specs.Sorting.{HasLastKeys, Sorts}
use Rattle.gq_kept.specs.Tables.{HasBar}
use Rattle.gq_kept.specs.declared.form.Form.TheVariants.{Top}
use Rattle.gq_values.specs.declared.held.Rows.{Rows}
use Rattle.gq_kept.specs.declared.refusal.RowRefusal.{RowRefusal}
use Rattle.gq_kept.specs.declared.refusal.RowRefusal.TheVariants as refusal
use Rattle.gq_values.proofs.Bars.{bar-more, bar-of-cut, behind-bar, keys-of-last}
use Rattle.gq_kept.proofs.Fronts.{part-count, part-cut, part-drop, part-push, part-sort}
use Rattle.gq_kept.proofs.Ranked.{by_keys_total}
use Rattle.gq_kept.proofs.Rising.{Rises, rises_from_sorted}

module _ (b : Bound) (n most : ℕ) where
  top-over : (v : Rows) (row : Row) → most < min (v.count + 1) n → (rows : List Row) → KeepsFirst b n most rows v → most < min (length (rows ++ row ∷ [])) n
  top-over v row over rows k =
      let h = k.holds in
      omega (arith, over, part-count (by_keys b) n rows h.list h.part, h.holds.count, length-append rows (row ∷ []))

  few-more : (v : Rows) (row : Row) (rows : List Row) → min (v.count + 1) n ≤ most → KeepsFirst b n most rows v → min (length (rows ++ row ∷ [])) n ≤ most
  few-more v row rows few k =
      let h = k.holds in
      omega (arith, few, part-count (by_keys b) n rows h.list h.part, h.holds.count, length-append rows (row ∷ []))

  pub top-added : (o : Option (Result Row Fault)) (old new : Rows) (a : AddedFirst b n most o old new) → new.count ≤ 2 * n
      → (rows : List Row) → KeepsFirst b n most rows old → KeepsFirst b n most (rows ++ a.row ∷ []) new
  top-added o old new a short rows k =
      let h = k.holds in
      let now = a.holds h.list h.holds in
      record {
        holds = record {
          list = h.list ++ a.row ∷ [];
          holds = now;
          part = part-push (by_keys b) n rows h.list a.row h.part;
          short = omega (arith, short, now.count);
          bar = subst (λ r. HasBar b n (h.list ++ a.row ∷ []) (option_map (λ v. map val v.items) r)) (sym a.bar) (bar-more b n (bar_of old) h.list a.row h.bar);
        };
        few = few-more old a.row rows a.may k;
      }

  has-bar : (arranged : List Row) (new : Rows) (bar : Option (List Val)) → bar_of new ≡ bar → Rises (by_keys b) arranged → n ≤ length arranged → HoldsOf b (take n arranged) new
      → IfSome bar (λ keys. keys ≡ last_of (length b.keys) (map val new.keys.items)) → HasBar b n (take n arranged) bar
  has-bar arranged new None e up long h is = tt
  has-bar arranged new (Some bar) e up long h is = bar-of-cut b n arranged new bar up long h is

  pub top-cut : (o : Option (Result Row Fault)) (old mid new : Rows) (a : AddedFirst b n most o old mid) → n ≤ mid.count
      → Sorts (length b.columns) (length b.keys) (by_keys b) n mid new → HasLastKeys (length b.keys) new
      → (rows : List Row) → KeepsFirst b n most rows old → KeepsFirst b n most (rows ++ a.row ∷ []) new
  top-cut o old mid new a long sorts last rows k =
      let h = k.holds in
      let order = by_keys b in
      let now = a.holds h.list h.holds in
      let s = sorts (h.list ++ a.row ∷ []) now in
      let up = rises_from_sorted order (by_keys_total b) s.arranged s.sorted in
      let size : n ≤ length s.arranged = omega (arith, long, now.count, length_permutation (h.list ++ a.row ∷ []) s.arranged s.same) in
      record {
        holds = record {
          list = take n s.arranged;
          holds = s.holds;
          part = part-cut order (by_keys_total b) n (rows ++ a.row ∷ []) s.arranged up size
              (part-sort order n (rows ++ a.row ∷ []) (h.list ++ a.row ∷ []) s.arranged s.same (part-push order n rows h.list a.row h.part));
          short = omega (arith, length-take n s.arranged);
          bar = has-bar s.arranged new (bar_of new) refl up size s.holds last;
        };
        few = few-more old a.row rows a.may k;
      }

  -- the values that were there before
  before : (old mid : List Value) (front more : List Val) → map val old ≡ front → map val mid ≡ front ++ more → map val (take (length old) mid) ≡ front
  before old mid front more e whole = sym (take-map val (length old) mid) ∙ ap (take (length old)) whole ∙ take_at front more (length old) (sym (sym (length-map old val) ∙ ap length e))

  one-more : (f : Row → List Val) (list : List Row) (row : Row) → flat_map f (list ++ row ∷ []) ≡ flat_map f list ++ f row
  one-more f list row = flat_map-append f list (row ∷ []) ∙ ap (λ l. flat_map f list ++ l) (append-nil (f row))

  -- a row that comes behind the bar was dropped
  pub top-dropped : (o : Option (Result Row Fault)) (old mid new : Rows) (a : Added (length b.columns) (length b.keys) o old mid) → min (old.count + 1) n ≤ most
      → new.columns.items ≡ take (length old.columns.items) mid.columns.items → new.keys.items ≡ take (length old.keys.items) mid.keys.items → new.count + 1 ≡ mid.count → new.bar ≡ mid.bar
      → (0 < n → IsBehind b (bar_of mid) (last_of (length b.keys) (map val mid.keys.items)))
      → (rows : List Row) → KeepsFirst b n most rows old → KeepsFirst b n most (rows ++ a.row ∷ []) new
  top-dropped o old mid new a may columns keys count bar passed rows k =
      let h = k.holds in
      let now = a.holds h.list h.holds in
      let same : bar_of new ≡ bar_of old = ap (option_map (λ v. map val v.items)) (bar ∙ a.bar) in
      let more = now.keys ∙ one-more (λ (r : Row). r.keys) h.list a.row in
      record {
        holds = record {
          list = h.list;
          holds = record {
            columns = ap (map val) columns ∙ before old.columns.items mid.columns.items _ a.row.columns h.holds.columns (now.columns ∙ one-more (λ (r : Row). r.columns) h.list a.row);
            keys = ap (map val) keys ∙ before old.keys.items mid.keys.items _ a.row.keys h.holds.keys more;
            count = omega (arith, count, a.count, h.holds.count);
            sized = h.holds.sized;
          };
          part = part-drop (by_keys b) n rows h.list a.row (enough h.list n refl h.bar (λ lt. subst (IsBehind b (bar_of old)) (keys-of-last b n h.list a.row mid now)
              (subst (λ r. IsBehind b (option_map (λ v. map val v.items) r) (last_of (length b.keys) (map val mid.keys.items))) a.bar (passed lt)))) h.part;
          short = h.short;
          bar = subst (HasBar b n h.list) (sym same) h.bar;
        };
        few = few-more old a.row rows may k;
      }
    where
      enough : (list : List Row) (m : ℕ) → n ≡ m → HasBar b n list (bar_of old) → (0 < n → IsBehind b (bar_of old) a.row.keys) → n ≤ count_by (λ r. is_le (by_keys b r a.row)) list
      enough list zero e has f = omega (arith, e)
      enough list (suc m) e has f = behind-bar b n (bar_of old) list a.row has (f (omega (arith, e)))

  -- a row that comes behind the bar needs no place
  pub top-behind : (v : Rows) (row : Row) → IsBehind b (bar_of v) row.keys → (rows : List Row) → KeepsFirst b n most rows v → KeepsFirst b n most (rows ++ row ∷ []) v
  top-behind v row behind rows k =
      let h = k.holds in
      let enough = behind-bar b n (bar_of v) h.list row h.bar behind in
      let within = count_by-le-length (λ x. is_le (by_keys b x row)) h.list in
      record {
        holds = record { list = h.list; holds = h.holds; part = part-drop (by_keys b) n rows h.list row enough h.part; short = h.short; bar = h.bar };
        few = omega (arith, k.few, enough, within, length_permutation rows (h.list ++ h.part.rest) h.part.whole, length-append h.list h.part.rest);
      }

  -- nothing was added
  pub top-left : (o : Option (Result Row Fault)) (old new : Rows) → Left (length b.columns) (length b.keys) o old new → IsNoFault o × KeepsMore (Top n) b most o old new
  top-left o old new l =
      subst (λ p. IsNoFault p × KeepsMore (Top n) b most p old new) (sym l.is) (
        tt,
        λ rows k. record {
          holds = record { list = k.holds.list; holds = l.holds k.holds.list k.holds.holds; part = k.holds.part; short = k.holds.short; bar = subst (λ r. HasBar b n k.holds.list (option_map (λ v. map val v.items) r)) (sym l.bar) k.holds.bar };
          few = k.few;
        },
      )

  pub top-refused : (may : Bool) (o : Option (Result Row Fault)) (old new : Rows) (r : RowRefusal) → (may ≡ false → most < min (old.count + 1) n)
      → Adds (length b.columns) (length b.keys) o may most old new (Err r) → PushesBy (Top n) b most o old new (Err r)
  top-refused may o old new (refusal.Fault f) over h = h
  top-refused may o old new (refusal.TooManyRows l) over h = (h.0, (h.2.0, h.2.1, top-over old h.2.0 (over h.1)))
  top-refused may o old new (refusal.Memory why) over h = tt

  pub with-row : (o : Option (Result Row Fault)) (old new : Rows) (row : Row) → o ≡ Some (Ok row) → ((rows : List Row) → KeepsFirst b n most rows old → KeepsFirst b n most (rows ++ row ∷ []) new)
      → IsNoFault o × ((rows : List Row) → KeepsFirst b n most rows old → KeepsFirst b n most (more_rows rows o) new)
  with-row o old new row is f = subst (λ p. IsNoFault p × ((rows : List Row) → KeepsFirst b n most rows old → KeepsFirst b n most (more_rows rows p) new)) (sym is) (tt, f)

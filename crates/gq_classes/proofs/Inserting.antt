-- A row that is inserted.
use Rattle.std.proofs.Common.{◌≡◌, ◌∙◌, ap, ap₂, refl, sym, subst, ℕ, ◌+◌, ◌<◌, ◌≤◌, zero, suc, Bool, true, false, true≢false, not, ◌&&◌, ◌||◌, Some, Result, Ok, Err, List, [], ◌∷◌, ◌++◌, length, take, drop, slice_get, inl, inr, arith, length-append, ◌≢◌, replicate, if◌then◌else◌}
use Rattle.std.specs.Prelude.{◌⊎◌, nat_le}
use Rattle.std.specs.Ordering.{is_eq}
use Rattle.std.specs.Cmp.{tied_itself}
use Rattle.std.proofs.lemmas.Bool.Decides.{nat_tests}
use Rattle.std.proofs.lemmas.List.{length-map, take_all, take_at}
use Rattle.std.proofs.lemmas.Option.{slice_get_within}
use Rattle.gq_base.specs.Values.{Val}
use Rattle.gq_base.specs.ValueLaws.{order_vals_total, same_val}
use Rattle.gq_base.specs.declared.memory.Memory.{Memory}
use Rattle.gq_classes.specs.Rows.{AreWide, has_row, same_value, same_values, with_row}
use Rattle.gq_classes.specs.declared.key.Key.{Key}
use Rattle.gq_classes.specs.declared.level.Level.{Level}
use Rattle.gq_classes.specs.steps.Inner.{HasCount, Stand}
use Rattle.gq_classes.specs.steps.Levels.{AreLevels, AreTexts, Arrives, CanLead, Leads, empty_row, keys_of, rows_from}
use Rattle.gq_classes.proofs.Leading.{no_levels, no_values}
use Rattle.gq_classes.proofs.Paths.{AreOnce, Rows, Texts, get_front, once_rows, wide_rows}

-- ---- rows with the same values are one

both : (a b : Bool) → (a && b) ≡ true → (a ≡ true) × (b ≡ true)
both true b e = (refl, e)
both false b e = absurd (true≢false (sym e))

same_row : (a b : List Val) → same_values a b ≡ true → a ≡ b
same_row [] [] e = refl
same_row [] (y ∷ ys) e = absurd (true≢false (sym e))
same_row (x ∷ xs) [] e = absurd (true≢false (sym e))
same_row (x ∷ xs) (y ∷ ys) e = let p = both (same_value x y) (same_values xs ys) e in ap₂ (λ v l. v ∷ l) (same_val x y p.0) (same_row xs ys p.1)

itself : (a : List Val) → same_values a a ≡ true
itself [] = refl
itself (x ∷ xs) = ap₂ (λ b c. b && c) (ap is_eq (tied_itself order_vals_total x)) (itself xs)

-- a row at some place is among them
there : (rows : Rows) (n : ℕ) (row : List Val) → slice_get rows n ≡ Some row → has_row rows row ≡ true
there [] n row e = absurd (let no : ⊥ = cc in no)
there (x ∷ xs) zero row e = ap (λ b. b || has_row xs row) (ap (same_values row) (let is : x ≡ row = cc in is) ∙ itself row)
there (x ∷ xs) (suc n) row e = ap (λ b. same_values row x || b) (there xs n row e) ∙ either (same_values row x)
  where
    either : (b : Bool) → (b || true) ≡ true
    either true = refl
    either false = refl

-- one at no place is not
not_there : (rows : Rows) (row : List Val) → ((n : ℕ) → slice_get rows n ≡ Some row → ⊥) → has_row rows row ≡ false
not_there [] row no_place = refl
not_there (x ∷ xs) row no_place = by (same_values row x) refl ∙ not_there xs row (λ n e. no_place (suc n) e)
  where
    by : (b : Bool) → same_values row x ≡ b → (same_values row x || has_row xs row) ≡ has_row xs row
    by true e = absurd (no_place 0 (ap Some (sym (same_row row x e))))
    by false e = ap (λ b. b || has_row xs row) e

-- ---- the front without values

one_front : AreOnce empty_row
one_front zero zero row a b = refl
one_front zero (suc j) row a b = absurd (let no : ⊥ = cc in no)
one_front (suc i) j row a b = absurd (let no : ⊥ = cc in no)

-- ---- a row that has found its way

module _ (t t' : Texts) (ls ls' : List (List Key)) (count : ℕ) (row : List Val) (s : Stand t ls count) where
  abbrev rows : Rows
  rows = rows_from t empty_row ls

  abbrev later : Rows
  later = rows_from t' empty_row ls'

  pub can_lead : length ls ≡ length row → CanLead t empty_row ls 0 row
  can_lead e = record { levels = s.keys; within = omega arith; depth = e }

  texts_stand : Arrives t t' empty_row ls ls' → AreTexts t'
  texts_stand a = a.grows.once s.apart

  later_once : Arrives t t' empty_row ls ls' → AreOnce later
  later_once a = once_rows t' (texts_stand a) empty_row one_front ls' a.levels

  all_counted : length rows ≡ count → take count rows ≡ rows
  all_counted e = take_all count rows (omega (arith, e))

  -- it was there
  pub known : (n : ℕ) → length ls ≡ length row → Leads t t' empty_row ls ls' 0 row (Ok n) → n < count → Stand t' ls' count × (has_row (take count rows) row ≡ true) × (take count later ≡ take count rows)
  known n depth (a, ends, f) lt = by s.counted f.is
    where
      by : HasCount rows ls count → (later ≡ rows) ⊎ ((later ≡ rows ++ row ∷ []) × (n ≡ length rows)) → Stand t' ls' count × (has_row (take count rows) row ≡ true) × (take count later ≡ take count rows)
      by (inl e) (inl same) = (
        record { apart = texts_stand a; keys = a.levels; counted = inl (ap length same ∙ e) },
        ap (λ l. has_row l row) (all_counted e) ∙ there rows n row (ap (λ l. slice_get l n) (sym same) ∙ f.at),
        ap (take count) same,
      )
      by (inl e) (inr (more, at)) = absurd (omega (arith, e, at, lt))
      by (inr (none, zero_count)) h = absurd (omega (arith, zero_count, lt))

  -- it is new
  pub added : (n : ℕ) → length ls ≡ length row → Leads t t' empty_row ls ls' 0 row (Ok n) → count ≤ n → Stand t' ls' (count + 1) × (has_row (take count rows) row ≡ false) × (take (count + 1) later ≡ take count rows ++ row ∷ [])
  added n depth (a, ends, f) le = by s.counted f.is
    where
      by : HasCount rows ls count → (later ≡ rows) ⊎ ((later ≡ rows ++ row ∷ []) × (n ≡ length rows)) → Stand t' ls' (count + 1) × (has_row (take count rows) row ≡ false) × (take (count + 1) later ≡ take count rows ++ row ∷ [])
      by (inl e) (inl same) = absurd (omega (arith, e, le, slice_get_within later n row f.at, ap length same))
      by (inl e) (inr (more, at)) =
          let size : length later ≡ count + 1 = ap length more ∙ length-append rows (row ∷ []) ∙ omega (arith, e) in (
            record { apart = texts_stand a; keys = a.levels; counted = inl size },
            ap (λ l. has_row l row) (all_counted e) ∙ not_there rows row (λ i here.
                let lt = slice_get_within rows i row here in
                let i_is = later_once a i n row (ap (λ l. slice_get l i) more ∙ get_front rows (row ∷ []) i lt ∙ here) f.at in
                absurd (omega (arith, lt, i_is, at))),
            take_all (count + 1) later (omega (arith, size)) ∙ more ∙ ap (λ l. l ++ row ∷ []) (sym (all_counted e)),
          )
      by (inr (none, zero_count)) h =
          let empty : row ≡ [] = no_values row (sym depth ∙ ap length none) in
          let last : later ≡ empty_row = ap (rows_from t' empty_row) (no_levels ls' (a.depth ∙ ap length none)) in (
            record { apart = texts_stand a; keys = a.levels; counted = inl (ap length last ∙ omega (arith, zero_count)) },
            ap (λ k. has_row (take k rows) row) zero_count,
            ap₂ (λ k l. take (k + 1) l) zero_count last ∙ ap₂ (λ k r. take k rows ++ r ∷ []) (sym zero_count) (sym empty),
          )

  -- there was not enough memory
  pub failed : (e : Memory) → Leads t t' empty_row ls ls' 0 row (Err e) → Stand t' ls' count
  failed e (a, some, same) = record { apart = texts_stand a; keys = a.levels; counted = by s.counted }
    where
      by : HasCount rows ls count → HasCount later ls' count
      by (inl e) = inl (ap length same ∙ e)
      by (inr (none, zero_count)) = absurd (some none)

-- ---- levels that fit

wide_front : (n k : ℕ) (rows : Rows) → AreWide n rows → AreWide n (take k rows)
wide_front n zero rs h = tt
wide_front n (suc k) [] h = tt
wide_front n (suc k) (r ∷ rs) (h, hs) = (h, wide_front n k rs hs)

-- rows of two widths are none
no_rows : (m n : ℕ) (rows : Rows) → AreWide m rows → AreWide n rows → m ≢ n → rows ≡ []
no_rows m n [] h k differ = refl
no_rows m n (r ∷ rs) (h, hs) (k, ks) differ = absurd (differ (sym h ∙ k))

no_keys : (m n w : ℕ) → AreLevels m n (replicate w [])
no_keys m n zero = tt
no_keys m n (suc w) = (tt, λ i j k a b. absurd (let no : ⊥ = cc in no), no_keys m 0 w)

no_rows_from : (t : Texts) (w : ℕ) → rows_from t [] (replicate w []) ≡ []
no_rows_from t zero = refl
no_rows_from t (suc w) = no_rows_from t w

stands_empty : (t : Texts) (w : ℕ) → AreTexts t → Stand t (replicate w []) 0
stands_empty t w apart = record { apart = apart; keys = no_keys (length t) 1 w; counted = by w }
  where
    by : (w : ℕ) → HasCount (rows_from t empty_row (replicate w [])) (replicate w []) 0
    by zero = inr (refl, refl)
    by (suc w) = inl (ap length (no_rows_from t w))

pub fitted : (t : Texts) (ls new : List (List Key)) (count later w : ℕ) → Stand t ls count → AreWide w (take count (rows_from t empty_row ls))
    → ((new ≡ ls) × (later ≡ count)) ⊎ ((length ls ≢ w) × (new ≡ replicate w []) × (later ≡ 0))
    → Stand t new later × (take later (rows_from t empty_row new) ≡ take count (rows_from t empty_row ls))
fitted t ls new count later w s wide (inl (same, k)) =
    (subst (λ n. Stand t new n) (sym k) (subst (λ l. Stand t l count) (sym same) s), ap₂ (λ n l. take n (rows_from t empty_row l)) k same)
fitted t ls new count later w s wide (inr (differ, empty, k)) = (
  subst (λ n. Stand t new n) (sym k) (subst (λ l. Stand t l 0) (sym empty) (stands_empty t w s.apart)),
  ap (λ n. take n (rows_from t empty_row new)) k
      ∙ sym (no_rows (length ls) w (take count (rows_from t empty_row ls)) (wide_front (length ls) count (rows_from t empty_row ls)
      (subst (λ n. AreWide n (rows_from t empty_row ls)) (let n : 0 + length ls ≡ length ls = omega arith in n) (wide_rows t 0 (length t) empty_row (refl, tt) ls s.keys))) wide differ),
)

-- ---- the whole way of an insertion

-- a list that was written where it lay
written : {X : Type 0} (after items : List X) (len : ℕ) → length after ≡ len → take len (after ++ drop (length after) items) ≡ after
written after items len e = take_at after (drop (length after) items) len e

module _ (t t' : Texts) (old new slice after : List Level) (count later w len : ℕ) (row : List Val) (seen : Rows) (s : Stand t (keys_of old) count)
    (is_seen : take count (rows_from t empty_row (keys_of old)) ≡ seen) (wide : w ≡ length row) (are_wide : AreWide w seen)
    (fits : (length new ≡ w) × (((new ≡ old) × (later ≡ count)) ⊎ ((length old ≢ w) × (keys_of new ≡ replicate w []) × (later ≡ 0))))
    (is_slice : slice ≡ new) (is_len : len ≡ length new) where
  fit : Stand t (keys_of new) later × (take later (rows_from t empty_row (keys_of new)) ≡ take count (rows_from t empty_row (keys_of old)))
  fit =
      fitted t (keys_of old) (keys_of new) count later w s (subst (AreWide w) (sym is_seen) are_wide) (by fits.1)
    where
      by : ((new ≡ old) × (later ≡ count)) ⊎ ((length old ≢ w) × (keys_of new ≡ replicate w []) × (later ≡ 0))
          → ((keys_of new ≡ keys_of old) × (later ≡ count)) ⊎ ((length (keys_of old) ≢ w) × (keys_of new ≡ replicate w []) × (later ≡ 0))
      by (inl (e, k)) = inl (ap keys_of e, k)
      by (inr (differ, e, k)) = inr (λ same. differ (sym (length-map old (λ (l : Level). l.keys.keys)) ∙ same), e, k)

  depth : length (keys_of new) ≡ length row
  depth = length-map new (λ (l : Level). l.keys.keys) ∙ fits.0 ∙ wide

  can : CanLead t empty_row (keys_of slice) 0 row
  can = subst (λ l. CanLead t empty_row (keys_of l) 0 row) (sym is_slice) (can_lead t t (keys_of new) (keys_of new) later row fit.0 depth)

  abbrev back : List Level
  back = take len (after ++ drop (length after) new)

  is_back : Arrives t t' empty_row (keys_of slice) (keys_of after) → back ≡ after
  is_back a =
      written after new len
      (sym (length-map after (λ (l : Level). l.keys.keys)) ∙ a.depth ∙ length-map slice (λ (l : Level). l.keys.keys) ∙ ap length is_slice ∙ sym is_len)

  abbrev Led : Result ℕ Memory → Type 0
  Led r = (fronts : Rows) → CanLead t fronts (keys_of slice) 0 row → Leads t t' fronts (keys_of slice) (keys_of after) 0 row r

  led : (r : Result ℕ Memory) → Led r → Leads t t' empty_row (keys_of new) (keys_of after) 0 row r
  led r f = subst (λ l. Leads t t' empty_row (keys_of l) (keys_of after) 0 row r) is_slice (f empty_row can)

  pub inserts_added : (n : ℕ) → Led (Ok n) → later ≤ n
      → Stand t' (keys_of back) (later + 1) × (nat_le later n ≡ not (has_row seen row)) × (take (later + 1) (rows_from t' empty_row (keys_of back)) ≡ with_row seen row)
  inserts_added n f le =
      let a = added t t' (keys_of new) (keys_of after) later row fit.0 n depth (led (Ok n) f) le in
      let e = is_back (f empty_row can).0 in
      let same = fit.1 ∙ is_seen in
      let fresh : has_row seen row ≡ false = ap (λ l. has_row l row) (sym same) ∙ a.1 in (
        subst (λ l. Stand t' (keys_of l) (later + 1)) (sym e) a.0,
        (let b : nat_le later n ≡ true = grind (arith, nat_tests, le) in b) ∙ ap not (sym fresh),
        ap (λ l. take (later + 1) (rows_from t' empty_row (keys_of l))) e ∙ a.2 ∙ ap (λ l. l ++ row ∷ []) same ∙ ap (λ b. if b then seen else seen ++ row ∷ []) (sym fresh),
      )

  pub inserts_known : (n : ℕ) → Led (Ok n) → n < later
      → Stand t' (keys_of back) later × (nat_le later n ≡ not (has_row seen row)) × (take later (rows_from t' empty_row (keys_of back)) ≡ with_row seen row)
  inserts_known n f lt =
      let a = known t t' (keys_of new) (keys_of after) later row fit.0 n depth (led (Ok n) f) lt in
      let e = is_back (f empty_row can).0 in
      let same = fit.1 ∙ is_seen in
      let there : has_row seen row ≡ true = ap (λ l. has_row l row) (sym same) ∙ a.1 in (
        subst (λ l. Stand t' (keys_of l) later) (sym e) a.0,
        (let b : nat_le later n ≡ false = grind (arith, nat_tests, lt) in b) ∙ ap not (sym there),
        ap (λ l. take later (rows_from t' empty_row (keys_of l))) e ∙ a.2 ∙ same ∙ ap (λ b. if b then seen else seen ++ row ∷ []) (sym there),
      )

  pub inserts_failed : (x : Memory) → Led (Err x) → Stand t' (keys_of back) later
  inserts_failed x f =
      let e = is_back (f empty_row can).0 in
      subst (λ l. Stand t' (keys_of l) later) (sym e) (failed t t' (keys_of new) (keys_of after) later row fit.0 x (led (Err x) f))

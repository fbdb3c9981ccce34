-- What the words for listings of outcomes say together, for the crates above: fronts of listings, their rows, how many are kept,
-- and what a table stands for.
use Rattle.std.proofs.Common.{◌≡◌, ℕ, zero, suc, ◌<◌, ◌≤◌, min, Bool, true, false, not, ◌||◌, cond, Option, Some, None, List, [], ◌∷◌, ◌++◌, map, take, drop, length, Result, Ok, Err, refl, sym, ap, ap₂, ◌∙◌, subst, arith, length-append, length-take, append-nil, inl, inr}
use Rattle.std.specs.Prelude.{◌⊎◌, nat_le}
use Rattle.std.specs.List.{Contains, list_any}
use Rattle.std.proofs.lemmas.Grind.{flat_map-append}
use Rattle.std.proofs.lemmas.List.{get_or_append_left, length-map, take-append-drop}
use Rattle.std.proofs.lemmas.Bool.Decides.{nat_tests}
use Rattle.gq_base.specs.Lists.{is_empty}
use Rattle.gq_expr.specs.declared.Fault.{Fault}
use Rattle.gq_plan.specs.Outcomes.{Row}
use Rattle.gq_plan.specs.declared.bound.Bound.{Bound}
use Rattle.gq_kept.specs.Answers.{at_most, classes, classes_behind, cut_of, first_of, kept, most_listed, row_in, rows_in, same_row, with_class}
use Rattle.gq_kept.specs.Tables.{Held, Holds, HoldsAs, HoldsRows, StandsFor, is_full}
use Rattle.gq_kept.proofs.Classes.{classes_append}

-- ---- fronts

-- the first of a longer list begin with the first of its front
front_of : {X : Type 0} (n : ℕ) (xs ys : List X) → (zs : List X) × (take n (xs ++ ys) ≡ take n xs ++ zs)
front_of zero xs ys = ([], refl)
front_of (suc n) [] ys = (take (suc n) ys, refl)
front_of (suc n) (x ∷ xs) ys = let more = front_of n xs ys in (more.0, ap (λ l. x ∷ l) more.1)

front : {X : Type 0} (cut : Option ℕ) (xs ys : List X) → (zs : List X) × (first_of cut (xs ++ ys) ≡ first_of cut xs ++ zs)
front None xs ys = (ys, refl)
front (Some n) xs ys = front_of n xs ys

contains_front : {X : Type 0} (xs ys : List X) (x : X) → Contains xs x → Contains (xs ++ ys) x
contains_front xs ys x (k, h, is) = (k, omega (arith, h, length-append xs ys), get_or_append_left xs ys x k h ∙ is)

-- an outcome that is looked at in a front of a listing is looked at
pub looked_front : {X : Type 0} (cut : Option ℕ) (xs ys : List X) (x : X) → Contains (first_of cut xs) x → Contains (first_of cut (xs ++ ys)) x
looked_front cut xs ys x h = let more = front cut xs ys in subst (λ l. Contains l x) (sym more.1) (contains_front (first_of cut xs) more.0 x h)

-- where the front is long enough, nothing behind it is looked at
pub take_front : {X : Type 0} (n : ℕ) (xs ys : List X) → n ≤ length xs → take n (xs ++ ys) ≡ take n xs
take_front zero xs ys h = refl
take_front (suc n) [] ys h = absurd (omega arith)
take_front (suc n) (x ∷ xs) ys h = ap (λ l. x ∷ l) (take_front n xs ys (omega arith))

-- ---- rows

pub rows_append : (xs ys : List (Result Row Fault)) → rows_in (xs ++ ys) ≡ rows_in xs ++ rows_in ys
rows_append xs ys = flat_map-append row_in xs ys

pub rows_of_rows : (rs : List Row) → rows_in (map Ok rs) ≡ rs
rows_of_rows [] = refl
rows_of_rows (r ∷ rs) = ap (λ l. r ∷ l) (rows_of_rows rs)

pub few_rows : (xs : List (Result Row Fault)) → length (rows_in xs) ≤ length xs
few_rows [] = omega arith
few_rows (Ok r ∷ xs) = omega (arith, few_rows xs)
few_rows (Err f ∷ xs) = omega (arith, few_rows xs)

-- ---- kept rows

class_grows : (seen : List Row) (r : Row) (b : Bool) → length seen ≤ length (cond b seen (seen ++ r ∷ []))
class_grows seen r true = omega arith
class_grows seen r false = omega (arith, length-append seen (r ∷ []))

classes_grow : (seen rs : List Row) → length seen ≤ length (classes_behind seen rs)
classes_grow seen [] = omega arith
classes_grow seen (r ∷ rs) = omega (arith, class_grows seen r (list_any (same_row r) seen), classes_grow (with_class seen r) rs)

most_grows : (most : Option ℕ) (m n : ℕ) → m ≤ n → at_most most m ≤ at_most most n
most_grows None m n h = h
most_grows (Some k) m n h = omega arith

-- more rows are kept of more rows
pub kept_grows : (q : Bound) (rs more : List Row) → kept q rs ≤ kept q (rs ++ more)
kept_grows q rs more = go q.distinct
  where
    go : (d : Bool) → cond d (length (classes rs)) (at_most (most_listed q) (length rs)) ≤ cond d (length (classes (rs ++ more))) (at_most (most_listed q) (length (rs ++ more)))
    go true = omega (arith, classes_grow (classes rs) more, ap length (classes_append [] rs more))
    go false = most_grows (most_listed q) (length rs) (length (rs ++ more)) (omega (arith, length-append rs more))

-- where outcomes are cut, there is a LIMIT and neither DISTINCT nor ORDER BY
pub record IsCut (q : Bound) (n : ℕ) : Type 0 where
  pub plain : q.distinct ≡ false
  pub keyless : is_empty q.keys ≡ true
  pub most : most_listed q ≡ Some n

pub is_cut : (q : Bound) (n : ℕ) → cut_of q ≡ Some n → IsCut q n
is_cut q n e = go q.distinct (is_empty q.keys) refl refl e
  where
    go : (d k : Bool) → q.distinct ≡ d → is_empty q.keys ≡ k → cond (d || not k) None (most_listed q) ≡ Some n → IsCut q n
    go true k is has h = cc
    go false true is has h = record { plain = is; keyless = has; most = h }
    go false false is has h = cc

pub kept_cut : (q : Bound) (n : ℕ) → IsCut q n → (rs : List Row) → kept q rs ≡ min (length rs) n
kept_cut q n cut rs = ap₂ (λ d m. cond d (length (classes rs)) (at_most m (length rs))) cut.plain cut.most

-- and all rows that are looked at are held
pub held_cut : (q : Bound) (n : ℕ) → IsCut q n → (rows : List Row) (held : Held) → Holds q rows held → held.count ≡ length rows
held_cut q n cut rows held h =
    let at : HoldsAs false true (most_listed q) q rows held = subst (λ k. HoldsAs false k (most_listed q) q rows held) cut.keyless (subst (λ d. HoldsAs d (is_empty q.keys) (most_listed q) q rows held) cut.plain h) in
    let rows_held : HoldsRows (length q.columns) (length q.keys) rows held = by (most_listed q) at in
    rows_held.count
  where
    by : (most : Option ℕ) → HoldsAs false true most q rows held → HoldsRows (length q.columns) (length q.keys) rows held
    by None k = k
    by (Some n) k = k

-- ---- what a table stands for

module _ (q : Bound) (most : ℕ) (pushed : List (Result Row Fault)) (held : Held) (stands : StandsFor q most pushed held) where
  -- how many rows are looked at, where outcomes are cut
  pub looked_cut : (n : ℕ) → cut_of q ≡ Some n → length stands.rows ≡ min n (length pushed)
  looked_cut n e =
      sym (length-map stands.rows _) ∙ ap length (sym stands.looked ∙ ap (λ c. first_of c pushed) e) ∙ length-take n pushed

  -- rows are looked at among those that were pushed
  enough_rows : (n : ℕ) → cut_of q ≡ Some n → length stands.rows ≤ length (rows_in pushed)
  enough_rows n e =
      let at : take n pushed ≡ map Ok stands.rows = sym (ap (λ c. first_of c pushed) e) ∙ stands.looked in
      let parts : rows_in pushed ≡ stands.rows ++ rows_in (drop n pushed) =
      ap rows_in (sym (take-append-drop n pushed)) ∙ rows_append (take n pushed) (drop n pushed) ∙ ap (λ l. l ++ rows_in (drop n pushed)) (ap rows_in at ∙ rows_of_rows stands.rows) in
      omega (arith, ap length parts, length-append stands.rows (rows_in (drop n pushed)))

  -- a full table has as many rows as are looked at
  pub full_rows : (n : ℕ) → cut_of q ≡ Some n → is_full (cut_of q) held ≡ true → n ≤ length stands.rows
  full_rows n e full =
      let long : nat_le n held.count ≡ true = sym (ap (λ c. is_full c held) e) ∙ full in
      let same : held.count ≡ length stands.rows = held_cut q n (is_cut q n e) stands.rows held stands.holds in
      grind (arith, nat_tests, long, same)

  pub full_enough : (n : ℕ) → cut_of q ≡ Some n → is_full (cut_of q) held ≡ true → n ≤ length (rows_in pushed)
  full_enough n e full = omega (arith, full_rows n e full, enough_rows n e)

  -- one that is not full has fewer, so each turn comes
  pub open_few : (n : ℕ) → cut_of q ≡ Some n → is_full (cut_of q) held ≡ false → length pushed < n
  open_few n e room =
      let short : nat_le n held.count ≡ false = sym (ap (λ c. is_full c held) e) ∙ room in
      let same : held.count ≡ length stands.rows = held_cut q n (is_cut q n e) stands.rows held stands.holds in
      let less : length stands.rows < n = grind (arith, nat_tests, short, same) in
      omega (arith, less, looked_cut n e)

  -- the rows that are kept of what was pushed
  kept_pushed : (cut : Option ℕ) → cut_of q ≡ cut → kept q (rows_in pushed) ≤ kept q stands.rows
  kept_pushed None e =
      let same : rows_in pushed ≡ stands.rows = ap rows_in (sym (ap (λ c. first_of c pushed) e) ∙ stands.looked) ∙ rows_of_rows stands.rows in
      let counts : kept q (rows_in pushed) ≡ kept q stands.rows = ap (kept q) same in
      omega (arith, counts)
  kept_pushed (Some n) e =
      let cut = is_cut q n e in
      omega (arith, kept_cut q n cut (rows_in pushed), kept_cut q n cut stands.rows, looked_cut n e, few_rows pushed)

  kept_full : (rest : List (Result Row Fault)) (cut : Option ℕ) → cut_of q ≡ cut → is_full (cut_of q) held ≡ true → kept q (rows_in (pushed ++ rest)) ≤ kept q stands.rows
  kept_full rest None e full = absurd (let no : false ≡ true = sym (ap (λ c. is_full c held) e) ∙ full in cc)
  kept_full rest (Some n) e full =
      let cut = is_cut q n e in
      omega (arith, kept_cut q n cut (rows_in (pushed ++ rest)), kept_cut q n cut stands.rows, full_rows n e full)

  -- not too many rows are kept of a listing that a table stands for, as far as it is looked at
  pub kept_few : (rest : List (Result Row Fault)) → (is_full (cut_of q) held ≡ true) ⊎ (rest ≡ []) → kept q (rows_in (pushed ++ rest)) ≤ most
  kept_few rest (inl full) = omega (arith, kept_full rest (cut_of q) refl full, stands.few)
  kept_few rest (inr none) =
      let same : kept q (rows_in (pushed ++ rest)) ≡ kept q (rows_in pushed) = ap (λ l. kept q (rows_in l)) (ap (λ l. pushed ++ l) none ∙ append-nil pushed) in
      omega (arith, same, kept_pushed (cut_of q) refl, stands.few)

  -- nothing behind a full table's listing is looked at
  pub full_looked : (rest : List (Result Row Fault)) → is_full (cut_of q) held ≡ true → first_of (cut_of q) (pushed ++ rest) ≡ first_of (cut_of q) pushed
  full_looked rest full = go (cut_of q) refl
    where
      go : (cut : Option ℕ) → cut_of q ≡ cut → first_of cut (pushed ++ rest) ≡ first_of cut pushed
      go None e = absurd (let no : false ≡ true = sym (ap (λ c. is_full c held) e) ∙ full in cc)
      go (Some n) e = take_front n pushed rest (omega (arith, full_rows n e full, looked_cut n e))

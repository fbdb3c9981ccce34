-- What is held by the form of a query is what the query needs.
use Rattle.std.proofs.Common.{◌≡◌, ℕ, ◌-◌, ◌^◌, ◌<◌, ◌≤◌, min, Bool, true, false, not, cond, List, ◌++◌, length, map, take, Ok, Result, Some, None, Option, refl, sym, ap, ◌∙◌, subst, arith, length-append, length-take}
use Rattle.std.specs.Prelude.{◌||◌}
use Rattle.std.specs.Ordering.{is_le}
use Rattle.std.proofs.lemmas.List.{length-map, take_all}
use Rattle.std.proofs.lemmas.List.Sorted.{length_permutation}
use Rattle.std.proofs.lemmas.List.Sums.{count_by-le-length}
use Rattle.gq_base.specs.Lists.{is_empty}
use Rattle.gq_base.specs.Values.{Val}
use Rattle.gq_expr.specs.declared.Fault.{Fault}
use Rattle.gq_plan.specs.Outcomes.{Row}
use Rattle.gq_plan.specs.declared.bound.Bound.{Bound}
use Rattle.gq_kept.specs.Answers.{at_most, by_keys, keys_order, classes, cut_of, first_of, kept, most_listed}
use Rattle.gq_kept.specs.Forms.{Has, HasFirst, HasForm, IsMost, IsNeverReached, kept_by}
use Rattle.gq_kept.specs.Tables.{HasBar, Held, Holds, HoldsAs, HoldsRows, StandsFor}
use Rattle.gq_kept.specs.declared.form.Form.{Form}
use Rattle.gq_kept.specs.declared.form.Form.TheVariants as form
use Rattle.gq_kept.proofs.Rising.{each-map}

-- the outcomes that are looked at by a form
abbrev pub form_cut : {X : Type 0} → Form → List X → List X
form_cut (form.First n) xs = take n xs
form_cut f xs = xs

-- a table of a form stands for a listing
pub record StandsBy (b : Bound) (f : Form) (most : ℕ) (outcomes : List (Result Row Fault)) (v : Held) : Type 0 where
  pub rows : List Row
  pub looked : form_cut f outcomes ≡ map Ok rows
  pub keeps : Has f b most rows v

-- ---- what is looked at

-- no listing is longer than memory
abbrev pub IsShort : {X : Type 0} → Form → List X → Type 0
IsShort form.All xs = length xs < 2 ^ 64
IsShort f xs = Unit {0}

never_reached : {X : Type 0} (keyless : Bool) (most : Option ℕ) (xs : List X) → IsNeverReached keyless most → length xs < 2 ^ 64 → first_of (cond (not keyless) None most) xs ≡ xs
never_reached true None xs h lt = refl
never_reached false None xs h lt = refl
never_reached true (Some n) xs h lt = take_all n xs (omega (arith, h.1, lt))
never_reached false (Some n) xs h lt = refl

pub looks : {X : Type 0} (b : Bound) (f : Form) (xs : List X) → HasForm b f → IsShort f xs → first_of (cut_of b) xs ≡ form_cut f xs
looks b form.All xs h short = ap (λ d. first_of (cond (d || not (is_empty b.keys)) None (most_listed b)) xs) h.0 ∙ never_reached (is_empty b.keys) (most_listed b) xs h.1 short
looks b (form.First n) xs h short = rw (h.0, h.1, h.2) refl
looks b (form.Top n) xs h short = rw (h.0, h.1) refl
looks b form.Classes xs h short = rw h refl

-- ---- what is kept

kept_all : (keyless : Bool) (most : Option ℕ) (n : ℕ) → IsNeverReached keyless most → n < 2 ^ 64 → at_most most n ≡ n
kept_all keyless None n h lt = refl
kept_all keyless (Some m) n h lt = omega (arith, h.1, lt)

kept_first : (most : Option ℕ) (m n : ℕ) → IsMost most m → min n m < 2 ^ 64 - 1 → at_most most n ≡ min n m
kept_first None m n h lt = absurd h
kept_first (Some k) m n h lt = omega (arith, h, lt)

-- so few rows that their number fits 64 bits, as far as it counts
abbrev pub IsFew : Form → List Row → Type 0
IsFew form.All rows = length rows < 2 ^ 64 - 1
IsFew (form.First n) rows = length rows ≤ n
IsFew (form.Top n) rows = min (length rows) n < 2 ^ 64 - 1
IsFew form.Classes rows = Unit {0}

plain_kept : (b : Bound) (rows : List Row) → b.distinct ≡ false → kept b rows ≡ at_most (most_listed b) (length rows)
plain_kept b rows e = ap (λ d. cond d (length (classes rows)) (at_most (most_listed b) (length rows))) e

pub kept_same : (b : Bound) (f : Form) (rows : List Row) → HasForm b f → IsFew f rows → kept b rows ≡ kept_by f rows
kept_same b form.All rows h few = plain_kept b rows h.0 ∙ kept_all (is_empty b.keys) (most_listed b) (length rows) h.1 (omega (arith, few))
kept_same b (form.First n) rows h few = plain_kept b rows h.0 ∙ ap (λ m. at_most m (length rows)) h.2 ∙ omega (arith, few)
kept_same b (form.Top n) rows h few = plain_kept b rows h.0 ∙ kept_first (most_listed b) n (length rows) h.2 few
kept_same b form.Classes rows h few = ap (λ d. cond d (length (classes rows)) (at_most (most_listed b) (length rows))) h

-- ---- what is held

few_all : (keyless : Bool) (limit : Option ℕ) (n most : ℕ) → IsNeverReached keyless limit → at_most limit n ≤ most → most < 2 ^ 32 → n ≤ most
few_all keyless None n most h few lt = few
few_all keyless (Some m) n most h few lt = omega (arith, h.1, few, lt)

short_all : {X : Type 0} (keyless : Bool) (limit : Option ℕ) (xs : List X) → IsNeverReached keyless limit → length (first_of (cond (not keyless) None limit) xs) < 2 ^ 33 → length xs < 2 ^ 64
short_all true None xs h lt = omega (arith, lt)
short_all false None xs h lt = omega (arith, lt)
short_all true (Some n) xs h lt = omega (arith, h.1, lt, length-take n xs)
short_all false (Some n) xs h lt = omega (arith, lt)

-- where only the first rows are looked at, there are clean more of them
abbrev pub IsFirst : Form → List Row → Type 0
IsFirst (form.First n) rows = length rows ≤ n
IsFirst f rows = Unit {0}

module _ (b : Bound) (most : ℕ) (small : most < 2 ^ 32) (rows : List Row) (v : Held) where
  abbrev held : Held
  held = v

  plain_holds : b.distinct ≡ false → Holds b rows held → HoldsAs false (is_empty b.keys) (most_listed b) b rows held
  plain_holds e h = subst (λ d. HoldsAs d (is_empty b.keys) (most_listed b) b rows held) e h

  holds_plain : b.distinct ≡ false → HoldsAs false (is_empty b.keys) (most_listed b) b rows held → Holds b rows held
  holds_plain e h = subst (λ d. HoldsAs d (is_empty b.keys) (most_listed b) b rows held) (sym e) h

  to_all : (keyless : Bool) (limit : Option ℕ) → IsNeverReached keyless limit → HoldsAs false keyless limit b rows held → HoldsRows (length b.columns) (length b.keys) rows v
  to_all true None n h = h
  to_all false None n h = h
  to_all true (Some m) n h = h
  to_all false (Some m) n h = cc

  from_all : (keyless : Bool) (limit : Option ℕ) → IsNeverReached keyless limit → HoldsRows (length b.columns) (length b.keys) rows v → HoldsAs false keyless limit b rows held
  from_all true None n h = h
  from_all false None n h = h
  from_all true (Some m) n h = h
  from_all false (Some m) n h = cc

  bar-within : (m n : ℕ) (list : List Row) (bar : Option (List Val)) → m ≤ n → HasBar b n list bar → HasBar b m list bar
  bar-within m n list None le h = tt
  bar-within m n list (Some bar) le h = omega (arith, h, le)

  bar-beyond : (m n : ℕ) (list : List Row) (bar : Option (List Val)) → (m ≤ length list → n ≤ m) → HasBar b m list bar → HasBar b n list bar
  bar-beyond m n list None le h = tt
  bar-beyond m n list (Some bar) le h =
      let long : m ≤ length list = omega (arith, h, count_by-le-length (λ (r : Row). is_le (keys_order b.keys r.keys bar)) list) in
      omega (arith, h, le long)

  -- so many rows first, or as many as fit 64 bits
  fewer : (limit : Option ℕ) (m : ℕ) → IsMost limit m → at_most limit (length rows) ≤ most → HoldsAs false false limit b rows held → HasFirst b m most rows v
  fewer None m is few h = absurd is
  fewer (Some n) m is few h =
      let whole = length_permutation rows (h.list ++ h.part.rest) h.part.whole in
      record {
        holds = record {
          list = h.list;
          holds = h.holds;
          part = record { rest = h.part.rest; whole = h.part.whole; behind = each-map _ _ (λ r le. omega (arith, le, is)) h.part.rest h.part.behind };
          short = omega (arith, h.short, is, few, small, whole, length-append h.list h.part.rest);
          bar = bar-within m n h.list v.bar (omega (arith, is)) h.bar;
        };
        few = omega (arith, few, is);
      }

  all_first : (limit : Option ℕ) (m : ℕ) → IsMost limit m → HasFirst b m most rows v → HoldsAs false false limit b rows held
  all_first None m is k = absurd is
  all_first (Some n) m is k =
      let h = k.holds in
      let few = k.few in
      let whole = length_permutation rows (h.list ++ h.part.rest) h.part.whole in
      record {
        list = h.list;
        holds = h.holds;
        part = record {
          rest = h.part.rest;
          whole = h.part.whole;
          behind = each-map _ _ (λ r le. omega (arith, le, is, k.few, small, whole, length-append h.list h.part.rest, count_by-le-length (λ x. is_le (by_keys b x r)) h.list)) h.part.rest h.part.behind;
        };
        short = omega (arith, h.short, is);
        bar = bar-beyond m n h.list v.bar (λ k. omega (arith, k, is, few, small, whole, length-append h.list h.part.rest)) h.bar;
      }

  pub keeps_of : (f : Form) → HasForm b f → IsFirst f rows → kept b rows ≤ most → Holds b rows held → Has f b most rows v
  keeps_of form.All f s few h =
      (to_all (is_empty b.keys) (most_listed b) f.1 (plain_holds f.0 h), few_all (is_empty b.keys) (most_listed b) (length rows) most f.1 (omega (arith, few, plain_kept b rows f.0)) small)
  keeps_of (form.First n) f s few h =
      let at : HoldsAs false true (most_listed b) b rows held = subst (λ k. HoldsAs false k (most_listed b) b rows held) f.1 (plain_holds f.0 h) in
      let count : kept b rows ≡ min (length rows) n = plain_kept b rows f.0 ∙ ap (λ m. at_most m (length rows)) f.2 in
      (at, omega (arith, few, count, s), s)
  keeps_of (form.Top m) f s few h =
      fewer (most_listed b) m f.2 (omega (arith, few, plain_kept b rows f.0)) (subst (λ k. HoldsAs false k (most_listed b) b rows held) f.1 (plain_holds f.0 h))
  keeps_of form.Classes f s few h =
      record {
        holds = subst (λ d. HoldsAs d (is_empty b.keys) (most_listed b) b rows held) f h;
        few = omega (arith, few, ap (λ d. cond d (length (classes rows)) (at_most (most_listed b) (length rows))) f);
      }

  pub few_of : (f : Form) → HasForm b f → Has f b most rows v → kept b rows ≤ most
  few_of form.All f k = omega (arith, kept_same b form.All rows f (omega (arith, k.1, small)), k.1)
  few_of (form.First n) f k = omega (arith, kept_same b (form.First n) rows f k.2, k.1)
  few_of (form.Top m) f k = omega (arith, kept_same b (form.Top m) rows f (omega (arith, k.few, small)), k.few)
  few_of form.Classes f k = omega (arith, kept_same b form.Classes rows f tt, k.few)

  pub holds_of : (f : Form) → HasForm b f → Has f b most rows v → Holds b rows held
  holds_of form.All f k = holds_plain f.0 (from_all (is_empty b.keys) (most_listed b) f.1 k.0)
  holds_of (form.First n) f k = holds_plain f.0 (subst (λ e. HoldsAs false e (most_listed b) b rows held) (sym f.1) k.0)
  holds_of (form.Top m) f k = holds_plain f.0 (subst (λ e. HoldsAs false e (most_listed b) b rows held) (sym f.1) (all_first (most_listed b) m f.2 k))
  holds_of form.Classes f k = subst (λ d. HoldsAs d (is_empty b.keys) (most_listed b) b rows held) (sym f) k.holds

-- ---- what a table stands for

sizes : (rows : List Row) → length (map (λ r. let q : Result Row Fault = Ok r in q) rows) ≡ length rows
sizes rows = length-map rows _

module _ (b : Bound) (f : Form) (most : ℕ) (form_is : HasForm b f) (small : most < 2 ^ 32) (outcomes : List (Result Row Fault)) (v : Held) where
  pub stands_by : StandsFor b most outcomes v → StandsBy b f most outcomes v
  stands_by s = go f form_is
    where
      size : length (first_of (cut_of b) outcomes) ≡ length s.rows
      size = ap length s.looked ∙ sizes s.rows

      go : (g : Form) → HasForm b g → StandsBy b g most outcomes v
      go form.All h =
          let few : length s.rows ≤ most = few_all (is_empty b.keys) (most_listed b) (length s.rows) most h.1 (omega (arith, s.few, plain_kept b s.rows h.0)) small in
          let short : length outcomes < 2 ^ 64 = short_all (is_empty b.keys) (most_listed b) outcomes h.1 (omega (arith, few, small, size, ap (λ d. length (first_of (cond (d || not (is_empty b.keys)) None (most_listed b)) outcomes)) h.0)) in
          record { rows = s.rows; looked = sym (looks b form.All outcomes h short) ∙ s.looked; keeps = keeps_of b most small s.rows v form.All h tt s.few s.holds }
      go (form.First n) h =
          let looked = sym (looks b (form.First n) outcomes h tt) ∙ s.looked in
          record { rows = s.rows; looked = looked; keeps = keeps_of b most small s.rows v (form.First n) h (omega (arith, length-take n outcomes, ap length looked, sizes s.rows)) s.few s.holds }
      go (form.Top m) h = record { rows = s.rows; looked = sym (looks b (form.Top m) outcomes h tt) ∙ s.looked; keeps = keeps_of b most small s.rows v (form.Top m) h tt s.few s.holds }
      go form.Classes h = record { rows = s.rows; looked = sym (looks b form.Classes outcomes h tt) ∙ s.looked; keeps = keeps_of b most small s.rows v form.Classes h tt s.few s.holds }

  pub stands_for : StandsBy b f most outcomes v → StandsFor b most outcomes v
  stands_for s = record {
    rows = s.rows;
    looked = looks b f outcomes form_is (short f s.looked s.keeps) ∙ s.looked;
    few = few_of b most small s.rows v f form_is s.keeps;
    holds = holds_of b most small s.rows v f form_is s.keeps;
  }
    where
      short : (g : Form) → form_cut g outcomes ≡ map Ok s.rows → Has g b most s.rows v → IsShort g outcomes
      short form.All e k = omega (arith, ap length e, sizes s.rows, k.1, small)
      short (form.First n) e k = tt
      short (form.Top m) e k = tt
      short form.Classes e k = tt

-- A table stands for the listing that was pushed to it, one outcome after another.
use Rattle.std.proofs.Common.{◌≡◌, ℕ, ◌*◌, ◌^◌, ◌<◌, ◌≤◌, Bool, true, false, not, cond, List, [], ◌∷◌, ◌++◌, length, map, take, Ok, Err, Result, Some, None, Option, refl, sym, ap, ◌∙◌, subst, arith, length-append, length-take, append-nil, true≢false}
use Rattle.std.specs.Prelude.{nat_le, ◌||◌}
use Rattle.std.specs.List.{Contains}
use Rattle.std.proofs.lemmas.Bool.Decides.{nat_tests}
use Rattle.std.proofs.lemmas.List.{length-map, map-append, take_all}
use Rattle.std.proofs.lemmas.List.Elements.{Contains-push}
use Rattle.std.proofs.lemmas.List.Sorted.{length_permutation}
use Rattle.gq_base.specs.Lists.{is_empty}
use Rattle.gq_base.specs.Plain.{Graph}
use Rattle.gq_expr.specs.declared.Fault.{Fault}
use Rattle.gq_plan.specs.Meaning.{found}
use Rattle.gq_plan.specs.Outcomes.{Row}
use Rattle.gq_plan.specs.declared.bound.Bound.{Bound}
use Rattle.gq_plan.specs.declared.typed.Typed.{Typed}
use Rattle.gq_kept.specs.Answers.{cut_of, kept, looked_at, most_listed, rows_in}
use Rattle.gq_kept.specs.Forms.{Has, HasFirst, HasForm, HasFull, HasMore, HasPast, IsNeverReached, IsNoFault, PushesHeld}
use Rattle.gq_kept.specs.Tables.{Held, Pushes, StandsFor, Table, Takes, is_full}
use Rattle.gq_kept.specs.declared.form.Form.{Form}
use Rattle.gq_kept.specs.declared.form.Form.TheVariants as form
use Rattle.gq_kept.specs.declared.refusal.More.{More}
use Rattle.gq_kept.specs.declared.refusal.More.TheVariants as more
use Rattle.gq_kept.specs.declared.refusal.RowRefusal.{RowRefusal}
use Rattle.gq_kept.specs.declared.refusal.RowRefusal.TheVariants as refusal
use Rattle.gq_kept.proofs.Forms.{IsFew, IsShort, StandsBy, form_cut, kept_same, looks, stands_by, stands_for}
use Rattle.gq_kept.proofs.Listings.{rows_append, rows_of_rows}

pub top-open : (b : Bound) (n most : ℕ) (rows : List Row) (v : Held) → HasFirst b n most rows v → v.count ≤ 2 * most
top-open b n most rows v k =
    let h = k.holds in
    omega (arith, h.holds.count, k.few, h.short, length_permutation rows (h.list ++ h.part.rest) h.part.whole, length-append h.list h.part.rest)

-- ---- whether a table is full

never_full : (keyless : Bool) (limit : Option ℕ) (v : Held) → IsNeverReached keyless limit → v.count < 2 ^ 64 → is_full (cond (not keyless) None limit) v ≡ false
never_full true None v h lt = refl
never_full false None v h lt = refl
never_full true (Some n) v h lt = less n v.count (omega (arith, h.1, lt))
  where
    less : (m n : ℕ) → n < m → nat_le m n ≡ false
    less m n k = grind (arith, nat_tests, k)
never_full false (Some n) v h lt = refl

pub full_is : (b : Bound) (f : Form) (v : Held) → HasForm b f → HasFull f v → is_full (cut_of b) v ≡ true
full_is b form.All v h full = absurd full
full_is b (form.First n) v h full = rw (h.0, h.1, h.2) (yes n v.count full)
  where
    yes : (m n : ℕ) → m ≤ n → nat_le m n ≡ true
    yes m n k = grind (arith, nat_tests, k)
full_is b (form.Top n) v h full = absurd full
full_is b form.Classes v h full = absurd full

pub open_is : (b : Bound) (f : Form) (v : Held) → HasForm b f → v.count < 2 ^ 64 → (HasFull f v → ⊥) → is_full (cut_of b) v ≡ false
open_is b form.All v h lt room = ap (λ d. is_full (cond (d || not (is_empty b.keys)) None (most_listed b)) v) h.0 ∙ never_full (is_empty b.keys) (most_listed b) v h.1 lt
open_is b (form.First n) v h lt room = rw (h.0, h.1, h.2) (less n v.count (omega (arith, room)))
  where
    less : (m n : ℕ) → n < m → nat_le m n ≡ false
    less m n k = grind (arith, nat_tests, k)
open_is b (form.Top n) v h lt room = rw (h.0, h.1) refl
open_is b form.Classes v h lt room = rw h refl

pub room_of : (b : Bound) (f : Form) (v : Held) → HasForm b f → is_full (cut_of b) v ≡ false → HasFull f v → ⊥
room_of b f v h room full = true≢false (sym (full_is b f v h full) ∙ room)

-- ---- one more outcome

sizes : (rows : List Row) → length (map (λ r. let q : Result Row Fault = Ok r in q) rows) ≡ length rows
sizes rows = length-map rows _

module _ (b : Bound) (f : Form) (most : ℕ) (form_is : HasForm b f) (small : most < 2 ^ 32) (v : Held) (room : HasFull f v → ⊥) (outcomes : List (Result Row Fault)) (s : StandsBy b f most outcomes v) where
  -- all that was pushed is looked at, and one more is
  few_first : (n : ℕ) → (n ≤ v.count → ⊥) → Has (form.First n) b most s.rows v → take n outcomes ≡ map Ok s.rows → length outcomes < n
  few_first n open_at k e = omega (arith, open_at, k.0.count, ap length e, sizes s.rows, length-take n outcomes)

  all_by : (g : Form) → (HasFull g v → ⊥) → Has g b most s.rows v → form_cut g outcomes ≡ map Ok s.rows → outcomes ≡ map Ok s.rows
  all_by form.All open_at k e = e
  all_by (form.First n) open_at k e = sym (take_all n outcomes (let less = few_first n open_at k e in omega arith)) ∙ e
  all_by (form.Top n) open_at k e = e
  all_by form.Classes open_at k e = e

  all_looked : outcomes ≡ map Ok s.rows
  all_looked = all_by f room s.keeps s.looked

  more_by : (g : Form) → (HasFull g v → ⊥) → Has g b most s.rows v → form_cut g outcomes ≡ map Ok s.rows → (x : Result Row Fault) → form_cut g (outcomes ++ x ∷ []) ≡ outcomes ++ x ∷ []
  more_by form.All open_at k e x = refl
  more_by (form.First n) open_at k e x = take_all n (outcomes ++ x ∷ []) (omega (arith, few_first n open_at k e, length-append outcomes (x ∷ [])))
  more_by (form.Top n) open_at k e x = refl
  more_by form.Classes open_at k e x = refl

  one_more : (x : Result Row Fault) → form_cut f (outcomes ++ x ∷ []) ≡ map Ok s.rows ++ x ∷ []
  one_more x = more_by f room s.keeps s.looked x ∙ ap (λ l. l ++ x ∷ []) all_looked

  accepted : (new : Held) (o : Option (Result Row Fault)) → IsNoFault o → HasMore f b most o v new → StandsBy b f most (outcomes ++ found o) new
  accepted new None clean more = record { rows = s.rows; looked = ap (form_cut f) (append-nil outcomes) ∙ s.looked; keeps = more s.rows s.keeps }
  accepted new (Some (Ok row)) clean more = record { rows = s.rows ++ row ∷ []; looked = one_more (Ok row) ∙ sym (map-append Ok s.rows (row ∷ [])); keeps = more s.rows s.keeps }
  accepted new (Some (Err e)) clean more = absurd clean

  short_more : (g : Form) → Has g b most s.rows v → (x : Result Row Fault) → IsShort g (outcomes ++ x ∷ [])
  short_more form.All k x = omega (arith, ap length all_looked, sizes s.rows, k.1, small, length-append outcomes (x ∷ []))
  short_more (form.First n) k x = tt
  short_more (form.Top n) k x = tt
  short_more form.Classes k x = tt

  looked_fault : (e : Fault) → Contains (looked_at b (outcomes ++ Err e ∷ [])) (Err e)
  looked_fault e =
      let same : looked_at b (outcomes ++ Err e ∷ []) ≡ map Ok s.rows ++ Err e ∷ [] = looks b f (outcomes ++ Err e ∷ []) form_is (short_more f s.keeps (Err e)) ∙ one_more (Err e) in
      subst (λ l. Contains l (Err e)) (sym same) (Contains-push (map Ok s.rows) (Err e))

  few_more : (g : Form) → (HasFull g v → ⊥) → Has g b most s.rows v → (row : Row) → IsFew g (s.rows ++ row ∷ [])
  few_more form.All open_at k row = omega (arith, k.1, small, length-append s.rows (row ∷ []))
  few_more (form.First n) open_at k row = omega (arith, open_at, k.0.count, length-append s.rows (row ∷ []))
  few_more (form.Top n) open_at k row = omega (arith, k.few, small, length-append s.rows (row ∷ []))
  few_more form.Classes open_at k row = tt

  past : (row : Row) → HasPast f b most row v → most < kept b (rows_in (outcomes ++ Ok row ∷ []))
  past row over =
      let rows : rows_in (outcomes ++ Ok row ∷ []) ≡ s.rows ++ row ∷ [] =
      rows_append outcomes (Ok row ∷ []) ∙ ap (λ l. l ++ row ∷ []) (ap rows_in all_looked ∙ rows_of_rows s.rows) in
      omega (arith, over s.rows s.keeps, ap (kept b) rows, kept_same b f (s.rows ++ row ∷ []) form_is (few_more f room s.keeps row))

-- a table that keeps all rows holds clean more than are kept
few_held : (b : Bound) (f : Form) (most : ℕ) (rows : List Row) (v : Held) → most < 2 ^ 32 → Has f b most rows v → HasForm b f → (HasFull f v → ⊥) → is_full (cut_of b) v ≡ false
few_held b form.All most rows v small k h room = open_is b form.All v h (omega (arith, small, k.0.count, k.1)) room
few_held b (form.First n) most rows v small k h room = open_is b (form.First n) v h (omega (arith, small, k.0.count, k.1)) room
few_held b (form.Top n) most rows v small k h room = open_is b (form.Top n) v h (omega (arith, small, top-open b n most rows v k)) room
few_held b form.Classes most rows v small k h room = open_is b form.Classes v h (omega (arith, small, k.holds.count, k.few)) room

module _ (b : Bound) (f : Form) (most : ℕ) (y : Option Typed) (g : Graph) (n : ℕ) (small : most < 2 ^ 32) (form_is : HasForm b f) (h : Held) (room : is_full (cut_of b) h ≡ false)
    (some : (outcomes : List (Result Row Fault)) × StandsFor b most outcomes h) where
  -- the table with what is held
  abbrev with_held : Held → Table
  with_held held = record { bound = b; most = most; alternative = y; graph = g; held = held; pushed = n }

  open_at : HasFull f h → ⊥
  open_at = room_of b f h form_is room

  by_form : (outcomes : List (Result Row Fault)) → StandsFor b most outcomes h → StandsBy b f most outcomes h
  by_form outcomes s = stands_by b f most form_is small outcomes h s

  takes : (new : Held) (o : Option (Result Row Fault)) → IsNoFault o → HasMore f b most o h new → Takes o (with_held h) (with_held new)
  takes new o clean more = λ outcomes s.
      stands_for b f most form_is small (outcomes ++ found o) new (accepted b f most form_is small h open_at outcomes (by_form outcomes s) new o clean more)

  -- the rows of which what is held is kept now
  kept_now : (new : Held) (o : Option (Result Row Fault)) → IsNoFault o → HasMore f b most o h new → StandsBy b f most (some.0 ++ found o) new
  kept_now new o clean more = accepted b f most form_is small h open_at some.0 (by_form some.0 some.1) new o clean more

  pub pushes : (new : Held) (o : Option (Result Row Fault)) (r : Result More RowRefusal) → PushesHeld f b most o h new r → Pushes o (with_held h) (with_held new) r
  pushes new o (Ok more.Go) p =
      let now = kept_now new o p.0 p.1 in
      (takes new o p.0 p.1, few_held b f most now.rows new small now.keeps form_is p.2)
  pushes new o (Ok more.Enough) p = (takes new o p.0 p.1, full_is b f new form_is p.2)
  pushes new o (Err (refusal.Fault e)) p = (
    p,
    λ outcomes s.
        subst (λ q. Contains (looked_at b (outcomes ++ found q)) (Err e)) (sym p) (looked_fault b f most form_is small h open_at outcomes (by_form outcomes s) e),
  )
  pushes new o (Err (refusal.TooManyRows l)) p = (
    p.0,
    λ outcomes s.
        subst (λ q. most < kept b (rows_in (outcomes ++ found q))) (sym p.1.1) (past b f most form_is small h open_at outcomes (by_form outcomes s) p.1.0 p.1.2),
  )
  pushes new o (Err (refusal.Memory why)) p = tt

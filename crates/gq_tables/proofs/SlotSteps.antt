-- A row that is put at a key: in the first open slot of the key's window, or elsewhere where other keys have them all.
use Rattle.std.proofs.Common.{◌≡◌, ℕ, zero, suc, ◌+◌, ◌-◌, ◌<◌, min, Bool, true, false, cond, List, [], ◌∷◌, length, get_or, set, replicate, take, drop, Some, None, Ok, Err, refl, sym, ap, subst, ◌∙◌, inl, inr, arith}
use Rattle.std.specs.Prelude.{IfOk, OnErr, nat_lt, option_map, slice_set, slice_range}
use Rattle.std.specs.List.{find, position_or_len}
use Rattle.std.specs.Option.{option_map_or}
use Rattle.std.specs.declared.option.Option.{Option}
use Rattle.std.specs.declared.result.Result.{Result}
use Rattle.std.proofs.lemmas.Bool.{cases_lt, ltb-false, ltb-true}
use Rattle.std.proofs.lemmas.List.{drop-set-add, drop-set-lt, get_or-drop, get_or-take, length-set, length-take}
use Rattle.std.proofs.lemmas.List.Folds.{find-set, find_at, find_past}
use Rattle.std.proofs.lemmas.List.Quantifiers.{position-Some}
use Rattle.std.proofs.lemmas.Option.{slice_get-get_or, slice_get_past}
use Rattle.gq_base.specs.Valid.{same_key}
use Rattle.gq_base.specs.ValueLaws.{same_val}
use Rattle.gq_base.specs.Values.{Val, val}
use Rattle.gq_tables.specs.steps.Slots.{IsSpare, has_key, is_open, own_slot, place_of, row_in, row_or, slot_of, window}
use Rattle.gq_tables.specs.declared.key_index.Entry.{Entry}
use Rattle.gq_tables.specs.declared.key_index.TheConstants.{WINDOW}

-- ---- some slots

-- the row that one of some slots has for a key, or else what stands elsewhere
abbrev told : Val → List (Option Entry) → Option ℕ → Option ℕ
told v slots o = option_map_or row_in (find (has_key v) slots) o

-- a key that comes to a free one of some slots first stands nowhere
abbrev Spare : Val → List (Option Entry) → Option ℕ → Type 0
Spare v slots o = find (is_open v) slots ≡ Some None → told v slots o ≡ None

-- past a slot with a key, two searches that end alike behind it end alike
same_past : (b : Bool) (there : Entry) (opened has x : Option (Option Entry)) → (opened ≡ x → has ≡ x) → cond b (Some (Some there)) opened ≡ x → cond b (Some (Some there)) has ≡ x
same_past true there opened has x rest e = e
same_past false there opened has x rest e = rest e

-- the first open slot has the key, unless it is free
has_first : (v : Val) (slots : List (Option Entry)) (x : Option (Option Entry)) → (Some None ≡ x → ⊥) → find (is_open v) slots ≡ x → find (has_key v) slots ≡ x
has_first v [] x taken e = e
has_first v (None ∷ slots) x taken e = absurd (taken e)
has_first v (Some there ∷ slots) x taken e =
    same_past (same_key (val there.key) v) there (find (is_open v) slots) (find (has_key v) slots) x (has_first v slots x taken) e

-- the first open slot tells of a key
first_tells : (v : Val) (slots : List (Option Entry)) (o : Option ℕ) (slot : Option Entry) → Spare v slots o → find (is_open v) slots ≡ Some slot → row_in slot ≡ told v slots o
first_tells v slots o None spare e = sym (spare e)
first_tells v slots o (Some there) spare e = sym (ap (λ x. option_map_or row_in x o) (has_first v slots (Some (Some there)) (λ free. cc free) e))

-- where no slot is open, what stands elsewhere stays
none_tells : (v : Val) (slots : List (Option Entry)) (o : Option ℕ) → find (is_open v) slots ≡ None → told v slots o ≡ o
none_tells v slots o e = ap (λ x. option_map_or row_in x o) (has_first v slots None (λ free. cc free) e)

module _ (key v : Val) (apart : same_key key v ≡ false) where
  -- a slot that is open to one key has no other
  not_here : (slot : Option Entry) → is_open key slot ≡ true → has_key v slot ≡ false
  not_here None h = refl
  not_here (Some there) h = ap (λ k. same_key k v) (same_val (val there.key) key h) ∙ apart

  module _ (entry : Entry) (own : val entry.key ≡ key) where
    unlike : same_key (val entry.key) v ≡ false
    unlike = ap (λ k. same_key k v) own ∙ apart

    -- what is told of other keys stays
    still : (slots : List (Option Entry)) (n : ℕ) → is_open key (get_or slots n None) ≡ true → find (has_key v) (set slots n (Some entry)) ≡ find (has_key v) slots
    still slots n opened = find_past (has_key v) slots n (Some entry) None (not_here (get_or slots n None) opened) unlike

    spare_first : (there : Entry) (slots : List (Option Entry)) (o : Option ℕ) → is_open key (Some there) ≡ true → Spare v (Some there ∷ slots) o
        → find (is_open v) (Some entry ∷ slots) ≡ Some None → told v (Some there ∷ slots) o ≡ None
    spare_first there slots o opened spare free = spare (
        ap (λ b. cond b (Some (Some there)) (find (is_open v) slots)) (not_here (Some there) opened)
        ∙ sym (ap (λ b. cond b (Some (Some entry)) (find (is_open v) slots)) unlike)
        ∙ free)

    spare_past : (b : Bool) (there : Entry) (opened after has : Option (Option Entry)) (o : Option ℕ)
        → ((opened ≡ Some None → option_map_or row_in has o ≡ None) → after ≡ Some None → option_map_or row_in has o ≡ None)
        → (cond b (Some (Some there)) opened ≡ Some None → option_map_or row_in (cond b (Some (Some there)) has) o ≡ None)
        → cond b (Some (Some there)) after ≡ Some None → option_map_or row_in (cond b (Some (Some there)) has) o ≡ None
    spare_past true there opened after has o rest spare free = cc free
    spare_past false there opened after has o rest spare free = rest spare free

    -- a write over a slot that was open to its key frees no slot before another key
    spare_step : (slots : List (Option Entry)) (n : ℕ) (o : Option ℕ) → is_open key (get_or slots n None) ≡ true → Spare v slots o
        → find (is_open v) (set slots n (Some entry)) ≡ Some None → told v slots o ≡ None
    spare_step [] n o opened spare free = spare free
    spare_step (None ∷ slots) n o opened spare free = spare refl
    spare_step (Some there ∷ slots) zero o opened spare free = spare_first there slots o opened spare free
    spare_step (Some there ∷ slots) (suc n) o opened spare free =
        spare_past (same_key (val there.key) v) there (find (is_open v) slots) (find (is_open v) (set slots n (Some entry))) (find (has_key v) slots) o
        (spare_step slots n o opened) spare free

    still_spare : (slots : List (Option Entry)) (n : ℕ) (o : Option ℕ) → is_open key (get_or slots n None) ≡ true → Spare v slots o → Spare v (set slots n (Some entry)) o
    still_spare slots n o opened spare free =
        ap (λ x. option_map_or row_in x o) (still slots n opened) ∙ spare_step slots n o opened spare free

-- ---- windows

-- the front of a list after a write is the front of it before, with the write
take_set : {X : Type 0} (n : ℕ) (xs : List X) (i : ℕ) (y : X) → take n (set xs i y) ≡ set (take n xs) i y
take_set zero xs i y = refl
take_set (suc n) [] i y = refl
take_set (suc n) (x ∷ xs) zero y = refl
take_set (suc n) (x ∷ xs) (suc i) y = ap (λ zs. x ∷ zs) (take_set n xs i y)

open_within : (key : Val) (n : ℕ) (slots : List (Option Entry)) (i : ℕ) → is_open key (get_or slots i None) ≡ true → is_open key (get_or (take n slots) i None) ≡ true
open_within key zero slots i opened = refl
open_within key (suc n) [] i opened = refl
open_within key (suc n) (x ∷ slots) zero opened = opened
open_within key (suc n) (x ∷ slots) (suc i) opened = open_within key n slots i opened

module _ (slots : List (Option Entry)) (place : ℕ) (entry : Entry) (v : Val) where
  abbrev own : ℕ
  own = own_slot slots v

  abbrev new : List (Option Entry)
  new = slice_set slots place (Some entry)

  as_before : window new v ≡ slice_range new own (own + WINDOW)
  as_before = ap (λ n. slice_range new (slot_of (n - WINDOW + 1) v) (slot_of (n - WINDOW + 1) v + WINDOW)) (length-set slots place (Some entry))

  -- a window that begins behind the place
  window_behind : place < own → window new v ≡ window slots v
  window_behind behind = as_before ∙ ap (λ xs. take (own + WINDOW - own) xs) (drop-set-lt own slots place (Some entry) behind)

  -- a window that begins so many steps before the place
  window_before : (steps : ℕ) → place ≡ own + steps → window new v ≡ set (window slots v) steps (Some entry)
  window_before steps at =
      as_before
      ∙ ap (λ n. slice_range (set slots n (Some entry)) own (own + WINDOW)) at
      ∙ ap (λ xs. take (own + WINDOW - own) xs) (drop-set-add own slots steps (Some entry))
      ∙ take_set (own + WINDOW - own) (drop own slots) steps (Some entry)

  open_there : (key : Val) (steps : ℕ) → place ≡ own + steps → is_open key (get_or slots place None) ≡ true → is_open key (get_or (window slots v) steps None) ≡ true
  open_there key steps at opened =
      open_within key (own + WINDOW - own) (drop own slots) steps
      (ap (is_open key) (get_or-drop own slots steps None ∙ ap (λ n. get_or slots n None) (sym at)) ∙ opened)

-- ---- the first open slot of a window

found_at : (b : Bool) (own steps place : ℕ) → option_map (λ n. own + n) (cond b (Some steps) None) ≡ Some place → (place ≡ own + steps) × (b ≡ true)
found_at true own steps place e = (cc e, refl)
found_at false own steps place e = cc e

not_found : (b : Bool) (own steps : ℕ) → option_map (λ n. own + n) (cond b (Some steps) None) ≡ None → b ≡ false
not_found true own steps e = cc e
not_found false own steps e = refl

module _ (slots : List (Option Entry)) (key : Val) where
  abbrev steps : ℕ
  steps = position_or_len (is_open key) (window slots key)

  none_open : place_of slots key ≡ None → find (is_open key) (window slots key) ≡ None
  none_open e =
      let all : nat_lt steps (length (window slots key)) ≡ false = not_found (nat_lt steps (length (window slots key))) (own_slot slots key) steps e in
      find_at (is_open key) (window slots key) ∙ slice_get_past (window slots key) steps (ltb-false steps (length (window slots key)) all)

  -- where other keys have the whole window, what stands elsewhere stays
  pub others_tell : (o : Option ℕ) → place_of slots key ≡ None → o ≡ row_or slots key o
  others_tell o e = sym (none_tells key (window slots key) o (none_open e))

  module _ (place : ℕ) (found : place_of slots key ≡ Some place) where
    at : place ≡ own_slot slots key + steps
    at = (found_at (nat_lt steps (length (window slots key))) (own_slot slots key) steps place found).0

    some_open : nat_lt steps (length (window slots key)) ≡ true
    some_open = (found_at (nat_lt steps (length (window slots key))) (own_slot slots key) steps place found).1

    within : steps < length (window slots key)
    within = ltb-true steps (length (window slots key)) some_open

    in_window : get_or (window slots key) steps None ≡ get_or slots place None
    in_window =
        let size : length (window slots key) ≡ min (own_slot slots key + WINDOW - own_slot slots key) (length (drop (own_slot slots key) slots))
        = length-take (own_slot slots key + WINDOW - own_slot slots key) (drop (own_slot slots key) slots) in
        let below : steps < own_slot slots key + WINDOW - own_slot slots key = omega (arith, size, within) in
        get_or-take (own_slot slots key + WINDOW - own_slot slots key) (drop (own_slot slots key) slots) steps None below
        ∙ get_or-drop (own_slot slots key) slots steps None
        ∙ ap (λ n. get_or slots n None) (sym at)

    is_first : find (is_open key) (window slots key) ≡ Some (get_or slots place None)
    is_first = find_at (is_open key) (window slots key) ∙ slice_get-get_or (window slots key) steps None within ∙ ap Some in_window

    is_open_there : is_open key (get_or slots place None) ≡ true
    is_open_there =
        sym (ap (is_open key) in_window)
        ∙ (position-Some (is_open key) (window slots key) steps None (ap (λ b. cond b (Some steps) None) some_open)).1

    -- the slot at the place tells of the key
    pub place_tells : (others : Val → Option ℕ) → IsSpare slots others → row_in (get_or slots place None) ≡ row_or slots key (others key)
    place_tells others spare = first_tells key (window slots key) (others key) (get_or slots place None) (spare key) is_first

    module _ (entry : Entry) (own_key : val entry.key ≡ key) where
      abbrev put : List (Option Entry)
      put = slice_set slots place (Some entry)

      entry_first : same_key key key ≡ true → find (is_open key) (window put key) ≡ Some (Some entry)
      entry_first same =
          ap (find (is_open key)) (window_before slots place entry key steps at)
          ∙ find-set (is_open key) (window slots key) steps (Some entry) refl within (ap (λ k. same_key k key) own_key ∙ same)

      found_by : (v : Val) → same_key key v ≡ true → find (is_open v) (window put v) ≡ Some (Some entry)
      found_by v t =
          let is : key ≡ v = same_val key v t in
          subst (λ w. find (is_open w) (window put w) ≡ Some (Some entry)) is (entry_first (subst (λ w. same_key key w ≡ true) (sym is) t))

      -- in each window, of other keys
      module _ (v : Val) (apart : same_key key v ≡ false) where
        told_still : (o : Option ℕ) → row_or put v o ≡ row_or slots v o
        told_still o = elim (cases_lt place (own_slot slots v)) as (λ _. row_or put v o ≡ row_or slots v o) [
          | inl behind ↦ ap (λ w. told v w o) (window_behind slots place entry v behind)
          | inr before ↦
              let from : place ≡ own_slot slots v + (place - own_slot slots v) = omega (arith, before) in
              ap (λ w. told v w o) (window_before slots place entry v (place - own_slot slots v) from)
              ∙ ap (λ x. option_map_or row_in x o)
              (still key v apart entry own_key (window slots v) (place - own_slot slots v) (open_there slots place entry v key (place - own_slot slots v) from is_open_there))
        ]

        window_spare : (o : Option ℕ) → Spare v (window slots v) o → Spare v (window put v) o
        window_spare o spare = elim (cases_lt place (own_slot slots v)) as (λ _. Spare v (window put v) o) [
          | inl behind ↦ subst (λ w. Spare v w o) (sym (window_behind slots place entry v behind)) spare
          | inr before ↦
              let from : place ≡ own_slot slots v + (place - own_slot slots v) = omega (arith, before) in
              subst (λ w. Spare v w o) (sym (window_before slots place entry v (place - own_slot slots v) from))
              (still_spare key v apart entry own_key (window slots v) (place - own_slot slots v) o
              (open_there slots place entry v key (place - own_slot slots v) from is_open_there) spare)
        ]

      put_by : (row : ℕ) → entry.row ≡ row → (v : Val) (o : Option ℕ) (b : Bool) → same_key key v ≡ b → row_or put v o ≡ cond b (Some row) (row_or slots v o)
      put_by row at_row v o true t = sym (first_tells v (window put v) o (Some entry) (λ free. cc (sym (found_by v t) ∙ free)) (found_by v t)) ∙ ap Some at_row
      put_by row at_row v o false t = told_still v t o

      -- into the slot
      pub put_there : (row : ℕ) → entry.row ≡ row → (v : Val) (o : Option ℕ) → row_or put v o ≡ cond (same_key key v) (Some row) (row_or slots v o)
      put_there row at_row v o = put_by row at_row v o (same_key key v) refl

      spare_by : (v : Val) (o : Option ℕ) (b : Bool) → same_key key v ≡ b → Spare v (window slots v) o → Spare v (window put v) o
      spare_by v o true t spare free = cc (sym (found_by v t) ∙ free)
      spare_by v o false t spare free = window_spare v t o spare free

      pub spare_there : (others : Val → Option ℕ) → IsSpare slots others → IsSpare put others
      spare_there others spare v = spare_by v (others v) (same_key key v) refl (spare v)

  module _ (row : ℕ) (taken : place_of slots key ≡ None) where
    elsewhere_by : (v : Val) (o : Option ℕ) (b : Bool) → same_key key v ≡ b → row_or slots v (cond b (Some row) o) ≡ cond b (Some row) (row_or slots v o)
    elsewhere_by v o true t = subst (λ w. row_or slots w (Some row) ≡ Some row) (same_val key v t) (sym (others_tell (Some row) taken))
    elsewhere_by v o false t = refl

    -- elsewhere
    put_elsewhere : (v : Val) (before after : Option ℕ) → after ≡ cond (same_key key v) (Some row) before
        → row_or slots v after ≡ cond (same_key key v) (Some row) (row_or slots v before)
    put_elsewhere v before after stands = ap (row_or slots v) stands ∙ elsewhere_by v before (same_key key v) refl

    pub put_after : {E : Type 0} (others after : Val → Option ℕ) (result : Result (Option ℕ) E) → IfOk result (λ before. (v : Val) → after v ≡ cond (same_key key v) (Some row) (others v))
        → IfOk result (λ before. (v : Val) → row_or slots v (after v) ≡ cond (same_key key v) (Some row) (row_or slots v (others v)))
    put_after others after (Ok before) stand = λ v. put_elsewhere v (others v) (after v) (stand v)
    put_after others after (Err e) stand = stand

    module _ (others after : Val → Option ℕ) (spare : IsSpare slots others) where
      spare_beside : (v : Val) (b : Bool) → same_key key v ≡ b → find (is_open v) (window slots v) ≡ Some None → row_or slots v (cond b (Some row) (others v)) ≡ None
      spare_beside v true t free = cc (sym (subst (λ w. find (is_open w) (window slots w) ≡ None) (same_val key v t) (none_open taken)) ∙ free)
      spare_beside v false t free = spare v free

      pub spare_after : {E : Type 0} (result : Result (Option ℕ) E) → IfOk result (λ before. (v : Val) → after v ≡ cond (same_key key v) (Some row) (others v))
          → OnErr result ((v : Val) → after v ≡ others v) → IsSpare slots after
      spare_after (Ok before) stand same = λ v free. ap (row_or slots v) (stand v) ∙ spare_beside v (same_key key v) refl free
      spare_after (Err e) stand same = λ v free. ap (row_or slots v) (same v) ∙ spare v free

-- ---- slots that are all free

none_among : (v : Val) (size first count : ℕ) → find (has_key v) (take size (drop first (replicate count None))) ≡ None
none_among v zero first count = refl
none_among v (suc size) zero zero = refl
none_among v (suc size) zero (suc count) = none_among v size zero count
none_among v (suc size) (suc first) zero = refl
none_among v (suc size) (suc first) (suc count) = none_among v (suc size) first count

-- free slots tell of no key
free_tell : (slots : List (Option Entry)) (count : ℕ) (v : Val) (o : Option ℕ) → slots ≡ replicate count None → row_or slots v o ≡ o
free_tell slots count v o free =
    ap (λ xs. option_map_or row_in (find (has_key v) (slice_range xs (own_slot slots v) (own_slot slots v + WINDOW))) o) free
    ∙ ap (λ x. option_map_or row_in x o) (none_among v (own_slot slots v + WINDOW - own_slot slots v) (own_slot slots v) count)

pub spare_free : (slots : List (Option Entry)) (count : ℕ) (others : Val → Option ℕ) → slots ≡ replicate count None → ((v : Val) → others v ≡ None) → IsSpare slots others
spare_free slots count others free none v e = free_tell slots count v (others v) free ∙ none v

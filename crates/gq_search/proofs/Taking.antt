-- A key is found, or none is left: what an advance says of it.
use Rattle.std.proofs.Common.{◌≡◌, ◌≢◌, ℕ, zero, suc, ◌+◌, ◌<◌, Bool, true, false, List, [], ◌∷◌, ◌++◌, length, set, refl, sym, ap, ◌∙◌, subst, arith}
use Rattle.std.specs.Prelude.{IsPermutation, MatchBool}
use Rattle.std.specs.List.{AllByRecursion}
use Rattle.std.proofs.lemmas.List.{length-set}
use Rattle.std.proofs.lemmas.List.Sorted.{IsPermutation-refl}
use Rattle.gq_search.specs.declared.walker.Cursor.{Cursor}
use Rattle.gq_search.specs.declared.walker.State.{State}
use Rattle.gq_search.specs.declared.walker.State.TheVariants.{Fresh, Standing, Done}
use Rattle.gq_search.specs.Layouts.{Layout, count, live, cell, has_one, key_of, At, owed_walks, owed_keys}
use Rattle.gq_search.specs.Running.{Machine, IsSound, keys_of, prefix, Runs, WithMarks, stands_at, stands_by, Taken, Moves, spot, chunk_of, owed_of, keys_owed}
use Rattle.gq_search.proofs.Cells.{bag_taken, bag_none, cell-some, cell-key}
use Rattle.gq_search.proofs.Runs.{runs-keys, choices-cell}
use Rattle.gq_search.proofs.Searching.{Search, found}

some-not-nil : {X : Type 0} (xs : List X) → has_one xs ≡ true → xs ≢ []
some-not-nil [] h e = (let f : false ≡ true = h in cc)
some-not-nil (x ∷ xs) h e = cc

keys-length : (cs : List Cursor) → length (keys_of cs) ≡ length cs
keys-length [] = refl
keys-length (c ∷ cs) = omega (arith, keys-length cs)

-- a machine that stands at the first key that was owed
pub taken_from : (l : Layout) (n : ℕ) (old new : Machine) → length new.cursors ≡ n → new.state ≡ Standing → Runs l [] new.cursors new.marks
    → keys_owed l n old ≡ keys_of new.cursors ∷ owed_keys l n (At (keys_of new.cursors)) → Taken l n old new
taken_from l n old new groups state runs e =
    let cs : List Cursor = new.cursors in
    let there : spot new ≡ At (keys_of new.cursors) = ap (λ (s : State). spot (record { cursors = new.cursors; marks = new.marks; state = s })) state in
    let chunk : cell l n [] (keys_of new.cursors) ≡ chunk_of l new =
    ap (λ m. cell l m [] (keys_of new.cursors)) (sym groups) ∙ sym (choices-cell l [] new.cursors new.marks runs) in
    let some : has_one (chunk_of l new) ≡ true =
    ap has_one (sym chunk) ∙ cell-some l n [] (keys_of new.cursors) (keys-length new.cursors ∙ groups) (runs-keys l [] new.cursors new.marks runs) in
    record {
      state = state;
      bag = subst (λ s. IsPermutation (owed_of l n old) (chunk_of l new ++ owed_walks l n s)) (sym there)
          (subst (λ ws. IsPermutation (owed_of l n old) (ws ++ owed_walks l n (At (keys_of new.cursors)))) chunk (bag_taken l n (spot old) (At (keys_of new.cursors)) (keys_of new.cursors) e));
      some = some-not-nil (chunk_of l new) some;
      one_key = subst (AllByRecursion (λ w. key_of l [] w ≡ keys_of new.cursors)) chunk (cell-key l n [] (keys_of new.cursors));
      next_key = e ∙ ap (λ s. keys_of new.cursors ∷ owed_keys l n s) (sym there);
    }

-- the last group got its number
pub moves_on : (l : Layout) (n : ℕ) (old new : Machine) (cs : List Cursor) (ms : List (List Bool)) (depth next : ℕ) → Search l n (keys_owed l n old) cs ms depth next → WithMarks l cs ms depth next new.marks
    → next < count l (prefix cs depth) → live l (prefix cs depth) next ≡ true → depth + 1 ≡ length cs → new.cursors ≡ set cs depth (stands_at cs depth next) → new.state ≡ Standing → Moves l n old true new
moves_on l n old new cs ms depth next s m inside alive last cursors state =
    let one = found l n (keys_owed l n old) cs ms new.marks depth next s m inside alive last in
    let runs : Runs l [] new.cursors new.marks = subst (λ c. Runs l [] c new.marks) (sym cursors) one.0 in
    let groups : length new.cursors ≡ n = ap length cursors ∙ length-set cs depth (stands_at cs depth next) ∙ s.opened.groups in
    let owed : keys_owed l n old ≡ keys_of new.cursors ∷ owed_keys l n (At (keys_of new.cursors)) =
    subst (λ (c : List Cursor). keys_owed l n old ≡ keys_of c ∷ owed_keys l n (At (keys_of c))) (sym cursors) one.1 in
    record {
      sound = record { groups = groups; marks = m.len ∙ s.opened.marks; standing = λ _. runs };
      answer = taken_from l n old new groups state runs owed;
    }

-- nothing is left
pub ends : (l : Layout) (n : ℕ) (old new : Machine) → length new.cursors ≡ n → length new.marks ≡ n → keys_owed l n old ≡ [] → new.state ≡ Done → Moves l n old false new
ends l n old new groups marks none state = record {
  sound = record { groups = groups; marks = marks; standing = λ standing. (let not : Done ≡ Standing = sym state ∙ standing in cc) };
  answer = record { state = state; none = bag_none l n (spot old) none; no_keys = none };
}

-- ---- a search over no groups

pub some_groups : (n : ℕ) → n ≢ 0 → 0 < n
some_groups zero h = absurd (h refl)
some_groups (suc n) h = omega arith

empty : {X : Type 0} (xs : List X) → length xs ≡ 0 → xs ≡ []
empty [] e = refl
empty (x ∷ xs) e = absurd (omega (arith, e))

-- what a step of it is
abbrev IsStep : State → Bool → State → Type 0
IsStep old told new = MatchBool told ((old ≡ Fresh) × (new ≡ Standing)) ((old ≢ Fresh) × (new ≡ Done))

abbrev bare : State → Machine
bare s = record { cursors = []; marks = []; state = s }

bare_is : (m : Machine) (s : State) → length m.cursors ≡ 0 → length m.marks ≡ 0 → m.state ≡ s → m ≡ bare s
bare_is m s cursors marks e = λ i. record { cursors = empty m.cursors cursors i; marks = empty m.marks marks i; state = e i }

first_alone : (l : Layout) → Moves l 0 (bare Fresh) true (bare Standing)
first_alone l = record {
  sound = record { groups = refl; marks = refl; standing = λ e. tt };
  answer = record { state = refl; bag = IsPermutation-refl ([] ∷ []); some = λ e. cc; one_key = (refl, tt); next_key = refl };
}

over_alone : (l : Layout) (s : State) → s ≢ Fresh → Moves l 0 (bare s) false (bare Done)
over_alone l Fresh h = absurd (h refl)
over_alone l Standing h = record { sound = record { groups = refl; marks = refl; standing = λ e. tt }; answer = record { state = refl; none = refl; no_keys = refl } }
over_alone l Done h = record { sound = record { groups = refl; marks = refl; standing = λ e. tt }; answer = record { state = refl; none = refl; no_keys = refl } }

pub moves_alone : (l : Layout) (n : ℕ) (old new : Machine) (told : Bool) → n ≡ 0 → IsSound l n old → new.cursors ≡ old.cursors → new.marks ≡ old.marks → IsStep old.state told new.state → Moves l n old told new
moves_alone l n old new told none sound cursors marks step = subst (λ m. Moves l m old told new) (sym none) (go told step)
  where
    old_is : (s : State) → old.state ≡ s → old ≡ bare s
    old_is s e = bare_is old s (sound.groups ∙ none) (sound.marks ∙ none) e

    new_is : (s : State) → new.state ≡ s → new ≡ bare s
    new_is s e = bare_is new s (ap length cursors ∙ sound.groups ∙ none) (ap length marks ∙ sound.marks ∙ none) e

    go : (b : Bool) → IsStep old.state b new.state → Moves l 0 old b new
    go true h = subst (λ m. Moves l 0 m true new) (sym (old_is Fresh h.0)) (subst (λ m. Moves l 0 (bare Fresh) true m) (sym (new_is Standing h.1)) (first_alone l))
    go false h = subst (λ m. Moves l 0 m false new) (sym (old_is old.state refl)) (subst (λ m. Moves l 0 (bare old.state) false m) (sym (new_is Done h.1)) (over_alone l old.state h.0))

-- what stands where it is
pub stands_alone : (P : List ℕ → Type 0) (s t : State) (told : Bool) (cs ds : List Cursor) → length cs ≡ 0 → ds ≡ cs → IsStep s told t → stands_by s cs P → stands_by t ds P
stands_alone P s t true cs ds none same h st =
    subst (λ r. stands_by r ds P) (sym h.1) (subst P (sym (ap keys_of (same ∙ empty cs none))) (subst (λ r. stands_by r cs P) h.0 st))
stands_alone P s t false cs ds none same h st = subst (λ r. stands_by r ds P) (sym h.1) tt

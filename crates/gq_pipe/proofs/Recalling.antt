-- What is remembered of the lists of groups, one after another, and where one of them was looked up.
use Rattle.std.proofs.Common.{◌≡◌, ◌≢◌, ℕ, zero, suc, ◌<◌, arith, List, [], ◌∷◌, ◌++◌, Option, Some, None, length, slice_get, refl, sym, ap, ◌∙◌, subst, inl, inr, ◌⊎◌}
use Rattle.std.specs.Prelude.{slice_index_or, slice_set}
use Rattle.std.proofs.Math.Logic.{∥∥₁_map, ∥∥₁_map₂}
use Rattle.std.proofs.lemmas.Bool.{cases_eq}
use Rattle.std.proofs.lemmas.List.{get_or_default, set-get_or}
use Rattle.std.proofs.lemmas.Option.{slice_get-get_or}
use Rattle.gq_sift.specs.Remembered.{IsRemembered}
use Rattle.gq_sift.specs.declared.remembered.Remembered.{Remembered}
use Rattle.gq_steps.specs.Groups.{group_at, no_group}
use Rattle.gq_steps.specs.Levels.{Run}
use Rattle.gq_steps.specs.declared.group_steps.GroupSteps.{GroupSteps}
use Rattle.gq_pipe.specs.steps.Recalled.{AreRemembered, IsOwn}
use Rattle.gq_pipe.proofs.Indexing.{one_more}

-- ---- a list in which one place was written

pub set_there : {X : Type 0} (xs : List X) (i : ℕ) (y : X) → i < length xs → slice_get (slice_set xs i y) i ≡ Some y
set_there [] i y low = absurd (omega (arith, low))
set_there (x ∷ xs) zero y low = refl
set_there (x ∷ xs) (suc i) y low = set_there xs i y (omega (arith, low))

pub set_apart : {X : Type 0} (xs : List X) (i d : ℕ) (y : X) → d ≢ i → slice_get (slice_set xs i y) d ≡ slice_get xs d
set_apart [] i d y other = refl
set_apart (x ∷ xs) zero zero y other = absurd (other refl)
set_apart (x ∷ xs) zero (suc d) y other = refl
set_apart (x ∷ xs) (suc i) zero y other = refl
set_apart (x ∷ xs) (suc i) (suc d) y other = set_apart xs i d y (λ e. other (ap suc e))

pub item_there : {X : Type 0} (ms : List (Option X)) (depth : ℕ) (x : Option X) (m : X) → depth < length ms → x ≡ slice_index_or ms depth x → x ≡ Some m → slice_get ms depth ≡ Some (Some m)
item_there ms depth x m low is some = slice_get-get_or ms depth x low ∙ ap Some (sym is ∙ some)

-- what is remembered in the place of one is of the same list
pub written_own : (c : Run) (x : GroupSteps) (ms : List (Option Remembered)) (depth : ℕ) (n : Remembered) → depth < length ms → ∥ IsRemembered c x n ∥₁ → IsOwn c x (slice_set ms depth (Some n)) depth
written_own c x ms depth n low r m at = let same : n ≡ m = cc (sym (set_there ms depth (Some n) low) ∙ at) in subst (λ k. ∥ IsRemembered c x k ∥₁) same r

-- a place that is written again as it was
pub same_again : {X : Type 0} (ms : List X) (depth : ℕ) (x y : X) → x ≡ slice_index_or ms depth x → y ≡ x → slice_set ms depth y ≡ ms
same_again ms depth x y is same = ap (slice_set ms depth) (same ∙ is) ∙ set-get_or ms depth x

-- ---- one group after another

pub none_remembered : (c : Run) (ss : List GroupSteps) → AreRemembered c ss []
none_remembered c ss depth m e = absurd (cc e)

pub one_remembered : (c : Run) (ss : List GroupSteps) (ms : List (Option Remembered)) (next : Option Remembered) → AreRemembered c ss ms → ((m : Remembered) → next ≡ Some m → IsRemembered c (group_at ss (length ms)) m) → AreRemembered c ss (ms ++ next ∷ [])
one_remembered c ss ms next are is = one_more (λ k m. IsRemembered c (group_at ss k) m) ms next are is

pub remembered_of : (c : Run) (ss gs : List GroupSteps) (ms : List (Option Remembered)) → gs ≡ ss → AreRemembered c gs ms → ∥ AreRemembered c ss ms ∥₁
remembered_of c ss gs ms is are = ∣ subst (λ g. AreRemembered c g ms) is are ∣₁

module _ (c : Run) (ss : List GroupSteps) (ms : List (Option Remembered)) (depth : ℕ) (inside : depth < length ss) (x : GroupSteps) (found : x ≡ slice_index_or ss depth x) where
  group_is : group_at ss depth ≡ x
  group_is = get_or_default ss depth no_group x inside ∙ sym found

  -- that of a group is of its own list
  pub own_recalled : ∥ AreRemembered c ss ms ∥₁ → IsOwn c x ms depth
  own_recalled recalls m there = ∥∥₁_map recalls (λ are. subst (λ s. IsRemembered c s m) group_is (are depth m there))

-- it stays so where that of one group changes
pub still_recalled : (c : Run) (ss : List GroupSteps) (ms new : List (Option Remembered)) (depth : ℕ) (inside : depth < length ss) (x : GroupSteps) (found : x ≡ slice_index_or ss depth x) → IsOwn c x new depth → ((d : ℕ) → d ≢ depth → slice_get new d ≡ slice_get ms d)
    → ∥ AreRemembered c ss ms ∥₁ → ∥ AreRemembered c ss new ∥₁
still_recalled c ss ms new depth inside x found own others recalls = by_own (slice_get new depth) refl
  where
    one : AreRemembered c ss ms → ((m : Remembered) → slice_get new depth ≡ Some (Some m) → IsRemembered c x m) → AreRemembered c ss new
    one are at d m there = go (cases_eq d depth)
      where
        go : (d ≡ depth) ⊎ (d ≢ depth) → IsRemembered c (group_at ss d) m
        go (inl same) = subst (λ s. IsRemembered c s m) (sym (ap (group_at ss) same ∙ group_is c ss ms depth inside x found)) (at m (ap (slice_get new) (sym same) ∙ there))
        go (inr other) = are d m (sym (others d other) ∙ there)

    by_own : (o : Option (Option Remembered)) → slice_get new depth ≡ o → ∥ AreRemembered c ss new ∥₁
    by_own None is = ∥∥₁_map recalls (λ are. one are (λ m there. absurd (cc (sym is ∙ there))))
    by_own (Some None) is = ∥∥₁_map recalls (λ are. one are (λ m there. absurd (cc (sym is ∙ there))))
    by_own (Some (Some n)) is = ∥∥₁_map₂ recalls (own n is) (λ are r. one are (λ m there. let same : n ≡ m = cc (sym is ∙ there) in subst (IsRemembered c x) same r))

-- One more opening of the list of a group: of the indexes of all groups only its own changes.
use Rattle.std.proofs.Common.{◌≡◌, ℕ, ◌<◌, List, Option, Some, length, slice_get, refl, sym, ap, ◌∙◌, subst, inl, inr}
use Rattle.std.specs.Prelude.{slice_index_or, slice_set}
use Rattle.std.proofs.lemmas.Bool.{cases_eq}
use Rattle.gq_pipe.specs.declared.valued.ValueIndex.{ValueIndex}
use Rattle.gq_pipe.specs.steps.Valued.{AreOpened, IsOpened}
use Rattle.gq_pipe.proofs.Recalling.{same_again, set_apart, set_there}

-- none was opened
pub opened_again : (ts : List (Option ValueIndex)) (depth : ℕ) (x : Option ValueIndex) → x ≡ slice_index_or ts depth x → AreOpened ts (slice_set ts depth x)
opened_again ts depth x is d u there = (u, ap (λ (l : List (Option ValueIndex)). slice_get l d) (sym (same_again ts depth x x is refl)) ∙ there, inl refl)

-- one was opened
pub opened_there : (ts : List (Option ValueIndex)) (depth : ℕ) (t u : ValueIndex) → depth < length ts → slice_get ts depth ≡ Some (Some t) → IsOpened t u → AreOpened ts (slice_set ts depth (Some u))
opened_there ts depth t u low there o d v at = elim (cases_eq d depth) [
  | inl same ↦ (
      let is : u ≡ v = cc (sym (set_there ts depth (Some u) low) ∙ ap (slice_get (slice_set ts depth (Some u))) (sym same) ∙ at) in
      (t, ap (slice_get ts) same ∙ there, inr (subst (IsOpened t) is o)))
  | inr other ↦ (v, sym (set_apart ts depth d (Some u) other) ∙ at, inl refl)
]

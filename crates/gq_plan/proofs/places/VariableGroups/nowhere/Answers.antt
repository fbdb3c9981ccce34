use Rattle.std.proofs.Common.{◌≡◌, ◌==◌, ℕ, zero, suc, true, List, [], ◌∷◌, refl, slice_index_or}
use Rattle.std.specs.List.{list_all}
use Rattle.std.proofs.lemmas.Bool.{and_parts, eqb-true}
use Rattle.gq_plan.proofs.places.VariableGroups.nowhere.Goals as goal

all_zero : (groups : List ℕ) → list_all (λ g. g == 0) groups ≡ true → (v : ℕ) → slice_index_or groups v 0 ≡ 0
all_zero [] e v = refl
all_zero (g ∷ groups) e zero = eqb-true g 0 (and_parts (g == 0) (list_all (λ h. h == 0) groups) e).0
all_zero (g ∷ groups) e (suc v) = all_zero groups (and_parts (g == 0) (list_all (λ h. h == 0) groups) e).1 v

pub returns : goal.returns
returns c = λ i. λ v. all_zero (0 ∷ 0 ∷ 0 ∷ 0 ∷ 0 ∷ 0 ∷ 0 ∷ 0 ∷ 0 ∷ 0 ∷ 0 ∷ 0 ∷ 0 ∷ 0 ∷ 0 ∷ 0 ∷ 0 ∷ 0 ∷ 0 ∷ 0 ∷ 0 ∷ 0 ∷ 0 ∷ 0 ∷ []) refl v i

use Rattle.std.proofs.Common.{◌≡◌, ℕ, zero, suc, Bool, true, false, not, List, [], ◌∷◌, refl, slice_index_or}
use Rattle.std.specs.List.{list_all}
use Rattle.gq_plan.proofs.known.VariableSet.empty.Goals as goal

none_marked : (marks : List Bool) → list_all not marks ≡ true → (v : ℕ) → slice_index_or marks v false ≡ false
none_marked [] e v = refl
none_marked (true ∷ marks) e v = cc
none_marked (false ∷ marks) e zero = refl
none_marked (false ∷ marks) e (suc v) = none_marked marks e v

pub returns : goal.returns
returns c = λ i. λ v. none_marked (false ∷ false ∷ false ∷ false ∷ false ∷ false ∷ false ∷ false ∷ false ∷ false ∷ false ∷ false ∷ false ∷ false ∷ false ∷ false ∷ false ∷ false ∷ false ∷ false ∷ false ∷ false ∷ false ∷ false ∷ []) refl v i

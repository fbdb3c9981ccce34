-- Values that are written into their places, one after another.
use Rattle.std.proofs.Common.{◌≡◌, ℕ, ◌+◌, ◌<◌, List, length, get_or, ap, ◌∙◌, arith, inl, inr}
use Rattle.std.proofs.Math.ListN.{set}
use Rattle.std.proofs.lemmas.Bool.{cases_lt}
use Rattle.std.proofs.lemmas.List.{get_or-set_same, get_or-set_other}

-- what the places below one have stays, and the next one has its value
pub one_more : {A B : Type 0} (seen : A → B) (none : A) (out : List A) (place : ℕ) (v : A) (f : ℕ → B) → place < length out → ((k : ℕ) → k < place → seen (get_or out k none) ≡ f k) → seen v ≡ f place
    → (k : ℕ) → k < place + 1 → seen (get_or (set out place v) k none) ≡ f k
one_more seen none out place v f fits before is k lt = elim (cases_lt k place) [
  | inl less ↦ ap seen (get_or-set_other out place k v none (omega (arith, less))) ∙ before k less
  | inr more ↦
      let e : k ≡ place = omega (arith, lt, more) in
      ap (λ n. seen (get_or (set out place v) n none)) e ∙ ap seen (get_or-set_same out place v none fits) ∙ is ∙ ap f (let back : place ≡ k = omega (arith, lt, more) in back)
]

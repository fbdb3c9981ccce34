-- Sixty-four places that were tried together are tried.
use Rattle.std.proofs.Common.{◌≡◌, ◌⊎◌, inl, inr, ℕ, ◌+◌, ◌-◌, ◌<◌, ◌≤◌, ◌&&◌, nat_lt, Bool, true, false, List, length, refl, sym, ap, ◌∙◌, arith}
use Rattle.std.proofs.lemmas.Bool.{cases_lt, le-ltb, lt-ltb}
use Rattle.gq_bits.specs.Places.{is_marked}
use Rattle.gq_bits.specs.declared.TheConstants.{VECTOR}
use Rattle.gq_plan.specs.declared.assignment.Assignment.{Assignment}
use Rattle.gq_chains.proofs.Sifting.{IsSifting}
use Rattle.gq_steps.specs.Keeps.{makes_one}
use Rattle.gq_steps.specs.Levels.{Run}
use Rattle.gq_steps.specs.declared.group_steps.GroupSteps.{GroupSteps}

pub block_sifted : (c : Run) (group : GroupSteps) (first count : ℕ) (row : Assignment) (n : ℕ) (marks new : List Bool) → IsSifting c group first count row n row marks → length new ≡ VECTOR
    → ((j : ℕ) → j < 64 → is_marked new (n + j) ≡ (is_marked marks (n + j) && makes_one c group (first + n + j) row)) → ((k : ℕ) → (k < n) ⊎ (n + 64 ≤ k) → is_marked new k ≡ is_marked marks k)
    → IsSifting c group first count row (n + 64) row new
block_sifted c group first count row n marks new s len kept outside = record {
  held = s.held;
  alike = s.alike;
  len = len;
  done = λ j below high. done_at j below high (cases_lt j n);
  below = λ j above on. s.below j (omega (arith, above)) (sym (outside j (inr above)) ∙ on);
  others = λ j above inside off. s.others j (omega (arith, above)) inside (sym (outside j (inr above)) ∙ off);
}
  where
    here : (j : ℕ) → n ≤ j → j < n + 64 → is_marked new j ≡ (is_marked marks j && makes_one c group (first + j) row)
    here j above below =
        let same : n + (j - n) ≡ j = omega (arith, above) in
        let place : first + n + (j - n) ≡ first + j = omega (arith, above) in
        ap (is_marked new) (sym same) ∙ kept (j - n) (omega (arith, above, below))
        ∙ ap (λ i. is_marked marks i && makes_one c group (first + n + (j - n)) row) same
        ∙ ap (λ i. is_marked marks j && makes_one c group i row) place

    tried : (j : ℕ) → n ≤ j → (b : Bool) → is_marked marks j ≡ b → (j < count) ⊎ (count ≤ j) → (is_marked marks j && makes_one c group (first + j) row) ≡ (nat_lt j count && makes_one c group (first + j) row)
    tried j above true on in-it =
        let inside = s.below j above on in
        ap (λ b. b && makes_one c group (first + j) row) (on ∙ sym (lt-ltb j count inside))
    tried j above false off (inl inside) =
        ap (λ b. b && makes_one c group (first + j) row) off ∙ sym (ap (λ b. b && makes_one c group (first + j) row) (lt-ltb j count inside) ∙ s.others j above inside off)
    tried j above false off (inr past) = ap (λ b. b && makes_one c group (first + j) row) (off ∙ sym (le-ltb j count past))

    done_at : (j : ℕ) → j < n + 64 → j < VECTOR → (j < n) ⊎ (n ≤ j) → is_marked new j ≡ (nat_lt j count && makes_one c group (first + j) row)
    done_at j below high (inl h) = outside j (inl h) ∙ s.done j h high
    done_at j below high (inr h) = here j h below ∙ tried j h (is_marked marks j) refl (cases_lt j count)

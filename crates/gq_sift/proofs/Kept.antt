-- Places that one step after another keeps.
use Rattle.std.proofs.Common.{◌≡◌, ◌≢◌, ◌⊎◌, inl, inr, ℕ, ◌+◌, ◌<◌, ◌≤◌, Bool, true, false, ◌&&◌, List, refl, sym, ap₂, ◌∙◌, subst, arith}
use Rattle.std.proofs.lemmas.Bool.{and_parts, cases_eq, false≢true}
use Rattle.gq_bits.specs.Places.{is_marked}
use Rattle.gq_sift.specs.Tested.{AreKept}

module _ (start : ℕ → Bool) (keeps : ℕ → ℕ → Bool) (low : ℕ) where
  -- before any step
  pub kept_from : (marks : List Bool) → ((j : ℕ) → is_marked marks j ≡ start j) → AreKept start keeps low (low + 1) marks
  kept_from marks same = record {
    on = λ j m. (sym (same j) ∙ m, λ d above below. absurd (omega (arith, above, below)));
    off = λ j s all. same j ∙ s;
  }

  -- a step is the last one, or an earlier one
  last_or : (d j e : ℕ) → e < d + 1 → keeps d j ≡ true → (e < d → keeps e j ≡ true) → (e ≡ d) ⊎ (e ≢ d) → keeps e j ≡ true
  last_or d j e under here earlier (inl same) = subst (λ n. keeps n j ≡ true) (sym same) here
  last_or d j e under here earlier (inr other) = earlier (omega (arith, under, other))

  -- behind one more
  pub kept_next : (d : ℕ) → low < d → (before after : List Bool) → AreKept start keeps low d before → ((j : ℕ) → is_marked after j ≡ (is_marked before j && keeps d j)) → AreKept start keeps low (d + 1) after
  kept_next d above before after k each = record {
    on = λ j m.
        (let parts = and_parts (is_marked before j) (keeps d j) (sym (each j) ∙ m) in
        let was = k.on j parts.0 in
        (was.0, λ e over under. last_or d j e under parts.1 (was.1 e over) (cases_eq e d)));
    off = λ j s all. each j ∙ ap₂ ◌&&◌ (k.off j s (λ e over under. all e over (omega (arith, under)))) (all d above (omega arith));
  }

  pub kept_to : (d high : ℕ) (marks : List Bool) → d ≤ high → high ≤ d → AreKept start keeps low d marks → AreKept start keeps low high marks
  kept_to d high marks under over k = let same : d ≡ high = omega (arith, under, over) in subst (λ n. AreKept start keeps low n marks) same k

  -- nor do those up to another one drop any, where they keep all places to start with
  pub kept_more : (d high : ℕ) (marks all : List Bool) → d ≤ high → AreKept start keeps low d marks → AreKept start keeps low high all → ((j : ℕ) → start j ≡ true → is_marked all j ≡ true) → AreKept start keeps low high marks
  kept_more d high marks all below k a still = record {
    on = λ j m. (let was = (k.on j m).0 in (was, (a.on j (still j was)).1));
    off = λ j s each. k.off j s (λ e over under. each e over (omega (arith, under, below)));
  }

  -- none but the places to start with
  pub kept_within : (d : ℕ) (marks : List Bool) → AreKept start keeps low d marks → (j : ℕ) → start j ≡ false → is_marked marks j ≡ false
  kept_within d marks k j out = off (is_marked marks j) refl
    where
      off : (b : Bool) → is_marked marks j ≡ b → is_marked marks j ≡ false
      off true is = absurd (false≢true (sym out ∙ (k.on j is).0))
      off false is = is

-- The texts of a record from a place on.
use Rattle.std.proofs.Common.{◌≡◌, ℕ, zero, suc, ◌+◌, List, [], ◌∷◌, ◌++◌, drop, Some, None, refl, sym, ap, ◌∙◌, arith, append_assoc, append-nil}
use Rattle.csv.specs.Records.{field_at}

pub from_place : (texts : List (List ℕ)) (at : ℕ) (text : List ℕ) → field_at texts at ≡ Some text → drop at texts ≡ text ∷ drop (at + 1) texts
unfolding field_at
from_place [] at text e = cc e
from_place (t ∷ texts) zero text e = cc
from_place (t ∷ texts) (suc at) text e = let step : suc at + 1 ≡ suc (at + 1) = omega arith in rw step (from_place texts at text e)

pub past_end : (texts : List (List ℕ)) (at : ℕ) → field_at texts at ≡ None → drop at texts ≡ []
unfolding field_at
past_end [] zero e = refl
past_end [] (suc at) e = refl
past_end (t ∷ texts) zero e = cc e
past_end (t ∷ texts) (suc at) e = past_end texts at e

-- these texts are those before a place
pub record Copied (texts : List (List ℕ)) (at : ℕ) (front : List (List ℕ)) : Type 0 where
  pub whole : texts ≡ front ++ drop at texts

pub none_copied : (texts : List (List ℕ)) → Copied texts 0 []
none_copied texts = record { whole = refl }

module _ (texts : List (List ℕ)) (at : ℕ) (front : List (List ℕ)) (h : Copied texts at front) where
  pub one_copied : (text : List ℕ) → field_at texts at ≡ Some text → Copied texts (at + 1) (front ++ text ∷ [])
  one_copied text e = record { whole = h.whole ∙ ap (λ r. front ++ r) (from_place texts at text e) ∙ sym (append_assoc front (text ∷ []) (drop (at + 1) texts)) }

  pub all_copied : field_at texts at ≡ None → front ≡ texts
  all_copied e = sym (h.whole ∙ ap (λ r. front ++ r) (past_end texts at e) ∙ append-nil front)

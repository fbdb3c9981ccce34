-- Runs of bytes that stand for themselves, between those with an escape.
use Rattle.std.proofs.Common.{◌≡◌, ℕ, ◌+◌, ◌-◌, ◌<◌, ◌≤◌, List, [], ◌∷◌, ◌++◌, length, take, drop, get_or, flat_map, refl, sym, ap, ◌∙◌, append_assoc, append-nil, arith}
use Rattle.std.proofs.lemmas.Grind.{common_steps}
use Rattle.std.proofs.lemmas.List.{take_more, get_or-drop}
use Rattle.gq_base.proofs.ListFacts.{flat_map_next}
use Rattle.std.proofs.Math.Nat.{sub_self}
use Rattle.std.proofs.Math.Seq.{take-length}

-- the bytes from `start` to `at` stand for themselves
pub record PlainRun (f : ℕ → List ℕ) (text : List ℕ) (start at : ℕ) : Type 0 where
  pub ordered : start ≤ at
  pub whole : flat_map f (take at text) ≡ flat_map f (take start text) ++ take (at - start) (drop start text)

-- an empty run
pub run_none : (f : ℕ → List ℕ) (text : List ℕ) (at : ℕ) → PlainRun f text at at
run_none f text at = record {
  ordered = omega arith;
  whole = rw (sub_self at) (sym (append-nil _));
}

run_longer : (text : List ℕ) (start at : ℕ) → start ≤ at → at < length text → take (at + 1 - start) (drop start text) ≡ take (at - start) (drop start text) ++ get_or text at 0 ∷ []
run_longer text start at o h =
    let room : at - start < length (drop start text) = grind (arith, common_steps) in
    ap (λ n. take n (drop start text)) (omega arith) ∙ take_more (drop start text) (at - start) 0 room
    ∙ ap (λ b. take (at - start) (drop start text) ++ b ∷ []) (get_or-drop start text (at - start) 0 ∙ ap (λ k. get_or text k 0) (omega arith))

-- one more byte that stands for itself
pub run_more : (f : ℕ → List ℕ) (text : List ℕ) (start at : ℕ) → at < length text → f (get_or text at 0) ≡ get_or text at 0 ∷ [] → PlainRun f text start at → PlainRun f text start (at + 1)
run_more f text start at h same run = record {
  ordered = omega (arith, run.ordered);
  whole = sym (flat_map_next f text at 0 (get_or text at 0) h refl) ∙ ap (λ l. flat_map f (take at text) ++ l) same ∙ ap (λ l. l ++ get_or text at 0 ∷ []) run.whole
      ∙ append_assoc (flat_map f (take start text)) _ _ ∙ ap (λ l. flat_map f (take start text) ++ l) (sym (run_longer text start at run.ordered h));
}

-- a byte with an escape behind a run
pub run_ends : (f : ℕ → List ℕ) (text : List ℕ) (start at : ℕ) (escape : List ℕ) → at < length text → f (get_or text at 0) ≡ escape → PlainRun f text start at
    → flat_map f (take start text) ++ (take (at - start) (drop start text) ++ escape) ≡ flat_map f (take (at + 1) text)
run_ends f text start at escape h is run =
    sym (append_assoc (flat_map f (take start text)) _ escape) ∙ ap (λ l. l ++ escape) (sym run.whole) ∙ ap (λ l. flat_map f (take at text) ++ l) (sym is)
    ∙ flat_map_next f text at 0 (get_or text at 0) h refl

-- a run to the end of the text
pub run_last : (f : ℕ → List ℕ) (text : List ℕ) (start at : ℕ) → at ≡ length text → PlainRun f text start at
    → flat_map f (take start text) ++ take (length text - start) (drop start text) ≡ flat_map f text
run_last f text start at e run =
    ap (λ n. flat_map f (take start text) ++ take (n - start) (drop start text)) (sym e) ∙ sym run.whole ∙ ap (flat_map f) (ap (λ n. take n text) e ∙ take-length text)

use Rattle.std.proofs.Common.{◌≡◌, ◌⊎◌, ◌∙◌, ℕ, zero, suc, inl, inr, Bool, true, false, Some, List, [], ◌∷◌, ◌++◌, length, refl, sym, ap, subst, arith}
use Rattle.std.specs.Prelude.{slice_get, is_ok, if◌then◌else◌}
use Rattle.gq_sift.specs.Remembered.{HasMarks}
use Rattle.gq_sift.specs.declared.remembered.KeptPiece.{KeptPiece}
use Rattle.gq_sift.proofs.remembered.Remembered.take.Goals as goal

-- an item of a list with one more is one of the list, or the last one
last_or : (xs : List KeptPiece) (x : KeptPiece) (p : ℕ) (k : KeptPiece) → slice_get (xs ++ x ∷ []) p ≡ Some k → (slice_get xs p ≡ Some k) ⊎ ((p ≡ length xs) × (x ≡ k))
last_or [] x zero k is = inr (refl, (let same : x ≡ k = cc is in same))
last_or [] x (suc p) k is = absurd (cc is)
last_or (y ∷ xs) x zero k is = inl is
last_or (y ∷ xs) x (suc p) k is = further (last_or xs x p k is)
  where
    further : (slice_get xs p ≡ Some k) ⊎ ((p ≡ length xs) × (x ≡ k)) → (slice_get (y ∷ xs) (suc p) ≡ Some k) ⊎ ((suc p ≡ length (y ∷ xs)) × (x ≡ k))
    further (inl was) = inl was
    further (inr next) = inr (ap suc next.0, next.1)

-- so where it may not have been put there
pushed : (told : Bool) (new xs : List KeptPiece) (x : KeptPiece) → new ≡ (if told then xs ++ x ∷ [] else xs) → (p : ℕ) (k : KeptPiece) → slice_get new p ≡ Some k → (slice_get xs p ≡ Some k) ⊎ ((p ≡ length xs) × (x ≡ k))
pushed true new xs x is p k there = last_or xs x p k (ap (λ ks. slice_get ks p) (sym is) ∙ there)
pushed false new xs x is p k there = inl (ap (λ ks. slice_get ks p) (sym is) ∙ there)

pub returns-clause-pieces : goal.returns-clause-pieces
returns-clause-pieces c = λ p k there.
    at p k (pushed (is_ok c.push.result) c.push.new.self.items c.args.self.now.pieces.items c.kept_piece-kept.result c.push.ensures.items p k there)
  where
    at : (p : ℕ) (k : KeptPiece) → (slice_get c.args.self.now.pieces.items p ≡ Some k) ⊎ ((p ≡ length c.args.self.now.pieces.items) × (c.kept_piece-kept.result ≡ k))
        → (slice_get c.args.self.now.pieces.items p ≡ Some k) ⊎ ((p ≡ c.args.piece) × HasMarks c.args.count c.args.marks.now k)
    at p k (inl was) = inl was
    at p k (inr next) = inr (omega (arith, next.0, c.if-piece-len.false, c.args.self.now.pieces.ok.0), subst (HasMarks c.args.count c.args.marks.now) next.1 c.kept_piece-kept.ensures)

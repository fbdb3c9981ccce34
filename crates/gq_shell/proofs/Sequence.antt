-- One text written after another, which together are a text.
use Rattle.std.proofs.Common.{◌≡◌, ℕ, List, ◌++◌, Option, Result, Ok, Err, subst}
use Rattle.std.specs.Result.{IsErrAnd}
use Rattle.std.specs.Io.KnownBytes.{Appends}
use Rattle.std.proofs.lemmas.Result.{err_from_is_err_and}
use Rattle.gq_io.specs.Outside.{Writes}
use Rattle.gq_io.proofs.Moved.{Appends-both, front_after, front_longer}

-- a text was written, and then another was written or broke off
pub writes_then : {T E : Type 0} (a b c : Option (List ℕ)) (x y : List ℕ) (r : Result T E)
    → Appends a b x → Writes b c y r → Writes a c (x ++ y) r
writes_then a b c x y (Ok done) p q = Appends-both a b c x y p q
writes_then a b c x y (Err e) p q = front_after a b c x y p q

-- the answer where a text broke off, whatever was to come after it
pub broke : {S T E F : Type 0} (Q : F → Type 0) (a b : Option (List ℕ)) (x y : List ℕ)
    (q : Result S E) (e : E) (r : Result T F)
    → Writes a b x q → q ≡ Err e → IsErrAnd r Q → Writes a b (x ++ y) r
broke Q a b x y q e r p was is =
    rw (err_from_is_err_and r is).1 (front_longer a b x y (subst (Writes a b x) was p))

-- One text put after another, which together are a text.
use Rattle.std.proofs.Common.{◌≡◌, ℕ, List, [], ◌++◌, subst, Result, Err}
use Rattle.std.specs.Result.{IsErrAnd}
use Rattle.std.specs.declared.option.Option.{Option}
use Rattle.std.proofs.lemmas.Result.{err_from_is_err_and}
use Rattle.gq_io.specs.Outside.{AppendsFront, Writes}
use Rattle.gq_io.specs.Putting.{Put, Puts, Flushes}
use Rattle.gq_io.proofs.Waiting.{broke-first, put-both, put-flushes, put-puts}

-- two texts were put
pub put_then : (a b c : Option (List ℕ)) (u v w x y text : List ℕ) → Put a b u v x → Put b c v w y → x ++ y ≡ text → Put a c u w text
put_then a b c u v w x y text p q e = subst (Put a c u w) e (put-both a b c u v w x y p q)

-- a text was put, and then another was put or broke off
pub puts_then : {T E : Type 0} (a b c : Option (List ℕ)) (u v w x y text : List ℕ) (r : Result T E) → Put a b u v x → Puts b c v w y r → x ++ y ≡ text → Puts a c u w text r
puts_then a b c u v w x y text r p q e = subst (λ t. Puts a c u w t r) e (put-puts a b c u v w x y r p q)

-- the answer where the first text broke off
pub first_broke : {S T E F : Type 0} (Q : F → Type 0) (a b : Option (List ℕ)) (u v w x y text : List ℕ) (q : Result S E) (e : E) (r : Result T F)
    → Puts a b u v x q → q ≡ Err e → IsErrAnd r Q → x ++ y ≡ text → Puts a b u w text r
first_broke Q a b u v w x y text q e r p was is same =
    rw (err_from_is_err_and r is).1 (subst (λ t. AppendsFront a b (u ++ t)) same (broke-first a b u x y (subst (Puts a b u v x) was p)))

-- the answer where a text was put and the next one broke off
pub next_broke : {S T E F : Type 0} (Q : F → Type 0) (a b c : Option (List ℕ)) (t u v w x y z text : List ℕ) (q : Result S E) (e : E) (r : Result T F)
    → Put a b t u x → Puts b c u v y q → q ≡ Err e → IsErrAnd r Q → (x ++ y) ++ z ≡ text → Puts a c t w text r
next_broke Q a b c t u v w x y z text q e r before p was is same =
    first_broke Q a c t v w (x ++ y) z text q e r (put-puts a b c t u v x y q before p) was is same

-- a text was put where nothing waited, and then what waits was flushed
pub written : {T E : Type 0} (a b c : Option (List ℕ)) (u v w x text : List ℕ) (r : Result T E) → u ≡ [] → Put a b u v x → Flushes b c v w r → x ≡ text → Writes a c text r
written a b c u v w x text r none p q e = subst (λ t. Writes a c t r) e (put-flushes a b c v w x r (subst (λ l. Put a b l v x) none p) q)

-- Slots that are taken of a pool and given back: the pool has the same slots out as before.
use Rattle.std.proofs.Common.{◌≡◌, ◌∙◌, ℕ, zero, suc, ◌+◌, ◌≤◌, Bool, true, false, count_by, not, List, [], ◌∷◌, length, get_or, set, refl, sym, ap, arith}
use Rattle.gq_pool.proofs.Lanes.{spare_taken}
use Rattle.gq_pool.specs.Pool.{Pool, spare_of, taken}
use Rattle.gq_pool.specs.Slots.{all_freed, all_taken}

-- ---- slots that were taken were free

-- a slot that is out already, or none, is taken without effect
set_same : (out : List Bool) (s : ℕ) → get_or out s true ≡ true → set out s true ≡ out
set_same [] zero e = refl
set_same [] (suc s) e = refl
set_same (x ∷ out) zero e = ap (λ b. b ∷ out) (sym e)
set_same (x ∷ out) (suc s) e = ap (λ l. x ∷ l) (set_same out s e)

count_set : (out : List Bool) (s : ℕ) → get_or out s true ≡ true → count_by (λ b. not b) (set out s true) ≡ count_by (λ b. not b) out
count_set out s e = ap (count_by (λ b. not b)) (set_same out s e)

spare_least : (p : Pool) (s : ℕ) → spare_of p ≤ spare_of (taken p s) + 1
spare_least p s = go (get_or p.out s true) refl
  where
    go : (b : Bool) → get_or p.out s true ≡ b → spare_of p ≤ spare_of (taken p s) + 1
    go true e = let same = count_set p.out s e in omega (arith, same)
    go false e = let less = spare_taken p s e in omega (arith, less)

spare_many : (p : Pool) (ss : List ℕ) → spare_of p ≤ spare_of (all_taken p ss) + length ss
spare_many p [] = omega arith
spare_many p (s ∷ ss) = let one = spare_least p s in let more = spare_many (taken p s) ss in omega (arith, one, more)

-- where so many slots fewer are free, the first of them was free
first_free : (p : Pool) (s : ℕ) (ss : List ℕ) → spare_of (all_taken (taken p s) ss) + length (s ∷ ss) ≡ spare_of p → get_or p.out s true ≡ false
first_free p s ss e = go (get_or p.out s true) refl
  where
    go : (b : Bool) → get_or p.out s true ≡ b → get_or p.out s true ≡ false
    go false is = is
    go true is = absurd (let same = count_set p.out s is in let most = spare_many (taken p s) ss in omega (arith, same, most, e))

-- ---- what is given back

put_back : (out : List Bool) (s : ℕ) → get_or out s true ≡ false → set (set out s true) s false ≡ out
put_back [] zero e = refl
put_back [] (suc s) e = refl
put_back (x ∷ out) zero e = ap (λ b. b ∷ out) (sym e)
put_back (x ∷ out) (suc s) e = ap (λ l. x ∷ l) (put_back out s e)

-- slots of which so many fewer are free then are taken, and given back
pub taken_back : (p : Pool) (ss : List ℕ) → spare_of (all_taken p ss) + length ss ≡ spare_of p → (all_freed (all_taken p ss) ss).out ≡ p.out
taken_back p [] e = refl
taken_back p (s ∷ ss) e =
    let free = first_free p s ss e in
    let less = spare_taken p s free in
    ap (λ out. set out s false) (taken_back (taken p s) ss (omega (arith, e, less))) ∙ put_back p.out s free

-- what is given back hangs on nothing but which slots are out
freed_alike : (p q : Pool) (ss : List ℕ) → q.out ≡ p.out → (all_freed q ss).out ≡ (all_freed p ss).out
freed_alike p q [] same = same
freed_alike p q (s ∷ ss) same = ap (λ out. set out s false) (freed_alike p q ss same)

-- a pool of which slots were taken, and given back where the same were out as then
pub all_back : (before begun ended after : Pool) (ss ts : List ℕ) → (all_freed begun ss).out ≡ before.out → ended.out ≡ begun.out → ts ≡ ss → after.out ≡ (all_freed ended ts).out
    → after.out ≡ before.out
all_back before begun ended after ss ts start same held end =
    end ∙ ap (λ l. (all_freed ended l).out) held ∙ freed_alike begun ended ss same ∙ start

-- One slot more, or one less, is held, taken and given back.
use Rattle.std.proofs.Common.{◌≡◌, ◌≢◌, ℕ, zero, suc, Bool, true, false, List, [], ◌∷◌, ◌++◌, get_or, refl, sym, ◌∙◌, ap, true≢false}
use Rattle.std.specs.List.{AllByRecursion}
use Rattle.gq_pool.specs.Pool.{Pool, IsOut, IsFree, taken, freed}
use Rattle.gq_pool.specs.Slots.{AreApart, Holds, all_taken, all_freed}

out_there : (xs : List Bool) (i : ℕ) → get_or xs i false ≡ true → get_or xs i true ≡ true
out_there [] i h = absurd (true≢false (sym h))
out_there (x ∷ xs) zero h = h
out_there (x ∷ xs) (suc i) h = out_there xs i h

-- a free slot is none of those that are out
free_other : (p : Pool) (s t : ℕ) → IsFree p s → IsOut p t → t ≢ s
free_other p s t free out same = true≢false (sym (out_there p.out t out.is_out) ∙ ap (λ i. get_or p.out i true) same ∙ free.is_free)

all_more : (P : ℕ → Type 0) (xs : List ℕ) (y : ℕ) → AllByRecursion P xs → P y → AllByRecursion P (xs ++ y ∷ [])
all_more P [] y all last = (last, tt)
all_more P (x ∷ xs) y all last = (all.0, all_more P xs y all.1 last)

all_less : (P : ℕ → Type 0) (xs : List ℕ) (y : ℕ) → AllByRecursion P (xs ++ y ∷ []) → AllByRecursion P xs × P y
all_less P [] y all = (tt, all.0)
all_less P (x ∷ xs) y all = let more = all_less P xs y all.1 in ((all.0, more.0), more.1)

each_still : (P Q : ℕ → Type 0) (xs : List ℕ) → ((x : ℕ) → P x → Q x) → AllByRecursion P xs → AllByRecursion Q xs
each_still P Q [] f all = tt
each_still P Q (x ∷ xs) f all = (f x all.0, each_still P Q xs f all.1)

both_still : (P Q R : ℕ → Type 0) (xs : List ℕ) → ((x : ℕ) → P x → Q x → R x) → AllByRecursion P xs → AllByRecursion Q xs → AllByRecursion R xs
both_still P Q R [] f all more = tt
both_still P Q R (x ∷ xs) f all more = (f x all.0 more.0, both_still P Q R xs f all.1 more.1)

apart_more : (xs : List ℕ) (y : ℕ) → AreApart xs → AllByRecursion (λ x. x ≢ y) xs → AreApart (xs ++ y ∷ [])
apart_more [] y apart other = (tt, tt)
apart_more (x ∷ xs) y apart other = (all_more (λ t. x ≢ t) xs y apart.0 other.0, apart_more xs y apart.1 other.1)

apart_less : (xs : List ℕ) (y : ℕ) → AreApart (xs ++ y ∷ []) → AreApart xs × AllByRecursion (λ x. x ≢ y) xs
apart_less [] y apart = (tt, tt)
apart_less (x ∷ xs) y apart =
    let here = all_less (λ t. x ≢ t) xs y apart.0 in
    let more = apart_less xs y apart.1 in
    ((here.0, more.0), (here.1, more.1))

pub holds_none : (p : Pool) → Holds p []
holds_none p = record { out = tt; apart = tt }

pub holds_more : (old new : Pool) (slots : List ℕ) (s : ℕ) → Holds old slots → IsFree old s → IsOut new s → ((t : ℕ) → IsOut old t → IsOut new t) → Holds new (slots ++ s ∷ [])
holds_more old new slots s h free out others = record {
  out = all_more (IsOut new) slots s (each_still (IsOut old) (IsOut new) slots others h.out) out;
  apart = apart_more slots s h.apart (each_still (IsOut old) (λ t. t ≢ s) slots (λ t o. free_other old s t free o) h.out);
}

pub holds_last : (p : Pool) (slots : List ℕ) (s : ℕ) → Holds p (slots ++ s ∷ []) → IsOut p s
holds_last p slots s h = (all_less (IsOut p) slots s h.out).1

pub holds_less : (old new : Pool) (slots : List ℕ) (s : ℕ) → Holds old (slots ++ s ∷ []) → ((t : ℕ) → t ≢ s → IsOut old t → IsOut new t) → Holds new slots
holds_less old new slots s h others =
    let apart = apart_less slots s h.apart in
    record {
      out = both_still (λ t. t ≢ s) (IsOut old) (IsOut new) slots others apart.1 (all_less (IsOut old) slots s h.out).0;
      apart = apart.0;
    }

pub taken_more : (p : Pool) (slots : List ℕ) (s : ℕ) → all_taken p (slots ++ s ∷ []) ≡ taken (all_taken p slots) s
taken_more p [] s = refl
taken_more p (t ∷ slots) s = taken_more (taken p t) slots s

pub freed_last : (p : Pool) (slots : List ℕ) (s : ℕ) → all_freed p (slots ++ s ∷ []) ≡ all_freed (freed p s) slots
freed_last p [] s = refl
freed_last p (t ∷ slots) s = ap (λ q. freed q t) (freed_last p slots s)

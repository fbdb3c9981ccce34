-- Answers that may be refused, one after another: what each of them was, and how they are grouped.
use Rattle.std.proofs.Common.{◌≡◌, refl}
use Rattle.std.specs.Prelude.{Ok, Err}
use Rattle.std.specs.declared.result.Result.{Result}
use Rattle.gq_base.specs.Results.{and_then}

-- where the whole is not refused, neither part was
pub then_ok : {A B E : Type 0} (r : Result A E) (next : A → Result B E) (y : B) → and_then r next ≡ Ok y
    → (x : A) × (r ≡ Ok x) × (next x ≡ Ok y)
then_ok (Ok x) next y whole = (x, refl, whole)
then_ok (Err e) next y whole = cc

pub then_itself : {A E : Type 0} (r : Result A E) → and_then r Ok ≡ r
then_itself (Ok x) = refl
then_itself (Err e) = refl

-- what comes next counts for the one answer alone
pub then_same : {A B E : Type 0} (r : Result A E) (f g : A → Result B E)
    → ((x : A) → r ≡ Ok x → f x ≡ g x) → and_then r f ≡ and_then r g
then_same (Ok x) f g same = same x refl
then_same (Err e) f g same = refl

pub then_then : {A B C E : Type 0} (r : Result A E) (f : A → Result B E) (g : B → Result C E)
    → and_then (and_then r f) g ≡ and_then r (λ x. and_then (f x) g)
then_then (Ok x) f g = refl
then_then (Err e) f g = refl

-- The first of two answers that is there.
use Rattle.std.proofs.Common.{◌≡◌, refl, Option, None, Some}
use Rattle.std.specs.Option.{option_or}

pub or_assoc : {A : Type 0} (a b c : Option A) → option_or a (option_or b c) ≡ option_or (option_or a b) c
or_assoc None b c = refl
or_assoc (Some x) b c = refl

pub or_none : {A : Type 0} (a : Option A) → option_or a None ≡ a
or_none None = refl
or_none (Some x) = refl

-- neither is there where the first that is there is none
pub or_first : {A : Type 0} (a b : Option A) → option_or a b ≡ None → a ≡ None
or_first None b none = refl
or_first (Some x) b none = none

pub or_second : {A : Type 0} (a b : Option A) → option_or a b ≡ None → b ≡ None
or_second None b none = none
or_second (Some x) b none = cc none

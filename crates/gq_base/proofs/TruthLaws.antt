-- OR is associative, with false for its unit.
use Rattle.std.proofs.Common.{◌≡◌, refl, Option, Some, None, Bool, true, false, arith}
use Rattle.gq_base.specs.Truth.{or3}

pub or3_assoc : (p q r : Option Bool) → or3 (or3 p q) r ≡ or3 p (or3 q r)
or3_assoc None None None = refl
or3_assoc None None (Some true) = refl
or3_assoc None None (Some false) = refl
or3_assoc None (Some true) r = grind arith
or3_assoc None (Some false) None = refl
or3_assoc None (Some false) (Some true) = refl
or3_assoc None (Some false) (Some false) = refl
or3_assoc (Some true) q r = refl
or3_assoc (Some false) None None = refl
or3_assoc (Some false) None (Some true) = refl
or3_assoc (Some false) None (Some false) = refl
or3_assoc (Some false) (Some true) r = grind arith
or3_assoc (Some false) (Some false) None = refl
or3_assoc (Some false) (Some false) (Some true) = refl
or3_assoc (Some false) (Some false) (Some false) = refl

pub or3_false : (q : Option Bool) → or3 (Some false) q ≡ q
or3_false None = refl
or3_false (Some true) = refl
or3_false (Some false) = refl

pub or3_false_right : (q : Option Bool) → or3 q (Some false) ≡ q
or3_false_right None = refl
or3_false_right (Some true) = refl
or3_false_right (Some false) = refl

pub ruleset or3_laws = (or3_assoc, or3_false, or3_false_right)

-- Laws of two truth values that std does not have.
use Rattle.std.proofs.Common.{◌≡◌, Bool, true, false, refl}
use Rattle.std.specs.Prelude.{◌&&◌}

-- of two pairs, the firsts and the seconds
pub and_pairs : (a b c d : Bool) → ((a && b) && (c && d)) ≡ ((a && c) && (b && d))
and_pairs true true c d = refl
and_pairs true false true d = refl
and_pairs true false false d = refl
and_pairs false b c d = refl

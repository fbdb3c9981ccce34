-- What follows of a truth that is not true.
use Rattle.std.proofs.Common.{◌≡◌, Bool, true, false, Ok, Err, refl, true≢false}
use Rattle.gq_base.specs.Values.{null, flag, int, str, node, rel}
use Rattle.gq_expr.specs.Operators.{Outcome}
use Rattle.gq_expr.specs.Safety.{IsTruth}
use Rattle.gq_plan.specs.Outcomes.{drops}

abbrev pub is_true : Outcome → Bool
is_true (Ok (flag b)) = b
is_true o = false

-- a truth that is not true drops
pub not_true_drops : (o : Outcome) → IsTruth o → is_true o ≡ false → drops o ≡ true
not_true_drops (Ok null) h e = refl
not_true_drops (Ok (flag true)) h e = absurd (true≢false e)
not_true_drops (Ok (flag false)) h e = refl
not_true_drops (Ok (int z)) h e = absurd h
not_true_drops (Ok (str s)) h e = absurd h
not_true_drops (Ok (node n)) h e = absurd h
not_true_drops (Ok (rel r)) h e = absurd h
not_true_drops (Err f) h e = absurd h

-- What is asked of the kinds of several expressions together.
use Rattle.std.proofs.Common.{◌≡◌, refl, Bool, true, false, ◌||◌, ◌&&◌, List, [], ◌∷◌}
use Rattle.std.proofs.lemmas.List.Folds.{list_all-append}
use Rattle.gq_expr.specs.Kinds.{May, all_of}
use Rattle.gq_expr.specs.steps.Kinds.{summary_of, both}
use Rattle.gq_expr.specs.declared.kinds.Summary.{Summary}

pub summary_first : (m : May) (ms : List May) → summary_of (all_of (m ∷ ms)) ≡ both (summary_of m) (summary_of (all_of ms))
summary_first m ms = simp list_all-append

or_assoc : (a b c : Bool) → ((a || b) || c) ≡ (a || (b || c))
or_assoc true b c = refl
or_assoc false b c = refl

and_assoc : (a b c : Bool) → ((a && b) && c) ≡ (a && (b && c))
and_assoc true b c = refl
and_assoc false b c = refl

and_true : (a : Bool) → (a && true) ≡ a
and_true true = refl
and_true false = refl

or_false : (a : Bool) → (a || false) ≡ a
or_false true = refl
or_false false = refl

pub both_assoc : (a b c : Summary) → both (both a b) c ≡ both a (both b c)
both_assoc a b c = simp (or_assoc, and_assoc)

pub both_left : (s : Summary) → both (summary_of (all_of [])) s ≡ s
both_left s = refl

pub both_right : (s : Summary) → both s (summary_of (all_of [])) ≡ s
both_right s = simp (and_true, or_false)

pub ruleset joining = (summary_first, both_assoc, both_left, both_right)

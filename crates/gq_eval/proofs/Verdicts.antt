-- Conjuncts that are looked at one after another leave the marks that all of them say.
use Rattle.std.proofs.Common.{◌≡◌, ℕ, ◌+◌, ◌<◌, ◌≤◌, true, false, Some, Ok, Err, List, [], ◌∷◌, map, length, drop, get_or, cond, refl, sym, ap, ◌∙◌}
use Rattle.std.proofs.lemmas.List.{drop_more, drop_all}
use Rattle.std.specs.List.{list_any}
use Rattle.gq_base.specs.Values.{null, flag, int, str, node, rel}
use Rattle.gq_expr.specs.Operators.{Outcome}
use Rattle.gq_expr.specs.declared.Fault.{Fault}
use Rattle.gq_plan.specs.Outcomes.{drops}
use Rattle.gq_eval.specs.Judged.{judged_after, marks_of, one_more}
use Rattle.gq_plan.specs.Marked.{marks}
use Rattle.gq_eval.specs.declared.judging.Verdict.{Verdict}
use Rattle.gq_eval.specs.declared.judging.Verdict.TheVariants as verdict

still : (o : Outcome) → one_more verdict.Dropped o ≡ verdict.Dropped
still (Ok null) = refl
still (Ok (flag true)) = refl
still (Ok (flag false)) = refl
still (Ok (int z)) = refl
still (Ok (str s)) = refl
still (Ok (node n)) = refl
still (Ok (rel r)) = refl
still (Err f) = refl

pub stays_dropped : (os : List Outcome) → judged_after verdict.Dropped os ≡ verdict.Dropped
stays_dropped [] = refl
stays_dropped (o ∷ os) = ap (λ c. judged_after c os) (still o) ∙ stays_dropped os

-- behind a fault only a drop counts
faulty : (f : Fault) (os : List Outcome) → marks_of (judged_after (verdict.Fault f) os) ≡ cond (list_any drops os) [] (Some f ∷ [])
faulty f [] = refl
faulty f (Ok null ∷ os) = ap marks_of (stays_dropped os)
faulty f (Ok (flag true) ∷ os) = faulty f os
faulty f (Ok (flag false) ∷ os) = ap marks_of (stays_dropped os)
faulty f (Ok (int z) ∷ os) = faulty f os
faulty f (Ok (str s) ∷ os) = faulty f os
faulty f (Ok (node n) ∷ os) = faulty f os
faulty f (Ok (rel r) ∷ os) = faulty f os
faulty f (Err e ∷ os) = faulty f os

pub judged_so : (os : List Outcome) → marks_of (judged_after verdict.Pass os) ≡ marks os
judged_so [] = refl
judged_so (Ok null ∷ os) = ap marks_of (stays_dropped os)
judged_so (Ok (flag true) ∷ os) = judged_so os
judged_so (Ok (flag false) ∷ os) = ap marks_of (stays_dropped os)
judged_so (Ok (int z) ∷ os) = faulty _ os
judged_so (Ok (str s) ∷ os) = faulty _ os
judged_so (Ok (node n) ∷ os) = faulty _ os
judged_so (Ok (rel r) ∷ os) = faulty _ os
judged_so (Err f ∷ os) = faulty f os

-- a conjunct that drops ends the look
pub stops : {E : Type 0} (m : E → Outcome) (cs : List E) (c : E) (v : Verdict) (i : ℕ) (o : Outcome) → i < length cs → c ≡ get_or cs i c → verdict.Dropped ≡ one_more v o → o ≡ m c
    → judged_after v (map m (drop i cs)) ≡ verdict.Dropped
stops m cs c v i o low at drops is =
    ap (λ l. judged_after v (map m l)) (drop_more cs i c low)
    ∙ ap (λ x. judged_after (one_more v (m x)) (map m (drop (i + 1) cs))) (sym at)
    ∙ ap (λ d. judged_after d (map m (drop (i + 1) cs))) (ap (one_more v) (sym is) ∙ sym drops)
    ∙ stays_dropped (map m (drop (i + 1) cs))

-- behind all of them nothing is left to look at
pub at_end : {E : Type 0} (m : E → Outcome) (cs : List E) (v : Verdict) (i : ℕ) → length cs ≤ i → judged_after v (map m (drop i cs)) ≡ v
at_end m cs v i past = ap (λ l. judged_after v (map m l)) (drop_all i cs past)

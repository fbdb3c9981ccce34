-- Reads that are taken one by one into a fixed room: where the different ones are not more than it has room for, they are all there.
use Rattle.std.proofs.Common.{◌≡◌, ◌∙◌, ◌≤◌, ◌<◌, ◌+◌, ℕ, get_or, take, ap, refl, Bool, true, false, cond, ◌||◌, List, [], ◌∷◌, ◌++◌, length, arith}
use Rattle.std.proofs.Common.{length-append, nat_eq}
use Rattle.std.specs.List.{list_any}
use Rattle.std.proofs.lemmas.Bool.{eqb-true}
use Rattle.gq_plan.specs.Reads.{Read, properties, same_read, with_read, with_reads}
use Rattle.gq_plan.proofs.ReadLemmas.{properties_next}
use Rattle.gq_plan.specs.Soundness.{max_reads}
use Rattle.gq_plan.specs.steps.FewReads.{with_few, with_few_reads}

pub with_few_append : (rs qs ps : List Read) → with_few_reads rs (qs ++ ps) ≡ with_few_reads (with_few_reads rs qs) ps
with_few_append rs [] ps = refl
with_few_append rs (q ∷ qs) ps = with_few_append (with_few rs q) qs ps

pub few_next : (rs xs : List Read) (i : ℕ) (x : Read) → i < length xs → x ≡ get_or xs i x
    → with_few_reads rs (properties (take (i + 1) xs)) ≡ with_few_reads (with_few_reads rs (properties (take i xs))) (properties (x ∷ []))
few_next rs xs i x h is = ap (with_few_reads rs) (properties_next xs i x h is) ∙ with_few_append rs (properties (take i xs)) (properties (x ∷ []))

-- ---- enough room

longer : (rs : List Read) (q : Read) → length rs ≤ length (with_read rs q)
longer rs q = elim (list_any (λ r. same_read r q) rs) as (λ b. length rs ≤ length (cond b rs (rs ++ q ∷ []))) [
  | true ↦ omega arith
  | false ↦ omega (arith, length-append rs (q ∷ []))
]

pub longer_all : (rs qs : List Read) → length rs ≤ length (with_reads rs qs)
longer_all rs [] = omega arith
longer_all rs (q ∷ qs) = omega (arith, longer rs q, longer_all (with_read rs q) qs)

one_fits : (rs : List Read) (q : Read) → length (with_read rs q) ≤ max_reads → with_few rs q ≡ with_read rs q
one_fits rs q = go (nat_eq (length rs) max_reads) (list_any (λ r. same_read r q) rs) refl
  where
    go : (a b : Bool) → nat_eq (length rs) max_reads ≡ a → length (cond b rs (rs ++ q ∷ [])) ≤ max_reads → cond (a || b) rs (rs ++ q ∷ []) ≡ cond b rs (rs ++ q ∷ [])
    go true true e h = refl
    go true false e h = absurd (omega (arith, eqb-true (length rs) max_reads e, length-append rs (q ∷ [])))
    go false b e h = refl

-- where the different reads are not more than there is room for, they are all taken
pub all_fit : (rs qs : List Read) → length (with_reads rs qs) ≤ max_reads → with_few_reads rs qs ≡ with_reads rs qs
all_fit rs [] h = refl
all_fit rs (q ∷ qs) h =
    let one = one_fits rs q (omega (arith, longer_all (with_read rs q) qs)) in
    ap (λ ps. with_few_reads ps qs) one ∙ all_fit (with_read rs q) qs h

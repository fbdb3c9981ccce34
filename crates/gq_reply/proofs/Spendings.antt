-- The lines of what pipelines spent, one after another.
use Rattle.std.proofs.Common.{◌≡◌, ◌∙◌, ◌+◌, ◌<◌, ◌++◌, ℕ, zero, suc, List, [], ◌∷◌, drop, get_or, length, take, refl, sym, ap, append_assoc, append-nil, arith}
use Rattle.gq_homes.specs.declared.spent.Spent.{Spent}
use Rattle.gq_reply.specs.ReplyTexts.{spent_line, spent_text}

-- a line more
spent_more : (k : ℕ) (ss : List Spent) (i : ℕ) (d : Spent) → i < length ss → spent_text k (take i ss) ++ spent_line (k + i) (get_or ss i d) ≡ spent_text k (take (suc i) ss)
spent_more k [] i d low = absurd (omega (arith, low))
spent_more k (x ∷ ss) zero d low =
    let here : k + 0 ≡ k = omega arith in
    ap (λ n. spent_line n x) here ∙ sym (append-nil (spent_line k x))
spent_more k (x ∷ ss) (suc i) d low =
    let next : k + suc i ≡ k + 1 + i = omega arith in
    append_assoc (spent_line k x) (spent_text (k + 1) (take i ss)) (spent_line (k + suc i) (get_or ss i d))
    ∙ ap (λ l. spent_line k x ++ l) (ap (λ n. spent_text (k + 1) (take i ss) ++ spent_line n (get_or ss i d)) next ∙ spent_more (k + 1) ss i d (omega (arith, low)))

pub spent_next : (ss : List Spent) (i : ℕ) (d : Spent) → i < length ss → spent_text 1 (take i ss) ++ spent_line (i + 1) (get_or ss i d) ≡ spent_text 1 (take (i + 1) ss)
spent_next ss i d low =
    let turned : i + 1 ≡ 1 + i = omega arith in
    let same : suc i ≡ i + 1 = omega arith in
    ap (λ n. spent_text 1 (take i ss) ++ spent_line n (get_or ss i d)) turned ∙ spent_more 1 ss i d low ∙ ap (λ n. spent_text 1 (take n ss)) same

-- the first lines, and the others
pub spent_split : (k : ℕ) (ss : List Spent) (i : ℕ) → spent_text k (take i ss) ++ spent_text (k + i) (drop i ss) ≡ spent_text k ss
spent_split k [] zero = refl
spent_split k [] (suc i) = refl
spent_split k (x ∷ ss) zero = let here : k + 0 ≡ k = omega arith in ap (λ n. spent_text n (x ∷ ss)) here
spent_split k (x ∷ ss) (suc i) =
    let next : k + suc i ≡ k + 1 + i = omega arith in
    append_assoc (spent_line k x) (spent_text (k + 1) (take i ss)) (spent_text (k + suc i) (drop i ss))
    ∙ ap (λ l. spent_line k x ++ l) (ap (λ n. spent_text (k + 1) (take i ss) ++ spent_text n (drop i ss)) next ∙ spent_split (k + 1) ss i)

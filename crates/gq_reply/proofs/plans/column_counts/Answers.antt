use Rattle.std.proofs.Common.{◌≡◌, ℕ, zero, suc, subst, ◌+◌, ◌++◌, List, [], ◌∷◌, length, drop, min, refl, sym, ap, ◌∙◌, arith, append-nil, append_assoc, length-append, length-drop, get_or, ◌<◌}
use Rattle.std.proofs.lemmas.Slice.Zip.{zip_end, zip_turn}
use Rattle.std.proofs.lemmas.List.{drop_more}
use Rattle.std.specs.List.{AllZip}
use Rattle.gq_plan.specs.Columns.{FitsSound, columns_of}
use Rattle.gq_plan.specs.Plans.{plan_of}
use Rattle.gq_plan.specs.declared.Plan as code_plan
use Rattle.gq_plan.specs.declared.typed.Typed.{Typed}
use Rattle.gq_reply.specs.ReplyTexts.{columns_each}
use Rattle.gq_reply.proofs.plans.column_counts.Goals as goal

ended : (ys : List Typed) (ps : List code_plan.Plan) → min (length ys) (length ps) ≡ 0 → columns_each ys ps ≡ []
ended [] ps h = refl
ended (y ∷ ys) [] h = refl
ended (y ∷ ys) (p ∷ ps) h = absurd (omega arith)

-- one more of both
more : (ys : List Typed) (ps : List code_plan.Plan) (n : ℕ) (y : Typed) (p : code_plan.Plan) → n < length ys → n < length ps → y ≡ get_or ys n y → p ≡ get_or ps n p
    → columns_each (drop n ys) (drop n ps) ≡ columns_of y (plan_of p) ∷ columns_each (drop (n + 1) ys) (drop (n + 1) ps)
more ys ps n y p first second here there =
    let left : drop n ys ≡ y ∷ drop (n + 1) ys = drop_more ys n y first ∙ ap (λ v. v ∷ drop (n + 1) ys) (sym here) in
    let right : drop n ps ≡ p ∷ drop (n + 1) ps = drop_more ps n p second ∙ ap (λ v. v ∷ drop (n + 1) ps) (sym there) in
    ap (λ vs. columns_each vs (drop n ps)) left ∙ ap (λ ws. columns_each (y ∷ drop (n + 1) ys) ws) right

-- what holds of each pair of two lists holds of the pair at a place
pair_at : {X Y : Type 0} (R : X → Y → Type 0) (xs : List X) (ys : List Y) (n : ℕ) (x : X) (y : Y) → AllZip R xs ys → n < length xs → n < length ys → x ≡ get_or xs n x → y ≡ get_or ys n y → R x y
pair_at R [] ys n x y all first second here there = absurd (omega arith)
pair_at R (a ∷ xs) [] n x y all first second here there = absurd (omega arith)
pair_at R (a ∷ xs) (b ∷ ys) zero x y all first second here there = subst (λ v. R v y) (sym here) (subst (R a) (sym there) all.0)
pair_at R (a ∷ xs) (b ∷ ys) (suc n) x y all first second here there = pair_at R xs ys n x y all.1 (omega arith) (omega arith) here there

pub columns-requires : goal.columns-requires
columns-requires c =
    let ys : List Typed = c.args.alternatives.now in
    let ps : List code_plan.Plan = c.args.plans.now in
    let n : ℕ = length c.loop-typed.yielded in
    let turn = zip_turn ys ps c.loop-typed.yielded _ c.loop-typed.typed-iterator c.next.new.self c.next.result (cc) (cc) c.loop-typed.yielded_by _ c.in-Some.is c.next.ensures.steps in
    pair_at (λ y p. FitsSound y (plan_of p)) ys ps n c.in-Some.typed.now c.in-Some.plan.now c.requires turn.0 turn.1 (turn.2 _) (turn.3 _)

pub loop-typed-preserved : goal.loop-typed-preserved
loop-typed-preserved c =
    let ys : List Typed = c.args.alternatives.now in
    let ps : List code_plan.Plan = c.args.plans.now in
    let n : ℕ = length c.loop-typed.yielded in
    let old : List ℕ = c.loop-typed.counts in
    let turn = zip_turn ys ps c.loop-typed.yielded _ c.loop-typed.typed-iterator c.next.new.self c.next.result (cc) (cc) c.loop-typed.yielded_by _ c.in-Some.is c.next.ensures.steps in
    let step = more ys ps n c.in-Some.typed.now c.in-Some.plan.now turn.0 turn.1 (turn.2 _) (turn.3 _) in
    let count : c.columns.result ≡ columns_of c.in-Some.typed.now (plan_of c.in-Some.plan.now) = c.columns.ensures.value in
    let next : length (c.loop-typed.yielded ++ (c.in-Some.typed, c.in-Some.plan) ∷ []) ≡ n + 1 = length-append c.loop-typed.yielded _ in
    let pushed : c.push.new.self ≡ old ++ columns_of c.in-Some.typed.now (plan_of c.in-Some.plan.now) ∷ [] = c.in_ok-push.ensures.pushed ∙ ap (λ v. old ++ v ∷ []) count in
    ap (λ vs. vs ++ columns_each (drop (length (c.loop-typed.yielded ++ (c.in-Some.typed, c.in-Some.plan) ∷ [])) ys) (drop (length (c.loop-typed.yielded ++ (c.in-Some.typed, c.in-Some.plan) ∷ [])) ps)) pushed
    ∙ ap (λ m. (old ++ columns_of c.in-Some.typed.now (plan_of c.in-Some.plan.now) ∷ []) ++ columns_each (drop m ys) (drop m ps)) next
    ∙ append_assoc old _ _
    ∙ ap (λ vs. old ++ vs) (sym step)
    ∙ c.loop-typed.invariant

pub returns : goal.returns
returns c =
    let ys : List Typed = c.args.alternatives.now in
    let ps : List code_plan.Plan = c.args.plans.now in
    let n : ℕ = length c.loop-typed.yielded in
    let all : n ≡ min (length ys) (length ps) = zip_end ys ps c.loop-typed.yielded _ c.loop-typed.typed-iterator c.next.new.self c.next.result (cc) (cc) c.loop-typed.yielded_by c.in-None.is c.next.ensures.steps in
    let left : min (length (drop n ys)) (length (drop n ps)) ≡ 0 = omega (arith, all, length-drop n ys, length-drop n ps) in
    sym (append-nil c.loop-typed.counts) ∙ ap (λ cs. c.loop-typed.counts ++ cs) (sym (ended (drop n ys) (drop n ps) left)) ∙ c.loop-typed.invariant

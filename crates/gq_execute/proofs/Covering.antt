-- The plans of a query are those of its alternatives and cover them, one after another.
use Rattle.std.proofs.Common.{◌≡◌, ℕ, ◌+◌, ◌<◌, Option, List, [], ◌∷◌, ◌++◌, take, map, get_or, length, sym, ap, ◌∙◌}
use Rattle.std.specs.List.{AllZip}
use Rattle.std.proofs.lemmas.List.{map-append, take_more}
use Rattle.gq_base.specs.Plain.{Graph}
use Rattle.gq_plan.specs.Plans.{Plan, plan_of}
use Rattle.gq_plan.specs.declared.plan.Plan as code_plan
use Rattle.gq_plan.specs.declared.typed.Typed.{Typed}
use Rattle.gq_execute.specs.Planned.{ArePlansIn, IsPlanIn, sizes}
use Rattle.gq_order.specs.declared.named.Order.{Order}

module _ {A B : Type 0} (R : A → B → Type 0) where
  zip_push : (xs : List A) (ys : List B) (x : A) (y : B) → AllZip R xs ys → R x y → AllZip R (xs ++ x ∷ []) (ys ++ y ∷ [])
  zip_push [] [] x y zip r = (r, tt)
  zip_push [] (w ∷ ys) x y zip r = absurd zip
  zip_push (v ∷ xs) [] x y zip r = absurd zip
  zip_push (v ∷ xs) (w ∷ ys) x y zip r = (zip.0, zip_push xs ys x y zip.1 r)

-- one more of both
pub zip_more : {A B C : Type 0} (R : A → B → Type 0) (f : C → B) (xs : List A) (cs new : List C) (n : ℕ) (c : C) (x : A)
    → AllZip R (take n xs) (map f cs) → n < length xs → x ≡ get_or xs n x → new ≡ cs ++ c ∷ [] → R x (f c) → AllZip R (take (n + 1) xs) (map f new)
zip_more R f xs cs new n c x zip low is pushed r =
    let front : take (n + 1) xs ≡ take n xs ++ x ∷ [] = take_more xs n x low ∙ ap (λ y. take n xs ++ y ∷ []) (sym is) in
    let back : map f new ≡ map f cs ++ f c ∷ [] = ap (map f) pushed ∙ map-append f cs (c ∷ []) in
    rw (front, back) (zip_push R (take n xs) (map f cs) x (f c) zip r)

pub zip_next : {A B : Type 0} (R : A → B → Type 0) (xs : List A) (ys new : List B) (n : ℕ) (x : A) (y : B)
    → AllZip R (take n xs) ys → n < length xs → x ≡ get_or xs n x → new ≡ ys ++ y ∷ [] → R x y → AllZip R (take (n + 1) xs) new
zip_next R xs ys new n x y zip low is pushed r =
    let front : take (n + 1) xs ≡ take n xs ++ x ∷ [] = take_more xs n x low ∙ ap (λ z. take n xs ++ z ∷ []) (sym is) in
    rw (front, pushed) (zip_push R (take n xs) ys x y zip r)

-- ---- the plans of an order

module _ (order : Order) (g : Graph) where
  planned_push : (ys : List Typed) (ps : List Plan) (css : List (List (Option ℕ))) (y : Typed) (p : Plan) (costs : List (Option ℕ))
      → ArePlansIn order g ys ps css → IsPlanIn order g.catalog (sizes g) y p costs → ArePlansIn order g (ys ++ y ∷ []) (ps ++ p ∷ []) (css ++ costs ∷ [])
  planned_push [] [] [] y p costs are is = (is, tt)
  planned_push [] [] (c ∷ css) y p costs are is = absurd are
  planned_push [] (q ∷ ps) css y p costs are is = absurd are
  planned_push (z ∷ ys) [] css y p costs are is = absurd are
  planned_push (z ∷ ys) (q ∷ ps) [] y p costs are is = absurd are
  planned_push (z ∷ ys) (q ∷ ps) (c ∷ css) y p costs are is = (are.0, planned_push ys ps css y p costs are.1 is)

  -- one more of all
  pub planned_more : (ys : List Typed) (ps new : List code_plan.Plan) (css more : List (List (Option ℕ))) (n : ℕ) (p : code_plan.Plan) (costs : List (Option ℕ)) (y : Typed)
      → ArePlansIn order g (take n ys) (map plan_of ps) css → n < length ys → y ≡ get_or ys n y → new ≡ ps ++ p ∷ [] → more ≡ css ++ costs ∷ [] → IsPlanIn order g.catalog (sizes g) y (plan_of p) costs
      → ArePlansIn order g (take (n + 1) ys) (map plan_of new) more
  planned_more ys ps new css more n p costs y are low here pushed grown is =
      let front : take (n + 1) ys ≡ take n ys ++ y ∷ [] = take_more ys n y low ∙ ap (λ z. take n ys ++ z ∷ []) (sym here) in
      let back : map plan_of new ≡ map plan_of ps ++ plan_of p ∷ [] = ap (map plan_of) pushed ∙ map-append plan_of ps (p ∷ []) in
      rw (front, back, grown) (planned_push (take n ys) (map plan_of ps) css y (plan_of p) costs are is)

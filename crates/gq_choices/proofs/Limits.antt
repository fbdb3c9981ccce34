-- What a search that stops has found.
use Rattle.std.proofs.Common.{◌≡◌, ℕ, zero, suc, Bool, true, false, nat_lt, Some, None, if◌then◌else◌, ◌+◌, ◌<◌, ◌≤◌, List, [], ◌∷◌, ◌++◌, length, take, get_or, flat_map, sym, ap, ◌∙◌, refl, arith, append-nil, append_assoc, length-append}
use Rattle.std.proofs.lemmas.List.{take-append-le, take_all, length-take, take_more}
use Rattle.std.proofs.lemmas.Bool.{lt-ltb, le-ltb, ltb-true, ltb-false}
use Rattle.std.proofs.lemmas.Grind.{flat_map-append}
use Rattle.gq_alternatives.specs.Alternatives.{Choice}
use Rattle.gq_alternatives.specs.Searching.{at_most}
use Rattle.gq_choices.specs.steps.Searching.{Found, adding}

-- nothing is added to what is full
pub when_full : (most : ℕ) (cs : List Choice) (s : Found) → length s.choices ≤ suc most → most < length s.choices → s ≡ adding most cs s
when_full most cs s few full = ap (λ xs. record s { choices = xs }) (sym (take-append-le (suc most) s.choices cs (omega arith) ∙ take_all (suc most) s.choices few))

pub add_none : (most : ℕ) (s : Found) → length s.choices ≤ suc most → s ≡ adding most [] s
add_none most s few = ap (λ xs. record s { choices = xs }) (sym (ap (take (suc most)) (append-nil s.choices) ∙ take_all (suc most) s.choices few))

pub add_one : (most : ℕ) (c : Choice) (s : Found) → length s.choices ≤ most → record s { choices = s.choices ++ c ∷ [] } ≡ adding most (c ∷ []) s
add_one most c s room = ap (λ xs. record s { choices = xs }) (sym (take_all (suc most) (s.choices ++ c ∷ []) (omega (arith, length-append s.choices (c ∷ [])))))

take_twice : {X : Type 0} (n : ℕ) (xs ys : List X) → take n (take n xs ++ ys) ≡ take n (xs ++ ys)
take_twice zero xs ys = refl
take_twice (suc n) [] ys = refl
take_twice (suc n) (x ∷ xs) ys = ap (λ l. x ∷ l) (take_twice n xs ys)

pub add_more : (most : ℕ) (cs ds : List Choice) (s : Found) → adding most ds (adding most cs s) ≡ adding most (cs ++ ds) s
add_more most cs ds s = ap (λ xs. record s { choices = xs }) (take_twice (suc most) (s.choices ++ cs) ds ∙ ap (take (suc most)) (append_assoc s.choices cs ds))

pub stay_few : (most : ℕ) (cs : List Choice) (s : Found) → length (adding most cs s).choices ≤ suc most
stay_few most cs s = omega (arith, length-take (suc most) (s.choices ++ cs))

-- one more turn of a loop over what adds choices
pub add_turn : {X : Type 0} (go : X → List Choice) (most : ℕ) (xs : List X) (i : ℕ) (x : X) (s t u : Found) → i < length xs → x ≡ get_or xs i x → t ≡ adding most (flat_map go (take i xs)) s → u ≡ adding most (go x) t
    → u ≡ adding most (flat_map go (take (i + 1) xs)) s
add_turn go most xs i x s t u low is before now =
    now ∙ ap (adding most (go x)) before ∙ add_more most (flat_map go (take i xs)) (go x) s
    ∙ ap (λ cs. adding most cs s)
    (ap (λ cs. flat_map go (take i xs) ++ cs) (sym (append-nil (go x))) ∙ sym (flat_map-append go (take i xs) (x ∷ []))
    ∙ ap (λ z. flat_map go (take i xs ++ z ∷ [])) is ∙ ap (flat_map go) (sym (take_more xs i x low)))

-- a list that was cut above the limit is as far from it
pub at_most_taken : {X : Type 0} (most : ℕ) (xs : List X) → at_most most (take (suc most) xs) ≡ at_most most xs
at_most_taken most xs = go (nat_lt most (length xs)) refl
  where
    go : (b : Bool) → nat_lt most (length xs) ≡ b → at_most most (take (suc most) xs) ≡ at_most most xs
    go true e =
        let long : most < length xs = ltb-true most (length xs) e in
        let still : most < length (take (suc most) xs) = omega (arith, length-take (suc most) xs) in
        ap (λ b. if b then None else Some (take (suc most) xs)) (lt-ltb most (length (take (suc most) xs)) still) ∙ sym (ap (λ b. if b then None else Some xs) e)
    go false e = let short : length xs ≤ most = ltb-false most (length xs) e in ap (at_most most) (take_all (suc most) xs (omega arith))

pub at_most_none : {X : Type 0} (most : ℕ) → let none : List X = [] in Some none ≡ at_most most none
at_most_none {X} most = let none : List X = [] in ap (λ b. if b then None else Some none) (sym (le-ltb most 0 (omega arith)))

pub ruleset limits = (when_full, add_none, add_one)

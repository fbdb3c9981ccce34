-- Ascending lists of the same texts are one list.
use Rattle.std.proofs.Common.{◌≡◌, ℕ, zero, suc, ◌<◌, List, [], ◌∷◌, true, length, get_or, refl, sym, ap, ◌∙◌, subst, arith, inl, inr}
use Rattle.std.specs.Prelude.{Contains, ◌⊎◌}
use Rattle.std.proofs.lemmas.Bool.{true≢false}
use Rattle.std.proofs.lemmas.List.{get_or_default}
use Rattle.gq_dict.specs.Texts.{comes_before, IsAscending}
use Rattle.gq_dict.proofs.Order.{before_itself, not_both}

rest_ascends : (x : List ℕ) (d : List (List ℕ)) → IsAscending (x ∷ d) → IsAscending d
rest_ascends x d asc = λ i j a b. asc (suc i) (suc j) (omega (arith, a)) (omega (arith, b))

-- the first text comes before the others
first_before : (x : List ℕ) (d : List (List ℕ)) (t : List ℕ) → IsAscending (x ∷ d) → Contains d t → comes_before x t ≡ true
first_before x d t asc has =
    let (k, low, at) = has in
    subst (λ u. comes_before x u ≡ true) (get_or_default d k [] t low ∙ at) (asc 0 (suc k) (omega arith) (omega (arith, low)))

-- a text of a list that is not its first is one of the others
in_rest : (y : List ℕ) (e : List (List ℕ)) (t : List ℕ) (k : ℕ) → k < length (y ∷ e) → get_or (y ∷ e) k t ≡ t → (y ≡ t) ⊎ Contains e t
in_rest y e t zero h is = inl is
in_rest y e t (suc k) h is = inr (k, omega (arith, h), is)

one_of : (y : List ℕ) (e : List (List ℕ)) (t : List ℕ) → Contains (y ∷ e) t → (y ≡ t) ⊎ Contains e t
one_of y e t has = let (k, low, at) = has in in_rest y e t k low at

firsts : (x y : List ℕ) (d e : List (List ℕ)) → IsAscending (x ∷ d) → IsAscending (y ∷ e) → Contains (x ∷ d) y → Contains (y ∷ e) x → x ≡ y
firsts x y d e a b has had = elim (one_of x d y has) [
  | inl is ↦ is
  | inr after ↦
      elim (one_of y e x had) [
        | inl is ↦ sym is
        | inr before ↦ absurd (not_both x y (first_before x d y a after) (first_before y e x b before))
      ]
]

rests : (x y : List ℕ) (d e : List (List ℕ)) (t : List ℕ) → IsAscending (x ∷ d) → x ≡ y → (Contains (x ∷ d) t → Contains (y ∷ e) t) → Contains d t → Contains e t
rests x y d e t a is to has =
    let (k, low, at) = has in
    elim (one_of y e t (to (suc k, omega (arith, low), at))) [
      | inl same ↦ absurd (true≢false (sym (first_before x d t a has) ∙ ap (comes_before x) (sym (is ∙ same)) ∙ before_itself x))
      | inr rest ↦ rest
    ]

pub one_dict : (d e : List (List ℕ)) → IsAscending d → IsAscending e → ((t : List ℕ) → Contains d t → Contains e t) → ((t : List ℕ) → Contains e t → Contains d t) → d ≡ e
one_dict [] [] a b to from = refl
one_dict [] (y ∷ e) a b to from = let (k, low, at) = from y (0, omega arith, refl) in absurd (omega (arith, low))
one_dict (x ∷ d) [] a b to from = let (k, low, at) = to x (0, omega arith, refl) in absurd (omega (arith, low))
one_dict (x ∷ d) (y ∷ e) a b to from =
    let is : x ≡ y = firsts x y d e a b (from y (0, omega arith, refl)) (to x (0, omega arith, refl)) in
    let rest : d ≡ e = one_dict d e (rest_ascends x d a) (rest_ascends y e b) (λ t. rests x y d e t a is (to t)) (λ t. rests y x e d t b (sym is) (from t)) in
    ap (λ z. z ∷ d) is ∙ ap (λ l. y ∷ l) rest

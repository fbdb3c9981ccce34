-- Sets of numbers, as lists: what is in one of them, and what lies within another or apart from it.
use Rattle.std.proofs.Common.{◌≡◌, ℕ, Bool, true, false, not, ◌&&◌, ◌||◌, List, [], ◌∷◌, ◌++◌, refl, sym, ◌∙◌, ap, subst, eqb}
use Rattle.std.proofs.lemmas.Bool.{eq-eqb, eqb-true}

-- this number is one of these
abbrev pub among : ℕ → List ℕ → Bool
among n [] = false
among n (m ∷ ms) = eqb n m || among n ms

-- each of these numbers is one of those
abbrev pub within : List ℕ → List ℕ → Bool
within [] ms = true
within (n ∷ ns) ms = among n ms && within ns ms

-- none of these numbers is one of those
abbrev pub apart : List ℕ → List ℕ → Bool
apart [] ms = true
apart (n ∷ ns) ms = not (among n ms) && apart ns ms

pub both_left : (a b : Bool) → (a && b) ≡ true → a ≡ true
both_left true b h = refl
both_left false b h = h

pub both_right : (a b : Bool) → (a && b) ≡ true → b ≡ true
both_right true b h = h
both_right false b h = cc

among_by : (m c : ℕ) (ms : List ℕ) (b : Bool) (P : Type 0) → eqb c m ≡ b → (b || among c ms) ≡ true → (c ≡ m → P) → (among c ms ≡ true → P) → P
among_by m c ms true P e h here there = here (eqb-true c m e)
among_by m c ms false P e h here there = there h

pub within_among : (ns ms : List ℕ) (c : ℕ) → within ns ms ≡ true → among c ns ≡ true → among c ms ≡ true
within_among [] ms c h k = cc
within_among (n ∷ ns) ms c h k = among_by n c ns (eqb c n) (among c ms ≡ true) refl k
    (λ e. subst (λ d. among d ms ≡ true) (sym e) (both_left (among n ms) (within ns ms) h))
    (λ more. within_among ns ms c (both_right (among n ms) (within ns ms) h) more)

not_true : (b : Bool) → not b ≡ true → b ≡ true → ⊥
not_true true h k = cc
not_true false h k = cc

pub apart_among : (ns ms : List ℕ) (c : ℕ) → apart ns ms ≡ true → among c ns ≡ true → among c ms ≡ true → ⊥
apart_among [] ms c h k l = cc
apart_among (n ∷ ns) ms c h k l = among_by n c ns (eqb c n) ⊥ refl k
    (λ e. not_true (among n ms) (both_left (not (among n ms)) (apart ns ms) h) (subst (λ d. among d ms ≡ true) e l))
    (λ more. apart_among ns ms c (both_right (not (among n ms)) (apart ns ms) h) more l)

or_true : (b : Bool) → (b || true) ≡ true
or_true true = refl
or_true false = refl

or_goes_on : (b c d : Bool) → (c ≡ true → d ≡ true) → (b || c) ≡ true → (b || d) ≡ true
or_goes_on true c d go h = refl
or_goes_on false c d go h = go h

-- one of the first, or one of the second
pub among_first : (ns ms : List ℕ) (c : ℕ) → among c ns ≡ true → among c (ns ++ ms) ≡ true
among_first [] ms c h = cc
among_first (n ∷ ns) ms c h = or_goes_on (eqb c n) (among c ns) (among c (ns ++ ms)) (among_first ns ms c) h

pub among_second : (ns ms : List ℕ) (c : ℕ) → among c ms ≡ true → among c (ns ++ ms) ≡ true
among_second [] ms c h = h
among_second (n ∷ ns) ms c h = ap (λ b. eqb c n || b) (among_second ns ms c h) ∙ or_true (eqb c n)

pub among_self : (n : ℕ) → among n (n ∷ []) ≡ true
among_self n = ap (λ b. b || false) (eq-eqb n n refl)

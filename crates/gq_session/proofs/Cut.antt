-- The cut of a text and of what follows it.
use Rattle.std.proofs.Common.{◌≡◌, ℕ, ◌+◌, ◌<◌, ◌≤◌, List, [], ◌∷◌, ◌++◌, length, take, get_or, true, false, refl, sym, ap, ◌∙◌, append_assoc, append-nil, arith, Bool}
use Rattle.std.proofs.lemmas.List.{take_more}
use Rattle.std.specs.Prelude.{if◌then◌else◌, nat_le}
use Rattle.gq_session.specs.declared.scan.State.TheVariants as at
use Rattle.gq_session.specs.Scanning.{Place, stop, step, next_state, ends, ended_by, place_after, ended_in}

pub place-append : (long most : ℕ) (p : Place) (xs ys : List ℕ) → place_after long most p (xs ++ ys) ≡ place_after long most (place_after long most p xs) ys
place-append long most p [] ys = refl
place-append long most p (b ∷ xs) ys = place-append long most (step long most p b) xs ys

pub ended-append : (long most : ℕ) (p : Place) (xs ys : List ℕ) → ended_in long most p (xs ++ ys) ≡ ended_in long most p xs ++ ended_in long most (place_after long most p xs) ys
ended-append long most p [] ys = refl
ended-append long most p (b ∷ xs) ys = ap (λ l. ended_by most p b ++ l) (ended-append long most (step long most p b) xs ys) ∙ sym (append_assoc (ended_by most p b) _ _)

step-stopped : (long most : ℕ) (p : Place) (b : ℕ) → p.stopped ≡ true → step long most p b ≡ p
step-stopped long most p b h = rw h refl

by-stopped : (most : ℕ) (p : Place) (b : ℕ) → p.stopped ≡ true → ended_by most p b ≡ []
by-stopped most p b h = rw h refl

pub place-stopped : (long most : ℕ) (p : Place) (xs : List ℕ) → p.stopped ≡ true → place_after long most p xs ≡ p
place-stopped long most p [] h = refl
place-stopped long most p (b ∷ xs) h = ap (λ q. place_after long most q xs) (step-stopped long most p b h) ∙ place-stopped long most p xs h

pub ended-stopped : (long most : ℕ) (p : Place) (xs : List ℕ) → p.stopped ≡ true → ended_in long most p xs ≡ []
ended-stopped long most p [] h = refl
ended-stopped long most p (b ∷ xs) h = ap (λ l. l ++ ended_in long most (step long most p b) xs) (by-stopped most p b h)
    ∙ ap (λ q. ended_in long most q xs) (step-stopped long most p b h) ∙ ended-stopped long most p xs h

-- one more byte of a text
pub place-more : (long most : ℕ) (p : Place) (xs : List ℕ) (i : ℕ) → i < length xs
    → place_after long most p (take (i + 1) xs) ≡ step long most (place_after long most p (take i xs)) (get_or xs i 0)
place-more long most p xs i h = ap (place_after long most p) (take_more xs i 0 h) ∙ place-append long most p (take i xs) (get_or xs i 0 ∷ [])

pub ended-more : (long most : ℕ) (p : Place) (xs : List ℕ) (i : ℕ) → i < length xs
    → ended_in long most p (take (i + 1) xs) ≡ ended_in long most p (take i xs) ++ ended_by most (place_after long most p (take i xs)) (get_or xs i 0)
ended-more long most p xs i h = ap (ended_in long most p) (take_more xs i 0 h) ∙ ended-append long most p (take i xs) (get_or xs i 0 ∷ [])
    ∙ ap (λ l. ended_in long most p (take i xs) ++ l) (append-nil _)

-- a place that no limit stopped was not stopped before
pub live : (long most : ℕ) (p : Place) (xs : List ℕ) → (place_after long most p xs).stopped ≡ false → p.stopped ≡ false
live long most p xs h = live-by p.stopped refl
  where
    live-by : (s : Bool) → p.stopped ≡ s → s ≡ false
    live-by false e = refl
    live-by true e = let same = ap (λ q. q.stopped) (place-stopped long most p xs e) in cc

counted : (s m e l : Bool) (p a c : Place) (most : ℕ) → p.stopped ≡ s → a.count ≡ p.count + 1 → c.count ≡ p.count + 1 → (m ≡ false → p.count < most)
    → (if s then p else if m then stop p else if e then a else if l then stop p else c).stopped ≡ false
    → ((if s then p else if m then stop p else if e then a else if l then stop p else c).count ≡ p.count + 1) × (p.count < most)
counted true m e l p a c most is ea ec f h = cc
counted false true e l p a c most is ea ec f h = cc
counted false false true l p a c most is ea ec f h = (ea, f refl)
counted false false false true p a c most is ea ec f h = cc
counted false false false false p a c most is ea ec f h = (ec, f refl)

room-left : (most count : ℕ) → nat_le most count ≡ false → count < most
room-left most count h = grind (arith, h)

pub step-count : (long most : ℕ) (p : Place) (b : ℕ) → (step long most p b).stopped ≡ false → ((step long most p b).count ≡ p.count + 1) × (p.count < most)
step-count long most p b h = counted p.stopped (nat_le most p.count) (ends p.state b) (nat_le long (length p.rest)) p
    (record { state = at.Plain; rest = []; count = p.count + 1; stopped = false })
    (record { state = next_state p.state b; rest = p.rest ++ b ∷ []; count = p.count + 1; stopped = false })
    most refl refl refl (room-left most p.count) h

pub count-grows : (long most : ℕ) (p : Place) (xs : List ℕ) → (place_after long most p xs).stopped ≡ false → (place_after long most p xs).count ≡ p.count + length xs
count-grows long most p [] h = omega arith
count-grows long most p (b ∷ xs) h =
    let one = step-count long most p b (live long most (step long most p b) xs h) in
    let more = count-grows long most (step long most p b) xs h in grind (arith, one, more)

pub count-within : (long most : ℕ) (p : Place) (xs : List ℕ) → p.count ≤ most → (place_after long most p xs).stopped ≡ false → (place_after long most p xs).count ≤ most
count-within long most p [] le h = le
count-within long most p (b ∷ xs) le h =
    let one = step-count long most p b (live long most (step long most p b) xs h) in
    count-within long most (step long most p b) xs (omega (arith, one)) h

-- The items of pairs stand in the lists of their vertices, and no others do.
use Rattle.std.proofs.Common.{◌≡◌, ℕ, zero, suc, ◌+◌, ◌-◌, ◌<◌, List, [], ◌∷◌, ◌++◌, length, get_or, cond, eqb, true, false, refl, sym, ap, ◌∙◌, subst, arith, inl, inr}
use Rattle.std.specs.Prelude.{All}
use Rattle.std.specs.List.{concat}
use Rattle.std.proofs.lemmas.Bool.{cases_lt, eq-eqb}
use Rattle.std.proofs.lemmas.List.{length-append, get_or_append_left, get_or-append-add, get_or-append_right}
use Rattle.gq_adj.specs.Adjacent.{targets, lists_of}
use Rattle.gq_adj.proofs.Sorting.{length-lists_from, get_or-lists_from}

-- x stands in a list
pub record Found (items : List ℕ) (x : ℕ) : Type 0 where
  pub at : ℕ
  pub within : at < length items
  pub is : get_or items at 0 ≡ x

later : (t : ℕ) (ts : List ℕ) (x : ℕ) → Found ts x → Found (t ∷ ts) x
later t ts x f = record { at = suc f.at; within = (let low : f.at < length ts = f.within in omega arith); is = f.is }

left : (xs ys : List ℕ) (x : ℕ) → Found xs x → Found (xs ++ ys) x
left xs ys x f = record { at = f.at; within = (let low : f.at < length xs = f.within in omega (arith, length-append xs ys)); is = get_or_append_left xs ys 0 f.at f.within ∙ f.is }

right : (xs ys : List ℕ) (x : ℕ) → Found ys x → Found (xs ++ ys) x
right xs ys x f = record { at = length xs + f.at; within = (let low : f.at < length ys = f.within in omega (arith, length-append xs ys)); is = get_or-append-add xs ys f.at 0 ∙ f.is }

from_cons : (t : ℕ) (rest items : List ℕ) (k : ℕ) → ((m : ℕ) → m < length rest → Found items (get_or rest m 0)) → k < length (t ∷ rest) → Found (t ∷ items) (get_or (t ∷ rest) k 0)
from_cons t rest items zero each h = record { at = 0; within = omega arith; is = refl }
from_cons t rest items (suc k) each h = later t items (get_or rest k 0) (each k (omega arith))

-- what stands in the list of a vertex is an item
pub targets-from : (v : ℕ) (from items : List ℕ) (k : ℕ) → length from ≡ length items → k < length (targets v from items) → Found items (get_or (targets v from items) k 0)
targets-from v [] items k e h = absurd (omega arith)
targets-from v (f ∷ fs) [] k e h = absurd (omega arith)
targets-from v (f ∷ fs) (t ∷ ts) k e h =
    let rest : List ℕ = targets v fs ts in
    let each : (m : ℕ) → m < length rest → Found ts (get_or rest m 0) = λ m w. targets-from v fs ts m (omega arith) w in
    (elim (eqb f v) as (λ b. k < length (cond b (t ∷ rest) rest) → Found (t ∷ ts) (get_or (cond b (t ∷ rest) rest) k 0)) [
      | true ↦ (λ w. from_cons t rest ts k each w)
      | false ↦ (λ w. later t ts (get_or rest k 0) (each k w))
    ]) h

-- an item stands in the list of its vertex
pub targets-to : (from items : List ℕ) (j : ℕ) → length from ≡ length items → j < length from → Found (targets (get_or from j 0) from items) (get_or items j 0)
targets-to [] items j e h = absurd (omega arith)
targets-to (f ∷ fs) [] j e h = absurd (omega arith)
targets-to (f ∷ fs) (t ∷ ts) zero e h =
    let rest : List ℕ = targets f fs ts in
    subst (λ b. Found (cond b (t ∷ rest) rest) t) (sym (eq-eqb f f refl)) (record { at = 0; within = omega arith; is = refl })
targets-to (f ∷ fs) (t ∷ ts) (suc j) e h =
    let v : ℕ = get_or fs j 0 in
    let x : ℕ = get_or ts j 0 in
    let rest : List ℕ = targets v fs ts in
    let found : Found rest x = targets-to fs ts j (omega arith) (omega arith) in
    elim (eqb f v) as (λ b. Found (cond b (t ∷ rest) rest) x) [ true ↦ later t rest x found | false ↦ found ]

concat-at : (xss : List (List ℕ)) (v x : ℕ) → v < length xss → Found (get_or xss v []) x → Found (concat xss) x
concat-at [] v x h f = absurd (omega arith)
concat-at (xs ∷ xss) zero x h f = left xs (concat xss) x f
concat-at (xs ∷ xss) (suc v) x h f = right xs (concat xss) x (concat-at xss v x (omega arith) f)

record Within (xss : List (List ℕ)) (x : ℕ) : Type 0 where
  pub list : ℕ
  pub there : list < length xss
  pub found : Found (get_or xss list []) x

concat-of : (xss : List (List ℕ)) (p : ℕ) → p < length (concat xss) → Within xss (get_or (concat xss) p 0)
concat-of [] p h = absurd (omega arith)
concat-of (xs ∷ xss) p h = elim (cases_lt p (length xs)) [
  | inl low ↦ record { list = 0; there = omega arith; found = record { at = p; within = low; is = sym (get_or_append_left xs (concat xss) 0 p low) } }
  | inr high ↦
      let w = concat-of xss (p - length xs) (omega (arith, length-append xs (concat xss))) in
      let low : w.list < length xss = w.there in
      record { list = suc w.list; there = omega arith; found = subst (Found (get_or xss w.list [])) (sym (get_or-append_right xs (concat xss) (length xs) p 0 refl high)) w.found }
]

-- each item stands in the lists, one after another
pub lists-reach : (n : ℕ) (from items : List ℕ) (j : ℕ) → length from ≡ length items → All (λ v. v < n) from → j < length from → Found (concat (lists_of n from items)) (get_or items j 0)
lists-reach n from items j e below h =
    let v : ℕ = get_or from j 0 in
    let inside : v < n = below j 0 h in
    let zero_plus : 0 + v ≡ v = omega arith in
    concat-at (lists_of n from items) v (get_or items j 0) (omega (arith, length-lists_from 0 n from items))
    (subst (λ l. Found l (get_or items j 0)) (sym (get_or-lists_from 0 n v from items [] inside ∙ ap (λ u. targets u from items) zero_plus)) (targets-to from items j e h))

-- and nothing else
pub lists-hold : (n : ℕ) (from items : List ℕ) (p : ℕ) → length from ≡ length items → p < length (concat (lists_of n from items)) → Found items (get_or (concat (lists_of n from items)) p 0)
lists-hold n from items p e h =
    let w = concat-of (lists_of n from items) p h in
    let inside : w.list < n = (let low : w.list < length (lists_of n from items) = w.there in omega (arith, length-lists_from 0 n from items)) in
    let is : get_or (lists_of n from items) w.list [] ≡ targets (0 + w.list) from items = get_or-lists_from 0 n w.list from items [] inside in
    let found = subst (λ l. Found l (get_or (concat (lists_of n from items)) p 0)) is w.found in
    subst (Found items) found.is (targets-from (0 + w.list) from items found.at e found.within)

-- The choices that agree are those with each reading of one relationship pattern, one after another.
use Rattle.std.proofs.Common.{◌≡◌, ℕ, zero, suc, ◌+◌, ◌<◌, ◌≤◌, Bool, true, ◌&&◌, List, [], ◌∷◌, ◌++◌, map, filter, flat_map, length, take, get_or, slice_set, refl, sym, ap, ◌∙◌, arith, append-nil}
use Rattle.std.specs.Prelude.{nat_le}
use Rattle.std.specs.List.{list_all}
use Rattle.std.proofs.lemmas.Bool.{and_parts, and_from}
use Rattle.std.proofs.lemmas.Bool.Decides.{nat_tests}
use Rattle.std.proofs.lemmas.List.{map-append}
use Rattle.gq_base.specs.Catalogs.{Tables}
use Rattle.gq_alternatives.specs.Alternatives.{Reading, Choice}
use Rattle.gq_choices.specs.steps.Branching.{deciding, is_decided, readings_at}
use Rattle.gq_alternatives.specs.Candidates.{Step}
use Rattle.gq_choices.specs.steps.Searching.{one_of_each, ends_agree, all_ends_agree, agreeing}
use Rattle.gq_alternatives.proofs.Searches.{flat_map_flat_map, flat_map_none, flat_map_same}

map_flat_map : {X Y Z : Type 0} (f : Y → Z) (h : X → List Y) (xs : List X) → map f (flat_map h xs) ≡ flat_map (λ x. map f (h x)) xs
map_flat_map f h [] = refl
map_flat_map f h (x ∷ xs) = map-append f (h x) (flat_map h xs) ∙ ap (λ ys. map f (h x) ++ ys) (map_flat_map f h xs)

-- one more list in front, which has no more than one item
in_front : {X Y : Type 0} (all : List (List X)) (each : Y → List (List X)) (cs : List Y) → all ≡ flat_map each cs
    → (rs : List X) → nat_le (length rs) 1 ≡ true
    → flat_map (λ x. map (λ l. x ∷ l) all) rs ≡ flat_map (λ c. flat_map (λ x. map (λ l. x ∷ l) (each c)) rs) cs
in_front all each cs same [] few = sym (flat_map_none cs)
in_front all each cs same (r ∷ []) few =
    append-nil (map (λ l. r ∷ l) all) ∙ ap (map (λ l. r ∷ l)) same ∙ map_flat_map (λ l. r ∷ l) each cs
    ∙ flat_map_same _ _ (λ c. sym (append-nil (map (λ l. r ∷ l) (each c)))) cs
in_front all each cs same (r ∷ q ∷ rs) few = absurd (grind (arith, nat_tests, few))

split_readings : (at : ℕ) (ss : List Step) → at < length ss → list_all is_decided (take at ss) ≡ true
    → one_of_each (map (λ s. s.readings) ss) ≡ flat_map (λ c. one_of_each (map (λ s. s.readings) (deciding at c ss))) (readings_at ss at)
unfolding one_of_each deciding
split_readings at [] low h = absurd (omega arith)
split_readings zero (s ∷ ss) low h =
    flat_map_same _ _ (λ c. sym (append-nil (map (λ l. c ∷ l) (one_of_each (map (λ s. s.readings) ss))))) s.readings
split_readings (suc at) (s ∷ ss) low h =
    let parts = and_parts (is_decided s) (list_all is_decided (take at ss)) h in
    in_front (one_of_each (map (λ s. s.readings) ss)) (λ c. one_of_each (map (λ s. s.readings) (deciding at c ss))) (readings_at ss at)
    (split_readings at ss (omega arith) parts.1) s.readings parts.0

module _ (catalog : Tables) (lists : List (List ℕ)) where
  ends_kept : (at : ℕ) (c : Reading) (ss : List Step) (ts : List ℕ) (cs : List Reading) → all_ends_agree catalog ts (deciding at c ss) cs ≡ all_ends_agree catalog ts ss cs
  unfolding deciding
  ends_kept at c [] ts cs = refl
  ends_kept zero c (s ∷ ss) ts [] = refl
  ends_kept zero c (s ∷ ss) ts (k ∷ cs) = refl
  ends_kept (suc at) c (s ∷ ss) ts [] = refl
  ends_kept (suc at) c (s ∷ ss) ts (k ∷ cs) = ap (λ b. ends_agree catalog ts s.pattern k && b) (ends_kept at c ss ts cs)

  -- the choices that agree, by the readings of a pattern before which each has one at most
  pub branch_each : (at : ℕ) (ss : List Step) → at < length ss → list_all is_decided (take at ss) ≡ true
      → flat_map (λ c. agreeing catalog (deciding at c ss) lists) (readings_at ss at) ≡ agreeing catalog ss lists
  unfolding agreeing
  branch_each at ss low h =
      let with_test : List Reading → (List ℕ → Bool) → List Choice = λ cs test. map (λ ts. record { readings = cs; tables = ts }) (filter test (one_of_each lists)) in
      let whole : List Reading → List Choice = λ cs. with_test cs (λ ts. all_ends_agree catalog ts ss cs) in
      sym
      (ap (flat_map whole) (split_readings at ss low h)
      ∙ flat_map_flat_map whole (λ c. one_of_each (map (λ s. s.readings) (deciding at c ss))) (readings_at ss at)
      ∙ flat_map_same _ _
      (λ c. flat_map_same whole (λ cs. with_test cs (λ ts. all_ends_agree catalog ts (deciding at c ss) cs))
      (λ cs. ap (with_test cs) (λ i ts. sym (ends_kept at c ss ts cs) i)) (one_of_each (map (λ s. s.readings) (deciding at c ss)))) (readings_at ss at))

-- a pattern that is set to one reading
pub set_decides : (at : ℕ) (c : Reading) (ss : List Step) (s : Step) → at < length ss → s ≡ get_or ss at s → slice_set ss at (record { pattern = s.pattern; readings = c ∷ [] }) ≡ deciding at c ss
unfolding deciding
set_decides at c [] s low is = absurd (omega arith)
set_decides zero c (r ∷ ss) s low is = ap (λ (z : Step). record { pattern = z.pattern; readings = c ∷ [] } ∷ ss) is
set_decides (suc at) c (r ∷ ss) s low is = ap (λ l. r ∷ l) (set_decides at c ss s (omega arith) is)

-- one more pattern that has no more than one reading
pub decided_more : (ss : List Step) (at : ℕ) (s : Step) → at < length ss → s ≡ get_or ss at s → is_decided s ≡ true → list_all is_decided (take at ss) ≡ true
    → list_all is_decided (take (at + 1) ss) ≡ true
decided_more ss at s low is one h = let next : at + 1 ≡ suc at = omega arith in ap (λ n. list_all is_decided (take n ss)) next ∙ go ss at low is h
  where
    go : (xs : List Step) (n : ℕ) → n < length xs → s ≡ get_or xs n s → list_all is_decided (take n xs) ≡ true → list_all is_decided (take (suc n) xs) ≡ true
    go [] n low e h = absurd (omega arith)
    go (x ∷ xs) zero low e h = and_from (is_decided x) true (ap is_decided (sym e) ∙ one) refl
    go (x ∷ xs) (suc n) low e h =
        let parts = and_parts (is_decided x) (list_all is_decided (take n xs)) h in
        and_from (is_decided x) (list_all is_decided (take (suc n) xs)) parts.0 (go xs n (omega arith) e parts.1)

-- there is no pattern to be set
pub past_decides : (at : ℕ) (c : Reading) (ss : List Step) → length ss ≤ at → ss ≡ deciding at c ss
unfolding deciding
past_decides at c [] e = refl
past_decides zero c (s ∷ ss) e = absurd (omega arith)
past_decides (suc at) c (s ∷ ss) e = ap (λ l. s ∷ l) (past_decides at c ss (omega arith))

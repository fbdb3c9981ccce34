-- What narrowing drops stands in no choice that agrees.
use Rattle.std.proofs.Common.{◌≡◌, ℕ, zero, suc, ◌+◌, arith, not, Bool, true, false, ◌&&◌, ◌||◌, nat_eq, Option, Some, None, List, [], ◌∷◌, map, filter, flat_map, slice_get, refl, sym, ap, ap₂, ◌∙◌, true≢false, zero-add, ◌++◌}
use Rattle.std.specs.List.{AllByRecursion, list_all, list_any}
use Rattle.std.specs.Option.{option_map}
use Rattle.std.proofs.Math.Bool.{and-false, or-true}
use Rattle.std.proofs.lemmas.Bool.{and_parts, and_from, eqb-true, eq-eqb}
use Rattle.std.proofs.lemmas.List.Folds.{flat_map-map}
use Rattle.gq_base.specs.Catalogs.{Tables}
use Rattle.gq_plan.proofs.Each.{each_of, each_then, each_map, each_flat_map}
use Rattle.gq_alternatives.specs.Alternatives.{Reading, Choice, source_of, target_of, same_table}
use Rattle.gq_alternatives.specs.Candidates.{Step}
use Rattle.gq_choices.specs.steps.Searching.{one_of_each, ends_agree, all_ends_agree, agreeing, stands_at, stands, standing, suits, supports}
use Rattle.gq_alternatives.proofs.Searches.{filter_both, flat_map_flat_map, flat_map_same, flat_map_none, flat_map_filtered, filter_none, filter_same}
use Rattle.gq_choices.proofs.Searches.{filter_cons}
use Rattle.gq_scopes.specs.Patterns.{RelPattern}

-- the tables are of these lists
abbrev of_lists : List (List ℕ) → List ℕ → Bool
of_lists [] [] = true
of_lists [] (t ∷ ts) = false
of_lists (xs ∷ xss) [] = false
of_lists (xs ∷ xss) (t ∷ ts) = list_any (λ u. nat_eq u t) xs && of_lists xss ts

-- each item of a list is one of it
each_member : (xs : List ℕ) → AllByRecursion (λ t. list_any (λ u. nat_eq u t) xs ≡ true) xs
each_member [] = tt
each_member (x ∷ xs) = (
  ap (λ b. b || list_any (λ u. nat_eq u x) xs) (eq-eqb x x refl),
  each_then (λ t. list_any (λ u. nat_eq u t) xs ≡ true) (λ t. (nat_eq x t || list_any (λ u. nat_eq u t) xs) ≡ true) (λ t h. ap (λ b. nat_eq x t || b) h ∙ or-true (nat_eq x t)) xs (each_member xs),
)

each_of_lists : (xss : List (List ℕ)) → AllByRecursion (λ ts. of_lists xss ts ≡ true) (one_of_each xss)
unfolding one_of_each
each_of_lists [] = (refl, tt)
each_of_lists (xs ∷ xss) =
    each_flat_map (λ t. list_any (λ u. nat_eq u t) xs ≡ true) (λ ts. of_lists (xs ∷ xss) ts ≡ true) (λ t. map (λ l. t ∷ l) (one_of_each xss))
    (λ t h. each_map (λ l. of_lists xss l ≡ true) (λ ts. of_lists (xs ∷ xss) ts ≡ true) (λ l. t ∷ l) (λ l k. and_from (list_any (λ u. nat_eq u t) xs) (of_lists xss l) h k) (one_of_each xss) (each_of_lists xss)) xs (each_member xs)

-- a table that a list does not have is not that of its variable
differs : (lists : List (List ℕ)) (ts : List ℕ) (v : ℕ) (o : Option ℕ) → of_lists lists ts ≡ true → stands_at (slice_get lists v) o ≡ false → same_table (slice_get ts v) o ≡ false
differs [] [] v o h k = refl
differs [] (t ∷ ts) v o h k = absurd (true≢false (sym h))
differs (xs ∷ xss) [] v o h k = absurd (true≢false (sym h))
differs (xs ∷ xss) (t ∷ ts) zero None h k = refl
differs (xs ∷ xss) (t ∷ ts) zero (Some u) h k = go (nat_eq t u) refl
  where
    go : (b : Bool) → nat_eq t u ≡ b → nat_eq t u ≡ false
    go false e = e
    go true e = absurd (true≢false (sym (and_parts (list_any (λ w. nat_eq w t) xs) (of_lists xss ts) h).0 ∙ ap (λ n. list_any (λ w. nat_eq w n) xs) (eqb-true t u e) ∙ k))
differs (xs ∷ xss) (t ∷ ts) (suc v) o h k = differs xss ts v o (and_parts (list_any (λ w. nat_eq w t) xs) (of_lists xss ts) h).1 k

either_fails : (a b c d : Bool) → (a && b) ≡ false → (a ≡ false → c ≡ false) → (b ≡ false → d ≡ false) → (c && d) ≡ false
either_fails false b c d h f k = ap (λ x. x && d) (f refl)
either_fails true false c d h f k = ap (λ x. c && x) (k refl) ∙ and-false c
either_fails true true c d h f k = absurd (true≢false h)

module _ (catalog : Tables) (lists : List (List ℕ)) where
  ends_differ : (p : RelPattern) (c : Reading) (ts : List ℕ) → stands catalog lists p c ≡ false → of_lists lists ts ≡ true → ends_agree catalog ts p c ≡ false
  ends_differ p c ts falls h =
      let from : Option ℕ = option_map (λ k. k.from) (slice_get catalog.rels c.table) in
      let to : Option ℕ = option_map (λ k. k.to) (slice_get catalog.rels c.table) in
      either_fails (stands_at (slice_get lists (source_of p c)) from) (stands_at (slice_get lists (target_of p c)) to) (same_table (slice_get ts (source_of p c)) from) (same_table (slice_get ts (target_of p c)) to) falls
      (differs lists ts (source_of p c) from h) (differs lists ts (target_of p c) to h)

  -- the choices with these readings in front, in which a test of the tables holds
  abbrev before : List Reading → (List ℕ → Bool) → List Choice
  before cs test = map (λ ts. record { readings = cs; tables = ts }) (filter test (one_of_each lists))

  stand_kept : (go : List Reading → (List ℕ → Bool) → List Choice) → ((cs : List Reading) → go cs (λ ts. false) ≡ [])
      → ((cs : List Reading) (p q : List ℕ → Bool) → AllByRecursion (λ ts. p ts ≡ q ts) (one_of_each lists) → go cs p ≡ go cs q) → (ss : List Step)
      → flat_map (λ cs. go cs (λ ts. all_ends_agree catalog ts ss cs)) (one_of_each (map (λ s. s.readings) ss))
      ≡ flat_map (λ cs. go cs (λ ts. all_ends_agree catalog ts (map (standing catalog lists) ss) cs)) (one_of_each (map (λ s. s.readings) (map (standing catalog lists) ss)))
  unfolding one_of_each
  stand_kept go none same [] = refl
  stand_kept go none same (s ∷ ss) =
      let rest : List (List Reading) = one_of_each (map (λ s. s.readings) ss) in
      let kept : List (List Reading) = one_of_each (map (λ s. s.readings) (map (standing catalog lists) ss)) in
      let whole : List Reading → List Choice = λ cs. go cs (λ ts. all_ends_agree catalog ts (s ∷ ss) cs) in
      let narrow : List Reading → List Choice = λ cs. go cs (λ ts. all_ends_agree catalog ts (map (standing catalog lists) (s ∷ ss)) cs) in
      flat_map_flat_map whole (λ c. map (λ l. c ∷ l) rest) s.readings
      ∙ flat_map_same _ _ (λ c. flat_map-map whole (λ l. c ∷ l) rest) s.readings
      ∙ flat_map_filtered (stands catalog lists s.pattern) (λ c. flat_map (λ l. whole (c ∷ l)) rest) (λ c. flat_map (λ l. narrow (c ∷ l)) kept)
      (λ c e. stand_kept (λ cs test. go (c ∷ cs) (λ ts. ends_agree catalog ts s.pattern c && test ts))
      (λ cs. ap (go (c ∷ cs)) (λ i ts. and-false (ends_agree catalog ts s.pattern c) i) ∙ none (c ∷ cs))
      (λ cs p q h. same (c ∷ cs) (λ ts. ends_agree catalog ts s.pattern c && p ts) (λ ts. ends_agree catalog ts s.pattern c && q ts)
      (each_then (λ ts. p ts ≡ q ts) (λ ts. (ends_agree catalog ts s.pattern c && p ts) ≡ (ends_agree catalog ts s.pattern c && q ts)) (λ ts k. ap (λ b. ends_agree catalog ts s.pattern c && b) k) (one_of_each lists) h)) ss)
      (λ c e. flat_map_same _ _
      (λ l. same (c ∷ l) (λ ts. ends_agree catalog ts s.pattern c && all_ends_agree catalog ts ss l) (λ ts. false)
      (each_then (λ ts. of_lists lists ts ≡ true) (λ ts. (ends_agree catalog ts s.pattern c && all_ends_agree catalog ts ss l) ≡ false) (λ ts h. ap (λ b. b && all_ends_agree catalog ts ss l) (ends_differ s.pattern c ts e h)) (one_of_each lists) (each_of_lists lists))
      ∙ none (c ∷ l)) rest ∙ flat_map_none rest) s.readings
      ∙ sym
      (flat_map_flat_map narrow (λ c. map (λ l. c ∷ l) kept) (filter (stands catalog lists s.pattern) s.readings)
      ∙ flat_map_same _ _ (λ c. flat_map-map narrow (λ l. c ∷ l) kept) (filter (stands catalog lists s.pattern) s.readings))

  -- the readings that stand are enough
  pub standing_agree : (ss : List Step) → agreeing catalog (map (standing catalog lists) ss) lists ≡ agreeing catalog ss lists
  unfolding agreeing
  standing_agree ss =
      sym
      (stand_kept before (λ cs. ap (map (λ ts. record { readings = cs; tables = ts })) (filter_none (one_of_each lists)))
      (λ cs p q h. ap (map (λ ts. record { readings = cs; tables = ts })) (filter_same p q (one_of_each lists) h)) ss)

-- ---- the tables that are supported

-- each relationship pattern has a reading that does not deny a variable a table
abbrev pub supported : Tables → List Step → ℕ → ℕ → Bool
supported catalog steps v table = list_all (supports catalog v table) steps

-- of the lists of the variables from one on, what passes a test
abbrev pub kept : (ℕ → ℕ → Bool) → ℕ → List (List ℕ) → List (List ℕ)
kept fits v [] = []
kept fits v (ts ∷ tss) = filter (fits v) ts ∷ kept fits (suc v) tss

abbrev fits : (ℕ → ℕ → Bool) → ℕ → List ℕ → Bool
fits fit v [] = true
fits fit v (t ∷ ts) = fit v t && fits fit (suc v) ts

tables_kept : (fit : ℕ → ℕ → Bool) (v : ℕ) (lists : List (List ℕ)) → filter (fits fit v) (one_of_each lists) ≡ one_of_each (kept fit v lists)
unfolding one_of_each
tables_kept fit v [] = refl
tables_kept fit v (ts ∷ tss) =
    filter_cons (fits fit v) (fit v) (fits fit (suc v)) (λ x l. refl) ts (one_of_each tss)
    ∙ ap (λ rest. flat_map (λ x. map (λ l. x ∷ l) rest) (filter (fit v) ts)) (tables_kept fit (suc v) tss)

fits_from : (fit : ℕ → ℕ → Bool) (v : ℕ) (ts : List ℕ) → ((k t : ℕ) → slice_get ts k ≡ Some t → fit (v + k) t ≡ true) → fits fit v ts ≡ true
fits_from fit v [] h = refl
fits_from fit v (t ∷ ts) h =
    let here : v + 0 ≡ v = omega arith in
    and_from (fit v t) (fits fit (suc v) ts) (ap (λ n. fit n t) (sym here) ∙ h zero t refl)
    (fits_from fit (suc v) ts (λ k u e. let there : suc v + k ≡ v + suc k = omega arith in ap (λ n. fit n u) there ∙ h (suc k) u e))

-- each reading is a candidate of its step
abbrev Chosen : List Step → List Reading → Type 0
Chosen [] [] = Unit {0}
Chosen [] (c ∷ cs) = ⊥
Chosen (s ∷ ss) [] = ⊥
Chosen (s ∷ ss) (c ∷ cs) = ((q : Reading → Bool) → q c ≡ true → list_any q s.readings ≡ true) × Chosen ss cs

each_candidate : (rs : List Reading) → AllByRecursion (λ c. (q : Reading → Bool) → q c ≡ true → list_any q rs ≡ true) rs
each_candidate [] = tt
each_candidate (r ∷ rs) = (
  λ q e. ap (λ b. b || list_any q rs) e,
  each_then (λ c. (q : Reading → Bool) → q c ≡ true → list_any q rs ≡ true) (λ c. (q : Reading → Bool) → q c ≡ true → (q r || list_any q rs) ≡ true) (λ c h q e. ap (λ b. q r || b) (h q e) ∙ or-true (q r)) rs (each_candidate rs),
)

each_chosen : (ss : List Step) → AllByRecursion (Chosen ss) (one_of_each (map (λ s. s.readings) ss))
unfolding one_of_each
each_chosen [] = (tt, tt)
each_chosen (s ∷ ss) =
    each_flat_map (λ c. (q : Reading → Bool) → q c ≡ true → list_any q s.readings ≡ true) (Chosen (s ∷ ss)) (λ c. map (λ l. c ∷ l) (one_of_each (map (λ s. s.readings) ss)))
    (λ c h. each_map (Chosen ss) (Chosen (s ∷ ss)) (λ l. c ∷ l) (λ l k. (h, k)) (one_of_each (map (λ s. s.readings) ss)) (each_chosen ss)) s.readings (each_candidate s.readings)

not_denied : (ts : List ℕ) (v w t : ℕ) (o : Option ℕ) → slice_get ts v ≡ Some t → same_table (slice_get ts w) o ≡ true → (not (nat_eq w v) || same_table (Some t) o) ≡ true
not_denied ts v w t o e h = go (nat_eq w v) refl
  where
    go : (b : Bool) → nat_eq w v ≡ b → (not b || same_table (Some t) o) ≡ true
    go false k = refl
    go true k = ap (λ x. same_table x o) (sym (ap (slice_get ts) (eqb-true w v k) ∙ e)) ∙ h

flat_map_each : {X Y : Type 0} (f h : X → List Y) (xs : List X) → AllByRecursion (λ x. f x ≡ h x) xs → flat_map f xs ≡ flat_map h xs
flat_map_each f h [] e = refl
flat_map_each f h (x ∷ xs) e = ap₂ ◌++◌ e.0 (flat_map_each f h xs e.1)

implied : (a b : Bool) → (b ≡ true → a ≡ true) → b ≡ (a && b)
implied a false h = sym (and-false a)
implied a true h = sym (ap (λ c. c && true) (h refl))

module _ (catalog : Tables) where
  end_supported : (ss : List Step) (cs : List Reading) (ts : List ℕ) (v t : ℕ) → Chosen ss cs → all_ends_agree catalog ts ss cs ≡ true → slice_get ts v ≡ Some t → supported catalog ss v t ≡ true
  end_supported [] cs ts v t chosen h e = refl
  end_supported (s ∷ ss) [] ts v t chosen h e = absurd (true≢false (sym h))
  end_supported (s ∷ ss) (c ∷ cs) ts v t chosen h e =
      let from : Option ℕ = option_map (λ k. k.from) (slice_get catalog.rels c.table) in
      let to : Option ℕ = option_map (λ k. k.to) (slice_get catalog.rels c.table) in
      let parts = and_parts (ends_agree catalog ts s.pattern c) (all_ends_agree catalog ts ss cs) h in
      let ends = and_parts (same_table (slice_get ts (source_of s.pattern c)) from) (same_table (slice_get ts (target_of s.pattern c)) to) parts.0 in
      and_from (supports catalog v t s) (supported catalog ss v t)
      (chosen.0 (suits catalog v t s.pattern)
      (and_from (not (nat_eq (source_of s.pattern c) v) || same_table (Some t) from) (not (nat_eq (target_of s.pattern c) v) || same_table (Some t) to)
      (not_denied ts v (source_of s.pattern c) t from e ends.0) (not_denied ts v (target_of s.pattern c) t to e ends.1)))
      (end_supported ss cs ts v t chosen.1 parts.1 e)

  -- the tables that are supported are enough
  pub supported_agree : (ss : List Step) (lists : List (List ℕ)) → agreeing catalog ss (kept (supported catalog ss) 0 lists) ≡ agreeing catalog ss lists
  unfolding agreeing
  supported_agree ss lists =
      let every : List (List Reading) = one_of_each (map (λ s. s.readings) ss) in
      let all : List (List ℕ) = one_of_each lists in
      let fit : List ℕ → Bool = fits (supported catalog ss) 0 in
      let chosen : List Reading → List (List ℕ) → List Choice = λ cs tss. map (λ ts. record { readings = cs; tables = ts }) (filter (λ ts. all_ends_agree catalog ts ss cs) tss) in
      flat_map_each (λ cs. chosen cs (one_of_each (kept (supported catalog ss) 0 lists))) (λ cs. chosen cs all) every
      (each_then (Chosen ss) (λ cs. chosen cs (one_of_each (kept (supported catalog ss) 0 lists)) ≡ chosen cs all)
      (λ cs h. sym
      (ap (map (λ ts. record { readings = cs; tables = ts }))
      (filter_same (λ ts. all_ends_agree catalog ts ss cs) (λ ts. fit ts && all_ends_agree catalog ts ss cs) all
      (each_of (λ ts. all_ends_agree catalog ts ss cs ≡ (fit ts && all_ends_agree catalog ts ss cs))
      (λ ts. implied (fit ts) (all_ends_agree catalog ts ss cs) (λ e. fits_from (supported catalog ss) 0 ts (λ k t got. end_supported ss cs ts (0 + k) t h e (ap (slice_get ts) (zero-add k) ∙ got)))) all)
      ∙ filter_both fit (λ ts. all_ends_agree catalog ts ss cs) all ∙ ap (filter (λ ts. all_ends_agree catalog ts ss cs)) (tables_kept (supported catalog ss) 0 lists)))) every (each_chosen ss))

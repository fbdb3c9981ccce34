-- The search finds the alternatives of patterns, in their order.
use Rattle.std.proofs.Common.{◌≡◌, ℕ, zero, suc, ◌+◌, ◌<◌, Bool, true, false, not, ◌&&◌, ◌||◌, cond, nat_eq, nat_lt, Option, Some, None, List, [], ◌∷◌, ◌++◌, map, filter, flat_map, length, slice_get, slice_set, refl, sym, ap, ap₂, ◌∙◌, subst, arith, true≢false, append_assoc, append-nil, zero-add}
use Rattle.gq_base.proofs.BoolLaws.{and_pairs}
use Rattle.std.specs.List.{range_with_len, AllByRecursion, list_all, list_any}
use Rattle.std.specs.Option.{option_map}
use Rattle.std.proofs.Math.Bool.{and-true, and-false, and_assoc}
use Rattle.std.proofs.lemmas.Bool.{and_parts, and_from, ltb-true, ltb-false, ne_eqb, eq-eqb, eqb-true, eqb-false}
use Rattle.std.proofs.lemmas.List.{length-map, length-set}
use Rattle.std.proofs.lemmas.List.Folds.{flat_map-map}
use Rattle.gq_base.specs.Catalogs.{Tables}
use Rattle.gq_base.specs.declared.RelTable.{RelTable}
use Rattle.gq_plan.specs.Assignments.{tuples}
use Rattle.std.proofs.lemmas.Option.{slice_get_past}
use Rattle.gq_plan.proofs.Each.{each_of, each_then, each_map, each_flat_map}
use Rattle.gq_alternatives.specs.Alternatives.{Reading, Choice, all_readings, choices, source_of, target_of, same_table, labels_in, node_agrees, readings_agree, agrees, pattern_alternatives}
use Rattle.gq_alternatives.specs.Matches.{has_labels}
use Rattle.gq_alternatives.specs.Candidates.{Step, reading_fits, steps_of, node_fits, labels_fit, tables_of}
use Rattle.gq_choices.specs.steps.Searching.{is_nil, no_reading, one_of_each, ends_agree, all_ends_agree, agreeing, may_be, admits, filled, reached, searched}
use Rattle.gq_scopes.specs.Patterns.{NodePattern, RelPattern, Pattern}
use Rattle.gq_alternatives.proofs.Searches.{filter_both, filter_flat_map, filter_map, filter_none, filter_same, flat_map_filtered, flat_map_flat_map, flat_map_none, flat_map_same}

module _ {X : Type 0} where
  -- the tests of the items of a list, one after another
  abbrev all_fit : (ℕ → X → Bool) → ℕ → List X → Bool
  all_fit fit a [] = true
  all_fit fit a (x ∷ xs) = fit a x && all_fit fit (a + 1) xs

  -- a first item and those that follow, where a test of the whole is one of the first and one of the rest
  pub filter_cons : (test : List X → Bool) (a : X → Bool) (b : List X → Bool) → ((x : X) (l : List X) → test (x ∷ l) ≡ (a x && b l)) → (xs : List X) (rest : List (List X))
      → filter test (flat_map (λ x. map (λ l. x ∷ l) rest) xs) ≡ flat_map (λ x. map (λ l. x ∷ l) (filter b rest)) (filter a xs)
  filter_cons test a b splits xs rest =
      filter_flat_map test (λ x. map (λ l. x ∷ l) rest) xs
      ∙ flat_map_same _ _ (λ x. filter_map test (λ l. x ∷ l) rest ∙ ap (map (λ l. x ∷ l)) (λ i. filter (λ l. splits x l i) rest)) xs
      ∙ flat_map_filtered a (λ x. map (λ l. x ∷ l) (filter (λ l. a x && b l) rest)) (λ x. map (λ l. x ∷ l) (filter b rest))
      (λ x e. ap (λ c. map (λ l. x ∷ l) (filter (λ l. c && b l) rest)) e)
      (λ x e. ap (λ c. map (λ l. x ∷ l) (filter (λ l. c && b l) rest)) e ∙ ap (map (λ l. x ∷ l)) (filter_none rest)) xs

  -- a test of each item by itself turns a product into the product of what passes
  tuples_fit : (fit : ℕ → X → Bool) (xs : List X) (a n : ℕ) → filter (all_fit fit a) (tuples n xs) ≡ one_of_each (map (λ v. filter (fit v) xs) (range_with_len a n))
  unfolding tuples one_of_each
  tuples_fit fit xs a zero = refl
  tuples_fit fit xs a (suc n) =
      filter_cons (all_fit fit a) (fit a) (all_fit fit (a + 1)) (λ x l. refl) xs (tuples n xs)
      ∙ ap (λ rest. flat_map (λ x. map (λ l. x ∷ l) rest) (filter (fit a) xs)) (tuples_fit fit xs (a + 1) n)

  each_one : (xss : List (List X)) → AllByRecursion (λ l. length l ≡ length xss) (one_of_each xss)
  unfolding one_of_each
  each_one [] = (refl, tt)
  each_one (xs ∷ xss) =
      each_flat_map (λ x. Unit {0}) (λ l. length l ≡ suc (length xss)) (λ x. map (λ l. x ∷ l) (one_of_each xss))
      (λ x _. each_map (λ l. length l ≡ length xss) (λ l. length l ≡ suc (length xss)) (λ l. x ∷ l) (λ l e. ap suc e) (one_of_each xss) (each_one xss)) xs (each_of _ (λ x. tt) xs)

  each_length : (n : ℕ) (xs : List X) → AllByRecursion (λ l. length l ≡ n) (tuples n xs)
  unfolding tuples
  each_length zero xs = (refl, tt)
  each_length (suc n) xs =
      each_flat_map (λ x. Unit {0}) (λ l. length l ≡ suc n) (λ x. map (λ l. x ∷ l) (tuples n xs))
      (λ x _. each_map (λ l. length l ≡ n) (λ l. length l ≡ suc n) (λ l. x ∷ l) (λ l e. ap suc e) (tuples n xs) (each_length n xs)) xs (each_of _ (λ x. tt) xs)

  -- where a list is empty, there is no product
  pub one_of_none : (xss : List (List X)) → list_any is_nil xss ≡ true → one_of_each xss ≡ []
  unfolding one_of_each
  one_of_none [] h = absurd (true≢false (sym h))
  one_of_none ([] ∷ xss) h = refl
  one_of_none ((x ∷ xs) ∷ xss) h = ap (λ rest. flat_map (λ z. map (λ l. z ∷ l) rest) (x ∷ xs)) (one_of_none xss h) ∙ flat_map_none (x ∷ xs)

-- ---- labels

module _ {X : Type 0} where
  all_fit_true : (a : ℕ) (xs : List X) → all_fit (λ v x. true) a xs ≡ true
  all_fit_true a [] = refl
  all_fit_true a (x ∷ xs) = all_fit_true (a + 1) xs

  all_fit_both : (f h : ℕ → X → Bool) (a : ℕ) (xs : List X) → all_fit (λ v x. f v x && h v x) a xs ≡ (all_fit f a xs && all_fit h a xs)
  all_fit_both f h a [] = refl
  all_fit_both f h a (x ∷ xs) = ap (λ b. (f a x && h a x) && b) (all_fit_both f h (a + 1) xs) ∙ and_pairs (f a x) (h a x) (all_fit f (a + 1) xs) (all_fit h (a + 1) xs)

  -- a test of the items at one place
  all_fit_past : (q : X → Bool) (k a : ℕ) (xs : List X) → k < a → all_fit (λ v x. not (nat_eq k v) || q x) a xs ≡ true
  all_fit_past q k a [] low = refl
  all_fit_past q k a (x ∷ xs) low = and_from (not (nat_eq k a) || q x) (all_fit (λ v x. not (nat_eq k v) || q x) (a + 1) xs) (ap (λ b. not b || q x) (ne_eqb k a (λ e. omega arith))) (all_fit_past q k (a + 1) xs (omega arith))

module _ (catalog : Tables) where
  labels_at : (labels : List (List ℕ)) (k a : ℕ) (ts : List ℕ) → k < length ts → all_fit (λ v t. not (nat_eq (a + k) v) || has_labels catalog labels t) a ts ≡ labels_in catalog labels (slice_get ts k)
  labels_at labels k a [] low = absurd (omega arith)
  labels_at labels zero a (t ∷ ts) low =
      ap₂ ◌&&◌ (ap (λ b. not b || has_labels catalog labels t) (eq-eqb (a + 0) a (omega arith)))
      (all_fit_past (has_labels catalog labels) (a + 0) (a + 1) ts (omega arith))
      ∙ and-true (has_labels catalog labels t)
  labels_at labels (suc k) a (t ∷ ts) low =
      let here : a + suc k ≡ a + 1 + k = omega arith in
      ap₂ ◌&&◌ (ap (λ b. not b || has_labels catalog labels t) (ne_eqb (a + suc k) a (λ e. omega arith)))
      (ap (λ j. all_fit (λ v t. not (nat_eq j v) || has_labels catalog labels t) (a + 1) ts) here ∙ labels_at labels k (a + 1) ts (omega arith))

  labels_by_variable : (ns : List NodePattern) (ts : List ℕ) → list_all (λ p. nat_lt p.variable (length ts)) ns ≡ true → all_fit (labels_fit catalog ns) 0 ts ≡ list_all (node_agrees catalog ts) ns
  labels_by_variable [] ts h = all_fit_true 0 ts
  labels_by_variable (p ∷ ns) ts h =
      let parts = and_parts (nat_lt p.variable (length ts)) (list_all (λ p. nat_lt p.variable (length ts)) ns) h in
      all_fit_both (λ v t. node_fits catalog v t p) (labels_fit catalog ns) 0 ts
      ∙ ap₂ ◌&&◌ (ap (λ j. all_fit (λ v t. not (nat_eq j v) || has_labels catalog p.part.labels t) 0 ts) (sym (zero-add p.variable)) ∙ labels_at p.part.labels p.variable 0 ts (ltb-true p.variable (length ts) parts.0)) (labels_by_variable ns ts parts.1)

-- ---- candidates

module _ (catalog : Tables) where
  -- the readings that do not fit may be dropped, and those that do have only their ends to agree
  candidates : (go : List Reading → (List ℕ → Bool) → List Choice) → ((cs : List Reading) → go cs (λ ts. false) ≡ []) → (ps : List RelPattern)
      → flat_map (λ cs. go cs (λ ts. readings_agree catalog ts ps cs)) (tuples (length ps) (all_readings catalog))
      ≡ flat_map (λ cs. go cs (λ ts. all_ends_agree catalog ts (steps_of catalog ps) cs)) (one_of_each (map (λ s. s.readings) (steps_of catalog ps)))
  unfolding tuples one_of_each
  candidates go none [] = refl
  candidates go none (p ∷ ps) =
      let all : List Reading = all_readings catalog in
      let before : Bool → Reading → List Choice =
      λ fits c. flat_map (λ cs. go (c ∷ cs) (λ ts. (fits && ends_agree catalog ts p c) && readings_agree catalog ts ps cs)) (tuples (length ps) all) in
      let after : Reading → List Choice =
      λ c. flat_map (λ cs. go (c ∷ cs) (λ ts. ends_agree catalog ts p c && all_ends_agree catalog ts (steps_of catalog ps) cs)) (one_of_each (map (λ s. s.readings) (steps_of catalog ps))) in
      flat_map_flat_map (λ cs. go cs (λ ts. readings_agree catalog ts (p ∷ ps) cs)) (λ c. map (λ l. c ∷ l) (tuples (length ps) all)) all
      ∙ flat_map_same _ _ (λ c. flat_map-map (λ cs. go cs (λ ts. readings_agree catalog ts (p ∷ ps) cs)) (λ l. c ∷ l) (tuples (length ps) all)) all
      ∙ flat_map_filtered (reading_fits catalog p) (λ c. before (reading_fits catalog p c) c) after
      (λ c e. ap (λ fits. before fits c) e
      ∙ candidates (λ cs test. go (c ∷ cs) (λ ts. ends_agree catalog ts p c && test ts)) (λ cs. ap (go (c ∷ cs)) (λ i ts. and-false (ends_agree catalog ts p c) i) ∙ none (c ∷ cs)) ps)
      (λ c e. ap (λ fits. before fits c) e ∙ flat_map_same _ _ (λ cs. none (c ∷ cs)) (tuples (length ps) all) ∙ flat_map_none (tuples (length ps) all)) all
      ∙ sym
      (flat_map_flat_map (λ cs. go cs (λ ts. all_ends_agree catalog ts (steps_of catalog (p ∷ ps)) cs)) (λ c. map (λ l. c ∷ l) (one_of_each (map (λ s. s.readings) (steps_of catalog ps)))) (filter (reading_fits catalog p) all)
      ∙ flat_map_same _ _ (λ c. flat_map-map (λ cs. go cs (λ ts. all_ends_agree catalog ts (steps_of catalog (p ∷ ps)) cs)) (λ l. c ∷ l) (one_of_each (map (λ s. s.readings) (steps_of catalog ps)))) (filter (reading_fits catalog p) all))

  labels_part : (ns : List NodePattern) (n : ℕ) → list_all (λ q. nat_lt q.variable n) ns ≡ true
      → filter (λ ts. list_all (node_agrees catalog ts) ns) (tuples n (range_with_len 0 (length catalog.nodes))) ≡ one_of_each (tables_of catalog ns n)
  labels_part ns n within =
      let all : List ℕ = range_with_len 0 (length catalog.nodes) in
      filter_same _ _ (tuples n all)
      (each_then (λ ts. length ts ≡ n) (λ ts. list_all (node_agrees catalog ts) ns ≡ all_fit (labels_fit catalog ns) 0 ts)
      (λ ts e. sym (labels_by_variable catalog ns ts (subst (λ k. list_all (λ q. nat_lt q.variable k) ns ≡ true) (sym e) within))) (tuples n all) (each_length n all))
      ∙ tuples_fit (labels_fit catalog ns) all 0 n

  -- the alternatives are the choices of candidates that agree
  pub candidates_agree : (p : Pattern) → list_all (λ q. nat_lt q.variable (length p.names)) p.nodes ≡ true
      → pattern_alternatives catalog p ≡ agreeing catalog (steps_of catalog p.rels) (tables_of catalog p.nodes (length p.names))
  unfolding pattern_alternatives choices agreeing
  candidates_agree p within =
      let n : ℕ = length p.names in
      let all : List (List ℕ) = tuples n (range_with_len 0 (length catalog.nodes)) in
      let lists : List (List ℕ) = tables_of catalog p.nodes n in
      let labelled : List ℕ → Bool = λ ts. list_all (node_agrees catalog ts) p.nodes in
      let whole : List Reading → List ℕ → Choice = λ cs ts. record { readings = cs; tables = ts } in
      let every : List (List Reading) = tuples (length p.rels) (all_readings catalog) in
      filter_flat_map (agrees catalog p) (λ cs. map (whole cs) all) every
      ∙ flat_map_same _ _
      (λ cs. filter_map (agrees catalog p) (whole cs) all
      ∙ ap (map (whole cs)) (filter_both labelled (λ ts. readings_agree catalog ts p.rels cs) all ∙ ap (filter (λ ts. readings_agree catalog ts p.rels cs)) (labels_part p.nodes n within))) every
      ∙ candidates (λ cs test. map (whole cs) (filter test (one_of_each lists))) (λ cs. ap (map (whole cs)) (filter_none (one_of_each lists))) p.rels

  outside : (ns : List NodePattern) (ts : List ℕ) → list_all (λ q. nat_lt q.variable (length ts)) ns ≡ false → list_all (node_agrees catalog ts) ns ≡ false
  outside [] ts h = absurd (true≢false h)
  outside (p ∷ ns) ts h = go (nat_lt p.variable (length ts)) refl (outside ns ts)
    where
      go : (b : Bool) → nat_lt p.variable (length ts) ≡ b → (list_all (λ q. nat_lt q.variable (length ts)) ns ≡ false → list_all (node_agrees catalog ts) ns ≡ false)
          → (node_agrees catalog ts p && list_all (node_agrees catalog ts) ns) ≡ false
      go true e more =
          ap (λ b. node_agrees catalog ts p && b) (more (subst (λ b. (b && list_all (λ q. nat_lt q.variable (length ts)) ns) ≡ false) e h)) ∙ and-false (node_agrees catalog ts p)
      go false e more =
          ap (λ o. labels_in catalog p.part.labels o && list_all (node_agrees catalog ts) ns) (slice_get_past ts p.variable (ltb-false p.variable (length ts) e))

  -- where a pattern is of no variable that there is, there is no alternative
  pub none_outside : (p : Pattern) → list_all (λ q. nat_lt q.variable (length p.names)) p.nodes ≡ false → pattern_alternatives catalog p ≡ []
  unfolding pattern_alternatives choices
  none_outside p out =
      let n : ℕ = length p.names in
      let all : List (List ℕ) = tuples n (range_with_len 0 (length catalog.nodes)) in
      let whole : List Reading → List ℕ → Choice = λ cs ts. record { readings = cs; tables = ts } in
      let every : List (List Reading) = tuples (length p.rels) (all_readings catalog) in
      filter_flat_map (agrees catalog p) (λ cs. map (whole cs) all) every
      ∙ flat_map_same _ _
      (λ cs. filter_map (agrees catalog p) (whole cs) all
      ∙ ap (map (whole cs))
      (filter_same (λ ts. agrees catalog p (whole cs ts)) (λ ts. false) all
      (each_then (λ ts. length ts ≡ n) (λ ts. agrees catalog p (whole cs ts) ≡ false)
      (λ ts e. ap (λ b. b && readings_agree catalog ts p.rels cs) (outside p.nodes ts (subst (λ k. list_all (λ q. nat_lt q.variable k) p.nodes ≡ false) (sym e) out))) all (each_length n (range_with_len 0 (length catalog.nodes))))
      ∙ filter_none all)) every
      ∙ flat_map_none every

  nil_readings : (steps : List Step) → list_any is_nil (map (λ s. s.readings) steps) ≡ list_any no_reading steps
  nil_readings [] = refl
  nil_readings (s ∷ ss) = ap (λ b. is_nil s.readings || b) (nil_readings ss)

  -- where a list of candidates is empty, no choice agrees
  pub none_of_readings : (steps : List Step) (lists : List (List ℕ)) → list_any no_reading steps ≡ true → agreeing catalog steps lists ≡ []
  unfolding agreeing
  none_of_readings steps lists h =
      ap (flat_map (λ cs. map (λ ts. record { readings = cs; tables = ts }) (filter (λ ts. all_ends_agree catalog ts steps cs) (one_of_each lists)))) (one_of_none (map (λ s. s.readings) steps) (nil_readings steps ∙ h))

  pub none_of_tables : (steps : List Step) (lists : List (List ℕ)) → list_any is_nil lists ≡ true → agreeing catalog steps lists ≡ []
  unfolding agreeing
  none_of_tables steps lists h =
      let every : List (List Reading) = one_of_each (map (λ s. s.readings) steps) in
      ap (λ all. flat_map (λ cs. map (λ ts. record { readings = cs; tables = ts }) (filter (λ ts. all_ends_agree catalog ts steps cs) all)) every) (one_of_none lists h) ∙ flat_map_none every

-- ---- the search

-- the tables of all node variables are as far as they are known
abbrev extends : List (Option ℕ) → List ℕ → Bool
extends [] [] = true
extends [] (t ∷ ts) = false
extends (k ∷ ks) [] = false
extends (k ∷ ks) (t ∷ ts) = may_be k t && extends ks ts

filled_is : (known : List (Option ℕ)) (lists : List (List ℕ)) → length known ≡ length lists → filter (extends known) (one_of_each lists) ≡ filled known lists
unfolding one_of_each filled
filled_is [] [] h = refl
filled_is [] (ts ∷ tss) h = absurd (omega arith)
filled_is (k ∷ ks) [] h = absurd (omega arith)
filled_is (k ∷ ks) (ts ∷ tss) h =
    filter_cons (extends (k ∷ ks)) (may_be k) (extends ks) (λ x l. refl) ts (one_of_each tss)
    ∙ ap (λ rest. flat_map (λ x. map (λ l. x ∷ l) rest) (filter (may_be k) ts)) (filled_is ks tss (omega arith))

fix : (k : Option ℕ) (x t : ℕ) (rest : Bool) → ((may_be k x && rest) && nat_eq x t) ≡ (may_be k t && (nat_eq t x && rest))
fix k x t rest = go (nat_eq x t) refl
  where
    go : (b : Bool) → nat_eq x t ≡ b → ((may_be k x && rest) && nat_eq x t) ≡ (may_be k t && (nat_eq t x && rest))
    go true e =
        ap (λ b. (may_be k x && rest) && b) e ∙ and-true (may_be k x && rest)
        ∙ ap₂ (λ y b. may_be k y && (b && rest)) (eqb-true x t e) (sym (eq-eqb t x (sym (eqb-true x t e))))
    go false e =
        ap (λ b. (may_be k x && rest) && b) e ∙ and-false (may_be k x && rest)
        ∙ sym (ap (λ b. may_be k t && (b && rest)) (ne_eqb t x (λ same. eqb-false x t e (sym same))) ∙ and-false (may_be k t))

regroup : (m e s a f : Bool) → (e && s) ≡ (a && f) → ((m && e) && s) ≡ (a && (m && f))
regroup true e s a f h = h
regroup false e s true f h = refl
regroup false e s false f h = refl

-- to know the table of one more variable
knows : (v t : ℕ) (known : List (Option ℕ)) (ts : List ℕ) → (extends known ts && same_table (slice_get ts v) (Some t)) ≡ (admits (slice_get known v) t && extends (slice_set known v (Some t)) ts)
knows v t [] [] = refl
knows v t [] (x ∷ xs) = refl
knows zero t (k ∷ ks) [] = sym (and-false (may_be k t))
knows (suc v) t (k ∷ ks) [] = sym (and-false (admits (slice_get ks v) t))
knows zero t (k ∷ ks) (x ∷ xs) = fix k x t (extends ks xs)
knows (suc v) t (k ∷ ks) (x ∷ xs) = regroup (may_be k x) (extends ks xs) (same_table (slice_get xs v) (Some t)) (admits (slice_get ks v) t) (extends (slice_set ks v (Some t)) xs) (knows v t ks xs)

extends_nothing : {X : Type 0} (lists : List X) (ts : List ℕ) → length ts ≡ length lists → extends (map (λ l. None) lists) ts ≡ true
extends_nothing [] [] h = refl
extends_nothing [] (t ∷ ts) h = absurd (omega arith)
extends_nothing (l ∷ lists) [] h = absurd (omega arith)
extends_nothing (l ∷ lists) (t ∷ ts) h = extends_nothing lists ts (omega arith)

same_none : (o : Option ℕ) → same_table o None ≡ false
same_none None = refl
same_none (Some t) = refl

both_ends : (e s t a f b h : Bool) → (e && s) ≡ (a && f) → (f && t) ≡ (b && h) → (e && (s && t)) ≡ (a && (b && h))
both_ends e s t a f b h one two = sym (and_assoc e s t) ∙ ap (λ c. c && t) one ∙ and_assoc a f t ∙ ap (λ c. a && c) two

module _ (catalog : Tables) (lists : List (List ℕ)) where
  -- the choices by these steps in which a test of the tables holds
  abbrev under : List Step → List Reading → (List ℕ → Bool) → List Choice
  under ss chosen test =
      flat_map (λ cs. map (λ ts. record { readings = chosen ++ cs; tables = ts }) (filter (λ ts. test ts && all_ends_agree catalog ts ss cs) (one_of_each lists)))
      (one_of_each (map (λ s. s.readings) ss))

  under_none : (ss : List Step) (chosen : List Reading) → under ss chosen (λ ts. false) ≡ []
  under_none ss chosen =
      flat_map_same _ _ (λ cs. ap (map (λ ts. record { readings = chosen ++ cs; tables = ts })) (filter_none (one_of_each lists))) (one_of_each (map (λ s. s.readings) ss))
      ∙ flat_map_none (one_of_each (map (λ s. s.readings) ss))

  gated : (ss : List Step) (chosen : List Reading) (a b : Bool) (test : List ℕ → Bool) → under ss chosen (λ ts. a && (b && test ts)) ≡ cond a (cond b (under ss chosen test) []) []
  gated ss chosen true true test = refl
  gated ss chosen true false test = under_none ss chosen
  gated ss chosen false b test = under_none ss chosen

  follows : (s : Step) (ss : List Step) (known : List (Option ℕ)) (chosen : List Reading) (c : Reading) (o : Option RelTable)
      → ((ks : List (Option ℕ)) → length ks ≡ length known → under ss (chosen ++ c ∷ []) (extends ks) ≡ searched catalog lists ss ks (chosen ++ c ∷ []))
      → under ss (chosen ++ c ∷ [])
      (λ ts. extends known ts && (same_table (slice_get ts (source_of s.pattern c)) (option_map (λ k. k.from) o) && same_table (slice_get ts (target_of s.pattern c)) (option_map (λ k. k.to) o)))
      ≡ reached s.pattern c o known (λ ks. searched catalog lists ss ks (chosen ++ c ∷ []))
  follows s ss known chosen c None more =
      ap (under ss (chosen ++ c ∷ []))
      (λ i ts. (ap₂ (λ a b. extends known ts && (a && b)) (same_none (slice_get ts (source_of s.pattern c))) (same_none (slice_get ts (target_of s.pattern c))) ∙ and-false (extends known ts)) i)
      ∙ under_none ss (chosen ++ c ∷ [])
  follows s ss known chosen c (Some k) more =
      let v : ℕ = source_of s.pattern c in
      let w : ℕ = target_of s.pattern c in
      let one : List (Option ℕ) = slice_set known v (Some k.from) in
      let two : List (Option ℕ) = slice_set one w (Some k.to) in
      ap (under ss (chosen ++ c ∷ []))
      (λ i ts. both_ends (extends known ts) (same_table (slice_get ts v) (Some k.from)) (same_table (slice_get ts w) (Some k.to)) (admits (slice_get known v) k.from) (extends one ts) (admits (slice_get one w) k.to) (extends two ts)
      (knows v k.from known ts) (knows w k.to one ts) i)
      ∙ gated ss (chosen ++ c ∷ []) (admits (slice_get known v) k.from) (admits (slice_get one w) k.to) (extends two)
      ∙ ap (λ cs. cond (admits (slice_get known v) k.from) (cond (admits (slice_get one w) k.to) cs []) []) (more two (length-set one w (Some k.to) ∙ length-set known v (Some k.from)))

  found : (ss : List Step) (known : List (Option ℕ)) (chosen : List Reading) → length known ≡ length lists → under ss chosen (extends known) ≡ searched catalog lists ss known chosen
  unfolding searched one_of_each
  found [] known chosen h =
      append-nil (map (λ ts. record { readings = chosen ++ []; tables = ts }) (filter (λ ts. extends known ts && true) (one_of_each lists)))
      ∙ ap₂ (λ cs (test : List ℕ → Bool). map (λ ts. record { readings = cs; tables = ts }) (filter test (one_of_each lists))) (append-nil chosen) (λ i ts. and-true (extends known ts) i)
      ∙ ap (map (λ ts. record { readings = chosen; tables = ts })) (filled_is known lists h)
  found (s ∷ ss) known chosen h =
      let rest : List (List Reading) = one_of_each (map (λ s. s.readings) ss) in
      let picked : List Reading → List Choice =
      λ cs. map (λ ts. record { readings = chosen ++ cs; tables = ts }) (filter (λ ts. extends known ts && all_ends_agree catalog ts (s ∷ ss) cs) (one_of_each lists)) in
      flat_map_flat_map picked (λ c. map (λ l. c ∷ l) rest) s.readings
      ∙ flat_map_same _ _
      (λ c. flat_map-map picked (λ l. c ∷ l) rest
      ∙ flat_map_same _ _
      (λ cs. ap₂ (λ rs (test : List ℕ → Bool). map (λ ts. record { readings = rs; tables = ts }) (filter test (one_of_each lists))) (sym (append_assoc chosen (c ∷ []) cs))
      (λ i ts. sym (and_assoc (extends known ts) (ends_agree catalog ts s.pattern c) (all_ends_agree catalog ts ss cs)) i)) rest
      ∙ follows s ss known chosen c (slice_get catalog.rels c.table) (λ ks e. found ss ks (chosen ++ c ∷ []) (e ∙ h))) s.readings

  -- the choices of candidates that agree are those that the search finds when nothing is known yet
  pub search_finds : (ss : List Step) → agreeing catalog ss lists ≡ searched catalog lists ss (map (λ l. None) lists) []
  unfolding agreeing
  search_finds ss =
      flat_map_same _ _
      (λ cs. ap (map (λ ts. record { readings = cs; tables = ts }))
      (filter_same (λ ts. all_ends_agree catalog ts ss cs) (λ ts. extends (map (λ l. None) lists) ts && all_ends_agree catalog ts ss cs) (one_of_each lists)
      (each_then (λ ts. length ts ≡ length lists) (λ ts. all_ends_agree catalog ts ss cs ≡ (extends (map (λ l. None) lists) ts && all_ends_agree catalog ts ss cs))
      (λ ts e. sym (ap (λ b. b && all_ends_agree catalog ts ss cs) (extends_nothing lists ts e))) (one_of_each lists) (each_one lists)))) (one_of_each (map (λ s. s.readings) ss))
      ∙ found ss (map (λ l. None) lists) [] (length-map lists (λ l. None))

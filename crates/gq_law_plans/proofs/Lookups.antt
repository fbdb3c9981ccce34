-- Bindings, the latest first: which keys are bound, which bindings a look-up finds, and all of them read in a row.
use Rattle.std.proofs.Common.{◌≡◌, ℕ, zero, suc, ◌+◌, ◌<◌, ◌≤◌, Bool, true, false, ◌||◌, cond, nat_eq, Option, Some, List, [], ◌∷◌, ◌++◌, flat_map, length, slice_get, ◌⊎◌, inl, inr, refl, sym, ap, ap₂, ◌∙◌, arith, true≢false}
use Rattle.std.specs.List.{range_with_len, AllByRecursion, list_all}
use Rattle.std.proofs.lemmas.Bool.{eqb-true, eq-eqb, ne_eqb, cases_eq, and_parts, or_parts}
use Rattle.gq_plan.specs.Meaning.{look, found}
use Rattle.gq_law_plans.specs.Bindings.{bound}

pub eqb_swap : (a b : ℕ) → nat_eq a b ≡ nat_eq b a
eqb_swap a b = go (cases_eq a b)
  where
    go : (a ≡ b) ⊎ (a ≡ b → ⊥) → nat_eq a b ≡ nat_eq b a
    go (inl e) = eq-eqb a b e ∙ sym (eq-eqb b a (sym e))
    go (inr e) = ne_eqb a b e ∙ sym (ne_eqb b a (λ h. e (sym h)))

-- ---- lists read by number

pub lists_same : {X : Type 0} (xs ys : List X) → length xs ≡ length ys → ((i : ℕ) → i < length xs → slice_get xs i ≡ slice_get ys i) → xs ≡ ys
lists_same [] [] e h = refl
lists_same [] (y ∷ ys) e h = absurd (omega arith)
lists_same (x ∷ xs) [] e h = absurd (omega arith)
lists_same (x ∷ xs) (y ∷ ys) e h =
    let first : Some x ≡ Some y = h 0 (omega arith) in
    let same : x ≡ y = cc in
    ap₂ ◌∷◌ same (lists_same xs ys (omega arith) (λ i low. h (suc i) (omega arith)))

-- ---- bindings

module _ {X : Type 0} where
  pub bound_append : (bs cs : List (ℕ × X)) (v : ℕ) → bound (bs ++ cs) v ≡ (bound bs v || bound cs v)
  bound_append [] cs v = refl
  bound_append (b ∷ bs) cs v = ap (λ c. nat_eq v b.0 || c) (bound_append bs cs v) ∙ go (nat_eq v b.0)
    where
      go : (c : Bool) → (c || (bound bs v || bound cs v)) ≡ ((c || bound bs v) || bound cs v)
      go true = refl
      go false = refl

  pub look_some : (bs : List (ℕ × X)) (v : ℕ) → bound bs v ≡ true → (x : X) × (look bs v ≡ Some x)
  look_some [] v h = absurd (true≢false (sym h))
  look_some (b ∷ bs) v h = go (nat_eq b.0 v) refl (look_some bs v)
    where
      go : (c : Bool) → nat_eq b.0 v ≡ c → (bound bs v ≡ true → (x : X) × (look bs v ≡ Some x)) → (x : X) × (cond c (Some b.1) (look bs v) ≡ Some x)
      go true e more = (b.1, refl)
      go false e more = more (ap (λ d. d || bound bs v) (sym (eqb_swap v b.0 ∙ e)) ∙ h)

  pub look_bound : (bs : List (ℕ × X)) (v : ℕ) (x : X) → look bs v ≡ Some x → bound bs v ≡ true
  look_bound [] v x e = absurd (cc e)
  look_bound (b ∷ bs) v x e = go (nat_eq b.0 v) (eqb_swap v b.0) (look_bound bs v x) e
    where
      go : (c : Bool) → nat_eq v b.0 ≡ c → (look bs v ≡ Some x → bound bs v ≡ true) → cond c (Some b.1) (look bs v) ≡ Some x → (nat_eq v b.0 || bound bs v) ≡ true
      go true is more e = ap (λ d. d || bound bs v) is
      go false is more e = ap (λ d. d || bound bs v) is ∙ more e

  -- a look-up finds what a reader reads that agrees with all bindings
  pub look_is : (test : Option X → X → Bool) → ((o : Option X) (x : X) → test o x ≡ true → o ≡ Some x) → (get : ℕ → Option X) (v : ℕ) (bs : List (ℕ × X))
      → list_all (λ b. test (get b.0) b.1) bs ≡ true → bound bs v ≡ true → look bs v ≡ get v
  look_is test is get v [] all h = absurd (true≢false (sym h))
  look_is test is get v (b ∷ bs) all h = go (nat_eq b.0 v) refl (λ k. look_is test is get v bs (and_parts _ _ all).1 k)
    where
      go : (c : Bool) → nat_eq b.0 v ≡ c → (bound bs v ≡ true → look bs v ≡ get v) → cond c (Some b.1) (look bs v) ≡ get v
      go true e more = sym (is _ _ (and_parts _ _ all).0) ∙ ap get (eqb-true _ _ e)
      go false e more = more (ap (λ d. d || bound bs v) (sym (eqb_swap v b.0 ∙ e)) ∙ h)

  -- ---- each of some bindings is what is found among all

  abbrev pub Found : List (ℕ × X) → List (ℕ × X) → Type 0
  Found bs all = AllByRecursion (λ b. look all b.0 ≡ Some b.1) bs

  look_past : (v : ℕ) (x : X) (all : List (ℕ × X)) (w : ℕ) → nat_eq v w ≡ false → look ((v, x) ∷ all) w ≡ look all w
  look_past v x all w other = ap (λ c. cond c (Some x) (look all w)) other

  found_cons : (v : ℕ) (x : X) (bs all : List (ℕ × X)) → bound bs v ≡ false → Found bs all → Found bs ((v, x) ∷ all)
  found_cons v x [] all new h = tt
  found_cons v x (b ∷ bs) all new h =
      let parts = or_parts (nat_eq v b.0) (bound bs v) new in
      (look_past v x all b.0 parts.0 ∙ h.0, found_cons v x bs all parts.1 h.1)

  pub found_bind : (v : ℕ) (x : X) (bs : List (ℕ × X)) → bound bs v ≡ false → Found bs bs → Found ((v, x) ∷ bs) ((v, x) ∷ bs)
  found_bind v x bs new h = (ap (λ c. cond c (Some x) (look bs v)) (eq-eqb v v refl), found_cons v x bs bs new h)

  look_append : (bs cs : List (ℕ × X)) (v : ℕ) (x : X) → look bs v ≡ Some x → look (bs ++ cs) v ≡ Some x
  look_append [] cs v x e = absurd (cc e)
  look_append (b ∷ bs) cs v x e = go (nat_eq b.0 v) (look_append bs cs v x) e
    where
      go : (c : Bool) → (look bs v ≡ Some x → look (bs ++ cs) v ≡ Some x) → cond c (Some b.1) (look bs v) ≡ Some x → cond c (Some b.1) (look (bs ++ cs) v) ≡ Some x
      go true more e = e
      go false more e = more e

  look_append_past : (bs cs : List (ℕ × X)) (v : ℕ) → bound bs v ≡ false → look (bs ++ cs) v ≡ look cs v
  look_append_past [] cs v h = refl
  look_append_past (b ∷ bs) cs v h =
      let parts = or_parts (nat_eq v b.0) (bound bs v) h in
      ap (λ c. cond c (Some b.1) (look (bs ++ cs) v)) (eqb_swap b.0 v ∙ parts.0) ∙ look_append_past bs cs v parts.1

  found_front : (ds bs cs : List (ℕ × X)) → Found ds bs → Found ds (bs ++ cs)
  found_front [] bs cs h = tt
  found_front (d ∷ ds) bs cs h = (look_append bs cs d.0 d.1 h.0, found_front ds bs cs h.1)

  abbrev Alike : List (ℕ × X) → List (ℕ × X) → Type 0
  Alike bs cs = (v : ℕ) → bound bs v ≡ true → bound cs v ≡ true → look bs v ≡ look cs v

  found_back : (ds bs cs : List (ℕ × X)) → Alike bs cs → Found ds cs → Found ds (bs ++ cs)
  found_back [] bs cs alike h = tt
  found_back (d ∷ ds) bs cs alike h = (go (bound bs d.0) refl, found_back ds bs cs alike h.1)
    where
      go : (c : Bool) → bound bs d.0 ≡ c → look (bs ++ cs) d.0 ≡ Some d.1
      go true e = look_append bs cs d.0 d.1 (alike d.0 e (look_bound cs d.0 d.1 h.0) ∙ h.0)
      go false e = look_append_past bs cs d.0 e ∙ h.0

  found_both : (ds es all : List (ℕ × X)) → Found ds all → Found es all → Found (ds ++ es) all
  found_both [] es all h k = k
  found_both (d ∷ ds) es all h k = (h.0, found_both ds es all h.1 k)

  -- two parts that agree on what both bind
  pub found_join : (bs cs : List (ℕ × X)) → ((v : ℕ) → bound bs v ≡ true → bound cs v ≡ true → look bs v ≡ look cs v) → Found bs bs → Found cs cs → Found (bs ++ cs) (bs ++ cs)
  found_join bs cs alike h k = found_both bs cs (bs ++ cs) (found_front bs bs cs h) (found_back cs bs cs alike k)

  -- ---- all bindings in a row

  abbrev pub read : List (ℕ × X) → ℕ → ℕ → List X
  read bs a n = flat_map (λ v. found (look bs v)) (range_with_len a n)

  read_first : (bs : List (ℕ × X)) (a n : ℕ) (x : X) → look bs a ≡ Some x → read bs a (suc n) ≡ x ∷ read bs (a + 1) n
  read_first bs a n x e = ap (λ o. found o ++ read bs (a + 1) n) e

  pub read_length : (bs : List (ℕ × X)) (a n : ℕ) → ((v : ℕ) → a ≤ v → v < a + n → bound bs v ≡ true) → length (read bs a n) ≡ n
  read_length bs a zero all = refl
  read_length bs a (suc n) all =
      let first = look_some bs a (all a (omega arith) (omega arith)) in
      ap length (read_first bs a n first.0 first.1) ∙ ap suc (read_length bs (a + 1) n (λ v l h. all v (omega arith) (omega arith)))

  pub read_at : (bs : List (ℕ × X)) (a n : ℕ) → ((v : ℕ) → a ≤ v → v < a + n → bound bs v ≡ true) → (i : ℕ) → i < n → slice_get (read bs a n) i ≡ look bs (a + i)
  read_at bs a zero all i low = absurd (omega arith)
  read_at bs a (suc n) all zero low =
      let first = look_some bs a (all a (omega arith) (omega arith)) in
      ap (λ l. slice_get l 0) (read_first bs a n first.0 first.1) ∙ sym first.1 ∙ ap (look bs) (omega arith)
  read_at bs a (suc n) all (suc i) low =
      let first = look_some bs a (all a (omega arith) (omega arith)) in
      ap (λ l. slice_get l (suc i)) (read_first bs a n first.0 first.1)
      ∙ read_at bs (a + 1) n (λ v l h. all v (omega arith) (omega arith)) i (omega arith) ∙ ap (look bs) (omega arith)

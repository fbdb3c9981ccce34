-- The steps that make groups stand in the order of a plan's groups as they stand in the plan, each at its number.
use Rattle.std.proofs.Common.{◌≡◌, ◌∙◌, ◌<◌, ◌≤◌, ◌+◌, ap, ap₂, sym, refl, ℕ, zero, suc, Bool, true, false, cond, List, [], ◌∷◌, ◌++◌, length, nat_eq, flat_map, filter, arith}
use Rattle.std.specs.Prelude.{slice_index_or}
use Rattle.std.specs.List.{range_with_len}
use Rattle.std.proofs.lemmas.Bool.{eq-eqb}
use Rattle.gq_law_groups.specs.Groups.{makes_group}
use Rattle.gq_plan.proofs.Halved.{places_halved}
use Rattle.gq_plan.specs.Arranged.{home, homes, numbers_at, order_of}
use Rattle.gq_plan.specs.Columns.{steps_of}
use Rattle.gq_plan.specs.Halves.{halved}
use Rattle.gq_plan.specs.Plans.{Plan, Done, Then, Step, Keep}
use Rattle.gq_plan.specs.Shapes.{Places, nowhere, place_step, places_after, places, form_of, next_group}
use Rattle.gq_plan.specs.declared.typed.Typed.{Typed}
use Rattle.gq_search.proofs.Cells.{filter-flat_map}
use Rattle.gq_arrange.proofs.Between.{apart}
use Rattle.gq_arrange.proofs.Running.{count_made, count_small, count_next, count_grows, home_made}

-- the step of a number makes a group
abbrev pub makes_at : List Step → ℕ → Bool
makes_at ss n = makes_group (slice_index_or ss n (Keep 0))

same_over : (f h : ℕ → List ℕ) (a n : ℕ) → ((x : ℕ) → a ≤ x → f x ≡ h x) → flat_map f (range_with_len a n) ≡ flat_map h (range_with_len a n)
same_over f h a zero same = refl
same_over f h a (suc n) same = ap₂ ◌++◌ (same a (omega arith)) (same_over f h (a + 1) n (λ x low. same x (omega (arith, low))))

nothing_over : (a n : ℕ) → flat_map {A = ℕ} (λ (h : ℕ). []) (range_with_len a n) ≡ []
nothing_over a zero = refl
nothing_over a (suc n) = nothing_over (a + 1) n

next_made : (i : ℕ) (s : Step) → makes_group s ≡ true → next_group i (form_of s) ≡ i + 1
next_made i s e = count_next s (record { count = i; nodes = λ v. 0; rels = λ x. 0 }) ∙ count_made s (record { count = i; nodes = λ v. 0; rels = λ x. 0 }) e

next_small : (i : ℕ) (s : Step) → makes_group s ≡ false → next_group i (form_of s) ≡ i
next_small i s e = count_next s (record { count = i; nodes = λ v. 0; rels = λ x. 0 }) ∙ count_small s (record { count = i; nodes = λ v. 0; rels = λ x. 0 }) e

module _ (y : Typed) (b : Places) (m : ℕ → Bool) where
  -- the numbers from one on that are told are those of steps that make groups
  abbrev AreMakers : ℕ → Plan → Type 0
  AreMakers j Done = Unit {0}
  AreMakers j (Then s p) = (m j ≡ makes_group s) × AreMakers (j + 1) p

  not_told : (j : ℕ) (c : Bool) (rest : List ℕ) → m j ≡ false → filter m (cond c (j ∷ rest) rest) ≡ filter m rest
  not_told j true rest e = ap (λ t. cond t (j ∷ filter m rest) (filter m rest)) e
  not_told j false rest e = refl

  -- no step of these makes an earlier group
  none_earlier : (p : Plan) (i j h : ℕ) → h < i → AreMakers j p → filter m (numbers_at h j (homes y b i p)) ≡ []
  unfolding homes
  none_earlier Done i j h low are = refl
  none_earlier (Then s p) i j h low are = go (makes_group s) refl (λ n less. none_earlier p n (j + 1) h less are.1)
    where
      rest : List ℕ
      rest = numbers_at h (j + 1) (homes y b (next_group i (form_of s)) p)

      go : (c : Bool) → makes_group s ≡ c → ((n : ℕ) → h < n → filter m (numbers_at h (j + 1) (homes y b n p)) ≡ []) → filter m (cond (nat_eq (home y b i s) h) (j ∷ rest) rest) ≡ []
      go true e more =
          ap (λ g. filter m (cond (nat_eq g h) (j ∷ rest) rest)) (home_made y b i s e)
          ∙ ap (λ c. filter m (cond c (j ∷ rest) rest)) (apart i h (λ same. omega arith))
          ∙ more (next_group i (form_of s)) (let next = next_made i s e in omega (arith, next, low))
      go false e more =
          not_told j (nat_eq (home y b i s) h) rest (are.0 ∙ e)
          ∙ more (next_group i (form_of s)) (let next = next_small i s e in omega (arith, next, low))

  made_from : (p : Plan) (q : Places) (j n : ℕ) → places_after p q ≡ b → q.count + n ≡ b.count → AreMakers j p
      → flat_map (λ h. filter m (numbers_at h j (homes y b q.count p))) (range_with_len q.count n) ≡ filter m (range_with_len j (length (steps_of p)))
  unfolding places_after homes
  made_from Done q j n e many are = nothing_over q.count n
  made_from (Then s p) q j n e many are = go (makes_group s) refl (λ k counts. made_from p (place_step s q) (j + 1) k e counts are.1)
    where
      rest : ℕ → List ℕ
      rest h = numbers_at h (j + 1) (homes y b (next_group q.count (form_of s)) p)

      left : List ℕ
      left = filter m (range_with_len (j + 1) (length (steps_of p)))

      Behind : Type 0
      Behind = (k : ℕ) → (place_step s q).count + k ≡ b.count → flat_map (λ h. filter m (numbers_at h (j + 1) (homes y b (place_step s q).count p))) (range_with_len (place_step s q).count k) ≡ left

      go : (c : Bool) → makes_group s ≡ c → Behind → flat_map (λ h. filter m (cond (nat_eq (home y b q.count s) h) (j ∷ rest h) (rest h))) (range_with_len q.count n) ≡ cond (m j) (j ∷ left) left
      go false c more =
          let same : (place_step s q).count ≡ q.count = count_small s q c in
          same_over (λ h. filter m (cond (nat_eq (home y b q.count s) h) (j ∷ rest h) (rest h))) (λ h. filter m (rest h)) q.count n (λ h low. not_told j (nat_eq (home y b q.count s) h) (rest h) (are.0 ∙ c))
          ∙ ap (λ i. flat_map (λ h. filter m (numbers_at h (j + 1) (homes y b i p))) (range_with_len q.count n)) (count_next s q)
          ∙ ap (λ i. flat_map (λ h. filter m (numbers_at h (j + 1) (homes y b (place_step s q).count p))) (range_with_len i n)) (sym same)
          ∙ more n (omega (arith, same, many))
          ∙ sym (ap (λ t. cond t (j ∷ left) left) (are.0 ∙ c))
      go true c more = by n many more
        where
          one : (place_step s q).count ≡ q.count + 1
          one = count_made s q c

          by : (n : ℕ) → q.count + n ≡ b.count → Behind → flat_map (λ h. filter m (cond (nat_eq (home y b q.count s) h) (j ∷ rest h) (rest h))) (range_with_len q.count n) ≡ cond (m j) (j ∷ left) left
          by zero many more = absurd (let grows = count_grows p (place_step s q) in let whole = ap (λ (w : Places). w.count) e in omega (arith, one, grows, whole, many))
          by (suc k) many more =
              ap₂ ◌++◌
              (ap (λ g. filter m (cond (nat_eq g q.count) (j ∷ rest q.count) (rest q.count))) (home_made y b q.count s c)
              ∙ ap (λ t. filter m (cond t (j ∷ rest q.count) (rest q.count))) (eq-eqb q.count q.count refl)
              ∙ ap (λ t. cond t (j ∷ filter m (rest q.count)) (filter m (rest q.count))) (are.0 ∙ c)
              ∙ ap (λ l. j ∷ l) (none_earlier p (next_group q.count (form_of s)) (j + 1) q.count (let next = next_made q.count s c in omega (arith, next)) are.1))
              (same_over (λ h. filter m (cond (nat_eq (home y b q.count s) h) (j ∷ rest h) (rest h))) (λ h. filter m (rest h)) (q.count + 1) k
              (λ h low.
              ap (λ g. filter m (cond (nat_eq g h) (j ∷ rest h) (rest h))) (home_made y b q.count s c)
              ∙ ap (λ t. filter m (cond t (j ∷ rest h) (rest h))) (apart q.count h (λ same. omega (arith, low, same))))
              ∙ ap (λ i. flat_map (λ h. filter m (numbers_at h (j + 1) (homes y b i p))) (range_with_len (q.count + 1) k)) (count_next s q)
              ∙ ap (λ i. flat_map (λ h. filter m (numbers_at h (j + 1) (homes y b (place_step s q).count p))) (range_with_len i k)) (sym one)
              ∙ more k (omega (arith, one, many)))
              ∙ sym (ap (λ t. cond t (j ∷ left) left) (are.0 ∙ c))

  are_makers : (p : Plan) (j : ℕ) → ((k : ℕ) → m (j + k) ≡ makes_at (steps_of p) k) → AreMakers j p
  are_makers Done j told = tt
  are_makers (Then s p) j told = (
    (let here : j ≡ j + 0 = omega arith in ap m here ∙ told 0),
    are_makers p (j + 1) (λ k. let next : j + 1 + k ≡ j + suc k = omega arith in ap m next ∙ told (suc k)),
  )

-- the law, by the numbers of the steps of a plan whose column closes run in halves
pub makers_in_order : (y : Typed) (p : Plan) → filter (makes_at (steps_of (halved p))) (order_of y p) ≡ filter (makes_at (steps_of (halved p))) (range_with_len 0 (length (steps_of (halved p))))
makers_in_order y p =
    filter-flat_map m (λ h. numbers_at h 0 (homes y b 0 (halved p))) (range_with_len 0 (places p).count)
    ∙ made_from y b m (halved p) nowhere 0 (places p).count (places_halved p) (let z : 0 + (places p).count ≡ b.count = omega arith in z)
    (are_makers y b m (halved p) 0 (λ k. let z : 0 + k ≡ k = omega arith in ap m z))
  where
    b : Places
    b = places p

    m : ℕ → Bool
    m = makes_at (steps_of (halved p))

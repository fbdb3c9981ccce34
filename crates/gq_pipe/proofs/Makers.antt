-- The steps that make groups, with their builds: those of a plan as it was given are those of its groups.
use Rattle.std.proofs.Common.{◌≡◌, ◌∙◌, ℕ, zero, suc, ◌+◌, ◌-◌, ◌<◌, ◌≤◌, Bool, true, false, cond, Option, Some, None, List, [], ◌∷◌, ◌++◌, flat_map, map, filter, length, slice_get, take, drop, refl, sym, ap, ap₂, subst, arith}
use Rattle.std.specs.Prelude.{slice_index_or}
use Rattle.std.specs.List.{range_with_len}
use Rattle.std.specs.Option.{option_to_list}
use Rattle.std.proofs.lemmas.List.{drop_more, drop_all, drop-drop, length-drop, length-map}
use Rattle.gq_arrange.proofs.Led.{makers_led}
use Rattle.gq_arrange.proofs.Makers.{makes_at}
use Rattle.gq_arrange.specs.Law.{led_order}
use Rattle.gq_base.specs.Catalogs.{Tables}
use Rattle.gq_join.specs.Kept.{Held}
use Rattle.gq_law_groups.specs.Groups.{makes_group}
use Rattle.gq_law_groups.specs.Order.{NoGroups, AreCut}
use Rattle.gq_plan.proofs.FirstSteps.{steps_back}
use Rattle.gq_plan.specs.Arranged.{at_numbers}
use Rattle.gq_plan.specs.Columns.{steps_of}
use Rattle.gq_plan.specs.Covers.{Fits}
use Rattle.gq_plan.specs.Halves.{half_in, halves, halves_of, numbered_halves}
use Rattle.gq_plan.specs.Plans.{Plan, Step, Scan, Extend, Close, Join, Keep, Differ, NoLoop, Single, Meet}
use Rattle.gq_plan.specs.Shapes.{places}
use Rattle.gq_plan.specs.declared.halves.StepHalf.{StepHalf}
use Rattle.gq_plan.specs.declared.typed.Typed.{Typed}
use Rattle.gq_pipe.specs.Keys.{Maker, makers_of}
use Rattle.gq_steps.specs.declared.group_steps.GroupSteps.{GroupSteps}
use Rattle.gq_steps.specs.Levels.{Run}
use Rattle.gq_steps.specs.Groups.{Tiles, groups_in}
use Rattle.gq_pipe.specs.steps.Search.{maker_in}
use Rattle.gq_pipe.proofs.InOrder.{all_steps, halves_are}

-- ---- by halves

module _ (ss : List Step) (os : List (Option Held)) where
  -- the step and the build of a half
  abbrev pub maker_of : StepHalf → Maker
  maker_of q = record { step = half_in ss q; build = slice_index_or os q.step None }

  abbrev pub built : StepHalf → Option Held
  built q = slice_index_or os q.step None

  abbrev pub is_maker : StepHalf → Bool
  is_maker q = makes_group (half_in ss q)

  halves_made : (qs : List StepHalf) → makers_of (map (half_in ss) qs) (map built qs) ≡ map maker_of (filter is_maker qs)
  halves_made [] = refl
  halves_made (q ∷ qs) = go (is_maker q) (halves_made qs)
    where
      go : (b : Bool) → makers_of (map (half_in ss) qs) (map built qs) ≡ map maker_of (filter is_maker qs)
          → cond b (maker_of q ∷ makers_of (map (half_in ss) qs) (map built qs)) (makers_of (map (half_in ss) qs) (map built qs)) ≡ map maker_of (cond b (q ∷ filter is_maker qs) (filter is_maker qs))
      go true more = ap (λ l. maker_of q ∷ l) more
      go false more = more

-- items of numbers that are kept are those of the numbers that are kept
kept_at : {X : Type 0} (m : X → Bool) (xs : List X) (f : ℕ → Bool) → ((n : ℕ) (x : X) → slice_get xs n ≡ Some x → f n ≡ m x) → (ns : List ℕ) → filter m (at_numbers xs ns) ≡ at_numbers xs (filter f ns)
kept_at m xs f told [] = refl
kept_at {X} m xs f told (n ∷ ns) = go (slice_get xs n) refl (f n) refl (kept_at m xs f told ns)
  where
    go : (o : Option X) → slice_get xs n ≡ o → (b : Bool) → f n ≡ b → filter m (at_numbers xs ns) ≡ at_numbers xs (filter f ns) → filter m (option_to_list o ++ at_numbers xs ns) ≡ at_numbers xs (cond b (n ∷ filter f ns) (filter f ns))
    go None e true is more = more ∙ sym (ap (λ o. option_to_list o ++ at_numbers xs (filter f ns)) e)
    go None e false is more = more
    go (Some x) e true is more =
        ap (λ c. cond c (x ∷ filter m (at_numbers xs ns)) (filter m (at_numbers xs ns))) (sym (told n x e) ∙ is) ∙ ap (λ l. x ∷ l) more
        ∙ sym (ap (λ o. option_to_list o ++ at_numbers xs (filter f ns)) e)
    go (Some x) e false is more = ap (λ c. cond c (x ∷ filter m (at_numbers xs ns)) (filter m (at_numbers xs ns))) (sym (told n x e) ∙ is) ∙ more

mapped_there : {X Y : Type 0} (f : X → Y) (xs : List X) (n : ℕ) (x : X) (d : Y) → slice_get xs n ≡ Some x → slice_index_or (map f xs) n d ≡ f x
mapped_there f [] n x d e = absurd (cc e)
mapped_there f (z ∷ xs) zero x d e = ap f (cc e)
mapped_there f (z ∷ xs) (suc n) x d e = mapped_there f xs n x d e

-- the halves of a column close make no groups
made_step : (s : Step) (i : ℕ) (ss : List Step) (qs : List StepHalf) (at : ℕ → Option Held)
    → makers_of (halves s ++ ss) (map (λ (q : StepHalf). at q.step) (map (λ h. record { step = i; half = h }) (halves_of s) ++ qs)) ≡ makers_of (s ∷ ss) (at i ∷ map (λ (q : StepHalf). at q.step) qs)
made_step (Scan v) i ss qs at = refl
made_step (Extend column x from to way) i ss qs at = refl
made_step (Close true x from to way) i ss qs at = refl
made_step (Close false x from to way) i ss qs at = refl
made_step (Join side keys) i ss qs at = refl
made_step (Keep k) i ss qs at = refl
made_step (Differ d) i ss qs at = refl
made_step (NoLoop x) i ss qs at = refl
made_step (Single x from to way) i ss qs at = refl
made_step (Meet x from to way) i ss qs at = refl

made_halves : (ss : List Step) (os : List (Option Held)) (i : ℕ) (at : ℕ → Option Held) → length os ≡ length ss → ((k : ℕ) → k < length ss → at (i + k) ≡ slice_index_or os k None)
    → makers_of (flat_map halves ss) (map (λ (q : StepHalf). at q.step) (numbered_halves i ss)) ≡ makers_of ss os
made_halves [] os i at many told = refl
made_halves (s ∷ ss) [] i at many told = absurd (omega (arith, many))
made_halves (s ∷ ss) (o ∷ os) i at many told =
    made_step s i (flat_map halves ss) (numbered_halves (i + 1) ss) at
    ∙ ap₂ (λ b l. cond (makes_group s) (record { step = s; build = b } ∷ l) l)
    (let here : i ≡ i + 0 = omega arith in ap at here ∙ told 0 (omega arith))
    (made_halves ss os (i + 1) at (omega (arith, many)) (λ k low. let next : i + 1 + k ≡ i + suc k = omega arith in ap at next ∙ told (suc k) (omega (arith, low))))

-- in the order of the groups they stand as in the plan
pub makers_ordered : (catalog : Tables) (y : Typed) (p : Plan) (os : List (Option Held)) → Fits catalog y p → 0 < (places p).count → length os ≡ length (steps_of p)
    → makers_of (map (half_in (steps_of p)) (at_numbers (numbered_halves 0 (steps_of p)) (led_order y p))) (map (λ (q : StepHalf). slice_index_or os q.step None) (at_numbers (numbered_halves 0 (steps_of p)) (led_order y p))) ≡ makers_of (steps_of p) os
makers_ordered catalog y p os fit some many =
    halves_made ss os (at_numbers qs ns)
    ∙ ap (map (maker_of ss os))
    (kept_at (is_maker ss os) qs f told ns ∙ ap (at_numbers qs) same ∙ sym (kept_at (is_maker ss os) qs f told (range_with_len 0 (length qs))) ∙ ap (filter (is_maker ss os)) (all_steps qs))
    ∙ sym (halves_made ss os qs)
    ∙ ap (λ ts. makers_of ts (map (built ss os) qs)) (halves_are ss)
    ∙ made_halves ss os 0 (λ n. slice_index_or os n None) many (λ k low. let z : 0 + k ≡ k = omega arith in ap (λ n. slice_index_or os n None) z)
  where
    ss : List Step
    ss = steps_of p

    qs : List StepHalf
    qs = numbered_halves 0 (steps_of p)

    ns : List ℕ
    ns = led_order y p

    f : ℕ → Bool
    f = makes_at (flat_map halves (steps_of p))

    told : (n : ℕ) (q : StepHalf) → slice_get qs n ≡ Some q → f n ≡ is_maker ss os q
    told n q e = ap (λ ts. makes_at ts n) (sym (halves_are ss)) ∙ ap makes_group (mapped_there (half_in ss) qs n q (Keep 0) e)

    long : length (flat_map halves (steps_of p)) ≡ length qs
    long = ap length (sym (halves_are ss)) ∙ length-map qs (half_in ss)

    same : filter f ns ≡ filter f (range_with_len 0 (length qs))
    same =
        subst (λ ts. filter (makes_at ts) ns ≡ filter (makes_at ts) (range_with_len 0 (length ts))) (steps_back (flat_map halves (steps_of p))) (makers_led catalog y p fit some)
        ∙ ap (λ n. filter f (range_with_len 0 n)) long

-- ---- by groups

-- steps that make no groups are passed over
none_made : (n : ℕ) (ss : List Step) (os : List (Option Held)) → NoGroups (take n ss) → n ≤ length ss → length os ≡ length ss → makers_of ss os ≡ makers_of (drop n ss) (drop n os)
none_made zero ss os none low many = refl
none_made (suc n) [] os none low many = absurd (omega (arith, low))
none_made (suc n) (s ∷ ss) [] none low many = absurd (omega (arith, many))
none_made (suc n) (s ∷ ss) (o ∷ os) none low many =
    ap (λ b. cond b (record { step = s; build = o } ∷ makers_of ss os) (makers_of ss os)) none.0 ∙ none_made n ss os none.1 (omega (arith, low)) (omega (arith, many))

module _ (c : Run) (many : length c.builds ≡ length c.steps) where
  tiled : (d : ℕ) (ts : List GroupSteps) → Tiles c d ts → AreCut (groups_in c ts) → makers_of (drop d c.steps) (drop d c.builds) ≡ map (maker_in c) ts
  tiled d [] tiles cut = ap (λ ss. makers_of ss (drop d c.builds)) (drop_all d c.steps (omega (arith, tiles)))
  tiled d (t ∷ ts) tiles cut =
      let some : t.first < t.end = tiles.1 in
      let inside : t.end ≤ length c.steps = tiles.2 in
      let to : t.first + 1 + (t.end - (t.first + 1)) ≡ t.end = omega (arith, some) in
      ap (λ e. makers_of (drop e c.steps) (drop e c.builds)) (sym tiles.0)
      ∙ ap₂ makers_of (drop_more c.steps t.first (Keep 0) (omega (arith, some, inside))) (drop_more c.builds t.first None (omega (arith, some, inside, many)))
      ∙ ap (λ b. cond b (maker_in c t ∷ makers_of (drop (t.first + 1) c.steps) (drop (t.first + 1) c.builds)) (makers_of (drop (t.first + 1) c.steps) (drop (t.first + 1) c.builds))) cut.0
      ∙ ap (λ l. maker_in c t ∷ l)
      (none_made (t.end - (t.first + 1)) (drop (t.first + 1) c.steps) (drop (t.first + 1) c.builds) cut.1
      (let long = length-drop (t.first + 1) c.steps in omega (arith, long, some, inside))
      (length-drop (t.first + 1) c.builds ∙ ap (λ k. k - (t.first + 1)) many ∙ sym (length-drop (t.first + 1) c.steps))
      ∙ ap₂ makers_of (drop-drop (t.end - (t.first + 1)) (t.first + 1) c.steps) (drop-drop (t.end - (t.first + 1)) (t.first + 1) c.builds)
      ∙ ap (λ e. makers_of (drop e c.steps) (drop e c.builds)) to
      ∙ tiled t.end ts tiles.3 cut.2)

  -- the steps that make the groups that run
  pub makers_run : (ts : List GroupSteps) → Tiles c 0 ts → AreCut (groups_in c ts) → makers_of c.steps c.builds ≡ map (maker_in c) ts
  makers_run ts tiles cut = tiled 0 ts tiles cut

-- ---- what makes a group, without its build

pub made_steps : (ss : List Step) (os : List (Option Held)) → length os ≡ length ss → map (λ (m : Maker). m.step) (makers_of ss os) ≡ filter makes_group ss
made_steps [] os many = refl
made_steps (s ∷ ss) [] many = absurd (omega (arith, many))
made_steps (s ∷ ss) (o ∷ os) many = go (makes_group s) (made_steps ss os (omega (arith, many)))
  where
    go : (b : Bool) → map (λ (m : Maker). m.step) (makers_of ss os) ≡ filter makes_group ss → map (λ (m : Maker). m.step) (cond b (record { step = s; build = o } ∷ makers_of ss os) (makers_of ss os)) ≡ cond b (s ∷ filter makes_group ss) (filter makes_group ss)
    go true more = ap (λ l. s ∷ l) more
    go false more = more

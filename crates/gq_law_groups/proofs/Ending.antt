-- Behind a place of a flat group of which a later group makes nothing there is no walk.
use Rattle.std.proofs.Common.{◌≡◌, ◌⊎◌, ℕ, ◌+◌, ◌<◌, Bool, true, false, List, [], ◌∷◌, ◌++◌, map, flat_map, length, refl, sym, ap, ◌∙◌, inl, inr}
use Rattle.std.specs.List.{AllByRecursion}
use Rattle.gq_base.specs.Plain.{Graph}
use Rattle.gq_plan.specs.Covers.{after_step}
use Rattle.gq_plan.specs.Known.{Known}
use Rattle.gq_plan.specs.Meaning.{Partial}
use Rattle.gq_plan.specs.Plans.{Step}
use Rattle.gq_plan.specs.declared.typed.Typed.{Typed}
use Rattle.gq_search.specs.Layouts.{Layout, number_of, walks}
use Rattle.gq_law_groups.specs.Groups.{Group, AreGroups, raw, kept, passes, raw_at, place, choices, decode, results, Follows}
use Rattle.gq_law_groups.specs.Layout.{after_all, ArePlaced, known_with, AreFlatEnough}
use Rattle.gq_law_groups.proofs.Alike.{AreAlike, alike_self, alike_then}
use Rattle.gq_law_groups.proofs.Bridge.{walks_are_choices, choices_are_results}
use Rattle.gq_law_groups.proofs.Following.{known_node, known_rel, each_first, raw_keeps, kept_keeps, IsTail, tail_follows}

-- one known less than another
pub record Within (k all : Known) : Type 0 where
  pub nodes : (v : ℕ) → k.nodes v ≡ true → all.nodes v ≡ true
  pub rels : (x : ℕ) → k.rels x ≡ true → all.rels x ≡ true

fewer : (k all : Known) (a e : Partial) → Within k all → AreAlike all a e → AreAlike k a e
fewer k all a e w h = record { nodes = λ v i. h.nodes v (w.nodes v i); rels = λ x i. h.rels x (w.rels x i) }

within-step : (s : Step) (k all : Known) → Within k all → Within k (after_step s all)
within-step s k all w = record { nodes = λ v i. known_node s all v (w.nodes v i); rels = λ x i. known_rel s all x (w.rels x i) }

pub within-all : (ss : List Step) (k all : Known) → Within k all → Within k (after_all ss all)
within-all [] k all w = w
within-all (s ∷ ss) k all w = within-all ss k (after_step s all) (within-step s k all w)

pub within-group : (f : Bool) (b : Group) (k all : Known) → Within k all → Within k (known_with f b all)
within-group true b k all w = within-all b.checks k (after_step b.binds all) (within-step b.binds k all w)
within-group false b k all w = w

module _ (g : Graph) (y : Typed) (rows : ℕ → List Partial) where
  -- the groups from one on make nothing of each of these
  abbrev pub AllEnd : ℕ → List Group → List Partial → Type 0
  AllEnd i gs es = AllByRecursion (λ e. results g y rows i gs e ≡ []) es

  -- of any partial assignment that is as this one in what is known, a group leaves nothing of which those behind it make anything
  abbrev pub EndsAt : ℕ → Group → List Group → Known → Partial → Type 0
  EndsAt i b gs k a = (e : Partial) → AreAlike k a e → AllEnd (i + 1) gs (flat_map (kept g y b) (raw g y (rows i) b.binds e))

  -- so it is at one of the groups from one on
  abbrev pub Ends : ℕ → List Group → Known → Partial → Type 0
  Ends i [] k a = ⊥
  Ends i (b ∷ gs) k a = EndsAt i b gs k a ⊎ Ends (i + 1) gs k a

  -- what a group leaves of places is as what was before it
  kept-as : (i : ℕ) (b : Group) (k all : Known) (a e : Partial) → Within k all → ArePlaced g.catalog y b.checks (after_step b.binds all) → AreAlike k a e → (xs : List Partial) → AllByRecursion (AreAlike all e) xs
      → AllByRecursion (AreAlike k a) (flat_map (kept g y b) xs)
  kept-as i b k all a e w placed h [] z = tt
  kept-as i b k all a e w placed h (x ∷ xs) z = joined (kept g y b x) (flat_map (kept g y b) xs) (kept_keeps g y (rows i) b all x placed) (kept-as i b k all a e w placed h xs z.1)
    where
      to : (d : Partial) → AreAlike (after_step b.binds all) x d → AreAlike k a d
      to d m = alike_then k a e d h (alike_then k e x d (fewer k all e x w z.0) (fewer k (after_step b.binds all) x d (within-step b.binds k all w) m))

      joined : (us vs : List Partial) → AllByRecursion (AreAlike (after_step b.binds all) x) us → AllByRecursion (AreAlike k a) vs → AllByRecursion (AreAlike k a) (us ++ vs)
      joined [] vs m n = n
      joined (u ∷ us) vs m n = (to u m.0, joined us vs m.1 n)

  all-none : (F : Partial → List Partial) (P : Partial → Type 0) → ((e : Partial) → P e → F e ≡ []) → (xs : List Partial) → AllByRecursion P xs → flat_map F xs ≡ []
  all-none F P h [] z = refl
  all-none F P h (x ∷ xs) z = ap (λ l. l ++ flat_map F xs) (h x z.0) ∙ all-none F P h xs z.1

  -- where a group makes nothing, all groups together make nothing
  pub ends_none : (flat : ℕ → Bool) (i : ℕ) (gs : List Group) (k all : Known) (a e : Partial) → Ends i gs k a → Within k all → AreGroups g y rows i gs → AreFlatEnough g.catalog y flat i gs all → AreAlike k a e → results g y rows i gs e ≡ []
  ends_none flat i [] k all a e n w are enough h = absurd n
  ends_none flat i (b ∷ gs) k all a e (inl n) w are enough h = all-none (results g y rows (i + 1) gs) (λ d. results g y rows (i + 1) gs d ≡ []) (λ d m. m) (flat_map (kept g y b) (raw g y (rows i) b.binds e)) (n e h)
  ends_none flat i (b ∷ gs) k all a e (inr n) w are enough h =
      all-none (results g y rows (i + 1) gs) (AreAlike k a) (λ f m. ends_none flat (i + 1) gs k (known_with (flat i) b all) a f n (within-group (flat i) b k all w) are.2 enough.2 m)
      (flat_map (kept g y b) (raw g y (rows i) b.binds e))
      (kept-as i b k all a e w enough.1 h (raw g y (rows i) b.binds e) (raw_keeps g y (rows i) b.binds all e are.0 enough.0))

  no-choices : (gs : List Group) (i : ℕ) (e : Partial) → AreGroups g y rows i gs → results g y rows i gs e ≡ [] → choices g y rows i gs e ≡ []
  no-choices gs i e are h = none (choices g y rows i gs e) (choices_are_results g y rows gs i e are ∙ h)
    where
      none : (ws : List (List ℕ)) → map (decode g y rows i gs e) ws ≡ [] → ws ≡ []
      none [] z = refl
      none (w ∷ ws) z = cc

  pub nothing_behind : (flat : ℕ → Bool) (l : Layout) (b : Group) (gs : List Group) (pre : List ℕ) (i : ℕ) (k : Known) (a : Partial) → IsTail g y rows flat l pre i (b ∷ gs) a → AreGroups g y rows i (b ∷ gs) → AreFlatEnough g.catalog y flat i (b ∷ gs) k
      → (j : ℕ) → j < l.size pre → l.keeps pre j ≡ true → flat i ≡ true → Ends (i + 1) gs (after_step b.binds k) (raw_at g y (rows i) b a j) → walks l (length gs) (pre ++ number_of (l.flat pre) j ∷ []) ≡ []
  nothing_behind flat l b gs pre i k a t are enough j low keeps is_flat ends =
      walks_are_choices g y rows l gs (pre ++ number_of (l.flat pre) j ∷ []) (i + 1) (place g y (rows i) b a j) (follows.2 j low keeps)
      ∙ no-choices gs (i + 1) (place g y (rows i) b a j) are.2
      (ends_none flat (i + 1) gs (after_step b.binds k) (known_with (flat i) b k) (raw_at g y (rows i) b a j) (place g y (rows i) b a j) ends (known-flat (flat i) is_flat) are.2 enough.2 place-as)
    where
      follows : Follows g y rows l pre i (b ∷ gs) a
      follows = tail_follows g y rows flat l (b ∷ gs) pre i k a a t are enough (alike_self k a)

      there : passes g y b (raw_at g y (rows i) b a j) ≡ true
      there = sym (follows.1 j low) ∙ keeps

      -- the place as it is read ahead, and as it is kept
      place-as : AreAlike (after_step b.binds k) (raw_at g y (rows i) b a j) (place g y (rows i) b a j)
      place-as = each_first (AreAlike (after_step b.binds k) (raw_at g y (rows i) b a j)) (kept g y b (raw_at g y (rows i) b a j)) (kept_keeps g y (rows i) b k (raw_at g y (rows i) b a j) enough.1) there

      known-flat : (f : Bool) → f ≡ true → Within (after_step b.binds k) (known_with f b k)
      known-flat true z = within-all b.checks (after_step b.binds k) (after_step b.binds k) (record { nodes = λ v i. i; rels = λ x i. i })
      known-flat false z = cc

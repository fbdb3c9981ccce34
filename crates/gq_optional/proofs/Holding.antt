-- The build of a plan that covers an alternative holds what the plan makes.
use Rattle.std.proofs.Common.{◌≡◌, ◌∙◌, ℕ, suc, ◌+◌, ◌<◌, Bool, true, cond, List, [], ◌∷◌, filter, length, map, get_or, refl, sym, ap, ap₂, subst, arith}
use Rattle.std.specs.Prelude.{slice_index, IsPermutation}
use Rattle.std.specs.List.{AllByRecursion, list_all, range_with_len}
use Rattle.std.proofs.lemmas.Bool.{and_parts}
use Rattle.std.proofs.lemmas.List.FromFn.{length-range_with_len, length-map-range_with_len}
use Rattle.std.proofs.lemmas.List.Sorted.{IsPermutation-map}
use Rattle.gq_base.specs.Catalogs.{Tables}
use Rattle.gq_base.specs.Plain.{Graph}
use Rattle.gq_join.specs.Kept.{Held, Kept, no_row, node_in, place_of, rel_in, row_at}
use Rattle.gq_pipe.proofs.Assigned.{covers_bind_all, whole_assigned}
use Rattle.gq_steps.proofs.Binding.{looks_given}
use Rattle.gq_steps.specs.Built.{IsBuildOf, whole_row}
use Rattle.gq_steps.specs.Given.{given}
use Rattle.gq_pipe.specs.Sized.{AreSized, HasNumbers}
use Rattle.gq_plan.specs.Covers.{Covers, after}
use Rattle.gq_plan.specs.Known.{none}
use Rattle.gq_plan.specs.Meaning.{mean, meaning, nothing, whole}
use Rattle.gq_plan.specs.Plans.{Plan}
use Rattle.gq_plan.specs.Rows.{assigned}
use Rattle.gq_plan.specs.declared.typed.Typed.{Typed}
use Rattle.gq_optional.specs.declared.clause.Matches.{Matches}
use Rattle.gq_optional.specs.steps.Listed.{IsSized, match_of}
use Rattle.gq_optional.specs.steps.Making.{IsMatches}
use Rattle.gq_optional.proofs.Keyed.{place_range, sized_at}

-- ---- lists

all_pass : (q : ℕ → Bool) (xs : List ℕ) → list_all q xs ≡ true → filter q xs ≡ xs
all_pass q [] e = refl
all_pass q (x ∷ xs) e =
    let both = and_parts (q x) (list_all q xs) e in
    ap (λ b. cond b (x ∷ filter q xs) (filter q xs)) both.0 ∙ ap (λ l. x ∷ l) (all_pass q xs both.1)

by_places : {X A : Type 0} (f : ℕ → X) (r : A → X) (rows : List A) (d : A) (a : ℕ) → ((i : ℕ) → i < length rows → f (a + i) ≡ r (get_or rows i d)) → map f (range_with_len a (length rows)) ≡ map r rows
by_places f r [] d a h = refl
by_places f r (row ∷ rows) d a h =
    let here : a + 0 ≡ a = omega arith in
    ap₂ ◌∷◌ (ap f (sym here) ∙ h 0 (omega arith))
    (by_places f r rows d (a + 1) (λ i low. (let next : a + 1 + i ≡ a + suc i = omega arith in ap f next ∙ h (suc i) (omega (arith, low)))))

map_map : {X Y Z : Type 0} (f : Y → Z) (h : X → Y) (xs : List X) → map f (map h xs) ≡ map (λ x. f (h x)) xs
map_map f h [] = refl
map_map f h (x ∷ xs) = ap (λ l. f (h x) ∷ l) (map_map f h xs)

map_same : (xs : List ℕ) → map (λ x. x) xs ≡ xs
map_same [] = refl
map_same (x ∷ xs) = ap (λ l. x ∷ l) (map_same xs)

-- the numbers at all places, where places are looked up among themselves
all_places : (vs xs : List ℕ) (n : ℕ) → vs ≡ range_with_len 0 n → length xs ≡ n → map (λ v. slice_index xs (place_of vs v)) (range_with_len 0 n) ≡ xs
all_places vs xs n e long =
    ap (λ k. map (λ v. slice_index xs (place_of vs v)) (range_with_len 0 k)) (sym long)
    ∙ by_places (λ v. slice_index xs (place_of vs v)) (λ x. x) xs 0 0
    (λ i low.
    ap (λ l. slice_index xs (place_of l (0 + i))) e
    ∙ ap (slice_index xs) (place_range 0 n i (omega (arith, low, long))))
    ∙ map_same xs

-- ---- the build

module _ (catalog : Tables) (g : Graph) (y : Typed) (p : Plan) (covers : Covers catalog y p) (keys : List ℕ) (h : Held) (is : IsBuildOf g y p keys h) (sized : AreSized h) where
  bound : (list_all (after p none).nodes (range_with_len 0 (length y.nodes)) ≡ true) × (list_all (after p none).rels (range_with_len 0 (length y.rels)) ≡ true)
  bound = and_parts (list_all (after p none).nodes (range_with_len 0 (length y.nodes))) (list_all (after p none).rels (range_with_len 0 (length y.rels))) (covers_bind_all catalog y p covers)

  pub nodes_are : h.nodes ≡ range_with_len 0 (length y.nodes)
  nodes_are = is.nodes ∙ all_pass (after p none).nodes (range_with_len 0 (length y.nodes)) bound.0

  pub rels_are : h.rels ≡ range_with_len 0 (length y.rels)
  rels_are = is.rels ∙ all_pass (after p none).rels (range_with_len 0 (length y.rels)) bound.1

  each_sized : (rows : List Kept) → AllByRecursion (HasNumbers h) rows → AllByRecursion (IsSized (length y.nodes) (length y.rels)) rows
  each_sized [] s = tt
  each_sized (r ∷ rows) s =
      ((s.0.0 ∙ ap length nodes_are ∙ length-range_with_len 0 (length y.nodes), s.0.1 ∙ ap length rels_are ∙ length-range_with_len 0 (length y.rels)), each_sized rows s.1)

  pub rows_sized : AllByRecursion (IsSized (length y.nodes) (length y.rels)) h.rows
  rows_sized = each_sized h.rows sized

  row_is : (i : ℕ) → i < length h.rows → whole y (given y (whole_row y h i) p nothing) ≡ match_of y (row_at h i)
  row_is i low =
      let s = sized_at (IsSized (length y.nodes) (length y.rels)) h.rows i rows_sized low in
      sym (whole_assigned y (whole_row y h i) (after p none) (given y (whole_row y h i) p nothing) (looks_given y (whole_row y h i) p none nothing (record { nodes = λ v. refl; rels = λ x. refl }))
      (length-map-range_with_len (λ v. node_in h v i) 0 (length y.nodes)) (length-map-range_with_len (λ x. rel_in h x i) 0 (length y.rels)) (covers_bind_all catalog y p covers))
      ∙ ap (assigned y) (λ j. record {
        nodes = all_places h.nodes (row_at h i).nodes (length y.nodes) nodes_are s.0 j;
        rels = all_places h.rels (row_at h i).rels (length y.rels) rels_are s.1 j;
      })

  pub list_is : IsPermutation (map (match_of y) h.rows) (meaning g y p)
  unfolding meaning
  list_is =
      subst (λ l. IsPermutation l (map (whole y) (mean g y p nothing)))
      (map_map (whole y) (λ i. given y (whole_row y h i) p nothing) (range_with_len 0 (length h.rows))
      ∙ by_places (λ i. whole y (given y (whole_row y h i) p nothing)) (match_of y) h.rows no_row 0
      (λ i low. (let same : 0 + i ≡ i = omega arith in ap (λ k. whole y (given y (whole_row y h k) p nothing)) same ∙ row_is i low)))
      (IsPermutation-map (whole y) (map (λ i. given y (whole_row y h i) p nothing) (range_with_len 0 (length h.rows))) (mean g y p nothing) is.made)

  pub is_matches : (m : Matches) → m.typed.now ≡ y → m.build ≡ h → IsMatches g y p keys m
  is_matches m e f = record {
    typed = e;
    nodes = ap (λ (b : Held). b.nodes) f ∙ nodes_are;
    rels = ap (λ (b : Held). b.rels) f ∙ rels_are;
    keyed = ap (λ (b : Held). b.keys) f ∙ is.key_list;
    sized = subst (λ (b : Held). AllByRecursion (IsSized (length y.nodes) (length y.rels)) b.rows) (sym f) rows_sized;
    list = subst (λ (t : Typed × Held). IsPermutation (map (match_of t.0) t.1.rows) (meaning g y p)) (λ i. (sym e i, sym f i)) list_is;
  }

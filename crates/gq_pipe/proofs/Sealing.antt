-- A build into which rows came that bind what a side plan makes is a build of that side plan, and what its pipeline spent.
use Rattle.std.proofs.Common.{◌≡◌, ℕ, suc, ◌+◌, ◌<◌, ◌≤◌, true, cond, Some, None, List, [], ◌∷◌, map, length, get_or, Option, refl, sym, ap, ap₂, ◌∙◌, subst, arith}
use Rattle.std.specs.Prelude.{slice_index, IsPermutation}
use Rattle.std.specs.List.{AllByRecursion, range_with_len}
use Rattle.std.proofs.lemmas.List.{get_or-map, length-map}
use Rattle.std.proofs.lemmas.List.Elements.{All-from_recursion, recursion_from_All}
use Rattle.std.proofs.lemmas.List.FromFn.{get_or-map-range_with_len}
use Rattle.std.proofs.lemmas.List.Sorted.{All-permutation, IsPermutation-sym, length_permutation}
use Rattle.gq_base.specs.Plain.{Graph}
use Rattle.gq_base.specs.Valid.{is_valid, row_count}
use Rattle.gq_join.specs.Kept.{Growing, Held, IsWithin, Kept, is_past, kept, node_in, no_row, place_of, rel_in, row_at, sealed_of, with_rows}
use Rattle.gq_join.specs.declared.build.JoinRefusal.{JoinRefusal}
use Rattle.gq_join.specs.declared.build.JoinRefusal.TheVariants.{TooManyRows, Memory}
use Rattle.gq_plan.specs.Covers.{after}
use Rattle.gq_plan.specs.Known.{none}
use Rattle.gq_plan.specs.Meaning.{Partial, mean, meaning, nothing}
use Rattle.gq_plan.specs.Plans.{Plan}
use Rattle.gq_plan.specs.Rows.{node_at, node_table}
use Rattle.gq_plan.specs.declared.assignment.Assignment.{Assignment}
use Rattle.gq_plan.specs.declared.typed.Typed.{Typed}
use Rattle.gq_steps.specs.Built.{AreBuilds, IsBuildOf, kept_nodes, kept_rels, whole_row}
use Rattle.gq_pipe.specs.Keys.{key_count, rows_of}
use Rattle.gq_steps.specs.Given.{given}
use Rattle.gq_pipe.specs.Rest.{Rest}
use Rattle.gq_pipe.specs.Sized.{AreSized, HasNumbers}
use Rattle.gq_pipe.specs.Spending.{HasSpentAll, up_to_most}
use Rattle.gq_plan.specs.Columns.{columns_of}
use Rattle.gq_homes.specs.declared.spent.Spent.{Spent}
use Rattle.gq_pipe.specs.steps.Built.{side_build}
use Rattle.gq_pipe.specs.steps.Filled.{HasRun, IsFilled}
use Rattle.gq_pipe.specs.Limits.{IsRefusal}
use Rattle.gq_steps.specs.Moves.{IsAlike}
use Rattle.gq_steps.proofs.Binding.{given_alike, looks_given}
use Rattle.gq_steps.proofs.Joined.{IsLow}
use Rattle.gq_steps.proofs.Joining.{has, has_kept}
use Rattle.gq_pipe.proofs.Counted.{each_told}
use Rattle.gq_pipe.proofs.Pushing.{place_has, length-meaning}
use Rattle.gq_pipe.proofs.Stored.{Stores, look_stored, mean_stores}

abbrev no_assignment : Assignment
no_assignment = record { nodes = []; rels = [] }

by_places : {X A : Type 0} (f : ℕ → X) (r : A → X) (rows : List A) (d : A) (a : ℕ) → ((i : ℕ) → i < length rows → f (a + i) ≡ r (get_or rows i d)) → map f (range_with_len a (length rows)) ≡ map r rows
by_places f r [] d a h = refl
by_places f r (row ∷ rows) d a h =
    let here : a + 0 ≡ a = omega arith in
    ap₂ ◌∷◌ (ap f (sym here) ∙ h 0 (omega arith))
    (by_places f r rows d (a + 1) (λ i low. (let next : a + 1 + i ≡ a + suc i = omega arith in ap f next ∙ h (suc i) (omega (arith, low)))))

all_of_map : {X Y : Type 0} (P : Y → Type 0) (f : X → Y) (xs : List X) → AllByRecursion P (map f xs) → AllByRecursion (λ x. P (f x)) xs
all_of_map P f [] h = tt
all_of_map P f (x ∷ xs) h = (h.0, all_of_map P f xs h.1)

module _ (g : Graph) (y : Typed) (side : Plan) (low : IsLow y (after side none)) (b : Growing) (rows : List Assignment)
    (nodes : b.nodes ≡ kept_nodes y side) (rels : b.rels ≡ kept_rels y side) (rows_are : b.rows ≡ map (kept b.nodes b.rels) rows) where
  abbrev h : Held
  h = sealed_of b

  abbrev at : ℕ → Assignment
  at i = get_or rows i no_assignment

  many : length b.rows ≡ length rows
  many = ap length rows_are ∙ length-map rows (kept b.nodes b.rels)

  row_is : (i : ℕ) → i < length rows → row_at h i ≡ kept b.nodes b.rels (at i)
  row_is i inside = ap (λ rs. get_or rs i no_row) rows_are ∙ get_or-map (kept b.nodes b.rels) rows i no_assignment no_row inside

  node_is : (i v : ℕ) → i < length rows → (after side none).nodes v ≡ true → node_in h v i ≡ slice_index (at i).nodes v
  node_is i v inside e =
      let there = place_has b.nodes v (ap (λ l. has l v) nodes ∙ has_kept (after side none).nodes (length y.nodes) v (low.nodes v e) ∙ e) in
      ap (λ (r : Kept). slice_index r.nodes (place_of b.nodes v)) (row_is i inside)
      ∙ get_or-map (slice_index (at i).nodes) b.nodes (place_of b.nodes v) 0 0 there.0 ∙ ap (slice_index (at i).nodes) there.1

  rel_is : (i x : ℕ) → i < length rows → (after side none).rels x ≡ true → rel_in h x i ≡ slice_index (at i).rels x
  rel_is i x inside e =
      let there = place_has b.rels x (ap (λ l. has l x) rels ∙ has_kept (after side none).rels (length y.rels) x (low.rels x e) ∙ e) in
      ap (λ (r : Kept). slice_index r.rels (place_of b.rels x)) (row_is i inside)
      ∙ get_or-map (slice_index (at i).rels) b.rels (place_of b.rels x) 0 0 there.0 ∙ ap (slice_index (at i).rels) there.1

  alike : (i : ℕ) → i < length rows → IsAlike (after side none) (at i) (whole_row y h i)
  alike i inside = record {
    nodes = λ v e. get_or-map-range_with_len (λ v. node_in h v i) 0 (length y.nodes) v v 0 (low.nodes v e) (omega arith) ∙ node_is i v inside e;
    rels = λ x e. get_or-map-range_with_len (λ x. rel_in h x i) 0 (length y.rels) x x 0 (low.rels x e) (omega arith) ∙ rel_is i x inside e;
  }

  abbrev reads : Assignment → Partial
  reads row = given y row side nothing

  binds : map (λ i. reads (whole_row y h i)) (range_with_len 0 (length h.rows)) ≡ map reads rows
  binds =
      ap (λ n. map (λ i. reads (whole_row y h i)) (range_with_len 0 n)) many
      ∙ by_places (λ i. reads (whole_row y h i)) reads rows no_assignment 0
      (λ i inside. (let same : 0 + i ≡ i = omega arith in ap (λ j. reads (whole_row y h j)) same ∙ given_alike y (at i) (whole_row y h i) side none nothing (alike i inside)))

  module _ (valid : is_valid g ≡ true) (made : IsPermutation (mean g y side nothing) (map reads rows)) where
    stored : AllByRecursion (λ row. Stores g (reads row)) rows
    stored = all_of_map (Stores g) reads rows
        (recursion_from_All (Stores g) (map reads rows)
        (All-permutation (Stores g) (mean g y side nothing) (map reads rows) made (All-from_recursion (Stores g) (mean g y side nothing) (mean_stores g valid y side nothing tt))))

    inside_at : (i v : ℕ) → i < length rows → (after side none).nodes v ≡ true → slice_index (at i).nodes v < row_count g.nodes (node_table y v)
    inside_at i v inside e =
        let holds : Stores g (reads (at i)) = All-from_recursion (λ row. Stores g (reads row)) rows stored i no_assignment inside in
        let looked = looks_given y (at i) side none nothing (record { nodes = λ v. refl; rels = λ x. refl }) in
        look_stored g (reads (at i)).nodes v (node_at y (at i) v) holds (looked.nodes v ∙ ap (λ t. cond t (Some (node_at y (at i) v)) None) e)

    pub is_build : IsBuildOf g y side b.keys h
    is_build = record {
      key_list = refl;
      nodes = nodes;
      rels = rels;
      made = subst (λ l. IsPermutation l (mean g y side nothing)) (sym binds) (IsPermutation-sym (mean g y side nothing) (map reads rows) made);
      inside = λ i v less e. (let low_row : i < length rows = omega (arith, less, many) in
          subst (λ n. n < row_count g.nodes (node_table y v)) (sym (node_is i v low_row e)) (inside_at i v low_row e));
    }

-- the build that was begun for a side plan, filled and sealed
pub filled_build : (g : Graph) (y : Typed) (side : Plan) (low : IsLow y (after side none)) (keys : List ℕ) (limit : ℕ) (old new : Growing) (h : Held) (owed : List Partial)
    → is_valid g ≡ true → old ≡ side_build y side keys limit → IsFilled y side owed old new → IsPermutation owed (mean g y side nothing) → h ≡ sealed_of new
    → IsBuildOf g y side keys h
filled_build g y side low keys limit old new h owed valid begun filled bag sealed =
    let is : new ≡ with_rows filled.rows (side_build y side keys limit) = filled.pushed ∙ ap (with_rows filled.rows) begun in
    subst (λ ks. IsBuildOf g y side ks h) (ap (λ (b : Growing). b.keys) is)
    (subst (IsBuildOf g y side new.keys) (sym sealed)
    (is_build g y side low new filled.rows (ap (λ (b : Growing). b.nodes) is) (ap (λ (b : Growing). b.rels) is)
    (ap (λ (b : Growing). b.rows) is ∙ ap (λ (b : Growing). map (kept b.nodes b.rels) filled.rows) (sym is)) valid
    (trans owed (mean g y side nothing) (map (λ row. given y row side nothing) filled.rows) bag filled.made)))
  where
    trans : (owed all came : List Partial) → IsPermutation owed all → IsPermutation owed came → IsPermutation all came
    trans owed all came one two = Rattle.std.proofs.lemmas.List.Sorted.IsPermutation-trans all owed came (IsPermutation-sym owed all one) two

-- its rows are no more than the limit
pub filled_few : (g : Graph) (y : Typed) (side : Plan) (keys : List ℕ) (limit : ℕ) (old new : Growing) (owed : List Partial)
    → old ≡ side_build y side keys limit → IsFilled y side owed old new → IsPermutation owed (mean g y side nothing) → length (meaning g y side) ≤ limit
filled_few g y side keys limit old new owed begun filled bag =
    go filled.rows filled.within
    (length-meaning g y side ∙ length_permutation _ _ bag ∙ sym (length_permutation _ _ filled.made) ∙ length-map filled.rows (λ row. given y row side nothing))
  where
    go : (rows : List Assignment) → IsWithin old.limit (length old.rows) (length rows) → length (meaning g y side) ≡ length rows → length (meaning g y side) ≤ limit
    go [] within many = omega (arith, many)
    go (r ∷ rs) within many =
        let room = within (omega arith) in
        omega (arith, room, many, ap (λ (b : Growing). b.limit) begun, ap (λ (b : Growing). length b.rows) begun)

-- each of its rows has a number for each variable that it keeps
each_sized : (nodes rels : List ℕ) (h : Held) (rows : List Assignment) → h.nodes ≡ nodes → h.rels ≡ rels → AllByRecursion (HasNumbers h) (map (kept nodes rels) rows)
each_sized nodes rels h [] e f = tt
each_sized nodes rels h (r ∷ rs) e f =
    ((length-map nodes (slice_index r.nodes) ∙ ap length (sym e), length-map rels (slice_index r.rels) ∙ ap length (sym f)), each_sized nodes rels h rs e f)

pub filled_sized : (y : Typed) (side : Plan) (keys : List ℕ) (limit : ℕ) (old new : Growing) (h : Held) (owed : List Partial)
    → old ≡ side_build y side keys limit → IsFilled y side owed old new → h ≡ sealed_of new → AreSized h
filled_sized y side keys limit old new h owed begun filled sealed =
    let is : h ≡ sealed_of (with_rows filled.rows (side_build y side keys limit)) = sealed ∙ ap sealed_of (filled.pushed ∙ ap (with_rows filled.rows) begun) in
    subst (AllByRecursion (HasNumbers h)) (sym (ap (λ (g : Held). g.rows) is))
    (each_sized (kept_nodes y side) (kept_rels y side) h filled.rows (ap (λ (g : Held). g.nodes) is) (ap (λ (g : Held). g.rels) is))

-- it is refused only where there are more
pub past_refused : (g : Graph) (y : Typed) (side : Plan) (keys : List ℕ) (limit : ℕ) (old : Growing) (owed : List Partial) (e : JoinRefusal)
    → old ≡ side_build y side keys limit → IsPermutation owed (mean g y side nothing) → is_past old.limit (length old.rows + length owed) e → IsRefusal g y limit side e
past_refused g y side keys limit old owed (TooManyRows l) begun bag past =
    let same : old.limit ≡ limit = ap (λ (b : Growing). b.limit) begun in
    let over : old.limit < length old.rows + length owed = past.1 in
    (past.0 ∙ same, omega (arith, over, same, ap (λ (b : Growing). length b.rows) begun, length-meaning g y side, length_permutation _ _ bag))
past_refused g y side keys limit old owed (Memory why) begun bag past = tt

-- what the pipeline spent that filled it
pub has_spent : (g : Graph) (y : Typed) (side : Plan) (begun ended : Rest) (s : Spent)
    → IsPermutation begun.owed (mean g y side nothing) → HasRun begun ended → s.chunks ≡ ended.chunks → s.columns ≡ columns_of y side → (os : List (Option Held)) → AreBuilds g y side os → length begun.keys ≡ key_count g y (rows_of y side os) side
    → HasSpentAll g y side s
has_spent g y side begun ended s bag run chunks columns os are keys =
    let long : length (meaning g y side) ≡ length begun.owed = length-meaning g y side ∙ length_permutation _ _ bag in
    record {
      spent = record {
        columns = columns;
        most = omega (arith, run.most, chunks, long);
        none = λ e. empty (meaning g y side) (long ∙ ap length (run.none (sym chunks ∙ e)));
      };
      one_each = each_told g y side os are begun.keys keys s (chunks ∙ run.keys);
    }
  where
    empty : {X : Type 0} (xs : List X) → length xs ≡ 0 → xs ≡ []
    empty [] e = refl
    empty (x ∷ xs) e = absurd (omega (arith, e))

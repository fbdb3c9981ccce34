-- The choices of a chunk are the walks of the key at which it stands, each with its positions in the whole lists.
use Rattle.std.proofs.Common.{◌≡◌, ◌⊎◌, inl, inr, ℕ, zero, suc, ◌+◌, ◌-◌, ◌*◌, ◌/◌, ◌%◌, ◌<◌, ◌≤◌, min, Bool, true, false, cond, ◌&&◌, nat_eq, Some, List, [], ◌∷◌, ◌++◌, map, filter, length, drop, get_or, slice_get, refl, sym, ap, ap₂, ◌∙◌, subst, arith}
use Rattle.std.specs.Prelude.{slice_index, slice_index_or}
use Rattle.std.specs.List.{range_with_len, flat_map, AllByRecursion}
use Rattle.std.proofs.lemmas.Bool.{cases_eq, eq-eqb, ne_eqb}
use Rattle.std.proofs.lemmas.List.{drop_more, drop_all, length-take, length-drop}
use Rattle.gq_bits.specs.declared.TheConstants.{VECTOR}
use Rattle.gq_bits.specs.Places.{is_marked}
use Rattle.gq_group.specs.Groups as group
use Rattle.gq_group.specs.Groups.{AreSelected, is_selected}
use Rattle.gq_group.specs.Pieces.{items_of}
use Rattle.gq_group.specs.declared.group.Group.{Group}
use Rattle.gq_plan.specs.declared.assignment.Assignment.{Assignment}
use Rattle.gq_search.specs.Layouts.{numbers_from, piece_of}
use Rattle.gq_search.specs.Running as walk
use Rattle.gq_search.specs.Running.{IsGroup, Runs, cursor_at, keys_of, no_cursor, prefix}
use Rattle.gq_search.specs.declared.walker.Cursor.{Cursor}
use Rattle.gq_search.proofs.Runs.{live-flat}
use Rattle.gq_pipe.specs.steps.Chunks.{AreStanding, HasGroup}
use Rattle.gq_steps.specs.Pieces.{list_of}
use Rattle.gq_steps.specs.Levels.{Run, step_at}
use Rattle.gq_steps.specs.steps.Lists.{layout_in, EarlierStand}
use Rattle.gq_steps.specs.Groups.{group_at}
use Rattle.gq_steps.specs.declared.group_steps.GroupSteps.{GroupSteps}
use Rattle.gq_pipe.proofs.Piecing.{group_here, list_size, flat_here, piece_inside}
use Rattle.gq_steps.proofs.Standings.{prefix_more}

-- ---- selected positions

-- one position among others
only_one : (sel : ℕ → Bool) (q a n : ℕ) → ((p : ℕ) → sel p ≡ nat_eq p q) → a ≤ q → q < a + n → filter sel (range_with_len a n) ≡ q ∷ []
only_one sel q a zero is low high = absurd (omega (arith, low, high))
only_one sel q a (suc n) is low high = go (cases_eq a q) (λ other. only_one sel q (a + 1) n is (omega (arith, low, other)) (omega (arith, high)))
  where
    none_behind : (b m : ℕ) → q < b → filter sel (range_with_len b m) ≡ []
    none_behind b zero less = refl
    none_behind b (suc m) less =
        let no_way : sel b ≡ false = is b ∙ ne_eqb b q (λ e. absurd (omega (arith, e, less))) in
        ap (λ t. cond t (b ∷ filter sel (range_with_len (b + 1) m)) (filter sel (range_with_len (b + 1) m))) no_way ∙ none_behind (b + 1) m (omega (arith, less))

    go : (a ≡ q) ⊎ (a ≡ q → ⊥) → ((a ≡ q → ⊥) → filter sel (range_with_len (a + 1) n) ≡ q ∷ []) → filter sel (range_with_len a (suc n)) ≡ q ∷ []
    go (inl e) more =
        ap (λ t. cond t (a ∷ filter sel (range_with_len (a + 1) n)) (filter sel (range_with_len (a + 1) n))) (is a ∙ eq-eqb a q e)
        ∙ ap (λ l. a ∷ l) (none_behind (a + 1) n (omega (arith, e))) ∙ ap (λ b. b ∷ []) e
    go (inr other) more =
        ap (λ t. cond t (a ∷ filter sel (range_with_len (a + 1) n)) (filter sel (range_with_len (a + 1) n))) (is a ∙ ne_eqb a q other) ∙ more other

-- positions, and their places in the whole list
shifted_filter : (q sel : ℕ → Bool) (first a n : ℕ) → ((p : ℕ) → a ≤ p → p < a + n → q (first + p) ≡ sel p) → filter q (numbers_from (first + a) n) ≡ map (λ p. first + p) (filter sel (range_with_len a n))
shifted_filter q sel first a zero same = refl
shifted_filter q sel first a (suc n) same =
    let next : first + a + 1 ≡ first + (a + 1) = omega arith in
    let more : filter q (numbers_from (first + a + 1) n) ≡ map (λ p. first + p) (filter sel (range_with_len (a + 1) n)) =
    ap (λ b. filter q (numbers_from b n)) next ∙ shifted_filter q sel first (a + 1) n (λ p low high. same p (omega (arith, low)) (omega (arith, high))) in
    ap (λ t. cond t ((first + a) ∷ filter q (numbers_from (first + a + 1) n)) (filter q (numbers_from (first + a + 1) n))) (same a (omega arith) (omega arith)) ∙ go (sel a) more
  where
    go : (b : Bool) → filter q (numbers_from (first + a + 1) n) ≡ map (λ p. first + p) (filter sel (range_with_len (a + 1) n))
        → cond b ((first + a) ∷ filter q (numbers_from (first + a + 1) n)) (filter q (numbers_from (first + a + 1) n)) ≡ map (λ p. first + p) (cond b (a ∷ filter sel (range_with_len (a + 1) n)) (filter sel (range_with_len (a + 1) n)))
    go true more = ap (λ l. (first + a) ∷ l) more
    go false more = more

both_same : (a b c : Bool) → a ≡ c → b ≡ c → (a && b) ≡ c
both_same a b c e f = ap₂ ◌&&◌ e f ∙ go c
  where
    go : (c : Bool) → (c && c) ≡ c
    go true = refl
    go false = refl

-- positions, from a group on, as places in the whole lists
abbrev pub shift : (ℕ → ℕ) → ℕ → List ℕ → List ℕ
shift f i [] = []
shift f i (p ∷ ps) = (f i + p) ∷ shift f (i + 1) ps

module _ (c : Run) (ss : List GroupSteps) (row : Assignment) (cs : List Cursor) (ms : List (List Bool)) (gs : List Group) (st : EarlierStand c ss row (keys_of cs)) (runs : Runs (layout_in c ss) [] cs ms) (many : length cs ≡ length ss)
    (marks : length ms ≡ length ss) (count : length gs ≡ length ss) (groups : AreStanding c ss row cs ms gs (length ss)) where
  -- where the piece of a group begins
  abbrev pub first_at : ℕ → ℕ
  first_at i = VECTOR * piece_of (group_at ss i).flat (cursor_at cs i).key

  module _ (i : ℕ) (low : i < length ss) where
    abbrev pub s : GroupSteps
    s = group_at ss i

    pub h : HasGroup c row s (cursor_at cs i) (slice_index_or ms i []) gs i
    h = groups i low

    r : IsGroup (layout_in c ss) (prefix cs i) (cursor_at cs i) (slice_index_or ms i [])
    r = group_here c ss row cs ms st runs many i low

    pub items_long : length (items_of h.group.piece) ≡ min VECTOR ((layout_in c ss).size (prefix cs i) - first_at i)
    items_long =
        ap length h.is.piece.items_are
        ∙ length-take VECTOR (drop (first_at i) (list_of c s.first row (step_at c s.first)))
        ∙ ap (min VECTOR) (length-drop (first_at i) (list_of c s.first row (step_at c s.first)) ∙ ap (λ n. n - first_at i) (list_size c ss row cs ms st runs many i low))

    -- the places that are selected are those of the selected positions
    pub selected_is : walk.selected ((layout_in c ss).flat (prefix cs i)) (cursor_at cs i) (slice_index_or ms i []) ≡ map (λ p. first_at i + p) (group.selected h.group)
    selected_is = ap (λ f. walk.selected f (cursor_at cs i) (slice_index_or ms i [])) (flat_here c ss row cs ms st runs many i low) ∙ go s.flat (flat_here c ss row cs ms st runs many i low) h.is.marks h.is.current items_long (piece_inside c ss row cs ms st runs many i low)
      where
        key : ℕ
        key = (cursor_at cs i).key

        m : List Bool
        m = slice_index_or ms i []

        size : ℕ
        size = (layout_in c ss).size (prefix cs i)

        go : (f : Bool) → (layout_in c ss).flat (prefix cs i) ≡ f → ((p : ℕ) → is_marked h.group.marks p ≡ Rattle.gq_pipe.specs.steps.Chunks.marked_at f key m p) → h.group.current ≡ Rattle.gq_pipe.specs.steps.Chunks.current_at f key
            → length (items_of h.group.piece) ≡ min VECTOR (size - VECTOR * piece_of f key) → VECTOR * piece_of f key < size
            → walk.selected f (cursor_at cs i) m ≡ map (λ p. VECTOR * piece_of f key + p) (group.selected h.group)
        go true flat marked current long inside =
            let within : key < size = subst (λ b. key < Rattle.gq_search.specs.Layouts.numbers_in b size) flat r.key_in in
            let on : get_or m (key % VECTOR) false ≡ true = live-flat (layout_in c ss) (prefix cs i) key m flat within (subst (λ b. Rattle.gq_search.specs.Marked.IsMarkedAt (layout_in c ss) (prefix cs i) (piece_of b key) m) flat r.marked) ∙ r.alive in
            let at : key ≡ VECTOR * (key / VECTOR) + key % VECTOR = omega arith in
            ap (λ b. cond b (key ∷ []) []) on ∙ ap (λ k. k ∷ []) at
            ∙ ap (map (λ p. VECTOR * (key / VECTOR) + p)) (sym (only_one (is_selected h.group) (key % VECTOR) 0 (length (items_of h.group.piece))
            (λ p. both_same (group.is_current h.group.current p) (is_marked h.group.marks p) (nat_eq p (key % VECTOR)) (ap (λ o. group.is_current o p) current) (marked p))
            (omega arith) (omega (arith, long, within))))
        go false flat marked current long inside =
            let z : VECTOR * key ≡ VECTOR * key + 0 = omega arith in
            let few = r.size_is in
            ap (λ n. filter (λ j. get_or m (j % VECTOR) false) (numbers_from (VECTOR * key) (min VECTOR (n - VECTOR * key)))) few
            ∙ ap (λ a. filter (λ j. get_or m (j % VECTOR) false) (numbers_from a (min VECTOR (size - VECTOR * key)))) z
            ∙ shifted_filter (λ j. get_or m (j % VECTOR) false) (is_selected h.group) (VECTOR * key) 0 (min VECTOR (size - VECTOR * key))
            (λ p above below. (let e : (VECTOR * key + p) % VECTOR ≡ p = omega (arith, below) in
            ap (λ k. get_or m k false) e ∙ sym (marked p) ∙ sym (ap (λ o. group.is_current o p && is_marked h.group.marks p) current)))
            ∙ ap (λ n. map (λ p. VECTOR * key + p) (filter (is_selected h.group) (range_with_len 0 n))) (sym long)

  -- ---- all choices

  drop_there : (xs : List Group) (i : ℕ) (g : Group) → slice_get xs i ≡ Some g → drop i xs ≡ g ∷ drop (i + 1) xs
  drop_there [] i g e = absurd (cc e)
  drop_there (x ∷ xs) zero g e = let same : x ≡ g = cc in ap (λ y. y ∷ xs) same
  drop_there (x ∷ xs) (suc i) g e = let f : suc (i + 1) ≡ suc i + 1 = omega arith in drop_there xs i g e ∙ ap (λ n. g ∷ drop n (x ∷ xs)) f

  -- one group in front of products
  fan : (f : ℕ → ℕ) (i : ℕ) (sel : List ℕ) (rest : List (List ℕ)) → flat_map (λ j. map (λ w. j ∷ w) (map (shift f (i + 1)) rest)) (map (λ p. f i + p) sel) ≡ map (shift f i) (flat_map (λ p. map (λ ps. p ∷ ps) rest) sel)
  fan f i [] rest = refl
  fan f i (p ∷ sel) rest =
      ap₂ ◌++◌ (inner rest) (fan f i sel rest) ∙ sym (map_both (map (λ ps. p ∷ ps) rest) (flat_map (λ p. map (λ ps. p ∷ ps) rest) sel))
    where
      inner : (rest : List (List ℕ)) → map (λ w. (f i + p) ∷ w) (map (shift f (i + 1)) rest) ≡ map (shift f i) (map (λ ps. p ∷ ps) rest)
      inner [] = refl
      inner (ps ∷ rest) = ap (λ l. ((f i + p) ∷ shift f (i + 1) ps) ∷ l) (inner rest)

      map_both : (xs ys : List (List ℕ)) → map (shift f i) (xs ++ ys) ≡ map (shift f i) xs ++ map (shift f i) ys
      map_both [] ys = refl
      map_both (x ∷ xs) ys = ap (λ l. shift f i x ∷ l) (map_both xs ys)

  choices_from : (n i : ℕ) → i + n ≡ length ss → walk.choices (layout_in c ss) (prefix cs i) (drop i cs) (drop i ms) ≡ map (shift first_at i) (group.choices (drop i gs))
  choices_from zero i at =
      ap₂ (walk.choices (layout_in c ss) (prefix cs i)) (drop_all i cs (omega (arith, at, many))) (drop_all i ms (omega (arith, at, marks)))
      ∙ ap (λ l. map (shift first_at i) (group.choices l)) (sym (drop_all i gs (omega (arith, at, count))))
  choices_from (suc n) i at =
      let low : i < length ss = omega (arith, at) in
      let g : Group = (h i low).group in
      let rest : List (List ℕ) = group.choices (drop (i + 1) gs) in
      ap₂ (walk.choices (layout_in c ss) (prefix cs i)) (drop_more cs i no_cursor (omega (arith, low, many))) (drop_more ms i [] (omega (arith, low, marks)))
      ∙ ap (λ p. flat_map (λ j. map (λ w. j ∷ w) (walk.choices (layout_in c ss) p (drop (i + 1) cs) (drop (i + 1) ms))) (walk.selected ((layout_in c ss).flat (prefix cs i)) (cursor_at cs i) (slice_index_or ms i []))) (sym (prefix_more cs i (omega (arith, low, many))))
      ∙ ap (λ l. flat_map (λ j. map (λ w. j ∷ w) l) (walk.selected ((layout_in c ss).flat (prefix cs i)) (cursor_at cs i) (slice_index_or ms i []))) (choices_from n (i + 1) (omega (arith, at)))
      ∙ ap (flat_map (λ j. map (λ w. j ∷ w) (map (shift first_at (i + 1)) rest))) (selected_is i low)
      ∙ fan first_at i (group.selected g) rest
      ∙ ap (λ l. map (shift first_at i) (group.choices l)) (sym (drop_there gs i g (h i low).there))

  -- the walks of the chunk that stands
  pub chunk_walks : walk.choices (layout_in c ss) [] cs ms ≡ map (shift first_at 0) (group.choices gs)
  chunk_walks = choices_from (length ss) 0 (let z : 0 + length ss ≡ length ss = omega arith in z)

-- ---- each choice has one selected position of each group

all_flat : {X Y : Type 0} (P : Y → Type 0) (f : X → List Y) (xs : List X) → AllByRecursion (λ x. AllByRecursion P (f x)) xs → AllByRecursion P (flat_map f xs)
all_flat P f [] all = tt
all_flat P f (x ∷ xs) all = both (f x) all.0 (all_flat P f xs all.1)
  where
    both : (ys : List _) → AllByRecursion P ys → AllByRecursion P (flat_map f xs) → AllByRecursion P (ys ++ flat_map f xs)
    both [] a b = b
    both (y ∷ ys) a b = (a.0, both ys a.1 b)

kept_ones : (sel : ℕ → Bool) (xs : List ℕ) → AllByRecursion (λ p. sel p ≡ true) (filter sel xs)
kept_ones sel [] = tt
kept_ones sel (x ∷ xs) = go (sel x) refl (kept_ones sel xs)
  where
    go : (b : Bool) → sel x ≡ b → AllByRecursion (λ p. sel p ≡ true) (filter sel xs) → AllByRecursion (λ p. sel p ≡ true) (cond b (x ∷ filter sel xs) (filter sel xs))
    go true e more = (e, more)
    go false e more = more

pub all_selected : (gs : List Group) → AllByRecursion (AreSelected gs) (group.choices gs)
all_selected [] = (tt, tt)
all_selected (g ∷ gs) = all_flat (AreSelected (g ∷ gs)) (λ p. map (λ ps. p ∷ ps) (group.choices gs)) (group.selected g) (each (all_selected gs) (group.selected g) (kept_ones (is_selected g) (range_with_len 0 (length (items_of g.piece)))))
  where
    put : (p : ℕ) → is_selected g p ≡ true → (l : List (List ℕ)) → AllByRecursion (AreSelected gs) l → AllByRecursion (AreSelected (g ∷ gs)) (map (λ ps. p ∷ ps) l)
    put p on [] all = tt
    put p on (ps ∷ l) all = ((on, all.0), put p on l all.1)

    each : AllByRecursion (AreSelected gs) (group.choices gs) → (xs : List ℕ) → AllByRecursion (λ p. is_selected g p ≡ true) xs → AllByRecursion (λ p. AllByRecursion (AreSelected (g ∷ gs)) (map (λ ps. p ∷ ps) (group.choices gs))) xs
    each more [] all = tt
    each more (p ∷ xs) all = (put p all.0 (group.choices gs) more, each more xs all.1)

pub same_on : {X Y : Type 0} (P : X → Type 0) (f h : X → Y) (xs : List X) → ((x : X) → P x → f x ≡ h x) → AllByRecursion P xs → map f xs ≡ map h xs
same_on P f h [] same all = refl
same_on P f h (x ∷ xs) same all = ap₂ ◌∷◌ (same x all.0) (same_on P f h xs same all.1)

pub shift_long : (f : ℕ → ℕ) (i : ℕ) (ps : List ℕ) → length (shift f i ps) ≡ length ps
shift_long f i [] = refl
shift_long f i (p ∷ ps) = ap suc (shift_long f (i + 1) ps)

pub shift_at : (f : ℕ → ℕ) (i : ℕ) (ps : List ℕ) (k : ℕ) → k < length ps → slice_index (shift f i ps) k ≡ f (i + k) + slice_index ps k
shift_at f i [] k low = absurd (omega (arith, low))
shift_at f i (p ∷ ps) zero low = let e : i ≡ i + 0 = omega arith in ap (λ n. f n + p) e
shift_at f i (p ∷ ps) (suc k) low = let e : i + 1 + k ≡ i + suc k = omega arith in shift_at f (i + 1) ps k (omega (arith, low)) ∙ ap (λ n. f n + slice_index ps k) e

pub as_many : (gs : List Group) (ps : List ℕ) → AreSelected gs ps → length ps ≡ length gs
as_many [] [] h = refl
as_many [] (p ∷ ps) h = absurd h
as_many (g ∷ gs) [] h = absurd h
as_many (g ∷ gs) (p ∷ ps) h = ap suc (as_many gs ps h.1)

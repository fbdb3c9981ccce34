-- The groups of the chunk that stands have the shape of the plan.
use Rattle.std.proofs.Common.{◌≡◌, ◌∙◌, ℕ, suc, ◌+◌, ◌<◌, Bool, true, false, cond, Some, None, List, [], ◌∷◌, ◌++◌, map, filter, length, get_or, slice_get, refl, sym, ap, ap₂, subst, arith, true≢false}
use Rattle.std.specs.List.{AllZip, range_with_len}
use Rattle.std.proofs.lemmas.List.{length-map, get_or-map}
use Rattle.std.proofs.lemmas.List.FromFn.{get_or-map-range_with_len, length-map-range_with_len}
use Rattle.gq_group.specs.declared.group.Group.{Group}
use Rattle.gq_group.specs.declared.piece.Piece.{Piece}
use Rattle.gq_group.specs.declared.piece.Piece.TheVariants as piece
use Rattle.gq_law_groups.specs.Groups.{makes_group}
use Rattle.gq_plan.specs.Arranged.{flags_of}
use Rattle.gq_plan.specs.Columns.{steps_of}
use Rattle.gq_plan.specs.Plans.{Plan, Done, Then, Step, Scan, Extend, Close, Join, Keep, Differ, NoLoop, Single, Meet}
use Rattle.gq_plan.specs.Shapes.{form_of, is_flat_group, next_group, places, shape_from, shape_with}
use Rattle.gq_plan.specs.declared.typed.Typed.{Typed}
use Rattle.gq_steps.specs.Pieces.{HasForm}
use Rattle.gq_pipe.specs.Shown.{HasShape, form_in, is_flat, shape_in}
use Rattle.gq_pipe.specs.steps.Chunks.{current_at}
use Rattle.gq_steps.specs.Levels.{Run, step_at}
use Rattle.gq_steps.specs.Groups.{no_group, group_at}
use Rattle.gq_steps.specs.declared.group_steps.GroupSteps.{GroupSteps}

-- ---- two lists, place by place

pub record HasItem {A : Type 0} (P : A → Type 0) (xs : List A) (i : ℕ) : Type 0 where
  pub item : A
  pub there : slice_get xs i ≡ Some item
  pub is : P item

pub zip_at : {A B : Type 0} (R : A → B → Type 0) (d : B) (xs : List A) (ys : List B) → length xs ≡ length ys → ((i : ℕ) → i < length ys → HasItem (λ x. R x (get_or ys i d)) xs i) → AllZip R xs ys
zip_at R d [] [] many each = tt
zip_at R d [] (y ∷ ys) many each = absurd (omega (arith, many))
zip_at R d (x ∷ xs) [] many each = absurd (omega (arith, many))
zip_at R d (x ∷ xs) (y ∷ ys) many each =
    let h = each 0 (omega arith) in
    let same : h.item ≡ x = cc h.there in (
      subst (λ z. R z y) same h.is,
      zip_at R d xs ys (omega (arith, many)) (λ i low. (let more = each (suc i) (omega (arith, low)) in record { item = more.item; there = more.there; is = more.is })),
    )

pub zip_mapped : {A B C : Type 0} (R : A → C → Type 0) (f : B → C) (xs : List A) (ys : List B) → AllZip (λ x y. R x (f y)) xs ys → AllZip R xs (map f ys)
zip_mapped R f [] [] h = tt
zip_mapped R f [] (y ∷ ys) h = absurd h
zip_mapped R f (x ∷ xs) [] h = absurd h
zip_mapped R f (x ∷ xs) (y ∷ ys) h = (h.0, zip_mapped R f xs ys h.1)

-- ---- the shape

form_told : (s : Step) (p : Piece) → makes_group s ≡ true → HasForm s p → form_of s ≡ Some (form_in p)
form_told (Scan v) (piece.Span low high) m h = refl
form_told (Scan v) (piece.List ids first) m h = absurd h
form_told (Scan v) (piece.Matches rows first) m h = absurd h
form_told (Extend column x from to way) (piece.Span low high) m h = absurd h
form_told (Extend true x from to way) (piece.List ids first) m h = absurd (true≢false (sym m))
form_told (Extend false x from to way) (piece.List ids first) m h = refl
form_told (Extend column x from to way) (piece.Matches rows first) m h = absurd h
form_told (Close column x from to way) (piece.Span low high) m h = absurd h
form_told (Close true x from to way) (piece.List ids first) m h = absurd (true≢false (sym m))
form_told (Close false x from to way) (piece.List ids first) m h = refl
form_told (Close column x from to way) (piece.Matches rows first) m h = absurd h
form_told (Join side keys) (piece.Span low high) m h = absurd h
form_told (Join side keys) (piece.List ids first) m h = absurd h
form_told (Join side keys) (piece.Matches rows first) m h = refl
form_told (Keep i) p m h = absurd (true≢false (sym m))
form_told (Differ d) p m h = absurd (true≢false (sym m))
form_told (NoLoop x) p m h = absurd (true≢false (sym m))
form_told (Single x from to way) p m h = absurd (true≢false (sym m))
form_told (Meet x from to way) p m h = absurd (true≢false (sym m))

form_none : (s : Step) → makes_group s ≡ false → form_of s ≡ None
form_none (Scan v) m = absurd (true≢false m)
form_none (Extend true x from to way) m = refl
form_none (Extend false x from to way) m = absurd (true≢false m)
form_none (Close true x from to way) m = refl
form_none (Close false x from to way) m = absurd (true≢false m)
form_none (Join side keys) m = absurd (true≢false m)
form_none (Keep i) m = refl
form_none (Differ d) m = refl
form_none (NoLoop x) m = refl
form_none (Single x from to way) m = refl
form_none (Meet x from to way) m = refl

flat_told : (f : Bool) (key : ℕ) → is_flat (current_at f key) ≡ f
flat_told true key = refl
flat_told false key = refl

-- a group has the form of the step that makes it
abbrev HasOwnForm : Group → Step → Type 0
HasOwnForm x s = form_of s ≡ Some (form_in x.piece)

abbrev AreFlatAs : (ℕ → Bool) → ℕ → List Group → Type 0
AreFlatAs f i [] = Unit {0}
AreFlatAs f i (x ∷ xs) = (is_flat x.current ≡ f i) × AreFlatAs f (i + 1) xs

shape_made : (f : ℕ → Bool) (p : Plan) (i : ℕ) (xs : List Group) → AllZip HasOwnForm xs (filter makes_group (steps_of p)) → AreFlatAs f i xs → shape_in xs ≡ shape_from f i p
unfolding shape_from
shape_made f Done i [] forms flats = refl
shape_made f Done i (x ∷ xs) forms flats = absurd forms
shape_made f (Then s q) i xs forms flats = go (makes_group s) refl (λ j ys own even. shape_made f q j ys own even) xs forms flats
  where
    go : (b : Bool) → makes_group s ≡ b → ((j : ℕ) (ys : List Group) → AllZip HasOwnForm ys (filter makes_group (steps_of q)) → AreFlatAs f j ys → shape_in ys ≡ shape_from f j q) → (xs : List Group) → AllZip HasOwnForm xs (cond b (s ∷ filter makes_group (steps_of q)) (filter makes_group (steps_of q))) → AreFlatAs f i xs
        → shape_in xs ≡ shape_with f i (form_of s) ++ shape_from f (next_group i (form_of s)) q
    go true e more [] forms flats = absurd forms
    go true e more (x ∷ xs) forms flats =
        ap₂ (λ b l. record { form = form_in x.piece; flat = b } ∷ l) flats.0 (more (i + 1) xs forms.1 flats.1)
        ∙ sym (ap (λ o. shape_with f i o ++ shape_from f (next_group i o) q) forms.0)
    go false e more xs forms flats = more i xs forms flats ∙ sym (ap (λ o. shape_with f i o ++ shape_from f (next_group i o) q) (form_none s e))

-- a group that stands where its steps make it
pub record IsMadeBy (c : Run) (x : Group) (t : GroupSteps) : Type 0 where
  pub form : HasForm (step_at c t.first) x.piece
  pub makes : makes_group (step_at c t.first) ≡ true
  pub key : ℕ
  pub current : x.current ≡ current_at t.flat key

module _ (c : Run) where
  own_forms : (xs : List Group) (ts : List GroupSteps) → AllZip (IsMadeBy c) xs ts → AllZip HasOwnForm xs (map (λ (t : GroupSteps). step_at c t.first) ts)
  own_forms [] [] h = tt
  own_forms [] (t ∷ ts) h = absurd h
  own_forms (x ∷ xs) [] h = absurd h
  own_forms (x ∷ xs) (t ∷ ts) h = (form_told (step_at c t.first) x.piece h.0.makes h.0.form, own_forms xs ts h.1)

  own_flats : (f : ℕ → Bool) (i : ℕ) (xs : List Group) (ts : List GroupSteps) → AllZip (IsMadeBy c) xs ts → ((j : ℕ) → j < length ts → (group_at ts j).flat ≡ f (i + j)) → AreFlatAs f i xs
  own_flats f i [] [] h told = tt
  own_flats f i [] (t ∷ ts) h told = absurd h
  own_flats f i (x ∷ xs) [] h told = absurd h
  own_flats f i (x ∷ xs) (t ∷ ts) h told = (
    ap is_flat h.0.current ∙ flat_told t.flat h.0.key ∙ told 0 (omega arith) ∙ (let z : i + 0 ≡ i = omega arith in ap f z),
    own_flats f (i + 1) xs ts h.1 (λ j low. told (suc j) (omega (arith, low)) ∙ (let e : i + suc j ≡ i + 1 + j = omega arith in ap f e)),
  )

  pub has_shape : (y : Typed) (p : Plan) (xs : List Group) (ts : List GroupSteps) → AllZip (IsMadeBy c) xs ts → filter makes_group (steps_of p) ≡ map (λ (t : GroupSteps). step_at c t.first) ts
      → map (λ (t : GroupSteps). t.flat) ts ≡ flags_of y p → HasShape y p xs
  has_shape y p xs ts made steps flats = record { groups = shape_made (is_flat_group y p) p 0 xs (subst (AllZip HasOwnForm xs) (sym steps) (own_forms xs ts made)) (own_flats (is_flat_group y p) 0 xs ts made told) }
    where
      told : (j : ℕ) → j < length ts → (group_at ts j).flat ≡ is_flat_group y p (0 + j)
      told j low =
          let many : length (map (λ (t : GroupSteps). t.flat) ts) ≡ (places p).count = ap length flats ∙ length-map-range_with_len (is_flat_group y p) 0 (places p).count in
          let long = length-map ts (λ (t : GroupSteps). t.flat) in
          sym (get_or-map (λ (t : GroupSteps). t.flat) ts j no_group false low) ∙ ap (λ l. get_or l j false) flats
          ∙ get_or-map-range_with_len (is_flat_group y p) 0 (places p).count j (0 + j) false (omega (arith, low, many, long)) refl

-- the flags of groups, as they were told
pub flats_told : (ss : List GroupSteps) (f : ℕ → Bool) → ((i : ℕ) → i < length ss → (group_at ss i).flat ≡ f i) → map (λ (s : GroupSteps). s.flat) ss ≡ map f (range_with_len 0 (length ss))
flats_told ss f told = from ss 0 (λ i low. told i low ∙ (let z : i ≡ 0 + i = omega arith in ap f z))
  where
    from : (ts : List GroupSteps) (a : ℕ) → ((i : ℕ) → i < length ts → (group_at ts i).flat ≡ f (a + i)) → map (λ (s : GroupSteps). s.flat) ts ≡ map f (range_with_len a (length ts))
    from [] a same = refl
    from (t ∷ ts) a same =
        let z : a + 0 ≡ a = omega arith in
        ap (λ b. b ∷ map (λ (s : GroupSteps). s.flat) ts) (same 0 (omega arith) ∙ ap f z)
        ∙ ap (λ l. f a ∷ l) (from ts (a + 1) (λ i low. same (suc i) (omega (arith, low)) ∙ (let e : a + suc i ≡ a + 1 + i = omega arith in ap f e)))

-- The steps of a search and what they add.
use Rattle.std.proofs.Common.{◌≡◌, ℕ, zero, suc, ◌-◌, ◌<◌, ◌≤◌, true, Option, Some, None, List, [], ◌∷◌, ◌++◌, length, take, drop, get_or, map, filter, flat_map, slice_get, slice_set, if◌then◌else◌, refl, sym, ap, ap₂, ◌∙◌, arith, append-nil, append_assoc, length-append}
use Rattle.std.proofs.lemmas.List.{take-append-le, take_all, map-append}
use Rattle.gq_base.specs.Catalogs.{Tables}
use Rattle.gq_alternatives.specs.Alternatives.{Reading, Choice}
use Rattle.gq_alternatives.specs.Candidates.{Step}
use Rattle.gq_choices.specs.steps.Searching.{Found, adding, following, searched, filled, may_be, admits, knowing, taking}
use Rattle.gq_alternatives.proofs.Searches.{flat_map_filtered}

module _ {X : Type 0} where
  pub cons_read : (xs : List X) (x : X) → 1 ≤ length xs → x ≡ get_or xs 0 x → xs ≡ x ∷ take (length xs - 1) (drop 1 xs)
  cons_read [] x low is = absurd (omega arith)
  cons_read (z ∷ zs) x low is = ap₂ ◌∷◌ (sym is) (sym (take_all (length (z ∷ zs) - 1) zs (omega arith)))

  pub nil_read : (xs : List X) → length xs < 1 → xs ≡ []
  nil_read [] low = refl
  nil_read (x ∷ xs) low = absurd (omega arith)

  drop_past : (xs : List X) (n : ℕ) → slice_get xs n ≡ None → drop n xs ≡ []
  drop_past [] zero e = refl
  drop_past [] (suc n) e = refl
  drop_past (x ∷ xs) zero e = cc
  drop_past (x ∷ xs) (suc n) e = drop_past xs n e

  drop_here : (xs : List X) (n : ℕ) (x : X) → slice_get xs n ≡ Some x → drop n xs ≡ x ∷ drop (suc n) xs
  drop_here [] n x e = cc
  drop_here (z ∷ zs) zero x e = let is : z ≡ x = cc in ap (λ y. y ∷ zs) is
  drop_here (z ∷ zs) (suc n) x e = drop_here zs n x e

  pub put_back : (xs : List X) (n : ℕ) (x y : X) → slice_get xs n ≡ Some x → slice_set (slice_set xs n y) n x ≡ xs
  put_back [] n x y e = refl
  put_back (z ∷ zs) zero x y e = let is : z ≡ x = cc in ap (λ w. w ∷ zs) (sym is)
  put_back (z ∷ zs) (suc n) x y e = ap (λ ws. z ∷ ws) (put_back zs n x y e)

  pub pop_last : (xs : List X) (x : X) → take (length (xs ++ x ∷ []) - 1) (xs ++ x ∷ []) ≡ xs
  pop_last xs x =
      let long : length (xs ++ x ∷ []) - 1 ≡ length xs = omega (arith, length-append xs (x ∷ [])) in
      ap (λ n. take n (xs ++ x ∷ [])) long ∙ take-append-le (length xs) xs (x ∷ []) (omega arith) ∙ take_all (length xs) xs (omega arith)

map_map : {X Y Z : Type 0} (f : Y → Z) (g : X → Y) (xs : List X) → map f (map g xs) ≡ map (λ x. f (g x)) xs
map_map f g [] = refl
map_map f g (x ∷ xs) = ap (λ ys. f (g x) ∷ ys) (map_map f g xs)

map_flat_map : {X Y Z : Type 0} (f : Y → Z) (g : X → List Y) (xs : List X) → map f (flat_map g xs) ≡ flat_map (λ x. map f (g x)) xs
map_flat_map f g [] = refl
map_flat_map f g (x ∷ xs) = map-append f (g x) (flat_map g xs) ∙ ap (λ ys. map f (g x) ++ ys) (map_flat_map f g xs)

module _ (known : List (Option ℕ)) (readings : List Reading) (tables : List ℕ) where
  abbrev with : List ℕ → Choice
  with ts = record { readings = readings; tables = tables ++ ts }

  pub fill_all : (lists : List (List ℕ)) → length lists < 1 → record { readings = readings; tables = tables } ∷ [] ≡ map with (filled (drop (length tables) known) lists)
  unfolding filled
  fill_all lists low = ap (λ ts. let c : Choice = record { readings = readings; tables = ts } in c ∷ []) (sym (append-nil tables)) ∙ ap (λ ls. map with (filled (drop (length tables) known) ls)) (sym (nil_read lists low))

  pub fill_none : (lists : List (List ℕ)) (xs : List ℕ) → 1 ≤ length lists → xs ≡ get_or lists 0 xs → slice_get known (length tables) ≡ None → [] ≡ map with (filled (drop (length tables) known) lists)
  unfolding filled
  fill_none lists xs low is none = sym (ap₂ (λ ks ls. map with (filled ks ls)) (drop_past known (length tables) none) (cons_read lists xs low is))

  pub fill_some : (lists : List (List ℕ)) (xs : List ℕ) (k : Option ℕ) → 1 ≤ length lists → xs ≡ get_or lists 0 xs → slice_get known (length tables) ≡ Some k
      → flat_map (λ t. taking known readings tables (take (length lists - 1) (drop 1 lists)) k t) xs ≡ map with (filled (drop (length tables) known) lists)
  unfolding filled
  fill_some lists xs k low is some =
      let left : List (List ℕ) = filled (drop (suc (length tables)) known) (take (length lists - 1) (drop 1 lists)) in
      flat_map_filtered (may_be k) (λ t. taking known readings tables (take (length lists - 1) (drop 1 lists)) k t) (λ t. map with (map (λ l. t ∷ l) left))
      (λ t e. ap (λ b. if b then map (λ ts. let c : Choice = record { readings = readings; tables = (tables ++ t ∷ []) ++ ts } in c) left else []) e
      ∙ ap (λ f. map f left) (λ i ts. record { readings = readings; tables = append_assoc tables (t ∷ []) ts i }) ∙ sym (map_map with (λ l. t ∷ l) left))
      (λ t e. ap (λ b. if b then map (λ ts. let c : Choice = record { readings = readings; tables = (tables ++ t ∷ []) ++ ts } in c) left else []) e) xs
      ∙ sym (map_flat_map with (λ t. map (λ l. t ∷ l) left) (filter (may_be k) xs))
      ∙ sym (ap₂ (λ ks ls. map with (filled ks ls)) (drop_here known (length tables) k some) (cons_read lists xs low is))

-- ---- a step, what it adds, and the way back

module _ (most : ℕ) (go : Found → List Choice) (s f1 f2 f3 : Found) where
  pub reading_back : (c : Reading) → f1 ≡ record s { readings = s.readings ++ c ∷ [] } → f2 ≡ adding most (go f1) f1 → f3 ≡ record f2 { readings = take (length f2.readings - 1) f2.readings }
      → f3 ≡ adding most (go (record s { readings = s.readings ++ c ∷ [] })) s
  reading_back c e1 e2 e3 =
      let back : Found → Found = λ f. record f { readings = take (length f.readings - 1) f.readings } in
      let next : Found = record s { readings = s.readings ++ c ∷ [] } in
      e3 ∙ ap back e2 ∙ ap (λ f. back (adding most (go f) f)) e1 ∙ (λ i. record (adding most (go next) s) { readings = pop_last s.readings c i })

  pub table_back : (t : ℕ) → f1 ≡ record s { tables = s.tables ++ t ∷ [] } → f2 ≡ adding most (go f1) f1 → f3 ≡ record f2 { tables = take (length f2.tables - 1) f2.tables }
      → f3 ≡ adding most (go (record s { tables = s.tables ++ t ∷ [] })) s
  table_back t e1 e2 e3 =
      let back : Found → Found = λ f. record f { tables = take (length f.tables - 1) f.tables } in
      let next : Found = record s { tables = s.tables ++ t ∷ [] } in
      e3 ∙ ap back e2 ∙ ap (λ f. back (adding most (go f) f)) e1 ∙ (λ i. record (adding most (go next) s) { tables = pop_last s.tables t i })

  pub known_back : (v : ℕ) (x b : Option ℕ) → slice_get s.known v ≡ Some b → f1 ≡ record s { known = slice_set s.known v x } → f2 ≡ adding most (go f1) f1 → f3 ≡ record f2 { known = slice_set f2.known v b }
      → f3 ≡ adding most (go (record s { known = slice_set s.known v x })) s
  known_back v x b was e1 e2 e3 =
      let back : Found → Found = λ f. record f { known = slice_set f.known v b } in
      let next : Found = record s { known = slice_set s.known v x } in
      e3 ∙ ap back e2 ∙ ap (λ f. back (adding most (go f) f)) e1 ∙ (λ i. record (adding most (go next) s) { known = put_back s.known v b x was i })

-- a table that may be
pub table_taken : (known : List (Option ℕ)) (readings : List Reading) (tables : List ℕ) (lists : List (List ℕ)) (k : Option ℕ) (t : ℕ) → may_be k t ≡ true
    → map (λ ts. record { readings = readings; tables = (tables ++ t ∷ []) ++ ts }) (filled (drop (length (tables ++ t ∷ [])) known) lists) ≡ taking known readings tables lists k t
table_taken known readings tables lists k t e =
    let whole : List ℕ → Choice = λ ts. record { readings = readings; tables = (tables ++ t ∷ []) ++ ts } in
    let long : length (tables ++ t ∷ []) ≡ suc (length tables) = omega (arith, length-append tables (t ∷ [])) in
    ap (λ n. map whole (filled (drop n known) lists)) long
    ∙ sym (ap (λ b. if b then map whole (filled (drop (suc (length tables)) known) lists) else []) e)

pub known_taken : (v t : ℕ) (known : List (Option ℕ)) (b : Option ℕ) (go : List (Option ℕ) → List Choice) → slice_get known v ≡ Some b → may_be b t ≡ true → go (slice_set known v (Some t)) ≡ knowing v t known go
known_taken v t known b go was may = sym (ap (λ o. if admits o t then go (slice_set known v (Some t)) else []) was ∙ ap (λ c. if c then go (slice_set known v (Some t)) else []) may)

module _ (catalog : Tables) (lists : List (List ℕ)) (known : List (Option ℕ)) (readings : List Reading) where
  pub search_all : (steps : List Step) (tables : List ℕ) → length steps < 1 → tables ≡ []
      → map (λ ts. let c : Choice = record { readings = readings; tables = tables ++ ts } in c) (filled (drop (length tables) known) lists) ≡ searched catalog lists steps known readings
  unfolding searched
  search_all steps tables low begun =
      ap (λ us. map (λ ts. let c : Choice = record { readings = readings; tables = us ++ ts } in c) (filled (drop (length us) known) lists)) begun
      ∙ ap (λ ss. searched catalog lists ss known readings) (sym (nil_read steps low))

  pub search_some : (steps : List Step) (s : Step) → 1 ≤ length steps → s ≡ get_or steps 0 s
      → flat_map (λ c. following catalog lists (take (length steps - 1) (drop 1 steps)) s.pattern known readings c) s.readings ≡ searched catalog lists steps known readings
  unfolding searched
  search_some steps s low is = ap (λ ss. searched catalog lists ss known readings) (sym (cons_read steps s low is))

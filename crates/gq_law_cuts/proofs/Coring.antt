-- Patterns that are read with their paths cut at trails, numbered with the core's variables first: these are the first, relationships
-- without star join them, and each other variable is an end of a trail.
use Rattle.std.proofs.Common.{◌≡◌, ℕ, zero, suc, ◌<◌, ◌≤◌, Bool, true, false, ◌&&◌, ◌||◌, cond, nat_eq, nat_lt, Option, Some, None, List, [], ◌∷◌, ◌++◌, map, flat_map, length, slice_get, ◌⊎◌, inl, inr, refl, sym, ap, ap₂, ◌∙◌, subst, arith, true≢false}
use Rattle.std.specs.List.{AllByRecursion, list_any, range_with_len}
use Rattle.std.specs.Option.{option_map}
use Rattle.std.proofs.lemmas.Bool.{and_parts, cases_eq, eq-eqb, eqb-true, le-ltb, ne_eqb, or_cases, or_left, or_right}
use Rattle.std.proofs.lemmas.Bool.Decides.{nat_tests}
use Rattle.std.proofs.lemmas.List.{length-map, map-append}
use Rattle.std.proofs.lemmas.List.Folds.{list_any-append}
use Rattle.std.proofs.lemmas.Option.{slice_get-map, slice_get_within}
use Rattle.gq_alternatives.proofs.Shapes.{linked, path_ends, rights_of, walk}
use Rattle.gq_alternatives.proofs.ShapesOfPatterns.{all_ends, ends_of}
use Rattle.gq_plan.proofs.Each.{each_append, each_flat_map, each_map, each_then}
use Rattle.gq_plan.specs.Soundness.{has_number}
use Rattle.gq_plan.specs.declared.PathPart.{PathPart}
use Rattle.gq_plan.specs.declared.variable.Variable.{Variable}
use Rattle.gq_plan.specs.declared.variable.Variable.TheVariants.{Node as node, Rel as rel}
use Rattle.gq_scopes.specs.Patterns.{MapEntry, NodePattern, Pattern, RelPattern}
use Rattle.gq_scopes.specs.steps.Variables.{IsThere}
use Rattle.gq_law_reaches.specs.Core.{core_nodes, first_core, from_first, grown, joined_nodes, right_at}
use Rattle.gq_law_reaches.specs.Cores.{IsCored, is_end}
use Rattle.gq_law_reaches.specs.Reaches.{TrailPattern, Trailed}
use Rattle.gq_law_reaches.proofs.Orders.{grown_keeps}
use Rattle.gq_law_cuts.specs.Cuts.{CutsAreCored, core_first, core_size, cored_of, numbered_in, pattern_in, trailed_of, variable_in}
use Rattle.gq_scopes.specs.Renumbering.{placed_in}
use Rattle.gq_law_cuts.proofs.Ordering.{first_is, firsts_few, has_filter, order_length, placed_apart, placed_first, placed_onto, range_has}
use Rattle.gq_law_cuts.proofs.Reading.{IsRead, has_items, is_met, trailed_read}

-- ---- lists

each_got : {X : Type 0} (P : X → Type 0) (xs : List X) (i : ℕ) (x : X) → AllByRecursion P xs → slice_get xs i ≡ Some x → P x
each_got P [] i x h e = absurd (cc e)
each_got P (y ∷ xs) zero x h e = let same : y ≡ x = cc in subst P same h.0
each_got P (y ∷ xs) (suc i) x h e = each_got P xs i x h.1 e

each_by_number : {X : Type 0} (P : X → Type 0) (xs : List X) → ((i : ℕ) (x : X) → slice_get xs i ≡ Some x → P x) → AllByRecursion P xs
each_by_number P [] h = tt
each_by_number P (x ∷ xs) h = (h 0 x refl, each_by_number P xs (λ i y e. h (suc i) y e))

both_then : {X : Type 0} (P Q R : X → Type 0) → ((x : X) → P x → Q x → R x) → (xs : List X) → AllByRecursion P xs → AllByRecursion Q xs → AllByRecursion R xs
both_then P Q R step [] h k = tt
both_then P Q R step (x ∷ xs) h k = (step x h.0 k.0, both_then P Q R step xs h.1 k.1)

-- ---- the core's variables, as they are read

module _ (p : Pattern) where
  -- the variables at the right of relationships
  abbrev rights : List ℕ → List ℕ
  rights ys = flat_map (λ y. right_at (slice_get p.rels y)) ys

  walk_rights : (ys : List ℕ) → rights_of (map (slice_get (all_ends p)) ys) ≡ rights ys
  walk_rights [] = refl
  walk_rights (y ∷ ys) = ap (λ o. rights_of (o ∷ map (slice_get (all_ends p)) ys)) (slice_get-map ends_of p.rels y) ∙ go (slice_get p.rels y) (walk_rights ys)
    where
      go : (o : Option RelPattern) → rights_of (map (slice_get (all_ends p)) ys) ≡ rights ys → rights_of (option_map ends_of o ∷ map (slice_get (all_ends p)) ys) ≡ right_at o ++ rights ys
      go None more = more
      go (Some r) more = ap (λ l. r.right ∷ l) more

  -- a relationship of joined ones has its ends among theirs
  module _ (x : ℕ) (r : RelPattern) (is : slice_get p.rels x ≡ Some r) where
    abbrev BothIn : List ℕ → Type 0
    BothIn vs = (has_number vs r.left ≡ true) × (has_number vs r.right ≡ true)

    behind_one : (v : ℕ) (vs : List ℕ) → BothIn vs → BothIn (v ∷ vs)
    behind_one v vs h = (or_right (nat_eq r.left v) (has_number vs r.left) h.0, or_right (nat_eq r.right v) (has_number vs r.right) h.1)

    ends_joined : (ys : List ℕ) (at : ℕ) → linked at (map (slice_get (all_ends p)) ys) ≡ true → has_number ys x ≡ true → BothIn (at ∷ rights ys)
    ends_joined [] at joins has = absurd (true≢false (sym has))
    ends_joined (y ∷ ys) at joins has =
        go (slice_get p.rels y) refl (sym (ap (λ o. linked at (o ∷ map (slice_get (all_ends p)) ys)) (slice_get-map ends_of p.rels y)) ∙ joins) (cases_eq x y)
        (λ to h. ends_joined ys to h)
      where
        go : (o : Option RelPattern) → slice_get p.rels y ≡ o → linked at (option_map ends_of o ∷ map (slice_get (all_ends p)) ys) ≡ true → (x ≡ y) ⊎ (x ≡ y → ⊥)
            → ((to : ℕ) → linked to (map (slice_get (all_ends p)) ys) ≡ true → has_number ys x ≡ true → BothIn (to ∷ rights ys))
            → BothIn (at ∷ (right_at o ++ rights ys))
        go None e joins same more = absurd (true≢false (sym joins))
        go (Some s) e joins (inl same) more =
            let there : Some s ≡ Some r = sym e ∙ ap (slice_get p.rels) (sym same) ∙ is in
            let this : s ≡ r = cc in
            let left : nat_eq s.left at ≡ true = (and_parts (nat_eq s.left at) (linked s.right (map (slice_get (all_ends p)) ys)) joins).0 in
            subst (λ z. BothIn (at ∷ z.right ∷ rights ys)) (sym this) (
              or_left (nat_eq r.left at) (has_number (r.right ∷ rights ys) r.left) (ap (λ z. nat_eq z.left at) (sym this) ∙ left),
              or_right (nat_eq r.right at) (has_number (r.right ∷ rights ys) r.right) (or_left (nat_eq r.right r.right) (has_number (rights ys) r.right) (eq-eqb r.right r.right refl)),
            )
        go (Some s) e joins (inr other) more =
            behind_one at (s.right ∷ rights ys)
            (more s.right (and_parts (nat_eq s.left at) (linked s.right (map (slice_get (all_ends p)) ys)) joins).1 (sym (ap (λ b. b || has_number ys x) (ne_eqb x y other)) ∙ has))

    from_joined : (ys : List ℕ) (at : ℕ) → linked at (map (slice_get (all_ends p)) ys) ≡ true → has_number ys x ≡ true → BothIn (from_first at ys p.rels)
    from_joined [] at joins has = absurd (true≢false (sym has))
    from_joined (y ∷ ys) at joins has = ends_joined (y ∷ ys) at joins has

    wide_left : (vs us : List ℕ) → BothIn vs → BothIn (vs ++ us)
    wide_left vs us h = (
      list_any-append (nat_eq r.left) vs us ∙ or_left (has_number vs r.left) (has_number us r.left) h.0,
      list_any-append (nat_eq r.right) vs us ∙ or_left (has_number vs r.right) (has_number us r.right) h.1,
    )

    wide_right : (vs us : List ℕ) → BothIn us → BothIn (vs ++ us)
    wide_right vs us h = (
      list_any-append (nat_eq r.left) vs us ∙ or_right (has_number vs r.left) (has_number us r.left) h.0,
      list_any-append (nat_eq r.right) vs us ∙ or_right (has_number vs r.right) (has_number us r.right) h.1,
    )

    in_pieces : (xs : List PathPart) → AllByRecursion (λ (z : PathPart). linked z.first (path_ends (all_ends p) z) ≡ true) xs → has_number (flat_map (λ (z : PathPart). z.rels) xs) x ≡ true
        → BothIn (flat_map (joined_nodes p) xs)
    in_pieces [] joins has = absurd (true≢false (sym has))
    in_pieces (z ∷ xs) joins has = go (or_cases (has_number z.rels x) (has_number (flat_map (λ (z : PathPart). z.rels) xs) x) (sym (list_any-append (nat_eq x) z.rels (flat_map (λ (z : PathPart). z.rels) xs)) ∙ has)) (in_pieces xs joins.1)
      where
        go : (has_number z.rels x ≡ true) ⊎ (has_number (flat_map (λ (z : PathPart). z.rels) xs) x ≡ true) → (has_number (flat_map (λ (z : PathPart). z.rels) xs) x ≡ true → BothIn (flat_map (joined_nodes p) xs))
            → BothIn (joined_nodes p z ++ flat_map (joined_nodes p) xs)
        go (inl here) more = wide_left (joined_nodes p z) (flat_map (joined_nodes p) xs) (from_joined z.rels z.first joins.0 here)
        go (inr later) more = wide_right (joined_nodes p z) (flat_map (joined_nodes p) xs) (more later)

  -- a variable of a piece is one of those with relationships, or of a whole path, or an end of a trail
  module _ (v : ℕ) (vs : List ℕ) (ws : List TrailPattern) where
    abbrev IsSome : Bool → Type 0
    IsSome b = ((b || has_number vs v) || list_any (is_end v) ws) ≡ true

    with_first : (a b : Bool) → a ≡ true → IsSome (a || b)
    with_first true b e = refl
    with_first false b e = absurd (true≢false (sym e))

    with_rest : (a b : Bool) → IsSome b → IsSome (a || b)
    with_rest true b h = refl
    with_rest false b h = h

    met_so : (b c d : Bool) → (c || d) ≡ true → ((b || c) || d) ≡ true
    met_so true c d h = refl
    met_so false c d h = h

    one_piece : (ys : List ℕ) (first : ℕ) → is_met vs ws (record { first = first; rels = ys }) ≡ true → has_number (first ∷ rights_of (map (slice_get (all_ends p)) ys)) v ≡ true
        → (rest : Bool) → IsSome (has_number (from_first first ys p.rels) v || rest)
    one_piece [] first met has rest =
        let same : v ≡ first = eqb-true v first (either (nat_eq v first) has) in
        met_so rest (has_number vs v) (list_any (is_end v) ws) (subst (λ u. (has_number vs u || list_any (is_end u) ws) ≡ true) (sym same) met)
      where
        either : (b : Bool) → (b || false) ≡ true → b ≡ true
        either true h = refl
        either false h = h
    one_piece (y ∷ ys) first met has rest =
        with_first (has_number (first ∷ rights (y ∷ ys)) v) rest (ap (λ l. has_number (first ∷ l) v) (sym (walk_rights (y ∷ ys))) ∙ has)

    some_piece : (xs : List PathPart) → AllByRecursion (λ (z : PathPart). is_met vs ws z ≡ true) xs → has_number (flat_map (walk (all_ends p)) xs) v ≡ true → IsSome (has_number (flat_map (joined_nodes p) xs) v)
    some_piece [] met has = absurd (true≢false (sym has))
    some_piece (z ∷ xs) met has =
        subst IsSome (sym (list_any-append (nat_eq v) (joined_nodes p z) (flat_map (joined_nodes p) xs)))
        (go (or_cases (has_number (walk (all_ends p) z) v) (has_number (flat_map (walk (all_ends p)) xs) v) (sym (list_any-append (nat_eq v) (walk (all_ends p) z) (flat_map (walk (all_ends p)) xs)) ∙ has)) (some_piece xs met.1))
      where
        go : (has_number (walk (all_ends p) z) v ≡ true) ⊎ (has_number (flat_map (walk (all_ends p)) xs) v ≡ true) → (has_number (flat_map (walk (all_ends p)) xs) v ≡ true → IsSome (has_number (flat_map (joined_nodes p) xs) v))
            → IsSome (has_number (joined_nodes p z) v || has_number (flat_map (joined_nodes p) xs) v)
        go (inl here) more = one_piece z.rels z.first met.0 here (has_number (flat_map (joined_nodes p) xs) v)
        go (inr later) more = with_rest (has_number (joined_nodes p z) v) (has_number (flat_map (joined_nodes p) xs) v) (more later)

-- ---- numbers changed alike

module _ (f : ℕ → ℕ) (n : ℕ) (apart : (v w : ℕ) → v < n → w < n → f v ≡ f w → v ≡ w) where
  abbrev Below : List ℕ → Type 0
  Below vs = AllByRecursion (λ v. v < n) vs

  same_alike : (v w : ℕ) → v < n → w < n → nat_eq (f v) (f w) ≡ nat_eq v w
  same_alike v w low below = go (cases_eq v w)
    where
      go : (v ≡ w) ⊎ (v ≡ w → ⊥) → nat_eq (f v) (f w) ≡ nat_eq v w
      go (inl e) = eq-eqb (f v) (f w) (ap f e) ∙ sym (eq-eqb v w e)
      go (inr other) = ne_eqb (f v) (f w) (λ e. other (apart v w low below e)) ∙ sym (ne_eqb v w other)

  pub has_alike : (vs : List ℕ) (v : ℕ) → v < n → Below vs → has_number (map f vs) (f v) ≡ has_number vs v
  has_alike [] v low below = refl
  has_alike (w ∷ vs) v low below = ap₂ ◌||◌ (same_alike v w low below.0) (has_alike vs v low below.1)

  abbrev turn : TrailPattern → TrailPattern
  turn t = record t { left = f t.left; right = f t.right }

  abbrev EndsBelow : List TrailPattern → Type 0
  EndsBelow ws = AllByRecursion (λ (w : TrailPattern). (w.left < n) × (w.right < n)) ws

  pub grown_alike : (ws : List TrailPattern) (core bound : List ℕ) → EndsBelow ws → Below bound → grown (map f core) (map f bound) (map turn ws) ≡ map f (grown core bound ws)
  grown_alike [] core bound ends below = refl
  grown_alike (w ∷ ws) core bound ends below =
      ap₂ (λ a b. cond (a || b) (grown (map f core) (map f (w.left ∷ w.right ∷ bound)) (map turn ws)) (grown (map f (w.left ∷ core)) (map f (w.left ∷ w.right ∷ bound)) (map turn ws)))
      (has_alike bound w.left ends.0.0 below) (has_alike bound w.right ends.0.1 below)
      ∙ go (has_number bound w.left || has_number bound w.right) (λ cs. grown_alike ws cs (w.left ∷ w.right ∷ bound) ends.1 (ends.0.0, (ends.0.1, below)))
    where
      go : (b : Bool) → ((cs : List ℕ) → grown (map f cs) (map f (w.left ∷ w.right ∷ bound)) (map turn ws) ≡ map f (grown cs (w.left ∷ w.right ∷ bound) ws))
          → cond b (grown (map f core) (map f (w.left ∷ w.right ∷ bound)) (map turn ws)) (grown (map f (w.left ∷ core)) (map f (w.left ∷ w.right ∷ bound)) (map turn ws))
          ≡ map f (cond b (grown core (w.left ∷ w.right ∷ bound) ws) (grown (w.left ∷ core) (w.left ∷ w.right ∷ bound) ws))
      go true rest = rest core
      go false rest = rest (w.left ∷ core)

  grown_below : (ws : List TrailPattern) (core bound : List ℕ) → EndsBelow ws → Below core → Below (grown core bound ws)
  grown_below [] core bound ends below = below
  grown_below (w ∷ ws) core bound ends below =
      go (has_number bound w.left || has_number bound w.right) (λ cs h. grown_below ws cs (w.left ∷ w.right ∷ bound) ends.1 h)
    where
      go : (b : Bool) → ((cs : List ℕ) → Below cs → Below (grown cs (w.left ∷ w.right ∷ bound) ws)) → Below (cond b (grown core (w.left ∷ w.right ∷ bound) ws) (grown (w.left ∷ core) (w.left ∷ w.right ∷ bound) ws))
      go true rest = rest core below
      go false rest = rest (w.left ∷ core) (ends.0.0, below)

  end_alike : (v : ℕ) (ws : List TrailPattern) → v < n → EndsBelow ws → list_any (is_end (f v)) (map turn ws) ≡ list_any (is_end v) ws
  end_alike v [] low ends = refl
  end_alike v (w ∷ ws) low ends = ap₂ ◌||◌ (ap₂ ◌||◌ (same_alike w.left v ends.0.0 low) (same_alike w.right v ends.0.1 low)) (end_alike v ws low ends.1)

module _ (f : ℕ → ℕ) (rs : List RelPattern) where
  abbrev move : RelPattern → RelPattern
  move r = record r { left = f r.left; right = f r.right }

  rights_alike : (ys : List ℕ) → flat_map (λ y. right_at (slice_get (map move rs) y)) ys ≡ map f (flat_map (λ y. right_at (slice_get rs y)) ys)
  rights_alike [] = refl
  rights_alike (y ∷ ys) =
      ap₂ (λ o l. right_at o ++ l) (slice_get-map move rs y) (rights_alike ys)
      ∙ ap (λ l. l ++ map f (flat_map (λ y. right_at (slice_get rs y)) ys)) (one (slice_get rs y))
      ∙ sym (map-append f (right_at (slice_get rs y)) (flat_map (λ y. right_at (slice_get rs y)) ys))
    where
      one : (o : Option RelPattern) → right_at (option_map move o) ≡ map f (right_at o)
      one None = refl
      one (Some r) = refl

  joined_alike : (first : ℕ) (ys : List ℕ) → from_first (f first) ys (map move rs) ≡ map f (from_first first ys rs)
  joined_alike first [] = refl
  joined_alike first (y ∷ ys) = ap (λ l. f first ∷ l) (rights_alike (y ∷ ys))

  pieces_alike : (p q : Pattern) → p.rels ≡ rs → q.rels ≡ map move rs → (xs : List PathPart)
      → flat_map (joined_nodes q) (map (λ (x : PathPart). record x { first = f x.first }) xs) ≡ map f (flat_map (joined_nodes p) xs)
  pieces_alike p q e h [] = refl
  pieces_alike p q e h (x ∷ xs) =
      ap₂ ◌++◌
      (ap (from_first (f x.first) x.rels) h ∙ joined_alike x.first x.rels ∙ ap (λ l. map f (from_first x.first x.rels l)) (sym e))
      (pieces_alike p q e h xs)
      ∙ sym (map-append f (joined_nodes p x) (flat_map (joined_nodes p) xs))

-- ---- the law

module _ (q : Trailed) (read : IsRead q) where
  abbrev p : Pattern
  p = q.pattern

  abbrev n : ℕ
  n = length p.names

  abbrev core : List ℕ
  core = grown (first_core q) (first_core q) q.trails

  abbrev pub is_core : ℕ → Bool
  is_core = has_number core

  abbrev place : ℕ → ℕ
  place = placed_in (core_first q)

  abbrev k : ℕ
  k = length (core_nodes q)

  apart : (v w : ℕ) → v < n → w < n → place v ≡ place w → v ≡ w
  apart = placed_apart is_core n

  rights_low : (ys : List ℕ) → AllByRecursion (λ v. v < n) (rights p ys)
  rights_low [] = tt
  rights_low (y ∷ ys) = each_append (λ v. v < n) (right_at (slice_get p.rels y)) (rights p ys) (one (slice_get p.rels y) refl) (rights_low ys)
    where
      one : (o : Option RelPattern) → slice_get p.rels y ≡ o → AllByRecursion (λ v. v < n) (right_at o)
      one None e = tt
      one (Some r) e = ((each_got (λ (r : RelPattern). (r.left < n) × (r.right < n)) p.rels y r read.holds.rels e).1, tt)

  piece_low : (ys : List ℕ) (first : ℕ) → first < n → AllByRecursion (λ v. v < n) (from_first first ys p.rels)
  piece_low [] first low = tt
  piece_low (y ∷ ys) first low = (low, rights_low (y ∷ ys))

  first_low : AllByRecursion (λ v. v < n) (first_core q)
  first_low =
      each_append (λ v. v < n) (flat_map (joined_nodes p) p.paths) q.alone
      (each_flat_map (λ (x : PathPart). x.first < n) (λ v. v < n) (joined_nodes p) (λ x low. piece_low x.rels x.first low) p.paths read.holds.starts) read.holds.alone

  core_low : AllByRecursion (λ v. v < n) core
  core_low = grown_below place n apart q.trails (first_core q) (first_core q) read.holds.ends first_low

  -- the variables of pieces with a relationship, and of whole paths, are in the core
  grows : (v : ℕ) → has_number (first_core q) v ≡ true → is_core v ≡ true
  grows v e = grown_keeps q.trails (first_core q) (first_core q) v e

  rel_in : (x : ℕ) (r : RelPattern) → slice_get p.rels x ≡ Some r → (is_core r.left ≡ true) × (is_core r.right ≡ true)
  rel_in x r e =
      let many : length (all_ends p) ≡ length p.rels = length-map p.rels ends_of in
      let low : x < length p.rels = slice_get_within p.rels x r e in
      let there : x < length (all_ends p) = omega (arith, many, low) in
      let both = wide_left p x r e (flat_map (joined_nodes p) p.paths) q.alone
      (in_pieces p x r e p.paths read.shape.joins (ap (λ l. has_number l x) read.shape.every_rel ∙ range_has (length (all_ends p)) x ∙ grind (arith, nat_tests, there))) in
      (grows r.left both.0, grows r.right both.1)

  pub outside : (v : ℕ) → v < n → is_core v ≡ false → list_any (is_end v) q.trails ≡ true
  outside v low out =
      go (has_number (flat_map (joined_nodes p) p.paths) v) (has_number q.alone v) (list_any (is_end v) q.trails)
      (some_piece p v q.alone q.trails p.paths read.holds.met (read.shape.every_node v (omega arith) low))
      (λ e. absurd (true≢false (sym (grows v (list_any-append (nat_eq v) (flat_map (joined_nodes p) p.paths) q.alone ∙ e)) ∙ out)))
    where
      go : (a b c : Bool) → ((a || b) || c) ≡ true → ((a || b) ≡ true → ⊥) → c ≡ true
      go true b c h none = absurd (none refl)
      go false true c h none = absurd (none refl)
      go false false c h none = h

  -- ---- pieces

  firsts_in : (xs : List PathPart) → AllByRecursion (λ (x : PathPart). has_items x.rels ≡ true → has_number (flat_map (joined_nodes p) xs) x.first ≡ true) xs
  firsts_in [] = tt
  firsts_in (x ∷ xs) = (
    λ some. list_any-append (nat_eq x.first) (joined_nodes p x) (flat_map (joined_nodes p) xs) ∙ or_left _ _ (here x.rels x.first some),
    each_then (λ (z : PathPart). has_items z.rels ≡ true → has_number (flat_map (joined_nodes p) xs) z.first ≡ true) (λ (z : PathPart). has_items z.rels ≡ true → has_number (flat_map (joined_nodes p) (x ∷ xs)) z.first ≡ true)
        (λ z h some. list_any-append (nat_eq z.first) (joined_nodes p x) (flat_map (joined_nodes p) xs) ∙ or_right _ _ (h some)) xs (firsts_in xs),
  )
    where
      here : (ys : List ℕ) (first : ℕ) → has_items ys ≡ true → has_number (from_first first ys p.rels) first ≡ true
      here [] first some = absurd (true≢false (sym some))
      here (y ∷ ys) first some = or_left (nat_eq first first) (has_number (rights p (y ∷ ys)) first) (eq-eqb first first refl)

  -- the first variable of a piece with a relationship is in the core
  firsts_core : AllByRecursion (λ (x : PathPart). (x.first < n) × (has_items x.rels ≡ true → is_core x.first ≡ true)) p.paths
  firsts_core =
      both_then (λ (x : PathPart). x.first < n) (λ (x : PathPart). has_items x.rels ≡ true → has_number (flat_map (joined_nodes p) p.paths) x.first ≡ true)
      (λ (x : PathPart). (x.first < n) × (has_items x.rels ≡ true → is_core x.first ≡ true))
      (λ x low h. (low, λ some. grows x.first (list_any-append (nat_eq x.first) (flat_map (joined_nodes p) p.paths) q.alone ∙ or_left _ _ (h some))))
      p.paths read.holds.starts (firsts_in p.paths)

  -- ---- numbered anew

  abbrev q' : Trailed
  q' = numbered_in (core_first q) q

  abbrev p' : Pattern
  p' = pattern_in (core_first q) p

  pub names : length p'.names ≡ n
  names = length-map (core_first q) _ ∙ order_length is_core n

  core_moved : grown (first_core q') (first_core q') q'.trails ≡ map place core
  core_moved =
      ap (λ l. grown l l q'.trails)
      (ap (λ l. l ++ map place q.alone) (pieces_alike place p.rels p p' refl refl p.paths) ∙ sym (map-append place (flat_map (joined_nodes p) p.paths) q.alone))
      ∙ grown_alike place n apart q.trails (first_core q) (first_core q) read.holds.ends first_low

  pub few : k ≤ n
  few = firsts_few is_core n

  pub among : (v : ℕ) → v < n → is_core v ≡ nat_lt (place v) k
  among v low = sym (first_is is_core n v low) ∙ (placed_first is_core n v low).0

  pub lower : (v : ℕ) → v < n → place v < n
  lower v low = (placed_first is_core n v low).1

  cored : (u : ℕ) → has_number (core_nodes q') u ≡ nat_lt u k
  cored u =
      has_filter (has_number (grown (first_core q') (first_core q') q'.trails)) (range_with_len 0 (length p'.names)) u
      ∙ ap₂ (λ l m. has_number l u && has_number (range_with_len 0 m) u) core_moved names
      ∙ ap (λ b. has_number (map place core) u && b) (range_has n u)
      ∙ go (nat_lt u n) refl
    where
      go : (b : Bool) → nat_lt u n ≡ b → (has_number (map place core) u && b) ≡ nat_lt u k
      go true e =
          let low : u < n = grind (arith, nat_tests, e) in
          let v = placed_onto is_core n u low in
          keep (has_number (map place core) u)
          ∙ ap (has_number (map place core)) (sym v.2) ∙ has_alike place n apart core v.0 v.1 core_low ∙ among v.0 v.1 ∙ ap (λ z. nat_lt z k) v.2
        where
          keep : (b : Bool) → (b && true) ≡ b
          keep true = refl
          keep false = refl
      go false e =
          let high : n ≤ u = grind (arith, nat_tests, e) in
          none (has_number (map place core) u) ∙ sym (le-ltb u k (let fewer : k ≤ n = few in omega (arith, fewer, high)))
        where
          none : (b : Bool) → (b && false) ≡ false
          none true = refl
          none false = refl

  entry_low : (e : MapEntry) → IsThere n (length (all_ends p)) e.variable → (u : ℕ) → variable_in (core_first q) e.variable ≡ node u → u < n
  entry_low e there u is = go e.variable there is
    where
      go : (v : Variable) → IsThere n (length (all_ends p)) v → variable_in (core_first q) v ≡ node u → u < n
      go (node v) there is = let same : place v ≡ u = cc in subst (λ z. z < n) same (lower v there)
      go (rel x) there is = absurd (cc is)

  -- so a piece that has a variable of the core begins there, and one that begins elsewhere has no relationship
  pub piece_core : AllByRecursion (λ (x : PathPart). (w : ℕ) → has_number (walk (all_ends p) x) w ≡ true → nat_lt (place w) k ≡ true → nat_lt (place x.first) k ≡ true) p.paths
  piece_core =
      each_then (λ (x : PathPart). (x.first < n) × (has_items x.rels ≡ true → is_core x.first ≡ true))
      (λ (x : PathPart). (w : ℕ) → has_number (walk (all_ends p) x) w ≡ true → nat_lt (place w) k ≡ true → nat_lt (place x.first) k ≡ true)
      (λ x h w has inner. go x.rels x.first h.0 h.1 w has inner) p.paths firsts_core
    where
      go : (ys : List ℕ) (first : ℕ) → first < n → (has_items ys ≡ true → is_core first ≡ true) → (w : ℕ) → has_number (first ∷ rights_of (map (slice_get (all_ends p)) ys)) w ≡ true
          → nat_lt (place w) k ≡ true → nat_lt (place first) k ≡ true
      go [] first low h w has inner = ap (λ u. nat_lt (place u) k) (sym (eqb-true w first (either (nat_eq w first) has))) ∙ inner
        where
          either : (b : Bool) → (b || false) ≡ true → b ≡ true
          either true e = refl
          either false e = e
      go (y ∷ ys) first low h w has inner = sym (among first low) ∙ h refl

  pub joined_first : AllByRecursion (λ (x : PathPart). nat_lt (place x.first) k ≡ false → x.rels ≡ []) p.paths
  joined_first =
      each_then (λ (x : PathPart). (x.first < n) × (has_items x.rels ≡ true → is_core x.first ≡ true)) (λ (x : PathPart). nat_lt (place x.first) k ≡ false → x.rels ≡ [])
      (λ x h out. go x.rels x.first h.0 h.1 out) p.paths firsts_core
    where
      go : (ys : List ℕ) (first : ℕ) → first < n → (has_items ys ≡ true → is_core first ≡ true) → nat_lt (place first) k ≡ false → ys ≡ []
      go [] first low h out = refl
      go (y ∷ ys) first low h out = absurd (true≢false (sym (sym (among first low) ∙ h refl) ∙ out))

  pub is_cored : AllByRecursion (λ (t : TrailPattern). 1 ≤ t.low) q.trails → IsCored k q'
  is_cored some = record {
    core = cored;
    within = subst (λ m. k ≤ m) (sym names) few;
    ends =
        subst (λ m. AllByRecursion (λ (t : TrailPattern). (t.left < m) × (t.right < m)) q'.trails) (sym names)
        (each_map (λ (t : TrailPattern). (t.left < n) × (t.right < n)) (λ (t : TrailPattern). (t.left < n) × (t.right < n)) (turn place n apart) (λ t low. (lower t.left low.0, lower t.right low.1)) q.trails read.holds.ends);
    some = each_map (λ (t : TrailPattern). 1 ≤ t.low) (λ (t : TrailPattern). 1 ≤ t.low) (turn place n apart) (λ t least. least) q.trails some;
    nodes =
        subst (λ m. AllByRecursion (λ (x : NodePattern). x.variable < m) p'.nodes) (sym names)
        (each_map (λ (x : NodePattern). x.variable < n) (λ (x : NodePattern). x.variable < n) (λ (x : NodePattern). record x { variable = place x.variable }) (λ x low. lower x.variable low) p.nodes read.holds.nodes);
    entries =
        subst (λ m. AllByRecursion (λ (e : MapEntry). (u : ℕ) → e.variable ≡ node u → u < m) p'.entries) (sym names)
        (each_map (λ (e : MapEntry). IsThere n (length (all_ends p)) e.variable) (λ (e : MapEntry). (u : ℕ) → e.variable ≡ node u → u < n)
        (λ (e : MapEntry). record e { variable = variable_in (core_first q) e.variable }) entry_low p.entries read.shape.there);
    rels =
        each_map (λ (r : RelPattern). ((place r.left < k) × (place r.right < k))) (λ (r : RelPattern). (r.left < k) × (r.right < k)) (move place p.rels) (λ r low. low) p.rels
        (each_by_number (λ (r : RelPattern). (place r.left < k) × (place r.right < k)) p.rels
        (λ x r e.
        let both = rel_in x r e in
        let ends = each_got (λ (r : RelPattern). (r.left < n) × (r.right < n)) p.rels x r read.holds.rels e in (
          below (place r.left) (sym (among r.left ends.0) ∙ both.0),
          below (place r.right) (sym (among r.right ends.1) ∙ both.1),
        )));
    outside = λ u out low.
        let v = placed_onto is_core n u (subst (λ m. u < m) names low) in
        subst (λ z. list_any (is_end z) q'.trails ≡ true) v.2
        (end_alike place n apart v.0 q.trails v.1 read.holds.ends ∙ outside v.0 v.1 (among v.0 v.1 ∙ ap (λ z. nat_lt z k) v.2 ∙ out));
  }
    where
      below : (u : ℕ) → nat_lt u k ≡ true → u < k
      below u e = grind (arith, nat_tests, e)

pub cuts_are_cored : CutsAreCored
unfolding cored_of core_size
cuts_are_cored clauses some = is_cored (trailed_of clauses) (trailed_read clauses) some

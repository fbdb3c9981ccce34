-- The choice at a later position of the last group.
use Rattle.std.proofs.Common.{◌≡◌, ℕ, zero, suc, ◌<◌, Bool, true, false, List, [], ◌∷◌, ◌++◌, map, length, append_assoc, refl, sym, ap, subst, ◌∙◌, arith}
use Rattle.std.specs.List.{All, AllByRecursion}
use Rattle.std.specs.Prelude.{Some, slice_get, slice_index, slice_set}
use Rattle.std.proofs.lemmas.Bool.{and_parts}
use Rattle.std.proofs.lemmas.List.{map-append}
use Rattle.std.proofs.lemmas.Option.{get_or_from_slice_get}
use Rattle.gq_bits.specs.Places.{is_marked}
use Rattle.gq_group.specs.Choices.{IsLater, IsUnmarked, Steps, StepsAmong, StepsPast}
use Rattle.gq_group.specs.Groups.{AreSelected, IsGroup, from_on, is_current, is_selected, later_choices, selected}
use Rattle.gq_group.specs.Pieces.{items_of}
use Rattle.gq_group.specs.declared.group.Group.{Group}
use Rattle.gq_group.proofs.Odometer.{fans, none_there, one_group}
use Rattle.gq_group.proofs.Places.{between, each_between, first_on, split_on}

-- the choices with other positions of one group
abbrev placed : List ℕ → ℕ → List ℕ → List (List ℕ)
placed ps i qs = map (λ q. slice_set ps i q) qs

placed_behind : (p : ℕ) (ps : List ℕ) (i : ℕ) (qs : List ℕ) → map (λ l. p ∷ l) (placed ps i qs) ≡ placed (p ∷ ps) (suc i) qs
placed_behind p ps i [] = refl
placed_behind p ps i (q ∷ qs) = ap (λ l. (p ∷ slice_set ps i q) ∷ l) (placed_behind p ps i qs)

alone : (qs : List ℕ) → fans [] qs ≡ map (λ q. q ∷ []) qs
alone [] = refl
alone (q ∷ qs) = ap (λ l. (q ∷ []) ∷ l) (alone qs)

jumped : (i : ℕ) (gs : List Group) (ps : List ℕ) (g : Group) (mid : List ℕ) (q : ℕ) → AreSelected gs ps → suc i ≡ length gs → slice_get gs i ≡ Some g
    → from_on (suc (slice_index ps i)) (selected g) ≡ mid ++ (q ∷ from_on (suc q) (selected g))
    → later_choices gs ps ≡ placed ps i mid ++ (slice_set ps i q ∷ later_choices gs (slice_set ps i q))
jumped i [] ps g mid q h last is next = absurd (none_there g is)
jumped i (g' ∷ gs) [] g mid q h last is next = absurd h
jumped zero (g' ∷ []) (p ∷ []) g mid q h last is next =
    let behind : from_on (suc p) (selected g') ≡ mid ++ (q ∷ from_on (suc q) (selected g')) = subst (λ y. from_on (suc p) (selected y) ≡ mid ++ (q ∷ from_on (suc q) (selected y))) (sym (one_group g' g is)) next in
    ap (fans []) behind ∙ alone (mid ++ (q ∷ from_on (suc q) (selected g'))) ∙ map-append (λ k. k ∷ []) mid (q ∷ from_on (suc q) (selected g'))
    ∙ ap (λ l. map (λ k. k ∷ []) mid ++ ((q ∷ []) ∷ l)) (sym (alone (from_on (suc q) (selected g'))))
jumped zero (g' ∷ []) (p ∷ p' ∷ ps) g mid q h last is next = absurd h.1
jumped zero (g' ∷ g'' ∷ gs) (p ∷ ps) g mid q h last is next = absurd (omega (arith, last))
jumped (suc i) (g' ∷ gs) (p ∷ ps) g mid q h last is next =
    let front : List ℕ → List ℕ = λ l. p ∷ l in
    let rest = fans (map selected gs) (from_on (suc p) (selected g')) in
    let new = slice_set ps i q in
    ap (λ l. map front l ++ rest) (jumped i gs ps g mid q h.1 (omega (arith, last)) is next)
    ∙ ap (λ l. l ++ rest) (map-append front (placed ps i mid) (new ∷ later_choices gs new) ∙ ap (λ l. l ++ map front (new ∷ later_choices gs new)) (placed_behind p ps i mid))
    ∙ append_assoc (placed (p ∷ ps) (suc i) mid) (map front (new ∷ later_choices gs new)) rest

selected_set : (i : ℕ) (gs : List Group) (ps : List ℕ) (g : Group) (q : ℕ) → AreSelected gs ps → slice_get gs i ≡ Some g → is_selected g q ≡ true → AreSelected gs (slice_set ps i q)
selected_set i [] ps g q h is e = absurd (none_there g is)
selected_set i (g' ∷ gs) [] g q h is e = absurd h
selected_set zero (g' ∷ gs) (p ∷ ps) g q h is e = (subst (λ x. is_selected x q ≡ true) (sym (one_group g' g is)) e, h.1)
selected_set (suc i) (g' ∷ gs) (p ∷ ps) g q h is e = (h.0, selected_set i gs ps g q h.1 is e)

index_set : (i : ℕ) (gs : List Group) (ps : List ℕ) (g : Group) (q : ℕ) → AreSelected gs ps → slice_get gs i ≡ Some g → slice_index (slice_set ps i q) i ≡ q
index_set i [] ps g q h is = absurd (none_there g is)
index_set i (g' ∷ gs) [] g q h is = absurd h
index_set zero (g' ∷ gs) (p ∷ ps) g q h is = refl
index_set (suc i) (g' ∷ gs) (p ∷ ps) g q h is = index_set i gs ps g q h.1 is

each_placed : (P : List ℕ → Type 0) (ps : List ℕ) (i : ℕ) (qs : List ℕ) → AllByRecursion (λ q. P (slice_set ps i q)) qs → AllByRecursion P (placed ps i qs)
each_placed P ps i [] h = tt
each_placed P ps i (q ∷ qs) h = (h.0, each_placed P ps i qs h.1)

-- the last group goes on to a later position
pub jump_made : (gs : List Group) (ps new : List ℕ) (i q : ℕ) (g : Group) (marks : List Bool) → AreSelected gs ps → suc i ≡ length gs → slice_get gs i ≡ Some g → IsGroup g → IsLater g marks (slice_index ps i) q → new ≡ slice_set ps i q
    → StepsPast gs i marks ps new
jump_made gs ps new i q g marks h last is ok later made =
    let p = slice_index ps i in
    let n = length (items_of g.piece) in
    let low = ok.marked q (and_parts (is_current g.current q) (is_marked g.marks q) later.there).1 in
    let here : from_on q (selected g) ≡ q ∷ from_on (suc q) (selected g) = first_on (is_selected g) q q 0 n (omega arith) (omega (arith, low)) (omega arith) later.there (λ k on before. absurd (omega (arith, on, before))) in
    let mid = between (is_selected g) (suc p) q (selected g) in
    let split = split_on (is_selected g) (suc p) q 0 n (let b = later.behind in omega (arith, b)) ∙ ap (λ l. mid ++ l) here in
    record {
      passed = placed ps i mid;
      next = jumped i gs ps g mid q h last is split ∙ ap (λ l. placed ps i mid ++ (l ∷ later_choices gs l)) (sym made);
      unmarked = each_placed (IsUnmarked gs i marks) ps i mid
          (each_between (is_selected g) (λ k. IsUnmarked gs i marks (slice_set ps i k)) (suc p) q 0 n
          (λ k there on before. (selected_set i gs ps g k h is there, ap (is_marked marks) (index_set i gs ps g k h is) ∙ later.between k (omega (arith, on)) before)));
      selected = subst (AreSelected gs) (sym made) (selected_set i gs ps g q h is later.there);
    }

-- the next choice goes past none
pub stepped : (gs : List Group) (i : ℕ) (marks : List Bool) (ps : List ℕ) (told : Bool) (new : List ℕ) → Steps gs ps told new → StepsAmong gs i marks ps told new
stepped gs i marks ps true new h = record { passed = []; next = h.next; unmarked = tt; selected = h.selected }
stepped gs i marks ps false new h = h

some_at : (gs : List Group) (i : ℕ) → i < length gs → (g : Group) × (slice_get gs i ≡ Some g)
some_at [] i low = absurd (omega (arith, low))
some_at (g ∷ gs) zero low = (g, refl)
some_at (g ∷ gs) (suc i) low = some_at gs i (omega (arith, low))

-- there is a last group
pub last_there : (gs : List Group) (i : ℕ) → suc i ≡ length gs → All IsGroup gs → (g : Group) × (slice_get gs i ≡ Some g) × IsGroup g
last_there gs i last ok =
    let low : i < length gs = omega (arith, last) in
    let (g, at) = some_at gs i low in
    (g, at, subst IsGroup (get_or_from_slice_get gs i g g at) (ok i g low))

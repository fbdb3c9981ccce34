-- The rows by which trails continue a row stand for those of all ways to walk them.
use Rattle.std.proofs.Common.{◌≡◌, ◌⊎◌, inl, inr, ℕ, zero, suc, ◌≤◌, Bool, true, false, not, ◌&&◌, ◌||◌, nat_eq, Option, Some, None, List, [], ◌∷◌, ◌++◌, drop, flat_map, length, map, take, refl, sym, ap, ◌∙◌, subst, append-nil, append_assoc, arith, true≢false}
use Rattle.std.specs.Cmp.Lexicographic.{pointwise, same_text}
use Rattle.std.specs.List.{AllByRecursion, Contains, list_all}
use Rattle.std.specs.List.Sorted.{IsPermutation}
use Rattle.std.specs.Prelude.{All, if◌then◌else◌, slice_get}
use Rattle.std.proofs.lemmas.Bool.{and_parts}
use Rattle.std.proofs.lemmas.Bool.Decides.{nat_tests}
use Rattle.std.proofs.lemmas.Grind.{flat_map-append}
use Rattle.std.proofs.lemmas.List.Elements.{All-from_recursion, Contains-append_cases, recursion_from_All}
use Rattle.std.proofs.lemmas.List.Sorted.{Contains-permutation, IsPermutation-append_left, IsPermutation-trans}
use Rattle.std.proofs.lemmas.List.{drop_all, length-take-le, take-append-drop, take_all}
use Rattle.std.proofs.Math.Seq.{drop-append_seam, take-append_seam}
use Rattle.gq_base.specs.Plain.{Graph}
use Rattle.gq_base.specs.declared.RelId.{RelId}
use Rattle.gq_base.specs.declared.RelTable.{RelTable}
use Rattle.gq_base.specs.declared.NodeId.{NodeId}
use Rattle.gq_hops.proofs.Reaching.{spreads_as_led}
use Rattle.gq_law_ends.proofs.Leading.{leads_nowhere}
use Rattle.gq_law_ends.proofs.Reaching.{rows_of_each, rows_of_walks, stands_each}
use Rattle.gq_law_ends.proofs.StandFor.{stands_itself}
use Rattle.gq_law_ends.proofs.Unseen.{unseen_reaches}
use Rattle.gq_law_ends.specs.Reaching.{AreLedTo, rows_at, rows_in, rows_reached}
use Rattle.gq_law_ends.specs.StandFor.{StandFor}
use Rattle.gq_law_ends.specs.Unseen.{Unsees, rows_behind}
use Rattle.gq_law_trails.specs.Trails.{after_trails, arrivals, used_in, walks_from, with_list}
use Rattle.gq_law_trails.specs.Walks.{end_of, is_of_type}
use Rattle.gq_plan.specs.Meaning.{Partial, holds, look}
use Rattle.gq_plan.specs.declared.TrailPart.{TrailPart}
use Rattle.gq_plan.specs.declared.TypedRel.{TypedRel}
use Rattle.gq_outer.specs.Rows.{Wide}
use Rattle.gq_trails.specs.Continued.{RowsAreWays, RowsStandForWays, are_apart, ends_from, have_ends, rows_by_ends, rows_continued, rows_from, walked_count}
use Rattle.gq_trails.specs.Trekking.{HasLength, continuations, partial_of, patterns_in}

-- the nodes that are met from a node are those to which the trail leads
led_from : (g : Graph) (p : TrailPart) (used : List RelId) (o : Option NodeId) → 1 ≤ p.high → AreLedTo g p.kind p.way used p.high o (ends_from g p used o)
led_from g p used (Some at) some = spreads_as_led g p.kind p.way used p.high at some
led_from g p used None some = record { distinct = refl; all = λ n. sym (leads_nowhere g p.kind p.way used p.high n) }

same_number : (m n : ℕ) → nat_eq m n ≡ true → m ≡ n
same_number m n h = grind (arith, nat_tests, h)

-- ---- trails that share no relationship

apart_unsees : (g : Graph) (p q : TrailPart) → are_apart p q ≡ true → Unsees g p q
apart_unsees g p q e = go (nat_eq p.clause q.clause) refl e
  where
    other_type : not (pointwise nat_eq p.kind q.kind) ≡ true → (r : RelId) → is_of_type g p.kind r ≡ true → is_of_type g q.kind r ≡ false
    other_type differ r = at (slice_get g.catalog.rels r.table)
      where
        off : (b : Bool) → not b ≡ true → b ≡ false
        off true h = absurd (true≢false (sym h))
        off false h = refl

        at : (o : Option RelTable) → holds (λ (t : RelTable). pointwise nat_eq t.name p.kind) o ≡ true → holds (λ (t : RelTable). pointwise nat_eq t.name q.kind) o ≡ false
        at None typed = absurd (true≢false (sym typed))
        at (Some t) typed = ap (λ (name : List ℕ). pointwise nat_eq name q.kind) (same_text t.name p.kind (sym typed)) ∙ off (pointwise nat_eq p.kind q.kind) differ

    go : (b : Bool) → nat_eq p.clause q.clause ≡ b → (not b || not (pointwise nat_eq p.kind q.kind)) ≡ true → Unsees g p q
    go false clause h = inl clause
    go true clause h = inr (other_type h)

all_unsee : (g : Graph) (p : TrailPart) (ps : List TrailPart) → list_all (are_apart p) ps ≡ true → AllByRecursion (Unsees g p) ps
all_unsee g p [] e = tt
all_unsee g p (q ∷ ps) e = let parts = and_parts (are_apart p q) (list_all (are_apart p) ps) e in (apart_unsees g p q parts.0, all_unsee g p ps parts.1)

-- ---- they stand for all

stands_on : {X : Type 0} (a b c : List X) → StandFor a b → StandFor b c → StandFor a c
stands_on a b c s t = record {
  rest = s.rest ++ t.rest;
  bag = subst (IsPermutation c) (append_assoc a s.rest t.rest)
      (IsPermutation-trans c (b ++ t.rest) ((a ++ s.rest) ++ t.rest) t.bag (IsPermutation-append_left t.rest b (a ++ s.rest) s.bag));
  among = λ x h. go x (Contains-append_cases s.rest t.rest x h);
}
  where
    own : (x : _) → Contains a x ⊎ Contains s.rest x → Contains a x
    own x (inl k) = k
    own x (inr k) = s.among x k

    go : (x : _) → Contains s.rest x ⊎ Contains t.rest x → Contains a x
    go x (inl k) = s.among x k
    go x (inr k) = own x (Contains-append_cases a s.rest x (Contains-permutation b (a ++ s.rest) x s.bag (t.among x k)))

flat_flat : {X Y Z : Type 0} (f : Y → List Z) (h : X → List Y) (xs : List X) → flat_map f (flat_map h xs) ≡ flat_map (λ x. flat_map f (h x)) xs
flat_flat f h [] = refl
flat_flat f h (x ∷ xs) = flat_map-append f (h x) (flat_map h xs) ∙ ap (λ ys. flat_map f (h x) ++ ys) (flat_flat f h xs)

stand_by_ends : (g : Graph) (patterns : ℕ → List RelId) (parts : List TrailPart) (a : Partial) (ws : List (ℕ × List RelId)) → AllByRecursion HasLength parts → have_ends parts ≡ true
    → StandFor (rows_by_ends g (used_in patterns ws) parts a) (rows_in (after_trails g patterns parts a ws))
unfolding after_trails
stand_by_ends g patterns [] a ws has e = stands_itself (a ∷ [])
stand_by_ends g patterns (p ∷ ps) a ws has e =
    let both = and_parts (nat_eq p.low 1 && list_all (are_apart p) ps) (have_ends ps) e in
    let first = and_parts (nat_eq p.low 1) (list_all (are_apart p) ps) both.0 in
    let low : p.low ≡ 1 = same_number p.low 1 first.0 in
    let ordered = has.0.ordered in
    let some : 1 ≤ p.high = omega (arith, low, ordered) in
    let ns = ends_from g p (used_in patterns ws p.clause) (look a.nodes p.from) in
    let led = led_from g p (used_in patterns ws p.clause) (look a.nodes p.from) some in
    stands_on (rows_by_ends g (used_in patterns ws) (p ∷ ps) a) (rows_behind g patterns p ps a ws ns) (rows_in (after_trails g patterns (p ∷ ps) a ws))
    (subst (StandFor (rows_by_ends g (used_in patterns ws) (p ∷ ps) a)) (flat_flat (λ b. rows_in (after_trails g patterns ps b ws)) (λ n. arrivals g p a (Some n)) ns)
    (stands_each (rows_by_ends g (used_in patterns ws) ps) (λ b. rows_in (after_trails g patterns ps b ws)) (λ b. stand_by_ends g patterns ps b ws has.1 both.1) (rows_at g p a ns)))
    (unseen_reaches g patterns p ps a ws ns low (all_unsee g p ps first.1) led)

-- ---- behind trails that are walked

module _ (g : Graph) (patterns : ℕ → List RelId) (last : Partial → List (ℕ × List RelId) → List Partial) (ps : List TrailPart) where
  abbrev met : TrailPart → Partial → List RelId → List Partial
  met q a l = arrivals g q a (end_of g q.way (look a.nodes q.from) l)

  all_behind : (q : TrailPart) (qs : List TrailPart) (a : Partial) (ws : List (ℕ × List RelId))
      → rows_in (after_trails g patterns (q ∷ (qs ++ ps)) a ws)
      ≡ flat_map (λ l. flat_map (λ b. rows_in (after_trails g patterns (qs ++ ps) b ((q.clause, l) ∷ ws))) (arrivals g q a (end_of g q.way (look a.nodes q.from) l))) (walks_from g patterns q a ws)
  unfolding after_trails
  all_behind q qs a ws =
      rows_of_walks (λ l. flat_map (λ b. map (with_list l) (after_trails g patterns (qs ++ ps) b ((q.clause, l) ∷ ws))) (arrivals g q a (end_of g q.way (look a.nodes q.from) l))) (walks_from g patterns q a ws)
      ∙ ap (λ (f : List RelId → List Partial). flat_map f (walks_from g patterns q a ws))
      (λ i l. rows_of_each l (λ b. after_trails g patterns (qs ++ ps) b ((q.clause, l) ∷ ws)) (arrivals g q a (end_of g q.way (look a.nodes q.from) l)) i)

  -- rows that stand for those of the last trails do so there too
  stand_behind : ((b : Partial) (vs : List (ℕ × List RelId)) → StandFor (last b vs) (rows_in (after_trails g patterns ps b vs))) → (qs : List TrailPart) (a : Partial) (ws : List (ℕ × List RelId))
      → StandFor (rows_reached g patterns last qs a ws) (rows_in (after_trails g patterns (qs ++ ps) a ws))
  stand_behind stand [] a ws = stand a ws
  stand_behind stand (q ∷ qs) a ws =
      subst (StandFor (rows_reached g patterns last (q ∷ qs) a ws)) (sym (all_behind q qs a ws))
      (stands_each
      (λ l. flat_map (λ b. rows_reached g patterns last qs b ((q.clause, l) ∷ ws)) (met q a l))
      (λ l. flat_map (λ b. rows_in (after_trails g patterns (qs ++ ps) b ((q.clause, l) ∷ ws))) (met q a l))
      (λ l. stands_each (λ b. rows_reached g patterns last qs b ((q.clause, l) ∷ ws)) (λ b. rows_in (after_trails g patterns (qs ++ ps) b ((q.clause, l) ∷ ws)))
      (λ b. stand_behind stand qs b ((q.clause, l) ∷ ws)) (met q a l))
      (walks_from g patterns q a ws))

  -- and so do those that are the same
  are_behind : ((b : Partial) (vs : List (ℕ × List RelId)) → last b vs ≡ rows_in (after_trails g patterns ps b vs)) → (qs : List TrailPart) (a : Partial) (ws : List (ℕ × List RelId))
      → rows_reached g patterns last qs a ws ≡ rows_in (after_trails g patterns (qs ++ ps) a ws)
  are_behind same [] a ws = same a ws
  are_behind same (q ∷ qs) a ws =
      ap (λ (f : List RelId → Partial → List Partial). flat_map (λ l. flat_map (f l) (arrivals g q a (end_of g q.way (look a.nodes q.from) l))) (walks_from g patterns q a ws))
      (λ i l b. are_behind same qs b ((q.clause, l) ∷ ws) i)
      ∙ sym (all_behind q qs a ws)

none_behind : (g : Graph) (patterns : ℕ → List RelId) (b : Partial) (vs : List (ℕ × List RelId)) → b ∷ [] ≡ rows_in (after_trails g patterns [] b vs)
unfolding after_trails
none_behind g patterns b vs = refl

-- where all trails are walked
all_walked : (g : Graph) (patterns : ℕ → List RelId) (parts : List TrailPart) (a : Partial) → rows_from (length parts) g patterns parts a ≡ rows_in (after_trails g patterns parts a [])
all_walked g patterns parts a =
    (λ i. rows_reached g patterns (λ b ws. rows_by_ends g (used_in patterns ws) (drop_all (length parts) parts (omega arith) i) b) (take_all (length parts) parts (omega arith) i) a [])
    ∙ are_behind g patterns (λ b ws. b ∷ []) [] (none_behind g patterns) parts a []
    ∙ ap (λ qs. rows_in (after_trails g patterns qs a [])) (append-nil parts)

-- the trails from which on none is walked have ends
have_behind : (once : Bool) (parts : List TrailPart) → have_ends (drop (walked_count once parts) parts) ≡ true
have_behind once [] = refl
have_behind once (p ∷ ps) = go (once && have_ends (p ∷ ps)) refl (have_behind once ps)
  where
    go : (b : Bool) → (once && have_ends (p ∷ ps)) ≡ b → have_ends (drop (walked_count once ps) ps) ≡ true → have_ends (drop (if b then 0 else suc (walked_count once ps)) (p ∷ ps)) ≡ true
    go true e more = (and_parts once (have_ends (p ∷ ps)) e).1
    go false e more = more

back_all : {X : Type 0} (P : X → Type 0) (n : ℕ) (xs : List X) → AllByRecursion P xs → AllByRecursion P (drop n xs)
back_all P zero xs all = all
back_all P (suc n) [] all = tt
back_all P (suc n) (x ∷ xs) all = back_all P n xs all.1

stand_from : (once : Bool) (g : Graph) (patterns : ℕ → List RelId) (parts : List TrailPart) (a : Partial) → All HasLength parts
    → StandFor (rows_from (walked_count once parts) g patterns parts a) (rows_in (after_trails g patterns parts a []))
stand_from once g patterns parts a has =
    subst (λ qs. StandFor (rows_from n g patterns parts a) (rows_in (after_trails g patterns qs a []))) (take-append-drop n parts)
    (stand_behind g patterns (λ b ws. rows_by_ends g (used_in patterns ws) (drop n parts) b) (drop n parts)
    (λ b vs. stand_by_ends g patterns (drop n parts) b vs (back_all HasLength n parts (recursion_from_All HasLength parts has)) (have_behind once parts)) (take n parts) a [])
  where
    n : ℕ
    n = walked_count once parts

pub rows_stand : RowsStandForWays
unfolding rows_continued
rows_stand once g parts ys row has = stand_from once g (patterns_in ys row.rels) parts (partial_of row) has

never_once : (parts : List TrailPart) → walked_count false parts ≡ length parts
never_once [] = refl
never_once (p ∷ ps) = ap suc (never_once ps)

pub rows_are : RowsAreWays
unfolding rows_continued
rows_are g parts ys row =
    ap (λ n. rows_from n g (patterns_in ys row.rels) parts (partial_of row)) (never_once parts) ∙ all_walked g (patterns_in ys row.rels) parts (partial_of row)

-- ---- the rows, by how the trails are gone through

pub walked_rows : (once : Bool) (g : Graph) (parts : List TrailPart) (ys : List TypedRel) (row : Wide) → walked_count once parts ≡ length parts
    → rows_continued once g parts ys row ≡ rows_in (continuations g parts ys row)
unfolding rows_continued
walked_rows once g parts ys row all =
    ap (λ n. rows_from n g (patterns_in ys row.rels) parts (partial_of row)) all ∙ all_walked g (patterns_in ys row.rels) parts (partial_of row)

pub reached_rows : (once : Bool) (g : Graph) (qs ps : List TrailPart) (ys : List TypedRel) (row : Wide) → walked_count once (qs ++ ps) ≡ length qs
    → rows_continued once g (qs ++ ps) ys row
    ≡ rows_reached g (patterns_in ys row.rels) (λ b ws. rows_by_ends g (used_in (patterns_in ys row.rels) ws) ps b) qs (partial_of row) []
unfolding rows_continued
reached_rows once g qs ps ys row first =
    ap (λ n. rows_from n g (patterns_in ys row.rels) (qs ++ ps) (partial_of row)) first
    ∙ (λ i. rows_reached g (patterns_in ys row.rels) (λ b ws. rows_by_ends g (used_in (patterns_in ys row.rels) ws) (drop-append_seam qs ps i) b) (take-append_seam qs ps i) (partial_of row) [])

-- where none is left behind them, all are walked
pub none_reached : (once : Bool) (parts : List TrailPart) → length (drop (walked_count once parts) parts) ≡ 0 → walked_count once parts ≡ length parts
none_reached once [] e = refl
none_reached once (p ∷ ps) e = go (once && have_ends (p ∷ ps)) e (none_reached once ps)
  where
    go : (b : Bool) → length (drop (if b then 0 else suc (walked_count once ps)) (p ∷ ps)) ≡ 0 → (length (drop (walked_count once ps) ps) ≡ 0 → walked_count once ps ≡ length ps)
        → (if b then 0 else suc (walked_count once ps)) ≡ suc (length ps)
    go true h more = absurd (omega (arith, h))
    go false h more = ap suc (more h)

pub few_walked : (once : Bool) (parts : List TrailPart) → walked_count once parts ≤ length parts
few_walked once [] = omega arith
few_walked once (p ∷ ps) = go (once && have_ends (p ∷ ps)) (few_walked once ps)
  where
    go : (b : Bool) → walked_count once ps ≤ length ps → (if b then 0 else suc (walked_count once ps)) ≤ suc (length ps)
    go true h = omega arith
    go false h = omega (arith, h)

-- the trails that are walked, and the others
pub walked_first : (once : Bool) (parts : List TrailPart) → walked_count once (take (walked_count once parts) parts ++ drop (walked_count once parts) parts) ≡ length (take (walked_count once parts) parts)
walked_first once parts =
    ap (walked_count once) (take-append-drop (walked_count once parts) parts) ∙ sym (length-take-le (walked_count once parts) parts (few_walked once parts))

pub lengths_walked : (n : ℕ) (parts : List TrailPart) → All HasLength parts → All HasLength (take n parts)
lengths_walked n parts has = All-from_recursion HasLength (take n parts) (front_all n parts (recursion_from_All HasLength parts has))
  where
    front_all : (n : ℕ) (xs : List TrailPart) → AllByRecursion HasLength xs → AllByRecursion HasLength (take n xs)
    front_all zero xs all = tt
    front_all (suc n) [] all = tt
    front_all (suc n) (x ∷ xs) all = (all.0, front_all n xs all.1)

pub lengths_reached : (n : ℕ) (parts : List TrailPart) → All HasLength parts → All HasLength (drop n parts)
lengths_reached n parts has = All-from_recursion HasLength (drop n parts) (back_all HasLength n parts (recursion_from_All HasLength parts has))

-- The matches of the groups of a plan stay while places are tried, and one group more has its own.
use Rattle.std.proofs.Common.{Bor, ◌≡◌, ◌⊎◌, inl, inr, ℕ, zero, suc, ◌+◌, ◌-◌, ◌<◌, ◌≤◌, List, [], ◌∷◌, ◌++◌, length, sym, ap, ◌∙◌, subst, arith}
use Rattle.std.specs.Prelude.{slice_index_or, slice_set}
use Rattle.std.proofs.lemmas.Bool.{cases_eq}
use Rattle.std.proofs.lemmas.List.{get_or_default, get_or-map, get_or-set_same, get_or-set_other, length-append, length-map, length-set, map-set, take-append-le}
use Rattle.gq_plan.specs.declared.assignment.Assignment.{Assignment}
use Rattle.gq_steps.specs.Levels.{Run, known}
use Rattle.gq_steps.specs.steps.Lists.{Stands, EarlierStand}
use Rattle.gq_steps.specs.Groups.{no_group, group_at, Tiles}
use Rattle.gq_steps.specs.Matches.{AreMatches}
use Rattle.gq_pipe.specs.steps.Matches.{HaveMatches, StandNow, StandOpen, lists_in}
use Rattle.gq_steps.specs.Moves.{IsRun, IsHeld, IsAlike}
use Rattle.gq_steps.specs.declared.group_steps.GroupSteps.{GroupSteps}
use Rattle.gq_steps.proofs.Going.{less_alike, less_held}
use Rattle.gq_steps.proofs.Standings.{IsWithin, tile_at}
use Rattle.gq_sift.proofs.Matching.{same_matches}

-- ---- those of the first groups

-- a group's steps stand behind those of the groups before it
tile_low : (c : Run) (d : ℕ) (ss : List GroupSteps) → Tiles c d ss → (j : ℕ) → j < length ss → d ≤ (group_at ss j).first
tile_low c d [] h j low = absurd (omega (arith, low))
tile_low c d (s ∷ ss) h zero low = let at : s.first ≡ d = h.0 in omega (arith, at)
tile_low c d (s ∷ ss) h (suc j) low =
    let at : s.first ≡ d = h.0 in
    let some : s.first < s.end = h.1 in
    let rest = tile_low c s.end ss h.3 j (omega (arith, low)) in
    omega (arith, at, some, rest)

ascend : (c : Run) (d : ℕ) (ss : List GroupSteps) → Tiles c d ss → (i j : ℕ) → i ≤ j → j < length ss → (group_at ss i).first ≤ (group_at ss j).first
ascend c d [] h i j order low = absurd (omega (arith, low))
ascend c d (s ∷ ss) h zero j order low = let at : s.first ≡ d = h.0 in let rest = tile_low c d (s ∷ ss) h j low in omega (arith, at, rest)
ascend c d (s ∷ ss) h (suc i) zero order low = absurd (omega (arith, order))
ascend c d (s ∷ ss) h (suc i) (suc j) order low = ascend c s.end ss h.3 i j (omega (arith, order)) (omega (arith, low))

-- after a part of a group's list was tried, the groups up to it have theirs
still_have : (c : Run) → IsRun c → (ss : List GroupSteps) → Tiles c 0 ss → (row new : Assignment) (ms : List (List ℕ)) (j : ℕ) → j < length ss → IsHeld c row (known c (group_at ss j).first) → IsAlike (known c (group_at ss j).first) row new → HaveMatches c ss row ms (j + 1) → HaveMatches c ss new ms (j + 1)
still_have c run ss tiles row new ms j inside held alike h = record { many = h.many; each = λ i low there. one i low there }
  where
    one : (i : ℕ) → i < j + 1 → i < length ss → AreMatches c (group_at ss i).first new (slice_index_or ms i [])
    one i low there =
        let within : IsWithin c (group_at ss i) = tile_at c 0 ss tiles i there in
        let some = within.some in
        let end = within.inside in
        let order : (group_at ss i).first ≤ (group_at ss j).first = ascend c 0 ss tiles i j (omega (arith, low)) inside in
        same_matches c run (group_at ss i).first (omega (arith, some, end)) row new (less_held c (group_at ss i).first (group_at ss j).first row order held) (less_alike c (group_at ss i).first (group_at ss j).first row new order alike) (slice_index_or ms i []) (h.each i low there)

-- one group more has its own
one_more : (c : Run) (ss : List GroupSteps) (row : Assignment) (ms : List (List ℕ)) (n : ℕ) → n < length ss → HaveMatches c ss row ms n → (new : List ℕ) → AreMatches c (group_at ss n).first row new → HaveMatches c ss row (slice_set ms n new) (n + 1)
one_more c ss row ms n inside h new m = record { many = length-set ms n new ∙ h.many; each = λ i low there. go i low there (cases_eq i n) }
  where
    go : (i : ℕ) → i < n + 1 → i < length ss → (i ≡ n) ⊎ (i ≡ n → ⊥) → AreMatches c (group_at ss i).first row (slice_index_or (slice_set ms n new) i [])
    go i low there (inl e) =
        let many = h.many in
        subst (λ k. AreMatches c (group_at ss k).first row (slice_index_or (slice_set ms n new) k [])) (sym e)
        (subst (AreMatches c (group_at ss n).first row) (sym (get_or-set_same ms n new [] (omega (arith, inside, many)))) m)
    go i low there (inr other) = subst (AreMatches c (group_at ss i).first row) (sym (get_or-set_other ms n i new [] other)) (h.each i (omega (arith, low, other)) there)

-- ---- by the group that the program has

-- the lists that are referred to, where one is written
lists_set : (ms : List (Bor (List ℕ))) (n : ℕ) (m : Bor (List ℕ)) → lists_in (slice_set ms n m) ≡ slice_set (lists_in ms) n m.now
lists_set ms n m = map-set (λ (b : Bor (List ℕ)). b.now) ms n m

lists_many : (ms : List (Bor (List ℕ))) → length (lists_in ms) ≡ length ms
lists_many ms = length-map ms (λ (b : Bor (List ℕ)). b.now)

module _ (c : Run) (ss : List GroupSteps) (row : Assignment) (depth : ℕ) (inside : depth < length ss) (x : GroupSteps) (found : x ≡ slice_index_or ss depth x) where
  group_is : group_at ss depth ≡ x
  group_is = get_or_default ss depth no_group x inside ∙ sym found

  -- those that it has
  pub group_matches : (ms : List (Bor (List ℕ))) (n : ℕ) → depth < n → HaveMatches c ss row (lists_in ms) n → (m : Bor (List ℕ)) → m ≡ slice_index_or ms depth m → AreMatches c x.first row m.now
  group_matches ms n low h m is =
      let many = h.many in
      subst (λ (s : GroupSteps). AreMatches c s.first row m.now) group_is
      (subst (AreMatches c (group_at ss depth).first row)
      (get_or-map (λ (b : Bor (List ℕ)). b.now) ms depth m [] (omega (arith, inside, many, lists_many ms)) ∙ ap (λ (b : Bor (List ℕ)). b.now) (sym is)) (h.each depth low inside))

  -- its list is open once it has them
  pub matches_open : (pre : List ℕ) → length pre ≡ depth → (ms : List (Bor (List ℕ))) → StandNow c ss row (lists_in ms) pre → (m : Bor (List ℕ)) → AreMatches c x.first row m.now → StandOpen c ss row (lists_in (slice_set ms depth m)) pre
  matches_open pre long ms st m here = record {
    stand = st.stand;
    matches = subst (λ n. HaveMatches c ss row (lists_in (slice_set ms depth m)) (n + 1)) (sym long)
        (subst (λ ls. HaveMatches c ss row ls (depth + 1)) (sym (lists_set ms depth m))
        (one_more c ss row (lists_in ms) depth inside (subst (HaveMatches c ss row (lists_in ms)) long st.matches) m.now
        (subst (λ (s : GroupSteps). AreMatches c s.first row m.now) (sym group_is) here)));
  }

  module _ (pre : List ℕ) (long : length pre ≡ depth) (ms : List (List ℕ)) (st : StandOpen c ss row ms pre) where
    -- they stay while its places are tried
    matches_stay : (new : Assignment) → IsHeld c row (known c x.first) → IsAlike (known c x.first) row new → HaveMatches c ss new ms (length pre + 1)
    matches_stay new held alike =
        subst (λ n. HaveMatches c ss new ms (n + 1)) (sym long)
        (still_have c st.stand.runs ss st.stand.grouped.tiles row new ms depth inside
        (subst (λ (s : GroupSteps). IsHeld c row (known c s.first)) (sym group_is) held)
        (subst (λ (s : GroupSteps). IsAlike (known c s.first) row new) (sym group_is) alike)
        (subst (λ n. HaveMatches c ss row ms (n + 1)) long st.matches))

    pub still_open : (new : Assignment) → IsHeld c row (known c x.first) → IsAlike (known c x.first) row new → EarlierStand c ss new pre → StandOpen c ss new ms pre
    still_open new held alike stand = record { stand = stand; matches = matches_stay new held alike }

    -- the group stands
    pub next_stands : (new : Assignment) (n : ℕ) → IsHeld c row (known c x.first) → IsAlike (known c x.first) row new → EarlierStand c ss new (pre ++ n ∷ []) → StandNow c ss new ms (pre ++ n ∷ [])
    next_stands new n held alike stand = record { stand = stand; matches = subst (HaveMatches c ss new ms) (sym (length-append pre (n ∷ []))) (matches_stay new held alike) }

    -- nothing reads by a place of the last one
    pub last_stands : (n : ℕ) → length ss ≤ depth + 1 → StandNow c ss row ms (pre ++ n ∷ [])
    last_stands n last = record {
      stand = subst (Stands c ss row) (sym (take-append-le (length ss - 1) pre (n ∷ []) (omega (arith, long, inside, last)))) st.stand;
      matches = subst (HaveMatches c ss row ms) (sym (length-append pre (n ∷ []))) st.matches;
    }

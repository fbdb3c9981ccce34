-- How much the search for ways to walk all trails has before it: each move makes it less.
use Rattle.std.proofs.Common.{◌≡◌, ℕ, suc, ◌+◌, ◌<◌, ◌≤◌, Bool, true, false, cond, List, [], ◌∷◌, drop, filter, length, set, refl, sym, ap, ap₂, ◌∙◌, arith}
use Rattle.std.proofs.lemmas.List.{length-set}
use Rattle.gq_base.specs.Plain.{Graph}
use Rattle.gq_base.specs.declared.RelId.{RelId}
use Rattle.gq_law_trails.specs.Trails.{arrivals, walks_from}
use Rattle.gq_law_trails.specs.Walks.{end_of}
use Rattle.gq_plan.specs.declared.TrailPart.{TrailPart}
use Rattle.gq_plan.specs.Meaning.{Partial, look}
use Rattle.gq_hops.specs.Walking.{Walking}
use Rattle.gq_trails.specs.steps.Journeys.{Journey, frames_at, part_at, patterns_of, row_at, turn_at, walk_at, walked_at, walks_on}
use Rattle.gq_trails.specs.steps.Treks.{Frame, Turn, met_by}
use Rattle.gq_trails.proofs.Fitting.{split_parts}
use Rattle.gq_trails.proofs.Journeying.{AreSameWalks, frames_alike, put_below, put_here, turn_alike, walked_alike}

abbrev pub each : {X : Type 0} → (X → ℕ) → List X → ℕ
each w [] = 0
each w (x ∷ xs) = w x + each w xs

each_kept : {X : Type 0} (w : X → ℕ) (test : X → Bool) (xs : List X) → each w (filter test xs) ≤ each w xs
each_kept w test [] = omega arith
each_kept w test (x ∷ xs) = go (test x) (each_kept w test xs)
  where
    go : (b : Bool) → each w (filter test xs) ≤ each w xs → each w (cond b (x ∷ filter test xs) (filter test xs)) ≤ w x + each w xs
    go true less = omega (arith, less)
    go false less = omega (arith, less)

module _ (g : Graph) (patterns : ℕ → List RelId) where
  -- of all ways to walk trails
  unfoldable pub cost : List TrailPart → Partial → List (ℕ × List RelId) → ℕ
  cost [] a ws = 0
  cost (p ∷ ps) a ws =
      suc (each (λ l. suc (each (λ b. cost ps b ((p.clause, l) ∷ ws)) (arrivals g p a (end_of g p.way (look a.nodes p.from) l)))) (walks_from g patterns p a ws))

  -- of those that go on from these walks
  abbrev pub turn_cost : Turn → List (List RelId) → ℕ
  turn_cost t ls = suc (each (λ l. suc (each (λ b. cost t.later b ((t.part.clause, l) ∷ t.walked)) (met_by g patterns t l))) ls)

  unfoldable pub frames_cost : List Frame → ℕ
  frames_cost [] = 0
  frames_cost (f ∷ fs) = turn_cost f.turn f.owed + frames_cost fs

abbrev pub cost_at : Journey → List Walking → ℕ → ℕ
cost_at j ws n = turn_cost j.graph (patterns_of j) (turn_at j ws n) (walk_at ws n).owed + frames_cost j.graph (patterns_of j) (frames_at j ws n)

module _ (j : Journey) where
  abbrev g : Graph
  g = j.graph

  abbrev ps : ℕ → List RelId
  ps = patterns_of j

  frames_behind : (ws : List Walking) (n : ℕ) → frames_cost g ps (frames_at j ws (suc n)) ≡ cost_at j ws n
  unfolding frames_at frames_cost
  frames_behind ws n = refl

  -- it is again the turn of the trail before
  pub less_back : (ws vs : List Walking) (n : ℕ) → AreSameWalks vs ws (suc n) → cost_at j vs n < cost_at j ws (suc n)
  less_back ws vs n same =
      let alike : frames_cost g ps (frames_at j vs (suc n)) ≡ frames_cost g ps (frames_at j ws (suc n)) = ap (frames_cost g ps) (frames_alike j vs ws (suc n) same) in
      omega (arith, alike, frames_behind vs n)

  module _ (ws : List Walking) (n : ℕ) (w : Walking) (low : n < length ws) (next : (walk_at ws n).owed ≡ w.rels ∷ w.owed) where
    abbrev vs : List Walking
    vs = set ws n w

    frames_same : frames_cost g ps (frames_at j (set ws n w) n) ≡ frames_cost g ps (frames_at j ws n)
    frames_same = ap (frames_cost g ps) (frames_alike j (set ws n w) ws n (put_below ws n w low))

    turn_now : turn_cost g ps (turn_at j (set ws n w) n) (walk_at (set ws n w) n).owed ≡ turn_cost g ps (turn_at j ws n) w.owed
    turn_now = ap₂ (λ t (v : Walking). turn_cost g ps t v.owed) (turn_alike j (set ws n w) ws n (put_below ws n w low)) (put_here ws n w low)

    before : turn_cost g ps (turn_at j ws n) (walk_at ws n).owed ≡ turn_cost g ps (turn_at j ws n) (w.rels ∷ w.owed)
    before = ap (turn_cost g ps (turn_at j ws n)) next

    -- its walk does not end as it may
    pub less_missed : cost_at j (set ws n w) n < cost_at j ws n
    less_missed = omega (arith, frames_same, turn_now, before)

    -- its walk does, and the next trail begins
    module _ (one : met_by j.graph (patterns_of j) (turn_at j ws n) w.rels ≡ row_at j (set ws n w) (suc n) ∷ []) (within : suc n < length j.parts) (few : suc n < length ws) (u : Walking) (test : List RelId → Bool)
        (owed : u.owed ≡ filter test (walks_on j (set ws n w) (suc n))) where
      more : suc n < length (set ws n w)
      more = omega (arith, few, length-set ws n w)

      abbrev us : List Walking
      us = set vs (suc n) u

      turn_is : turn_cost g ps (turn_at j us (suc n)) (walk_at us (suc n)).owed ≡ turn_cost g ps (turn_at j vs (suc n)) (filter test (walks_on j vs (suc n)))
      turn_is =
          ap₂ (λ t (v : Walking). turn_cost g ps t v.owed) (turn_alike j us vs (suc n) (put_below vs (suc n) u more)) (put_here vs (suc n) u more)
          ∙ ap (turn_cost g ps (turn_at j vs (suc n))) owed

      whole_is : turn_cost g ps (turn_at j vs (suc n)) (walks_on j vs (suc n)) ≡ cost g ps (drop (suc n) j.parts) (row_at j vs (suc n)) (walked_at j.parts vs (suc n))
      unfolding cost
      whole_is = sym (ap (λ l. cost g ps l (row_at j vs (suc n)) (walked_at j.parts vs (suc n))) (split_parts j.parts (suc n) within))

      turn_less : turn_cost g ps (turn_at j vs (suc n)) (filter test (walks_on j vs (suc n))) ≤ turn_cost g ps (turn_at j vs (suc n)) (walks_on j vs (suc n))
      turn_less =
          let kept = each_kept (λ l. suc (each (λ b. cost g ps (drop (suc (suc n)) j.parts) b (((part_at j.parts (suc n)).clause, l) ∷ walked_at j.parts vs (suc n))) (met_by g ps (turn_at j vs (suc n)) l))) test (walks_on j vs (suc n)) in
          omega (arith, kept)

      turn_next : turn_cost g ps (turn_at j us (suc n)) (walk_at us (suc n)).owed ≤ cost g ps (drop (suc n) j.parts) (row_at j vs (suc n)) (walked_at j.parts vs (suc n))
      turn_next = omega (arith, turn_is, whole_is, turn_less)

      frames_next : frames_cost g ps (frames_at j us (suc n)) ≡ cost_at j vs n
      frames_next = ap (frames_cost g ps) (frames_alike j us vs (suc n) (put_below vs (suc n) u more)) ∙ frames_behind vs n

      abbrev later : List RelId → ℕ
      later l = each (λ b. cost g ps (drop (suc n) j.parts) b (((part_at j.parts n).clause, l) ∷ walked_at j.parts ws n)) (met_by g ps (turn_at j ws n) l)

      walked_new : walked_at j.parts vs (suc n) ≡ ((part_at j.parts n).clause, w.rels) ∷ walked_at j.parts ws n
      unfolding walked_at
      walked_new = ap₂ (λ (v : Walking) (l : List (ℕ × List RelId)). ((part_at j.parts n).clause, v.rels) ∷ l) (put_here ws n w low) (walked_alike j.parts vs ws n (put_below ws n w low))

      later_is : later w.rels ≡ cost g ps (drop (suc n) j.parts) (row_at j vs (suc n)) (walked_at j.parts vs (suc n)) + 0
      later_is =
          ap (each (λ b. cost g ps (drop (suc n) j.parts) b (((part_at j.parts n).clause, w.rels) ∷ walked_at j.parts ws n))) one
          ∙ ap (λ l. cost g ps (drop (suc n) j.parts) (row_at j vs (suc n)) l + 0) (sym walked_new)

      pub less_next : cost_at j (set (set ws n w) (suc n) u) (suc n) < cost_at j ws n
      less_next = omega (arith, frames_same, turn_now, before, turn_next, frames_next, later_is)

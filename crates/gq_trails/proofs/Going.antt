-- What stays true of the search for ways to walk all trails where a walk ends, as it may or not.
use Rattle.std.proofs.Common.{◌≡◌, ℕ, suc, ◌<◌, ◌≤◌, nat_eq, Bool, true, false, not, ◌&&◌, ◌||◌, Option, Some, None, List, ◌∷◌, drop, length, set, refl, sym, ap, ap₂, ◌∙◌, subst, arith, inl, inr, ◌⊎◌, true≢false}
use Rattle.std.specs.Prelude.{if◌then◌else◌}
use Rattle.std.specs.List.{list_any}
use Rattle.std.proofs.lemmas.Bool.{cases_eq}
use Rattle.std.proofs.lemmas.List.{length-set}
use Rattle.gq_base.specs.declared.NodeId.{NodeId}
use Rattle.gq_base.specs.declared.RelId.{RelId}
use Rattle.gq_law_plans.specs.Bindings.{bound}
use Rattle.gq_law_trails.specs.Walks.{end_of}
use Rattle.gq_plan.specs.declared.TrailPart.{TrailPart}
use Rattle.gq_plan.specs.Assignments.{is_node}
use Rattle.gq_plan.specs.Meaning.{Partial, keep_if, look}
use Rattle.gq_outer.specs.Rows.{Wide, item_at}
use Rattle.gq_trails.specs.Trekking.{placed_from}
use Rattle.gq_hops.specs.Walking.{Walking}
use Rattle.gq_trails.specs.steps.Ends.{may_end, settled}
use Rattle.gq_trails.specs.steps.Journeys.{AreWalkers, IsAt, IsFit, Journey, binds, bound_at, part_at, patterns_of, row_at, turn_at, walk_at}
use Rattle.gq_trails.specs.steps.Treks.{met_by}
use Rattle.gq_trails.proofs.Fitting.{agree_next, agree_still, cleared_settled, fit_next, met_is, not_bound, split_parts}
use Rattle.gq_trails.proofs.Journeying.{put_below, put_here, put_other, row_alike, row_new}

-- ---- a row in which a trail has bound its end

pub settled_rels : (p : TrailPart) (row : Wide) (n : NodeId) → (settled p row n).rels ≡ row.rels
settled_rels p row n = go p.both
  where
    go : (b : Bool) → (if b then row else record row { nodes = set row.nodes p.to (Some n) }).rels ≡ row.rels
    go true = refl
    go false = refl

pub settled_length : (p : TrailPart) (row : Wide) (n : NodeId) → length (settled p row n).nodes ≡ length row.nodes
settled_length p row n = go p.both
  where
    go : (b : Bool) → length (if b then row else record row { nodes = set row.nodes p.to (Some n) }).nodes ≡ length row.nodes
    go true = refl
    go false = length-set row.nodes p.to (Some n)

pub walkers_settled : (j : Journey) (ws : List Walking) (row : Wide) (i : ℕ) (n : NodeId) → i < length j.parts → AreWalkers j ws row → AreWalkers j ws (settled (part_at j.parts i) row n)
walkers_settled j ws row i n low are = record {
  count = are.count;
  courses = are.courses;
  ends = λ k less. subst (λ m. (part_at j.parts k).to < m) (sym (settled_length (part_at j.parts i) row n)) (are.ends k less);
  base = ap₂ (λ (os : List (Option NodeId)) (rs : List (Option RelId)). record { nodes = placed_from 0 os; rels = placed_from 0 rs })
      (cleared_settled j.parts row i n low) (settled_rels (part_at j.parts i) row n)
      ∙ are.base;
  rels = settled_rels (part_at j.parts i) row n ∙ are.rels;
  size = settled_length (part_at j.parts i) row n ∙ are.size;
}

-- ---- back to the trail before

pub at_back : (j : Journey) (ws : List Walking) (row : Wide) (n : ℕ) → n < length j.parts → IsAt j ws row (suc n) → IsAt j ws row n
unfolding row_at
at_back j ws row n low at = record {
  standing = λ i less. at.standing i (omega arith);
  fits = λ i most. at.fits i (omega arith);
  agrees = λ v free.
      let parted : list_any (binds v) (part_at j.parts n ∷ drop (suc n) j.parts) ≡ false = ap (list_any (binds v)) (sym (split_parts j.parts n low)) ∙ free in
      at.agrees v (later (binds v (part_at j.parts n)) (list_any (binds v) (drop (suc n) j.parts)) parted)
      ∙ looked v (part_at j.parts n).both (end_of j.graph (part_at j.parts n).way (look (row_at j ws n).nodes (part_at j.parts n).from) (walk_at ws n).rels)
      (one (binds v (part_at j.parts n)) (list_any (binds v) (drop (suc n) j.parts)) parted);
}
  where
    one : (b c : Bool) → (b || c) ≡ false → b ≡ false
    one true c e = e
    one false c e = refl

    later : (b c : Bool) → (b || c) ≡ false → c ≡ false
    later true c e = absurd (true≢false e)
    later false c e = e

    looked : (v : ℕ) (b : Bool) (o : Option NodeId) → (not b && nat_eq (part_at j.parts n).to v) ≡ false
        → look (if b then row_at j ws n else bound_at (part_at j.parts n).to o (row_at j ws n)).nodes v ≡ look (row_at j ws n).nodes v
    looked v true o e = refl
    looked v false None e = refl
    looked v false (Some m) e = ap (λ b. if b then Some m else look (row_at j ws n).nodes v) e

-- ---- a walk ends

module _ (j : Journey) (ws : List Walking) (row : Wide) (n : ℕ) (w : Walking) (low : n < length ws) (within : n < length j.parts) (at : IsAt j ws row n)
    (next : (walk_at ws n).owed ≡ w.rels ∷ w.owed) (end : NodeId)
    (ends : end_of j.graph (part_at j.parts n).way (look (row_at j ws n).nodes (part_at j.parts n).from) w.rels ≡ Some end) where
  abbrev p : TrailPart
  p = part_at j.parts n

  fit : IsFit j.graph (p ∷ drop (suc n) j.parts) (row_at j ws n)
  fit = subst (λ l. IsFit j.graph l (row_at j ws n)) (split_parts j.parts n within) (at.fits n (omega arith))

  known_there : p.both ≡ true → item_at row.nodes p.to ≡ look (row_at j ws n).nodes p.to
  known_there both = at.agrees p.to (not_bound (drop n j.parts) (bound (row_at j ws n).nodes) p.to (at.fits n (omega arith)).turns (fit.turns.1 ∙ both))

  -- whether it may end there, tells the rows at its end
  pub met_here : (may : Bool) → may ≡ may_end j.graph (part_at j.parts n) row end
      → met_by j.graph (patterns_of j) (turn_at j ws n) w.rels ≡ keep_if may (row_at j (set ws n w) (suc n))
  met_here may told =
      met_is j.graph p (row_at j ws n) w.rels end ends may row known_there told
      ∙ ap (keep_if may) (sym (row_new j ws n w low next))

  pub at_next : w.standing ≡ true → is_node j.graph end ≡ true → p.to < length row.nodes → IsAt j (set ws n w) (settled (part_at j.parts n) row end) (suc n)
  at_next stands there inside = record {
    standing = λ i less. standing_at i less (cases_eq i n);
    fits = λ i most. fits_at i most (cases_eq i (suc n));
    agrees = λ v free.
        agree_next j.graph p (row_at j ws n) w.rels end ends (drop (suc n) j.parts) row inside
        (λ u f. at.agrees u (ap (list_any (binds u)) (split_parts j.parts n within) ∙ f)) v free
        ∙ ap (λ (a : Partial). look a.nodes v) (sym (row_new j ws n w low next));
  }
    where
      standing_at : (i : ℕ) → i < suc n → (i ≡ n) ⊎ (i ≡ n → ⊥) → (walk_at (set ws n w) i).standing ≡ true
      standing_at i less (inl here) = ap (λ k. (walk_at (set ws n w) k).standing) here ∙ ap (λ (v : Walking). v.standing) (put_here ws n w low) ∙ stands
      standing_at i less (inr other) = ap (λ (v : Walking). v.standing) (put_other ws n w low i other) ∙ at.standing i (omega arith)

      fits_at : (i : ℕ) → i ≤ suc n → (i ≡ suc n) ⊎ (i ≡ suc n → ⊥) → IsFit j.graph (drop i j.parts) (row_at j (set ws n w) i)
      fits_at i most (inl here) =
          subst (λ k. IsFit j.graph (drop k j.parts) (row_at j (set ws n w) k)) (sym here)
          (subst (IsFit j.graph (drop (suc n) j.parts)) (sym (row_new j ws n w low next)) (fit_next j.graph p (row_at j ws n) w.rels end ends (drop (suc n) j.parts) fit there))
      fits_at i most (inr other) =
          subst (IsFit j.graph (drop i j.parts)) (sym (row_alike j (set ws n w) ws i (λ k less. put_below ws n w low k (omega arith)))) (at.fits i (omega arith))

  -- where it may not end there, nothing that is bound has changed
  pub at_still : IsAt j (set ws n w) row n → IsAt j (set ws n w) (settled (part_at j.parts n) row end) n
  at_still now = record {
    standing = now.standing;
    fits = now.fits;
    agrees = λ v free. agree_still p (drop (suc n) j.parts) row end v (ap (list_any (binds v)) (sym (split_parts j.parts n within)) ∙ free) ∙ now.agrees v free;
  }

-- The trails of a query at a base row.
use Rattle.std.proofs.Common.{◌≡◌, ℕ, zero, suc, ◌+◌, ◌<◌, ◌≤◌, ◌||◌, nat_eq, Bool, true, false, Option, Some, None, List, [], ◌∷◌, drop, length, refl, sym, ap, ◌∙◌, subst, arith, zero-add, inl, inr, ◌⊎◌, true≢false}
use Rattle.std.specs.Prelude.{if◌then◌else◌}
use Rattle.std.specs.List.{AllByRecursion, list_any}
use Rattle.std.proofs.lemmas.Bool.{cases_eq, eq-eqb, ne_eqb}
use Rattle.std.proofs.lemmas.List.{drop_all}
use Rattle.gq_base.specs.Plain.{Graph}
use Rattle.gq_base.specs.declared.NodeId.{NodeId}
use Rattle.gq_law_plans.specs.Bindings.{bound}
use Rattle.gq_law_trails.specs.Trails.{after_trails}
use Rattle.gq_plan.specs.declared.TrailPart.{TrailPart}
use Rattle.gq_plan.specs.Meaning.{Partial, look}
use Rattle.gq_outer.specs.Rows.{Wide, item_at}
use Rattle.gq_trails.specs.Trekking.{CanTrek, IsRowOf, Trekking, continuations, partial_of, placed_from}
use Rattle.gq_hops.specs.Walking.{Walking}
use Rattle.gq_trails.specs.steps.Journeys.{IsAt, IsFit, Journey, base_of, binds, bound_at, frames_at, journey_of, part_at, patterns_of, reached_at, row_at, walk_at}
use Rattle.gq_hops.specs.States.{is_standing}
use Rattle.gq_trails.specs.steps.Standing.{IsIn, IsOpen, IsTrekking, trekking_of}
use Rattle.gq_trails.specs.steps.Treks.{Frame, wrapped}
use Rattle.gq_law_trails.specs.Trails.{Trailing, with_list}
use Rattle.gq_law_trails.specs.Walks.{end_of}
use Rattle.gq_hops.specs.declared.state.State.{State}
use Rattle.gq_hops.specs.declared.state.State.TheVariants.{Fresh, Standing, Over}
use Rattle.gq_trails.specs.declared.trails.Trails.TheInside.{Inside}
use Rattle.gq_trails.specs.declared.trek.Route.{Route}
use Rattle.gq_trails.specs.declared.trek.Trek.{Trek}
use Rattle.gq_trails.proofs.Fitting.{cleared_none, look_placed}

pub look_none : {X : Type 0} (bs : List (ℕ × X)) (v : ℕ) → bound bs v ≡ false → look bs v ≡ None
look_none [] v e = refl
look_none (b ∷ bs) v e = go (nat_eq v b.0) (nat_eq b.0 v) (turn v b.0) e (look_none bs v)
  where
    turn : (m n : ℕ) → nat_eq m n ≡ nat_eq n m
    turn m n = swapped (cases_eq m n)
      where
        swapped : (m ≡ n) ⊎ (m ≡ n → ⊥) → nat_eq m n ≡ nat_eq n m
        swapped (inl same) = eq-eqb m n same ∙ sym (eq-eqb n m (sym same))
        swapped (inr other) = ne_eqb m n other ∙ sym (ne_eqb n m (λ same. other (sym same)))

    go : (c d : Bool) → c ≡ d → (c || bound bs v) ≡ false → (bound bs v ≡ false → look bs v ≡ None) → (if d then Some b.1 else look bs v) ≡ None
    go true d same e more = absurd (true≢false e)
    go false true same e more = absurd (true≢false (sym same))
    go false false same e more = more e

pub look_items : {X : Type 0} (os : List (Option X)) (v : ℕ) → look (placed_from 0 os) v ≡ item_at os v
look_items os v = ap (look (placed_from 0 os)) (sym (zero-add v)) ∙ look_placed os 0 v

pub base_is : (g : Graph) (parts : List TrailPart) (row : Wide) → CanTrek g parts row → base_of parts row ≡ partial_of row
base_is g parts row can =
    ap (λ os. record { nodes = placed_from 0 os; rels = placed_from 0 row.rels })
    (cleared_none parts (bound (partial_of row).nodes) row.nodes can.turns (λ v unknown. sym (look_items row.nodes v) ∙ look_none (partial_of row).nodes v unknown))

each_at : (P : TrailPart → Type 0) (parts : List TrailPart) (i : ℕ) → AllByRecursion P parts → i < length parts → P (part_at parts i)
each_at P [] i all low = absurd (omega arith)
each_at P (p ∷ ps) zero all low = all.0
each_at P (p ∷ ps) (suc i) all low = each_at P ps i all.1 (omega arith)

-- at a base row from which the trails can be walked, none has a walk
pub opens : (r : Route) (t : Trek) (base : Wide) → t.row ≡ base → CanTrek r.graph.now r.parts.now base → length r.parts.now + length r.rels.now ≤ 24 → IsOpen r t 0
unfolding row_at
opens r t base is can few = record {
  few = few;
  ends = λ i low. subst (λ (row : Wide). (part_at r.parts.now i).to < length row.nodes) (sym is) (each_at (λ (p : TrailPart). p.to < length base.nodes) r.parts.now i can.ends low);
  here = subst (λ (row : Wide). IsAt (journey_of r row) t.walkers.items row 0) (sym is) (record {
    standing = λ i low. absurd (omega arith);
    fits = λ i low. (let first : i ≡ 0 = omega arith in
        subst (λ k. IsFit r.graph.now (drop k r.parts.now) (row_at (journey_of r base) t.walkers.items k)) (sym first)
        (subst (λ (a : Partial). IsFit r.graph.now r.parts.now a) (sym (base_is r.graph.now r.parts.now base can)) (record { turns = can.turns; nodes = can.nodes })));
    agrees = λ v free. sym (look_items base.nodes v) ∙ ap (λ (a : Partial). look a.nodes v) (sym (base_is r.graph.now r.parts.now base can));
  });
}

pub owes : (r : Route) (base : Wide) → CanTrek r.graph.now r.parts.now base
    → after_trails r.graph.now (patterns_of (journey_of r base)) r.parts.now (journey_of r base).base [] ≡ continuations r.graph.now r.parts.now r.rels.now base
owes r base can = ap (λ a. after_trails r.graph.now (patterns_of (journey_of r base)) r.parts.now a []) (base_is r.graph.now r.parts.now base can)

-- ---- the row that was reached

wrapped_row : (fs : List Frame) (m : Trailing) → (wrapped fs m).row ≡ m.row
unfolding wrapped
wrapped_row [] m = refl
wrapped_row (f ∷ fs) m = wrapped_row fs (with_list f.rels m)

rels_bound : (j : Journey) (ws : List Walking) (n : ℕ) → (row_at j ws n).rels ≡ j.base.rels
unfolding row_at
rels_bound j ws zero = refl
rels_bound j ws (suc n) = go (part_at j.parts n).both (end_of j.graph (part_at j.parts n).way (look (row_at j ws n).nodes (part_at j.parts n).from) (walk_at ws n).rels) ∙ rels_bound j ws n
  where
    go : (b : Bool) (o : Option NodeId) → (if b then row_at j ws n else bound_at (part_at j.parts n).to o (row_at j ws n)).rels ≡ (row_at j ws n).rels
    go true o = refl
    go false None = refl
    go false (Some m) = refl

pub is_row : (r : Route) (t : Trek) → IsOpen r t (length r.parts.now) → IsRowOf (reached_at (journey_of r t.row) t.walkers.items (length r.parts.now)) t.row
is_row r t open_at =
    let j : Journey = journey_of r t.row in
    let same : (reached_at j t.walkers.items (length r.parts.now)).row ≡ row_at j t.walkers.items (length r.parts.now) = wrapped_row (frames_at j t.walkers.items (length r.parts.now)) (record { row = row_at j t.walkers.items (length r.parts.now); lists = [] }) in
    record {
      nodes = λ v. open_at.here.agrees v (ap (list_any (binds v)) (drop_all (length r.parts.now) r.parts.now (omega arith))) ∙ ap (λ (a : Partial). look a.nodes v) (sym same);
      rels = λ x. sym (look_items t.row.rels x) ∙ ap (λ bs. look bs x) (sym (rels_bound j t.walkers.items (length r.parts.now))) ∙ ap (λ (a : Partial). look a.rels x) (sym same);
    }

pub standing_open : (st : State) (r : Route) (t : Trek) → IsIn st r t → is_standing st ≡ true → IsOpen r t (length r.parts.now)
standing_open Fresh r t h e = absurd (cc e)
standing_open Standing r t h e = h
standing_open Over r t h e = absurd (cc e)

pub row_reached : (t : Inside) (m : Trekking) → trekking_of t ≡ m → IsTrekking t → m.standing ≡ true → IsRowOf m.reached t.trek.row
row_reached t m view ready stands =
    subst (λ (k : Trekking). IsRowOf k.reached t.trek.row) view
    (is_row t.route t.trek (standing_open t.state t.route t.trek ready.state (ap (λ (k : Trekking). k.standing) view ∙ stands)))

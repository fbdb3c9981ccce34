-- The turn of an alternative: what its pipeline hands out is what its plan means, and so it goes into the table; and what its
-- pipelines spend.
use Rattle.std.proofs.Common.{◌≡◌, ◌∙◌, ◌+◌, ℕ, true, false, Some, None, List, [], ◌∷◌, ◌++◌, length, map, Result, Err, Option, ap, refl, sym, subst, arith, inl, inr, true≢false}
use Rattle.std.specs.Prelude.{◌⊎◌, IsPermutation}
use Rattle.std.specs.List.{AllZip, list_all}
use Rattle.std.proofs.lemmas.Bool.{and_parts}
use Rattle.std.proofs.lemmas.List.{length-map}
use Rattle.std.proofs.lemmas.List.Sorted.{IsPermutation-sym, IsPermutation-trans, length_permutation}
use Rattle.gq_base.specs.Plain.{Graph}
use Rattle.gq_expr.specs.declared.Fault.{Fault}
use Rattle.gq_pipe.specs.Rest.{Rest}
use Rattle.gq_pipe.specs.Spending.{HasOneEach, HasSpent, HasSpentAll, runs_of, up_to_most}
use Rattle.gq_homes.specs.declared.spent.Spent.{Spent}
use Rattle.gq_plan.specs.Columns.{columns_of}
use Rattle.gq_plan.specs.Covers.{Covers}
use Rattle.gq_plan.specs.Flat.{is_flat}
use Rattle.gq_plan.specs.Meaning.{meaning, whole}
use Rattle.gq_plan.specs.Outcomes.{Row}
use Rattle.gq_plan.specs.Parts.{sides}
use Rattle.gq_plan.specs.Plans.{Plan, Done, Then, Scan, Extend, Close, Join, Keep, Differ, NoLoop, Single, Meet}
use Rattle.gq_plan.specs.declared.Bound.{Bound}
use Rattle.gq_plan.specs.declared.typed.Typed.{Typed}
use Rattle.gq_kept.specs.Answers.{cut_of}
use Rattle.gq_kept.specs.Tables.{Table, is_full, is_full_table}
use Rattle.gq_execute.specs.Planned.{IsPlanIn, Means, sizes}
use Rattle.gq_drain.specs.Taking.{Cut, HasRun, IsPlain, MeetsFault, MeetsMany, Takes, TakesAll}
use Rattle.gq_execute.specs.Spending.{IsTurn}
use Rattle.gq_execute.specs.steps.Answering.{Drains, Runs}
use Rattle.gq_execute.specs.Replies.{has_large_part}
use Rattle.gq_drain.specs.Becoming.{Becomes, outcomes_by, owed_outcomes}
use Rattle.gq_kept.specs.declared.refusal.RowRefusal.{RowRefusal}
use Rattle.gq_kept.specs.declared.refusal.RowRefusal.TheVariants as refusal
use Rattle.gq_execute.specs.Refusals.{of_rows}
use Rattle.gq_order.specs.declared.named.Order.{Order}
use Rattle.gq_drain.proofs.Drained.{outcomes_bag}

-- ---- what goes into the table

module _ (becomes : Becomes) (g : Graph) (order : Order) (y : Typed) (old new : Table) (p : Plan) (covers : Covers g.catalog y p) (light : has_large_part g order old.most y ≡ false) where
  abbrev started : Table
  started = record { bound = old.bound; most = old.most; alternative = Some y; graph = old.graph; held = old.held; pushed = old.pushed }

  abbrev os : List (Result Row Fault)
  os = outcomes_by becomes g old.bound y (meaning g y p)

  -- what is taken of the same outcomes in another order
  abbrev recut : (here : List (Result Row Fault)) → IsPermutation os here → Cut here → Cut os
  recut here same cut = record { pushed = cut.pushed; left = cut.left; bag = IsPermutation-trans _ _ _ same cut.bag }

  module _ (start : Table) (pipeline : Rest) (is : start ≡ started) (typed : pipeline.source.typed ≡ y) (owed : IsPermutation (map (whole y) pipeline.owed) (meaning g y p)) where
    -- a pipeline of this plan owes these outcomes
    owed_same : owed_outcomes becomes g start pipeline ≡ outcomes_by becomes g old.bound y (map (whole y) pipeline.owed)
    owed_same = ap (λ (t : Table). owed_outcomes becomes g t pipeline) is ∙ ap (λ z. outcomes_by becomes g old.bound z (map (whole z) pipeline.owed)) typed

    owed_bag : IsPermutation os (owed_outcomes becomes g start pipeline)
    owed_bag =
        subst (IsPermutation os) (sym owed_same)
        (outcomes_bag becomes g old.bound y (meaning g y p) (map (whole y) pipeline.owed) (IsPermutation-sym _ _ owed))

    -- what it hands out went into the table
    pub turned : Takes (owed_outcomes becomes g start pipeline) start new → Runs becomes g old.bound order old.most y (λ os. Takes os old new)
    turned takes =
        let t = subst (λ (s : Table). Takes (owed_outcomes becomes g start pipeline) s new) is takes in
        record {
          plan = p;
          covers = covers;
          light = light;
          meets = record { cut = recut (owed_outcomes becomes g start pipeline) owed_bag t.cut; alike = record { bound = t.alike.bound; most = t.alike.most }; stands = t.stands; done = t.done };
        }

    -- or it was stopped
    pub turn_stops : (e : RowRefusal) → TakesAll (owed_outcomes becomes g start pipeline) start new (Err e) → Drains becomes g old.bound order y old new (Err (of_rows e))
    turn_stops (refusal.Fault f) takes =
        let t = subst (λ (s : Table). MeetsFault (owed_outcomes becomes g start pipeline) s f) is takes in
        record { plan = p; covers = covers; light = light; meets = record { cut = recut (owed_outcomes becomes g start pipeline) owed_bag t.cut; seen = t.seen } }
    turn_stops (refusal.TooManyRows most) takes =
        let t = subst (λ (s : Table). MeetsMany (owed_outcomes becomes g start pipeline) s) is takes.1 in
        (takes.0 ∙ ap (λ (s : Table). s.most) is, inr (record { plan = p; covers = covers; light = light; meets = record { cut = recut (owed_outcomes becomes g start pipeline) owed_bag t.cut; many = t.many } }))
    turn_stops (refusal.Memory why) takes = tt

-- ---- what is spent

-- side plans without joins run one after another
flat_runs : (p : Plan) → is_flat p ≡ true → runs_of p ≡ []
unfolding runs_of
flat_runs Done h = refl
flat_runs (Then (Scan v) p) h = flat_runs p h
flat_runs (Then (Extend column x from to way) p) h = flat_runs p h
flat_runs (Then (Close column x from to way) p) h = flat_runs p h
flat_runs (Then (Join side keys) p) h = absurd (true≢false (sym h))
flat_runs (Then (Keep i) p) h = flat_runs p h
flat_runs (Then (Differ i) p) h = flat_runs p h
flat_runs (Then (NoLoop x) p) h = flat_runs p h
flat_runs (Then (Single x from to way) p) h = flat_runs p h
flat_runs (Then (Meet x from to way) p) h = flat_runs p h

pub runs_sides : (p : Plan) → list_all is_flat (sides p) ≡ true → runs_of p ≡ sides p
unfolding runs_of sides
runs_sides Done h = refl
runs_sides (Then (Scan v) p) h = runs_sides p h
runs_sides (Then (Extend column x from to way) p) h = runs_sides p h
runs_sides (Then (Close column x from to way) p) h = runs_sides p h
runs_sides (Then (Join side keys) p) h =
    let parts = and_parts (is_flat side) (list_all is_flat (sides p)) h in
    ap (λ l. (l ++ side ∷ []) ++ runs_of p) (flat_runs side parts.0) ∙ ap (λ l. side ∷ l) (runs_sides p parts.1)
runs_sides (Then (Keep i) p) h = runs_sides p h
runs_sides (Then (Differ i) p) h = runs_sides p h
runs_sides (Then (NoLoop x) p) h = runs_sides p h
runs_sides (Then (Single x from to way) p) h = runs_sides p h
runs_sides (Then (Meet x from to way) p) h = runs_sides p h

nothing_owed : {X : Type 0} (xs : List X) → length xs ≡ 0 → xs ≡ []
nothing_owed [] h = refl
nothing_owed (x ∷ xs) h = absurd (omega (arith, h))

module _ (g : Graph) (y : Typed) (p : Plan) (old new : Table) (begun now : Rest) (own : Spent) (owed : IsPermutation (map (whole y) begun.owed) (meaning g y p))
    (each : (s : Spent) → s.chunks ≡ up_to_most (length begun.keys) → HasOneEach g y p s) (columns : begun.columns ≡ columns_of y p) (run : HasRun old new begun now) (same : now.columns ≡ begun.columns)
    (has_chunks : own.chunks ≡ now.chunks) (has_columns : own.columns ≡ now.columns) where
  counted : own.chunks ≡ up_to_most run.count
  counted = has_chunks ∙ run.chunks

  pub own_spent : HasSpent g y p own
  own_spent = record {
    columns = has_columns ∙ same ∙ columns;
    most = omega (arith, counted, run.most, length_permutation _ _ owed, length-map begun.owed (whole y));
    none = λ e.
        let zero : run.count ≡ 0 = omega (arith, counted, e) in
        nothing_owed (meaning g y p) (omega (arith, ap length (run.none zero), length_permutation _ _ owed, length-map begun.owed (whole y)));
  }

  -- all that is owed is handed out where the table never is full
  pub own_keys : cut_of new.bound ≡ None → HasOneEach g y p own
  own_keys uncut = each own (go run.keys)
    where
      go : (is_full_table new ≡ true) ⊎ (run.count ≡ length begun.keys) → own.chunks ≡ up_to_most (length begun.keys)
      go (inl full) = absurd (true≢false (sym full ∙ ap (λ c. is_full c new.held) uncut))
      go (inr all) = counted ∙ ap up_to_most all

  -- the table counts its chunks, where the query is plain
  pub own_counted : IsPlain old.bound → (before : ℕ) → old.pushed ≡ up_to_most before → new.pushed ≡ up_to_most (before + own.chunks)
  own_counted plain before h =
      let e : up_to_most (before + run.count) ≡ up_to_most (before + own.chunks) = omega (arith, counted) in
      run.pushed plain before h ∙ e

-- the turn of an alternative, whose plan has side plans without joins
pub turn_spent : (g : Graph) (b : Bound) (order : Order) (y : Typed) (p : Plan) (costs : List (Option ℕ)) (ss : List Spent) (own : Spent) → IsPlanIn order g.catalog (sizes g) y p costs
    → Covers g.catalog y p → Means g y p → list_all is_flat (sides p) ≡ true → AllZip (HasSpentAll g y) (runs_of p) ss → HasSpent g y p own → (cut_of b ≡ None → HasOneEach g y p own)
    → IsTurn g b order y (record { sides = ss; own = own })
turn_spent g b order y p costs ss own planned covers means alone spent own_is one_each = record {
  plan = p;
  costs = costs;
  planned = planned;
  covers = covers;
  means = means;
  sides = subst (λ l. AllZip (HasSpentAll g y) l ss) (runs_sides p alone) spent;
  own = own_is;
  one_each = one_each;
}

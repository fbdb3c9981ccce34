-- A try of a step on rows and load numbers that have what the step binds leaves them as they are.
use Rattle.std.proofs.Common.{◌≡◌, ◌⊎◌, inl, inr, ℕ, ◌+◌, ◌^◌, ◌<◌, ◌≤◌, Bool, true, false, Some, List, [], ◌∷◌, length, refl, sym, ap, ap₂, ◌∙◌, arith}
use Rattle.std.specs.Prelude.{slice_get, slice_index, slice_set}
use Rattle.std.specs.List.{AllByRecursion}
use Rattle.std.proofs.lemmas.Bool.{cases_eq, cases_lt}
use Rattle.std.proofs.lemmas.List.{set-get_or}
use Rattle.std.proofs.lemmas.Option.{slice_get-get_or, slice_get_within}
use Rattle.gq_base.specs.Valid.{row_count}
use Rattle.gq_base.specs.declared.direction.Direction.{Direction}
use Rattle.gq_join.specs.Kept.{Held, matches_of, node_in, rel_in}
use Rattle.gq_plan.specs.Plans.{Plan, Scan, Extend, Close, Join, Keep, Differ, NoLoop, Single, Meet}
use Rattle.gq_plan.specs.Rows.{node_table, rel_table}
use Rattle.gq_plan.specs.declared.assignment.Assignment.{Assignment}
use Rattle.gq_store.proofs.Reading.{neighbours_below}
use Rattle.gq_store.specs.Neighbours.{neighbours, numbers}
use Rattle.gq_steps.specs.steps.Hops.{IsHop}
use Rattle.gq_steps.specs.Levels.{Run, step_at, known}
use Rattle.gq_steps.specs.Moves.{IsRun, IsHeld, IsTried}
use Rattle.gq_steps.specs.steps.Outcomes.{set_all, with_kept, with_row, with_number}
use Rattle.gq_steps.specs.declared.plan_run.Tried.{Tried}
use Rattle.gq_steps.specs.declared.plan_run.Tried.TheVariants.{Past, Missed, Made}
use Rattle.gq_steps.proofs.Followed.{as_many}
use Rattle.gq_steps.proofs.Joined.{h, join_tried}
use Rattle.gq_steps.proofs.Stepping.{Follows, follows}
use Rattle.gq_steps.proofs.Testing.{keep_tried, differ_tried, no_loop_tried}
use Rattle.gq_steps.proofs.Trying.{scan_tried, extend_tried, extend_goes, close_tried, close_goes, single_goes, single_tried, meet_goes, meet_tried}

-- what is written there already
row_again : (a : Assignment) (v r : ℕ) → slice_index a.nodes v ≡ r → a ≡ with_row v r a
row_again a v r e = ap (λ l. record { nodes = l; rels = a.rels }) (sym (ap (slice_set a.nodes v) (sym e) ∙ set-get_or a.nodes v 0))

number_again : (a : Assignment) (x n : ℕ) → slice_index a.rels x ≡ n → a ≡ with_number x n a
number_again a x n e = ap (λ l. record { nodes = a.nodes; rels = l }) (sym (ap (slice_set a.rels x) (sym e) ∙ set-get_or a.rels x 0))

set_all_again : (vs : List ℕ) (f : ℕ → ℕ) (xs : List ℕ) → AllByRecursion (λ v. slice_index xs v ≡ f v) vs → set_all vs f xs ≡ xs
set_all_again [] f xs h = refl
set_all_again (v ∷ vs) f xs h = ap (set_all vs f) (ap (slice_set xs v) (sym h.0) ∙ set-get_or xs v 0) ∙ set_all_again vs f xs h.1

kept_again : (h : Held) (i : ℕ) (a : Assignment) → AllByRecursion (λ v. slice_index a.nodes v ≡ node_in h v i) h.nodes → AllByRecursion (λ x. slice_index a.rels x ≡ rel_in h x i) h.rels → a ≡ with_kept h i a
kept_again h i a nodes rels =
    sym (ap₂ (λ (ns rs : List ℕ). record { nodes = ns; rels = rs }) (set_all_again h.nodes (λ v. node_in h v i) a.nodes nodes) (set_all_again h.rels (λ x. rel_in h x i) a.rels rels))

-- the relationship that is followed at a place
module _ (c : Run) (run : IsRun c) (x from to : ℕ) (way : Direction) (f : Follows c x from to way) (row place : ℕ) (low : place < length (neighbours c.graph (rel_table c.typed x) way row)) (few : place + 1 < 2 ^ 32) where
  abbrev table : ℕ
  table = rel_table c.typed x

  pub hop_there : IsHop c.graph table way row place (record { number = slice_index (numbers c.graph table way row) place; row = slice_index (neighbours c.graph table way row) place })
  hop_there =
      let within : table < length c.graph.catalog.rels = slice_get_within c.graph.catalog.rels table f.table f.table_is in
      record {
        number = slice_get-get_or (numbers c.graph table way row) place 0 (omega (arith, low, as_many c.graph table f.table f.table_is way row));
        leads = slice_get-get_or (neighbours c.graph table way row) place 0 low;
        inside = neighbours_below c.graph table row way run.valid within place 0 low;
        few = few;
      }

-- a try that leaves rows and load numbers as they are
pub record TriesItself (c : Run) (d place : ℕ) (row : Assignment) : Type 0 where
  pub told : Tried
  pub tried : IsTried c d place row row told

module _ (c : Run) (run : IsRun c) (d : ℕ) (low : d < length c.steps) (row : Assignment) (held : IsHeld c row (known c d)) where
  pub scan_itself : (v place : ℕ) → step_at c d ≡ Scan v → place < row_count c.graph.nodes (node_table c.typed v) → place + 1 < 2 ^ 32 → slice_index row.nodes v ≡ place → TriesItself c d place row
  scan_itself v place is inside few here = record { told = Made; tried = scan_tried c run d low row held v place row Made is (row_again row v place here, inside, few) }

  module _ (column : Bool) (x from to : ℕ) (way : Direction) (place : ℕ) (few : place + 1 < 2 ^ 32) where
    abbrev near : ℕ
    near = slice_index row.nodes from

    abbrev table_of : ℕ
    table_of = rel_table c.typed x

    pub extend_itself : step_at c d ≡ Extend column x from to way
        → (place < length (neighbours c.graph (rel_table c.typed x) way (slice_index row.nodes from)) → slice_index row.nodes to ≡ slice_index (neighbours c.graph (rel_table c.typed x) way (slice_index row.nodes from)) place)
        → (place < length (neighbours c.graph (rel_table c.typed x) way (slice_index row.nodes from)) → slice_index row.rels x ≡ slice_index (numbers c.graph (rel_table c.typed x) way (slice_index row.nodes from)) place)
        → TriesItself c d place row
    extend_itself is node_is rel_is = go (cases_lt place (length (neighbours c.graph table_of way near)))
      where
        f : Follows c x from to way
        f = follows c run column x from to way (extend_goes c run d low row held column x from to way is)

        go : (place < length (neighbours c.graph table_of way near)) ⊎ (length (neighbours c.graph table_of way near) ≤ place) → TriesItself c d place row
        go (inl inside) =
            let h = hop_there c run x from to way f near place inside few in
            let same : row ≡ with_number x (slice_index (numbers c.graph table_of way near) place) (with_row to (slice_index (neighbours c.graph table_of way near) place) row) =
            row_again row to _ (node_is inside) ∙ ap (λ l. record { nodes = slice_set row.nodes to (slice_index (neighbours c.graph table_of way near) place); rels = l }) (ap (λ (a : Assignment). a.rels) (number_again row x _ (rel_is inside))) in
            record { told = Made; tried = extend_tried c run d low row held column x from to way is place row Made (_, h, same) }
        go (inr past) = record { told = Past; tried = extend_tried c run d low row held column x from to way is place row Past (refl, past) }

    pub close_itself : step_at c d ≡ Close column x from to way
        → (place < length (neighbours c.graph (rel_table c.typed x) way (slice_index row.nodes from)) → slice_index row.rels x ≡ slice_index (numbers c.graph (rel_table c.typed x) way (slice_index row.nodes from)) place)
        → TriesItself c d place row
    close_itself is rel_is = go (cases_lt place (length (neighbours c.graph table_of way near)))
      where
        f : Follows c x from to way
        f = follows c run column x from to way (close_goes c run d low row held column x from to way is)

        meets : (place < length (neighbours c.graph table_of way near)) → (slice_index (neighbours c.graph table_of way near) place ≡ slice_index row.nodes to) ⊎ (slice_index (neighbours c.graph table_of way near) place ≡ slice_index row.nodes to → ⊥) → TriesItself c d place row
        meets inside (inl same) =
            let h = hop_there c run x from to way f near place inside few in
            record { told = Made; tried = close_tried c run d low row held column x from to way is place row Made (_, h, same, number_again row x _ (rel_is inside)) }
        meets inside (inr other) =
            let h = hop_there c run x from to way f near place inside few in
            record { told = Missed; tried = close_tried c run d low row held column x from to way is place row Missed (_, h, other, refl) }

        go : (place < length (neighbours c.graph table_of way near)) ⊎ (length (neighbours c.graph table_of way near) ≤ place) → TriesItself c d place row
        go (inl inside) = meets inside (cases_eq (slice_index (neighbours c.graph table_of way near) place) (slice_index row.nodes to))
        go (inr past) = record { told = Past; tried = close_tried c run d low row held column x from to way is place row Past (refl, past) }

  -- the halves of a column close

  module _ (x from to : ℕ) (way : Direction) (place : ℕ) (few : place + 1 < 2 ^ 32) where
    pub single_itself : step_at c d ≡ Single x from to way
        → (place < length (neighbours c.graph (rel_table c.typed x) way (slice_index row.nodes from)) → slice_index row.rels x ≡ slice_index (numbers c.graph (rel_table c.typed x) way (slice_index row.nodes from)) place)
        → TriesItself c d place row
    single_itself is rel_is = go (cases_lt place (length (neighbours c.graph (rel_table c.typed x) way (slice_index row.nodes from))))
      where
        f : Follows c x from to way
        f = follows c run true x from to way (single_goes c run d low row held x from to way is)

        go : (place < length (neighbours c.graph (rel_table c.typed x) way (slice_index row.nodes from))) ⊎ (length (neighbours c.graph (rel_table c.typed x) way (slice_index row.nodes from)) ≤ place) → TriesItself c d place row
        go (inl inside) =
            let h = hop_there c run x from to way f (slice_index row.nodes from) place inside few in
            record { told = Made; tried = single_tried c run d low row held x from to way is place row Made (_, h, number_again row x _ (rel_is inside)) }
        go (inr past) = record { told = Past; tried = single_tried c run d low row held x from to way is place row Past (refl, past) }

  module _ (x from to : ℕ) (way : Direction) (is : step_at c d ≡ Meet x from to way) (place : ℕ) where
    pub meet_itself : TriesItself c d place row
    meet_itself = go (cases_lt 0 (length (neighbours c.graph (rel_table c.typed x) way (slice_index row.nodes from))))
      where
        f : Follows c x from to way
        f = follows c run true x from to way (meet_goes c run d low row held x from to way is)

        go : (0 < length (neighbours c.graph (rel_table c.typed x) way (slice_index row.nodes from))) ⊎ (length (neighbours c.graph (rel_table c.typed x) way (slice_index row.nodes from)) ≤ 0) → TriesItself c d place row
        go (inl inside) = record { told = _; tried = meet_tried c run d low row held x from to way is place _ (inr (_, hop_there c run x from to way f (slice_index row.nodes from) 0 inside (omega arith), refl)) }
        go (inr past) = record { told = _; tried = meet_tried c run d low row held x from to way is place false (inl (past, refl)) }

  pub keep_itself : (i : ℕ) → step_at c d ≡ Keep i → (place : ℕ) → TriesItself c d place row
  keep_itself i is place = record { told = _; tried = keep_tried c run d low row held i is place }

  pub differ_itself : (p : ℕ) → step_at c d ≡ Differ p → (place : ℕ) → TriesItself c d place row
  differ_itself p is place = record { told = _; tried = differ_tried c run d low row held p is place }

  pub no_loop_itself : (x : ℕ) → step_at c d ≡ NoLoop x → (place : ℕ) → TriesItself c d place row
  no_loop_itself x is place = record { told = _; tried = no_loop_tried c run d low row held x is place }

  -- what a build keeps in a row that matches
  module _ (side : Plan) (keys : List ℕ) (is : step_at c d ≡ Join side keys) where
    abbrev pub joined : Held
    joined = h c run d low row held side keys is

    pub join_itself : (place i : ℕ) → place + 1 < 2 ^ 32 → slice_get (matches_of joined row) place ≡ Some i → AllByRecursion (λ v. slice_index row.nodes v ≡ node_in joined v i) joined.nodes
        → AllByRecursion (λ x. slice_index row.rels x ≡ rel_in joined x i) joined.rels → TriesItself c d place row
    join_itself place i few match nodes rels = record {
      told = Made;
      tried = join_tried c run d low row held side keys is place row Made (record { row = i; is = match; written = kept_again joined i row nodes rels; few = few });
    }
